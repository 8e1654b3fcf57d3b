-- Lists of record numbers.
use Rattle.std.specs.Prelude.{◌≡◌, ℕ, ◌+◌, ◌<◌, ◌≤◌, cond, List, [], ◌∷◌, None, Option, slice_get, ◌==◌}

-- how often k is in the list
abbrev pub times : ℕ → List ℕ → ℕ
times k [] = 0
times k (x ∷ xs) = cond (x == k) 1 0 + times k xs

-- k is in the list
abbrev pub In : ℕ → List ℕ → Type 0
In k xs = 0 < times k xs

-- k is not in the list
abbrev pub NotIn : ℕ → List ℕ → Type 0
NotIn k xs = times k xs ≡ 0

-- no number is in the list twice
abbrev pub Distinct : List ℕ → Type 0
Distinct xs = (k : ℕ) → times k xs ≤ 1

-- no number is in both lists
abbrev pub Disjoint : List ℕ → List ℕ → Type 0
Disjoint xs ys = (k : ℕ) → In k xs → NotIn k ys

-- the list without its first k; the others keep their order
abbrev pub without : ℕ → List ℕ → List ℕ
without k [] = []
without k (x ∷ xs) = cond (x == k) xs (x ∷ without k xs)

-- the number right behind the first k, or none
abbrev pub following : ℕ → List ℕ → Option ℕ
following k [] = None
following k (x ∷ xs) = cond (x == k) (slice_get xs 0) (following k xs)
