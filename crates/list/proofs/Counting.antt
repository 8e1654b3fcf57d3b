-- How often a number is in a list.
use Rattle.std.proofs.Common.{◌≡◌, ℕ, ◌+◌, ◌<◌, ◌≤◌, cond, eqb, ◌⊎◌, List, [], ◌∷◌, ◌++◌, Some, None, Option, ap, inl, inr, arith}
use Rattle.std.specs.List.{slice_get}
use Rattle.std.specs.Option.{option_to_list, IfSome}
use Rattle.std.proofs.lemmas.Bool.{cases_eq, eq-eqb, ne_eqb}
use Rattle.list.specs.Numbers.{times, In, NotIn, Distinct}

-- one number is another or not
pub one : (x k : ℕ) → ((x ≡ k) × (◌≡◌ {A = ℕ} (cond (eqb x k) 1 0) 1)) ⊎ ((x ≡ k → ⊥) × (◌≡◌ {A = ℕ} (cond (eqb x k) 1 0) 0))
one x k =
    elim (cases_eq x k) [
      | inl e ↦ inl (e, ap (λ b. cond {A = ℕ} b 1 0) (eq-eqb x k e))
      | inr ne ↦ inr (ne, ap (λ b. cond {A = ℕ} b 1 0) (ne_eqb x k ne))
    ]

pub times_append : (k : ℕ) (xs ys : List ℕ) → times k (xs ++ ys) ≡ times k xs + times k ys
times_append k [] ys = omega arith
times_append k (x ∷ xs) ys = omega (arith, times_append k xs ys)

-- the first number is in the list
pub in_first : (x : ℕ) (xs : List ℕ) → In x (x ∷ xs)
in_first x xs = omega (arith, one x x)

-- a number that is not in the list is not its first
pub not_first : (k x : ℕ) (xs : List ℕ) → NotIn k (x ∷ xs) → k ≡ x → ⊥
not_first k x xs h e = omega (arith, one x k)

-- None is no number
pub not_none : (k : ℕ) → ◌≡◌ {A = Option ℕ} None (Some k) → ⊥
not_none k e = let z : ◌≡◌ {A = ℕ} 0 1 = cc in omega arith

-- a place is not the record k if k is not there
pub apart : (q : Option ℕ) (k : ℕ) → NotIn k (option_to_list q) → q ≡ Some k → ⊥
apart None k h e = not_none k e
apart (Some j) k h e = not_first k j [] h (cc)

-- the last number, or q where the list is empty
abbrev pub last_or : Option ℕ → List ℕ → Option ℕ
last_or q [] = q
last_or q (x ∷ xs) = last_or (Some x) xs

-- the first and the last number are in the list
pub times_first : (k : ℕ) (xs : List ℕ) → times k (option_to_list (slice_get xs 0)) ≤ times k xs
times_first k [] = omega arith
times_first k (x ∷ xs) = omega arith

pub times_last : (k : ℕ) (q : Option ℕ) (xs : List ℕ) → times k (option_to_list (last_or q xs)) ≤ times k (option_to_list q) + times k xs
times_last k q [] = omega arith
times_last k q (x ∷ xs) = omega (arith, times_last k (Some x) xs)

-- a place that is not among the records is not the last of them
pub apart_last : (q : Option ℕ) (x : ℕ) (xs : List ℕ) → ((k : ℕ) → times k (option_to_list q) + times k (x ∷ xs) ≤ 1) → q ≡ last_or (Some x) xs → ⊥
apart_last q x [] d = apart q x (omega (arith, d x, in_first x []))
apart_last q x (y ∷ ys) d = apart_last q y ys (λ k. omega (arith, d k))

-- distinct numbers and one more that is not among them are distinct
pub joint : (i : ℕ) (xs : List ℕ) → NotIn i xs → Distinct xs → (k : ℕ) → times k xs + times k (i ∷ []) ≤ 1
joint i xs new d k = elim (one i k) [ inl e ↦ omega (arith, e.1, ap (λ j. times j xs) e.0) | inr ne ↦ omega (arith, ne.1, d k) ]

-- a place that is among numbers below n is within n
pub within : (q : Option ℕ) (xs : List ℕ) (n : ℕ) → ((k : ℕ) → times k (option_to_list q) ≤ times k xs) → ((k : ℕ) → In k xs → k < n) → IfSome q (λ k. k < n)
within None xs n le below = tt
within (Some j) xs n le below = below j (omega (arith, le j, in_first j []))
