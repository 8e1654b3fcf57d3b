-- Links between records, by their numbers. The place None is the list itself: its first record comes after it, and its last record before it.
use Rattle.std.specs.Prelude.{◌≡◌, ℕ, zero, suc, List, [], ◌∷◌, Some, None, Option, slice_index_or}

-- the link at a place: that of a record, or the end that the list has there
abbrev pub link_at : List (Option ℕ) → Option ℕ → Option ℕ → Option ℕ
link_at links end None = end
link_at links end (Some k) = slice_index_or links k None

-- Between the places a and b stand just the records xs: next leads from each place to the one behind it, and prev back.
abbrev pub Between : (Option ℕ → Option ℕ) → (Option ℕ → Option ℕ) → Option ℕ → List ℕ → Option ℕ → Type 0
Between next prev a [] b = (next a ≡ b) × (prev b ≡ a)
Between next prev a (x ∷ xs) b = (next a ≡ Some x) × (prev (Some x) ≡ a) × Between next prev (Some x) xs b

-- the numbers that the links lead through from `from` on, at most `count`
abbrev pub walk : List (Option ℕ) → Option ℕ → ℕ → List ℕ
walk nexts from zero = []
walk nexts None (suc count) = []
walk nexts (Some k) (suc count) = k ∷ walk nexts (slice_index_or nexts k None) count
