-- What each operation does: to the list, to its records, to all other records and to all other lists.
use Rattle.std.specs.Prelude.{◌≡◌, ℕ, List, [], ◌∷◌, ◌++◌, map, Some, None, Option, MatchOption, slice_index_or, option_to_list, slice_get}
use Rattle.list.specs.declared.linked_list.LinkedList.{LinkedList}
use Rattle.list.specs.Numbers.{NotIn, Disjoint, without}
use Rattle.list.specs.Lists.{members, Sound}

-- every record but those of the given numbers is equal to what it was
abbrev pub Untouched : {N : Type 0} → List N → List N → List ℕ → Type 0
Untouched {N} ns ns' ks = (k : ℕ) (d : N) → NotIn k ks → slice_index_or ns' k d ≡ slice_index_or ns k d

-- the record i is what it was with its links taken off
abbrev pub LetGo : {N : Type 0} → (N → N) → List N → List N → ℕ → Type 0
LetGo {N} bare ns ns' i = (d : N) → slice_index_or ns' i d ≡ bare (slice_index_or ns i d)

-- a record, if there is one, and its neighbours
abbrev pub around : {N : Type 0} → (N → Option ℕ) → (N → Option ℕ) → List N → Option ℕ → List ℕ
around after before ns None = []
around after before ns (Some i) = i ∷ (option_to_list (slice_index_or (map before ns) i None) ++ option_to_list (slice_index_or (map after ns) i None))

-- The records ns are now ns', and the list `list` is now list'.
module _ {N : Type 0} (after before : N → Option ℕ) (bare : N → N) (ns ns' : List N) where
  -- What is left alone where only the links of the records `touched` were written, which are among `own`.
  pub record Leaves (own touched : List ℕ) : Type 0 where
    -- every record keeps all but its links
    pub fields : map bare ns' ≡ map bare ns
    -- a record that was not touched is equal to what it was
    pub far : Untouched ns ns' touched
    -- any other list, if it has no record of `own`, stays sound and keeps its members
    pub others : (o : LinkedList) → Sound after before ns o → Disjoint (members after ns o) own → Sound after before ns' o × (members after ns' o ≡ members after ns o)

  -- The record i was put at the end of the list.
  pub record Pushed (list list' : LinkedList) (i : ℕ) : Type 0 where
    pub sound : Sound after before ns' list'
    pub holds : members after ns' list' ≡ members after ns list ++ i ∷ []
    pub leaves : Leaves (i ∷ members after ns list) (i ∷ option_to_list list.back)

  -- The record i was let go; the others keep their order.
  pub record Removed (list list' : LinkedList) (i : ℕ) : Type 0 where
    pub sound : Sound after before ns' list'
    pub holds : members after ns' list' ≡ without i (members after ns list)
    pub alone : LetGo bare ns ns' i
    pub leaves : Leaves (members after ns list) (around after before ns (Some i))

  -- The first record was let go, and r is its number; or there was none, and nothing has changed.
  pub record Popped (list list' : LinkedList) (r : Option ℕ) : Type 0 where
    pub front : r ≡ slice_get (members after ns list) 0
    pub sound : Sound after before ns' list'
    pub holds : members after ns list ≡ option_to_list r ++ members after ns' list'
    pub alone : MatchOption r ((ns' ≡ ns) × (list' ≡ list)) (LetGo bare ns ns')
    pub leaves : Leaves (members after ns list) (around after before ns r)
