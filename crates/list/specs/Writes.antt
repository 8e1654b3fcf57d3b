-- What the writes of links inside an operation leave in the records and in the list.
use Rattle.std.specs.Prelude.{◌≡◌, ◌≢◌, ℕ, List, [], ◌∷◌, ◌++◌, map, None, Some, Option, option_to_list, slice_index_or}
use Rattle.list.specs.declared.linked_list.LinkedList.{LinkedList}
use Rattle.list.specs.Links.{link_at}
use Rattle.list.specs.Changes.{Untouched}

-- After the place a now comes b, and before the place b comes a; all other links are as they were.
pub record Joined {N : Type 0} (after before : N → Option ℕ) (bare : N → N) (ns ns' : List N) (list list' : LinkedList) (a b : Option ℕ) : Type 0 where
  pub next : link_at (map after ns') list'.front a ≡ b
  pub prev : link_at (map before ns') list'.back b ≡ a
  pub nexts : (q : Option ℕ) → q ≢ a → link_at (map after ns') list'.front q ≡ link_at (map after ns) list.front q
  pub prevs : (q : Option ℕ) → q ≢ b → link_at (map before ns') list'.back q ≡ link_at (map before ns) list.back q
  pub count : list'.count ≡ list.count
  pub fields : map bare ns' ≡ map bare ns
  pub far : Untouched ns ns' (option_to_list a ++ option_to_list b)

-- The record i has no links now; all other links are as they were.
pub record Unlinked {N : Type 0} (after before : N → Option ℕ) (bare : N → N) (ns ns' : List N) (i : ℕ) : Type 0 where
  pub next : slice_index_or (map after ns') i None ≡ None
  pub prev : slice_index_or (map before ns') i None ≡ None
  pub nexts : (end q : Option ℕ) → q ≢ Some i → link_at (map after ns') end q ≡ link_at (map after ns) end q
  pub prevs : (end q : Option ℕ) → q ≢ Some i → link_at (map before ns') end q ≡ link_at (map before ns) end q
  pub fields : map bare ns' ≡ map bare ns
  pub far : Untouched ns ns' (i ∷ [])
