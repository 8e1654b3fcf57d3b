-- A record that goes from the front of one list to the end of another.
use Rattle.std.specs.Prelude.{◌≡◌, ℕ, List, ◌++◌, Option, option_to_list, slice_get}
use Rattle.list.specs.declared.linked_list.LinkedList.{LinkedList}
use Rattle.list.specs.Numbers.{Disjoint}
use Rattle.list.specs.Lists.{members, Sound}
use Rattle.list.specs.Changes.{Leaves}

-- The first record of a list was put at the end of another, and r is its number; r is none where there was none.
pub record Moved {N : Type 0} (after before : N → Option ℕ) (bare : N → N) (ns ns' : List N) (from from' to to' : LinkedList) (r : Option ℕ) : Type 0 where
  pub front : r ≡ slice_get (members after ns from) 0
  pub from_sound : Sound after before ns' from'
  pub from_holds : members after ns from ≡ option_to_list r ++ members after ns' from'
  pub to_sound : Sound after before ns' to'
  pub to_holds : members after ns' to' ≡ members after ns to ++ option_to_list r
  pub apart : Disjoint (members after ns' from') (members after ns' to')
  -- other records, other lists, and all but the links of these are as they were
  pub leaves : Leaves after before bare ns ns' (members after ns from ++ members after ns to) (members after ns from ++ members after ns to)
