-- What a list holds, and when it is sound. Of a record, `after` and `before` tell its links.
use Rattle.std.specs.Prelude.{◌≡◌, ℕ, ◌<◌, List, map, length, None, Option}
use Rattle.list.specs.declared.linked_list.LinkedList.{LinkedList}
use Rattle.list.specs.Numbers.{In, Distinct, following}
use Rattle.list.specs.Links.{link_at, Between, walk}

-- a list that holds no record
abbrev pub empty : LinkedList
empty = record { front = None; back = None; count = 0 }

-- The list holds just the records xs, in this order.
pub record Holds (nexts prevs : List (Option ℕ)) (list : LinkedList) (xs : List ℕ) : Type 0 where
  -- from the list to its first record, from each record to the next and from the last to the list, the links lead on and back
  pub linked : Between (link_at nexts list.front) (link_at prevs list.back) None xs None
  pub count : list.count ≡ length xs
  -- they are records of the slice
  pub inside : (k : ℕ) → In k xs → k < length nexts
  pub distinct : Distinct xs

-- the numbers of the records that a list holds, from its front on
abbrev pub members : {N : Type 0} → (N → Option ℕ) → List N → LinkedList → List ℕ
members after ns list = walk (map after ns) list.front list.count

module _ {N : Type 0} (after before : N → Option ℕ) where
  -- the ends, the count and the links of the list agree
  abbrev pub Sound : List N → LinkedList → Type 0
  Sound ns list = Holds (map after ns) (map before ns) list (members after ns list)

  -- in every sound list in which the record i stands, r is the number right behind it
  abbrev pub Follows : List N → ℕ → Option ℕ → Type 0
  Follows ns i r = (list : LinkedList) → Sound ns list → In i (members after ns list) → r ≡ following i (members after ns list)
