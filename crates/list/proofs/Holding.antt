-- What is known of a list that holds some records.
use Rattle.std.proofs.Common.{◌≡◌, ℕ, ◌+◌, ◌<◌, ◌≤◌, List, [], ◌∷◌, ◌++◌, length, get_or, Some, None, Option, sym, refl, ap, ◌∙◌, subst, inl, inr, arith}
use Rattle.std.specs.List.{slice_get}
use Rattle.std.specs.Option.{option_to_list, IfSome}
use Rattle.std.proofs.lemmas.List.{length-map}
use Rattle.list.specs.declared.linked_list.LinkedList.{LinkedList}
use Rattle.list.specs.Numbers.{times, In, NotIn, following}
use Rattle.list.specs.Links.{link_at, Between, walk}
use Rattle.list.specs.Lists.{Holds, members, Sound}
use Rattle.list.proofs.Counting.{one, times_append, in_first, last_or, times_first, times_last, joint, within}
use Rattle.list.proofs.Splitting.{Split, split, following_split, pigeons}
use Rattle.list.proofs.Chains.{first_is, last_is, neighbours_are}

-- the walk along the links finds the records
walked : (nexts : List (Option ℕ)) (front : Option ℕ) (prev : Option ℕ → Option ℕ) (q : Option ℕ) (xs : List ℕ)
    → Between (link_at nexts front) prev q xs None → walk nexts (link_at nexts front q) (length xs) ≡ xs
walked nexts front prev q [] l = refl
walked nexts front prev q (x ∷ xs) (n, p, rest) =
    ap (λ from. walk nexts from (length (x ∷ xs))) n ∙ ap (λ ys. x ∷ ys) (walked nexts front prev (Some x) xs rest)

module _ {nexts prevs : List (Option ℕ)} {list : LinkedList} {xs : List ℕ} (h : Holds nexts prevs list xs) where
  -- so what the list holds are its members
  pub members_are : walk nexts list.front list.count ≡ xs
  members_are =
      ap (walk nexts list.front) h.count ∙ walked nexts list.front (link_at prevs list.back) None xs h.linked

  pub held : Holds nexts prevs list (walk nexts list.front list.count)
  held = let P : List ℕ → Type 0 = Holds nexts prevs list in subst P (sym members_are) h

  pub back_is : list.back ≡ last_or None xs
  back_is = last_is (link_at nexts list.front) (link_at prevs list.back) None xs None h.linked

  pub front_is : list.front ≡ slice_get xs 0
  front_is = first_is (link_at nexts list.front) (link_at prevs list.back) None xs h.linked

  -- the back is in the list
  pub back_in : (k : ℕ) → times k (option_to_list list.back) ≤ times k xs
  back_in k = omega (arith, ap (λ q. times k (option_to_list q)) back_is, times_last k None xs)

  -- so it is a record of the slice, if there is one
  pub back_within : IfSome list.back (λ k. k < length nexts)
  back_within = within list.back xs (length nexts) back_in h.inside

  -- with one more record that is not in it, a list is no longer than the slice
  pub room : (i : ℕ) → i < length nexts → NotIn i xs → list.count < length nexts
  room i lt new =
      let below : (k : ℕ) → In k (i ∷ xs) → k < length nexts =
      λ k o. elim (one i k) [ inl e ↦ omega (arith, e.0) | inr ne ↦ h.inside k (omega (arith, ne.1)) ] in
      omega (arith, h.count, pigeons (length nexts) (i ∷ xs) (λ k. omega (arith, joint i xs new h.distinct k)) below)

-- The record i stands in the list.
module _ {nexts prevs : List (Option ℕ)} {list : LinkedList} {xs : List ℕ} (h : Holds nexts prevs list xs) {i : ℕ} (s : Split i xs) where
  pub chain : Between (link_at nexts list.front) (link_at prevs list.back) None (s.ahead ++ i ∷ s.behind) None
  chain =
      let P : List ℕ → Type 0 = λ ys. Between (link_at nexts list.front) (link_at prevs list.back) None ys None in
      subst P s.is h.linked

  pub prev_is : get_or prevs i None ≡ last_or None s.ahead
  prev_is = (neighbours_are (link_at nexts list.front) (link_at prevs list.back) None s.ahead i s.behind chain).0

  pub next_is : get_or nexts i None ≡ slice_get s.behind 0
  next_is = (neighbours_are (link_at nexts list.front) (link_at prevs list.back) None s.ahead i s.behind chain).1

  pub following_is : get_or nexts i None ≡ following i xs
  following_is = next_is ∙ sym (ap (following i) s.is ∙ following_split i s.ahead s.behind s.new)

  -- how often a number is before i, and from i on
  pub parts : (k : ℕ) → times k xs ≡ times k s.ahead + times k (i ∷ s.behind)
  parts k = ap (times k) s.is ∙ times_append k s.ahead (i ∷ s.behind)

  -- the neighbours of i are in the list
  pub prev_in : (k : ℕ) → times k (option_to_list (get_or prevs i None)) ≤ times k xs
  prev_in k = omega (arith, ap (λ q. times k (option_to_list q)) prev_is, times_last k None s.ahead, parts k)

  pub next_in : (k : ℕ) → times k (option_to_list (get_or nexts i None)) ≤ times k xs
  next_in k = omega (arith, ap (λ q. times k (option_to_list q)) next_is, times_first k s.behind, parts k)

  -- so they are records of the slice, if there are any
  pub prev_within : IfSome (get_or prevs i None) (λ k. k < length nexts)
  prev_within = within (get_or prevs i None) xs (length nexts) prev_in h.inside

  pub next_within : IfSome (get_or nexts i None) (λ k. k < length nexts)
  next_within = within (get_or nexts i None) xs (length nexts) next_in h.inside

  -- a record that is not in the list is neither i nor a neighbour of i
  pub not_around : (k : ℕ) → NotIn k xs → NotIn k (i ∷ (option_to_list (get_or prevs i None) ++ option_to_list (get_or nexts i None)))
  not_around k out = omega (arith, parts k, prev_in k, next_in k, times_append k (option_to_list (get_or prevs i None)) (option_to_list (get_or nexts i None)))

-- right behind a record of the list comes the record that its link leads to
pub follows : {nexts prevs : List (Option ℕ)} {list : LinkedList} {xs : List ℕ} → Holds nexts prevs list xs → (i : ℕ) → In i xs → get_or nexts i None ≡ following i xs
follows {xs = xs} h i t = following_is h (split i xs t)

-- the members of a sound list are records of the slice
pub in_slice : {N : Type 0} (after before : N → Option ℕ) (ns : List N) (list : LinkedList) → Sound after before ns list → (k : ℕ) → In k (members after ns list) → k < length ns
in_slice after before ns list s k o = omega (arith, s.inside k o, length-map ns after)

-- so the record that was the first is one
pub first_in_slice : {N : Type 0} (after before : N → Option ℕ) (ns : List N) (list : LinkedList) → Sound after before ns list → (i : ℕ) (rest : List ℕ) → members after ns list ≡ i ∷ rest → i < length ns
first_in_slice after before ns list s i rest e = in_slice after before ns list s i (omega (arith, ap (times i) e, in_first i rest))
