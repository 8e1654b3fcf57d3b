-- What a record that is linked in at the end of a list, or taken out of it, makes of the list, the records and all other lists.
use Rattle.std.proofs.Common.{◌≡◌, ℕ, ◌+◌, ◌-◌, ◌<◌, ◌≤◌, List, [], ◌∷◌, ◌++◌, map, length, get_or, set, Some, None, Option, sym, ap, ◌∙◌, subst, subst₂, inl, inr, arith, get_or-set_same}
use Rattle.std.specs.Option.{option_to_list}
use Rattle.std.proofs.lemmas.List.{length_push, length-append, length-map, get_or-map}
use Rattle.list.specs.declared.linked_list.LinkedList.{LinkedList}
use Rattle.list.specs.Numbers.{times, In, NotIn, without}
use Rattle.list.specs.Links.{link_at}
use Rattle.list.specs.Lists.{Holds, members, Sound}
use Rattle.list.specs.Changes.{Untouched, around, Pushed, Removed, Popped}
use Rattle.list.specs.Writes.{Joined, Unlinked}
use Rattle.list.proofs.Counting.{one, not_none, times_append, joint}
use Rattle.list.proofs.Splitting.{split, without_split, in_front}
use Rattle.list.proofs.Chains.{Changed, extended, shortened}
use Rattle.list.proofs.Holding.{members_are, held, front_is, back_is, back_in, chain, prev_is, next_is, parts, not_around, in_slice}
use Rattle.list.proofs.Leaving.{leaves}

-- The record i of the slice was put behind the last of the list.
module _ {N : Type 0} {after before : N → Option ℕ} {bare : N → N} {ns ns₁ ns₂ : List N} {list list₁ list₂ : LinkedList} {i : ℕ}
    (s : Sound after before ns list) (lt : i < length ns) (new : NotIn i (members after ns list))
    (j : Joined after before bare ns ns₁ list list₁ list.back (Some i)) (j' : Joined after before bare ns₁ ns₂ list₁ list₂ (Some i) None) (same : length ns₂ ≡ length ns) where
  -- the list as it then is, with one record more
  abbrev longer : LinkedList
  longer = record list₂ { count = list₂.count + 1 }

  -- it holds i behind the records that it held
  holds_pushed : Holds (map after ns₂) (map before ns₂) longer (members after ns list ++ i ∷ [])
  holds_pushed =
      let xs = members after ns list in
      let next = link_at (map after ns) list.front in
      let prev = link_at (map before ns) list.back in
      let next' = link_at (map after ns₂) list₂.front in
      let prev' = link_at (map before ns₂) list₂.back in
      let P : Option ℕ → Type 0 = λ q. Changed next next' q (Some i) i None × Changed prev prev' None (Some i) i q in
      let links = subst P (back_is s) (
        record {
          own = j'.next;
          at = λ ne. j'.nexts list.back ne ∙ j.next;
          others = λ q ne no. j'.nexts q no ∙ j.nexts q ne;
        },
        record {
          own = j'.prevs (Some i) (λ e. not_none i (sym e)) ∙ j.prev;
          at = λ _. j'.prev;
          others = λ q ne no. j'.prevs q ne ∙ j.prevs q no;
        },
      ) in
      record {
        linked = extended next prev next' prev' None xs i links.0 links.1 (λ k. omega (arith, joint i xs new s.distinct k)) s.linked;
        count = omega (arith, s.count, j.count, j'.count, length_push xs i);
        inside = λ k o. elim (one i k) [
          | inl e ↦ omega (arith, e.0, same, length-map ns₂ after)
          | inr ne ↦ omega (arith, in_slice after before ns list s k (omega (arith, ne.1, times_append k xs (i ∷ []))), same, length-map ns₂ after)
        ];
        distinct = λ k. omega (arith, times_append k xs (i ∷ []), joint i xs new s.distinct k);
      }

  -- so i was put at its end, and the rest was left alone
  pub pushed : Pushed after before bare ns ns₂ list longer i
  pushed =
      record {
        sound = held holds_pushed;
        holds = members_are holds_pushed;
        leaves = leaves after before bare ns ns₂ same (i ∷ members after ns list) (i ∷ option_to_list list.back) (j'.fields ∙ j.fields)
            (λ k d out. j'.far k d (omega arith) ∙ j.far k d (omega (arith, times_append k (option_to_list list.back) (i ∷ []))))
            (λ k out. omega (arith, back_in s k));
      }

-- The record i of the list was taken out from between p and n.
module _ {N : Type 0} {after before : N → Option ℕ} {bare : N → N} {ns ns₁ ns₂ : List N} {list list₁ : LinkedList} {i : ℕ} {p n : Option ℕ}
    (s : Sound after before ns list) (t : In i (members after ns list)) (p-was : p ≡ get_or (map before ns) i None) (n-was : n ≡ get_or (map after ns) i None)
    (j : Joined after before bare ns ns₁ list list₁ p n) (u : Unlinked after before bare ns₁ ns₂ i) (same : length ns₂ ≡ length ns) where
  -- the list as it then is, with one record less
  abbrev shorter : LinkedList
  shorter = record list₁ { count = list₁.count - 1 }

  -- it holds the other records, in their order
  holds_removed : Holds (map after ns₂) (map before ns₂) shorter (without i (members after ns list))
  holds_removed =
      let xs = members after ns list in
      let at = split i xs t in
      let a = at.ahead in
      let b = at.behind in
      let next = link_at (map after ns) list.front in
      let prev = link_at (map before ns) list.back in
      let next' = link_at (map after ns₂) list₁.front in
      let prev' = link_at (map before ns₂) list₁.back in
      let P : Option ℕ → Option ℕ → Type 0 = λ q w. Changed next next' q w i None × Changed prev prev' w q i None in
      let links = subst₂ P (p-was ∙ prev_is s at) (n-was ∙ next_is s at) (
        record {
          own = u.next;
          at = λ ne. u.nexts list₁.front p ne ∙ j.next;
          others = λ q ne no. u.nexts list₁.front q no ∙ j.nexts q ne;
        },
        record {
          own = u.prev;
          at = λ ne. u.prevs list₁.back n ne ∙ j.prev;
          others = λ q ne no. u.prevs list₁.back q no ∙ j.prevs q ne;
        },
      ) in
      let fewer : (k : ℕ) → times k (a ++ b) ≤ times k xs = λ k. omega (arith, times_append k a b, parts s at k) in
      let H : List ℕ → Type 0 = Holds (map after ns₂) (map before ns₂) shorter in
      subst H (sym (ap (without i) at.is ∙ without_split i a b at.new))
      (record {
        linked = shortened next prev next' prev' None a i b links.0 links.1 (λ k. omega (arith, s.distinct k, ap (times k) at.is)) (chain s at);
        count = omega (arith, s.count, j.count, ap length at.is, length-append a (i ∷ b), length-append a b);
        inside = λ k o. omega (arith, in_slice after before ns list s k (omega (arith, fewer k)), same, length-map ns₂ after);
        distinct = λ k. omega (arith, s.distinct k, fewer k);
      })

  -- so i was let go, and the rest was left alone
  pub removed : ((d : N) → ns₂ ≡ set ns₁ i (bare (get_or ns₁ i d))) → Removed after before bare ns ns₂ list shorter i
  removed bared =
      let lt = in_slice after before ns list s i t in
      let lt' : i < length ns₁ = omega (arith, ap length j.fields, length-map ns bare, length-map ns₁ bare) in
      let P : Option ℕ → Option ℕ → Type 0 = λ p n. Untouched ns ns₁ (option_to_list p ++ option_to_list n) in
      let around_i = option_to_list (get_or (map before ns) i None) ++ option_to_list (get_or (map after ns) i None) in
      let far : Untouched ns ns₁ around_i = subst₂ P p-was n-was j.far in
      record {
        sound = held holds_removed;
        holds = members_are holds_removed;
        alone = λ d. ap (λ l. get_or l i d) (bared d) ∙ get_or-set_same ns₁ i (bare (get_or ns₁ i d)) d lt' ∙ sym (get_or-map bare ns₁ i d d lt') ∙ ap (λ l. get_or l i d) j.fields ∙ get_or-map bare ns i d d lt;
        leaves = leaves after before bare ns ns₂ same (members after ns list) (around after before ns (Some i)) (u.fields ∙ j.fields)
            (λ k d out. u.far k d (omega arith) ∙ far k d (omega arith))
            (not_around s (split i (members after ns list) t));
      }

-- the record that was let go was the front, and r is its number
pub popped : {N : Type 0} {after before : N → Option ℕ} {bare : N → N} {ns ns' : List N} {list list' : LinkedList} {i : ℕ} {r : Option ℕ}
    → Sound after before ns list → list.front ≡ Some i → Removed after before bare ns ns' list list' i → r ≡ Some i → Popped after before bare ns ns' list list' r
popped {after = after} {before} {bare} {ns} {ns'} {list} {list'} {i} s is d told =
    let P : Option ℕ → Type 0 = λ q. Popped after before bare ns ns' list list' q in
    let front = sym (front_is s) ∙ is in
    subst P (sym told)
    (record {
      front = sym front;
      sound = d.sound;
      holds = (in_front i (members after ns list) front).1 ∙ ap (λ ys. i ∷ ys) (sym d.holds);
      alone = d.alone;
      leaves = d.leaves;
    })
