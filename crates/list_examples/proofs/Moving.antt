-- A record goes from the front of one list to the end of another.
use Rattle.std.proofs.Common.{◌≡◌, ℕ, ◌<◌, List, [], ◌∷◌, ◌++◌, length, Some, Option, sym, ap, ◌∙◌, inl, inr, arith}
use Rattle.std.specs.Option.{option_to_list}
use Rattle.std.proofs.lemmas.Bool.{cases_lt}
use Rattle.list.specs.declared.linked_list.LinkedList.{LinkedList}
use Rattle.list.specs.Numbers.{times, NotIn, Disjoint}
use Rattle.list.specs.Lists.{members, Sound}
use Rattle.list.specs.Changes.{around, Pushed, Popped}
use Rattle.list.proofs.Counting.{one, times_append}
use Rattle.list.proofs.Holding.{back_in, not_around, first_in_slice}
use Rattle.list.proofs.Splitting.{split}
use Rattle.list.proofs.Leaving.{leaves}
use Rattle.list_examples.specs.Moves.{Moved}

flipped : (xs ys : List ℕ) → Disjoint xs ys → Disjoint ys xs
flipped xs ys d k o = elim (cases_lt 0 (times k xs)) [ inl h ↦ omega (arith, d k h) | inr h ↦ omega arith ]

-- The record i was taken from the list `from`, which is now from₁.
module _ {N : Type 0} {after before : N → Option ℕ} {bare : N → N} {ns ns₁ : List N} {from from₁ to : LinkedList} {i : ℕ}
    (from-was : Sound after before ns from) (to-was : Sound after before ns to) (were-apart : Disjoint (members after ns from) (members after ns to))
    (popped : Popped after before bare ns ns₁ from from₁ (Some i)) where
  -- the other list is still what it was
  pub stays : Sound after before ns₁ to × (members after ns₁ to ≡ members after ns to)
  stays = popped.leaves.others to to-was (flipped (members after ns from) (members after ns to) were-apart)

  pub inside : i < length ns
  inside = first_in_slice _ _ _ _ from-was _ _ popped.holds

  -- how often a number is in the one list, and in the other
  in_from : (k : ℕ) → times k (members after ns from) ≡ times k (i ∷ members after ns₁ from₁)
  in_from k = ap (times k) popped.holds

  in_to : (k : ℕ) → times k (members after ns₁ to) ≡ times k (members after ns to)
  in_to k = ap (times k) stays.1

  pub new : NotIn i (members after ns₁ to)
  new = omega (arith, in_to i, were-apart i (omega (arith, in_from i, one i i)))

  still_apart : Disjoint (members after ns₁ from₁) (i ∷ members after ns₁ to)
  still_apart k o = omega (arith, in_to k, in_from k, were-apart k (omega (arith, in_from k)), from-was.distinct k)

  -- a record of neither list is none of those whose links were written
  abbrev own : List ℕ
  own = members after ns from ++ members after ns to

  not_popped : (k : ℕ) → NotIn k own → NotIn k (around after before ns (Some i))
  not_popped k out = not_around from-was (split i (members after ns from) (omega (arith, in_from i, one i i))) k (omega (arith, times_append k (members after ns from) (members after ns to)))

  not_pushed : (k : ℕ) → NotIn k own → NotIn k (i ∷ option_to_list to.back)
  not_pushed k out = omega (arith, times_append k (members after ns from) (members after ns to), in_from k, in_to k, back_in stays.0 k)

  -- it was put at the end of the other list, which is now to₂
  pub moved : {ns₂ : List N} {to₂ : LinkedList} → length ns₂ ≡ length ns → Pushed after before bare ns₁ ns₂ to to₂ i → Moved after before bare ns ns₂ from from₁ to to₂ (Some i)
  moved {ns₂ = ns₂} same pushed =
      let goes_on = pushed.leaves.others from₁ popped.sound still_apart in
      record {
        front = popped.front;
        from_sound = goes_on.0;
        from_holds = popped.holds ∙ ap (λ l. i ∷ l) (sym goes_on.1);
        to_sound = pushed.sound;
        to_holds = pushed.holds ∙ ap (λ l. l ++ i ∷ []) stays.1;
        apart = λ k o. omega (arith, ap (times k) pushed.holds, times_append k (members after ns₁ to) (i ∷ []), still_apart k (omega (arith, ap (times k) goes_on.1)));
        leaves = leaves after before bare ns ns₂ same own own (pushed.leaves.fields ∙ popped.leaves.fields)
            (λ k d out. pushed.leaves.far k d (not_pushed k out) ∙ popped.leaves.far k d (not_popped k out)) (λ k out. out);
      }
