-- What a change of one list leaves alone.
use Rattle.std.proofs.Common.{◌≡◌, ℕ, ◌<◌, List, [], ◌∷◌, map, length, get_or, None, Option, sym, refl, ap, ◌∙◌, arith}
use Rattle.std.proofs.lemmas.List.{length-map, get_or-map}
use Rattle.list.specs.Numbers.{NotIn}
use Rattle.list.specs.Links.{link_at}
use Rattle.list.specs.Lists.{Holds, members}
use Rattle.list.specs.Changes.{Untouched, Leaves}
use Rattle.list.proofs.Chains.{kept}
use Rattle.list.proofs.Holding.{held, members_are}

-- a list that is longer than some number has an element
some_of : {N : Type 0} (ns : List N) (k : ℕ) → k < length ns → N
some_of [] k lt = absurd (omega arith)
some_of (n ∷ ns) k lt = n

module _ {N : Type 0} (after before : N → Option ℕ) (bare : N → N) (ns ns' : List N) (same : length ns' ≡ length ns) where
  -- a record that is as it was has the links that it had
  link_kept : (link : N → Option ℕ) (k : ℕ) → k < length ns → ((d : N) → get_or ns' k d ≡ get_or ns k d) → get_or (map link ns') k None ≡ get_or (map link ns) k None
  link_kept link k lt far =
      let d = some_of ns k lt in
      get_or-map link ns' k d None (omega (arith, same)) ∙ ap link (far d) ∙ sym (get_or-map link ns k d None lt)

  pub leaves : (own touched : List ℕ) → map bare ns' ≡ map bare ns → Untouched ns ns' touched → ((k : ℕ) → NotIn k own → NotIn k touched)
      → Leaves after before bare ns ns' own touched
  leaves own touched fields far less = record {
    fields = fields;
    far = far;
    others = λ o s disjoint.
        let xs = members after ns o in
        let h : Holds (map after ns') (map before ns') o xs = record {
          linked = kept (link_at (map after ns) o.front) (link_at (map before ns) o.back) (link_at (map after ns') o.front) (link_at (map before ns') o.back) None xs None refl refl
              (λ k i.
              let lt : k < length ns = omega (arith, s.inside k i, length-map ns after) in
              let as-was = λ (d : N). far k d (less k (disjoint k i)) in
              (link_kept after k lt as-was, link_kept before k lt as-was))
              s.linked;
          count = s.count;
          inside = λ k i. omega (arith, s.inside k i, length-map ns after, length-map ns' after);
          distinct = s.distinct;
        } in
        (held h, members_are h);
  }
