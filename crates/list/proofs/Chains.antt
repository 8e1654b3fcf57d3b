-- Records that stand between two places, once some links have changed.
use Rattle.std.proofs.Common.{◌≡◌, ℕ, ◌+◌, ◌≤◌, List, [], ◌∷◌, ◌++◌, Some, None, Option, sym, ◌∙◌, arith}
use Rattle.std.specs.List.{slice_get}
use Rattle.std.specs.Option.{option_to_list}
use Rattle.list.specs.Numbers.{times, In}
use Rattle.list.specs.Links.{Between}
use Rattle.list.proofs.Counting.{times_append, in_first, not_none, apart, apart_last, last_or, times_first}

-- The link at the place a became v, and that of the record i became w; all others are as they were.
pub record Changed (link link' : Option ℕ → Option ℕ) (a v : Option ℕ) (i : ℕ) (w : Option ℕ) : Type 0 where
  pub own : link' (Some i) ≡ w
  pub at : (a ≡ Some i → ⊥) → link' a ≡ v
  pub others : (q : Option ℕ) → (q ≡ a → ⊥) → (q ≡ Some i → ⊥) → link' q ≡ link q

module _ (next prev : Option ℕ → Option ℕ) where
  -- what comes after the place in front of the records
  pub first_is : (a : Option ℕ) (xs : List ℕ) → Between next prev a xs None → next a ≡ slice_get xs 0
  first_is a [] (n, p) = n
  first_is a (x ∷ xs) (n, p, rest) = n

  -- what comes before the place behind them
  pub last_is : (a : Option ℕ) (xs : List ℕ) (b : Option ℕ) → Between next prev a xs b → prev b ≡ last_or a xs
  last_is a [] b (n, p) = p
  last_is a (x ∷ xs) b (n, p, rest) = last_is (Some x) xs b rest

  -- the neighbours of the record i
  pub neighbours_are : (q : Option ℕ) (a : List ℕ) (i : ℕ) (b : List ℕ) → Between next prev q (a ++ i ∷ b) None → (prev (Some i) ≡ last_or q a) × (next (Some i) ≡ slice_get b 0)
  neighbours_are q [] i b (n, p, rest) = (p, first_is (Some i) b rest)
  neighbours_are q (x ∷ a) i b (n, p, rest) = neighbours_are (Some x) a i b rest

  module _ (next' prev' : Option ℕ → Option ℕ) where
    -- links that are as they were
    pub kept : (a : Option ℕ) (xs : List ℕ) (b : Option ℕ) → next' a ≡ next a → prev' b ≡ prev b
        → ((k : ℕ) → In k xs → (next' (Some k) ≡ next (Some k)) × (prev' (Some k) ≡ prev (Some k)))
        → Between next prev a xs b → Between next' prev' a xs b
    kept a [] b na pb inner (n, p) = (na ∙ n, pb ∙ p)
    kept a (x ∷ xs) b na pb inner (n, p, rest) =
        let same = inner x (in_first x xs) in
        (na ∙ n, same.1 ∙ p, kept (Some x) xs b same.0 pb (λ k h. inner k (omega arith)) rest)

    -- the record i is linked in behind the last
    pub extended : (q : Option ℕ) (xs : List ℕ) (i : ℕ) → Changed next next' (last_or q xs) (Some i) i None → Changed prev prev' None (Some i) i (last_or q xs)
        → ((k : ℕ) → times k (option_to_list q) + times k xs + times k (i ∷ []) ≤ 1)
        → Between next prev q xs None → Between next' prev' q (xs ++ i ∷ []) None
    extended q [] i n' p' d (n, p) =
        (n'.at (apart q i (omega (arith, d i, in_first i []))), p'.own, (n'.own, p'.at (not_none i)))
    extended q (x ∷ xs) i n' p' d (n, p, rest) = (
      n'.others q (apart_last q x xs (λ k. omega (arith, d k))) (apart q i (omega (arith, d i, in_first i []))) ∙ n,
      p'.others (Some x) (λ e. not_none x (sym e)) (apart (Some x) i (omega (arith, d i, in_first i []))) ∙ p,
      extended (Some x) xs i n' p' (λ k. omega (arith, d k)) rest,
    )

    -- the record i is taken out
    pub shortened : (q : Option ℕ) (a : List ℕ) (i : ℕ) (b : List ℕ) → Changed next next' (last_or q a) (slice_get b 0) i None → Changed prev prev' (slice_get b 0) (last_or q a) i None
        → ((k : ℕ) → times k (option_to_list q) + times k (a ++ i ∷ b) ≤ 1)
        → Between next prev q (a ++ i ∷ b) None → Between next' prev' q (a ++ b) None
    shortened q [] i [] n' p' d l = (n'.at (apart q i (omega (arith, d i, in_first i []))), p'.at (not_none i))
    shortened q [] i (y ∷ ys) n' p' d (n, p, (ni, py, rest)) = (
      n'.at (apart q i (omega (arith, d i, in_first i []))),
      p'.at (apart (Some y) i (omega (arith, d i, in_first i []))),
      kept (Some y) ys None
          (n'.others (Some y) (λ e. apart q y (omega (arith, d y, in_first y [])) (sym e)) (apart (Some y) i (omega (arith, d i, in_first i []))))
          (p'.others None (not_none y) (not_none i))
          (λ k h. (
            n'.others (Some k) (λ e. apart q k (omega (arith, d k)) (sym e)) (λ e. apart (Some i) k (omega (arith, d k)) (sym e)),
            p'.others (Some k) (λ e. apart (Some y) k (omega (arith, d k)) (sym e)) (λ e. apart (Some i) k (omega (arith, d k)) (sym e)),
          ))
          rest,
    )
    shortened q (x ∷ a) i b n' p' d (n, p, rest) = (
      n'.others q (apart_last q x a (λ k. omega (arith, d k, times_append k a (i ∷ b)))) (apart q i (omega (arith, d i, times_append i a (i ∷ b), in_first i b))) ∙ n,
      p'.others (Some x) (λ e. apart (slice_get b 0) x (omega (arith, d x, times_append x a (i ∷ b), times_first x b, in_first x [])) (sym e)) (apart (Some x) i (omega (arith, d i, times_append i a (i ∷ b), in_first i b))) ∙ p,
      shortened (Some x) a i b n' p' (λ k. omega (arith, d k)) rest,
    )
