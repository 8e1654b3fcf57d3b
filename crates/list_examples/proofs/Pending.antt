-- The settings that wait in a profile.
use Rattle.std.proofs.Common.{◌≡◌, ℕ, zero, suc, ◌+◌, ◌<◌, ◌≤◌, List, [], ◌∷◌, ◌++◌, map, length, get_or, sym, refl, ap, ◌∙◌, arith}
use Rattle.std.proofs.lemmas.List.FromFn.{fill_by_all, map-range_with_len_more}
use Rattle.std.proofs.lemmas.List.{length-map, map-id, get_or-map}
use Rattle.std.specs.List.{range_with_len}
use Rattle.list.specs.declared.linked_list.LinkedList.{LinkedList}
use Rattle.list.specs.Numbers.{NotIn}
use Rattle.list.specs.Lists.{members}
use Rattle.list.proofs.Counting.{one}
use mathlib.Core.List.{map-map}
use Rattle.list_examples.specs.declared.write.Write.{Write}
use Rattle.list_examples.specs.Kinds.{write_after, bare_write}
use Rattle.list_examples.specs.Settings.{setting_of, pending}

-- the numbers from a on, n of them, end below a + n
pub beyond : (k a n : ℕ) → a + n ≤ k → NotIn k (range_with_len a n)
beyond k a zero h = refl
beyond k a (suc n) h = omega (arith, one a k, beyond k (a + 1) n (omega arith))

-- with n at their end, the numbers below n are the numbers below n + 1
pub one_more : (n : ℕ) (xs xs' : List ℕ) → xs ≡ range_with_len 0 n → xs' ≡ xs ++ n ∷ [] → xs' ≡ range_with_len 0 (n + 1)
one_more n xs xs' e e' =
    e' ∙ ap (λ l. l ++ n ∷ []) (e ∙ sym (map-id (range_with_len 0 n))) ∙ sym (map-range_with_len_more (λ x. x) 0 n n (omega arith)) ∙ map-id (range_with_len 0 (n + 1))

-- writes that are what they were but for their links set what they set
pub settings_kept : (ws ws' : List Write) → map bare_write ws' ≡ map bare_write ws → map setting_of ws' ≡ map setting_of ws
settings_kept ws ws' e = sym (map-map setting_of bare_write ws') ∙ ap (map setting_of) e ∙ map-map setting_of bare_write ws

-- if all writes wait in their order, so do all settings
pub all_pending : (ws ws' : List Write) (list : LinkedList) (n : ℕ) → length ws ≡ n → map bare_write ws' ≡ map bare_write ws → members write_after ws' list ≡ range_with_len 0 n
    → pending ws' list ≡ map setting_of ws
all_pending ws ws' list n long e m =
    let set = map setting_of ws in
    (λ j. map (λ k. get_or (settings_kept ws ws' e j) k (0, 0)) (m j))
    ∙ sym (fill_by_all (λ k. get_or set k (0, 0)) set n (0, 0) (length-map ws setting_of ∙ long) (λ k lt. refl))

-- if the first write that waits is taken, its setting was the first, and the others still wait
pub taken : (ws ws' : List Write) (list list' : LinkedList) (i : ℕ) (d : Write) → i < length ws' → map bare_write ws' ≡ map bare_write ws
    → members write_after ws list ≡ i ∷ members write_after ws' list' → pending ws list ≡ setting_of (get_or ws' i d) ∷ pending ws' list'
taken ws ws' list list' i d lt e m =
    (λ j. map (λ k. get_or (sym (settings_kept ws ws' e) j) k (0, 0)) (m j)) ∙ ap (λ s. s ∷ pending ws' list') (get_or-map setting_of ws' i d (0, 0) lt)
