-- A list in two parts, before and behind one of its numbers.
use Rattle.std.proofs.Common.{◌≡◌, ℕ, zero, suc, ◌+◌, ◌<◌, ◌≤◌, eqb, List, [], ◌∷◌, ◌++◌, length, Some, sym, refl, ap, ◌∙◌, inl, inr, arith}
use Rattle.std.specs.List.{slice_get}
use Rattle.std.proofs.lemmas.Bool.{cases_eq, cases_lt, cond-true, cond-false, eq-eqb, ne_eqb}
use Rattle.std.proofs.lemmas.List.{length-append}
use Rattle.list.specs.Numbers.{times, In, NotIn, Distinct, without, following}
use Rattle.list.proofs.Counting.{one, times_append, in_first, not_none}

-- xs is a, then k, then b, and k is not in a
pub record Split (k : ℕ) (xs : List ℕ) : Type 0 where
  pub ahead : List ℕ
  pub behind : List ℕ
  pub is : xs ≡ ahead ++ k ∷ behind
  pub new : NotIn k ahead

pub split : (k : ℕ) (xs : List ℕ) → In k xs → Split k xs
split k [] h = absurd (omega arith)
split k (x ∷ xs) h =
    elim (one x k) [
      | inl e ↦ record { ahead = []; behind = xs; is = ap (λ y. y ∷ xs) e.0; new = refl }
      | inr ne ↦
          let s = split k xs (omega (arith, ne.1)) in
          record { ahead = x ∷ s.ahead; behind = s.behind; is = ap (λ ys. x ∷ ys) s.is; new = omega (arith, ne.1, s.new) }
    ]

pub without_split : (k : ℕ) (a b : List ℕ) → NotIn k a → without k (a ++ k ∷ b) ≡ a ++ b
without_split k [] b h = cond-true (eqb k k) b (k ∷ without k b) (eq-eqb k k refl)
without_split k (x ∷ a) b h =
    cond-false (eqb x k) (a ++ k ∷ b) (x ∷ without k (a ++ k ∷ b)) (ne_eqb x k (λ e. omega (arith, one x k))) ∙ ap (λ ys. x ∷ ys) (without_split k a b (omega arith))

pub following_split : (k : ℕ) (a b : List ℕ) → NotIn k a → following k (a ++ k ∷ b) ≡ slice_get b 0
following_split k [] b h = cond-true (eqb k k) (slice_get b 0) (following k b) (eq-eqb k k refl)
following_split k (x ∷ a) b h =
    cond-false (eqb x k) (slice_get (a ++ k ∷ b) 0) (following k (a ++ k ∷ b)) (ne_eqb x k (λ e. omega (arith, one x k))) ∙ following_split k a b (omega arith)

-- the first number is in the list, and in front of the others
pub in_front : (k : ℕ) (xs : List ℕ) → slice_get xs 0 ≡ Some k → In k xs × (xs ≡ k ∷ without k xs)
in_front k [] e = absurd (not_none k e)
in_front k (x ∷ xs) e =
    let same : x ≡ k = cc in
    (omega (arith, one x k), (λ j. same j ∷ xs) ∙ ap (λ ys. k ∷ ys) (sym (cond-true (eqb x k) xs (x ∷ without k xs) (eq-eqb x k same))))

-- Distinct numbers below n are at most n.
pub pigeons : (n : ℕ) (xs : List ℕ) → Distinct xs → ((k : ℕ) → In k xs → k < n) → length xs ≤ n
pigeons zero [] d below = omega arith
pigeons zero (x ∷ xs) d below = absurd (omega (arith, below x (in_first x xs)))
pigeons (suc n) xs d below =
    elim (cases_lt 0 (times n xs)) [
      | inl h ↦
          let s = split n xs h in
          let a = s.ahead in
          let b = s.behind in
          let count : (k : ℕ) → times k xs ≡ times k (a ++ b) + times k (n ∷ []) =
          λ k. omega (arith, ap (times k) s.is, times_append k a (n ∷ b), times_append k a b) in
          let fewer = pigeons n (a ++ b) (λ k. omega (arith, count k, d k)) (λ k i. omega (arith, count k, below k (omega (arith, count k)), d k, one n k)) in
          omega (arith, fewer, ap length s.is, length-append a (n ∷ b), length-append a b)
      | inr h ↦
          let lower : (k : ℕ) → In k xs → k < n =
          λ k i. elim (cases_eq k n) [ inl e ↦ omega (arith, ap (λ j. times j xs) e) | inr ne ↦ omega (arith, below k i) ] in
          omega (arith, pigeons n xs d lower)
    ]
