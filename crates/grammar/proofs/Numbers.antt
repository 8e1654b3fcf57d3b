-- A word writes a number exactly if it is the decimal of one below 2 ^ 32.
use Rattle.std.proofs.Common.{◌≡◌, ℕ, ◌+◌, ◌-◌, ◌*◌, ◌^◌, ◌<◌, ◌≤◌, true, cond, eqb, ltb, ◌&&◌, List, [], ◌∷◌, length, get_or, Some, None, decimal, Option, sym, ap, arith, rules, MatchOption}
use Rattle.std.specs.Str.{all_ascii_digits}
use Rattle.std.proofs.lemmas.Bool.{ltb-true, eqb-true, eqb-false, and_parts, cond_both}
use Rattle.std.proofs.lemmas.Bool.Decides.{nat_tests}
use Rattle.std.proofs.lemmas.Grind.{common_steps}
use Rattle.std.proofs.lemmas.Str.Parse.{IsNumeralModel, numerals_by_fold, tells_all_ascii_digits}
use Rattle.std.proofs.lemmas.Fmt.{decimal_digit, decimal_nonempty, first_decimal, digits_decimal, digits_value-decimal, decimal-digits_value}
use Rattle.grammar.specs.Numbers.{read_on, zero_alone, number_of}

-- the value of a text of digits, read from the left
abbrev fold_on : ℕ → List ℕ → ℕ
fold_on n [] = n
fold_on n (c ∷ cs) = fold_on (n * 10 + (c - 48)) cs

-- digits and their value, as std's lemmas on decimals take them
pub digits_model : IsNumeralModel (λ ds. all_ascii_digits ds ≡ true) (fold_on 0)
digits_model = numerals_by_fold _ tells_all_ascii_digits fold_on (search rules)

-- it is no less than the number in front
grows : (n : ℕ) (w : List ℕ) → n ≤ fold_on n w
grows n [] = omega arith
grows n (c ∷ cs) = omega (arith, grows (n * 10 + (c - 48)) cs)

-- what is read on is the number that the digits of w make after n, if they are digits and it is small enough
tells : (n : ℕ) (w : List ℕ) → n < 2 ^ 32 → read_on n w ≡ cond (all_ascii_digits w && ltb (fold_on n w) (2 ^ 32)) (Some (fold_on n w)) None
tells n [] h = grind (arith, nat_tests)
tells n (c ∷ cs) h = let m = n * 10 + (c - 48) in grind (arith, common_steps, tells m cs, grows m cs)

-- r is the number of which w is the decimal, if there is one below 2 ^ 32
abbrev pub Exact : List ℕ → Option ℕ → Type 0
Exact w r = MatchOption r ((v : ℕ) → v < 2 ^ 32 → w ≡ decimal v → ⊥) (λ v. (v < 2 ^ 32) × (w ≡ decimal v))

-- no number begins with a 0 that more follows
after_zero : (cs : List ℕ) → Exact (48 ∷ cs) (zero_alone cs)
after_zero [] = (omega arith, sym (decimal_digit 0 (omega arith)))
after_zero (x ∷ xs) = λ v h e. grind (arith, decimal_digit v, first_decimal v, ap length e, ap (λ l. get_or l 0 0) e)

-- digits of which the first is no 0
nonzero : (c : ℕ) (cs : List ℕ) → (c ≡ 48 → ⊥) → Exact (c ∷ cs) (read_on 0 (c ∷ cs))
nonzero c cs apart =
    let w = c ∷ cs in
    let is = tells 0 w (omega arith) in
    rw is (cond_both (all_ascii_digits w && ltb (fold_on 0 w) (2 ^ 32)) _ _ (Exact w)
    (λ t. let parts = and_parts _ _ t in let small = ltb-true _ _ parts.1 in (small, sym (decimal-digits_value digits_model w parts.0 (omega arith) (λ z. absurd (apart z)) (omega arith))))
    (λ f v h e. grind (arith, nat_tests, ap all_ascii_digits e, digits_decimal digits_model v (omega arith), ap (fold_on 0) e, digits_value-decimal digits_model v (omega arith))))

-- so it is of every word
pub exact : (w : List ℕ) → Exact w (number_of w)
unfolding number_of
exact [] = λ v h e. omega (arith, ap length e, decimal_nonempty v (omega arith))
exact (c ∷ cs) =
    cond_both (eqb c 48) _ _ (Exact (c ∷ cs))
    (λ z. rw (eqb-true c 48 z) (after_zero cs))
    (λ n. nonzero c cs (eqb-false c 48 n))
