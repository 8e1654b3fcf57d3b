-- Numbers below 2 ^ 32 and their decimals.
use Rattle.std.proofs.Common.{◌≡◌, ℕ, ◌^◌, ◌<◌, List, Some, None, decimal, Option, sym, refl, ap, arith}
use Rattle.std.proofs.lemmas.List.Elements.{All-from_get_or, recursion_from_All}
use Rattle.std.proofs.lemmas.Str.Parse.{not_in_digits}
use Rattle.std.proofs.lemmas.Fmt.{decimal_injective, digits_decimal}
use Rattle.std.proofs.lemmas.Option.{MatchOption-at_some}
use Rattle.grammar.specs.Numbers.{number_of}
use Rattle.grammar.specs.Grammar.{Lacks}
use Rattle.grammar.proofs.Numbers.{Exact, exact, digits_model}

-- a word that writes a number is its decimal
pub number_decimal : (w : List ℕ) (n : ℕ) → number_of w ≡ Some n → (n < 2 ^ 32) × (w ≡ decimal n)
number_decimal w n e =
    MatchOption-at_some ((v : ℕ) → v < 2 ^ 32 → w ≡ decimal v → ⊥) (λ v. (v < 2 ^ 32) × (w ≡ decimal v)) n e (exact w)

-- of what a decimal writes the number is known
exact_decimal : (n : ℕ) (r : Option ℕ) → n < 2 ^ 32 → Exact (decimal n) r → r ≡ Some n
exact_decimal n None h x = absurd (x n h refl)
exact_decimal n (Some v) h x = ap Some (decimal_injective v n (omega (arith, x.0)) (omega arith) (sym x.1))

-- and the decimal of a number writes it
pub decimal_number : (n : ℕ) → n < 2 ^ 32 → number_of (decimal n) ≡ Some n
decimal_number n h = exact_decimal n (number_of (decimal n)) h (exact (decimal n))

-- there is no space among digits
pub decimal_lacks : (n : ℕ) → n < 2 ^ 32 → Lacks 32 (decimal n)
decimal_lacks n h =
    let apart = not_in_digits digits_model (decimal n) 32 (digits_decimal digits_model n (omega arith)) (λ r. omega arith) in
    recursion_from_All _ _ (All-from_get_or (λ c. c ≡ 32 → ⊥) (decimal n) 0 apart)
