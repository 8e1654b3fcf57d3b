-- Words that write numbers.
use Rattle.std.proofs.Common.{◌≡◌, ℕ, ◌+◌, ◌^◌, ◌<◌, List, [], ◌∷◌, map, length, get_or, Ok, decimal, refl, ap, arith}
use Rattle.std.specs.List.{range_with_len}
use Rattle.std.proofs.lemmas.List.{length-map}
use Rattle.std.proofs.lemmas.List.FromFn.{fill_by_all}
use Rattle.grammar.specs.Text.{Piece, pieces}
use Rattle.grammar.specs.Numbers.{number_of}
use Rattle.grammar.specs.Calls.{number_in, numbers_in}
use Rattle.grammar.specs.Grammar.{All, Lacks}
use Rattle.grammar.proofs.Decimal.{number_decimal, decimal_number, decimal_lacks}
use Rattle.grammar.proofs.Spaced.{texts, texts-pieces}
use Rattle.grammar.proofs.Known.{Known, right, step_knows, some_knows}

-- there are as many pieces as words
pub length-pieces : (k : ℕ) (ws : List (List ℕ)) → length (pieces k ws) ≡ length ws
length-pieces k ws = omega (arith, ap length (texts-pieces k ws), length-map (pieces k ws) (λ p. p.bytes))

-- a word that is read as a number is its decimal
pub number_says : (P : Piece → Type 0) (p : Piece) → P p → Known (λ n. (n < 2 ^ 32) × (p.bytes ≡ decimal n)) P (number_in p)
number_says P p h = some_knows (number_of p.bytes) p (number_decimal p.bytes) h

-- the words are the decimals of the numbers, each below 2 ^ 32
pub record Decimals (ws : List (List ℕ)) (ns : List ℕ) : Type 0 where
  pub are : ws ≡ map decimal ns
  pub small : All (λ n. n < 2 ^ 32) ns

-- so it is of words that are read as numbers
pub numbers_say : (P : Piece → Type 0) (ps : List Piece) → All P ps → Known (Decimals (texts ps)) P (numbers_in ps)
numbers_say P [] h = right [] (record { are = refl; small = tt })
numbers_say P (p ∷ ps) h =
    step_knows _ _ _ (number_says P p h.0) (λ n d.
    step_knows _ _ _ (numbers_say P ps h.1) (λ ns ds. right (n ∷ ns) (record { are = (λ i. d.1 i ∷ ds.are i); small = (d.0, ds.small) })))

-- and of the decimals the numbers are read
pub numbers_on : (k : ℕ) (ns : List ℕ) → All (λ n. n < 2 ^ 32) ns → numbers_in (pieces k (map decimal ns)) ≡ Ok ns
numbers_on k [] h = refl
numbers_on k (n ∷ ns) h = simp (decimal_number n h.0, numbers_on (k + length (decimal n) + 1) ns h.1)

-- there is no space in the decimals
pub decimals_lack : (ns : List ℕ) → All (λ n. n < 2 ^ 32) ns → All (Lacks 32) (map decimal ns)
decimals_lack [] h = tt
decimals_lack (n ∷ ns) h = (decimal_lacks n h.0, decimals_lack ns h.1)

-- a list of n elements, one by one
pub each_of : {A : Type 0} (d : A) (n : ℕ) (xs : List A) → length xs ≡ n → xs ≡ map (λ k. get_or xs k d) (range_with_len 0 n)
each_of d n xs e = fill_by_all (λ k. get_or xs k d) xs n d e (λ k h. refl)
