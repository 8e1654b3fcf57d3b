-- The number that a word writes.
use Rattle.std.specs.Prelude.{ℕ, ◌+◌, ◌-◌, ◌*◌, ◌^◌, Bool, cond, List, [], ◌∷◌, Some, None, Option, ◌==◌, nat_lt}
use Rattle.std.specs.Char.{is_ascii_digit}

-- the digits 0 to 9, which are the bytes 48 to 57
abbrev pub is_digit : ℕ → Bool
is_digit c = is_ascii_digit c

-- the number n, and then the digits of what is left, up to 4,294,967,295
abbrev pub read_on : ℕ → List ℕ → Option ℕ
read_on n [] = Some n
read_on n (c ∷ cs) = cond (is_digit c) (cond (nat_lt (n * 10 + (c - 48)) (2 ^ 32)) (read_on (n * 10 + (c - 48)) cs) None) None

-- after a first 0: nothing else
abbrev pub zero_alone : List ℕ → Option ℕ
zero_alone [] = Some 0
zero_alone (c ∷ cs) = None

-- a word writes a number: 0 alone, or digits of which the first is not 0
unfoldable pub number_of : List ℕ → Option ℕ
number_of [] = None
number_of (c ∷ cs) = cond (c == 48) (zero_alone cs) (read_on 0 (c ∷ cs))
