-- Values that are written by words.
use Rattle.std.specs.Prelude.{ℕ, List, Option}
use Rattle.std.specs.List.{find}
use Rattle.std.specs.Str.{bytes_eq}

-- the first of the values whose word is w
abbrev pub first_named : {T : Type 0} → (T → List ℕ) → List T → List ℕ → Option T
first_named spelling values w = find (λ v. bytes_eq w (spelling v)) values
