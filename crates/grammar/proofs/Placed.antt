-- The part at fault is the script's own bytes at its place.
use Rattle.std.proofs.Common.{ℕ, List}
use Rattle.std.proofs.lemmas.Result.{MatchResult-weaker}
use Rattle.grammar.specs.Reading.{read_script}
use Rattle.grammar.specs.Places.{Placed}
use Rattle.grammar.proofs.Exact.{sound}

-- the part of whatever fault a script has stands in the script
pub placed : (script : List ℕ) → Placed script
placed script = MatchResult-weaker (read_script script) (sound script).cases (λ _ _. tt) (λ _ h. h)
