-- What the outcome of reading a script says of the grammar and of the part at fault.
use Rattle.std.proofs.Common.{ℕ, ◌≤◌, List, length, IfSome, IfErr, Some, None, Ok, Err, Option, Result, MatchResult, arith}
use Rattle.std.specs.Option.{option_map}
use Rattle.std.proofs.lemmas.Result.{MatchResult-at_ok, MatchResult-at_err, IfErr-at_err}
use Rattle.grammar.specs.declared.head.Head.{Head}
use Rattle.grammar.specs.declared.numbered.NumberedCall.{NumberedCall}
use Rattle.grammar.specs.Reading.{calls_of}
use Rattle.grammar.specs.Grammar.{Admitted}
use Rattle.grammar.specs.Places.{Stands, PartStands}
use Rattle.grammar.proofs.Exact.{exactly}
use Rattle.grammar.proofs.Placed.{placed}
use Rattle.script.specs.declared.fault.Fault.{Fault}
use Rattle.script.specs.declared.lines.Outline.{Outline}
use Rattle.script.specs.declared.part.Part.{Part}
use Rattle.script.specs.Near.{Near}
use Rattle.script.specs.Parts.{piece_of, failure_of}
use Rattle.script.specs.Outcome.{Outcome}

-- what was read is of the grammar, or else nothing is
pub grammatical : (script : List ℕ) (r : Result Outline Fault) → Outcome script r → MatchResult r (λ o. Admitted script o.head (calls_of script)) (λ _. (h : Head) (cs : List NumberedCall) → Admitted script h cs → ⊥)
grammatical script (Ok o) e = MatchResult-at_ok (λ y. Admitted script y.0 y.1) _ (o.head, calls_of script) e.0 (exactly script)
grammatical script (Err f) e = MatchResult-at_err _ (λ _. (h : Head) (cs : List NumberedCall) → Admitted script h cs → ⊥) (failure_of f) e (exactly script)

-- the part of a fault stands in the script
pub part_stands : (script : List ℕ) (r : Result Outline Fault) → Outcome script r → IfErr r (λ f. PartStands script (failure_of f))
part_stands script (Ok o) e = tt
part_stands script (Err f) e = IfErr-at_err (PartStands script) e (placed script)

-- so it is near, if the script is no longer than the longest
near_if : (script : List ℕ) (o : Option Part) → length script ≤ 32768 → IfSome (option_map piece_of o) (Stands script) → IfSome o Near
near_if script None short h = tt
near_if script (Some p) short h = omega (arith, h.within)

pub part_near : (script : List ℕ) (r : Result Outline Fault) → length script ≤ 32768 → Outcome script r → IfErr r (λ f. IfSome f.part Near)
part_near script (Ok o) short e = tt
part_near script (Err f) short e = near_if script f.part short (IfErr-at_err (PartStands script) e (placed script))
