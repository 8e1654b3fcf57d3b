-- The calls of a script that are left, and the step to the next.
use Rattle.std.specs.Prelude.{◌≡◌, List, [], ◌∷◌, Some, None, Option}
use Rattle.grammar.specs.declared.numbered.NumberedCall.{NumberedCall}
use Rattle.grammar.specs.Reading.{good_calls}
use Rattle.script.specs.declared.lines.Calls.{Calls}
use Rattle.script.specs.Lines.{rows_left}

-- the calls of the lines that are left
abbrev pub calls_left : Calls → List NumberedCall
calls_left s = good_calls (rows_left s.lines)

-- the first of the calls that are left, and then the others; at the end nothing changes
abbrev pub NextCall : Calls → Option NumberedCall → Calls → Type 0
NextCall s (Some c) t = calls_left s ≡ c ∷ calls_left t
NextCall s None t = (calls_left s ≡ []) × (t ≡ s)
