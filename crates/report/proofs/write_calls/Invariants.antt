use Rattle.std.proofs.Common.{◌≡◌, ◌++◌, take, string_bytes}
use Rattle.std.specs.List.{flat_map}
use Rattle.rules.specs.Format.{verbs}
use Rattle.script.specs.CallsLeft.{calls_left}
use Rattle.report.specs.Report.{verb_report}
use Rattle.report.proofs.write_calls.Given as goal

-- behind the text as it was, the lines on the verbs so far
abbrev pub invariant-loop-verb : goal.invariant-loop-verb
invariant-loop-verb l = string_bytes l.text ≡ string_bytes l.fn.text ++ flat_map (verb_report (calls_left l.calls)) (take l.verb-index verbs)
