use Rattle.std.proofs.Common.{◌-◌, length}
use Rattle.script.proofs.Checking.{Checking}
use Rattle.script.proofs.lines.Lines.check_calls.Given as goal

abbrev pub invariant-loop : goal.invariant-loop
invariant-loop l = Checking l.initial.self l.self

abbrev pub decreases-loop : goal.decreases-loop
decreases-loop l = length l.self.script.now - l.self.at
