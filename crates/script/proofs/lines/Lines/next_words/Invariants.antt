use Rattle.std.proofs.Common.{◌-◌, length}
use Rattle.script.proofs.Keeping.{Passing}
use Rattle.script.proofs.lines.Lines.next_words.Given as goal

abbrev pub invariant-loop-line : goal.invariant-loop-line
invariant-loop-line l = Passing l.initial.self l.self

abbrev pub decreases-loop-line : goal.decreases-loop-line
decreases-loop-line l = length l.self.script.now - l.self.at
