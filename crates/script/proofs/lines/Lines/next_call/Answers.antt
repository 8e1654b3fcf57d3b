use Rattle.std.proofs.Common.{rules}
use Rattle.script.proofs.Checking.{call_found, calls_end}
use Rattle.script.proofs.lines.Lines.next_call.Goals as goal

pub returns-in_default : goal.returns-in_default
returns-in_default c = calls_end _ _ (rw c.in_default.is at c.in_ok-line.ensures)

pub returns : goal.returns
returns c =
    let found = rw c.in-Some.is at c.in_ok-line.ensures in
    call_found _ _ c.in-Some.line _ found (search rules)
