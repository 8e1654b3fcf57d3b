use Rattle.std.proofs.Common.{◌∙◌}
use Rattle.list.proofs.Holding.{follows}
use Rattle.list.proofs.node.next_of.Goals as goal

pub returns-clause-walk : goal.returns-clause-walk
returns-clause-walk g c = λ list s t. c.neighbours_of.ensures.next ∙ follows s c.args.i t
