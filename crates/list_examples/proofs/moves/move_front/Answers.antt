use Rattle.std.proofs.Common.{arith}
use Rattle.list_examples.proofs.Moving.{inside, moved}
use Rattle.list_examples.proofs.moves.move_front.Goals as goal

pub push_back-requires-clause-inside : goal.push_back-requires-clause-inside
push_back-requires-clause-inside g c = omega (arith, inside c.requires.from c.requires.to c.requires.apart c.in_ok-i.ensures)

pub returns : goal.returns
returns g c = moved c.requires.from c.requires.to c.requires.apart c.in_ok-i.ensures (omega arith) c.push_back.ensures
