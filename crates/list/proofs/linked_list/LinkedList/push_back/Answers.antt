use Rattle.std.proofs.Common.{ℕ, ◌<◌, subst, arith}
use Rattle.std.proofs.lemmas.List.{length-map}
use Rattle.std.specs.Option.{IfSome}
use Rattle.list.proofs.Holding.{back_within, room}
use Rattle.list.proofs.Moving.{pushed}
use Rattle.list.proofs.linked_list.LinkedList.push_back.Goals as goal

pub join-requires-clause-a : goal.join-requires-clause-a
join-requires-clause-a g c =
    let P : ℕ → Type 0 = λ n. IfSome c.args.self.now.back (λ k. k < n) in
    subst P (length-map c.args.nodes.now g.N.Node.after) (back_within c.requires.sound)

pub overflow_add-self : goal.overflow_add-self
overflow_add-self g c =
    let long = length-map c.args.nodes.now g.N.Node.after in
    omega (arith, room c.requires.sound c.args.i (omega arith) c.requires.new, c.join.ensures.count, c.join-2.ensures.count)

pub returns : goal.returns
returns g c = pushed c.requires.sound c.requires.inside c.requires.new c.join.ensures c.join-2.ensures (omega arith)
