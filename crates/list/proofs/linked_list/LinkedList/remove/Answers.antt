use Rattle.std.proofs.Common.{ℕ, ◌<◌, Option, sym, subst₂, arith}
use Rattle.std.proofs.lemmas.List.{length-map}
use Rattle.std.specs.Option.{IfSome}
use Rattle.list.specs.Lists.{members}
use Rattle.list.proofs.Splitting.{split}
use Rattle.list.proofs.Holding.{prev_within, next_within}
use Rattle.list.proofs.Moving.{removed}
use Rattle.list.proofs.linked_list.LinkedList.remove.Goals as goal

pub join-requires : goal.join-requires
join-requires g c =
    let s = c.requires.sound in
    let ns = c.args.nodes.now in
    let at = split c.args.i (members g.N.Node.after ns c.args.self.now) c.requires.stands in
    let beside = c.neighbours_of-beside.ensures in
    let long = length-map ns g.N.Node.after in
    let P : Option ℕ → ℕ → Type 0 = λ p n. IfSome p (λ k. k < n) in
    record {
      a = subst₂ P (sym beside.prev) long (prev_within s at);
      b = subst₂ P (sym beside.next) long (next_within s at);
    }

pub returns : goal.returns
returns g c =
    let beside = c.neighbours_of-beside.ensures in
    removed c.requires.sound c.requires.stands beside.prev beside.next c.join.ensures c.unlink.ensures.links (omega arith) c.unlink.ensures.bare
