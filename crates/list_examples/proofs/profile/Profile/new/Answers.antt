use Rattle.std.proofs.Common.{ap, ◌∙◌, arith}
use Rattle.list.specs.Numbers.{times}
use Rattle.list.specs.Lists.{members}
use Rattle.list_examples.specs.Kinds.{write_after}
use Rattle.list_examples.proofs.Pending.{beyond, one_more, all_pending}
use Rattle.list_examples.proofs.profile.Profile.new.Goals as goal

pub push_back-requires-clause-new : goal.push_back-requires-clause-new
push_back-requires-clause-new c = ap (times c.loop-i.i) c.loop-i.invariant.holds ∙ beyond c.loop-i.i 0 c.loop-i.i (omega arith)

pub loop-i-preserved : goal.loop-i-preserved
loop-i-preserved c =
    let inv = c.loop-i.invariant in
    let i = c.loop-i.i in
    let e = c.push_back.ensures in
    let xs = members write_after c.loop-i.writes c.loop-i.waiting in
    let xs' = members write_after c.push_back.new.nodes c.push_back.new.self in
    record {
      sound = e.sound;
      holds = one_more i xs xs' inv.holds e.holds;
      fields = e.leaves.fields ∙ inv.fields;
    }

pub returns : goal.returns
returns c =
    let inv = c.loop-i.invariant in
    let ws = c.args.writes in
    let ws' = c.loop-i.writes in
    all_pending ws ws' c.loop-i.waiting c.loop-i.i (omega arith) inv.fields inv.holds
