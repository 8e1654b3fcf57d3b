use Rattle.std.proofs.Common.{sym, ap, arith}
use Rattle.std.specs.List.{slice_get}
use Rattle.list.proofs.Holding.{first_in_slice}
use Rattle.list.proofs.Unique.{truly}
use Rattle.list_examples.proofs.Pending.{taken}
use Rattle.list_examples.proofs.profile.Profile.next_write.Goals as goal

pub pop_front-requires : goal.pop_front-requires
pop_front-requires c = truly c.args.self.now.sound

pub bounds-self-from : goal.bounds-self-from
bounds-self-from c = omega (arith, first_in_slice _ _ _ _ (truly c.args.self.now.sound) _ _ c.in_ok-i.ensures.holds)

pub returns : goal.returns
returns c =
    let popped = c.in_ok-i.ensures in
    let front = taken _ _ c.args.self.now.waiting c.pop_front.new.self _ _ (omega (arith, first_in_slice _ _ _ _ (truly c.args.self.now.sound) _ _ popped.holds)) popped.leaves.fields popped.holds in
    record { front = rw c.from.ensures (sym (ap (λ l. slice_get l 0) front)); rest = rw c.from.ensures front }
