use Rattle.std.proofs.Common.{◌+◌, ◌<◌, length, refl, ap, arith}
use Rattle.script.proofs.Stepping.{head, row}
use Rattle.script.proofs.lines.Lines.next_line.Goals as goal

pub invariant_of-self-clause-counted : goal.invariant_of-self-clause-counted
invariant_of-self-clause-counted c =
    let s = c.args.self.now in
    let f = c.find-n.ensures in
    let more = head s.script.now s.at _ _ (omega (arith, s.within)) f.value f.within c.min-self.ensures in
    omega (arith, s.counted, ap length more)

pub returns : goal.returns
returns c =
    let s = c.args.self.now in
    let f = c.find-n.ensures in
    let some : s.at < length s.script.now = omega (arith, s.within) in
    record {
      same = refl;
      head = head s.script.now s.at _ _ some f.value f.within c.min-self.ensures;
      rest = row s.script.now s.at _ _ some f.value f.within c.min-self.ensures (s.count + 1);
      counted = refl;
      skips = refl;
      on = omega arith;
    }
