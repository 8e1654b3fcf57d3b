use Rattle.std.proofs.Common.{◌<◌, arith, rules}
use Rattle.report.proofs.Counts.{count_small}
use Rattle.report.proofs.tally.Goals as goal

pub overflow_add-counts : goal.overflow_add-counts
overflow_add-counts c =
    let i = c.from.result in
    let below : i < 12 = search rules in
    omega (arith, c.loop-next.invariant.each i below, count_small i c.args.calls)
