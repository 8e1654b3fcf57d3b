use Rattle.std.proofs.Common.{◌<◌, ap, ◌∙◌, rules}
use Rattle.script.specs.CallsLeft.{calls_left}
use Rattle.report.specs.Report.{count_at}
use Rattle.report.proofs.Lines.{lines_more}
use Rattle.report.proofs.write_calls.Goals as goal

pub loop-verb-preserved : goal.loop-verb-preserved
loop-verb-preserved c =
    let below : c.from.result < 12 = search rules in
    let count = c.tally-counts.ensures c.from.result below ∙ ap (λ k. count_at k (calls_left c.args.calls)) c.from.ensures in
    c.in_ok-writeln.ensures.bytes
    ∙ lines_more (calls_left c.args.calls) _ _ _ c.loop-verb.verb-index _ c.loop-verb-test.true c.loop-verb.invariant count
