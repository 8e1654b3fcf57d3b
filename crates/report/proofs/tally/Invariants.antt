use Rattle.std.proofs.Common.{◌≡◌, ℕ, ◌+◌, ◌<◌, length, get_or}
use Rattle.script.specs.CallsLeft.{calls_left}
use Rattle.report.specs.Report.{count_at}
use Rattle.report.proofs.tally.Given as goal

-- of each verb's calls, these are counted and the others are left
abbrev pub invariant-loop-next : goal.invariant-loop-next
invariant-loop-next l = record {
  long : length l.counts ≡ 12;
  each : (k : ℕ) → k < 12 → get_or l.counts k 0 + count_at k (calls_left l.next-iterator) ≡ count_at k (calls_left l.calls);
}
