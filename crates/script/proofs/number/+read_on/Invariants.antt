use Rattle.std.proofs.Common.{length}
use Rattle.script.proofs.number.+read_on.Given as goal

abbrev pub decreases-read-on : goal.decreases-read-on
decreases-read-on l = length l.word.now
