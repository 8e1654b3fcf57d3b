-- Lines that are passed over.
use Rattle.std.proofs.Common.{◌≡◌, ◌+◌, ◌≤◌}
use Rattle.script.specs.declared.lines.Lines.{Lines}
use Rattle.grammar.specs.Text.{skips}
use Rattle.script.specs.Lines.{lines_left, rows_left}
use Rattle.grammar.specs.Reading.{next_row}

-- from s on, only skipped lines were passed over, up to t
pub record Passing (s t : Lines) : Type 0 where
  pub same : t.script.now ≡ s.script.now
  pub row : next_row (rows_left s) ≡ next_row (rows_left t)
  pub counted : t.skipped + skips (lines_left t) ≡ s.skipped + skips (lines_left s)
  pub on : s.at ≤ t.at
