-- The step of the line reader to the next line that is not skipped.
use Rattle.std.specs.Prelude.{◌≡◌, ◌+◌, ◌<◌, [], Some, None, Ok, Err, Option, Result}
use Rattle.script.specs.declared.fault.Fault.{Fault}
use Rattle.script.specs.declared.lines.Lines.{Lines}
use Rattle.script.specs.declared.lines.WordLine.{WordLine}
use Rattle.grammar.specs.Text.{Row, skips}
use Rattle.script.specs.Parts.{failure_of}
use Rattle.script.specs.Lines.{lines_left, rows_left, row_of}
use Rattle.grammar.specs.Reading.{next_row}

-- the row of a line
abbrev pub word_row : WordLine → Row
word_row l = row_of l.line

-- the line l is the next one
pub record Found (s : Lines) (l : WordLine) (t : Lines) : Type 0 where
  pub same : t.script.now ≡ s.script.now
  pub row : next_row (rows_left s) ≡ Ok (Some (word_row l, rows_left t))
  pub counted : t.skipped + skips (lines_left t) ≡ s.skipped + skips (lines_left s)
  pub on : s.at < t.at

-- there is none
pub record Ended (s t : Lines) : Type 0 where
  pub same : t.script.now ≡ s.script.now
  pub row : next_row (rows_left s) ≡ Ok None
  pub none : lines_left t ≡ []
  pub counted : t.skipped ≡ s.skipped + skips (lines_left s)

-- the step of `next_words`, from s to t
abbrev pub Kept : Lines → Result (Option WordLine) Fault → Lines → Type 0
Kept s (Ok (Some l)) t = Found s l t
Kept s (Ok None) t = Ended s t
Kept s (Err f) t = next_row (rows_left s) ≡ Err (failure_of f)
