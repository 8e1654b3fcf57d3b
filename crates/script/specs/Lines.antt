-- The line reader: what is left of a script, and one step.
use Rattle.std.specs.Prelude.{◌≡◌, ℕ, ◌+◌, ◌<◌, false, List, [], ◌∷◌, drop, Some, None, Option, ◌==◌}
use Rattle.std.specs.List.{position_or_len}
use Rattle.script.specs.declared.line.Line.{Line}
use Rattle.script.specs.declared.line.Line.TheVariants.{Empty, Comment, Words}
use Rattle.script.specs.declared.lines.Lines.{Lines}
use Rattle.script.specs.declared.lines.NumberedLine.{NumberedLine}
use Rattle.grammar.specs.Text.{Piece, Row, lines, skipped, rows, words_in}
use Rattle.script.specs.Parts.{piece_of, words_left}

-- the place of the first b, or the length
abbrev pub place : ℕ → List ℕ → ℕ
place b w = position_or_len (λ c. c == b) w

-- what a line says
abbrev pub Says : Piece → Line → Type 0
Says text Empty = text.bytes ≡ []
Says text (Comment rest) = text.bytes ≡ 35 ∷ rest.now
Says text (Words first rest) = (skipped text.bytes ≡ false) × (words_in text ≡ piece_of first ∷ words_left rest)

-- the lines that are left
abbrev pub lines_left : Lines → List (List ℕ)
lines_left s = lines (drop s.at s.script.now)

-- the same as rows: the next has the number behind the count
abbrev pub rows_left : Lines → List Row
rows_left s = rows (s.count + 1) s.at (lines_left s)

-- a line of the cursor as a row
abbrev pub row_of : NumberedLine → Row
row_of l = record { number = l.number; text = piece_of l.text.part }

-- the cursor stands before the first line of the script
pub record Fresh (script : List ℕ) (s : Lines) : Type 0 where
  pub same : s.script.now ≡ script
  pub first : rows_left s ≡ rows 1 0 (lines script)
  pub left : lines_left s ≡ lines script
  pub none : s.skipped ≡ 0

-- one step: the first line that is left
pub record Given (s : Lines) (l : NumberedLine) (t : Lines) : Type 0 where
  pub same : t.script.now ≡ s.script.now
  pub head : lines_left s ≡ l.text.part.bytes.now ∷ lines_left t
  pub rest : rows_left s ≡ row_of l ∷ rows_left t
  pub counted : t.count ≡ s.count + 1
  pub skips : t.skipped ≡ s.skipped
  pub on : s.at < t.at

-- no line is left, and the cursor stays
pub record Done (s t : Lines) : Type 0 where
  pub none : lines_left s ≡ []
  pub still : t ≡ s

-- the step of `next_line`, from s to t
abbrev pub Next : Lines → Option NumberedLine → Lines → Type 0
Next s None t = Done s t
Next s (Some l) t = Given s l t
