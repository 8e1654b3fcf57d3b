-- The steps of the reader of whole scripts.
use Rattle.std.specs.Prelude.{◌≡◌, ℕ, ◌+◌, ◌<◌, List, [], ◌∷◌, length, Some, None, Ok, Err, Option, Result}
use Rattle.script.specs.declared.fault.Fault.{Fault}
use Rattle.grammar.specs.declared.head.Head.{Head}
use Rattle.script.specs.declared.lines.Lines.{Lines}
use Rattle.script.specs.declared.lines.Outline.{Outline}
use Rattle.grammar.specs.declared.numbered.NumberedCall.{NumberedCall}
use Rattle.script.specs.declared.lines.WordLine.{WordLine}
use Rattle.grammar.specs.Text.{lines, skips}
use Rattle.script.specs.Parts.{failure_of}
use Rattle.script.specs.Lines.{lines_left, rows_left}
use Rattle.script.specs.Kept.{Found}
use Rattle.grammar.specs.Faults.{next}
use Rattle.grammar.specs.Reading.{head_row, head_rows, call_rows, good_calls, rows_behind, calls_of, read_script}

-- the step that adds nothing
abbrev pub okay : {A E : Type 0} → A → Result A E
okay x = Ok x

-- the next line of the head
abbrev pub HeadNext : Lines → Result WordLine Fault → Lines → Type 0
HeadNext s (Ok l) t = Found s l t
HeadNext s (Err f) t = head_row (length (lines s.script.now)) (rows_left s) ≡ Err (failure_of f)

-- the head, and the cursor behind it
pub record HeadFound (s : Lines) (h : Head) (t : Lines) : Type 0 where
  pub same : t.script.now ≡ s.script.now
  pub head : head_rows (length (lines s.script.now)) (rows_left s) ≡ Ok (h, rows_left t)
  pub behind : rows_left t ≡ rows_behind (rows_behind (rows_behind (rows_left s)))
  pub counted : t.skipped + skips (lines_left t) ≡ s.skipped + skips (lines_left s)

-- the whole head, or its first fault
abbrev pub HeadRead : Lines → Result Head Fault → Lines → Type 0
HeadRead s (Ok h) t = HeadFound s h t
HeadRead s (Err f) t = head_rows (length (lines s.script.now)) (rows_left s) ≡ Err (failure_of f)

-- the next call
pub record CallFound (s : Lines) (c : NumberedCall) (t : Lines) : Type 0 where
  pub same : t.script.now ≡ s.script.now
  pub calls : call_rows (rows_left s) ≡ next (call_rows (rows_left t)) (λ cs. Ok (c ∷ cs))
  pub good : good_calls (rows_left s) ≡ c ∷ good_calls (rows_left t)
  pub counted : t.skipped + skips (lines_left t) ≡ s.skipped + skips (lines_left s)
  pub on : s.at < t.at

-- no call is left, and no fault
pub record CallsEnd (s t : Lines) : Type 0 where
  pub calls : call_rows (rows_left s) ≡ Ok []
  pub good : good_calls (rows_left s) ≡ []
  pub counted : t.skipped ≡ s.skipped + skips (lines_left s)

-- a fault
pub record CallFails (s : Lines) (f : Fault) : Type 0 where
  pub calls : call_rows (rows_left s) ≡ Err (failure_of f)
  pub good : good_calls (rows_left s) ≡ []

-- the step of `next_call`, from s to t
abbrev pub CallRead : Lines → Result (Option NumberedCall) Fault → Lines → Type 0
CallRead s (Ok (Some c)) t = CallFound s c t
CallRead s (Ok None) t = CallsEnd s t
CallRead s (Err f) t = CallFails s f

-- the calls up to the end
pub record Sound (s t : Lines) : Type 0 where
  pub calls : call_rows (rows_left s) ≡ Ok (good_calls (rows_left s))
  pub counted : t.skipped ≡ s.skipped + skips (lines_left s)

-- the calls are all good, or here is the first fault
abbrev pub Checked : Lines → Result Unit Fault → Lines → Type 0
Checked s (Ok u) t = Sound s t
Checked s (Err f) t = call_rows (rows_left s) ≡ Err (failure_of f)

-- a script as it was read
abbrev pub Outcome : List ℕ → Result Outline Fault → Type 0
Outcome script (Ok o) = (read_script script ≡ Ok (o.head, calls_of script)) × (o.skipped ≡ skips (lines script))
Outcome script (Err f) = read_script script ≡ Err (failure_of f)
