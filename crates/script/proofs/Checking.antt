-- Calls that are read one after another.
use Rattle.std.proofs.Common.{ℕ, ◌≡◌, ◌+◌, Bool, true, false, cond, ltb, List, [], ◌∷◌, ◌++◌, length, Some, None, Ok, Err, Option, Result, sym, refl, ap, ◌∙◌}
use Rattle.std.proofs.lemmas.List.{append_assoc}
use Rattle.rules.specs.declared.call.Call.{Call}
use Rattle.grammar.specs.declared.numbered.NumberedCall.{NumberedCall}
use Rattle.grammar.specs.Text.{Row, skipped, skips}
use Rattle.grammar.specs.Faults.{Failure, next}
use Rattle.grammar.specs.Calls.{call_in}
use Rattle.grammar.specs.Reading.{next_row, read_row, too_long, call_rows, call_then, good_calls}
use Rattle.script.specs.declared.fault.Fault.{Fault}
use Rattle.script.specs.declared.lines.Lines.{Lines}
use Rattle.script.specs.declared.lines.WordLine.{WordLine}
use Rattle.script.specs.Lines.{lines_left, rows_left}
use Rattle.script.specs.Kept.{Found, Ended, word_row}
use Rattle.script.specs.Parts.{failure_of}
use Rattle.script.specs.Outcome.{CallFound, CallsEnd, CallFails, okay}

-- the result and the calls of the rows, from the next one that is not skipped on
abbrev pub result_from : Result (Option (Row × List Row)) Failure → Result (List NumberedCall) Failure
result_from (Ok (Some (r, rs))) = next (read_row call_in r) (λ c. next (call_rows rs) (λ cs. Ok (record { line = r.number; call = c } ∷ cs)))
result_from (Ok None) = Ok []
result_from (Err f) = Err f

abbrev pub calls_from : Result (Option (Row × List Row)) Failure → List NumberedCall
calls_from (Ok (Some (r, rs))) = call_then r.number (read_row call_in r) (good_calls rs)
calls_from (Ok None) = []
calls_from (Err f) = []

-- f goes by the next row as g says, if it does so for the rows behind a skipped one
by_step : {A : Type 0} (g : Result (Option (Row × List Row)) Failure → A) (long skip : Bool) (r : Row) (rs : List Row) (v : A) → v ≡ g (next_row rs) → cond long (g (Err (too_long r))) (cond skip v (g (Ok (Some (r, rs))))) ≡ g (cond long (Err (too_long r)) (cond skip (next_row rs) (Ok (Some (r, rs)))))
by_step g true skip r rs v ih = refl
by_step g false true r rs v ih = ih
by_step g false false r rs v ih = refl

result_from_lem : (rs : List Row) → call_rows rs ≡ result_from (next_row rs)
result_from_lem [] = refl
result_from_lem (r ∷ rs) = by_step result_from (ltb 80 (length r.text.bytes)) (skipped r.text.bytes) r rs (call_rows rs) (result_from_lem rs)

calls_from_lem : (rs : List Row) → good_calls rs ≡ calls_from (next_row rs)
calls_from_lem [] = refl
calls_from_lem (r ∷ rs) = by_step calls_from (ltb 80 (length r.text.bytes)) (skipped r.text.bytes) r rs (good_calls rs) (calls_from_lem rs)

-- the four ways to read the next call
pub call_found : (s t : Lines) (l : WordLine) (c : Call) → Found s l t → Ok c ≡ read_row call_in (word_row l) → CallFound s (record { line = l.line.number; call = c }) t
call_found s t l c g e =
    record {
      same = g.same;
      calls = rw (result_from_lem (rows_left s), g.row, ← e);
      good = rw (calls_from_lem (rows_left s), g.row, ← e);
      counted = g.counted;
      on = g.on;
    }

pub call_fails : (s t : Lines) (l : WordLine) (f : Fault) → Found s l t → Err (failure_of f) ≡ read_row call_in (word_row l) → CallFails s f
call_fails s t l f g e =
    record { calls = rw (result_from_lem (rows_left s), g.row, ← e); good = rw (calls_from_lem (rows_left s), g.row, ← e) }

pub line_fails : (s : Lines) (f : Fault) → next_row (rows_left s) ≡ Err (failure_of f) → CallFails s f
line_fails s f e = record { calls = rw (result_from_lem (rows_left s), e); good = rw (calls_from_lem (rows_left s), e) }

pub calls_end : (s t : Lines) → Ended s t → CallsEnd s t
calls_end s t g =
    record { calls = rw (result_from_lem (rows_left s), g.row); good = rw (calls_from_lem (rows_left s), g.row); counted = g.counted }

-- the calls before t are read, and t is what is left
pub record Checking (s t : Lines) : Type 0 where
  pub same : t.script.now ≡ s.script.now
  pub past : List NumberedCall
  pub calls : call_rows (rows_left s) ≡ next (call_rows (rows_left t)) (λ cs. Ok (past ++ cs))
  pub good : good_calls (rows_left s) ≡ past ++ good_calls (rows_left t)
  pub counted : t.skipped + skips (lines_left t) ≡ s.skipped + skips (lines_left s)

-- one call more in front of what is left
pushed : (r : Result (List NumberedCall) Failure) (past : List NumberedCall) (c : NumberedCall) → next (next r (λ cs. Ok (c ∷ cs))) (λ cs. Ok (past ++ cs)) ≡ next r (λ cs. Ok ((past ++ (c ∷ [])) ++ cs))
pushed (Ok cs) past c = ap okay (sym (append_assoc past (c ∷ []) cs))
pushed (Err f) past c = refl

pub checking_more : (s t u : Lines) (c : NumberedCall) → Checking s t → CallFound t c u → Checking s u
checking_more s t u c h g =
    record {
      same = g.same ∙ h.same;
      past = h.past ++ (c ∷ []);
      calls = rw (h.calls, g.calls) (pushed (call_rows (rows_left u)) h.past c);
      good = rw (h.good, g.good, append_assoc);
      counted = g.counted ∙ h.counted;
    }
