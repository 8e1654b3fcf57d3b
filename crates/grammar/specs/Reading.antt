-- A whole script: the head, the calls in their order, or the first fault.
use Rattle.std.specs.Prelude.{ℕ, ◌+◌, cond, List, [], ◌∷◌, length, take, Some, None, Ok, Err, Option, Result, nat_lt}
use Rattle.rules.specs.declared.call.Call.{Call}
use Rattle.rules.specs.declared.fault.FaultKind.TheVariants.{ScriptTooLong, LineTooLong, UnknownVerb}
use Rattle.grammar.specs.declared.head.Head.{Head}
use Rattle.grammar.specs.declared.numbered.NumberedCall.{NumberedCall}
use Rattle.grammar.specs.Text.{Piece, Row, lines, skipped, rows}
use Rattle.grammar.specs.Faults.{Blame, Failure, in_row, passed, next}
use Rattle.grammar.specs.Calls.{call_in}
use Rattle.grammar.specs.Heads.{engine_in, policy_in, store_in}

-- a line that is too long: its first 80 bytes are at fault
abbrev pub too_long : Row → Failure
too_long r =
    in_row r (record { kind = LineTooLong; part = record { at = r.text.at; bytes = take 80 r.text.bytes } })

-- the first row that is not skipped, with the rows behind it; a row that is too long is at fault, skipped or not
abbrev pub next_row : List Row → Result (Option (Row × List Row)) Failure
next_row [] = Ok None
next_row (r ∷ rs) =
    cond (nat_lt 80 (length r.text.bytes)) (Err (too_long r)) (cond (skipped r.text.bytes) (next_row rs) (Ok (Some (r, rs))))

-- the next line of the head, with the rows behind it; n is the count of the script's lines, and the script must not end here
abbrev pub needed : ℕ → Result (Option (Row × List Row)) Failure → Result (Row × List Row) Failure
needed n (Ok (Some l)) = Ok l
needed n (Ok None) = Err (record { kind = UnknownVerb; line = n + 1; part = None })
needed n (Err f) = Err f

-- the same of the rows themselves
abbrev pub head_row : ℕ → List Row → Result (Row × List Row) Failure
head_row n rs = needed n (next_row rs)

-- what f reads of a row
abbrev pub read_row : {A : Type 0} → (Piece → Result A Blame) → Row → Result A Failure
read_row f r = passed (in_row r) (f r.text) (λ x. Ok x)

-- the rows of the body: their calls in order, or the first fault
abbrev pub call_rows : List Row → Result (List NumberedCall) Failure
call_rows [] = Ok []
call_rows (r ∷ rs) =
    cond (nat_lt 80 (length r.text.bytes)) (Err (too_long r))
    (cond (skipped r.text.bytes) (call_rows rs)
    (next (read_row call_in r) (λ c. next (call_rows rs) (λ cs. Ok (record { line = r.number; call = c } ∷ cs)))))

-- the head of a script of n lines, with the rows behind it: three lines in their order
abbrev pub head_rows : ℕ → List Row → Result (Head × List Row) Failure
head_rows n rs =
    next (head_row n rs) (λ first. next (read_row engine_in first.0) (λ sizes.
    next (head_row n first.1) (λ second. next (read_row policy_in second.0) (λ policy.
    next (head_row n second.1) (λ third. next (read_row store_in third.0) (λ store.
    Ok (record { sizes = sizes; policy = policy.0; cap = policy.1; store = store }, third.1)))))))

-- the rows of a script of n lines: the head, then the body
abbrev pub script_rows : ℕ → List Row → Result (Head × List NumberedCall) Failure
script_rows n rs = next (head_rows n rs) (λ head. next (call_rows head.1) (λ calls. Ok (head.0, calls)))

-- a whole script
abbrev pub read_script : List ℕ → Result (Head × List NumberedCall) Failure
read_script script =
    cond (nat_lt 32768 (length script)) (Err (record { kind = ScriptTooLong; line = 0; part = None })) (script_rows (length (lines script)) (rows 1 0 (lines script)))

-- a call and the calls behind it; a fault ends the list
abbrev pub call_then : ℕ → Result Call Failure → List NumberedCall → List NumberedCall
call_then n (Ok c) cs = record { line = n; call = c } ∷ cs
call_then n (Err f) cs = []

-- the calls of the rows, up to the first fault
abbrev pub good_calls : List Row → List NumberedCall
good_calls [] = []
good_calls (r ∷ rs) =
    cond (nat_lt 80 (length r.text.bytes)) [] (cond (skipped r.text.bytes) (good_calls rs) (call_then r.number (read_row call_in r) (good_calls rs)))

-- the rows behind the next row that is not skipped; none if there is no such row, or a fault before it
abbrev pub behind_row : Result (Option (Row × List Row)) Failure → List Row
behind_row (Ok (Some (r, rs))) = rs
behind_row (Ok None) = []
behind_row (Err f) = []

-- the same of the rows themselves
abbrev pub rows_behind : List Row → List Row
rows_behind rs = behind_row (next_row rs)

-- the calls behind the head of a script, up to the first fault; none of a script that is too long
abbrev pub calls_of : List ℕ → List NumberedCall
calls_of script = cond (nat_lt 32768 (length script)) [] (good_calls (rows_behind (rows_behind (rows_behind (rows 1 0 (lines script))))))
