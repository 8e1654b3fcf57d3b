-- Counts of calls: a script has few calls.
use Rattle.std.proofs.Common.{◌≡◌, ℕ, suc, ◌+◌, ◌≤◌, Bool, cond, eqb, ltb, List, [], ◌∷◌, length, drop, Ok, Err, Result, refl, ap, arith}
use Rattle.std.proofs.lemmas.List.{length-drop}
use Rattle.rules.specs.declared.call.Call.{Call}
use Rattle.rules.specs.Format.{verb_index, verb_of}
use Rattle.grammar.specs.declared.numbered.NumberedCall.{NumberedCall}
use Rattle.grammar.specs.Faults.{Failure}
use Rattle.grammar.specs.Text.{Row, grow, lines, skipped, rows}
use Rattle.grammar.specs.Calls.{call_in}
use Rattle.grammar.specs.Reading.{read_row, call_then, good_calls}
use Rattle.script.specs.declared.lines.Calls.{Calls}
use Rattle.script.specs.Lines.{rows_left}
use Rattle.script.specs.CallsLeft.{calls_left}
use Rattle.report.specs.Report.{count_at}

length-grow : (c : ℕ) (ls : List (List ℕ)) → length (grow c ls) ≤ length ls + 1
length-grow c [] = omega arith
length-grow c (l ∷ ls) = omega arith

length_part : (ends : Bool) (c : ℕ) (ls : List (List ℕ)) → length (cond ends ([] ∷ ls) (grow c ls)) ≤ length ls + 1
length_part ends c ls = grind (arith, length-grow c ls)

-- a text has no more lines than bytes
length-lines : (text : List ℕ) → length (lines text) ≤ length text
length-lines [] = omega arith
length-lines (c ∷ cs) = omega (arith, length_part (eqb c 10) c (lines cs), length-lines cs)

length-rows : (n k : ℕ) (ls : List (List ℕ)) → length (rows n k ls) ≡ length ls
length-rows n k [] = refl
length-rows n k (l ∷ ls) = ap suc (length-rows (n + 1) (k + length l + 1) ls)

length_then : (n : ℕ) (r : Result Call Failure) (cs : List NumberedCall) → length (call_then n r cs) ≤ length cs + 1
length_then n (Ok c) cs = omega arith
length_then n (Err f) cs = omega arith

length_row : (long skip : Bool) (n : ℕ) (r : Result Call Failure) (cs : List NumberedCall) → length (cond long [] (cond skip cs (call_then n r cs))) ≤ length cs + 1
length_row long skip n r cs = grind (arith, length_then n r cs)

-- rows have no more calls than there are rows
length_good : (rs : List Row) → length (good_calls rs) ≤ length rs
length_good [] = omega arith
length_good (r ∷ rs) =
    omega (arith, length_row (ltb 80 (length r.text.bytes)) (skipped r.text.bytes) r.number (read_row call_in r) (good_calls rs), length_good rs)

-- a script has no more calls than the longest script has bytes
few_calls : (s : Calls) → length (calls_left s) ≤ 32768
few_calls s =
    let left = drop s.lines.at s.lines.script.now in
    omega (arith, length_good (rows_left s.lines), length-rows (s.lines.count + 1) s.lines.at (lines left), length-lines left, length-drop s.lines.at s.lines.script.now)

count_one : (here : Bool) (n : ℕ) → cond here 1 0 + n ≤ n + 1
count_one here n = grind arith

-- no count exceeds the number of calls
count_le : (k : ℕ) (cs : List NumberedCall) → count_at k cs ≤ length cs
count_le k [] = omega arith
count_le k (c ∷ cs) = omega (arith, count_one (eqb (verb_index (verb_of c.call)) k) (count_at k cs), count_le k cs)

-- so every count fits its type
pub count_small : (k : ℕ) (s : Calls) → count_at k (calls_left s) ≤ 32768
count_small k s = omega (arith, count_le k (calls_left s), few_calls s)
