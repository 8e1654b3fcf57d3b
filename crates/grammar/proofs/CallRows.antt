-- The rows of the body are read as the calls that their kept lines write.
use Rattle.std.proofs.Common.{◌≡◌, ℕ, ◌^◌, ◌<◌, true, false, not, cond, ltb, List, [], ◌∷◌, map, length, Ok, Result, refl, ap}
use Rattle.std.proofs.lemmas.Bool.{ltb-false, le-ltb}
use Rattle.grammar.specs.declared.numbered.NumberedCall.{NumberedCall}
use Rattle.grammar.specs.Text.{Row, skipped}
use Rattle.grammar.specs.Faults.{Failure, next}
use Rattle.grammar.specs.Calls.{call_in}
use Rattle.grammar.specs.Reading.{read_row, call_rows}
use Rattle.grammar.specs.Grammar.{All, written, numbers_of}
use Rattle.grammar.specs.Places.{Stands, PartStands}
use Rattle.grammar.proofs.Known.{Known, right, wrong, known_more, step_knows, test_knows}
use Rattle.grammar.proofs.Standing.{front_stands, RowStands}
use Rattle.grammar.proofs.CallLines.{call_complete, call_reads}
use Rattle.grammar.proofs.KeptRows.{unskipped, told, Narrow, row_says}

-- the numbered lines that calls are written as
abbrev pub call_texts : List NumberedCall → List (ℕ × List ℕ)
call_texts cs = map (λ c. (c.line, written c.call)) cs

-- of the rows rs the kept ones tell texts, and that is what the calls are written as
pub record Called (texts : List (ℕ × List ℕ)) (rs : List Row) (cs : List NumberedCall) : Type 0 where
  pub are : texts ≡ call_texts cs
  pub narrow : All Narrow rs
  pub numbers : All (λ c. All (λ n. n < 2 ^ 32) (numbers_of c.call)) cs

-- a row that is not skipped, and then the rows rs
abbrev body_row : Row → List Row → Result (List NumberedCall) Failure
body_row r rs = next (read_row call_in r) (λ c. next (call_rows rs) (λ cs. Ok (record { line = r.number; call = c } ∷ cs)))

-- calls that are read are what the kept rows write
pub rows_called : (script : List ℕ) (rs : List Row) → All (RowStands script) rs → Known (Called (map told (unskipped rs)) rs) (PartStands script) (call_rows rs)
rows_called script [] h = right [] (record { are = refl; narrow = tt; numbers = tt })
rows_called script (r ∷ rs) h =
    let more = rows_called script rs h.1 in
    test_knows (ltb 80 (length r.text.bytes)) (λ _. wrong _ (front_stands script 80 r.text h.0)) (λ test.
    let short = ltb-false 80 (length r.text.bytes) test in
    elim (skipped r.text.bytes) as (λ t. Known (Called (map told (cond (not t) (r ∷ unskipped rs) (unskipped rs))) (r ∷ rs)) (PartStands script) (cond t (call_rows rs) (body_row r rs))) [
      | true ↦ known_more (call_rows rs) more (λ cs k. record { are = k.are; narrow = (short, k.narrow); numbers = k.numbers })
      | false ↦
          step_knows _ _ _ (row_says (call_reads (Stands script)) r h.0) (λ c line.
          step_knows _ _ _ more (λ cs k.
          right (record { line = r.number; call = c } ∷ cs) (record { are = (λ i. (r.number, line.0 i) ∷ k.are i); narrow = (short, k.narrow); numbers = (line.1, k.numbers) })))
    ])

-- the first row that is kept writes the first call
read_first : (r : Row) (rs : List Row) (cs : List NumberedCall) → ((ds : List NumberedCall) → Called (map told (unskipped rs)) rs ds → call_rows rs ≡ Ok ds) → Called (told r ∷ map told (unskipped rs)) (r ∷ rs) cs → body_row r rs ≡ Ok cs
read_first r rs [] ih h = cc
read_first r rs (c ∷ cs) ih h =
    let same : told r ≡ (c.line, written c.call) = cc in
    let number = ap (λ z. z.0) same in
    let more : map told (unskipped rs) ≡ call_texts cs = cc in
    simp (call_complete r.text c.call (ap (λ z. z.1) same, h.numbers.0), ih cs (record { are = more; narrow = h.narrow.1; numbers = h.numbers.1 }), number)

-- what the kept rows write is read as the calls
pub rows_read : (rs : List Row) (cs : List NumberedCall) → Called (map told (unskipped rs)) rs cs → call_rows rs ≡ Ok cs
rows_read [] [] h = refl
rows_read [] (c ∷ cs) h = cc
rows_read (r ∷ rs) cs h =
    let read = elim (skipped r.text.bytes) as (λ t. Called (map told (cond (not t) (r ∷ unskipped rs) (unskipped rs))) (r ∷ rs) cs → cond t (call_rows rs) (body_row r rs) ≡ Ok cs) [
      | true ↦ λ k. rows_read rs cs (record { are = k.are; narrow = k.narrow.1; numbers = k.numbers })
      | false ↦ λ k. read_first r rs cs (rows_read rs) k
    ] h in
    rw (le-ltb 80 (length r.text.bytes) h.narrow.0) read
