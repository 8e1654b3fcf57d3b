-- The rows that are not skipped, and the next of them.
use Rattle.std.proofs.Common.{◌≡◌, ℕ, ◌+◌, ◌≤◌, true, false, not, cond, ltb, List, [], ◌∷◌, map, length, Some, None, Ok, Err, Option, Result, sym, refl, subst, arith, IfSome}
use Rattle.std.specs.List.{filter}
use Rattle.std.proofs.lemmas.Bool.{ltb-false, le-ltb}
use Rattle.std.proofs.lemmas.Option.{IfSome_then}
use Rattle.std.proofs.lemmas.Grind.{common_steps}
use Rattle.grammar.specs.Text.{Piece, Row, skipped, rows}
use Rattle.grammar.specs.Faults.{Blame, Failure, in_row}
use Rattle.grammar.specs.Reading.{next_row, needed, head_row, read_row}
use Rattle.grammar.specs.Grammar.{All, kept}
use Rattle.grammar.specs.Places.{Stands, PartStands}
use Rattle.grammar.proofs.Known.{Known, right, wrong, known_more, step_knows, test_knows, Reads}
use Rattle.grammar.proofs.Standing.{front_stands, words_stand, RowStands}

-- the rows that are not skipped
abbrev pub unskipped : List Row → List Row
unskipped rs = filter (λ r. not (skipped r.text.bytes)) rs

-- the number and the text of a row
abbrev pub told : Row → ℕ × List ℕ
told r = (r.number, r.text.bytes)

-- the lines that are not skipped are those of the rows that are not
pub kept-rows : (n k : ℕ) (ls : List (List ℕ)) → kept n ls ≡ map told (unskipped (rows n k ls))
kept-rows n k [] = refl
kept-rows n k (l ∷ ls) = grind (arith, common_steps, kept-rows (n + 1) (k + length l + 1) ls)

-- a row is short enough
abbrev pub Narrow : Row → Type 0
Narrow r = length r.text.bytes ≤ 80

-- so are lines if their rows are
pub lines_narrow : (n k : ℕ) (ls : List (List ℕ)) → All Narrow (rows n k ls) → All (λ l. length l ≤ 80) ls
lines_narrow n k [] h = tt
lines_narrow n k (l ∷ ls) h = (h.0, lines_narrow (n + 1) (k + length l + 1) ls h.1)

-- and rows are if their lines are
pub rows_narrow : (n k : ℕ) (ls : List (List ℕ)) → All (λ l. length l ≤ 80) ls → All Narrow (rows n k ls)
rows_narrow n k [] h = tt
rows_narrow n k (l ∷ ls) h = (h.0, rows_narrow (n + 1) (k + length l + 1) ls h.1)

-- of the rows rs the ones in keeps are kept: the first is y.0, and the rows y.1 come behind it; all of these stand in the script
pub record Found (script : List ℕ) (keeps rs : List Row) (y : Row × List Row) : Type 0 where
  pub first : keeps ≡ y.0 ∷ unskipped y.1
  pub narrow : All Narrow y.1 → All Narrow rs
  pub stand : All (RowStands script) (y.0 ∷ y.1)

-- a row that comes next is the first that is kept
found : (script : List ℕ) (rs : List Row) → All (RowStands script) rs → Known (λ o. IfSome o (Found script (unskipped rs) rs)) (PartStands script) (next_row rs)
found script [] h = right None tt
found script (r ∷ rs) h =
    test_knows (ltb 80 (length r.text.bytes)) (λ _. wrong _ (front_stands script 80 r.text h.0)) (λ test.
    let short = ltb-false 80 (length r.text.bytes) test in
    elim (skipped r.text.bytes) as (λ t. Known (λ o. IfSome o (Found script (cond (not t) (r ∷ unskipped rs) (unskipped rs)) (r ∷ rs))) (PartStands script) (cond t (next_row rs) (Ok (Some (r, rs))))) [
      | true ↦ known_more (next_row rs) (found script rs h.1) (λ o k. IfSome_then o k (λ y f. record { first = f.first; narrow = λ n. (short, f.narrow n); stand = f.stand }))
      | false ↦ right (Some (r, rs)) (record { first = refl; narrow = λ n. (short, n); stand = h })
    ])

-- what is known of the next row is known of the row that the head needs
needed_knows : {P : Row × List Row → Type 0} (script : List ℕ) (n : ℕ) (s : Result (Option (Row × List Row)) Failure) → Known (λ o. IfSome o P) (PartStands script) s → Known P (PartStands script) (needed n s)
needed_knows script n (Ok (Some y)) h = record { cases = h.cases }
needed_knows script n (Ok None) h = record { cases = tt }
needed_knows script n (Err f) h = record { cases = h.cases }

-- so is the row that the head needs
pub head_found : (script : List ℕ) (n : ℕ) (rs : List Row) → All (RowStands script) rs → Known (Found script (unskipped rs) rs) (PartStands script) (head_row n rs)
head_found script n rs h = needed_knows script n (next_row rs) (found script rs h)

-- what is read of a row is read of its text
pub row_says : {A : Type 0} {script : List ℕ} {f : Piece → Result A Blame} {Q : List ℕ → A → Type 0} → Reads (Stands script) f Q → (r : Row) → RowStands script r → Known (Q r.text.bytes) (PartStands script) (read_row f r)
row_says {script = script} {f = f} reads r h = step_knows (in_row r) (f r.text) _ (reads.sound r.text h (words_stand script r.text h)) (λ x q. right x q)

-- s gives a row that tells x, and rows behind it of which the kept ones tell rest
pub record Comes (s : Result (Option (Row × List Row)) Failure) (x : ℕ × List ℕ) (rest : List (ℕ × List ℕ)) : Type 0 where
  pub row : Row
  pub behind : List Row
  pub is : s ≡ Ok (Some (row, behind))
  pub tells : told row ≡ x
  pub narrow : All Narrow behind
  pub keeps : map told (unskipped behind) ≡ rest

-- the first row that is kept comes next
comes : (rs : List Row) (x : ℕ × List ℕ) (rest : List (ℕ × List ℕ)) → All Narrow rs → map told (unskipped rs) ≡ x ∷ rest → Comes (next_row rs) x rest
comes [] x rest h e = cc
comes (r ∷ rs) x rest h e =
    let next = elim (skipped r.text.bytes) as (λ t. map told (cond (not t) (r ∷ unskipped rs) (unskipped rs)) ≡ x ∷ rest → Comes (cond t (next_row rs) (Ok (Some (r, rs)))) x rest) [
      | true ↦ λ s. comes rs x rest h.1 s
      | false ↦ λ s. record { row = r; behind = rs; is = refl; tells = cc; narrow = h.1; keeps = cc }
    ] e in
    rw (le-ltb 80 (length r.text.bytes) h.0) next

-- the first row that is kept is read as what it says
pub head_read : {A : Type 0} {f : Piece → Result A Blame} {P : Piece → Type 0} {Q : List ℕ → A → Type 0} → Reads P f Q → (rs : List Row) (m : ℕ) (l : List ℕ) (x : A) (rest : List (ℕ × List ℕ)) → All Narrow rs → map told (unskipped rs) ≡ (m, l) ∷ rest → Q l x → (c : Comes (next_row rs) (m, l) rest) × (f c.row.text ≡ Ok x)
head_read {Q = Q} reads rs m l x rest h e q =
    let c = comes rs (m, l) rest h e in
    (c, reads.complete c.row.text x (subst (λ t. Q t.1 x) (sym c.tells) q))
