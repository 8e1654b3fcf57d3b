-- The reader admits exactly the scripts of the grammar.
use Rattle.std.proofs.Common.{◌≡◌, ℕ, ltb, ◌≤◌, List, ◌∷◌, map, length, Ok, Err, Result, sym, refl, ap, ◌∙◌, subst, MatchResult}
use Rattle.std.proofs.lemmas.Bool.{ltb-false, le-ltb}
use Rattle.grammar.specs.declared.head.Head.{Head}
use Rattle.grammar.specs.declared.numbered.NumberedCall.{NumberedCall}
use Rattle.grammar.specs.Text.{Row, lines, rows}
use Rattle.grammar.specs.Faults.{Failure}
use Rattle.grammar.specs.Reading.{head_rows, read_script}
use Rattle.grammar.specs.Grammar.{All, engine_line, policy_line, store_line, kept, Admitted, Exactly}
use Rattle.grammar.proofs.Cuts.{lined, lines_of}
use Rattle.grammar.specs.Places.{Stands, PartStands}
use Rattle.grammar.proofs.Known.{Known, right, wrong, step_knows, test_knows}
use Rattle.grammar.proofs.Standing.{RowStands, rows_stand}
use Rattle.grammar.proofs.HeadLines.{EngineLine, PolicyLine, StoreLine, engine_reads, policy_reads, store_reads}
use Rattle.grammar.proofs.KeptRows.{unskipped, told, kept-rows, Narrow, lines_narrow, rows_narrow, head_found, row_says, head_read}
use Rattle.grammar.proofs.CallRows.{call_texts, Called, rows_called, rows_read}

-- of the rows rs the first three that are kept say the head x.0, and the rows x.1 come behind them, which stand in the script
record Headed (script : List ℕ) (rs : List Row) (x : Head × List Row) : Type 0 where
  first : Row
  second : Row
  third : Row
  keeps : unskipped rs ≡ first ∷ second ∷ third ∷ unskipped x.1
  narrow : All Narrow x.1 → All Narrow rs
  engine : EngineLine first.text.bytes x.0.sizes
  policy : PolicyLine second.text.bytes (x.0.policy, x.0.cap)
  store : StoreLine third.text.bytes x.0.store
  stand : All (RowStands script) x.1

-- so it is of rows of which a head is read
headed : (script : List ℕ) (n : ℕ) (rs : List Row) → All (RowStands script) rs → Known (Headed script rs) (PartStands script) (head_rows n rs)
headed script n rs h =
    step_knows _ _ _ (head_found script n rs h) (λ y a. step_knows _ _ _ (row_says (engine_reads (Stands script)) y.0 a.stand.0) (λ sizes engine.
    step_knows _ _ _ (head_found script n y.1 a.stand.1) (λ z b. step_knows _ _ _ (row_says (policy_reads (Stands script)) z.0 b.stand.0) (λ policy cap.
    step_knows _ _ _ (head_found script n z.1 b.stand.1) (λ w c. step_knows _ _ _ (row_says (store_reads (Stands script)) w.0 c.stand.0) (λ store says.
    right (record { sizes = sizes; policy = policy.0; cap = policy.1; store = store }, w.1) (record {
      first = y.0;
      second = z.0;
      third = w.0;
      keeps = a.first ∙ ap (λ l. y.0 ∷ l) (b.first ∙ ap (λ l. z.0 ∷ l) c.first);
      narrow = λ h. a.narrow (b.narrow (c.narrow h));
      engine = engine;
      policy = cap;
      store = says;
      stand = c.stand.1;
    })))))))

-- such a head and then the calls make an admitted script
admitted : (script : List ℕ) (x : Head × List Row) (calls : List NumberedCall) → length script ≤ 32768 → Headed script (rows 1 0 (lines script)) x → Called (map told (unskipped x.1)) x.1 calls → Admitted script x.0 calls
admitted script x calls short h c =
    let ls = lines script in
    let first = h.engine.0 in
    let second = h.policy.0 in
    let third = h.store in
    record {
      short = short;
      ls = ls;
      lined = lined script;
      narrow = lines_narrow 1 0 ls (h.narrow c.narrow);
      first = h.first.number;
      second = h.second.number;
      third = h.third.number;
      says = kept-rows 1 0 ls ∙ ap (map told) h.keeps ∙ (λ i. (h.first.number, first i) ∷ (h.second.number, second i) ∷ (h.third.number, third i) ∷ c.are i);
      sizes = h.engine.1;
      cap = h.policy.1;
      numbers = c.numbers;
    }

-- what the reader admits is of the grammar, and the part at fault stands in the script
pub sound : (script : List ℕ) → Known (λ r. Admitted script r.0 r.1) (PartStands script) (read_script script)
sound script =
    let ls = lines script in
    test_knows (ltb 32768 (length script)) (λ _. wrong _ tt) (λ test.
    step_knows _ _ _ (headed script (length ls) (rows 1 0 ls) (rows_stand script)) (λ x h.
    step_knows _ _ _ (rows_called script x.1 h.stand) (λ calls c. right (x.0, calls) (admitted script x calls (ltb-false 32768 (length script) test) h c))))

-- what is of the grammar the reader admits
complete : (script : List ℕ) (h : Head) (calls : List NumberedCall) → Admitted script h calls → read_script script ≡ Ok (h, calls)
complete script h calls adm =
    let ls = lines script in
    let rs = rows 1 0 ls in
    let same = sym (lines_of script adm.ls adm.lined) in
    let narrow = rows_narrow 1 0 ls (subst (All (λ l. length l ≤ 80)) same adm.narrow) in
    let says = sym (kept-rows 1 0 ls) ∙ ap (kept 1) (sym same) ∙ adm.says in
    let third = (adm.third, store_line h) ∷ call_texts calls in
    let second = (adm.second, policy_line h) ∷ third in
    let a = head_read (engine_reads (Stands script)) rs adm.first (engine_line h) h.sizes second narrow says (refl, adm.sizes) in
    let b = head_read (policy_reads (Stands script)) a.0.behind adm.second (policy_line h) (h.policy, h.cap) third a.0.narrow a.0.keeps (refl, adm.cap) in
    let c = head_read (store_reads (Stands script)) b.0.behind adm.third (store_line h) h.store (call_texts calls) b.0.narrow b.0.keeps refl in
    let body = rows_read c.0.behind calls (record { are = c.0.keeps; narrow = c.0.narrow; numbers = adm.numbers }) in
    simp (le-ltb 32768 (length script) adm.short, a.0.is, a.1, b.0.is, b.1, c.0.is, c.1, body)

-- both together, by what the reader gives
exactly_at : (script : List ℕ) (r : Result (Head × List NumberedCall) Failure) → read_script script ≡ r → Known (λ x. Admitted script x.0 x.1) (PartStands script) r → MatchResult r (λ x. Admitted script x.0 x.1) (λ _. (h : Head) (cs : List NumberedCall) → Admitted script h cs → ⊥)
exactly_at script (Ok x) e says = says.cases
exactly_at script (Err d) e says = λ h cs adm. cc (complete script h cs adm)

-- the reader admits a script exactly if it is of the grammar
pub exactly : (script : List ℕ) → Exactly script
exactly script = exactly_at script (read_script script) refl (sound script)
