-- Pieces that are the script's own bytes at their places: the parts of such a piece are such pieces.
use Rattle.std.proofs.Common.{◌≡◌, ℕ, suc, ◌+◌, ◌≤◌, true, false, cond, eqb, List, [], ◌∷◌, length, take, drop, sym, refl, ap, ◌∙◌, subst, arith}
use Rattle.std.proofs.lemmas.List.{length-take, take_all, drop_more}
use Rattle.std.proofs.lemmas.Grind.{common_steps}
use Rattle.grammar.specs.Text.{Piece, Row, grow, parts, lines, rows, pieces, words_in}
use Rattle.grammar.specs.Places.{Stands}
use Rattle.grammar.specs.Grammar.{All}

-- the bytes w at the place k
abbrev piece_at : ℕ → List ℕ → Piece
piece_at k w = record { at = k; bytes = w }

-- no bytes stand at each place
none_stands : (script : List ℕ) (k : ℕ) → k ≤ length script → Stands script (piece_at k [])
none_stands script k h = record { within = omega arith; is = refl }

-- the first bytes of a piece that stands
pub front_stands : (script : List ℕ) (n : ℕ) (p : Piece) → Stands script p → Stands script (piece_at p.at (take n p.bytes))
front_stands script n p h = record { within = omega (arith, length-take n p.bytes); is = grind (arith, common_steps) }

-- a piece that stands begins with its first byte
begins : (script : List ℕ) (k c : ℕ) (cs : List ℕ) → Stands script (piece_at k (c ∷ cs)) → drop k script ≡ c ∷ drop (k + 1) script
begins script k c cs h = let there = drop_more script k 0 (omega arith) in cc (h.is ∙ ap (take (suc (length cs))) there)

-- and goes on with the piece behind it
rest_stands : (script : List ℕ) (k c : ℕ) (cs : List ℕ) → Stands script (piece_at k (c ∷ cs)) → Stands script (piece_at (k + 1) cs)
rest_stands script k c cs h =
    let same = h.is ∙ ap (take (suc (length cs))) (begins script k c cs h) in
    record { within = omega arith; is = cc }

-- another piece behind that byte, with the byte
more_stands : (script : List ℕ) (k c : ℕ) (cs w : List ℕ) → Stands script (piece_at k (c ∷ cs)) → Stands script (piece_at (k + 1) w) → Stands script (piece_at k (c ∷ w))
more_stands script k c cs w b h = record { within = omega arith; is = rw (begins script k c cs b) (ap (λ l. c ∷ l) h.is) }

-- parts that stand behind the byte c still do with c in front of the first
grow_stands : (script : List ℕ) (k c : ℕ) (cs : List ℕ) (ps : List (List ℕ)) → Stands script (piece_at k (c ∷ cs)) → All (Stands script) (pieces (k + 1) ps) → All (Stands script) (pieces k (grow c ps))
grow_stands script k c cs [] b h = (more_stands script k c cs [] b (none_stands script (k + 1) (omega arith)), tt)
grow_stands script k c cs (w ∷ ws) b h =
    let same : k + 1 + length w + 1 ≡ k + suc (length w) + 1 = omega arith in
    (more_stands script k c cs w b h.0, subst (λ j. All (Stands script) (pieces j ws)) same h.1)

-- the parts of a text that stands; the parts e stand wherever it ends
parts_stand : (script : List ℕ) (b : ℕ) (e : List (List ℕ)) → ((k : ℕ) → k ≤ length script → All (Stands script) (pieces k e)) → (t : List ℕ) (k : ℕ) → Stands script (piece_at k t) → All (Stands script) (pieces k (parts b e t))
parts_stand script b e ends [] k h = ends k (omega arith)
parts_stand script b e ends (c ∷ cs) k h =
    let more = parts_stand script b e ends cs (k + 1) (rest_stands script k c cs h) in
    let same : k + 1 ≡ k + 0 + 1 = omega arith in
    elim (eqb c b) as (λ t. All (Stands script) (pieces k (cond t ([] ∷ parts b e cs) (grow c (parts b e cs))))) [
      | true ↦ (none_stands script k (omega arith), subst (λ j. All (Stands script) (pieces j (parts b e cs))) same more)
      | false ↦ grow_stands script k c cs (parts b e cs) h more
    ]

-- the words of a line that stands
pub words_stand : (script : List ℕ) (p : Piece) → Stands script p → All (Stands script) (words_in p)
words_stand script p h = parts_stand script 32 ([] ∷ []) (λ k inside. (none_stands script k inside, tt)) p.bytes p.at h

-- the text of the row stands
abbrev pub RowStands : List ℕ → Row → Type 0
RowStands script r = Stands script r.text

-- lines stand as rows if they stand as pieces
rows-pieces : (script : List ℕ) (n k : ℕ) (ls : List (List ℕ)) → All (Stands script) (pieces k ls) → All (RowStands script) (rows n k ls)
rows-pieces script n k [] h = tt
rows-pieces script n k (l ∷ ls) h = (h.0, rows-pieces script (n + 1) (k + length l + 1) ls h.1)

-- the lines of a script
pub rows_stand : (script : List ℕ) → All (RowStands script) (rows 1 0 (lines script))
rows_stand script =
    let whole : Stands script (piece_at 0 script) = record { within = omega arith; is = sym (take_all (length script) script (omega arith)) } in
    rows-pieces script 1 0 (lines script) (parts_stand script 10 [] (λ k inside. tt) script 0 whole)
