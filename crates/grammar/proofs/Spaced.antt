-- The words of a line, with one space between each and the next.
use Rattle.std.proofs.Common.{◌≡◌, ℕ, ◌+◌, ◌<◌, eqb, List, [], ◌∷◌, map, length, refl, ap, ◌∙◌, arith}
use Rattle.std.proofs.lemmas.List.{length-map}
use Rattle.std.proofs.lemmas.List.Splits.{join_with_byte-slice_split, length-slice_split}
use Rattle.grammar.specs.Text.{Piece, words, pieces, words_in}
use Rattle.grammar.specs.Grammar.{All, Lacks, spaced}
use Rattle.grammar.proofs.Cuts.{parts_front, parts_last}

-- words with no space in them are the words of the line that they make
pub words-spaced : (w : List ℕ) (ws : List (List ℕ)) → Lacks 32 w → All (Lacks 32) ws → words (spaced (w ∷ ws)) ≡ w ∷ ws
words-spaced w [] h hs = parts_last 32 w h
words-spaced w (v ∷ vs) h hs =
    parts_front 32 ([] ∷ []) w (spaced (v ∷ vs)) h ∙ ap (λ ws. w ∷ ws) (words-spaced v vs hs.0 hs.1)

-- the bytes of pieces
abbrev pub texts : List Piece → List (List ℕ)
texts ps = map (λ p. p.bytes) ps

-- the pieces of some words have these as their bytes
pub texts-pieces : (k : ℕ) (ws : List (List ℕ)) → texts (pieces k ws) ≡ ws
texts-pieces k [] = refl
texts-pieces k (w ∷ ws) = ap (λ l. w ∷ l) (texts-pieces (k + length w + 1) ws)

-- the line l is made of its words, which are the pieces ps: there is one at least
pub record Worded (l : List ℕ) (ps : List Piece) : Type 0 where
  pub first : Piece
  pub rest : List Piece
  pub are : ps ≡ first ∷ rest
  pub made : l ≡ spaced (first.bytes ∷ texts rest)

-- so it is of pieces that make the line, if there are any
worded_by : (l : List ℕ) (ps : List Piece) → 0 < length ps → l ≡ spaced (texts ps) → Worded l ps
worded_by l [] some made = absurd (omega arith)
worded_by l (p ∷ ps) some made = record { first = p; rest = ps; are = refl; made = made }

-- and of the words of a piece
pub worded : (p : Piece) → Worded p.bytes (words_in p)
worded p =
    let l = p.bytes in
    let are = texts-pieces p.at (words l) in
    let some = length-slice_split (λ c. eqb c 32) l in
    worded_by l (words_in p) (omega (arith, ap length are, length-map (words_in p) (λ q. q.bytes), some)) (simp (are, join_with_byte-slice_split 32 l))
