-- The lines of a script and the words of a line.
use Rattle.std.specs.Prelude.{ℕ, ◌+◌, Bool, true, cond, List, [], ◌∷◌, length, ◌==◌}
use Rattle.std.specs.List.{onto_first}

-- a piece of a script: the place at which it begins, and its bytes
pub record Piece : Type 0 where
  pub at : ℕ
  pub bytes : List ℕ

-- a line with its number, counted from 1
pub record Row : Type 0 where
  pub number : ℕ
  pub text : Piece

-- c in front of the first of the parts; of no parts, the one part c
abbrev pub grow : ℕ → List (List ℕ) → List (List ℕ)
grow c ws = onto_first c ws

-- a text in parts: each b ends one; after the last byte come the parts e
abbrev pub parts : ℕ → List (List ℕ) → List ℕ → List (List ℕ)
parts b e [] = e
parts b e (c ∷ cs) = cond (c == b) ([] ∷ parts b e cs) (grow c (parts b e cs))

-- the lines of a script: each ends at byte 10 or at the end; a last byte 10 begins no further line
abbrev pub lines : List ℕ → List (List ℕ)
lines s = parts 10 [] s

-- the words of a line: each space parts two of them, either perhaps empty
abbrev pub words : List ℕ → List (List ℕ)
words l = parts 32 ([] ∷ []) l

-- a line is skipped if it is empty or its first byte is #
abbrev pub skipped : List ℕ → Bool
skipped [] = true
skipped (c ∷ cs) = c == 35

-- how many of the lines are skipped
abbrev pub skips : List (List ℕ) → ℕ
skips [] = 0
skips (l ∷ ls) = cond (skipped l) 1 0 + skips ls

-- the lines as rows, the first with the number n and at the place k: one byte lies between a line and the next
abbrev pub rows : ℕ → ℕ → List (List ℕ) → List Row
rows n k [] = []
rows n k (l ∷ ls) = record { number = n; text = record { at = k; bytes = l } } ∷ rows (n + 1) (k + length l + 1) ls

-- the words as pieces, the first at the place k: one byte lies between a word and the next
abbrev pub pieces : ℕ → List (List ℕ) → List Piece
pieces k [] = []
pieces k (w ∷ ws) = record { at = k; bytes = w } ∷ pieces (k + length w + 1) ws

-- the words of a piece, each with its place
abbrev pub words_in : Piece → List Piece
words_in p = pieces p.at (words p.bytes)
