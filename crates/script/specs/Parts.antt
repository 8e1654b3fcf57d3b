-- What the reader's values say, with what their references point to.
use Rattle.std.specs.Option.{option_map}
use Rattle.std.specs.Prelude.{List, [], Some, None, Ok, Err, Result}
use Rattle.rules.specs.declared.fault.FaultKind.TheVariants as kind
use Rattle.script.specs.declared.part.Part.{Part}
use Rattle.script.specs.declared.fault.Fault.{Fault}
use Rattle.script.specs.declared.fault.WordFault.{WordFault}
use Rattle.script.specs.declared.fault.LineFault.{LineFault}
use Rattle.script.specs.declared.fault.LineFault.TheVariants.{Verb, Count, Word, Refused}
use Rattle.script.specs.declared.words.Words.{Words}
use Rattle.grammar.specs.Text.{Piece, words_in}
use Rattle.grammar.specs.Faults.{Blame, Failure, bad_word, refused_line}

-- a part of the script, as a piece
abbrev pub piece_of : Part → Piece
piece_of p = record { at = p.at; bytes = p.bytes.now }

-- the words that are left of a line
abbrev pub words_left : Words → List Piece
words_left w = elim w.left [ None ↦ [] | Some t ↦ words_in (piece_of t.part) ]

-- a fault of the given line
abbrev pub blame_of : Piece → LineFault → Blame
blame_of line (Verb w) = record { kind = kind.UnknownVerb; part = piece_of w }
blame_of line Count = record { kind = kind.WordCount; part = line }
blame_of line (Word f) = bad_word (piece_of f.word)
blame_of line (Refused r) = refused_line line r

-- a fault of a script
abbrev pub failure_of : Fault → Failure
failure_of f = record { kind = f.kind; line = f.line; part = option_map piece_of f.part }

-- a result with its error told by f
abbrev pub told : {A E F : Type 0} → (E → F) → Result A E → Result A F
told f (Ok x) = Ok x
told f (Err e) = Err (f e)

-- a result that fails with a word
abbrev pub told_word : {A : Type 0} → Result A WordFault → Result A Piece
told_word r = told (λ f. piece_of f.word) r

-- a result that fails with a fault of the line
abbrev pub told_line : {A : Type 0} → Piece → Result A LineFault → Result A Blame
told_line line r = told (blame_of line) r
