-- Faults, and how a step that fails ends the reading.
use Rattle.std.specs.Prelude.{ℕ, Some, Ok, Err, Option, Result}
use Rattle.rules.specs.declared.fault.FaultKind.{FaultKind}
use Rattle.rules.specs.declared.fault.FaultKind.TheVariants.{BadWord, Refused}
use Rattle.rules.specs.declared.refusal.Refusal.{Refusal}
use Rattle.grammar.specs.Text.{Piece, Row}

-- what is wrong with a line: the kind of fault, and the piece at fault
pub record Blame : Type 0 where
  pub kind : FaultKind
  pub part : Piece

-- what is wrong with a script: the kind of fault, the number of the line, and the piece at fault if there is one
pub record Failure : Type 0 where
  pub kind : FaultKind
  pub line : ℕ
  pub part : Option Piece

-- the word w is at fault
abbrev pub bad_word : Piece → Blame
bad_word w = record { kind = BadWord; part = w }

-- what the line asks for is refused
abbrev pub refused_line : Piece → Refusal → Blame
refused_line line r = record { kind = Refused r; part = line }

-- a fault of the row r
abbrev pub in_row : Row → Blame → Failure
in_row r b = record { kind = b.kind; line = r.number; part = Some b.part }

-- the next step k after an Ok; an Err ends the reading, as f tells it
abbrev pub passed : {A B E F : Type 0} → (E → F) → Result A E → (A → Result B F) → Result B F
passed f (Ok x) k = k x
passed f (Err e) k = Err (f e)

-- the same where the Err stays as it is
abbrev pub next : {A B E : Type 0} → Result A E → (A → Result B E) → Result B E
next r k = passed (λ e. e) r k
