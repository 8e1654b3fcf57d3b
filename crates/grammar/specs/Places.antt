-- The part at fault is the script's own bytes at its place.
use Rattle.std.specs.Prelude.{◌≡◌, ℕ, ◌+◌, ◌≤◌, List, length, take, drop, IfSome, IfErr}
use Rattle.grammar.specs.Text.{Piece}
use Rattle.grammar.specs.Faults.{Failure}
use Rattle.grammar.specs.Reading.{read_script}

-- the piece ends within the script and is what stands there
pub record Stands (script : List ℕ) (p : Piece) : Type 0 where
  pub within : p.at + length p.bytes ≤ length script
  pub is : p.bytes ≡ take (length p.bytes) (drop p.at script)

-- the part of a fault, if it has one
abbrev pub PartStands : List ℕ → Failure → Type 0
PartStands script f = IfSome f.part (Stands script)

-- whatever fault a script has, its part stands in the script
abbrev pub Placed : List ℕ → Type 0
Placed script = IfErr (read_script script) (PartStands script)
