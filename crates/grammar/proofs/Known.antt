-- What is known of a result, step by step: of its value if it is Ok, and of what is wrong if it is an Err.
use Rattle.std.proofs.Common.{◌≡◌, ℕ, Bool, true, false, cond, List, Some, None, Ok, Err, Option, Result, refl, MatchResult}
use Rattle.std.specs.Option.{ok_or}
use Rattle.std.proofs.lemmas.Result.{MatchResult-weaker}
use Rattle.grammar.specs.Text.{Piece, words_in}
use Rattle.grammar.specs.Faults.{Blame, passed}
use Rattle.grammar.specs.Grammar.{All}

-- P holds of the value, or Q holds of what is wrong
pub record Known {A E : Type 0} (P : A → Type 0) (Q : E → Type 0) (r : Result A E) : Type 0 where
  pub cases : MatchResult r P Q

-- P known of an Ok, and Q of an Err
pub right : {A E : Type 0} {P : A → Type 0} {Q : E → Type 0} (x : A) → P x → Known P Q (Ok x)
right x h = record { cases = h }

pub wrong : {A E : Type 0} {P : A → Type 0} {Q : E → Type 0} (d : E) → Q d → Known P Q (Err d)
wrong d h = record { cases = h }

-- what follows from what is known of the value
pub known_more : {A E : Type 0} {P R : A → Type 0} {Q : E → Type 0} (r : Result A E) → Known P Q r → ((x : A) → P x → R x) → Known R Q r
known_more r h more = record { cases = MatchResult-weaker r h.cases more (λ _ q. q) }

-- known of a step and of what follows it, and so of both together
pub step_knows : {A B E F : Type 0} {P : A → Type 0} {R : B → Type 0} {Q : F → Type 0} (f : E → F) (r : Result A E) (k : A → Result B F) → Known P (λ e. Q (f e)) r → ((x : A) → P x → Known R Q (k x)) → Known R Q (passed f r k)
step_knows f (Ok x) k h on = on x h.cases
step_knows f (Err e) k h on = record { cases = h.cases }

-- known of both ways of a test
pub test_knows : {A E : Type 0} {P : A → Type 0} {Q : E → Type 0} {x y : Result A E} (t : Bool) → (t ≡ true → Known P Q x) → (t ≡ false → Known P Q y) → Known P Q (cond t x y)
test_knows true h g = h refl
test_knows false h g = g refl

-- known of a value that must be there
pub some_knows : {A E : Type 0} {P : A → Type 0} {Q : E → Type 0} (o : Option A) (d : E) → ((x : A) → o ≡ Some x → P x) → Q d → Known P Q (ok_or o d)
some_knows None d h q = wrong d q
some_knows (Some x) d h q = right x (h x refl)

-- P holds of the piece at fault
abbrev pub Blamed : (Piece → Type 0) → Blame → Type 0
Blamed P b = P b.part

-- f reads a line as x exactly if Q says so of the text of the line, and P holds of what it finds at fault, if it holds of the line and of its words
pub record Reads {A : Type 0} (P : Piece → Type 0) (f : Piece → Result A Blame) (Q : List ℕ → A → Type 0) : Type 0 where
  pub sound : (p : Piece) → P p → All P (words_in p) → Known (Q p.bytes) (Blamed P) (f p)
  pub complete : (p : Piece) (x : A) → Q p.bytes x → f p ≡ Ok x
