-- The lines of the body, as the reader holds them.
use Rattle.std.specs.Prelude.{◌≡◌, List, [], ◌∷◌, length, Ok, Err, Result}
use Rattle.rules.specs.declared.call.Verb.{Verb}
use Rattle.rules.specs.declared.call.Verb.TheVariants as verb
use Rattle.script.specs.declared.call.CallLine.{CallLine}
use Rattle.script.specs.declared.call.CallLine.TheVariants.{Queue, Delay, Advance, Start, Sleep, Wake, Finish, Cancel, Limit, Flush, Collect, Close}
use Rattle.script.specs.declared.fault.WrongCount.{WrongCount}
use Rattle.grammar.specs.Text.{Piece}
use Rattle.script.specs.Parts.{piece_of}
use Rattle.grammar.specs.Calls.{arity}

-- the verb of a line
abbrev pub line_verb : CallLine → Verb
line_verb (Queue a b) = verb.Queue
line_verb (Delay a b c) = verb.Delay
line_verb (Advance a) = verb.Advance
line_verb (Start a) = verb.Start
line_verb (Sleep a) = verb.Sleep
line_verb (Wake a) = verb.Wake
line_verb (Finish a) = verb.Finish
line_verb (Cancel a) = verb.Cancel
line_verb (Limit a b) = verb.Limit
line_verb Flush = verb.Flush
line_verb (Collect a) = verb.Collect
line_verb Close = verb.Close

-- the words of a line
abbrev pub line_words : CallLine → List Piece
line_words (Queue a b) = piece_of a ∷ piece_of b ∷ []
line_words (Delay a b c) = piece_of a ∷ piece_of b ∷ piece_of c ∷ []
line_words (Advance a) = piece_of a ∷ []
line_words (Start a) = piece_of a ∷ []
line_words (Sleep a) = piece_of a ∷ []
line_words (Wake a) = piece_of a ∷ []
line_words (Finish a) = piece_of a ∷ []
line_words (Cancel a) = piece_of a ∷ []
line_words (Limit a b) = piece_of a ∷ piece_of b ∷ []
line_words Flush = []
line_words (Collect a) = piece_of a ∷ []
line_words Close = []

-- a line with the verb v and the words ws, or too few or too many words for v
abbrev pub Shaped : Verb → List Piece → Result CallLine WrongCount → Type 0
Shaped v ws (Ok l) = (line_verb l ≡ v) × (line_words l ≡ ws)
Shaped v ws (Err e) = length ws ≡ arity v → ⊥
