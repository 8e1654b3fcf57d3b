-- The lines of the body: what each call asks for.
use Rattle.std.specs.Prelude.{ℕ, cond, List, [], ◌∷◌, length, Some, None, Ok, Err, Option, Result, ◌==◌, slice_index}
use Rattle.std.specs.Option.{ok_or}
use Rattle.rules.specs.declared.call.Call.{Call}
use Rattle.rules.specs.declared.call.Call.TheVariants as call
use Rattle.rules.specs.declared.call.Verb.{Verb}
use Rattle.rules.specs.declared.call.Verb.TheVariants.{Queue, Delay, Advance, Start, Sleep, Wake, Finish, Cancel, Limit, Flush, Collect, Close}
use Rattle.rules.specs.declared.fault.FaultKind.TheVariants.{UnknownVerb, WordCount}
use Rattle.rules.specs.Format.{verb_named}
use Rattle.grammar.specs.Text.{Piece, words_in}
use Rattle.grammar.specs.Numbers.{number_of}
use Rattle.grammar.specs.Faults.{Blame, bad_word, passed, next}

-- how many numbers follow a verb
abbrev pub arity : Verb → ℕ
arity Queue = 2
arity Delay = 3
arity Advance = 1
arity Start = 1
arity Sleep = 1
arity Wake = 1
arity Finish = 1
arity Cancel = 1
arity Limit = 2
arity Flush = 0
arity Collect = 1
arity Close = 0

-- the call that a verb makes with its numbers
abbrev pub call_of : Verb → List ℕ → Call
call_of Queue ns = call.Queue (slice_index ns 0) (slice_index ns 1)
call_of Delay ns = call.Delay (slice_index ns 0) (slice_index ns 1) (slice_index ns 2)
call_of Advance ns = call.Advance (slice_index ns 0)
call_of Start ns = call.Start (slice_index ns 0)
call_of Sleep ns = call.Sleep (slice_index ns 0)
call_of Wake ns = call.Wake (slice_index ns 0)
call_of Finish ns = call.Finish (slice_index ns 0)
call_of Cancel ns = call.Cancel (slice_index ns 0)
call_of Limit ns = call.Limit (slice_index ns 0) (slice_index ns 1)
call_of Flush ns = call.Flush
call_of Collect ns = call.Collect (slice_index ns 0)
call_of Close ns = call.Close

-- the number that a word writes; else the word is at fault
abbrev pub number_in : Piece → Result ℕ Piece
number_in w = ok_or (number_of w.bytes) w

-- the numbers that the words write; else the leftmost word that writes none is at fault
abbrev pub numbers_in : List Piece → Result (List ℕ) Piece
numbers_in [] = Ok []
numbers_in (w ∷ ws) = next (number_in w) (λ n. next (numbers_in ws) (λ ns. Ok (n ∷ ns)))

-- the call of a verb and the words behind it
abbrev pub call_with : Verb → List Piece → Result Call Piece
call_with v ws = next (numbers_in ws) (λ ns. Ok (call_of v ns))

-- a line by the verb that its first word names: the verb, then the count of words, then the words
abbrev pub call_by : Piece → Piece → List Piece → Option Verb → Result Call Blame
call_by line first ws None = Err (record { kind = UnknownVerb; part = first })
call_by line first ws (Some v) =
    cond (length ws == arity v) (passed bad_word (call_with v ws) (λ c. Ok c)) (Err (record { kind = WordCount; part = line }))

-- a line by its words, of which there is always one
abbrev pub call_from : Piece → List Piece → Result Call Blame
call_from line [] = Err (record { kind = UnknownVerb; part = line })
call_from line (first ∷ ws) = call_by line first ws (verb_named first.bytes)

-- the call that a line of the body asks for
abbrev pub call_in : Piece → Result Call Blame
call_in line = call_from line (words_in line)
