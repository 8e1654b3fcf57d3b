-- A line is read as a call exactly if it is what the call is written as.
use Rattle.std.proofs.Common.{◌≡◌, ℕ, eqb, ◌+◌, ◌^◌, ◌<◌, List, ◌∷◌, map, length, get_or, Some, None, Ok, decimal, Option, sym, refl, ap, ◌∙◌, subst, arith, rules}
use Rattle.std.specs.List.{range_with_len}
use Rattle.std.proofs.lemmas.List.{length-map}
use Rattle.std.proofs.lemmas.Bool.{eqb-true, eq-eqb}
use Rattle.rules.specs.declared.call.Call.{Call}
use Rattle.rules.specs.declared.call.Verb.{Verb}
use Rattle.rules.specs.Format.{verb_text, verbs, verb_of, verb_named}
use Rattle.grammar.specs.Text.{Piece, words, words_in}
use Rattle.grammar.specs.Calls.{arity, call_of, call_by, call_in}
use Rattle.grammar.specs.Grammar.{All, spaced, numbers_of, written}
use Rattle.grammar.proofs.Spaced.{words-spaced, texts, worded}
use Rattle.grammar.proofs.Spellings.{spells, verb_word}
use Rattle.grammar.proofs.Known.{Known, right, wrong, step_knows, test_knows, Blamed, Reads}
use Rattle.grammar.proofs.WrittenNumbers.{length-pieces, numbers_say, numbers_on, decimals_lack, each_of}

-- a call has the verb that it was made of
verb_of_lem : (v : Verb) (ns : List ℕ) → verb_of (call_of v ns) ≡ v
verb_of_lem v ns = search rules

-- it has the numbers that it was made of, if there are as many as the verb asks for
numbers_of_lem : (v : Verb) (ns : List ℕ) → length ns ≡ arity v → ns ≡ numbers_of (call_of v ns)
numbers_of_lem v ns e =
    let all : map (λ k. get_or ns k 0) (range_with_len 0 (arity v)) ≡ numbers_of (call_of v ns) = search rules in
    each_of 0 (arity v) ns e ∙ all

-- the verb and the numbers of a call make it again
remade : (c : Call) → call_of (verb_of c) (numbers_of c) ≡ c
remade c = search rules

-- and the verb asks for as many numbers
numbers_count : (c : Call) → length (numbers_of c) ≡ arity (verb_of c)
numbers_count c = search rules

-- the line writes the call, with numbers below 2 ^ 32
abbrev pub CallLine : List ℕ → Call → Type 0
CallLine l c = (l ≡ written c) × All (λ n. n < 2 ^ 32) (numbers_of c)

-- a verb and the decimals of as many numbers as it asks for write the call
call_written : (l : List ℕ) (v : Verb) (ns : List ℕ) → l ≡ spaced (verb_text v ∷ map decimal ns) → All (λ n. n < 2 ^ 32) ns → length ns ≡ arity v → CallLine l (call_of v ns)
call_written l v ns line small count =
    let verb = sym (verb_of_lem v ns) in
    let numbers = numbers_of_lem v ns count in
    (line ∙ (λ i. spaced (verb_text (verb i) ∷ map decimal (numbers i))), subst (All (λ n. n < 2 ^ 32)) numbers small)

-- a call that a verb and the words behind it make is what the line writes
call_by_says : (P : Piece → Type 0) (line first : Piece) (ps : List Piece) (o : Option Verb) → All P (line ∷ first ∷ ps) → line.bytes ≡ spaced (first.bytes ∷ texts ps) → ((v : Verb) → o ≡ Some v → first.bytes ≡ verb_text v) → Known (CallLine line.bytes) (Blamed P) (call_by line first ps o)
call_by_says P line first ps None stand made names = wrong _ stand.1.0
call_by_says P line first ps (Some v) stand made names =
    let text = names v refl in
    test_knows (eqb (length ps) (arity v)) (λ many.
    step_knows _ _ _ (step_knows _ _ _ (numbers_say P ps stand.1.1) (λ ns d.
    let count : length ns ≡ arity v = omega (arith, eqb-true _ _ many, ap length d.are, length-map ns decimal, length-map ps (λ p. p.bytes)) in
    right (call_of v ns) (call_written line.bytes v ns (made ∙ (λ i. spaced (text i ∷ d.are i))) d.small count))) (λ c h. right c h))
    (λ _. wrong _ stand.0)

-- a line that is read as a call is what the call is written as
call_sound : (P : Piece → Type 0) (p : Piece) → P p → All P (words_in p) → Known (CallLine p.bytes) (Blamed P) (call_in p)
call_sound P p h hs =
    let w = worded p in
    let stand = rw w.are at hs in
    let says = call_by_says P p w.first w.rest (verb_named w.first.bytes) (h, stand) w.made (spells verb_text verbs w.first.bytes) in
    rw w.are says

-- and what a call is written as is read as the call
pub call_complete : (p : Piece) (c : Call) → CallLine p.bytes c → call_in p ≡ Ok c
call_complete p c h =
    let v = verb_of c in
    let ns = numbers_of c in
    let ws = map decimal ns in
    let k = p.at + length (verb_text v) + 1 in
    let cut : words p.bytes ≡ verb_text v ∷ ws = ap words h.0 ∙ words-spaced (verb_text v) ws (verb_word v).lacks (decimals_lack ns h.1) in
    let count = length-pieces k ws ∙ length-map ns decimal ∙ numbers_count c in
    simp (cut, (verb_word v).names, eq-eqb _ _ count, numbers_on k ns h.1, remade c)

-- both together
pub call_reads : (P : Piece → Type 0) → Reads P call_in CallLine
call_reads P = record { sound = call_sound P; complete = call_complete }
