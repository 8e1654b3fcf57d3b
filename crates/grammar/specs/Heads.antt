-- The three lines of the head.
use Rattle.std.specs.Prelude.{ℕ, cond, List, [], ◌∷◌, length, Ok, Err, Result, ◌==◌, slice_index, slice_index_or}
use Rattle.std.specs.Option.{ok_or}
use Rattle.std.specs.Str.{bytes_eq}
use Rattle.rules.specs.declared.fault.FaultKind.TheVariants.{UnknownVerb, WordCount}
use Rattle.rules.specs.declared.sizes.Sizes.{Sizes}
use Rattle.rules.specs.Sizes.{sized, capped}
use Rattle.rules.specs.declared.head.HeadVerb.{HeadVerb}
use Rattle.rules.specs.declared.head.HeadVerb.TheVariants.{Engine, Policy, Store}
use Rattle.rules.specs.declared.head.PolicyName.{PolicyName}
use Rattle.rules.specs.declared.head.StoreName.{StoreName}
use Rattle.grammar.specs.Text.{Piece, words_in}
use Rattle.rules.specs.Format.{head_text, policy_named, store_named}
use Rattle.grammar.specs.Faults.{Blame, bad_word, refused_line, passed, next}
use Rattle.grammar.specs.Calls.{number_in, numbers_in}

-- the n words behind the verb that is due: the verb, then the count of words
abbrev pub head_from : HeadVerb → ℕ → Piece → List Piece → Result (List Piece) Blame
head_from v n line [] = Err (record { kind = UnknownVerb; part = line })
head_from v n line (first ∷ ws) =
    cond (bytes_eq first.bytes (head_text v)) (cond (length ws == n) (Ok ws) (Err (record { kind = WordCount; part = line }))) (Err (record { kind = UnknownVerb; part = first }))

-- the same of the line itself
abbrev pub head_words : HeadVerb → ℕ → Piece → Result (List Piece) Blame
head_words v n line = head_from v n line (words_in line)

-- the k-th of the words
abbrev pub word_at : List Piece → ℕ → Piece
word_at ws k = slice_index_or ws k (record { at = 0; bytes = [] })

-- engine W P F: three numbers within their ranges
abbrev pub engine_in : Piece → Result Sizes Blame
engine_in line =
    next (head_words Engine 3 line) (λ ws.
    passed bad_word (numbers_in ws) (λ ns.
    passed (refused_line line) (sized (slice_index ns 0) (slice_index ns 1) (slice_index ns 2)) (λ s. Ok s)))

-- policy N B: the name of a policy, and a cap's bound within its range
abbrev pub policy_in : Piece → Result (PolicyName × ℕ) Blame
policy_in line =
    next (head_words Policy 2 line) (λ ws.
    passed bad_word (ok_or (policy_named (word_at ws 0).bytes) (word_at ws 0)) (λ name.
    passed bad_word (number_in (word_at ws 1)) (λ bound.
    passed (refused_line line) (capped bound) (λ cap. Ok (name, cap)))))

-- store heap, or store wheel
abbrev pub store_in : Piece → Result StoreName Blame
store_in line =
    next (head_words Store 1 line) (λ ws.
    passed bad_word (ok_or (store_named (word_at ws 0).bytes) (word_at ws 0)) (λ name. Ok name))
