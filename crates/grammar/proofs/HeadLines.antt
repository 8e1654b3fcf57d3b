-- The lines of the head are read as what they are written as.
use Rattle.std.proofs.Common.{◌≡◌, ℕ, eqb, ◌+◌, ◌^◌, ◌<◌, true, List, [], ◌∷◌, map, length, get_or, Ok, decimal, refl, ap, ◌∙◌, arith}
use Rattle.std.specs.List.{range_with_len}
use Rattle.std.specs.Str.{bytes_eq}
use Rattle.std.proofs.lemmas.Slice.Eq.{bytes_eq-Decides}
use Rattle.std.proofs.lemmas.Bool.{eqb-true, eq-eqb}
use Rattle.std.proofs.lemmas.List.{length-map}
use Rattle.std.proofs.lemmas.List.Elements.{All-from_recursion, All-get_or}
use Rattle.std.proofs.lemmas.Grind.{common_steps}
use Rattle.rules.specs.declared.sizes.Sizes.{Sizes}
use Rattle.rules.specs.Sizes.{within, sizes_fit, sized, capped}
use Rattle.rules.specs.declared.head.HeadVerb.{HeadVerb}
use Rattle.rules.specs.declared.head.HeadVerb.TheVariants.{Engine, Policy, Store}
use Rattle.rules.specs.declared.head.PolicyName.{PolicyName}
use Rattle.rules.specs.declared.head.StoreName.{StoreName}
use Rattle.grammar.specs.Text.{Piece, pieces, words, words_in}
use Rattle.rules.specs.Format.{head_text, policies, policy_text, policy_named, stores, store_text, store_named}
use Rattle.grammar.specs.Faults.{bad_word, refused_line}
use Rattle.grammar.specs.Heads.{head_from, head_words, word_at, engine_in, policy_in, store_in}
use Rattle.grammar.specs.Grammar.{All, Lacks, spaced}
use Rattle.grammar.proofs.Spaced.{words-spaced, texts, worded}
use Rattle.grammar.proofs.Decimal.{decimal_number, decimal_lacks}
use Rattle.grammar.proofs.Spellings.{spells, head_lacks, policy_word, store_word}
use Rattle.grammar.proofs.Known.{Known, right, wrong, step_knows, test_knows, some_knows, Blamed, Reads}
use Rattle.grammar.proofs.WrittenNumbers.{length-pieces, number_says, numbers_say, numbers_on, decimals_lack, each_of}

-- the line is the verb v and n words behind it, which are the pieces ps, and P holds of each
record Behind (P : Piece → Type 0) (v : HeadVerb) (n : ℕ) (l : List ℕ) (ps : List Piece) : Type 0 where
  says : l ≡ spaced (head_text v ∷ texts ps)
  count : length ps ≡ n
  hold : All P ps

-- what is read behind the verb is what the line has there
head_says : (P : Piece → Type 0) (v : HeadVerb) (n : ℕ) (p : Piece) → P p → All P (words_in p) → Known (Behind P v n p.bytes) (Blamed P) (head_words v n p)
head_says P v n p h hs =
    let w = worded p in
    let stand = rw w.are at hs in
    let says : Known (Behind P v n p.bytes) (Blamed P) (head_from v n p (w.first ∷ w.rest)) = test_knows (bytes_eq w.first.bytes (head_text v)) (λ verb.
    let text = (bytes_eq-Decides w.first.bytes (head_text v)).0 verb in
    test_knows (eqb (length w.rest) n) (λ many. right w.rest (record { says = w.made ∙ ap (λ t. spaced (t ∷ texts w.rest)) text; count = eqb-true _ _ many; hold = stand.1 })) (λ _. wrong _ h)) (λ _. wrong _ stand.0) in
    rw w.are says

-- the words one by one, where their number is written out
each_behind : (P : Piece → Type 0) (v : HeadVerb) (n : ℕ) (l : List ℕ) (ps : List Piece) → Behind P v n l ps → l ≡ spaced (head_text v ∷ texts (map (λ k. word_at ps k) (range_with_len 0 n)))
each_behind P v n l ps b = b.says ∙ ap (λ qs. spaced (head_text v ∷ texts qs)) (each_of _ n ps b.count)

-- P holds of the k-th of the words
word_holds : (P : Piece → Type 0) (ws : List Piece) (k : ℕ) → All P ws → k < length ws → P (word_at ws k)
word_holds P ws k stand h = All-get_or P ws k _ h (All-from_recursion P ws stand)

-- and what the line has there is read
head_on : (v : HeadVerb) (rest : List (List ℕ)) (p : Piece) → All (Lacks 32) rest → p.bytes ≡ spaced (head_text v ∷ rest) → head_words v (length rest) p ≡ Ok (pieces (p.at + length (head_text v) + 1) rest)
head_on v rest p lack e =
    let cut : words p.bytes ≡ head_text v ∷ rest = ap words e ∙ words-spaced (head_text v) rest (head_lacks v) lack in
    simp (cut, (bytes_eq-Decides (head_text v) (head_text v)).1 refl, eq-eqb _ _ (length-pieces (p.at + length (head_text v) + 1) rest))

-- the line says engine W P F, with sizes in their ranges
abbrev pub EngineLine : List ℕ → Sizes → Type 0
EngineLine l s = (l ≡ spaced (head_text Engine ∷ decimal s.works ∷ decimal s.pools ∷ decimal s.places ∷ [])) × (sizes_fit s.works s.pools s.places ≡ true)

-- three numbers that pass as sizes
sized_says : (P : Piece → Type 0) (p : Piece) (works pools places : ℕ) → P p → p.bytes ≡ spaced (head_text Engine ∷ decimal works ∷ decimal pools ∷ decimal places ∷ []) → Known (EngineLine p.bytes) (λ _. P p) (sized works pools places)
sized_says P p works pools places h line =
    test_knows (sizes_fit works pools places) (λ fits. right _ (line, fits)) (λ _. wrong _ h)

-- a line that is read as sizes says them
engine_sound : (P : Piece → Type 0) (p : Piece) → P p → All P (words_in p) → Known (EngineLine p.bytes) (Blamed P) (engine_in p)
engine_sound P p h hs =
    step_knows _ _ _ (head_says P Engine 3 p h hs) (λ ws behind.
    step_knows _ _ _ (numbers_say P ws behind.hold) (λ ns d.
    let three = each_of 0 3 ns (omega (arith, ap length d.are, length-map ns decimal, length-map ws (λ p. p.bytes), behind.count)) in
    let line = behind.says ∙ ap (λ ws. spaced (head_text Engine ∷ ws)) (d.are ∙ ap (map decimal) three) in
    step_knows (refused_line p) _ _ (sized_says P p (get_or ns 0 0) (get_or ns 1 0) (get_or ns 2 0) h line) (λ s k. right s k)))

-- and a line that says them is read as them
engine_complete : (p : Piece) (s : Sizes) → EngineLine p.bytes s → engine_in p ≡ Ok s
engine_complete p s h =
    let ns = s.works ∷ s.pools ∷ s.places ∷ [] in
    let small : All (λ n. n < 2 ^ 32) ns = (grind (arith, common_steps, h.1), (grind (arith, common_steps, h.1), (grind (arith, common_steps, h.1), tt))) in
    simp (head_on Engine (map decimal ns) p (decimals_lack ns small) h.0, numbers_on (p.at + length (head_text Engine) + 1) ns small, h.1)

-- both together
pub engine_reads : (P : Piece → Type 0) → Reads P engine_in EngineLine
engine_reads P = record { sound = engine_sound P; complete = engine_complete }

-- the line says policy N B, with a cap in its range
abbrev pub PolicyLine : List ℕ → PolicyName × ℕ → Type 0
PolicyLine l x = (l ≡ spaced (head_text Policy ∷ policy_text x.0 ∷ decimal x.1 ∷ [])) × (within 1 255 x.1 ≡ true)

-- a bound that passes as a cap is the cap
capped_says : (P : Piece → Type 0) (p : Piece) (bound : ℕ) → P p → Known (λ cap. (bound ≡ cap) × (within 1 255 cap ≡ true)) (λ _. P p) (capped bound)
capped_says P p bound h = test_knows (within 1 255 bound) (λ fits. right _ (refl, fits)) (λ _. wrong _ h)

-- a line that is read as a policy and a cap says them
policy_sound : (P : Piece → Type 0) (p : Piece) → P p → All P (words_in p) → Known (PolicyLine p.bytes) (Blamed P) (policy_in p)
policy_sound P p h hs =
    step_knows _ _ _ (head_says P Policy 2 p h hs) (λ ws behind.
    step_knows bad_word _ _ (some_knows (policy_named (word_at ws 0).bytes) _ (spells policy_text policies (word_at ws 0).bytes) (word_holds P ws 0 behind.hold (omega (arith, behind.count)))) (λ name first.
    step_knows bad_word _ _ (number_says P (word_at ws 1) (word_holds P ws 1 behind.hold (omega (arith, behind.count)))) (λ bound second.
    step_knows (refused_line p) _ _ (capped_says P p bound h) (λ cap fits.
    right (name, cap) (each_behind P Policy 2 p.bytes ws behind ∙ (λ i. spaced (head_text Policy ∷ first i ∷ (second.1 ∙ ap decimal fits.0) i ∷ [])), fits.1)))))

-- and a line that says them is read as them
policy_complete : (p : Piece) (x : PolicyName × ℕ) → PolicyLine p.bytes x → policy_in p ≡ Ok x
policy_complete p x h =
    let small : x.1 < 2 ^ 32 = grind (arith, common_steps, h.1) in
    let words = head_on Policy (policy_text x.0 ∷ decimal x.1 ∷ []) p ((policy_word x.0).lacks, (decimal_lacks x.1 small, tt)) h.0 in
    simp (words, (policy_word x.0).names, decimal_number x.1 small, h.1)

-- both together
pub policy_reads : (P : Piece → Type 0) → Reads P policy_in PolicyLine
policy_reads P = record { sound = policy_sound P; complete = policy_complete }

-- the line says store S
abbrev pub StoreLine : List ℕ → StoreName → Type 0
StoreLine l x = l ≡ spaced (head_text Store ∷ store_text x ∷ [])

-- a line that is read as a store says it
store_sound : (P : Piece → Type 0) (p : Piece) → P p → All P (words_in p) → Known (StoreLine p.bytes) (Blamed P) (store_in p)
store_sound P p h hs =
    step_knows _ _ _ (head_says P Store 1 p h hs) (λ ws behind.
    step_knows bad_word _ _ (some_knows (store_named (word_at ws 0).bytes) _ (spells store_text stores (word_at ws 0).bytes) (word_holds P ws 0 behind.hold (omega (arith, behind.count)))) (λ name first.
    right name (each_behind P Store 1 p.bytes ws behind ∙ ap (λ w. spaced (head_text Store ∷ w ∷ [])) first)))

-- and a line that says it is read as it
store_complete : (p : Piece) (x : StoreName) → StoreLine p.bytes x → store_in p ≡ Ok x
store_complete p x h =
    simp (head_on Store (store_text x ∷ []) p ((store_word x).lacks, tt) h, (store_word x).names)

-- both together
pub store_reads : (P : Piece → Type 0) → Reads P store_in StoreLine
store_reads P = record { sound = store_sound P; complete = store_complete }
