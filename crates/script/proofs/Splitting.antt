-- The first place of a byte, and the parts that it ends.
use Rattle.std.proofs.Common.{◌≡◌, ℕ, suc, ◌+◌, ◌<◌, ◌≤◌, Bool, true, false, not, cond, eqb, List, [], ◌∷◌, ◌++◌, length, get_or, take, drop, sym, refl, ap, ◌∙◌, subst, ⊎_elim, arith}
use Rattle.std.proofs.lemmas.Bool.{cases_lt, eqb-true, eqb-false}
use Rattle.std.proofs.lemmas.List.{take_all, drop_all}
use Rattle.std.proofs.lemmas.List.Sums.{passes_at_first, split_at_first}
use Rattle.grammar.specs.Text.{parts, lines, words}
use Rattle.grammar.specs.Grammar.{Lacks}
use Rattle.grammar.proofs.Cuts.{parts_front, parts_last, lines_of}
use Rattle.script.specs.Lines.{place}

-- one byte more in front
lacks_step : (v : Bool) (b c : ℕ) (cs : List ℕ) → eqb c b ≡ v → Lacks b (take (place b cs) cs) → Lacks b (take (cond (not v) (1 + place b cs) 0) (c ∷ cs))
lacks_step true b c cs e h = tt
lacks_step false b c cs e h =
    let one : suc (place b cs) ≡ 1 + place b cs = omega arith in
    subst (λ k. Lacks b (take k (c ∷ cs))) one (eqb-false c b e, h)

-- before its place there is no b
lacks_before : (b : ℕ) (w : List ℕ) → Lacks b (take (place b w) w)
lacks_before b [] = tt
lacks_before b (c ∷ cs) = lacks_step (eqb c b) b c cs refl (lacks_before b cs)

-- up to the first b, and what stands behind it
pub parts_at : (b : ℕ) (e : List (List ℕ)) (w : List ℕ) → place b w < length w → parts b e w ≡ take (place b w) w ∷ parts b e (drop (place b w + 1) w)
parts_at b e w h =
    let k = place b w in
    let is : get_or w k 0 ≡ b = eqb-true _ _ (passes_at_first (λ c. eqb c b) w 0 h) in
    ap (parts b e) (split_at_first (λ c. eqb c b) w 0 h ∙ ap (λ c. take k w ++ (c ∷ drop (k + 1) w)) is)
    ∙ parts_front b e (take k w) (drop (k + 1) w) (lacks_before b w)

-- no b: all of the text lacks it
lacks_all : (b : ℕ) (w : List ℕ) → length w ≤ place b w → Lacks b w
lacks_all b w h = subst (Lacks b) (take_all (place b w) w h) (lacks_before b w)

-- no byte 10: one line
pub lines_last : (w : List ℕ) → 0 < length w → length w ≤ place 10 w → lines w ≡ w ∷ []
lines_last [] some h = absurd (omega arith)
lines_last (c ∷ cs) some h =
    lines_of (c ∷ cs) ((c ∷ cs) ∷ []) (record { ended = []; left = c ∷ cs; is = refl; ends = tt; lacks = lacks_all 10 (c ∷ cs) h; whole = refl })

-- the first line, and the lines behind it
pub lines_at : (w : List ℕ) → 0 < length w → lines w ≡ take (place 10 w) w ∷ lines (drop (place 10 w + 1) w)
lines_at w some =
    let k = place 10 w in
    ⊎_elim
    (λ more. parts_at 10 [] w more)
    (λ last. lines_last w some last ∙ (λ i. sym (take_all k w last) i ∷ lines (sym (drop_all (k + 1) w (omega arith)) i)))
    (cases_lt k (length w))

-- no space: one word
pub words_last : (w : List ℕ) → length w ≤ place 32 w → words w ≡ w ∷ []
words_last w h = parts_last 32 w (lacks_all 32 w h)
