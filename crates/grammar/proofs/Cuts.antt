-- The parts of a text: each byte b ends one.
use Rattle.std.proofs.Common.{◌≡◌, ℕ, eqb, List, [], ◌∷◌, ◌++◌, sym, refl, ap, ◌∙◌, arith}
use Rattle.std.proofs.lemmas.List.{append_assoc}
use Rattle.std.proofs.lemmas.Bool.{eqb-true, eqb-false, ne_eqb, cond_both}
use Rattle.std.proofs.lemmas.Grind.{common_steps}
use Rattle.grammar.specs.Text.{grow, parts, lines}
use Rattle.grammar.specs.Grammar.{All, Lacks, closed, unclosed, Lined}

-- a text that lacks b is the first part if b follows
pub parts_front : (b : ℕ) (e : List (List ℕ)) (w rest : List ℕ) → Lacks b w → parts b e (w ++ (b ∷ rest)) ≡ w ∷ parts b e rest
parts_front b e [] rest h = grind (arith, common_steps)
parts_front b e (c ∷ cs) rest h = simp (ne_eqb c b h.0, parts_front b e cs rest h.1)

-- it is all of it if nothing follows
pub parts_last : (b : ℕ) (w : List ℕ) → Lacks b w → parts b ([] ∷ []) w ≡ w ∷ []
parts_last b [] h = refl
parts_last b (c ∷ cs) h = simp (ne_eqb c b h.0, parts_last b cs h.1)

-- a byte in front of what is left behind the last byte 10
grow-unclosed : (c : ℕ) (cs : List ℕ) → grow c (unclosed cs) ≡ (c ∷ cs) ∷ []
grow-unclosed c [] = refl
grow-unclosed c (d ∷ ds) = refl

-- what is left is a line of its own, if anything is
lines-left : (left : List ℕ) → Lacks 10 left → lines left ≡ unclosed left
lines-left [] h = refl
lines-left (c ∷ cs) h = simp (ne_eqb c 10 h.0, lines-left cs h.1, grow-unclosed c cs)

-- closed lines and what is left are cut into those lines
lines-closed : (ended : List (List ℕ)) (left : List ℕ) → All (Lacks 10) ended → Lacks 10 left → lines (closed ended ++ left) ≡ ended ++ unclosed left
lines-closed [] left h l = lines-left left l
lines-closed (w ∷ ws) left h l =
    ap lines (append_assoc w (10 ∷ closed ws) left)
    ∙ parts_front 10 [] w (closed ws ++ left) h.0
    ∙ ap (λ ls. w ∷ ls) (lines-closed ws left h.1 l)

-- a script is cut into no other lines than its own
pub lines_of : (script : List ℕ) (ls : List (List ℕ)) → Lined script ls → lines script ≡ ls
lines_of script ls h = ap lines h.is ∙ lines-closed h.ended h.left h.ends h.lacks ∙ sym h.whole

-- one more byte in front, which is no 10
lined_more : (c : ℕ) (cs : List ℕ) (ls : List (List ℕ)) (ended : List (List ℕ)) (left : List ℕ) → (c ≡ 10 → ⊥) → cs ≡ closed ended ++ left → All (Lacks 10) ended → Lacks 10 left → ls ≡ ended ++ unclosed left → Lined (c ∷ cs) (grow c ls)
lined_more c cs ls [] left apart is ends lacks whole =
    record { ended = []; left = c ∷ left; is = ap (λ l. c ∷ l) is; ends = tt; lacks = (apart, lacks); whole = ap (grow c) whole ∙ grow-unclosed c left }
lined_more c cs ls (w ∷ ws) left apart is ends lacks whole =
    record { ended = (c ∷ w) ∷ ws; left = left; is = ap (λ l. c ∷ l) is; ends = ((apart, ends.0), ends.1); lacks = lacks; whole = ap (grow c) whole }

-- and it is cut into those
pub lined : (script : List ℕ) → Lined script (lines script)
lined [] = record { ended = []; left = []; is = refl; ends = tt; lacks = tt; whole = refl }
lined (c ∷ cs) =
    let h = lined cs in
    cond_both (eqb c 10) _ _ (Lined (c ∷ cs))
    (λ t. record { ended = [] ∷ h.ended; left = h.left; is = (λ i. eqb-true c 10 t i ∷ h.is i); ends = (tt, h.ends); lacks = h.lacks; whole = ap (λ ls. [] ∷ ls) h.whole })
    (λ f. lined_more c cs (lines cs) h.ended h.left (eqb-false c 10 f) h.is h.ends h.lacks h.whole)
