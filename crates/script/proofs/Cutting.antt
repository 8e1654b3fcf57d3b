-- The first word of a text, as the code cuts it off.
use Rattle.std.proofs.Common.{◌≡◌, ℕ, ◌+◌, ◌-◌, ◌<◌, List, [], ◌∷◌, length, take, drop, Some, sym, ap, ◌∙◌, subst, arith}
use Rattle.std.proofs.lemmas.List.{take_all, take_rest, length-take-le}
use Rattle.grammar.specs.Text.{words, pieces}
use Rattle.script.specs.Lines.{place}
use Rattle.script.specs.declared.text.Text.{Text}
use Rattle.script.specs.Parts.{piece_of, words_left}
use Rattle.grammar.proofs.Spaced.{worded}
use Rattle.script.proofs.Splitting.{parts_at, words_last}

-- no space: the text is one word
pub cut_last : (k n : ℕ) (l : List ℕ) → n ≡ place 32 l → n ≡ length l → pieces k (words l) ≡ record { at = k; bytes = take n l } ∷ []
cut_last k n l is all = ap (pieces k) (words_last l (omega arith) ∙ ap (λ w. w ∷ []) (sym (take_all n l (omega arith))))

-- a first space: the word before it, and the words behind it
pub cut_more : (k n : ℕ) (l : List ℕ) → n ≡ place 32 l → n < length l → pieces k (words l) ≡ record { at = k; bytes = take n l } ∷ pieces (k + n + 1) (words (take (length l - (n + 1)) (drop (n + 1) l)))
cut_more k n l is h =
    let long = length-take-le n l (omega arith) in
    let s : words l ≡ take n l ∷ words (drop (n + 1) l) = subst (λ j. words l ≡ take j l ∷ words (drop (j + 1) l)) (sym is) (parts_at 32 ([] ∷ []) l (omega arith)) in
    let back = sym (take_rest l (n + 1)) in
    ap (pieces k) s ∙ (λ i. record { at = k; bytes = take n l } ∷ pieces (k + long i + 1) (words (back i)))

-- behind a space stands a word, perhaps an empty one
pub some_left : (t : Text) → 0 < length (words_left (record { left = Some t }))
some_left t = omega (arith, ap length (worded (piece_of t.part)).are)
