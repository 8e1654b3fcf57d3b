-- The first line of what is left of a script, as the code cuts it off.
use Rattle.std.proofs.Common.{◌≡◌, ℕ, ◌+◌, ◌-◌, ◌<◌, ◌≤◌, min, List, ◌∷◌, length, take, drop, sym, ap, ◌∙◌, ⊎_elim, arith}
use Rattle.std.proofs.lemmas.List.{length-take-le, length-drop, take_rest, drop_all, drop-drop}
use Rattle.std.proofs.lemmas.Bool.{cases_lt}
use Rattle.grammar.specs.Text.{lines, rows}
use Rattle.script.specs.Lines.{place}
use Rattle.script.proofs.Splitting.{lines_at}

-- `&script[at..]`
abbrev rest : List ℕ → ℕ → List ℕ
rest script at = take (length script - at) (drop at script)

-- n is the length of the first line, and to the place behind it and the byte 10 that ends it, if one does
module _ (script : List ℕ) (at n to : ℕ) (some : at < length script) (first : n ≡ place 10 (rest script at)) (fits : n ≤ length (rest script at)) (next : to ≡ min (at + n + 1) (length script)) where
  -- what is left behind the line
  behind : drop (n + 1) (rest script at) ≡ drop to script
  behind =
      let on : drop (n + 1) (rest script at) ≡ drop (at + (n + 1)) script = ap (drop (n + 1)) (take_rest script at) ∙ drop-drop (n + 1) at script in
      ⊎_elim
      (λ more. let e : at + (n + 1) ≡ to = omega arith in on ∙ ap (λ k. drop k script) e)
      (λ last. on ∙ drop_all (at + (n + 1)) script (omega arith) ∙ sym (drop_all to script (omega arith)))
      (cases_lt (at + n) (length script))

  -- the first line of what is left, and the others
  pub head : lines (drop at script) ≡ take n (rest script at) ∷ lines (drop to script)
  head =
      let w = rest script at in
      let back = take_rest script at in
      let size = length-drop at script in
      ap lines (sym back)
      ∙ lines_at w (omega (arith, ap length back))
      ∙ (λ i. take (sym first i) w ∷ lines (drop (sym first i + 1) w))
      ∙ ap (λ l. take n w ∷ lines l) behind

  -- behind the last line no line is left, and then the place of the next does not matter
  place_on : (m : ℕ) → rows m (at + length (take n (rest script at)) + 1) (lines (drop to script)) ≡ rows m to (lines (drop to script))
  place_on m =
      let long = length-take-le n (rest script at) fits in
      ⊎_elim
      (λ more. let e : at + length (take n (rest script at)) + 1 ≡ to = omega (arith, long) in ap (λ k. rows m k (lines (drop to script))) e)
      (λ last. let none = ap lines (drop_all to script (omega arith)) in ap (rows m (at + length (take n (rest script at)) + 1)) none ∙ sym (ap (rows m to) none))
      (cases_lt (at + n) (length script))

  -- the same by rows
  pub row : (m : ℕ) → rows m at (lines (drop at script)) ≡ record { number = m; text = record { at = at; bytes = take n (rest script at) } } ∷ rows (m + 1) to (lines (drop to script))
  row m = ap (rows m at) head ∙ ap (λ rs. record { number = m; text = record { at = at; bytes = take n (rest script at) } } ∷ rs) (place_on (m + 1))
