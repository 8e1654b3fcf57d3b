-- The lines on the calls, verb by verb.
use Rattle.std.proofs.Common.{◌≡◌, ℕ, ◌+◌, ◌<◌, List, [], ◌++◌, length, get_or, take, decimal, sym, ap, ◌∙◌}
use Rattle.std.specs.List.{flat_map}
use Rattle.std.proofs.lemmas.List.{take_more, flat_map_more}
use Rattle.rules.specs.declared.call.Verb.{Verb}
use Rattle.rules.specs.Format.{verbs, verb_text, verb_index}
use Rattle.grammar.specs.declared.numbered.NumberedCall.{NumberedCall}
use Rattle.report.specs.Report.{entry, count_at, verb_report}

-- behind the lines on the first verbs comes the line on the next one
pub lines_more : (cs : List NumberedCall) (front text : List ℕ) (n i : ℕ) (d : Verb) → i < length verbs → text ≡ front ++ flat_map (verb_report cs) (take i verbs) → n ≡ count_at (verb_index (get_or verbs i d)) cs → text ++ entry (verb_text (get_or verbs i d)) (decimal n) [] ≡ front ++ flat_map (verb_report cs) (take (i + 1) verbs)
lines_more cs front text n i d h before counted =
    (λ j. before j ++ entry (verb_text (get_or verbs i d)) (decimal (counted j)) [])
    ∙ flat_map_more (verb_report cs) front (take i verbs) (get_or verbs i d)
    ∙ ap (λ vs. front ++ flat_map (verb_report cs) vs) (sym (take_more verbs i d h))
