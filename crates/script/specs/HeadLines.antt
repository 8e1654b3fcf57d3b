-- The verb of a line of the head, as the reader tests it.
use Rattle.std.specs.Prelude.{◌≡◌, true, false, Ok, Err, Result}
use Rattle.std.specs.Str.{bytes_eq}
use Rattle.script.specs.declared.fault.LineFault.{LineFault}
use Rattle.script.specs.declared.fault.LineFault.TheVariants.{Verb}
use Rattle.rules.specs.declared.head.HeadVerb.{HeadVerb}
use Rattle.script.specs.declared.words.Words.{Words}
use Rattle.script.specs.declared.lines.WordLine.{WordLine}
use Rattle.rules.specs.Format.{head_text}

-- the line has the verb v, or another word stands there
abbrev pub HeadRest : WordLine → HeadVerb → Result Words LineFault → Type 0
HeadRest l v (Ok rest) = (bytes_eq l.first.bytes.now (head_text v) ≡ true) × (rest ≡ l.rest)
HeadRest l v (Err e) = (bytes_eq l.first.bytes.now (head_text v) ≡ false) × (e ≡ Verb l.first)
