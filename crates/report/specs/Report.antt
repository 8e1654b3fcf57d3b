-- The report on a script, to the byte.
use Rattle.std.specs.Prelude.{ℕ, ◌+◌, cond, List, [], ◌∷◌, ◌++◌, Ok, Err, codes, decimal, Result, ◌==◌}
use Rattle.std.specs.List.{flat_map}
use Rattle.rules.specs.declared.call.Verb.{Verb}
use Rattle.rules.specs.declared.word.Word.TheVariants.{Fault}
use Rattle.rules.specs.declared.sizes.Sizes.{Sizes}
use Rattle.rules.specs.Format.{fault_number, verb_text, verbs, verb_of, verb_index, word_text, policy_text, store_text}
use Rattle.grammar.specs.declared.head.Head.{Head}
use Rattle.grammar.specs.declared.numbered.NumberedCall.{NumberedCall}
use Rattle.grammar.specs.Faults.{Failure}
use Rattle.grammar.specs.Reading.{read_script}
use Rattle.grammar.specs.Text.{lines, skips}

-- a line of the report, and what follows it: a name, a space, a value, byte 10
abbrev pub entry : List ℕ → List ℕ → List ℕ → List ℕ
entry name value rest = name ++ (32 ∷ (value ++ (10 ∷ rest)))

-- how many of the calls have the k-th verb
abbrev pub count_at : ℕ → List NumberedCall → ℕ
count_at k [] = 0
count_at k (c ∷ cs) = cond (verb_index (verb_of c.call) == k) 1 0 + count_at k cs

-- the lines on the sizes
abbrev pub sizes_report : Sizes → List ℕ
sizes_report s =
    entry (codes "works") (decimal s.works)
    (entry (codes "pools") (decimal s.pools)
    (entry (codes "places") (decimal s.places) []))

-- the lines on the head
abbrev pub head_report : Head → List ℕ
head_report h =
    sizes_report h.sizes
    ++ entry (codes "policy") (policy_text h.policy)
    (entry (codes "cap") (decimal h.cap)
    (entry (codes "store") (store_text h.store) []))

-- the line on the calls of one verb
abbrev pub verb_report : List NumberedCall → Verb → List ℕ
verb_report cs v = entry (verb_text v) (decimal (count_at (verb_index v) cs)) []

-- the lines on the calls, a line for each verb
abbrev pub calls_report : List NumberedCall → List ℕ
calls_report cs = flat_map (verb_report cs) verbs

-- the report on an admitted script with so many skipped lines
abbrev pub admitted_report : Head → List NumberedCall → ℕ → List ℕ
admitted_report h cs skipped = head_report h ++ (calls_report cs ++ entry (codes "skipped") (decimal skipped) [])

-- the report on a faulty script, one line
abbrev pub fault_report : Failure → List ℕ
fault_report f = word_text Fault ++ (32 ∷ (decimal (fault_number f.kind) ++ (codes " line " ++ (decimal f.line ++ (10 ∷ [])))))

-- the report by what was read
abbrev pub report_by : Result (Head × List NumberedCall) Failure → ℕ → List ℕ
report_by (Ok r) skipped = admitted_report r.0 r.1 skipped
report_by (Err f) skipped = fault_report f

-- the report on any script
abbrev pub report_on : List ℕ → List ℕ
report_on script = report_by (read_script script) (skips (lines script))
