use Rattle.std.proofs.Common.{◌≡◌, ℕ, List, None, Some, Option, sym, subst, rules}
use Rattle.grammar.specs.Numbers.{number_of}
use Rattle.grammar.proofs.Numbers.{Exact, exact}
use Rattle.script.proofs.number.number_of.Goals as goal

-- what is told is exact
exactly : (w : List ℕ) (r : Option ℕ) → r ≡ number_of w → Exact w r
exactly w r told = subst (Exact w) (sym told) (exact w)

pub returns-in-empty : goal.returns-in-empty
unfolding number_of
returns-in-empty c = record { value = search rules; exact = exactly c.args.word.now None (search rules) }

pub returns-in-48 : goal.returns-in-48
unfolding number_of
returns-in-48 c = record { value = search rules; exact = exactly c.args.word.now (Some 0) (search rules) }

pub returns-in-48-2 : goal.returns-in-48-2
unfolding number_of
returns-in-48-2 c = record { value = search rules; exact = exactly c.args.word.now None (search rules) }

pub returns-in_default : goal.returns-in_default
unfolding number_of
returns-in_default c = record { value = search rules; exact = exactly c.args.word.now c.read_on.result (search rules) }
