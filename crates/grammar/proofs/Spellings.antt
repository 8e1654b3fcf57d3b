-- Values that are written by words.
use Rattle.std.proofs.Common.{◌≡◌, ℕ, List, [], ◌∷◌, Some, Option, ap, ◌∙◌, arith, rules}
use Rattle.std.specs.Str.{bytes_eq}
use Rattle.std.proofs.lemmas.Bool.{cond_both}
use Rattle.std.proofs.lemmas.Option.{same_Some}
use Rattle.std.proofs.lemmas.Slice.Eq.{bytes_eq-Decides}
use Rattle.rules.specs.Names.{first_named}
use Rattle.rules.specs.Format.{verb_text, verb_named, head_text, policy_text, policy_named, store_text, store_named}
use Rattle.rules.specs.declared.call.Verb.{Verb}
use Rattle.rules.specs.declared.head.HeadVerb.{HeadVerb}
use Rattle.rules.specs.declared.head.PolicyName.{PolicyName}
use Rattle.rules.specs.declared.head.StoreName.{StoreName}
use Rattle.grammar.specs.Grammar.{Lacks}

-- a word that names a value is the word of that value
pub spells : {V : Type 0} (spelling : V → List ℕ) (vs : List V) (w : List ℕ) (v : V) → first_named spelling vs w ≡ Some v → w ≡ spelling v
spells spelling [] w v e = cc
spells spelling (u ∷ us) w v e =
    cond_both (bytes_eq w (spelling u)) _ _ (λ o. o ≡ Some v → w ≡ spelling v)
    (λ here s. (bytes_eq-Decides w (spelling u)).0 here ∙ ap spelling (same_Some u v s))
    (λ _ s. spells spelling us w v s)
    e

-- the word w names the value v, and there is no space in it
pub record Word {V : Type 0} (named : List ℕ → Option V) (w : List ℕ) (v : V) : Type 0 where
  pub names : named w ≡ Some v
  pub lacks : Lacks 32 w

-- the word of a verb, of a policy and of a store
pub verb_word : (v : Verb) → Word verb_named (verb_text v) v
verb_word v = record { names = search rules; lacks = search (rules, arith) }

pub policy_word : (v : PolicyName) → Word policy_named (policy_text v) v
policy_word v = record { names = search rules; lacks = search (rules, arith) }

pub store_word : (v : StoreName) → Word store_named (store_text v) v
store_word v = record { names = search rules; lacks = search (rules, arith) }

-- there is no space in the verb of a head line
pub head_lacks : (v : HeadVerb) → Lacks 32 (head_text v)
head_lacks v = search (rules, arith)
