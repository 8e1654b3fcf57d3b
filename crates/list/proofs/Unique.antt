-- That a list holds some records has one proof at most, so that an invariant of a type may say it, as ∥ Sound .. ∥₁.
use Rattle.std.proofs.Common.{ℕ, List, [], ◌∷◌, Some, Option}
use Rattle.std.proofs.Math.Logic.{∥∥₁_elim}
use Rattle.std.proofs.Props.{props}
use Rattle.list.specs.declared.linked_list.LinkedList.{LinkedList}
use Rattle.list.specs.Links.{Between}
use Rattle.list.specs.Lists.{Holds}

between_prop : (next prev : Option ℕ → Option ℕ) (a : Option ℕ) (xs : List ℕ) (b : Option ℕ) → IsProp (Between next prev a xs b)
between_prop next prev a [] b = hlevel props
between_prop next prev a (x ∷ xs) b = hlevel (between_prop next prev (Some x) xs b, props)

-- out of an invariant
pub truly : {nexts prevs : List (Option ℕ)} {list : LinkedList} {xs : List ℕ} → ∥ Holds nexts prevs list xs ∥₁ → Holds nexts prevs list xs
truly t = ∥∥₁_elim t (hlevel (between_prop, props)) (λ h. h)
