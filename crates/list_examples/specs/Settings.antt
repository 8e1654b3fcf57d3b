-- What the writes of a profile set.
use Rattle.std.specs.Prelude.{ℕ, List, map, slice_index_or}
use Rattle.list.specs.declared.linked_list.LinkedList.{LinkedList}
use Rattle.list.specs.Lists.{members}
use Rattle.list_examples.specs.declared.write.Write.{Write}
use Rattle.list_examples.specs.Kinds.{write_after}

-- the register of a write, and its value
abbrev pub setting_of : Write → ℕ × ℕ
setting_of w = (w.register, w.value)

-- the settings of the writes that wait, in the order of their list
abbrev pub pending : List Write → LinkedList → List (ℕ × ℕ)
pending ws list = map (λ k. slice_index_or (map setting_of ws) k (0, 0)) (members write_after ws list)
