use Rattle.list.proofs.Moving.{popped}
use Rattle.list.proofs.linked_list.LinkedList.pop_front.Goals as goal

pub returns : goal.returns
returns g c =
    let was = c.in_ok-front.was in
    popped c.requires was c.remove.ensures cc
