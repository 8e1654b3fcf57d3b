use Rattle.std.proofs.Common.{◌≡◌, map}
use Rattle.std.specs.List.{range_with_len}
use Rattle.list.specs.Lists.{members, Sound}
use Rattle.list_examples.specs.Kinds.{write_after, write_before, bare_write}
use Rattle.list_examples.proofs.profile.Profile.new.Given as goal

abbrev pub invariant-loop-i : goal.invariant-loop-i
invariant-loop-i l = record {
  sound : Sound write_after write_before l.writes l.waiting;
  holds : members write_after l.writes l.waiting ≡ range_with_len 0 l.i;
  fields : map bare_write l.writes ≡ map bare_write l.initial.writes;
}
