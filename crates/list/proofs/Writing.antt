-- What the links and the records are once a link of a record is set.
use Rattle.std.proofs.Common.{get_or-set_other, get_or-set_same}
use Rattle.std.proofs.lemmas.List.{length-map}
use lib.Seq.{map-set, map-set_same}
use Rattle.list.proofs.Counting.{not_first, times_append}

-- the links, and the records that were not written
pub ruleset link_set = (map-set, map-set_same, get_or-set_other, get_or-set_same, length-map, not_first, times_append)
