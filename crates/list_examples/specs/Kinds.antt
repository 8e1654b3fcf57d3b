-- The links of the two kinds of records, and the records with their links taken off.
use Rattle.std.specs.Prelude.{ℕ, None, Option}
use Rattle.list_examples.specs.declared.place.Place.{Place}
use Rattle.list_examples.specs.declared.write.Write.{Write}

-- the number of the write before it
abbrev pub write_before : Write → Option ℕ
write_before w = w.prev

-- the number of the write after it
abbrev pub write_after : Write → Option ℕ
write_after w = w.next

-- the write with its links taken off
abbrev pub bare_write : Write → Write
bare_write w = record { register = w.register; value = w.value; prev = None; next = None }

-- the number of the place before it
abbrev pub place_before : Place → Option ℕ
place_before p = p.links.0

-- the number of the place after it
abbrev pub place_after : Place → Option ℕ
place_after p = p.links.1

-- the place with its links taken off
abbrev pub bare_place : Place → Place
bare_place p = record { links = (None, None); out = p.out; holder = p.holder }
