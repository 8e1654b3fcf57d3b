-- How far from the front of a script a part of it can end.
use Rattle.std.specs.Prelude.{◌+◌, ◌≤◌, length}
use Rattle.script.specs.declared.part.Part.{Part}

-- the part ends within the longest script, so that no place overflows
abbrev pub Near : Part → Type 0
Near p = p.at + length p.bytes.now ≤ 32768
