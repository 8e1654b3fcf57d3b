-- The ranges of the numbers with which an engine is made.
use Rattle.std.specs.Prelude.{ℕ, Bool, cond, ◌&&◌, Ok, Err, Result, nat_le}
use Rattle.rules.specs.declared.refusal.Refusal.{Refusal}
use Rattle.rules.specs.declared.refusal.Refusal.TheVariants.{SizeOutOfRange, CapOutOfRange}
use Rattle.rules.specs.declared.sizes.Sizes.{Sizes}

-- n lies in low .. high, both included
abbrev pub within : ℕ → ℕ → ℕ → Bool
within low high n = nat_le low n && nat_le n high

-- 1 to 256 works, 1 to 8 pools and 1 to 64 ticket places
abbrev pub sizes_fit : ℕ → ℕ → ℕ → Bool
sizes_fit works pools places = within 1 256 works && (within 1 8 pools && within 1 64 places)

-- the sizes, or the refusal of sizes
abbrev pub sized : ℕ → ℕ → ℕ → Result Sizes Refusal
sized works pools places =
    cond (sizes_fit works pools places) (Ok (record { works = works; pools = pools; places = places })) (Err SizeOutOfRange)

-- a cap's bound is 1 to 255
abbrev pub capped : ℕ → Result ℕ Refusal
capped bound = cond (within 1 255 bound) (Ok bound) (Err CapOutOfRange)
