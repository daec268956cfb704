-- Worlds that can be counted.
--   IsSmall w        a world has few objects and few slots
use Rattle.std.specs.Prelude.{◌<◌, ◌^◌, ◌-◌, length}
use Rattle.pungi_world.specs.declared.world.World.{World}

abbrev pub IsSmall : World → Type 0
IsSmall w = (length w.accounts < 2 ^ 32 - 1) × (length w.slots < 2 ^ 60)
