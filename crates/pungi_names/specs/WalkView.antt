-- What a walk along typedefs stands for.
--   one_more k r       what is reached through one typedef more, with so many stars
--   IsWalk step s k    a walk from a word to its end
use Rattle.std.specs.Prelude.{ℕ, ◌+◌, reverse, option_map}
use Rattle.pungi_types.specs.Kinds.{Followed, more_stars}
use Rattle.pungi_names.specs.Depth.{TypedefTarget}
use Rattle.pungi_names.specs.Finds.{reached_view}
use Rattle.pungi_names.specs.Walk.{IsPath, EndsAt}
use Rattle.pungi_names.specs.declared.walk.Walk.{Walk}

abbrev pub one_more : ℕ → TypedefTarget → TypedefTarget
one_more k r = record { depth = r.depth + 1; at = more_stars k r.at }

abbrev pub IsWalk : (ℕ → ℕ → Followed) → ℕ → Walk → Type 0
IsWalk step s k =
    IsPath step s (reverse k.path.items) k.at
    × EndsAt step (reverse k.path.items) k.at (option_map reached_view k.end)
