use Rattle.std.proofs.Common.{ℕ, ◌<◌}
use Rattle.pungi_world.specs.Escapes.{IsCounted, IsLevel}
use Rattle.pungi_world.proofs.world.World.unbalanced.Given as goal

-- the objects so far that are counted are level
abbrev pub invariant-loop-object : goal.invariant-loop-object
invariant-loop-object l =
    (k : ℕ) → k < l.object → IsCounted l.terms k → IsLevel l.terms l.entry l.self l.returned k
