use Rattle.std.proofs.Common.{◌≡◌, drop, map}
use Rattle.pungi_shape.specs.Exits.{are_alike}
use Rattle.pungi_shape.specs.Scenes.{Scene, holding_of}
use Rattle.pungi_shape.proofs.joins.are_alike.Given as goal

-- those that are left decide
abbrev pub invariant-loop-i : goal.invariant-loop-i
invariant-loop-i l =
    (s : Scene) → s.shape ≡ l.shape
    → are_alike (drop l.i l.entry) (drop l.i (map (holding_of s) l.atoms))
    ≡ are_alike l.entry (map (holding_of s) l.atoms)
