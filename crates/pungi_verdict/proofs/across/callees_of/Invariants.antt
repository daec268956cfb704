use Rattle.std.proofs.Common.{ℕ, take}
use Rattle.std.specs.Prelude.{◌↔◌}
use Rattle.std.specs.List.{Contains, flat_map}
use Rattle.pungi_shape.specs.Named.{callees_in}
use Rattle.pungi_verdict.proofs.across.callees_of.Given as goal

-- what the lines so far call
abbrev pub invariant-loop-line : goal.invariant-loop-line
invariant-loop-line l = (g : ℕ) → Contains l.list g ↔ Contains (flat_map callees_in (take l.line-index l.lines)) g
