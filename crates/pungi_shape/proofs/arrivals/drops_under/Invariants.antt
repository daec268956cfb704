use Rattle.std.proofs.Common.{◌≡◌, ◌++◌, ℕ, Option, drop}
use Rattle.std.specs.List.{flat_map, zip}
use Rattle.pungi_shape.specs.Forms.{Form}
use Rattle.pungi_shape.specs.Numbered.{dropped}
use Rattle.pungi_shape.proofs.arrivals.drops_under.Given as goal

abbrev pub invariant-loop-t : goal.invariant-loop-t
invariant-loop-t l =
    l.drops ++ flat_map (λ (e : Option ℕ × Option Form). dropped e.0 e.1) (zip (drop l.t l.numbers) (drop l.t
    l.balances))
    ≡ flat_map (λ (e : Option ℕ × Option Form). dropped e.0 e.1) (zip l.numbers l.balances)
