use Rattle.std.proofs.Common.{◌≡◌, ◌-◌}
use Rattle.pungi_shape.specs.Scenes.{token_forms}
use Rattle.pungi_shape.proofs.scenes.token_forms.Given as goal

abbrev pub invariant-loop-k : goal.invariant-loop-k
invariant-loop-k l = l.out ≡ token_forms l.width l.from (l.k - l.from)
