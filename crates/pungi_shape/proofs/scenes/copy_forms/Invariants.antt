use Rattle.std.proofs.Common.{◌≡◌, take}
use Rattle.pungi_shape.proofs.scenes.copy_forms.Given as goal

abbrev pub invariant-loop-f : goal.invariant-loop-f
invariant-loop-f l = l.out ≡ take l.f-index l.forms
