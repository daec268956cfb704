use Rattle.std.proofs.Common.{◌≡◌, ◌≤◌, get_or, take}
use Rattle.std.specs.List.{count_by}
use Rattle.pungi_shape.specs.declared.holding.Holding.TheVariants.{Unset}
use Rattle.pungi_shape.specs.Shapes.{is_token}
use Rattle.pungi_shape.proofs.exits.taken_of.Given as goal

abbrev pub invariant-loop-place : goal.invariant-loop-place
invariant-loop-place l = record {
  count : l.count ≡ count_by (λ p. is_token l.t (get_or l.shape.entry p Unset)) (take l.place-index l.taken);
  few : l.count ≤ l.place-index;
}
