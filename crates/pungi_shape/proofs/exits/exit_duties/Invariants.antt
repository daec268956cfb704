use Rattle.std.proofs.Common.{◌≡◌, map}
use Rattle.std.specs.Prelude.{not}
use Rattle.std.specs.List.{filter, range_with_len}
use Rattle.pungi_shape.specs.Edges.{exit_duty, is_uncounted}
use Rattle.pungi_shape.proofs.exits.exit_duties.Given as goal

abbrev pub invariant-loop-t : goal.invariant-loop-t
invariant-loop-t l =
    l.duties
    ≡ map (exit_duty l.code l.shape) (filter (λ t. not (is_uncounted l.code l.shape t)) (range_with_len 0 l.t))
