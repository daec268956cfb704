use Rattle.std.proofs.Common.{◌≡◌, ℕ, ◌<◌}
use Rattle.pungi_domain.specs.WellFormed.{coordinate}
use Rattle.pungi_domain.proofs.well_formed.comes_before.Given as goal

abbrev pub invariant-loop-j : goal.invariant-loop-j
invariant-loop-j l = (i : ℕ) → i < l.j → coordinate l.row i ≡ coordinate l.row l.k → ⊥
