use Rattle.std.proofs.Common.{ℕ, ◌<◌}
use Rattle.std.specs.List.{slice_index_or}
use Rattle.pungi_symbol.specs.declared.states.limit.Limit.{Limit}
use Rattle.pungi_symbol.specs.runs.Numbers.{numbers_tried}
use Rattle.pungi_symbol.specs.runs.Paths.{IsMetBy}
use Rattle.pungi_symbol.proofs.runs.candidate.Candidate.meets_all.Given as goal

abbrev pub invariant-loop-limit : goal.invariant-loop-limit
invariant-loop-limit l =
    (i : ℕ) (d : Limit) → i < l.limit-index → IsMetBy (numbers_tried l.self) (slice_index_or l.limits i d)
