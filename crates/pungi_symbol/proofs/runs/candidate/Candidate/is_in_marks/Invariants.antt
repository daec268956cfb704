use Rattle.std.proofs.Common.{ℕ, ◌<◌, pos, get_or}
use Rattle.pungi_symbol.specs.declared.states.mark.Mark.TheVariants.{IsNull}
use Rattle.pungi_symbol.specs.runs.Paths.{IsInMark}
use Rattle.pungi_symbol.proofs.runs.candidate.Candidate.is_in_marks.Given as goal

abbrev pub invariant-loop-t : goal.invariant-loop-t
invariant-loop-t l =
    (t : ℕ) → t < l.t → IsInMark (get_or l.marks t IsNull) (get_or l.self.tokens.items t (pos 0))
