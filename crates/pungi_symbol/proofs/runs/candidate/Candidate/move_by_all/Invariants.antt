use Rattle.std.proofs.Common.{◌≡◌, length}
use Rattle.pungi_symbol.proofs.runs.candidate.Candidate.move_by_all.Given as goal

abbrev pub invariant-loop-limit : goal.invariant-loop-limit
invariant-loop-limit l = length l.self.tokens.items ≡ length l.initial.self.tokens.items
