use Rattle.std.proofs.Common.{◌≡◌, length}
use Rattle.pungi_symbol.proofs.runs.candidate.Candidate.move_back_by_all.Given as goal

abbrev pub invariant-loop-i : goal.invariant-loop-i
invariant-loop-i l = length l.self.tokens.items ≡ length l.initial.self.tokens.items
