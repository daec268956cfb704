use Rattle.std.proofs.Common.{◌≡◌, drop}
use Rattle.pungi_inline.specs.FirstCall.{first_call}
use Rattle.pungi_inline.proofs.first_calls.first_call.Given as goal

abbrev pub invariant-loop-line : goal.invariant-loop-line
invariant-loop-line l = first_call (drop l.line-index l.code.instrs) ≡ first_call l.code.instrs
