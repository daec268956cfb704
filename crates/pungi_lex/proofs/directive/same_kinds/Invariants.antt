use Rattle.std.proofs.Common.{◌≡◌, take}
use Rattle.pungi_lex.specs.Directive.{kinds_in}
use Rattle.pungi_lex.proofs.directive.same_kinds.Given as goal

abbrev pub invariant-loop-i : goal.invariant-loop-i
invariant-loop-i l = take l.i l.kinds ≡ take l.i (kinds_in l.tokens)
