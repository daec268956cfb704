use Rattle.pungi_lex.specs.Directive.{HasNoJointBelow}
use Rattle.pungi_lex.proofs.directive.joint_place.Given as goal

abbrev pub invariant-loop-i : goal.invariant-loop-i
invariant-loop-i l = HasNoJointBelow l.body l.i
