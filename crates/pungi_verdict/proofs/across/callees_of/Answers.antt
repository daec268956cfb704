use Rattle.std.proofs.Common.{List, subst}
use Rattle.std.specs.Prelude.{◌↔◌}
use Rattle.std.specs.List.{Contains, flat_map}
use Rattle.std.proofs.lemmas.List.{take_all}
use Rattle.pungi_code.specs.declared.code.Line.{Line}
use Rattle.pungi_shape.specs.Named.{callees_in}
use Rattle.pungi_verdict.proofs.Callees.{called-next, line-among}
use Rattle.pungi_verdict.proofs.across.callees_of.Goals as goal

pub push_callee-requires : goal.push_callee-requires
push_callee-requires c = λ g called.
    c.requires g (line-among c.args.lines.now c.loop-line.line-index c.line-item.result c.loop-line-test.true
    c.line-item.is g called)

pub loop-line-preserved : goal.loop-line-preserved
loop-line-preserved c =
    called-next c.args.lines.now c.loop-line.line-index c.line-item.result c.loop-line.list c.push_callee.new.list
    c.loop-line-test.true c.line-item.is c.loop-line.invariant c.in_ok-push_callee.ensures

pub returns : goal.returns
returns c = λ g.
    subst (λ (ls : List Line). Contains c.loop-line.list g ↔ Contains (flat_map callees_in ls) g)
    (take_all c.loop-line.line-index c.args.lines.now c.loop-line-test.false) (c.loop-line.invariant g)
