use Rattle.std.proofs.Common.{arith}
use Rattle.pungi_verdict.proofs.Reached.{programs-all, programs-next}
use Rattle.pungi_shape.specs.Classes.{classes_of}
use Rattle.pungi_verdict.proofs.across.programs.Goals as goal

pub loop-f-preserved : goal.loop-f-preserved
loop-f-preserved c =
    programs-next c.args.codes.now (classes_of c.args.classes.now) c.loop-f.list c.push.new.self c.loop-f.f
    c.in_ok-program_of.field-0 c.in_ok-push.ensures.ok c.loop-f.invariant c.in_ok-program_of.ensures

pub returns : goal.returns
returns c =
    let long = c.len-f-end.ensures in
    let past = c.loop-f-test.false in
    let within = c.loop-f.auto.f-end in
    programs-all c.args.codes.now (classes_of c.args.classes.now) c.loop-f.list c.loop-f.f
    (omega (arith, long, past)) (omega (arith, long, within)) c.loop-f.invariant
