use Rattle.std.proofs.Common.{List, Option}
use Rattle.pungi_domain.specs.declared.affine_program.AffineProgram.{AffineProgram}
use Rattle.pungi_summary.specs.Calls.{AreCallable}
use Rattle.pungi_shape.specs.Classes.{classes_of}
use Rattle.pungi_verdict.specs.Across.{ArePrograms, AreProgramsAmong}
use Rattle.pungi_verdict.proofs.Asked.{code-below}
use Rattle.pungi_verdict.proofs.Callees.{called-below}
use Rattle.pungi_verdict.proofs.Reached.{are-callable, are-programs}
use Rattle.pungi_verdict.proofs.Stated.{ok-weaker}
use Rattle.pungi_verdict.proofs.across.file_programs.Goals as goal

pub returns-clause-programs : goal.returns-clause-programs
returns-clause-programs c =
    let codes = c.args.codes.now in
    let others = classes_of c.in_ok-classes.classes in
    ok-weaker c.programs.result (AreProgramsAmong codes others) (ArePrograms codes)
    (λ ps are. are-programs codes others ps are (code-below codes)) c.programs.ensures

pub returns-clause-callable : goal.returns-clause-callable
returns-clause-callable c = λ ns callees.
    let codes = c.args.codes.now in
    let others = classes_of c.in_ok-classes.classes in
    ok-weaker c.programs.result (AreProgramsAmong codes others)
    (λ (ps : List (Option AffineProgram)). AreCallable ps ns)
    (λ ps are. are-callable codes others ps are c.calls_fit_programs.ensures ns callees
    (called-below c.callees_are_called.ensures codes ns c.requires callees)) c.programs.ensures
