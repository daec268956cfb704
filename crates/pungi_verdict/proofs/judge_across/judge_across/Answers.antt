use Rattle.std.proofs.Common.{◌≡◌, List, Some, ap, arith, length, slice_get, subst, sym}
use Rattle.pungi_base.specs.declared.names.Name.{Name}
use Rattle.pungi_base.specs.declared.verdict.Verdict.{Verdict}
use Rattle.pungi_check.specs.Found.{checked_view}
use Rattle.pungi_types.specs.Files.{definitions}
use Rattle.pungi_verdict.proofs.Files.{codes-long}
use Rattle.pungi_verdict.proofs.Mixed.{all-stay}
use Rattle.pungi_verdict.proofs.Zipped.{zipped}
use Rattle.pungi_verdict.specs.Verdicts.{IsJudgedByCopies}
use Rattle.pungi_verdict.proofs.judge_across.judge_across.Goals as goal

pub has_open_caller-requires : goal.has_open_caller-requires
has_open_caller-requires c =
    let view = checked_view c.args.checked.now in
    let ds = definitions view.file.items in
    let long = codes-long view c.args.codes.now c.requires.codes in
    let are = (zipped (IsJudgedByCopies view) ds c.args.lines.now.items c.requires.lines).count in
    let same = ap (λ (l : List (Name × Verdict)). length l) c.as_slice.ensures.value in
    omega (arith, long, are, same)

pub returns-then-not-has_open_caller : goal.returns-then-not-has_open_caller
returns-then-not-has_open_caller c =
    let view = checked_view c.args.checked.now in
    all-stay view c.args.codes.now c.requires.codes c.args.lines.now.items c.requires.lines
    (λ f line at. c.has_open_caller.ensures c.if-not-has_open_caller.true f line
    (subst (λ (l : List (Name × Verdict)). slice_get l f ≡ Some line) (sym c.as_slice.ensures.value) at))
