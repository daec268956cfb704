use Rattle.std.proofs.Common.{◌≡◌, List, [], ◌∷◌, ◌++◌, get_or, sym, subst, arith}
use Rattle.std.specs.List.{AllZip}
use Rattle.pungi_base.specs.declared.names.Name.{Name}
use Rattle.pungi_base.specs.declared.verdict.Verdict.{Verdict}
use Rattle.pungi_types.specs.Files.{definitions}
use Rattle.pungi_check.specs.Found.{checked_view}
use Rattle.pungi_verdict.specs.Verdicts.{IsJudgedByCopies}
use Rattle.pungi_verdict.proofs.Files.{judged-all, judged-next, name-read, names-long}
use Rattle.pungi_verdict.proofs.judge.verdicts.Goals as goal

pub verdict-requires-clause-there : goal.verdict-requires-clause-there
verdict-requires-clause-there c =
    let long = names-long (definitions (checked_view c.args.checked.now).file.items) c.args.names.now
    c.requires.named in
    let lt = c.loop-i-test.true in
    omega (arith, long, lt)

pub loop-i-preserved : goal.loop-i-preserved
loop-i-preserved c =
    let view = checked_view c.args.checked.now in
    let name : Name = get_or c.args.names.now c.loop-i.i (record { 0 = 0 }) in
    let line : Name × Verdict = (name, c.in_ok-verdict.verdict) in
    let pushed : c.push.new.self.items ≡ c.loop-i.lines.items ++ line ∷ [] = c.in_ok-push.ensures.items in
    λ more rest.
    subst (λ (l : List (Name × Verdict)). AllZip (IsJudgedByCopies view) (definitions view.file.items) (l ++ more))
    (sym pushed)
    (judged-next view c.args.names.now c.loop-i.i name c.in_ok-verdict.verdict c.loop-i.lines.items more
    c.requires.named
    c.loop-i-test.true (name-read c.args.names.now c.loop-i.i (record { 0 = 0 }) c.loop-i-test.true)
    c.in_ok-verdict.ensures c.loop-i.invariant rest)

pub returns : goal.returns
returns c =
    let view = checked_view c.args.checked.now in
    let long = names-long (definitions view.file.items) c.args.names.now c.requires.named in
    judged-all view c.loop-i.i c.loop-i.lines.items (omega (arith, long)) c.loop-i.invariant
