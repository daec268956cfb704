use Rattle.std.proofs.Common.{◌≡◌, ◌∙◌, ◌≤◌, ◌+◌, ◌^◌, ℕ, List, Option, ap, arith, subst, sym, true}
use Rattle.std.specs.Prelude.{unwrap_or}
use Rattle.std.specs.List.{list_all}
use Rattle.pungi_check.specs.Found.{checked_view, is_sound_function}
use Rattle.pungi_types.specs.Files.{definitions}
use Rattle.pungi_resolved.specs.Functions.{ResolvedFunction}
use Rattle.pungi_code.specs.declared.code.Codes.{Codes}
use Rattle.pungi_verdict.proofs.Files.{at-index, codes-long, defined-at}
use Rattle.pungi_verdict.proofs.Mixed.{again, judged-all, judged-next, judged-none, open-has-code}
use Rattle.pungi_verdict.proofs.judge_across.lines_across.Goals as goal

pub loop-f-init : goal.loop-f-init
loop-f-init c =
    let view = checked_view c.args.checked.now in
    judged-none view (definitions view.file.items) c.args.lines.now.items c.requires.lines

pub index-requires : goal.index-requires
index-requires c =
    let long = codes-long (checked_view c.args.checked.now) c.args.codes.now c.requires.codes in
    let count = c.loop-f.invariant.count in
    let end = c.len-f-end.ensures in
    let lt = c.loop-f-test.true in
    omega (arith, long, count, end, lt)

pub judge_again-requires-clause-there : goal.judge_again-requires-clause-there
judge_again-requires-clause-there c =
    let end = c.len-f-end.ensures in
    let lt = c.loop-f-test.true in
    omega (arith, end, lt)

pub judge_again-requires-clause-code : goal.judge_again-requires-clause-code
judge_again-requires-clause-code c = λ unknown.
    let view = checked_view c.args.checked.now in
    let ds = definitions view.file.items in
    let long = codes-long view c.args.codes.now c.requires.codes in
    let count = c.loop-f.invariant.count in
    let end = c.len-f-end.ensures in
    let lt = c.loop-f-test.true in
    let d = defined-at ds c.loop-f.f (omega (arith, long, end, lt)) in
    let line = at-index c.loop-f.lines.items c.loop-f.f c.index.result.now (omega (arith, long, count, end, lt))
    c.index.ensures in
    open-has-code view c.args.codes.now c.requires.codes d.0 c.loop-f.f d.1 c.index.result.now
    (c.loop-f.invariant.others c.loop-f.f d.0 c.index.result.now (omega arith) d.1 line) unknown

pub loop-f-preserved : goal.loop-f-preserved
loop-f-preserved c =
    let view = checked_view c.args.checked.now in
    let ds = definitions view.file.items in
    let codes = c.args.codes.now in
    let long = codes-long view codes c.requires.codes in
    let count = c.loop-f.invariant.count in
    let end = c.len-f-end.ensures in
    let lt = c.loop-f-test.true in
    let line = c.index.result.now in
    let at = at-index c.loop-f.lines.items c.loop-f.f line (omega (arith, long, count, end, lt)) c.index.ensures in
    let sound = subst (λ (fs : List (Option ResolvedFunction)). list_all is_sound_function fs ≡ true)
    c.requires.checked.resolved_are c.requires.checked.sound in
    let few : codes.statics ≤ 2 ^ 30 + 24 = subst (λ (n : ℕ). n ≤ 2 ^ 30 + 24) (c.requires.checked.statics_are
    ∙ sym (ap (λ (cs : Codes). cs.statics) c.requires.codes)) c.requires.checked.few_statics in
    judged-next view ds c.loop-f.lines.items c.put_verdict.new.lines.items c.loop-f.f line
    (unwrap_or c.in_ok-verdict.verdict line.1) c.loop-f.invariant at c.put_verdict.ensures.count
    c.put_verdict.ensures.others (c.put_verdict.ensures.here line at)
    (λ d defined by. again view codes c.requires.codes c.requires.formed c.requires.lowered sound few
    c.functions_are_reached.ensures c.values_are_balanced_among.ensures d c.loop-f.f defined line
    (unwrap_or c.in_ok-verdict.verdict line.1) c.in_ok-verdict.ensures by)

pub returns : goal.returns
returns c =
    let view = checked_view c.args.checked.now in
    let long = codes-long view c.args.codes.now c.requires.codes in
    let count = c.loop-f.invariant.count in
    let end = c.len-f-end.ensures in
    let past = c.loop-f-test.false in
    judged-all view (definitions view.file.items) c.loop-f.lines.items c.loop-f.f
    (omega (arith, long, count, end, past))
    c.loop-f.invariant
