use Rattle.std.proofs.Common.{take, subst}
use Rattle.std.specs.List.{flat_map}
use Rattle.pungi_shape.specs.Named.{callees_in}
use Rattle.pungi_shape.proofs.CalleeLemmas.{calls-more, line-called}
use Rattle.pungi_shape.proofs.ClassLemmas.{CallsListed, lacks-among, listed-both}
use Rattle.pungi_shape.proofs.all_classes.calls_large.Goals as goal

pub line_calls_large-requires : goal.line_calls_large-requires
line_calls_large-requires c = λ g there.
    c.requires g (line-called c.args.lines.now c.loop-line.line-index c.line-item.result g c.loop-line-test.true
    c.line-item.is there)

pub returns-then-line_calls_large : goal.returns-then-line_calls_large
returns-then-line_calls_large c =
    let lines = c.args.lines.now in
    let line = c.line-item.result in
    lacks-among c.args.classes.now (callees_in line) (flat_map callees_in lines)
    (λ g there. line-called lines c.loop-line.line-index line g c.loop-line-test.true c.line-item.is there)
    c.if-line_calls_large.ensures

pub loop-line-preserved : goal.loop-line-preserved
loop-line-preserved c =
    let lines = c.args.lines.now in
    let i = c.loop-line.line-index in
    let line = c.line-item.result in
    subst (CallsListed c.args.classes.now) (calls-more lines i line c.loop-line-test.true c.line-item.is)
    (listed-both c.args.classes.now (flat_map callees_in (take i lines)) (callees_in line) c.loop-line.invariant
    c.if-line_calls_large.ensures)
