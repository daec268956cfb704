use Rattle.std.proofs.Common.{take, subst, arith}
use Rattle.std.specs.List.{flat_map}
use Rattle.pungi_shape.specs.Callers.{AreNoted}
use Rattle.pungi_shape.specs.Named.{callees_in}
use Rattle.pungi_shape.proofs.CallerLemmas.{noted-append}
use Rattle.pungi_shape.proofs.CalleeLemmas.{calls-more, line-called}
use Rattle.pungi_shape.proofs.callers.note_lines.Goals as goal

pub note_line-requires : goal.note_line-requires
note_line-requires c = λ g there.
    let lines = c.args.lines.now in
    let lt = c.requires g (line-called lines c.loop-line.line-index c.line-item.result g c.loop-line-test.true
    c.line-item.is there) in
    let count = c.loop-line.invariant.count in
    omega (arith, lt, count)

pub loop-line-preserved : goal.loop-line-preserved
loop-line-preserved c =
    let lines = c.args.lines.now in
    let i = c.loop-line.line-index in
    let line = c.line-item.result in
    let old = c.args.lists.now.items in
    let new = c.note_line.new.lists.items in
    subst (λ gs. AreNoted c.args.f gs old new) (calls-more lines i line c.loop-line-test.true c.line-item.is)
    (noted-append c.args.f (flat_map callees_in (take i lines)) (callees_in line) old c.loop-line.lists.items new
    c.loop-line.invariant c.in_ok-note_line.ensures)
