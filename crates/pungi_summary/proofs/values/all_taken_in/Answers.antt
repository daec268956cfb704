use Rattle.std.proofs.Common.{◌≡◌, ◌∙◌, ◌<◌, ◌||◌, Some, arith, refl, sym, ap, subst}
use Rattle.std.specs.Prelude.{slice_get}
use Rattle.std.proofs.lemmas.List.{take_all}
use Rattle.std.proofs.lemmas.Option.{slice_get-get_or}
use Rattle.pungi_summary.specs.Values.{exits_room}
use Rattle.pungi_summary.proofs.Lists.{read_at, within}
use Rattle.pungi_summary.proofs.Grown.{grown_none, grown_more, grown_all, or_false, or_true}
use Rattle.pungi_summary.proofs.values.all_taken_in.Goals as goal
use Rattle.pungi_summary.proofs.values.all_taken_in.Goals.{in-Some+in_ok-grown+in_ok-push, in_default}
use Rattle.pungi_summary.proofs.values.all_taken_in.Goals.{then-grew, else-grew}

pub loop-class-init : goal.loop-class-init
loop-class-init g c =
    let d = g.D.Domain in
    rw (c.new-values.ensures, c.new.ensures.items)
    (grown_none d.least d.member d.width_of d.rank c.args.old.now c.args.added.now)

pub loop-class-preserved : goal.loop-class-preserved
loop-class-preserved g c =
    let dom = g.D.Domain in
    let old = c.args.old.now in
    let added = c.args.added.now in
    let n = c.loop-class.class in
    let count = c.requires.count in
    let o = c.index-old-class.result in
    let old_is : slice_get old n ≡ Some o = slice_get-get_or old n o (omega (arith, count, c.loop-class-test.true))
    ∙ ap Some (sym c.index-old-class.is) in
    elim c.match-old-class.branch [
      | in-Some+in_ok-grown+in_ok-push w ↦
          let before = c.loop-class.grew in
          let grew = w.in_ok-grown.grown.grew in
          let after : c.match-old-class.grew ≡ (before || grew) = elim w.if-grew.branch [
            | then-grew w' ↦ w.grew-is ∙ (w'.grew-is ∙ (w'.if-grew.true ∙ or_true before grew w'.if-grew.true))
            | else-grew w' ↦ w.grew-is ∙ (w'.grew-is ∙ or_false before grew w'.if-grew.false)
          ] in
          rw (w.values-is, w.in_ok-push.ensures.ok) (grown_more dom.least dom.member dom.width_of dom.rank old added n
          w.in-Some.value w.index-added-class.result w.in_ok-grown.grown.value c.loop-class.values before grew
          c.match-old-class.grew after (old_is ∙ ap Some w.in-Some.is)
          (read_at added added n w.index-added-class.result refl c.loop-class-test.true w.index-added-class.is)
          w.in_ok-grown.ensures.grown w.in_ok-grown.ensures.rose w.in_ok-grown.ensures.unchanged
          c.loop-class.invariant)
      | in_default w ↦
          let a = within added n c.loop-class-test.true in
          let fit = c.requires.widths n a.0 a.1 in
          let there = fit.1 in
          absurd (cc (there, old_is, w.in_default.is))
    ]

pub returns-clause-grown : goal.returns-clause-grown
returns-clause-grown g c =
    let d = g.D.Domain in
    grown_all d.least d.member d.width_of d.rank c.args.old.now c.args.added.now c.loop-class.class c.loop-class.values
    c.loop-class.grew (omega (arith, c.loop-class-test.false, c.loop-class.auto.class-end)) c.loop-class.invariant

pub returns-clause-rose : goal.returns-clause-rose
returns-clause-rose g c = λ is.
    let d = g.D.Domain in
    let count = c.requires.count in
    subst (λ xs. exits_room d.width_of d.rank c.loop-class.values < exits_room d.width_of d.rank xs)
    (take_all c.loop-class.class c.args.old.now (omega (arith, c.loop-class-test.false, count)))
    (c.loop-class.invariant.rose is)

pub returns-clause-unchanged : goal.returns-clause-unchanged
returns-clause-unchanged g c = λ is.
    let count = c.requires.count in
    c.loop-class.invariant.unchanged is
    ∙ take_all c.loop-class.class c.args.old.now (omega (arith, c.loop-class-test.false, count))
