use Rattle.std.proofs.Common.{◌∙◌, ◌++◌, ◌∷◌, [], sym, ap, true, false}
use Rattle.std.proofs.lemmas.List.{append-nil}
use Rattle.std.specs.Prelude.{not}
use Rattle.pungi_shape.specs.Edges.{exit_duty, is_uncounted}
use Rattle.pungi_shape.proofs.UnitLemmas.{kept-more}
use Rattle.pungi_shape.proofs.exits.exit_duties.Goals.{then-not-is_uncounted+in_ok-exit_duty+in_ok-push}
use Rattle.pungi_shape.proofs.exits.exit_duties.Goals.{else-not-is_uncounted}
use Rattle.pungi_shape.proofs.exits.exit_duties.Goals as goal

pub loop-t-preserved : goal.loop-t-preserved
loop-t-preserved c =
    let code = c.args.code.now in
    let s = c.args.shape.now in
    let more = kept-more (exit_duty code s) (λ t. not (is_uncounted code s t)) c.loop-t.t in
    elim c.if-not-is_uncounted.branch [
      | then-not-is_uncounted+in_ok-exit_duty+in_ok-push w ↦
          w.duties-is ∙ w.in_ok-push.ensures.ok
          ∙ ap (λ f. c.loop-t.duties ++ f ∷ []) w.in_ok-exit_duty.ensures
          ∙ ap (λ fs. fs ++ exit_duty code s c.loop-t.t ∷ []) c.loop-t.invariant
          ∙ sym (more true (ap not (sym c.is_uncounted.ensures ∙ w.if-not-is_uncounted.true)))
      | else-not-is_uncounted w ↦
          w.duties-is ∙ c.loop-t.invariant ∙ sym (append-nil _)
          ∙ sym (more false (ap not (sym c.is_uncounted.ensures ∙ w.if-not-is_uncounted.false)))
    ]
