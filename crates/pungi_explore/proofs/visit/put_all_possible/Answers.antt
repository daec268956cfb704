use Rattle.std.proofs.Common.{◌∷◌, [], map, sym, subst}
use Rattle.std.proofs.lemmas.List.{map-append}
use Rattle.pungi_explore.specs.Visits.{Puts}
use Rattle.pungi_explore.proofs.Endings.{puts_none, puts_more}
use Rattle.pungi_explore.proofs.visit.put_all_possible.Goals as goal

pub loop-decision-init : goal.loop-decision-init
loop-decision-init c = puts_none c.args.pending.now

pub loop-decision-preserved : goal.loop-decision-preserved
loop-decision-preserved c =
    let old = c.args.pending.now in
    let new = c.put_possible.new.pending in
    let s = c.in-Some.state in
    let put = puts_more (map (λ p. p.1) c.loop-decision.yielded) old c.loop-decision.pending new s
    c.loop-decision.invariant (c.in_ok-put_possible.ensures {u = tt}) in
    subst (λ ss. Puts ss old new) (sym (map-append (λ p. p.1) c.loop-decision.yielded
    ((c.in-Some.decision, s) ∷ []))) put
