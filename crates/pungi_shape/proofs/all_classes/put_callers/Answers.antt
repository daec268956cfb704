use Rattle.std.proofs.Common.{◌≡◌, ◌∙◌, inl, inr, refl, sym, ap, subst, arith, Some, slice_get}
use Rattle.std.specs.Prelude.{get_or}
use Rattle.std.proofs.lemmas.Bool.{cases_lt}
use Rattle.std.proofs.lemmas.Option.{slice_get-get_or, slice_get_within}
use Rattle.pungi_links.specs.Ring.{Stands}
use Rattle.pungi_shape.proofs.CallerLemmas.{stands-at}
use Rattle.pungi_shape.proofs.PendingLemmas.{put}
use Rattle.pungi_shape.proofs.ReachingLemmas.{stands-get}
use Rattle.pungi_shape.proofs.all_classes.put_callers.Goals as goal

pub loop-caller-init : goal.loop-caller-init
loop-caller-init c = record {
  pending = c.requires.pending;
  limit = refl;
  kept = λ f s. s;
  put = λ j g lt at. absurd (omega (arith, lt));
  few = omega arith;
}

pub put-requires : goal.put-requires
put-requires c =
    let callers = c.args.callers.now in
    let i = c.loop-caller.caller-index in
    let h = c.requires.callers (get_or callers i 0)
    (stands-at callers i (get_or callers i 0) (slice_get-get_or callers i 0 c.loop-caller-test.true)) in
    let n = c.loop-caller.invariant.limit in
    omega (arith, h, n)

pub loop-caller-preserved : goal.loop-caller-preserved
loop-caller-preserved c =
    let callers = c.args.callers.now in
    let i = c.loop-caller.caller-index in
    let g = get_or callers i 0 in
    let p = put c.loop-caller.pending g c.put.new.self c.put.result c.put.ensures.puts in
    record {
      pending = c.put.ensures.pending;
      limit = p.limit ∙ c.loop-caller.invariant.limit;
      kept = λ f h. p.kept f (c.loop-caller.invariant.kept f h);
      put = λ j h lt at. elim (cases_lt j i) [
        | inl before ↦ p.kept h (c.loop-caller.invariant.put j h before at)
        | inr from ↦
            let number : j ≡ i = omega (arith, lt, from) in
            let here : slice_get callers i ≡ Some h = subst (λ n. slice_get callers n ≡ Some h) number at in
            let there = slice_get-get_or callers i 0 c.loop-caller-test.true in
            let same : g ≡ h = cc (there, here) in
            subst (λ x. Stands x c.put.new.self.list) same p.there
      ];
      few = (let one = p.one in let before = c.loop-caller.invariant.few in omega (arith, one, before));
    }

pub returns-clause-put : goal.returns-clause-put
returns-clause-put c = λ g s.
    let at = stands-get g c.args.callers.now s in
    let lt = slice_get_within c.args.callers.now at.0 g at.1 in
    c.loop-caller.invariant.put at.0 g (omega (arith, lt, c.loop-caller-test.false)) at.1

pub returns-clause-few : goal.returns-clause-few
returns-clause-few c =
    let few = c.loop-caller.invariant.few in
    omega (arith, few, c.loop-caller.auto.caller-index-end)
