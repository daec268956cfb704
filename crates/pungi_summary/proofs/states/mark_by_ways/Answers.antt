use Rattle.std.proofs.Common.{◌≡◌, ◌∙◌, ◌<◌, inl, inr, ℕ, List, Some, None, length, ap, sym, subst, arith}
use Rattle.std.specs.Prelude.{slice_get}
use Rattle.std.specs.List.{slice_index_or}
use Rattle.std.proofs.lemmas.Bool.{cases_lt}
use Rattle.std.proofs.lemmas.List.{length-set}
use Rattle.pungi_fixpoint.specs.Summaries.{flatten}
use Rattle.pungi_fixpoint.specs.declared.state.State.{State}
use Rattle.pungi_summary.specs.States.{state_of}
use Rattle.pungi_summary.proofs.Lists.{flat_read, get_other, get_same}
use Rattle.pungi_summary.proofs.states.mark_by_ways.Goals as goal

pub loop-f-preserved : goal.loop-f-preserved
loop-f-preserved g c =
    let f = c.loop-f.f in
    let outcomes = c.args.outcomes.now in
    let large = c.args.large.now in
    let failing = c.args.failing.now in
    let old = c.loop-f.summaries.states in
    let new = c.mark.new.self.states in
    let state = c.in_ok-state.state in
    let n = c.requires.large in
    let m = c.requires.failing in
    let k = c.requires.states in
    let count = c.loop-f.invariant.count in
    let lt : f < length outcomes = c.loop-f-test.true in
    let lt_old : f < length old = omega (arith, lt, count, k) in
    let l = flat_read large f None (omega (arith, lt, n)) in
    let r = flat_read failing f None (omega (arith, lt, m)) in
    let here : slice_get new f
    ≡ Some (state_of outcomes f (flatten (slice_get large f)) (flatten (slice_get failing f))) =
    ap (λ (xs : List State). slice_get xs f) c.mark.ensures.states
    ∙ (get_same old f state lt_old
    ∙ ap Some (c.in_ok-state.ensures
    ∙ (ap (λ x. state_of outcomes f x (slice_index_or failing f None)) (sym l)
    ∙ ap (λ y. state_of outcomes f (flatten (slice_get large f)) y) (sym r)))) in
    record {
      states = λ j below. elim (cases_lt j f) [
        | inl less ↦
            ap (λ (xs : List State). slice_get xs j) c.mark.ensures.states
            ∙ (get_other old f j state (λ e. absurd (omega (arith, less, e))) ∙ c.loop-f.invariant.states j less)
        | inr from ↦
            let number : f ≡ j = omega arith in
            subst (λ (i : ℕ). slice_get new i
            ≡ Some (state_of outcomes i (flatten (slice_get large i)) (flatten (slice_get failing i)))) number here
      ];
      count = ap length c.mark.ensures.states ∙ (length-set old f state ∙ count);
      exits = c.mark.ensures.exits ∙ c.loop-f.invariant.exits;
    }
