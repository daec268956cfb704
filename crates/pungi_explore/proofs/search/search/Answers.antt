use Rattle.std.proofs.Common.{◌+◌, map, sym, ap, ◌∙◌, subst, arith}
use Rattle.pungi_symbol.specs.runs.Paths.{start_states}
use Rattle.pungi_explore.specs.Explored.{IsExplored}
use Rattle.pungi_explore.specs.declared.visited.Visited.TheVariants.{Goes, Ends, Open, Gone}
use Rattle.pungi_explore.specs.Visits.{Visits, seen_with}
use Rattle.pungi_explore.proofs.Searched.{Searched, none_seen, first_searched, ended_searched, open_searched}
use Rattle.pungi_explore.proofs.Searched.{gone_searched, next_searched, fault_searched, too_many}
use Rattle.pungi_explore.proofs.Searched.{all_searched, run_on_searched, with_form}
use Rattle.pungi_explore.proofs.search.search.Goals as goal
use Rattle.pungi_explore.proofs.search.search.Goals.{in-Goes, in-Gone, in-Ends+else-ended-eq-MOST_TRACES}
use Rattle.pungi_explore.proofs.search.search.Goals.{in-Open+else-ended-eq-MOST_TRACES-2}

pub states-init : goal.states-init
states-init c = record {
  few = omega arith;
  searched = λ code has.
      let first = c.in_ok-pending.ensures.first ∙ ap (λ o. map (λ p. p.1) (start_states c.args.codes.now.statics
      c.args.f o)) has.is in
      subst (λ ss. Searched c.args.codes.now c.args.f code ss 0 none_seen) (sym first)
      (first_searched c.args.codes.now c.args.f code has);
}

pub returns-in_default : goal.returns-in_default
returns-in_default c =
    subst (IsExplored c.args.codes.now c.args.f) (sym c.shown.ensures) (all_searched c.args.codes.now c.args.f
    c.states.ended c.states.seen c.requires.formed c.in_ok-pending.ensures.covers c.requires.immortals
    c.states.invariant.few (λ code has. subst (λ ss. Searched c.args.codes.now c.args.f code ss c.states.ended c.states.seen)
    c.in_default.ensures.empty (c.states.invariant.searched code has)))

pub returns-then-ended-eq-MOST_TRACES : goal.returns-then-ended-eq-MOST_TRACES
returns-then-ended-eq-MOST_TRACES c code is =
    let has = with_form c.args.codes.now c.args.f c.requires.formed code is in
    let old = c.pop.new.self in
    let s = c.run_on.new.state in
    let popped = subst (λ ss. Searched c.args.codes.now c.args.f code ss c.states.ended c.states.seen)
    c.in-Some.ensures.items (c.states.invariant.searched code has) in
    let so_far = run_on_searched c.args.codes.now c.args.f code has old c.in-Some.popped s c.states.ended
    c.states.seen popped (c.in_ok-run_on.ensures {u = tt}) in
    let seen : Visits c.args.codes.now s old c.visit.new.pending Ends = subst
    (Visits c.args.codes.now s old c.visit.new.pending) c.in-Ends.is c.in_ok-visit.ensures in
    too_many c.args.codes.now c.args.f code has old s c.states.ended c.states.seen so_far seen.0 seen.1.1.0.1.1
    c.if-ended-eq-MOST_TRACES.true

pub returns-then-ended-eq-MOST_TRACES-2 : goal.returns-then-ended-eq-MOST_TRACES-2
returns-then-ended-eq-MOST_TRACES-2 c code is =
    let has = with_form c.args.codes.now c.args.f c.requires.formed code is in
    let old = c.pop.new.self in
    let s = c.run_on.new.state in
    let popped = subst (λ ss. Searched c.args.codes.now c.args.f code ss c.states.ended c.states.seen)
    c.in-Some.ensures.items (c.states.invariant.searched code has) in
    let so_far = run_on_searched c.args.codes.now c.args.f code has old c.in-Some.popped s c.states.ended
    c.states.seen popped (c.in_ok-run_on.ensures {u = tt}) in
    let seen : Visits c.args.codes.now s old c.visit.new.pending (Open c.in-Open.obstacle
    c.in-Open.pos) = subst (Visits c.args.codes.now s old c.visit.new.pending) c.in-Open.is
    c.in_ok-visit.ensures in
    too_many c.args.codes.now c.args.f code has old s c.states.ended c.states.seen so_far seen.0.over seen.0.run
    c.if-ended-eq-MOST_TRACES-2.true

pub returns-in-Unbalanced : goal.returns-in-Unbalanced
returns-in-Unbalanced c code is =
    let has = with_form c.args.codes.now c.args.f c.requires.formed code is in
    let old = c.pop.new.self in
    let s = c.run_on.new.state in
    let popped = subst (λ ss. Searched c.args.codes.now c.args.f code ss c.states.ended c.states.seen)
    c.in-Some.ensures.items (c.states.invariant.searched code has) in
    let so_far = run_on_searched c.args.codes.now c.args.f code has old c.in-Some.popped s c.states.ended
    c.states.seen popped (c.in_ok-run_on.ensures {u = tt}) in
    let w = c.in-Unbalanced.witness in
    fault_searched c.args.codes.now c.args.f code has old s c.states.ended c.states.seen so_far w
    (subst (Visits c.args.codes.now s old c.visit.new.pending) c.in-Unbalanced.is c.in_ok-visit.ensures)

pub states-preserved : goal.states-preserved
states-preserved c =
    let codes = c.args.codes.now in
    let f = c.args.f in
    let old = c.pop.new.self in
    let new = c.visit.new.pending in
    let s = c.run_on.new.state in
    let few = c.states.invariant.few in
    let place = c.states.seen in
    elim c.match-branch-4.branch [
      | in-Goes w ↦
          let seen : Visits codes s old new Goes = subst (Visits codes s old new) w.in-Goes.is c.in_ok-visit.ensures in
          let same = w.ended-is in
          record {
            few = omega (arith, few, same);
            searched = λ code has.
                let so_far = run_on_searched codes f code has old c.in-Some.popped s c.states.ended place
                (subst (λ ss. Searched codes f code ss c.states.ended place) c.in-Some.ensures.items
                (c.states.invariant.searched code has)) (c.in_ok-run_on.ensures {u = tt}) in
                subst (Searched codes f code new _) (sym w.seen-is) (subst (λ n. Searched codes f code new n place)
                (sym same) (next_searched codes f code has old s c.states.ended place so_far seen.0 new seen.1));
          }
      | in-Gone w ↦
          let seen : Visits codes s old new Gone = subst (Visits codes s old new) w.in-Gone.is c.in_ok-visit.ensures in
          let same = w.ended-is in
          record {
            few = omega (arith, few, same);
            searched = λ code has.
                let so_far = run_on_searched codes f code has old c.in-Some.popped s c.states.ended place
                (subst (λ ss. Searched codes f code ss c.states.ended place) c.in-Some.ensures.items
                (c.states.invariant.searched code has)) (c.in_ok-run_on.ensures {u = tt}) in
                subst (Searched codes f code new _) (sym w.seen-is) (subst (λ n. Searched codes f code new n place)
                (sym same) (subst (λ ss. Searched codes f code ss c.states.ended place) (sym seen.1.1)
                (gone_searched codes f code has old s c.states.ended place so_far seen.0 seen.1.0)));
          }
      | in-Ends+else-ended-eq-MOST_TRACES w ↦
          let seen : Visits codes s old new Ends = subst (Visits codes s old new) w.in-Ends.is c.in_ok-visit.ensures in
          let more = w.ended-is in
          let other = w.if-ended-eq-MOST_TRACES.false in
          record {
            few = omega (arith, few, more, other);
            searched = λ code has.
                let so_far = run_on_searched codes f code has old c.in-Some.popped s c.states.ended place
                (subst (λ ss. Searched codes f code ss c.states.ended place) c.in-Some.ensures.items
                (c.states.invariant.searched code has)) (c.in_ok-run_on.ensures {u = tt}) in
                subst (Searched codes f code new _) (sym w.seen-is) (subst (λ n. Searched codes f code new n place)
                (sym more) (subst (λ ss. Searched codes f code ss (c.states.ended + 1) place) (sym seen.1.1.1)
                (ended_searched codes f code has old s c.states.ended place so_far seen.0 seen.1.0 seen.1.1.0.0
                seen.1.1.0.1.0 seen.1.1.0.1.1)));
          }
      | in-Open+else-ended-eq-MOST_TRACES-2 w ↦
          let o = w.in-Open.obstacle in
          let p = w.in-Open.pos in
          let seen : Visits codes s old new (Open o p) = subst (Visits codes s old new) w.in-Open.is
          c.in_ok-visit.ensures in
          let more = w.ended-is in
          let other = w.if-ended-eq-MOST_TRACES-2.false in
          record {
            few = omega (arith, few, more, other);
            searched = λ code has.
                let so_far = run_on_searched codes f code has old c.in-Some.popped s c.states.ended place
                (subst (λ ss. Searched codes f code ss c.states.ended place) c.in-Some.ensures.items
                (c.states.invariant.searched code has)) (c.in_ok-run_on.ensures {u = tt}) in
                subst (Searched codes f code new _) (sym (w.seen-is ∙ w.seen_with-seen.ensures))
                (subst (λ n. Searched codes f code new n (seen_with place o p)) (sym more)
                (subst (λ ss. Searched codes f code ss (c.states.ended + 1) (seen_with place o p)) (sym seen.1)
                (open_searched codes f code has old s c.states.ended place so_far o p seen.0)));
          }
    ]
