use Rattle.std.proofs.Common.{◌∙◌, List, length, subst, ap}
use Rattle.pungi_summary.specs.States.{AreStates}
use Rattle.pungi_summary.specs.declared.outcome.Outcome.{Outcome}
use Rattle.pungi_summary.proofs.Ends.{annotated, shapes_state, state_not_safe, state_place, state_range, state_shapes}
use Rattle.pungi_summary.proofs.Kept.{settling_first}
use Rattle.pungi_summary.proofs.solver.summarise.Goals as goal

pub settle-requires-clause-first : goal.settle-requires-clause-first
settle-requires-clause-first g c = λ list all.
    let d = g.D.Domain in
    settling_first d.least d.member d.width_of c.args.programs.now c.args.callees.now c.in_ok-summaries.summaries.exits
    c.in_ok-outcomes.outcomes.items list c.in_ok-outcomes.ensures c.in_ok-summaries.ensures.exits all

pub mark_states-requires-clause-states : goal.mark_states-requires-clause-states
mark_states-requires-clause-states g c =
    ap length c.settle.ensures.states ∙ c.in_ok-summaries.ensures.states

pub returns-clause-count : goal.returns-clause-count
returns-clause-count g c = c.in_ok-mark_states.ensures.states.count

pub returns-clause-exits : goal.returns-clause-exits
returns-clause-exits g c = rw c.mark_states.ensures.exits c.in_ok-settle.ensures.settled.fit

pub returns-clause-shapes : goal.returns-clause-shapes
returns-clause-shapes g c = λ f lt.
    let d = g.D.Domain in
    let s = c.in_ok-settle.ensures.settled in
    let ps = c.args.programs.now in
    let callees = c.args.callees.now in
    let states = c.mark_states.new.summaries.states in
    let t : AreStates ps callees c.settle.new.outcomes.items states = subst
    (λ (xs : List Outcome). AreStates ps callees xs states)
    c.as_slice-4.ensures.value c.in_ok-mark_states.ensures.states in (
      state_shapes d.least d.member d.width_of c.args.programs.now c.args.callees.now c.settle.new.summaries.exits
          c.settle.new.outcomes.items c.mark_states.new.summaries.states c.requires.callable s t f,
      shapes_state d.least d.member d.width_of c.args.programs.now c.args.callees.now c.settle.new.summaries.exits
          c.settle.new.outcomes.items c.mark_states.new.summaries.states c.requires.callable s t f lt,
    )

pub returns-clause-annotated : goal.returns-clause-annotated
returns-clause-annotated g c =
    let d = g.D.Domain in
    let s = c.in_ok-settle.ensures.settled in
    let ps = c.args.programs.now in
    let callees = c.args.callees.now in
    let states = c.mark_states.new.summaries.states in
    let t : AreStates ps callees c.settle.new.outcomes.items states = subst
    (λ (xs : List Outcome). AreStates ps callees xs states)
    c.as_slice-4.ensures.value c.in_ok-mark_states.ensures.states in
    rw c.mark_states.ensures.exits (annotated d.least d.member d.width_of c.args.programs.now c.args.callees.now
    c.settle.new.summaries.exits c.settle.new.outcomes.items c.mark_states.new.summaries.states c.requires.callable s t)

pub returns-clause-least : goal.returns-clause-least
returns-clause-least g c = λ l. rw c.mark_states.ensures.exits (c.in_ok-settle.ensures.settled.below l)

pub returns-clause-not_safe : goal.returns-clause-not_safe
returns-clause-not_safe g c = λ l f k rows is.
    let d = g.D.Domain in
    let s = c.in_ok-settle.ensures.settled in
    let ps = c.args.programs.now in
    let callees = c.args.callees.now in
    let states = c.mark_states.new.summaries.states in
    let t : AreStates ps callees c.settle.new.outcomes.items states = subst
    (λ (xs : List Outcome). AreStates ps callees xs states)
    c.as_slice-4.ensures.value c.in_ok-mark_states.ensures.states in
    state_not_safe d.least d.member d.width_of c.args.programs.now c.args.callees.now c.settle.new.summaries.exits
    c.settle.new.outcomes.items c.mark_states.new.summaries.states c.requires.callable s t l f k rows is

pub returns-clause-place : goal.returns-clause-place
returns-clause-place g c = λ f k is.
    let d = g.D.Domain in
    let s = c.in_ok-settle.ensures.settled in
    let ps = c.args.programs.now in
    let callees = c.args.callees.now in
    let states = c.mark_states.new.summaries.states in
    let t : AreStates ps callees c.settle.new.outcomes.items states = subst
    (λ (xs : List Outcome). AreStates ps callees xs states)
    c.as_slice-4.ensures.value c.in_ok-mark_states.ensures.states in
    state_place d.least d.member d.width_of c.args.programs.now c.args.callees.now c.settle.new.summaries.exits
    c.settle.new.outcomes.items c.mark_states.new.summaries.states c.requires.callable s t f k is

pub returns-clause-range : goal.returns-clause-range
returns-clause-range g c = λ f k row is.
    let d = g.D.Domain in
    let s = c.in_ok-settle.ensures.settled in
    let ps = c.args.programs.now in
    let callees = c.args.callees.now in
    let states = c.mark_states.new.summaries.states in
    let t : AreStates ps callees c.settle.new.outcomes.items states = subst
    (λ (xs : List Outcome). AreStates ps callees xs states)
    c.as_slice-4.ensures.value c.in_ok-mark_states.ensures.states in
    state_range d.least d.member d.width_of c.args.programs.now c.args.callees.now c.settle.new.summaries.exits
    c.settle.new.outcomes.items c.mark_states.new.summaries.states c.requires.callable s t f k row is
