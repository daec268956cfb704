use Rattle.std.proofs.Common.{◌≡◌, ◌+◌, ◌++◌, List, length, map, drop, refl, ap, ◌∙◌, subst, MatchOption, All}
use Rattle.pungi_diff.specs.declared.constraint.Constraint.{Constraint}
use Rattle.pungi_diff.specs.Round.{HasNoSolution}
use Rattle.pungi_symbol.specs.states.Known.{count}
use Rattle.pungi_symbol.specs.runs.Numbers.{IsSolution, AreThere, constraint_of, constraints_of, numbers_from, numbers_in}
use Rattle.pungi_symbol.proofs.runs.Models.{no_table, solution_in_marks, solution_model, solution_more}
use Rattle.pungi_symbol.proofs.runs.numbers.solved.Goals as goal

pub returns-in-None-clause-none : goal.returns-in-None-clause-none
returns-in-None-clause-none c _ =
    let s = c.args.state.now in
    let n = count c.args.state.now.known in
    let ks = c.as_slice-3.result.now in
    let h : HasNoSolution ks = subst (λ o. MatchOption o (HasNoSolution ks)
    (λ values. IsSolution c.in_ok-nodes.nodes ks values.items)) c.in-None.is
    (c.in_ok-values_of.ensures {u = tt}) in
    let is : ks ≡ constraints_of s ++ map (constraint_of n) c.args.more.now = c.as_slice-3.ensures.value
    ∙ c.in_ok-extend_from_slice.ensures.items
    ∙ ap (λ l. c.in_ok-constraints.constraints.items ++ l) (c.as_slice-2.ensures.value ∙ c.in_ok-others.ensures.is)
    ∙ ap (λ l. l ++ map (constraint_of (length c.as_slice.result.now)) c.args.more.now) c.in_ok-constraints.ensures.is
    ∙ ap (λ ms. constraints_of s ++ map (constraint_of (length ms)) c.args.more.now) c.as_slice.ensures in
    no_table s c.args.more.now ks is c.in_ok-constraints.ensures.there (subst (λ ms. All (AreThere ms) c.args.more.now)
    c.as_slice.ensures c.in_ok-others.ensures.there) h

pub model_in-requires-clause-marks : goal.model_in-requires-clause-marks
model_in-requires-clause-marks c =
    let s = c.args.state.now in
    let n = count c.args.state.now.known in
    let ks = c.as_slice-3.result.now in
    let js : List Constraint = map (constraint_of n) c.args.more.now in
    let values = c.in-Some.values.items in
    let r : IsSolution c.in_ok-nodes.nodes ks values = subst (λ o. MatchOption o
    (HasNoSolution ks)
    (λ values. IsSolution c.in_ok-nodes.nodes ks values.items)) c.in-Some.is
    (c.in_ok-values_of.ensures {u = tt}) in
    let is : ks ≡ constraints_of s ++ js = c.as_slice-3.ensures.value
    ∙ c.in_ok-extend_from_slice.ensures.items
    ∙ ap (λ l. c.in_ok-constraints.constraints.items ++ l) (c.as_slice-2.ensures.value ∙ c.in_ok-others.ensures.is)
    ∙ ap (λ l. l ++ map (constraint_of (length c.as_slice.result.now)) c.args.more.now) c.in_ok-constraints.ensures.is
    ∙ ap (λ ms. constraints_of s ++ map (constraint_of (length ms)) c.args.more.now) c.as_slice.ensures in
    rw (c.as_slice-in-Some.ensures, c.as_slice-in-Some-2.ensures.value) (solution_in_marks s js
    c.in_ok-nodes.nodes values (subst (λ l. IsSolution c.in_ok-nodes.nodes l values) is r))

pub returns-clause-model : goal.returns-clause-model
returns-clause-model c =
    let s = c.args.state.now in
    let n = count c.args.state.now.known in
    let ks = c.as_slice-3.result.now in
    let js : List Constraint = map (constraint_of n) c.args.more.now in
    let values = c.in-Some.values.items in
    let r : IsSolution c.in_ok-nodes.nodes ks values = subst (λ o. MatchOption o
    (HasNoSolution ks)
    (λ values. IsSolution c.in_ok-nodes.nodes ks values.items)) c.in-Some.is
    (c.in_ok-values_of.ensures {u = tt}) in
    let is : ks ≡ constraints_of s ++ js = c.as_slice-3.ensures.value
    ∙ c.in_ok-extend_from_slice.ensures.items
    ∙ ap (λ l. c.in_ok-constraints.constraints.items ++ l) (c.as_slice-2.ensures.value ∙ c.in_ok-others.ensures.is)
    ∙ ap (λ l. l ++ map (constraint_of (length c.as_slice.result.now)) c.args.more.now) c.in_ok-constraints.ensures.is
    ∙ ap (λ ms. constraints_of s ++ map (constraint_of (length ms)) c.args.more.now) c.as_slice.ensures in
    let m = c.in_ok-model-in-Some in
    let vs = c.as_slice-in-Some-2.result.now in
    solution_model s js c.in_ok-nodes.nodes values (numbers_in m.model)
    (subst (λ l. IsSolution c.in_ok-nodes.nodes l values) is r)
    (m.ensures.tokens ∙ ap (λ ms. numbers_from 0 ms vs) c.as_slice-in-Some.ensures
    ∙ ap (λ l. numbers_from 0 s.known.marks l) c.as_slice-in-Some-2.ensures.value)
    (m.ensures.computed ∙ ap (λ ms. drop (length ms + 1) vs) c.as_slice-in-Some.ensures
    ∙ ap (λ l. drop (count s.known + 1) l) c.as_slice-in-Some-2.ensures.value)
    c.in_ok-constraints.ensures.there

pub returns-clause-more : goal.returns-clause-more
returns-clause-more c =
    let s = c.args.state.now in
    let n = count c.args.state.now.known in
    let ks = c.as_slice-3.result.now in
    let js : List Constraint = map (constraint_of n) c.args.more.now in
    let values = c.in-Some.values.items in
    let r : IsSolution c.in_ok-nodes.nodes ks values = subst (λ o. MatchOption o
    (HasNoSolution ks)
    (λ values. IsSolution c.in_ok-nodes.nodes ks values.items)) c.in-Some.is
    (c.in_ok-values_of.ensures {u = tt}) in
    let is : ks ≡ constraints_of s ++ js = c.as_slice-3.ensures.value
    ∙ c.in_ok-extend_from_slice.ensures.items
    ∙ ap (λ l. c.in_ok-constraints.constraints.items ++ l) (c.as_slice-2.ensures.value ∙ c.in_ok-others.ensures.is)
    ∙ ap (λ l. l ++ map (constraint_of (length c.as_slice.result.now)) c.args.more.now) c.in_ok-constraints.ensures.is
    ∙ ap (λ ms. constraints_of s ++ map (constraint_of (length ms)) c.args.more.now) c.as_slice.ensures in
    let m = c.in_ok-model-in-Some in
    let vs = c.as_slice-in-Some-2.result.now in
    solution_more s js c.in_ok-nodes.nodes values (numbers_in m.model)
    (subst (λ l. IsSolution c.in_ok-nodes.nodes l values) is r)
    (m.ensures.tokens ∙ ap (λ ms. numbers_from 0 ms vs) c.as_slice-in-Some.ensures
    ∙ ap (λ l. numbers_from 0 s.known.marks l) c.as_slice-in-Some-2.ensures.value)
    (m.ensures.computed ∙ ap (λ ms. drop (length ms + 1) vs) c.as_slice-in-Some.ensures
    ∙ ap (λ l. drop (count s.known + 1) l) c.as_slice-in-Some-2.ensures.value)
    c.args.more.now refl (subst (λ ms. All (AreThere ms) c.args.more.now) c.as_slice.ensures c.in_ok-others.ensures.there)
