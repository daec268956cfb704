use Rattle.std.proofs.Common.{◌≡◌, ◌<◌, ◌+◌, ◌++◌, ◌∷◌, [], length, arith, get_or, subst, sym, ◌∙◌, rules, Some, None}
use Rattle.pungi_types.specs.declared.kind.ValueKind.TheVariants as kinds
use Rattle.pungi_meaning.specs.declared.op.Op.TheVariants as ops
use Rattle.pungi_symbol.specs.declared.states.computation.Computation.{Computation}
use Rattle.pungi_symbol.specs.questions.NextQuestion.{zero_sum}
use Rattle.pungi_symbol.specs.states.Terms.{NodeBelow}
use Rattle.pungi_symbol.specs.runs.AtZero.{result_at, results_table, AreResults}
use Rattle.pungi_symbol.proofs.runs.AtZero.{no_next, next_results}
use Rattle.pungi_symbol.proofs.runs.at_zero.results_at_zero.Goals as goal

pub returns-in-None : goal.returns-in-None
returns-in-None c =
    let cs = c.args.computed.now in
    let ns = c.loop-j.results.items in
    let j = c.loop-j.j in
    let z : Computation = record { kind = kinds.Int; op = ops.Add; a = zero_sum; b = zero_sum } in
    let here : j < length cs = omega arith in
    let e = c.in_ok-next_result.ensures {u = tt} in
    let v = c.as_slice.ensures.value in
    no_next j cs ns z c.loop-j.invariant here
    (subst (λ l. NodeBelow (length l) (get_or cs j z).a.node × NodeBelow (length l) (get_or cs j z).b.node) v e.earlier)
    (subst (λ l. result_at (results_table l) (get_or cs j z) ≡ None) v (sym e.is ∙ c.in-None.is))

pub loop-j-preserved : goal.loop-j-preserved
loop-j-preserved c =
    let cs = c.args.computed.now in
    let ns = c.loop-j.results.items in
    let j = c.loop-j.j in
    let z : Computation = record { kind = kinds.Int; op = ops.Add; a = zero_sum; b = zero_sum } in
    let here : j < length cs = omega arith in
    let e = c.in_ok-next_result.ensures {u = tt} in
    let v = c.as_slice.ensures.value in
    let m = c.in-Some.n in
    let is : c.push.new.self.items ≡ ns ++ m ∷ [] = search rules in
    subst (AreResults (j + 1) cs) (sym is) (next_results j cs ns z c.loop-j.invariant here
    (subst (λ l. NodeBelow (length l) (get_or cs j z).a.node × NodeBelow (length l) (get_or cs j z).b.node) v e.earlier) m
    (subst (λ l. result_at (results_table l) (get_or cs j z) ≡ Some m) v (sym e.is ∙ c.in-Some.is)))
