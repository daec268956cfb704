use Rattle.std.proofs.Common.{◌≡◌, ◌<◌, pos, length, arith, get_or, subst, rules, w64, to_z, of_z}
use Rattle.pungi_types.specs.declared.kind.ValueKind.TheVariants as kinds
use Rattle.pungi_meaning.specs.declared.op.Op.TheVariants as ops
use Rattle.pungi_symbol.specs.declared.states.computation.Computation.{Computation}
use Rattle.pungi_symbol.specs.questions.NextQuestion.{zero_sum}
use Rattle.pungi_symbol.specs.runs.AtZero.{Adds, IsResultAtZero}
use Rattle.pungi_symbol.proofs.runs.AtZero.{says_more}
use Rattle.pungi_symbol.proofs.runs.at_zero.limits_of_results.Goals as goal

pub loop-j-preserved : goal.loop-j-preserved
loop-j-preserved c =
    let cs = c.args.computed.now in
    let ns = c.args.results.now in
    let j = c.loop-j.j in
    let z : Computation = record { kind = kinds.Int; op = ops.Add; a = zero_sum; b = zero_sum } in
    let here : j < length cs = omega arith in
    let there : j < length ns = omega (arith, c.requires) in
    let ls = c.loop-j.limits.items in
    let new = c.add_result.new.limits.items in
    let same : to_z w64 (of_z w64 (get_or ns j (pos 0))) ≡ get_or ns j (pos 0) = search rules in
    says_more j cs ns ls new z (pos 0) c.loop-j.invariant here there (subst (λ m. Adds ls new
    (λ table. IsResultAtZero table (get_or cs j z) j m)) same (c.in_ok-add_result.ensures {u = tt}))
