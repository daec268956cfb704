use Rattle.std.proofs.Common.{◌∙◌, ◌∷◌, ◌++◌, ◌<◌, [], ℤ, List, length, ap, sym, pos, slice_index_or, arith, rules}
use Rattle.std.proofs.lemmas.List.{take_more, take_all}
use Rattle.std.proofs.lemmas.Int.{to_z-of_z}
use mir.Syntax.{w64, w128}
use mir.Val.{SFits}
use Rattle.pungi_affine.specs.Rows.{row_entries}
use Rattle.pungi_affine.proofs.Rows.{width_is}
use Rattle.pungi_affine.proofs.sum.widened.Goals as goal

pub entry-requires : goal.entry-requires
entry-requires c = (let n = width_is c.args.row.now in let t = c.loop-i-test.true in omega (arith, n, t))

pub loop-i-preserved : goal.loop-i-preserved
loop-i-preserved c =
    let all = row_entries c.args.row.now in
    let fits : SFits w64 c.entry.result = search rules in
    let wide : SFits w128 c.from.result = search rules in
    let lt : c.loop-i.i < length (row_entries c.args.row.now) = (let n = width_is c.args.row.now in let t
    = c.loop-i-test.true in omega (arith, n, t)) in
    c.in_ok-push.ensures.items
    ∙ ap (λ (x : ℤ). c.loop-i.entries.items ++ x ∷ []) (to_z-of_z w128 c.from.result wide ∙ c.from.ensures
    ∙ to_z-of_z w64 c.entry.result fits ∙ c.entry.ensures)
    ∙ ap (λ (xs : List ℤ). xs ++ slice_index_or all c.loop-i.i (pos 0) ∷ []) c.loop-i.invariant
    ∙ sym (take_more all c.loop-i.i (pos 0) lt)

pub returns : goal.returns
returns c =
    c.loop-i.invariant ∙ take_all c.loop-i.i (row_entries c.args.row.now) (let n = width_is c.args.row.now in let t
    = c.loop-i-test.false in omega (arith, n, t))
