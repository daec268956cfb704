use Rattle.std.proofs.Common.{◌≡◌, ◌∙◌, ◌∷◌, ◌++◌, [], ℤ, List, ap, sym, pos, get_or, take, rules}
use Rattle.std.proofs.lemmas.List.{take_more}
use Rattle.std.proofs.lemmas.Int.{to_z-of_z}
use mir.Syntax.{w64, w128}
use mir.Val.{SFits, to_z, of_z}
use Rattle.pungi_affine.proofs.form.narrowed_entries.Goals as goal

pub loop-entry-preserved : goal.loop-entry-preserved
loop-entry-preserved c =
    let wide = c.args.wide.now in
    let front = c.loop-entry.entries.items in
    let x = get_or wide c.loop-entry.entry-index (pos 0) in
    let fits : SFits w128 x = search rules in
    let narrow : SFits w64 x = search rules in
    let entry : to_z w64 (of_z w64 (to_z w128 (of_z w128 x)))
    ≡ x = ap (λ (y : ℤ). to_z w64 (of_z w64 y)) (to_z-of_z w128 x fits) ∙ to_z-of_z w64 x narrow in
    let before : front ≡ take c.loop-entry.entry-index wide = c.loop-entry.invariant in
    c.in_ok-push.ensures.items ∙ ap (λ (y : ℤ). front ++ y ∷ []) entry ∙ ap (λ (ys : List ℤ). ys ++ x ∷ []) before
    ∙ sym (take_more wide c.loop-entry.entry-index (pos 0) c.loop-entry-test.true)
