use Rattle.std.proofs.Common.{ℕ, ◌∙◌, ◌++◌, ◌∷◌, [], List, map, sym, ap, append_assoc, if◌then◌else◌}
use Rattle.std.specs.List.{filter, range_with_len}
use Rattle.pungi_shape.specs.Cases.{Case, passes_on}
use Rattle.pungi_shape.specs.Scenes.{merge}
use Rattle.pungi_shape.specs.Slots.{may_be}
use Rattle.pungi_shape.proofs.SlotLemmas.{filtered-more}
use Rattle.pungi_shape.proofs.slots.add_same_objects.Goals as goal

pub loop-c-preserved : goal.loop-c-preserved
loop-c-preserved c =
    let k = c.loop-c.c in
    let s = c.args.scene.now in
    let p = may_be s.shape c.args.b c.args.tag c.args.field in
    let one = λ (u : ℕ). passes_on 0 (merge c.args.b u s) in
    let new : List Case = if p k then one k ∷ [] else [] in
    c.in_ok-add_if_same.ensures ∙ ap (λ (l : List Case). l ++ new) c.loop-c.invariant
    ∙ append_assoc c.args.out.now (map one (filter p (range_with_len 0 k))) new
    ∙ ap (λ (l : List Case). c.args.out.now ++ l) (sym (filtered-more one p k))
