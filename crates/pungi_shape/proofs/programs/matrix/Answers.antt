use Rattle.std.proofs.Common.{◌≡◌, ◌∙◌, List, ◌∷◌, ◌++◌, [], length, map, sym, ap, arith, append_assoc}
use Rattle.std.specs.Vec.Iter.{into_iter_items}
use Rattle.pungi_shape.specs.Forms.{Form, factors}
use Rattle.pungi_shape.proofs.programs.matrix.Goals as goal

pub loop-row-preserved : goal.loop-row-preserved
loop-row-preserved c =
    let at = c.loop-row in
    let rest = into_iter_items c.next.new.self in
    let steps : into_iter_items at.row-iterator ≡ c.in-Some.row ∷ rest = c.in-Some.ensures.steps.0 in
    let short = ap length steps in
    let gone = c.in-Some.ensures.steps.1 in
    let was = at.invariant.left in
    record {
      list = rw (c.in_ok-push.ensures.ok, c.into_factors.ensures)
          (append_assoc at.list (factors c.in-Some.row ∷ []) (map factors rest)
          ∙ ap (λ (rows : List Form). at.list ++ map factors rows) (sym steps) ∙ at.invariant.list);
      left = omega (arith, short, gone, was);
    }
