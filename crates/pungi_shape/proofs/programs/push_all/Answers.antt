use Rattle.std.proofs.Common.{◌≡◌, ◌∙◌, List, ◌∷◌, ◌++◌, [], length, sym, ap, arith, append_assoc}
use Rattle.std.specs.Vec.Iter.{into_iter_items}
use Rattle.pungi_domain.specs.declared.affine_edge.AffineEdge.{AffineEdge}
use Rattle.pungi_shape.proofs.programs.push_all.Goals as goal

pub loop-edge-preserved : goal.loop-edge-preserved
loop-edge-preserved c =
    let at = c.loop-edge in
    let rest = into_iter_items c.next.new.self in
    let steps : into_iter_items at.edge-iterator ≡ c.in-Some.edge ∷ rest = c.in-Some.ensures.steps.0 in
    let short = ap length steps in
    let gone = c.in-Some.ensures.steps.1 in
    let was = at.invariant.left in
    record {
      out = rw c.in_ok-push.ensures.ok (append_assoc at.out (c.in-Some.edge ∷ []) rest
          ∙ ap (λ (es : List AffineEdge). at.out ++ es) (sym steps) ∙ at.invariant.out);
      left = omega (arith, short, gone, was);
    }
