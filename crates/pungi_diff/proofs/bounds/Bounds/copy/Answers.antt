use Rattle.std.proofs.Common.{◌≡◌, ◌∙◌, sym, arith, length, pos, ap, ◌≤◌, List, ℕ}
use Rattle.std.proofs.lemmas.List.{length-replicate}
use Rattle.pungi_diff.specs.Held.{HeldState}
use Rattle.pungi_diff.specs.declared.constraint.Constraint.{Constraint}
use Rattle.pungi_diff.proofs.BoundsLemmas.{kept_copy}
use Rattle.pungi_diff.proofs.bounds.Bounds.copy.Goals as goal

pub invariant_of-result : goal.invariant_of-result
invariant_of-result c =
    let list_of : HeldState → List Constraint = λ h. h.list in
    let nodes_of : HeldState → ℕ = λ h. h.nodes in
    let nodes : length c.self.inside.value.items ≤ c.args.nodes = (let a = c.self.invariant.1.values in let b = rw
    (← c.self.view_is) at c.requires.nodes.0 in omega (arith, a, b)) in
    let value : length c.resize.new.self.items ≡ c.args.nodes = sym c.resize.new.self.ok.0
    ∙ c.in_ok-resize.ensures.len in
    let gap : length c.in_ok-gap.gap.items ≡ length c.resize.new.self.items = ap length c.in_ok-gap.ensures
    ∙ length-replicate c.args.nodes (pos 0) ∙ sym value in
    let rank : length c.in_ok-rank.rank.items ≡ length c.resize.new.self.items = ap length c.in_ok-rank.ensures
    ∙ length-replicate c.args.nodes 0 ∙ sym value in
    let via : length c.in_ok-via.via.items ≡ length c.resize.new.self.items = ap length c.in_ok-via.ensures
    ∙ length-replicate c.args.nodes _ ∙ sym value in (
      kept_copy c.self.inside.held.list c.self.inside.value.items _ _ _ c.args.nodes _ c.self.invariant.0
          (ap list_of c.in_ok-held.ensures) c.in_ok-resize.ensures.items (rw c.as_slice.ensures.value at
          c.in_ok-value.ensures.items) (rw c.as_slice.ensures.value at c.in_ok-value.ensures.len) nodes
          c.requires.nodes.1,
      record {
        values = value ∙ sym (ap nodes_of c.in_ok-held.ensures);
        gaps = gap;
        ranks = rank;
        vias = via;
        fringe_fits = (let a = c.in_ok-fringe.ensures.exact in omega (arith, value, a));
        round_fits = (let a = c.in_ok-round.ensures.exact in omega (arith, value, a));
      },
    )
