-- Edges in order: two that compare as equal are one, and each edge of a list stands among those in order.
use Rattle.std.proofs.Common.{◌≡◌, inl, inr, ℕ, List, [], ◌∷◌, sym, ap, ◌∙◌, subst, arith, ℤ}
use Rattle.std.specs.List.{IsAmong}
use Rattle.std.specs.Ordering.{int_cmp, nat_cmp, ordering_then}
use Rattle.std.specs.declared.cmp.Ordering.TheVariants.{Equal}
use Rattle.std.specs.Cmp.Lexicographic.{slice_cmp}
use Rattle.std.proofs.lemmas.Cmp.{tied_itself, nat_cmp_total, int_cmp_total}
use Rattle.std.proofs.lemmas.Map.Lookups.{exact_unsigned, exact_signed}
use Rattle.pungi_domain.specs.declared.action.Action.{Action}
use Rattle.pungi_domain.specs.declared.action.Action.TheVariants.{Map, Free, Call}
use Rattle.pungi_domain.specs.declared.affine_edge.AffineEdge.{AffineEdge}
use Rattle.pungi_domain.specs.declared.equation.Equation.{Equation}
use Rattle.pungi_domain.specs.declared.target.Target.{Target}
use Rattle.pungi_domain.specs.declared.target.Target.TheVariants.{Place, Exit}
use Rattle.pungi_shape.specs.Programs.{pair_cmp, rows_cmp, equation, equation_cmp, equations_cmp, action_cmp}
use Rattle.pungi_shape.specs.Programs.{target_cmp, edge_cmp, put_edges, edges_in_order}
use Rattle.pungi_shape.proofs.sound.Exact.{IsExact, then_equal, exact_lists}
use Rattle.pungi_shape.proofs.sound.Ordered.{Ties, then_ties, ties_lists, Stands}
use Rattle.pungi_shape.proofs.sound.Ordered.{put_has, put_keeps, put_only}
use Rattle.pungi_shape.proofs.sound.Members.{nothing_in, later_among, one_of}

-- ---- what compares as equal is one

exact_pair : IsExact pair_cmp
exact_pair p q e =
    let both = then_equal (nat_cmp p.0 q.0) (int_cmp p.1 q.1) e in
    ap (λ (z : ℕ). (let r : ℕ × ℤ = (z, p.1) in r)) (exact_unsigned p.0 q.0 both.0)
    ∙ ap (λ (z : ℤ). (let r : ℕ × ℤ = (q.0, z) in r)) (exact_signed p.1 q.1 both.1)

exact_rows : IsExact rows_cmp
exact_rows = exact_lists (slice_cmp pair_cmp) (exact_lists pair_cmp exact_pair)

exact_equation : IsExact equation_cmp
exact_equation d e h = ap equation (exact_lists int_cmp exact_signed d.coefficients e.coefficients h)

exact_equations : IsExact equations_cmp
exact_equations = exact_lists equation_cmp exact_equation

exact_action : IsExact action_cmp
exact_action (Map m) (Map n) e = ap (λ z. Map (record { rows = z })) (exact_rows m.rows n.rows e)
exact_action (Map m) (Free d) e = absurd (cc)
exact_action (Map m) (Call g other there) e = absurd (cc)
exact_action (Free c) (Map n) e = absurd (cc)
exact_action (Free c) (Free d) e = ap Free (exact_unsigned c d e)
exact_action (Free c) (Call g other there) e = absurd (cc)
exact_action (Call f class onto) (Map n) e = absurd (cc)
exact_action (Call f class onto) (Free d) e = absurd (cc)
exact_action (Call f class onto) (Call g other there) e =
    let rest = ordering_then (nat_cmp class other) (slice_cmp nat_cmp onto there) in
    let one = then_equal (nat_cmp f g) rest e in
    let two = then_equal (nat_cmp class other) (slice_cmp nat_cmp onto there) one.1 in
    ap (λ z. Call z class onto) (exact_unsigned f g one.0) ∙ ap (λ z. Call g z onto) (exact_unsigned class other two.0)
    ∙ ap (λ z. Call g other z) (exact_lists nat_cmp exact_unsigned onto there two.1)

exact_target : IsExact target_cmp
exact_target (Place k) (Place l) e = ap Place (exact_unsigned k l e)
exact_target (Place k) (Exit l) e = absurd (cc)
exact_target (Exit k) (Place l) e = absurd (cc)
exact_target (Exit k) (Exit l) e = ap Exit (exact_unsigned k l e)

edge_with : ℕ → Target → List Equation → Action → List Equation → AffineEdge
edge_with from to guard action duties =
    record { from = from; to = to; guard = guard; action = action; duties = duties }

pub exact_edge : (d e : AffineEdge) → d.from ≡ e.from → edge_cmp d e ≡ Equal → d ≡ e
unfolding edge_with
exact_edge d e same h =
    let last = ordering_then (action_cmp d.action e.action) (equations_cmp d.duties e.duties) in
    let rest = ordering_then (equations_cmp d.guard e.guard) last in
    let one = then_equal (target_cmp d.to e.to) rest h in
    let two = then_equal (equations_cmp d.guard e.guard) last one.1 in
    let three = then_equal (action_cmp d.action e.action) (equations_cmp d.duties e.duties) two.1 in
    ap (λ z. edge_with z d.to d.guard d.action d.duties) same
    ∙ ap (λ z. edge_with e.from z d.guard d.action d.duties) (exact_target d.to e.to one.0)
    ∙ ap (λ z. edge_with e.from e.to z d.action d.duties) (exact_equations d.guard e.guard two.0)
    ∙ ap (λ z. edge_with e.from e.to e.guard z d.duties) (exact_action d.action e.action three.0)
    ∙ ap (λ z. edge_with e.from e.to e.guard e.action z) (exact_equations d.duties e.duties three.1)

-- ---- each compares as equal with itself

ties_pair : Ties pair_cmp
ties_pair p =
    then_ties (nat_cmp p.0 p.0) (int_cmp p.1 p.1) (tied_itself nat_cmp_total p.0) (tied_itself int_cmp_total p.1)

ties_equations : Ties equations_cmp
ties_equations = ties_lists equation_cmp (λ e. ties_lists int_cmp (tied_itself int_cmp_total) e.coefficients)

ties_action : Ties action_cmp
ties_action (Map m) = ties_lists (slice_cmp pair_cmp) (ties_lists pair_cmp ties_pair) m.rows
ties_action (Free c) = tied_itself nat_cmp_total c
ties_action (Call f class onto) =
    then_ties (nat_cmp f f) (ordering_then (nat_cmp class class) (slice_cmp nat_cmp onto onto))
    (tied_itself nat_cmp_total f)
    (then_ties (nat_cmp class class) (slice_cmp nat_cmp onto onto) (tied_itself nat_cmp_total class)
    (ties_lists nat_cmp (tied_itself nat_cmp_total) onto))

ties_target : Ties target_cmp
ties_target (Place k) = tied_itself nat_cmp_total k
ties_target (Exit k) = tied_itself nat_cmp_total k

ties_edge : Ties edge_cmp
ties_edge e =
    let last = ordering_then (action_cmp e.action e.action) (equations_cmp e.duties e.duties) in
    then_ties (target_cmp e.to e.to) (ordering_then (equations_cmp e.guard e.guard) last) (ties_target e.to)
    (then_ties (equations_cmp e.guard e.guard) last (ties_equations e.guard)
    (then_ties (action_cmp e.action e.action) (equations_cmp e.duties e.duties) (ties_action e.action)
    (ties_equations e.duties)))

-- ---- edges in order

in_order_only : (es : List AffineEdge) (d : AffineEdge) → IsAmong (edges_in_order es) d → IsAmong es d
in_order_only [] d there = there
in_order_only (e ∷ es) d there = elim (put_only edge_cmp e (put_edges es) d there) [
  | inl h ↦ (0, (omega arith, h))
  | inr later ↦ later_among e es d (in_order_only es d later)
]

in_order_stands : (es : List AffineEdge) (e : AffineEdge) → IsAmong es e → Stands edge_cmp (edges_in_order es) e
in_order_stands [] e there = absurd (nothing_in e there)
in_order_stands (x ∷ es) e there = elim (one_of x es e there) [
  | inl h ↦ subst (Stands edge_cmp (edges_in_order (x ∷ es))) (sym h) (put_has edge_cmp ties_edge x (put_edges es))
  | inr later ↦
      let s = in_order_stands es e later in
      (s.0, (put_keeps edge_cmp x (put_edges es) s.0 s.1.0, s.1.1))
]

-- an edge of a list with one source stands among those in order
pub in_order_has : (k : ℕ) (es : List AffineEdge) → ((d : AffineEdge) → IsAmong es d → d.from ≡ k) → (e : AffineEdge)
    → IsAmong es e → IsAmong (edges_in_order es) e
in_order_has k es from e there =
    let s = in_order_stands es e there in
    let same = exact_edge e s.0 (from e there ∙ sym (from s.0 (in_order_only es s.0 s.1.0))) s.1.1 in
    subst (IsAmong (edges_in_order es)) (sym same) s.1.0
