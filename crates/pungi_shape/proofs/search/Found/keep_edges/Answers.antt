use Rattle.std.proofs.Common.{◌≡◌, ◌∙◌, ℕ, List, [], ◌∷◌, ◌++◌, suc, length, map, refl, sym, ap, subst, arith, rules}
use Rattle.std.proofs.Common.{true, Bool}
use Rattle.std.proofs.Common.{append_assoc, append-nil}
use Rattle.std.specs.Prelude.{◌||◌}
use Rattle.std.specs.List.{All}
use Rattle.std.specs.Vec.Iter.{into_iter_items}
use Rattle.std.proofs.lemmas.List.Elements.{All-head, All-tail}
use Rattle.pungi_shape.specs.declared.found_edge.FoundEdge.{FoundEdge}
use Rattle.pungi_shape.specs.declared.search.Found.{Found}
use Rattle.pungi_shape.specs.declared.shape.Shape.{Shape}
use Rattle.pungi_shape.specs.Edges.{Edge, Goal}
use Rattle.pungi_shape.specs.Found.{CanBeNoted, HasFewExits, are_over, is_over, with_goal, with_goals}
use Rattle.pungi_shape.specs.FoundEdges.{IsClassNumber, found_edge, found_edges}
use Rattle.pungi_shape.proofs.FoundEdgeLemmas.{first-kept}
use Rattle.pungi_shape.proofs.search.Found.keep_edges.Goals as goal

abbrev goals : List Edge → List Goal
goals es = map (λ (e : Edge). e.goal) es

pub keep_edge-requires-clause-can : goal.keep_edge-requires-clause-can
keep_edge-requires-clause-can c =
    let rest = into_iter_items c.next.new.self in
    let steps : into_iter_items c.loop-edge.edge-iterator ≡ c.in-Some.edge ∷ rest = c.in-Some.ensures.steps.0 in
    All-head CanBeNoted c.in-Some.edge.goal (goals rest)
    (subst (λ (gs : List Goal). All CanBeNoted gs) (ap goals steps) c.loop-edge.invariant.can)

pub keep_edge-requires-clause-few : goal.keep_edge-requires-clause-few
keep_edge-requires-clause-few c = c.loop-edge.invariant.few 0

-- one more edge, with the number that its goal has at the end
one-more : (list rest all : List FoundEdge) (e d : FoundEdge) → e ≡ d → list ++ d ∷ rest ≡ all
    → (list ++ e ∷ []) ++ rest ≡ all
one-more list rest all e d same so_far =
    append_assoc list (e ∷ []) rest ∙ ap (λ (x : FoundEdge). list ++ x ∷ rest) same ∙ so_far

pub loop-edge-preserved : goal.loop-edge-preserved
loop-edge-preserved c =
    let at = c.loop-edge in
    let s = at.self in
    let e = c.in-Some.edge in
    let g = e.goal in
    let first = into_iter_items c.into_iter-edge-iterator.result in
    let end = with_goals (goals first) c.args.self.now in
    let rest = into_iter_items c.next.new.self in
    let steps : into_iter_items at.edge-iterator ≡ e ∷ rest = c.in-Some.ensures.steps.0 in
    let all : goals (into_iter_items at.edge-iterator) ≡ g ∷ goals rest = ap goals steps in
    let moved : c.keep_edge.new.self ≡ with_goal g s = c.in_ok-keep_edge.ensures.noted in
    let fits = c.in_ok-keep_edge.ensures.fits in
    let few : HasFewExits (g ∷ goals rest) s =
    subst (λ (gs : List Goal). HasFewExits gs s) all at.invariant.few in
    let short = ap length steps in
    let gone = c.in-Some.ensures.steps.1 in
    let was = at.invariant.left in
    let ends : with_goals (g ∷ goals rest) s ≡ end =
    sym (ap (λ (gs : List Goal). with_goals gs s) all) ∙ at.invariant.noted in
    let left : (others : ℕ → List Shape)
    → All (λ (d : Edge). IsClassNumber others d.change c.args.class) first
    → All (λ (d : Edge). IsClassNumber others d.change c.args.class) (e ∷ rest) =
    λ others classes. subst (λ (es : List Edge). All (λ (d : Edge). IsClassNumber others d.change c.args.class) es)
    steps (at.invariant.classes others classes) in
    let here : (others : ℕ → List Shape)
    → All (λ (d : Edge). IsClassNumber others d.change c.args.class) first
    → IsClassNumber others e.change c.args.class =
    λ others classes.
    All-head (λ (d : Edge). IsClassNumber others d.change c.args.class) e rest (left others classes) in
    let numbered : (others : ℕ → List Shape)
    → All (λ (d : Edge). IsClassNumber others d.change c.args.class) first
    → c.in_ok-keep_edge.field-0 ≡ found_edge others end e =
    λ others classes.
    c.in_ok-keep_edge.ensures.edge others (here others classes)
    ∙ ap (λ (u : Found). found_edge others u e) moved ∙ sym (first-kept others e (goals rest) s)
    ∙ ap (λ (u : Found). found_edge others u e) ends in
    record {
      noted = ap (λ (u : Found). with_goals (goals rest) u) moved
          ∙ sym (ap (λ (gs : List Goal). with_goals gs s) all) ∙ at.invariant.noted;
      over = ap (λ (u : Found). are_over (goals rest) u) moved
          ∙ sym (ap (λ (b : Bool). b || are_over (goals rest) (with_goal g s)) fits)
          ∙ sym (ap (λ (gs : List Goal). are_over gs s) all) ∙ at.invariant.over;
      classes = λ others classes.
          All-tail (λ (d : Edge). IsClassNumber others d.change c.args.class) e rest (left others classes);
      list = λ others classes. rw c.in_ok-push.ensures.ok (one-more at.list (found_edges others end rest)
          (c.args.list.now ++ found_edges others end first)
          c.in_ok-keep_edge.field-0 (found_edge others end e) (numbered others classes)
          (ap (λ (es : List Edge). at.list ++ found_edges others end es) (sym steps)
          ∙ at.invariant.list others classes));
      can = All-tail CanBeNoted g (goals rest) (subst (λ (gs : List Goal). All CanBeNoted gs) all at.invariant.can);
      few = subst (λ (u : Found). HasFewExits (goals rest) u) (sym moved) (λ i. few (suc i));
      left = omega (arith, short, gone, was);
    }

pub returns-in_err-keep_edge-clause-over : goal.returns-in_err-keep_edge-clause-over
returns-in_err-keep_edge-clause-over c =
    λ e.
    let at = c.loop-edge in
    let s = at.self in
    let g = c.in-Some.edge.goal in
    let rest = into_iter_items c.next.new.self in
    let steps : into_iter_items at.edge-iterator ≡ c.in-Some.edge ∷ rest = c.in-Some.ensures.steps.0 in
    let over : is_over g s ≡ true = c.in_err-keep_edge.ensures.over (search rules) in
    let first : into_iter_items c.into_iter-edge-iterator.result ≡ c.args.edges = search rules in
    ap (λ (es : List Edge). are_over (goals es) c.args.self.now) (sym first) ∙ sym at.invariant.over
    ∙ ap (λ (es : List Edge). are_over (goals es) s) steps
    ∙ ap (λ (b : Bool). b || are_over (goals rest) (with_goal g s)) over

nothing-left : {X : Type 0} (xs : List X) → length xs ≡ 0 → xs ≡ []
nothing-left [] e = refl
nothing-left (x ∷ xs) e = absurd (omega (arith, e))

pub returns-clause-edges : goal.returns-clause-edges
returns-clause-edges c = λ others classes. (
    let at = c.loop-edge in
    let start = into_iter_items c.into_iter-edge-iterator.result in
    let first : start ≡ c.args.edges = search rules in
    let left = at.invariant.left in
    let done = c.in-None.ensures.steps.0 in
    let none : into_iter_items at.edge-iterator ≡ [] =
    nothing-left (into_iter_items at.edge-iterator) (omega (arith, left, done)) in
    let end = with_goals (goals start) c.args.self.now in
    let here : at.self ≡ end =
    sym (ap (λ (es : List Edge). with_goals (goals es) at.self) none) ∙ at.invariant.noted in
    sym (append-nil at.list) ∙ ap (λ (es : List Edge). at.list ++ found_edges others end es) (sym none)
    ∙ at.invariant.list others
    (subst (λ (es : List Edge). All (λ (d : Edge). IsClassNumber others d.change c.args.class) es) (sym first) classes)
    ∙ ap (λ (u : Found). c.args.list.now ++ found_edges others u start) (sym here)
    ∙ ap (λ (es : List Edge). c.args.list.now ++ found_edges others at.self es) first
    )
