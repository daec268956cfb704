use Rattle.std.proofs.Common.{◌≡◌, ◌∙◌, ℕ, ◌<◌, List, ◌∷◌, ◌++◌, [], length, map, Some, sym, ap, subst, arith}
use Rattle.std.proofs.Common.{append_assoc}
use Rattle.std.specs.Prelude.{◌^◌}
use Rattle.std.specs.List.{All}
use Rattle.std.specs.Vec.Iter.{into_iter_items}
use Rattle.std.proofs.lemmas.List.Elements.{All-head, All-tail}
use Rattle.pungi_shape.specs.Bounds.{IsScene}
use Rattle.pungi_shape.specs.Cases.{Case}
use Rattle.pungi_shape.specs.Edges.{edge_of}
use Rattle.pungi_shape.specs.Reached.{HasWideGoal}
use Rattle.pungi_shape.proofs.SkipLemmas.{wide_first, wide_later}
use Rattle.pungi_shape.proofs.edges.edges_of_cases.Goals as goal

-- of what is left the first one is gone
later : (P : Case → Type 0) (ds es : List Case) (d : Case) → ds ≡ d ∷ es → All P ds → All P es
later P ds es d e all = All-tail P d es (subst (λ (cs : List Case). All P cs) e all)

pub push_edge_of-requires-clause-freed : goal.push_edge_of-requires-clause-freed
push_edge_of-requires-clause-freed c =
    let P : Case → Type 0 = λ d. (x : ℕ) → d.freed ≡ Some x → x < length c.args.code.now.vars in
    All-head P c.in-Some.case (into_iter_items c.next.new.self)
    (subst (λ (cs : List Case). All P cs) c.in-Some.ensures.steps.0 c.loop-case.invariant.freed)

pub loop-case-preserved : goal.loop-case-preserved
loop-case-preserved c =
    let at = c.loop-case in
    let f = edge_of c.args.code.now c.args.p c.args.shape.now in
    let d = c.in-Some.case in
    let rest = into_iter_items c.next.new.self in
    let all = into_iter_items at.case-iterator in
    let steps : all ≡ d ∷ rest = c.in-Some.ensures.steps.0 in
    let short = ap length steps in
    let gone = c.in-Some.ensures.steps.1 in
    let was = at.invariant.left in
    record {
      edges = rw c.in-Ok.ensures.edge
          (append_assoc at.out (f d ∷ []) (map f rest) ∙ ap (λ (cs : List Case). at.out ++ map f cs) (sym steps)
          ∙ at.invariant.edges);
      left = omega (arith, short, gone, was);
      wide = λ h. at.invariant.wide (subst (λ (cs : List Case). HasWideGoal (map f cs)) (sym steps)
          (wide_later (f d) (map f rest) h));
      scenes = later (λ (e : Case). IsScene e.scene) all rest d steps at.invariant.scenes;
      vars = later (λ (e : Case). length e.scene.shape.vars ≡ length c.args.code.now.vars) all rest d steps
          at.invariant.vars;
      few = later (λ (e : Case). length e.scene.shape.made < 2 ^ 32) all rest d steps at.invariant.few;
      freed = later (λ (e : Case). (x : ℕ) → e.freed ≡ Some x → x < length c.args.code.now.vars) all rest d steps
          at.invariant.freed;
    }

pub returns-in-Err-clause-wide : goal.returns-in-Err-clause-wide
returns-in-Err-clause-wide c = λ e. (
    let at = c.loop-case in
    let f = edge_of c.args.code.now c.args.p c.args.shape.now in
    let d = c.in-Some.case in
    let rest = into_iter_items c.next.new.self in
    let steps : into_iter_items at.case-iterator ≡ d ∷ rest = c.in-Some.ensures.steps.0 in
    let i = c.into_items-case-items.ensures in
    let g = c.into_iter-case-iterator.ensures.into_iter_gives in
    let same : into_iter_items c.into_iter-case-iterator.result ≡ c.args.list = cc in
    subst (λ (cs : List Case). HasWideGoal (map f cs)) same (at.invariant.wide
    (subst (λ (cs : List Case). HasWideGoal (map f cs)) (sym steps)
    (wide_first (f d) (map f rest) (c.in-Err.ensures.wide e))))
    )
