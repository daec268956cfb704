use Rattle.std.proofs.Common.{◌≡◌, ◌∙◌, ◌+◌, List, ◌++◌, length, take, get_or, refl, sym, ap, subst}
use Rattle.std.proofs.Common.{arith}
use Rattle.std.proofs.Common.{rules, append-nil, Some, slice_get}
use Rattle.std.specs.List.{All}
use Rattle.std.proofs.lemmas.List.{take_all}
use Rattle.std.proofs.lemmas.List.Elements.{All-map}
use Rattle.pungi_shape.specs.declared.search.Found.{Found}
use Rattle.pungi_shape.specs.declared.shape.Shape.{Shape}
use Rattle.pungi_shape.specs.Bounds.{IsShape}
use Rattle.pungi_shape.specs.Edges.{Edge, call_edges}
use Rattle.pungi_shape.specs.Found.{CanBeNoted, HasFewExits, are_over, calls_of, goals_of_calls, with_goals}
use Rattle.pungi_shape.specs.FoundEdges.{IsClassNumber, found_edges}
use Rattle.pungi_shape.specs.Leaving.{IsExitClass}
use Rattle.pungi_shape.specs.Places.{Place}
use Rattle.pungi_shape.specs.Reached.{shape_at}
use Rattle.pungi_shape.specs.Shapes.{width_of}
use Rattle.pungi_shape.proofs.CallGoals.{IsAfterCall, call_edges-all, calls-class, calls_of-all, places-few}
use Rattle.pungi_shape.proofs.CallGoals.{places-keep}
use Rattle.pungi_shape.proofs.VisitLemmas.{calls-can, calls-kept, calls-noted, calls-over, calls-over-all, goals}
use Rattle.pungi_shape.proofs.VisitLemmas.{same-place}
use Rattle.pungi_shape.proofs.VisitLemmas.{someone, still-within}
use Rattle.pungi_shape.proofs.search.Found.visit_calls.Goals as goal

pub loop-class-init : goal.loop-class-init
loop-class-init c = record {
  within = c.requires.there;
  noted = λ q at. refl;
  fits = λ q at. refl;
  edges = λ q at others is. sym (append-nil c.args.list.now);
}

pub call_edges-requires-clause-shape : goal.call_edges-requires-clause-shape
call_edges-requires-clause-shape c =
    let at = someone c.args.self.now.places.items c.args.k c.requires.there in
    let gs = goals_of_calls c.args.code.now at.0 c.args.g (take c.loop-class.class c.args.classes.now) in
    let same = same-place gs c.args.self.now c.loop-class.self (c.loop-class.invariant.noted at.0 at.1) c.args.k
    c.items.result.now at.0 c.index-items-k.result at.1 c.items.ensures c.index-items-k.is c.requires.there in
    subst (λ (r : Place). IsShape (shape_at r)) (sym same) (c.requires.place at.0 at.1).shape

pub call_edges-requires-clause-narrow : goal.call_edges-requires-clause-narrow
call_edges-requires-clause-narrow c =
    let at = someone c.args.self.now.places.items c.args.k c.requires.there in
    let gs = goals_of_calls c.args.code.now at.0 c.args.g (take c.loop-class.class c.args.classes.now) in
    let same = same-place gs c.args.self.now c.loop-class.self (c.loop-class.invariant.noted at.0 at.1) c.args.k
    c.items.result.now at.0 c.index-items-k.result at.1 c.items.ensures c.index-items-k.is c.requires.there in
    let narrow = (c.requires.place at.0 at.1).narrow in
    let width = ap (λ (r : Place). width_of (shape_at r)) same in
    omega (arith, narrow, width)

pub call_edges-requires-clause-exit : goal.call_edges-requires-clause-exit
call_edges-requires-clause-exit c =
    let at = someone c.args.self.now.places.items c.args.k c.requires.there in
    let x = c.index-classes-class.result in
    subst IsExitClass (sym c.index-classes-class.is)
    ((c.requires.place at.0 at.1).exits c.loop-class.class x c.loop-class-test.true)

pub keep_edges-requires-clause-can : goal.keep_edges-requires-clause-can
keep_edges-requires-clause-can c =
    let at = someone c.args.self.now.places.items c.args.k c.requires.there in
    let code = c.args.code.now in
    let g = c.args.g in
    let xs = c.args.classes.now in
    let i = c.loop-class.class in
    let x = c.index-classes-class.result in
    let gs = goals_of_calls code at.0 g (take i xs) in
    let same = same-place gs c.args.self.now c.loop-class.self (c.loop-class.invariant.noted at.0 at.1) c.args.k
    c.items.result.now at.0 c.index-items-k.result at.1 c.items.ensures c.index-items-k.is c.requires.there in
    let out : c.call_edges.new.out ≡ call_edges code c.index-items-k.result g x = search rules in
    let now : c.call_edges.new.out ≡ call_edges code at.0 g (get_or xs i x) = out
    ∙ ap (λ (r : Place). call_edges code r g x) same ∙ ap (call_edges code at.0 g) c.index-classes-class.is in
    subst (λ (es : List Edge). All CanBeNoted (goals es)) (sym now)
    (calls-can code at.0 g xs i x c.loop-class-test.true (c.requires.place at.0 at.1).noted)

pub keep_edges-requires-clause-few : goal.keep_edges-requires-clause-few
keep_edges-requires-clause-few c =
    let at = someone c.args.self.now.places.items c.args.k c.requires.there in
    let code = c.args.code.now in
    let g = c.args.g in
    let s = c.args.self.now in
    let xs = c.args.classes.now in
    let i = c.loop-class.class in
    let x = c.index-classes-class.result in
    let r = c.index-items-k.result in
    let out : c.call_edges.new.out ≡ call_edges code r g x = search rules in
    let before = calls_of code at.0 g (take i xs) in
    let kept = places-keep (goals before) s (All-map IsAfterCall (λ (e : Edge). e.goal) before
    (calls_of-all (λ (e : Edge). IsAfterCall e.goal) code at.0 (λ h e p t. tt) g (take i xs))) in
    let same = ap (λ (u : Found). length u.exits.items) (c.loop-class.invariant.noted at.0 at.1) in
    let long = ap (λ n. length n.items) kept in
    let few = (c.requires.place at.0 at.1).few in
    subst (λ (es : List Edge). HasFewExits (goals es) c.loop-class.self) (sym out)
    (places-few (call_edges code r g x) c.loop-class.self
    (call_edges-all (λ (e : Edge). IsAfterCall e.goal) g x (λ p t. tt) code r) (omega (arith, same, long, few)))

pub returns-in_err-keep_edges-clause-over : goal.returns-in_err-keep_edges-clause-over
returns-in_err-keep_edges-clause-over c = λ e q at. (
    let code = c.args.code.now in
    let g = c.args.g in
    let s = c.args.self.now in
    let xs = c.args.classes.now in
    let i = c.loop-class.class in
    let x = c.index-classes-class.result in
    let gs = goals_of_calls code q g (take i xs) in
    let noted = c.loop-class.invariant.noted q at in
    let same = same-place gs s c.loop-class.self noted c.args.k
    c.items.result.now q c.index-items-k.result at c.items.ensures c.index-items-k.is c.requires.there in
    let out : c.call_edges.new.out ≡ call_edges code c.index-items-k.result g x = search rules in
    let now : c.call_edges.new.out ≡ call_edges code q g (get_or xs i x) = out
    ∙ ap (λ (r : Place). call_edges code r g x) same ∙ ap (call_edges code q g) c.index-classes-class.is in
    calls-over-all code q g xs s (i + 1)
    (calls-over code q g xs s i x c.loop-class-test.true (c.loop-class.invariant.fits q at)
    ∙ ap (are_over (goals (call_edges code q g (get_or xs i x)))) (sym noted)
    ∙ ap (λ (es : List Edge). are_over (goals es) c.loop-class.self) (sym now)
    ∙ c.in_err-keep_edges.ensures.over (search rules))
    )

pub loop-class-preserved : goal.loop-class-preserved
loop-class-preserved c =
    let code = c.args.code.now in
    let g = c.args.g in
    let s = c.args.self.now in
    let t = c.loop-class.self in
    let u = c.keep_edges.new.self in
    let xs = c.args.classes.now in
    let i = c.loop-class.class in
    let x = c.index-classes-class.result in
    let lt = c.loop-class-test.true in
    let out : c.call_edges.new.out ≡ call_edges code c.index-items-k.result g x = search rules in
    let now : (q : Place) → slice_get s.places.items c.args.k ≡ Some q
    → c.call_edges.new.out ≡ call_edges code q g (get_or xs i x) =
    λ q at. out
    ∙ ap (λ (r : Place). call_edges code r g x)
    (same-place (goals_of_calls code q g (take i xs)) s t (c.loop-class.invariant.noted q at) c.args.k
    c.items.result.now q c.index-items-k.result at c.items.ensures c.index-items-k.is c.requires.there)
    ∙ ap (call_edges code q g) c.index-classes-class.is in
    let noted : (q : Place) → slice_get s.places.items c.args.k ≡ Some q
    → u ≡ with_goals (goals_of_calls code q g (take (i + 1) xs)) s =
    λ q at. c.in_ok-keep_edges.ensures.noted
    ∙ ap (λ (es : List Edge). with_goals (goals es) t) (now q at)
    ∙ ap (with_goals (goals (call_edges code q g (get_or xs i x)))) (c.loop-class.invariant.noted q at)
    ∙ sym (calls-noted code q g xs s i x lt) in
    let some = someone s.places.items c.args.k c.requires.there in
    record {
      within = still-within (goals_of_calls code some.0 g (take (i + 1) xs)) s u (noted some.0 some.1) c.args.k
          c.requires.there;
      noted = noted;
      fits = λ q at. calls-over code q g xs s i x lt (c.loop-class.invariant.fits q at)
          ∙ ap (are_over (goals (call_edges code q g (get_or xs i x)))) (sym (c.loop-class.invariant.noted q at))
          ∙ ap (λ (es : List Edge). are_over (goals es) t) (sym (now q at)) ∙ c.in_ok-keep_edges.ensures.fits;
      edges = λ q at others is. (
          let first = c.args.list.now in
          let then = c.loop-class.list in
          let all = c.keep_edges.new.list in
          let e = c.loop-class.invariant.edges q at others is
          ∙ ap (λ (v : Found). first ++ found_edges others v (calls_of code q g (take i xs)))
          (c.loop-class.invariant.noted q at) in
          let classes : All (λ (d : Edge). IsClassNumber others d.change i) c.call_edges.new.out =
          subst (λ (es : List Edge). All (λ (d : Edge). IsClassNumber others d.change i) es) (sym (now q at))
          (calls-class code q g xs others is c.requires.rise i x lt) in
          let d = c.in_ok-keep_edges.ensures.edges others classes
          ∙ ap (λ (v : Found). then ++ found_edges others v c.call_edges.new.out) (noted q at)
          ∙ ap (λ (es : List Edge). then ++ found_edges others
          (with_goals (goals_of_calls code q g (take (i + 1) xs)) s) es) (now q at) in
          calls-kept code q g xs s i x lt others first then all e d
          ∙ ap (λ (v : Found). first ++ found_edges others v (calls_of code q g (take (i + 1) xs))) (sym (noted q at))
          );
    }

-- ---- the end

pub returns-clause-noted : goal.returns-clause-noted
returns-clause-noted c = λ q at.
    c.loop-class.invariant.noted q at
    ∙ ap (λ (xs : List Shape). with_goals (goals_of_calls c.args.code.now q c.args.g xs) c.args.self.now)
    (take_all c.loop-class.class c.args.classes.now c.loop-class-test.false)

pub returns-clause-edges : goal.returns-clause-edges
returns-clause-edges c = λ q at others is.
    c.loop-class.invariant.edges q at others is
    ∙ ap (λ (xs : List Shape). c.args.list.now ++ found_edges others c.loop-class.self
    (calls_of c.args.code.now q c.args.g xs))
    (take_all c.loop-class.class c.args.classes.now c.loop-class-test.false)

pub returns-clause-fits : goal.returns-clause-fits
returns-clause-fits c = λ q at.
    ap (λ (xs : List Shape). are_over (goals_of_calls c.args.code.now q c.args.g xs) c.args.self.now)
    (sym (take_all c.loop-class.class c.args.classes.now c.loop-class-test.false))
    ∙ c.loop-class.invariant.fits q at
