use Rattle.std.proofs.Common.{◌≡◌, ◌∙◌, List, [], map, refl, sym, ap, subst, arith, length}
use Rattle.pungi_code.specs.declared.atom.Atom.{Atom}
use Rattle.pungi_shape.specs.declared.holding.Holding.{Holding}
use Rattle.pungi_shape.specs.Bounds.{AreTokens, IsScene}
use Rattle.pungi_shape.specs.Exits.{are_alike, arguments_of, join_all, statics_differ}
use Rattle.pungi_shape.specs.Leaving.{bare_scene, weight}
use Rattle.pungi_shape.specs.Scenes.{Scene, holding_of, scene_of}
use Rattle.pungi_shape.proofs.ExitClassLemmas.{bare-light, bare-scene, exit-pairs}
use Rattle.pungi_shape.proofs.JoinLemmas.{join_all-grows}
use Rattle.pungi_shape.proofs.SameShapes.{left_last, left_unlike}
use Rattle.pungi_shape.proofs.joins.may_leave.Goals as goal

pub join_all-requires-clause-scene : goal.join_all-requires-clause-scene
join_all-requires-clause-scene c =
    rw c.in_ok-scene.ensures (bare-scene c.args.shape.now c.requires.shape.tokens)

pub join_all-requires-clause-light : goal.join_all-requires-clause-light
join_all-requires-clause-light c =
    let e = ap weight c.in_ok-scene.ensures in
    let h = bare-light c.args.shape.now in
    omega (arith, e, h)

pub join_all-requires-clause-tokens : goal.join_all-requires-clause-tokens
join_all-requires-clause-tokens c =
    rw (c.as_slice-2.ensures, c.in_ok-pairs.ensures) (exit-pairs c.args.exit.now c.args.atoms.now c.requires.exit)

pub statics_differ-requires : goal.statics_differ-requires
statics_differ-requires c =
    let is : IsScene c.in_ok-scene.scene = rw c.in_ok-scene.ensures (bare-scene c.args.shape.now
    c.requires.shape.tokens) in
    subst (λ (t : Scene). AreTokens (length t.shape.made) t.shape) (sym c.in_ok-join_all.ensures.scene)
    (join_all-grows [] c.as_slice-2.result.now c.in_ok-scene.scene is).scene.tokens

pub returns-then-not-are_alike : goal.returns-then-not-are_alike
returns-then-not-are_alike c =
    let s = scene_of c.args.shape.now in
    let e = c.args.exit.now in
    let ks = map (holding_of s) c.args.atoms.now in
    left_unlike e c.args.atoms.now s
    (ap (λ (hs : List Holding). are_alike hs ks) (sym c.as_slice.ensures) ∙ sym (c.are_alike.ensures s refl)
    ∙ c.if-not-are_alike.true)

pub returns : goal.returns
returns c =
    let s = scene_of c.args.shape.now in
    let e = c.args.exit.now in
    let as' = c.args.atoms.now in
    let ks = map (holding_of s) as' in
    let ps = arguments_of e as' in
    let moved : c.join_all.new.scene ≡ join_all [] ps (bare_scene c.args.shape.now) =
    c.in_ok-join_all.ensures.scene
    ∙ ap (λ (l : List (Holding × Atom)). join_all [] l c.in_ok-scene.scene)
    (c.as_slice-2.ensures ∙ c.in_ok-pairs.ensures)
    ∙ ap (λ (t : Scene). join_all [] ps t) c.in_ok-scene.ensures in
    c.in_ok-differ.ensures ∙ ap (λ (t : Scene). statics_differ t.shape) moved
    ∙ left_last e as' (bare_scene c.args.shape.now) s
    (ap (λ (hs : List Holding). are_alike hs ks) (sym c.as_slice.ensures) ∙ sym (c.are_alike.ensures s refl)
    ∙ c.if-not-are_alike.false) refl
