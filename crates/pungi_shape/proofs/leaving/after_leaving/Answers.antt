use Rattle.std.proofs.Common.{◌≡◌, [], sym, subst, arith}
use Rattle.std.proofs.Common.{List, Option}
use Rattle.pungi_code.specs.declared.atom.Atom.{Atom}
use Rattle.pungi_shape.specs.Bounds.{IsScene}
use Rattle.pungi_shape.specs.Exits.{add_all, join_all}
use Rattle.pungi_shape.specs.Leaving.{AreAtoms}
use Rattle.pungi_shape.specs.Scenes.{Scene}
use Rattle.pungi_shape.specs.Shapes.{tokens_of}
use Rattle.pungi_shape.proofs.ExitClassLemmas.{exit-pairs, fresh-light}
use Rattle.pungi_shape.proofs.JoinLemmas.{add_all-grows, join_all-grows}
use Rattle.pungi_shape.proofs.WeightLemmas.{Grows}
use Rattle.pungi_shape.proofs.leaving.after_leaving.Goals as goal

pub join_all-requires-clause-light : goal.join_all-requires-clause-light
join_all-requires-clause-light c =
    let h = fresh-light c.args.scene.now c.requires.scene c.requires.fresh c.requires.narrow in omega (arith, h)

pub join_all-requires-clause-tokens : goal.join_all-requires-clause-tokens
join_all-requires-clause-tokens c =
    rw (c.as_slice.ensures, c.in_ok-pairs.ensures) (exit-pairs c.args.exit.now c.args.atoms.now c.requires.exit)

pub add_all-requires-clause-scene : goal.add_all-requires-clause-scene
add_all-requires-clause-scene c =
    subst (λ (t : Scene). IsScene t) (sym c.in_ok-stands.ensures.scene)
    (join_all-grows [] c.as_slice.result.now c.args.scene.now c.requires.scene).scene

pub add_all-requires-clause-light : goal.add_all-requires-clause-light
add_all-requires-clause-light c =
    let s = c.args.scene.now in
    let h = fresh-light s c.requires.scene c.requires.fresh c.requires.narrow in
    let g : Grows 0 s c.join_all.new.scene =
    subst (λ (t : Scene). Grows 0 s t) (sym c.in_ok-stands.ensures.scene)
    (join_all-grows [] c.as_slice.result.now s c.requires.scene) in
    omega (arith, h, g.light)

pub put_result-requires-clause-few : goal.put_result-requires-clause-few
put_result-requires-clause-few c =
    let s = c.args.scene.now in
    let e = c.args.exit.now in
    let ps = c.as_slice.result.now in
    let t = c.join_all.new.scene in
    let g : Grows 0 s t =
    subst (λ (t : Scene). Grows 0 s t) (sym c.in_ok-stands.ensures.scene)
    (join_all-grows [] ps s c.requires.scene) in
    let are : AreAtoms ps c.as_slice-2.result.now =
    subst (λ (l : List (Option Atom)). AreAtoms ps l) (sym c.as_slice-2.ensures) c.in_ok-stands.ensures.atoms in
    let moved : c.add_all.new.scene ≡ add_all c.args.w e ps (tokens_of e) t = c.in_ok-add_all.ensures ps are in
    let h = (add_all-grows c.args.w e ps (tokens_of e) t g.scene).made in
    let m = g.made in
    let few = c.requires.fresh.few in
    rw moved (omega (arith, h, m, few))
