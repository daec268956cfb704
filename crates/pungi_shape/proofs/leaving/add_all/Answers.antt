use Rattle.std.proofs.Common.{◌≡◌, ◌∙◌, ◌+◌, ◌<◌, ◌≤◌, Option, length, get_or, drop, sym, ap, subst, arith}
use Rattle.std.proofs.lemmas.List.{at_drop_all, at_drop_more}
use Rattle.pungi_code.specs.declared.atom.Atom.{Atom}
use Rattle.pungi_shape.specs.Exits.{add_all, add_one, atom_of}
use Rattle.pungi_shape.specs.Forms.{Form, unit}
use Rattle.pungi_shape.specs.Leaving.{size}
use Rattle.pungi_shape.specs.Limits.{most_coordinates}
use Rattle.pungi_shape.specs.Scenes.{Scene, after_entry}
use Rattle.pungi_shape.specs.Shapes.{tokens_of}
use Rattle.pungi_shape.proofs.ExitClassLemmas.{exit-numbered, exit-tokens}
use Rattle.pungi_shape.proofs.FormBounds.{length-unit}
use Rattle.pungi_shape.proofs.JoinLemmas.{add_one-grows}
use Rattle.pungi_shape.proofs.WeightLemmas.{Grows, grows-then, size-unit}
use Rattle.pungi_shape.proofs.leaving.add_all.Goals as goal

pub exit_balance-requires : goal.exit_balance-requires
exit_balance-requires c =
    let e = c.args.exit.now in
    let ts = c.as_slice-tokens.result.now in
    let i = c.loop-u.u-index in
    let same : ts ≡ tokens_of e =
    c.as_slice-tokens.ensures ∙ ap (λ m. m.tokens) c.in_ok-numbering.ensures ∙ exit-numbered e c.requires.exit in
    let long = ap length same in
    let below : get_or (tokens_of e) i 0 < most_coordinates =
    exit-tokens e c.requires.exit i 0 (omega (arith, long, c.loop-u-test.true)) in
    let at = ap (λ l. get_or l i 0) same in
    omega (arith, below, at, c.requires.exit.narrow, c.requires.before)

pub add_one-requires-clause-width : goal.add_one-requires-clause-width
add_one-requires-clause-width c = rw c.in_ok-balance.ensures (length-unit _ _)

pub add_one-requires-clause-small : goal.add_one-requires-clause-small
add_one-requires-clause-small c =
    subst (λ (f : Form). size f ≤ 1) (sym c.in_ok-balance.ensures)
    (size-unit c.loop-u.scene.width (c.args.w + c.after_entry.result + get_or c.as_slice-tokens.result.now
    c.loop-u.u-index 0))

pub loop-u-preserved : goal.loop-u-preserved
loop-u-preserved c =
    let e = c.args.exit.now in
    let w = c.args.w in
    let ts = c.as_slice-tokens.result.now in
    let i = c.loop-u.u-index in
    let s = c.loop-u.scene in
    let u = get_or ts i 0 in
    let f = c.in_ok-balance.balance in
    let same : ts ≡ tokens_of e =
    c.as_slice-tokens.ensures ∙ ap (λ m. m.tokens) c.in_ok-numbering.ensures ∙ exit-numbered e c.requires.exit in
    let long = ap length same in
    let below : get_or (tokens_of e) i 0 < most_coordinates =
    exit-tokens e c.requires.exit i 0 (omega (arith, long, c.loop-u-test.true)) in
    let at : u ≡ get_or (tokens_of e) i 0 = ap (λ l. get_or l i 0) same in
    let small : u < most_coordinates = omega (arith, below, at) in
    let number : w + c.after_entry.result + u ≡ w + (after_entry e + u) = omega arith in
    record {
      rest = λ pairs are. (
          let moved =
          c.in_ok-add_one.ensures
          ∙ ap (λ (o : Option Atom). add_one o f s) (c.atom_of.ensures ∙ are.each u small)
          ∙ ap (λ (g : Form). add_one (atom_of u pairs) g s)
          (c.in_ok-balance.ensures ∙ ap (unit s.width) number) in
          ap (λ (t : Scene). add_all w e pairs (drop (i + 1) ts) t) moved
          ∙ sym (at_drop_more (λ us. add_all w e pairs us s) ts i 0 c.loop-u-test.true)
          ∙ c.loop-u.invariant.rest pairs are
          );
      grows = subst (λ (t : Scene). Grows (i + 1) c.args.scene.now t) (sym c.in_ok-add_one.ensures)
          (grows-then i 1 c.args.scene.now s (add_one c.atom_of.result f s) c.loop-u.invariant.grows
          (add_one-grows c.atom_of.result f s c.loop-u.invariant.grows.scene
          (rw c.in_ok-balance.ensures (length-unit _ _)) (subst (λ (g : Form). size g ≤ 1)
          (sym c.in_ok-balance.ensures) (size-unit s.width (w + c.after_entry.result + u)))));
    }

pub returns : goal.returns
returns c = λ pairs are. (
    let e = c.args.exit.now in
    let w = c.args.w in
    let ts = c.as_slice-tokens.result.now in
    let same : ts ≡ tokens_of e =
    c.as_slice-tokens.ensures ∙ ap (λ m. m.tokens) c.in_ok-numbering.ensures ∙ exit-numbered e c.requires.exit in
    sym (at_drop_all (λ us. add_all w e pairs us c.loop-u.scene) ts c.loop-u.u-index c.loop-u-test.false)
    ∙ c.loop-u.invariant.rest pairs are
    ∙ ap (λ us. add_all w e pairs us c.args.scene.now) same
    )
