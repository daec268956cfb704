use Rattle.std.proofs.Common.{◌≡◌, ◌∙◌, ◌+◌, ◌<◌, Option, sym, ap, arith}
use Rattle.pungi_code.specs.declared.atom.Atom.{Atom}
use Rattle.pungi_shape.specs.declared.holding.Holding.{Holding}
use Rattle.pungi_shape.specs.Exits.{atom_of, put_object, put_result}
use Rattle.pungi_shape.specs.Forms.{Form, unit}
use Rattle.pungi_shape.specs.Limits.{most_coordinates}
use Rattle.pungi_shape.specs.Scenes.{after_entry}
use Rattle.pungi_shape.proofs.ExitClassLemmas.{exit-returned}
use Rattle.pungi_shape.proofs.leaving.put_result.Goals as goal

pub returns-in_ok-put_object-in-Token : goal.returns-in_ok-put_object-in-Token
returns-in_ok-put_object-in-Token c = λ pairs are. (
    let e = c.args.exit.now in
    let s = c.args.scene.now in
    let u = c.in-Token.u in
    let below : u < most_coordinates = rw c.in-Token.is at (exit-returned e c.requires.exit) in
    let number : c.args.w + c.after_entry.result + u ≡ c.args.w + (after_entry e + u) = omega arith in
    c.in_ok-put_object-in-Token.ensures
    ∙ ap (λ (o : Option Atom). put_object o c.in_ok-balance-in-Token.balance c.args.x s)
    (c.atom_of.ensures ∙ are.each u below)
    ∙ ap (λ (f : Form). put_object (atom_of u pairs) f c.args.x s)
    (c.in_ok-balance-in-Token.ensures ∙ ap (unit s.width) number)
    ∙ ap (λ (h : Holding). put_result c.args.w e pairs c.args.x h s) (sym c.in-Token.is)
    )
