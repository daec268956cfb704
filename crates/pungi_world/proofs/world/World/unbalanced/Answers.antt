use Rattle.std.proofs.Common.{◌≡◌, below_more, List, ap, sym, ◌∙◌, get_or, refl, arith}
use Rattle.std.proofs.lemmas.Int.{ints}
use mir.Val.{to_z, of_z}
use mir.Syntax.{w64}
use Rattle.pungi_world.specs.declared.account.Account.{Account}
use Rattle.pungi_world.specs.World.{fresh_account}
use Rattle.pungi_world.proofs.world.World.unbalanced.Goals as goal

pub loop-object-preserved : goal.loop-object-preserved
loop-object-preserved c =
    let same = c.if-not-is_change.ensures in
    let fits : to_z w64 (of_z w64 c.escaped-escaped.result) ≡ c.escaped-escaped.result = omega (arith, ints) in
    below_more _ _ c.loop-object.invariant
    (λ counted. sym (ap (λ (l : List Account). (get_or l c.loop-object.object fresh_account).change) c.as_slice.ensures)
    ∙ same.0 refl ∙ fits ∙ c.escaped-escaped.ensures)
