use Rattle.std.proofs.Common.{sym, subst}
use Rattle.pungi_shape.specs.Forms.{plus, IsStorable}
use Rattle.pungi_shape.specs.Scenes.{Scene, balance_at}
use Rattle.pungi_shape.proofs.BalanceLemmas.{merged-storable}
use Rattle.pungi_shape.proofs.slots.add_merged.Goals as goal

pub merge-requires-clause-storable : goal.merge-requires-clause-storable
merge-requires-clause-storable c =
    subst (λ (s : Scene). IsStorable (plus (balance_at s c.args.b) (balance_at s c.args.c))) (sym c.in_ok-after.ensures)
    (merged-storable c.args.scene.now c.args.b c.args.c c.requires.scene c.requires.fresh.balances)
