use Rattle.std.proofs.Common.{sym, subst}
use Rattle.pungi_shape.specs.Forms.{plus, IsStorable}
use Rattle.pungi_shape.specs.Scenes.{Scene, balance_at}
use Rattle.pungi_shape.proofs.BalanceLemmas.{merged-storable}
use Rattle.pungi_shape.proofs.comparisons.add_merged.Goals as goal

pub merge-requires-clause-storable : goal.merge-requires-clause-storable
merge-requires-clause-storable c =
    subst (λ (s : Scene). IsStorable (plus (balance_at s c.args.t) (balance_at s c.args.u))) (sym c.in_ok-after.ensures)
    (merged-storable c.args.scene.now c.args.t c.args.u c.requires.scene c.requires.fresh.balances)
