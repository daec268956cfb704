use Rattle.std.proofs.Common.{negsuc, pos, sym, subst, arith, lit<}
use Rattle.std.proofs.lemmas.Int.{ints}
use Rattle.pungi_shape.specs.Bounds.{IsScene}
use Rattle.pungi_shape.specs.Forms.{plus, constant, IsStorable}
use Rattle.pungi_shape.specs.Scenes.{Scene, add_to_holding, balance_at}
use Rattle.pungi_shape.proofs.BalanceLemmas.{changed-storable, add_to_holding-scene, add_to_holding-balances}
use Rattle.pungi_shape.proofs.slots.store_object.Goals as goal

pub add_to_holding-requires-clause-storable : goal.add_to_holding-requires-clause-storable
add_to_holding-requires-clause-storable c =
    λ t e. changed-storable c.args.scene.now t 1 (pos 1) c.requires.scene c.requires.fresh.balances
    (omega (arith, ints), omega (arith, ints)) (lit< tt)

pub add_to_holding-requires-2-clause-scene : goal.add_to_holding-requires-2-clause-scene
add_to_holding-requires-2-clause-scene c =
    subst (λ (s : Scene). IsScene s) (sym c.in_ok-add_to_holding.ensures.ok)
    (add_to_holding-scene c.holding_in-held.result (pos 1) c.args.scene.now c.requires.scene)

pub add_to_holding-requires-2-clause-storable : goal.add_to_holding-requires-2-clause-storable
add_to_holding-requires-2-clause-storable c =
    λ t e. subst (λ (s : Scene). IsStorable (plus (balance_at s t) (constant s.width (negsuc 0))))
    (sym c.in_ok-add_to_holding.ensures.ok)
    (changed-storable (add_to_holding c.holding_in-held.result (pos 1) c.args.scene.now) t 2 (negsuc 0)
    (add_to_holding-scene c.holding_in-held.result (pos 1) c.args.scene.now c.requires.scene)
    (add_to_holding-balances c.holding_in-held.result (pos 1) 1 c.args.scene.now c.requires.scene
    (omega (arith, ints), omega (arith, ints)) c.requires.fresh.balances)
    (omega (arith, ints), omega (arith, ints)) (lit< tt))
