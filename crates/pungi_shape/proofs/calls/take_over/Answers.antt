use Rattle.std.proofs.Common.{◌≡◌, ◌∙◌, ◌+◌, ◌<◌, ◌^◌, Bool, length, get_or, drop, negsuc, sym, ap, subst, arith, rules}
use Rattle.std.proofs.lemmas.Int.{ints}
use Rattle.pungi_world.specs.Calls.{is_taken_at}
use Rattle.pungi_shape.specs.Bounds.{HasBalances, IsScene}
use Rattle.pungi_shape.specs.declared.holding.Holding.TheVariants.{Dead}
use Rattle.pungi_shape.specs.Calls.{take_over}
use Rattle.pungi_shape.specs.Scenes.{Scene}
use Rattle.pungi_shape.proofs.BalanceLemmas.{changed-storable}
use Rattle.pungi_shape.proofs.CallLemmas.{after_taking, take_over-turn, take_over-end, taking-scene, taking-balances}
use Rattle.pungi_shape.proofs.calls.take_over.Goals as goal

pub take_one-requires-clause-storable : goal.take_one-requires-clause-storable
take_one-requires-clause-storable c =
    let few : length c.args.holdings.now < 2 ^ 62 = search rules in
    λ t e. changed-storable c.loop-i.scene t (c.loop-i.i + 1) (negsuc 0) c.loop-i.invariant.scene
    c.loop-i.invariant.balances (omega (arith, ints), omega (arith, ints)) (omega (arith, few, c.loop-i-test.true))

pub loop-i-preserved : goal.loop-i-preserved
loop-i-preserved c =
    let i = c.loop-i.i in
    let takes = c.args.takes.now in
    let hs = c.args.holdings.now in
    let b = is_taken_at c.args.success takes i in
    let moved : c.take_one.new.scene ≡ after_taking b (get_or hs i Dead) c.loop-i.scene =
    c.in_ok-take_one.ensures ∙ ap (λ (b : Bool). after_taking b (get_or hs i Dead) c.loop-i.scene)
    c.is_taken_at.ensures in
    record {
      rest = ap (λ (s : Scene). take_over c.args.success (drop (i + 1) takes) (drop (i + 1) hs) s) moved
          ∙ sym (take_over-turn c.args.success takes hs i c.loop-i.scene c.loop-i-test.true)
          ∙ c.loop-i.invariant.rest;
      scene = subst (λ (s : Scene). IsScene s) (sym moved)
          (taking-scene b (get_or hs i Dead) c.loop-i.scene c.loop-i.invariant.scene);
      balances = subst (λ (s : Scene). HasBalances (i + 1 + 1) s) (sym moved) (taking-balances b (get_or hs i Dead)
          (i + 1) c.loop-i.scene c.loop-i.invariant.scene c.loop-i.invariant.balances);
    }

pub returns : goal.returns
returns c =
    sym (take_over-end c.args.success c.args.takes.now c.args.holdings.now c.loop-i.i c.loop-i.scene
    c.loop-i-test.false) ∙ c.loop-i.invariant.rest
