use Rattle.std.proofs.Common.{◌≡◌, None, sym, arith, rules}
use Rattle.pungi_base.specs.declared.key.Key.TheVariants as keys
use Rattle.pungi_parse.specs.tokens.OneToken.{eat_key}
use Rattle.pungi_tree.specs.Placed.{placed}
use Rattle.pungi_parse.proofs.tokens.WordLoops.{count_turn, count_end}
use Rattle.pungi_parse.proofs.tokens.words.consts.Goals as goal

pub loop-after-preserved : goal.loop-after-preserved
loop-after-preserved c = (
  count_turn _ _ _ _ _ (sym c.in-Some.ensures.token) c.loop-after.invariant.0,
  omega
      (arith, c.in-Some.ensures.shorter),
)

pub returns-clause-count : goal.returns-clause-count
returns-clause-count c =
    let none : eat_key keys.Const (placed c.loop-after.rest.now) ≡ None = search rules in
    (count_end _ _ _ _ none c.loop-after.invariant.0).0

pub returns-clause-rest : goal.returns-clause-rest
returns-clause-rest c =
    let none : eat_key keys.Const (placed c.loop-after.rest.now) ≡ None = search rules in
    (count_end _ _ _ _ none c.loop-after.invariant.0).1
