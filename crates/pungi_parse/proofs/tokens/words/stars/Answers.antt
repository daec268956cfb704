use Rattle.std.proofs.Common.{◌≡◌, None, sym, arith, rules}
use Rattle.pungi_parse.specs.tokens.OneToken.{eat}
use Rattle.pungi_base.specs.declared.punct.Punct.TheVariants as puncts
use Rattle.pungi_tree.specs.Placed.{placed}
use Rattle.pungi_parse.proofs.tokens.WordLoops.{stars_turn, stars_end, read_turn, read_end}
use Rattle.pungi_parse.proofs.tokens.words.stars.Goals as goal

pub loop-after-preserved : goal.loop-after-preserved
loop-after-preserved c = (
  rw (c.in_ok-push.ensures.items, c.in_ok-count.ensures.count, c.in_ok-count.ensures.rest)
      (read_turn _ _ _ _ _ _ _ (stars_turn _ _ (sym c.in-Some.ensures.token)) c.loop-after.invariant.0),
  omega (arith, c.in-Some.ensures.shorter, c.in_ok-count.ensures.shorter),
)

pub returns-clause-counts : goal.returns-clause-counts
returns-clause-counts c =
    let none : eat puncts.Star (placed c.loop-after.rest.now) ≡ None = search rules in
    (read_end _ _ _ _ _ (stars_end _ none) c.loop-after.invariant.0).items

pub returns-clause-rest : goal.returns-clause-rest
returns-clause-rest c =
    let none : eat puncts.Star (placed c.loop-after.rest.now) ≡ None = search rules in
    (read_end _ _ _ _ _ (stars_end _ none) c.loop-after.invariant.0).left
