use Rattle.std.proofs.Common.{◌≡◌, None, sym, arith, rules}
use Rattle.pungi_parse.specs.tokens.OneToken.{eat_listed}
use Rattle.pungi_tree.specs.Operators.{is_qualifier}
use Rattle.pungi_tree.specs.Placed.{placed}
use Rattle.pungi_parse.proofs.tokens.WordLoops.{keywords_turn, keywords_end, read_turn, read_end}
use Rattle.pungi_parse.proofs.tokens.words.qualifiers.Goals as goal

pub loop-key-preserved : goal.loop-key-preserved
loop-key-preserved c = (
  rw c.in_ok-push.ensures.items (read_turn _ _ _ _ _ _ _ (keywords_turn is_qualifier _ _
      (sym c.in-Some.ensures.token)) c.loop-key.invariant.0),
  omega (arith, c.in-Some.ensures.shorter),
)

pub returns-clause-keys : goal.returns-clause-keys
returns-clause-keys c =
    let none : eat_listed is_qualifier (placed c.loop-key.rest.now) ≡ None = search rules in
    (read_end _ _ _ _ _ (keywords_end is_qualifier _ none) c.loop-key.invariant.0).items

pub returns-clause-rest : goal.returns-clause-rest
returns-clause-rest c =
    let none : eat_listed is_qualifier (placed c.loop-key.rest.now) ≡ None = search rules in
    (read_end _ _ _ _ _ (keywords_end is_qualifier _ none) c.loop-key.invariant.0).left
