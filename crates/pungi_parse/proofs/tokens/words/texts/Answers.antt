use Rattle.std.proofs.Common.{◌≡◌, None, sym, arith, rules}
use Rattle.pungi_parse.specs.tokens.OneToken.{eat_text}
use Rattle.pungi_tree.specs.Placed.{placed}
use Rattle.pungi_parse.proofs.tokens.WordLoops.{texts_turn, texts_end, read_turn, read_end}
use Rattle.pungi_parse.proofs.tokens.words.texts.Goals as goal

pub loop-name-preserved : goal.loop-name-preserved
loop-name-preserved c = (
  rw c.in_ok-push.ensures.items (read_turn _ _ _ _ _ _ _ (texts_turn _ _ (sym c.in-Some.ensures.token))
      c.loop-name.invariant.0),
  omega (arith, c.in-Some.ensures.shorter, c.in_ok-push.ensures.len),
)

pub returns-clause-names : goal.returns-clause-names
returns-clause-names c =
    let none : eat_text (placed c.loop-name.rest.now) ≡ None = search rules in
    (read_end _ _ _ _ _ (texts_end _ none) c.loop-name.invariant.0).items

pub returns-clause-rest : goal.returns-clause-rest
returns-clause-rest c =
    let none : eat_text (placed c.loop-name.rest.now) ≡ None = search rules in
    (read_end _ _ _ _ _ (texts_end _ none) c.loop-name.invariant.0).left
