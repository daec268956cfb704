use Rattle.std.proofs.Common.{◌≡◌, ◌≤◌, drop}
use Rattle.pungi_parse.specs.Units.{too_deep}
use Rattle.pungi_tree.specs.Placed.{placed}
use Rattle.pungi_parse.proofs.tokens.open_brackets.first_deep.Given as goal

abbrev pub invariant-loop-token : goal.invariant-loop-token
invariant-loop-token l =
    (l.open ≤ 64) × (too_deep l.open (placed (drop l.token-index l.tokens)) ≡ too_deep 0 (placed l.tokens))
