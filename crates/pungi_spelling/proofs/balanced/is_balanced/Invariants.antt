use Rattle.std.proofs.Common.{◌≡◌, [], length}
use Rattle.pungi_tree.specs.Balanced.{closes}
use Rattle.pungi_spelling.proofs.balanced.is_balanced.Given as goal

abbrev pub decreases-loop-token : goal.decreases-loop-token
decreases-loop-token l = length l.rest

abbrev pub invariant-loop-token : goal.invariant-loop-token
invariant-loop-token l = closes l.rest [] ≡ closes l.tokens []
