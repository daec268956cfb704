use Rattle.std.proofs.Common.{◌≡◌, ◌++◌, drop}
use Rattle.pungi_tree.specs.Tokens.{stars_flat}
use Rattle.pungi_spelling.proofs.tokens.put_stars.Given as goal

abbrev pub invariant-loop-star : goal.invariant-loop-star
invariant-loop-star l = l.out.items ++ stars_flat (drop l.star-index l.stars) ≡ l.fn.out.items ++ stars_flat l.stars
