use Rattle.std.proofs.Common.{◌≡◌, ◌++◌, drop}
use Rattle.pungi_inline.specs.Sites.{body_sizes}
use Rattle.pungi_inline.proofs.sites.body_sizes.Given as goal

abbrev pub invariant-loop-line : goal.invariant-loop-line
invariant-loop-line l = l.sizes.items ++ body_sizes (drop l.line-index l.lines) ≡ body_sizes l.lines
