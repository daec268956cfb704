use Rattle.std.proofs.Common.{◌≡◌, ◌≤◌, ◌++◌, drop}
use Rattle.pungi_code.specs.Limits.{most_instructions}
use Rattle.pungi_inline.specs.Sites.{total, line_sizes}
use Rattle.pungi_inline.proofs.sites.line_sizes.Given as goal

abbrev pub invariant-loop-line : goal.invariant-loop-line
invariant-loop-line l = record {
  sizes : l.sizes.items ++ line_sizes l.codes (drop l.line-index l.lines) ≡ line_sizes l.codes l.lines;
  few : total (line_sizes l.codes (drop l.line-index l.lines)) ≤ most_instructions;
}
