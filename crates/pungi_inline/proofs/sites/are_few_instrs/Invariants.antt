use Rattle.std.proofs.Common.{◌≡◌, ◌+◌, ◌≤◌, drop}
use Rattle.pungi_code.specs.Limits.{most_instructions}
use Rattle.pungi_inline.specs.Sites.{total, line_sizes}
use Rattle.pungi_inline.proofs.sites.are_few_instrs.Given as goal

abbrev pub invariant-loop-line : goal.invariant-loop-line
invariant-loop-line l = record {
  sum : l.left + total (line_sizes l.codes l.lines)
      ≡ most_instructions + total (line_sizes l.codes (drop l.line-index l.lines));
  few : l.left ≤ most_instructions;
}
