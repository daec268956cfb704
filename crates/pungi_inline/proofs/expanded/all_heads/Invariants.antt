use Rattle.std.proofs.Common.{◌≡◌, ◌+◌, ◌≤◌, ◌++◌, drop}
use Rattle.pungi_code.specs.Limits.{most_instructions}
use Rattle.pungi_inline.specs.Inlined.{all_heads}
use Rattle.pungi_inline.specs.Sites.{total, line_sizes}
use Rattle.pungi_inline.proofs.expanded.all_heads.Given as goal

abbrev pub invariant-loop-line : goal.invariant-loop-line
invariant-loop-line l = record {
  heads : l.out.items ++ all_heads l.codes l.at (drop l.line-index l.lines)
      ≡ l.initial.out.items ++ all_heads l.codes 0 l.lines;
  instrs : l.at + total (line_sizes l.codes (drop l.line-index l.lines)) ≤ most_instructions;
}
