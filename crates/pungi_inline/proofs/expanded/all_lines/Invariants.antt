use Rattle.std.proofs.Common.{◌≡◌, ◌+◌, ◌≤◌, ◌++◌, drop}
use Rattle.pungi_code.specs.Limits.{most_instructions, most_variables}
use Rattle.pungi_inline.specs.Inlined.{all_lines}
use Rattle.pungi_inline.specs.Places.{place_in}
use Rattle.pungi_inline.specs.Sites.{total, line_sizes, window_sizes}
use Rattle.pungi_inline.proofs.expanded.all_lines.Given as goal

abbrev pub invariant-loop-line : goal.invariant-loop-line
invariant-loop-line l = record {
  lines :
      l.out.items ++ all_lines l.codes (place_in l.places.starts.items) l.window l.at (drop l.line-index l.lines)
      ≡ all_lines l.codes (place_in l.places.starts.items) l.first_window 0 l.lines;
  instrs : l.at + total (line_sizes l.codes (drop l.line-index l.lines)) ≤ most_instructions;
  vars : l.window + total (window_sizes l.codes (drop l.line-index l.lines)) ≤ most_variables;
}
