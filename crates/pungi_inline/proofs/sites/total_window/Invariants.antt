use Rattle.std.proofs.Common.{◌≡◌, ◌+◌, ◌≤◌, min, drop}
use Rattle.pungi_inline.specs.Moved.{largest_number}
use Rattle.pungi_inline.specs.Sites.{total, window_sizes}
use Rattle.pungi_inline.proofs.sites.total_window.Given as goal

abbrev pub invariant-loop-line : goal.invariant-loop-line
invariant-loop-line l = record {
  sum : min (l.size + total (window_sizes l.codes (drop l.line-index l.lines))) largest_number
      ≡ min (total (window_sizes l.codes l.lines)) largest_number;
  fits : l.size ≤ largest_number;
}
