use Rattle.std.proofs.Common.{◌≡◌, ◌+◌, ◌≤◌, min, drop}
use Rattle.pungi_inline.specs.Moved.{largest_number}
use Rattle.pungi_inline.specs.Sites.{total, body_sizes}
use Rattle.pungi_inline.proofs.sites.body_size.Given as goal

abbrev pub invariant-loop-line : goal.invariant-loop-line
invariant-loop-line l = record {
  sum : min (l.size + total (body_sizes (drop l.line-index l.lines))) largest_number
      ≡ min (total (body_sizes l.lines)) largest_number;
  fits : l.size ≤ largest_number;
}
