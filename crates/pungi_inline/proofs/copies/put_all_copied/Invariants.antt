use Rattle.std.proofs.Common.{◌≡◌, ◌++◌, drop}
use Rattle.std.specs.List.{flat_map}
use Rattle.pungi_inline.specs.Copies.{copied_line}
use Rattle.pungi_inline.specs.Places.{place_in}
use Rattle.pungi_inline.proofs.copies.put_all_copied.Given as goal

abbrev pub invariant-loop-line : goal.invariant-loop-line
invariant-loop-line l =
    l.out.items ++ flat_map (copied_line l.window (place_in l.places.starts.items) l.result_var l.end)
    (drop l.line-index l.lines)
    ≡ l.initial.out.items ++ flat_map (copied_line l.window (place_in l.places.starts.items) l.result_var l.end) l.lines
