-- Where a path computes and compares numbers that are no sums of a token and a constant. It is reported by the first
-- place in the text at which it compares such a number; where it compares none, by the first at which it computes one.
--   is_earlier p q              a place is before another one in the text
--   earliest seen p             the earlier one of a place that was seen, and this one
--   no_places                   nothing was seen
--   with_computed, with_compared ps p    one more place
--   first_of_two, place_among ps    the place by which the path is reported
use Rattle.std.specs.Prelude.{◌==◌, nat_lt, Bool, ◌&&◌, ◌||◌, Option, Some, None, if◌then◌else◌}
use Rattle.pungi_base.specs.declared.pos.Pos.{Pos}
use Rattle.pungi_meaning.specs.Run.{nowhere}
use Rattle.pungi_symbol.specs.declared.states.number_places.NumberPlaces.{NumberPlaces}

abbrev pub is_earlier : Pos → Pos → Bool
is_earlier p q = nat_lt p.line q.line || ((p.line == q.line) && nat_lt p.col q.col)

abbrev pub earliest : Option Pos → Pos → Pos
earliest None p = p
earliest (Some q) p = if is_earlier p q then p else q

abbrev pub no_places : NumberPlaces
no_places = record { compared = None; computed = None }

abbrev pub with_computed : NumberPlaces → Pos → NumberPlaces
with_computed ps p = record ps { computed = Some (earliest ps.computed p) }

abbrev pub with_compared : NumberPlaces → Pos → NumberPlaces
with_compared ps p = record ps { compared = Some (earliest ps.compared p) }

abbrev pub first_of_two : Option Pos → Option Pos → Pos
first_of_two (Some p) q = p
first_of_two None (Some q) = q
first_of_two None None = nowhere

abbrev pub place_among : NumberPlaces → Pos
place_among ps = first_of_two ps.compared ps.computed
