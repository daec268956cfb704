-- The formats of `Py_BuildValue` (Python/C API Reference Manual 3.11, 'Parsing arguments and building values').
--   out_letter b                 the unit that a byte spells
--   closing_by os cs b           the byte that closes b, where those of the second list close those of the first
--   closing_of b                 the byte that closes an opening bracket
--   is_closing b, is_blank b     a closing bracket; a byte that is passed over
--   is_closed groups b           whether a closing bracket matches the one that was opened last
--   opened closing at groups b   the groups that are open after one more byte, which this one closes if it opens
--   open_after at groups text    the groups that are open after a text that begins at a place, where these were open:
--                                the last one first
--   open_in text                 the groups that are open after a text
--   out_rule before b            what is wrong with a byte after these: a closing bracket that matches no open one, or
--                                no unit
--   left_open groups             the last open bracket, where one is open at the end
--   out_fault text               the first fault of a format
--   out_units text               the units of a text
--   Closes groups b new result   an answer of whether a closing bracket matches; if so, its open one is gone
--   Builds text result           the answer for a format: its units, or its first fault
use Rattle.std.specs.Prelude.{◌≡◌, ℕ, ◌+◌, ◌==◌, Bool, true, false, ◌||◌, List, [], ◌∷◌, length, drop, Option, None}
use Rattle.std.specs.Prelude.{Some, is_some, if◌then◌else◌, Result, Ok, Err, codes, Vec}
use Rattle.std.specs.Option.{option_or}
use Rattle.std.specs.List.{filter_map}
use Rattle.std.specs.declared.alloc.Global.{Global}
use Rattle.pungi_format.specs.declared.out_unit.OutUnit.{OutUnit}
use Rattle.pungi_format.specs.declared.out_unit.OutUnit.TheVariants as unit
use Rattle.pungi_format.specs.declared.out_format.Group.{Group}
use Rattle.pungi_format.specs.declared.format_fault.FormatFault.{FormatFault}
use Rattle.pungi_format.specs.declared.format_fault.FormatFault.TheVariants as fault
use Rattle.pungi_format.specs.FormatFault.{first_fault, is_among}

abbrev pub out_letter : ℕ → Option OutUnit
out_letter b =
    if is_among (codes "OS") b then Some unit.Keep
    else if is_among (codes "N") b then Some unit.Take
    else if is_among (codes "i") b then Some unit.Int
    else if is_among (codes "l") b then Some unit.Long
    else if is_among (codes "n") b then Some unit.Size
    else if is_among (codes "sz") b then Some unit.TextOrNull
    else None

abbrev pub closing_by : List ℕ → List ℕ → ℕ → Option ℕ
closing_by (o ∷ os) (c ∷ cs) b = if b == o then Some c else closing_by os cs b
closing_by _ _ b = None

abbrev pub closing_of : ℕ → Option ℕ
closing_of b = closing_by (codes "([{") (codes ")]}") b

abbrev pub is_closing : ℕ → Bool
is_closing b = is_among (codes ")]}") b

abbrev pub is_blank : ℕ → Bool
is_blank b = is_among (codes " \t,:") b

abbrev pub is_closed : List Group → ℕ → Bool
is_closed [] b = false
is_closed (g ∷ gs) b = g.closing == b

abbrev pub opened : Option ℕ → ℕ → List Group → ℕ → List Group
opened (Some c) at groups b = record { place = at; closing = c } ∷ groups
opened None at groups b = if is_closing b then drop 1 groups else groups

abbrev pub open_after : ℕ → List Group → List ℕ → List Group
open_after at groups [] = groups
open_after at groups (b ∷ bs) = open_after (at + 1) (opened (closing_of b) at groups b) bs

abbrev pub open_in : List ℕ → List Group
open_in text = open_after 0 [] text

abbrev pub out_rule : List ℕ → ℕ → Option FormatFault
out_rule before b =
    if is_closing b then (if is_closed (open_in before) b then None else Some (fault.Unbalanced (length before)))
    else if is_some (out_letter b) || is_some (closing_of b) || is_blank b then None
    else Some (fault.UnknownUnit (length before))

abbrev pub left_open : List Group → Option FormatFault
left_open [] = None
left_open (g ∷ gs) = Some (fault.Unbalanced g.place)

abbrev pub out_fault : List ℕ → Option FormatFault
out_fault text = option_or (first_fault out_rule text) (left_open (open_in text))

abbrev pub out_units : List ℕ → List OutUnit
out_units text = filter_map out_letter text

abbrev pub Closes : List Group → ℕ → List Group → Bool → Type 0
Closes groups b new true = (is_closed groups b ≡ true) × (new ≡ drop 1 groups)
Closes groups b new false = is_closed groups b ≡ false

abbrev pub Builds : List ℕ → Result (Vec OutUnit Global) FormatFault → Type 0
Builds text (Ok units) = (out_fault text ≡ None) × (units.items ≡ out_units text)
Builds text (Err fault.Memory) = Unit {0}
Builds text (Err f) = out_fault text ≡ Some f
