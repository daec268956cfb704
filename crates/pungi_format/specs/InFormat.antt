-- The formats of `PyArg_ParseTuple` (Python/C API Reference Manual 3.11, 'Parsing arguments and building values').
--   object_byte, typed_byte, bar_byte, name_byte, message_byte
--                                  the bytes `O`, `!`, `|`, `:` and `;`
--   ends_units b                   `:` and `;` end the units; what follows is free text
--   in_letter b                    the unit that a byte alone spells
--   unit_before b bs               the unit that a byte begins before these: `O!` is one unit
--   units_of text                  the units of a text, one after another
--   required_of text               how many units stand before the bar, or all where there is no bar
--   has_bar text                   whether a bar stands in the text
--   is_typed before                whether an `O` stands directly before
--   in_rule before b               what is wrong with a byte after these: a second bar, a `!` that isn't after an `O`,
--                                  or no unit
--   units_fault, in_fault text     the first fault of the part that has the units, and of a format
--   units_format, in_format text   the units of that part, and of a format, where no fault is
--   ReadsUnits text result         the answer for the part of a format that has its units
--   Parses text result             the answer for a format: its units, or its first fault
use Rattle.std.specs.Prelude.{◌≡◌, ℕ, ◌+◌, ◌-◌, ◌==◌, Bool, ◌&&◌, ◌||◌, List, [], ◌∷◌, ◌++◌, length, slice_index}
use Rattle.std.specs.Prelude.{Option, None, Some, is_some, if◌then◌else◌, Result, Ok, Err, codes}
use Rattle.std.specs.Option.{option_to_list}
use Rattle.std.specs.List.{before_first, list_any}
use Rattle.pungi_format.specs.declared.in_unit.InUnit.{InUnit}
use Rattle.pungi_format.specs.declared.in_unit.InUnit.TheVariants as unit
use Rattle.pungi_format.specs.declared.in_format.InFormat.{InFormat}
use Rattle.pungi_format.specs.declared.format_fault.FormatFault.{FormatFault}
use Rattle.pungi_format.specs.declared.format_fault.FormatFault.TheVariants as fault
use Rattle.pungi_format.specs.FormatFault.{first_fault, is_among}

abbrev pub object_byte : ℕ
object_byte = 79

abbrev pub typed_byte : ℕ
typed_byte = 33

abbrev pub bar_byte : ℕ
bar_byte = 124

abbrev pub name_byte : ℕ
name_byte = 58

abbrev pub message_byte : ℕ
message_byte = 59

abbrev pub ends_units : ℕ → Bool
ends_units b = b == name_byte || b == message_byte

abbrev pub in_letter : ℕ → Option InUnit
in_letter b =
    if is_among (codes "OSU") b then Some unit.Object
    else if is_among (codes "i") b then Some unit.Int
    else if is_among (codes "l") b then Some unit.Long
    else if is_among (codes "n") b then Some unit.Size
    else if is_among (codes "p") b then Some unit.Truth
    else if is_among (codes "s") b then Some unit.Text
    else if is_among (codes "z") b then Some unit.TextOrNull
    else None

abbrev pub unit_before : ℕ → List ℕ → Option InUnit
unit_before b bs = if b == object_byte && (slice_index bs 0 == typed_byte) then Some unit.ObjectOf else in_letter b

abbrev pub units_of : List ℕ → List InUnit
units_of [] = []
units_of (b ∷ bs) = option_to_list (unit_before b bs) ++ units_of bs

abbrev pub required_of : List ℕ → ℕ
required_of [] = 0
required_of (b ∷ bs) = if b == bar_byte then 0 else length (option_to_list (unit_before b bs)) + required_of bs

abbrev pub has_bar : List ℕ → Bool
has_bar text = list_any (λ b. b == bar_byte) text

abbrev pub is_typed : List ℕ → Bool
is_typed before = slice_index before (length before - 1) == object_byte

abbrev pub in_rule : List ℕ → ℕ → Option FormatFault
in_rule before b =
    if b == bar_byte then (if has_bar before then Some (fault.Order (length before)) else None)
    else if b == typed_byte then (if is_typed before then None else Some (fault.UnknownUnit (length before)))
    else if is_some (in_letter b) then None else Some (fault.UnknownUnit (length before))

abbrev pub units_fault : List ℕ → Option FormatFault
units_fault text = first_fault in_rule text

abbrev pub units_format : List ℕ → InFormat
units_format text = record { units = units_of text; required = required_of text }

abbrev pub ReadsUnits : List ℕ → Result InFormat FormatFault → Type 0
ReadsUnits text (Ok format) = (units_fault text ≡ None) × (format ≡ units_format text)
ReadsUnits text (Err fault.Memory) = Unit {0}
ReadsUnits text (Err f) = units_fault text ≡ Some f

abbrev pub in_fault : List ℕ → Option FormatFault
in_fault text = units_fault (before_first ends_units text)

abbrev pub in_format : List ℕ → InFormat
in_format text = units_format (before_first ends_units text)

abbrev pub Parses : List ℕ → Result InFormat FormatFault → Type 0
Parses text (Ok format) = (in_fault text ≡ None) × (format ≡ in_format text)
Parses text (Err fault.Memory) = Unit {0}
Parses text (Err f) = in_fault text ≡ Some f
