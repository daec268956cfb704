-- What is known at a step of a run.
--   count k                    how many tokens there are
--   mark_of k t, variable k x  what is known of a token; what a variable holds
--   term_of k a                what an atom stands for
--   known_value k x            the value of a term as far as it is known; an object is any one
--   number k x                 a term as a number
--   object_mark, object_of     the token that is known to be an object, of a mark; of a term
--   sum_of_mark, sum_in            the number that a token stands for, as a sum; the one that a term stands for
--   number_in x                the number that a term is
--   no_slot, slot_note         the touched slot at a place, and what stands where none is
--   is_global, is_field        a touched slot is this global, or this field of some object
--   base_of s                  the token of the base of a field
--   at_place, ask_made, ask_base, seek   the search for the field of a base, as far as it came: among the touched
--                              slots, then among the objects that were made
--   find_token, find_field, find    where the slot of an instruction is: of a token, of a term, of a place
--   held_in k f                what the slot that was found holds; of an object that was made it holds nothing before
--                              it is written
--   token_in, spot_of          the slot of a place, with the token of its base
use Rattle.std.specs.Prelude.{ℕ, ◌+◌, ◌-◌, ◌==◌, nat_lt, if◌then◌else◌, ℤ, pos, Bool, false, ◌&&◌, List, length}
use Rattle.std.specs.Prelude.{drop, position, Option, Some, None}
use Rattle.std.specs.Prelude.{get_or}
use Rattle.pungi_base.specs.declared.names.Name.{Name}
use Rattle.pungi_base.specs.declared.value.Value.{Value}
use Rattle.pungi_base.specs.declared.value.Value.TheVariants as value
use Rattle.pungi_meaning.specs.Values.{number_of}
use Rattle.pungi_code.specs.declared.atom.Atom.{Atom}
use Rattle.pungi_code.specs.declared.atom.Atom.TheVariants as atom
use Rattle.pungi_code.specs.declared.place.Place.{Place}
use Rattle.pungi_code.specs.declared.place.Place.TheVariants as places
use Rattle.pungi_symbol.specs.declared.answers.decision.Decision.TheVariants.{Quiet}
use Rattle.pungi_symbol.specs.declared.questions.found_slot.Finding.{Finding}
use Rattle.pungi_symbol.specs.declared.questions.found_slot.Finding.TheVariants.{Waits, At, OfMade, Nowhere}
use Rattle.pungi_symbol.specs.declared.states.known.Known.{Known}
use Rattle.pungi_symbol.specs.declared.states.mark.Mark.{Mark}
use Rattle.pungi_symbol.specs.declared.states.mark.Mark.TheVariants.{Pointer, TextPointer, IsNull, IsObject, IsText}
use Rattle.pungi_symbol.specs.declared.states.mark.Mark.TheVariants.{IsNumber, IsConverted, Integer}
use Rattle.pungi_symbol.specs.declared.questions.question.Question.TheVariants as asks
use Rattle.pungi_symbol.specs.declared.states.node.Node.TheVariants as nodes
use Rattle.pungi_symbol.specs.declared.states.spot.Progress.{Progress}
use Rattle.pungi_symbol.specs.declared.states.spot.Progress.TheVariants.{Looking, Found}
use Rattle.pungi_symbol.specs.declared.states.spot.Spot.{Spot}
use Rattle.pungi_symbol.specs.declared.states.spot.Spot.TheVariants.{Global, Field}
use Rattle.pungi_symbol.specs.declared.states.spot.Touched.{Touched}
use Rattle.pungi_symbol.specs.declared.states.sum.Sum.{Sum as SumOf}
use Rattle.pungi_symbol.specs.declared.states.term.Term.{Term}
use Rattle.pungi_symbol.specs.declared.states.term.Term.TheVariants.{Unset, Null, Text, Number, Token, Sum}
use Rattle.pungi_symbol.specs.states.Terms.{value_of_mark}

abbrev pub count : Known → ℕ
count k = length k.marks

abbrev pub mark_of : Known → ℕ → Mark
mark_of k t = get_or k.marks t IsNull

abbrev pub variable : Known → ℕ → Term
variable k x = get_or k.vars x Unset

abbrev pub term_of : Known → Atom → Term
term_of k (atom.Var x) = variable k x.0
term_of k (atom.Int n) = Number n
term_of k atom.Null = Null
term_of k atom.Text = Text
term_of k (atom.Static n) = Token n

abbrev pub known_value : Known → Term → Value
known_value k Unset = value.Null
known_value k Null = value.Null
known_value k Text = value.Text
known_value k (Number n) = value.Int n
known_value k (Token t) = value_of_mark (mark_of k t)
known_value k (Sum s) = value.Int (pos 0)

abbrev pub number : Known → Term → ℤ
number k x = number_of (known_value k x)

abbrev pub object_mark : Mark → ℕ → Option ℕ
object_mark Pointer t = None
object_mark TextPointer t = None
object_mark IsNull t = None
object_mark IsObject t = Some t
object_mark IsText t = None
object_mark (IsNumber n) t = None
object_mark (IsConverted n) t = None
object_mark (Integer r) t = None

abbrev pub object_of : Known → Term → Option ℕ
object_of k Unset = None
object_of k Null = None
object_of k Text = None
object_of k (Number n) = None
object_of k (Token t) = object_mark (mark_of k t) t
object_of k (Sum s) = None

abbrev pub number_in : Term → Option ℤ
number_in Unset = None
number_in Null = None
number_in Text = None
number_in (Number n) = Some n
number_in (Token t) = None
number_in (Sum s) = None

abbrev pub sum_of_mark : Mark → ℕ → Option SumOf
sum_of_mark Pointer t = None
sum_of_mark TextPointer t = None
sum_of_mark IsNull t = None
sum_of_mark IsObject t = None
sum_of_mark IsText t = None
sum_of_mark (IsNumber n) t = None
sum_of_mark (IsConverted n) t = None
sum_of_mark (Integer r) t = Some (record { node = nodes.Token t; plus = pos 0 })

abbrev pub sum_in : Known → Term → Option SumOf
sum_in k Unset = None
sum_in k Null = None
sum_in k Text = None
sum_in k (Number n) = Some (record { node = nodes.Zero; plus = n })
sum_in k (Token t) = sum_of_mark (mark_of k t) t
sum_in k (Sum s) = Some s

-- ---- slots

abbrev pub no_slot : Touched
no_slot = record { spot = Global (record { 0 = 0 }); at_entry = Unset; held = Unset }

abbrev pub slot_note : List Touched → ℕ → Touched
slot_note slots i = get_or slots i no_slot

abbrev pub is_global : Name → Spot → Bool
is_global n (Global m) = m.0 == n.0
is_global n (Field t tag field) = false

abbrev pub is_field : Name → Name → Spot → Bool
is_field tag field (Global m) = false
is_field tag field (Field t u f) = (u.0 == tag.0) && (f.0 == field.0)

abbrev pub base_of : Spot → ℕ
base_of (Global m) = 0
base_of (Field t tag field) = t

abbrev pub at_place : Option ℕ → Finding
at_place None = Nowhere
at_place (Some i) = At i

-- the places after those of the touched slots are those of the objects that were made
abbrev pub ask_made : ℕ → ℕ → ℕ → List ℕ → Finding
ask_made t slots j made = if nat_lt j (length made) then Waits (asks.Base t (get_or made j 0) (slots + j)) else Nowhere

abbrev pub ask_base : ℕ → ℕ → List Touched → List ℕ → Option ℕ → Finding
ask_base t c slots made None = ask_made t (length slots) (c - length slots) made
ask_base t c slots made (Some j) = Waits (asks.Base t (base_of (slot_note slots (c + j)).spot) (c + j))

abbrev pub seek : Progress → ℕ → Name → Name → List Touched → List ℕ → Finding
seek (Found i) t tag field slots made = if nat_lt i (length slots) then At i else OfMade
seek (Looking c) t tag field slots made =
    ask_base t c slots made (position (λ s. is_field tag field s.spot) (drop c slots))

-- the base of a field is an object; to read through another stops
abbrev pub find_token : Known → ℕ → Mark → Name → Name → Finding
find_token k t Pointer tag field = Waits (asks.Null t)
find_token k t TextPointer tag field = Waits (asks.Null t)
find_token k t IsNull tag field = Waits (asks.Stops Quiet)
find_token k t IsObject tag field = seek k.progress t tag field k.slots k.made
find_token k t IsText tag field = Waits (asks.Stops Quiet)
find_token k t (IsNumber n) tag field = Waits (asks.Stops Quiet)
find_token k t (IsConverted n) tag field = Waits (asks.Stops Quiet)
find_token k t (Integer r) tag field = Waits (asks.Stops Quiet)

abbrev pub find_field : Known → Term → Name → Name → Finding
find_field k Unset tag field = Waits (asks.Stops Quiet)
find_field k Null tag field = Waits (asks.Stops Quiet)
find_field k Text tag field = Waits (asks.Stops Quiet)
find_field k (Number n) tag field = Waits (asks.Stops Quiet)
find_field k (Token t) tag field = find_token k t (mark_of k t) tag field
find_field k (Sum s) tag field = Waits (asks.Stops Quiet)

abbrev pub find : Known → Place → Finding
find k (places.Global n kind) = at_place (position (λ s. is_global n s.spot) k.slots)
find k (places.Field base tag field kind) = find_field k (term_of k base) tag field

abbrev pub held_in : Known → Finding → Term
held_in k (At i) = (slot_note k.slots i).held
held_in k f = Unset

-- a slot as an instruction reaches it, before it was touched
abbrev pub token_in : Term → ℕ
token_in Unset = 0
token_in Null = 0
token_in Text = 0
token_in (Number n) = 0
token_in (Token t) = t
token_in (Sum s) = 0

abbrev pub spot_of : Known → Place → Spot
spot_of k (places.Global n kind) = Global n
spot_of k (places.Field base tag field kind) = Field (token_in (term_of k base)) tag field
