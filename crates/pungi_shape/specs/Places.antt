-- The places of the affine program of a code.
--   Place                   a place at an entry, before the first instruction; at a point, under a shape; and where a
--                           called function has left by an exit, under a shape and its exit class
--   numbers_of_point p, numbers_of_place q    0 at an entry; 1 at a point and then the instruction, the parts done and
--                           the outcome. Then comes the exit class, and the shape last
--   place_cmp q r           places in the order of these lists
--   is_place q r            two places are one
--   instr_in q              the instruction of a place
--   entry_width s           how many coordinates vectors at an entry have: the leading one, and the numbers at entry
--   width_at q              how many they have at a place
--   with_first h ls         these lists, each with one more in front
--   values_at_entry t ks    what parameters of these kinds may hold, whose objects have the tokens from t on: an object
--                           or text may be NULL, and each other object has a token of its own
--   tokens_from t ks        these static objects, with the tokens from t on
--   first_point             the point before the first instruction
--   whole_entry_shape, entry_shape statics code hs    the shape where a function is entered with these values: of all
--                           variables; without temporaries that aren't live
--   entry_shapes statics code    those of all values
use Rattle.std.specs.Prelude.{ℕ, ◌+◌, ◌-◌, Bool, false, List, [], ◌∷◌, ◌++◌, length, map, replicate, take}
use Rattle.std.specs.Prelude.{if◌then◌else◌}
use Rattle.std.specs.Ordering.{nat_cmp, is_eq}
use Rattle.std.specs.declared.cmp.Ordering.{Ordering}
use Rattle.std.specs.Cmp.Lexicographic.{slice_cmp}
use Rattle.pungi_api.specs.declared.param.Param.{Param}
use Rattle.pungi_code.specs.declared.code.Code.{Code}
use Rattle.pungi_code.specs.WellFormed.{is_integer, is_object}
use Rattle.pungi_shape.specs.declared.holding.Holding.{Holding}
use Rattle.pungi_shape.specs.declared.holding.Holding.TheVariants.{Dead, Unset, Null, Text, Number, Token}
pub use Rattle.pungi_shape.specs.declared.place.Place.{Place}
pub use Rattle.pungi_shape.specs.declared.place.Place.TheVariants.{AtEntry as at_entry, AtPoint as at_point}
pub use Rattle.pungi_shape.specs.declared.place.Place.TheVariants.{AfterCall as after_call}
use Rattle.pungi_shape.specs.declared.point.Point.{Point}
use Rattle.pungi_shape.specs.declared.shape.Shape.{Shape}
use Rattle.pungi_shape.specs.Shapes.{numbers_of_shape, count_of_numbers, tokens_in, width_of}
use Rattle.pungi_shape.specs.Arrivals.{trim}

abbrev pub numbers_of_point : Point → List ℕ
numbers_of_point p = 1 ∷ p.instr ∷ p.done ∷ p.class ∷ []

abbrev pub numbers_of_place : Place → List (List ℕ)
numbers_of_place (at_entry s) = (0 ∷ []) ∷ [] ∷ numbers_of_shape s ∷ []
numbers_of_place (at_point p s) = numbers_of_point p ∷ [] ∷ numbers_of_shape s ∷ []
numbers_of_place (after_call p s e) = numbers_of_point p ∷ numbers_of_shape e ∷ numbers_of_shape s ∷ []

abbrev pub place_cmp : Place → Place → Ordering
place_cmp q r = slice_cmp (slice_cmp nat_cmp) (numbers_of_place q) (numbers_of_place r)

abbrev pub is_place : Place → Place → Bool
is_place q r = is_eq (place_cmp q r)

abbrev pub instr_in : Place → ℕ
instr_in (at_entry s) = 0
instr_in (at_point p s) = p.instr
instr_in (after_call p s e) = p.instr

abbrev pub entry_width : Shape → ℕ
entry_width s = 1 + count_of_numbers s.entry

abbrev pub width_at : Place → ℕ
width_at (at_entry s) = entry_width s
width_at (at_point p s) = width_of s
width_at (after_call p s e) = width_of s + width_of e

-- ---- entries

abbrev pub with_first : Holding → List (List Holding) → List (List Holding)
with_first h ls = map (λ hs. h ∷ hs) ls

abbrev pub values_at_entry : ℕ → List Param → List (List Holding)
values_at_entry t [] = [] ∷ []
values_at_entry t (k ∷ ks) =
    if is_integer k then with_first Number (values_at_entry t ks) else
    (if is_object k then with_first Null (values_at_entry t ks)
    ++ with_first (Token t) (values_at_entry (t + 1) ks) else with_first Null (values_at_entry t ks)
    ++ with_first Text (values_at_entry t ks))

abbrev pub tokens_from : ℕ → List ℕ → List (ℕ × Holding)
tokens_from t [] = []
tokens_from t (k ∷ ks) = (k, Token t) ∷ tokens_from (t + 1) ks

abbrev pub first_point : Point
first_point = record { instr = 0; done = 0; class = 0 }

abbrev pub whole_entry_shape : List ℕ → Code → List Holding → Shape
whole_entry_shape statics code hs = record {
  entry = hs;
  vars = hs ++ replicate (length code.vars - length hs) Unset;
  statics = tokens_from (length (tokens_in hs)) statics;
  returned = Dead;
  slots = [];
  made = replicate (length (tokens_in hs) + length statics) false;
}

abbrev pub entry_shape : List ℕ → Code → List Holding → Shape
entry_shape statics code hs = trim code first_point (whole_entry_shape statics code hs)

abbrev pub entry_shapes : List ℕ → Code → List Shape
entry_shapes statics code = map (entry_shape statics code) (values_at_entry 0 (take code.params code.vars))
