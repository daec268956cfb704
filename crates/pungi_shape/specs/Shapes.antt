-- Shapes, as lists of numbers. Holders stand in this order: the parameters' values at entry, the variables, the static
-- objects, the returned value, the slots.
--   holding_of_number n     what holds the number n
--   is_number h, is_token t h    a holder holds a number; the token t
--   token_in h, tokens_in hs    the token that is held, if one is; those of several holders, in order
--   rename_holding, rename_spot, rename_tracked g    the same under other token numbers
--   rename g s              a shape under other token numbers; the marks of made objects stay as they are
--   numbers_of_known n      3, and the sign and the size of a known number
--   numbers_of_holding h    0 for unset, 1 for NULL, 2 for a text, three for a known number, 6 for another number, 7
--                           for what isn't a holder, 8 + t for the token t
--   numbers_of_spot s       0 and the name of a global; 1 and the base, the tag and the name of a field
--   numbers_of_tracked r    these, and then that of what the slot holds
--   holding_of_static k, holding_of_slot r    what the name of a static object holds; what a slot holds
--   before_slots s, holders s    what is held by all holders before the slots; by all, in their order
--   numbers_of_shape s      those of each holder, before those of a slot the numbers of its spot; last 1 for each made
--                           token and 0 for each other one
--   distinct ts             each number once, where it stands first
--   tokens_of s             the tokens that are held, each once
--   count_of_numbers hs     how many numbers are held
--   width_of s              how many coordinates vectors have: the leading one, one for each number that a variable,
--                           the returned value or a value at entry holds, one for each token
--   exit_of s               the exit class where a function returns under a shape: what is known of the values at
--                           entry, the static objects and the returned value
use Rattle.std.specs.Prelude.{ℕ, ◌+◌, ◌==◌, ℤ, pos, negsuc, Bool, true, false, not, List, [], ◌∷◌, ◌++◌, length, map}
use Rattle.std.specs.Prelude.{if◌then◌else◌}
use Rattle.std.specs.List.{count_by, filter, flat_map}
use Rattle.pungi_world.specs.Choices.{is_between}
use Rattle.pungi_shape.specs.declared.holding.Holding.{Holding}
use Rattle.pungi_shape.specs.declared.holding.Holding.TheVariants.{Dead, Unset, Null, Text, Known, Number, Token}
use Rattle.pungi_shape.specs.declared.shape.Shape.{Shape}
use Rattle.pungi_shape.specs.declared.tracked.Spot.{Spot}
use Rattle.pungi_shape.specs.declared.tracked.Spot.TheVariants.{Global, Field}
use Rattle.pungi_shape.specs.declared.tracked.Tracked.{Tracked}
use Rattle.pungi_shape.specs.Forms.{one_if}

abbrev pub holding_of_number : ℤ → Holding
holding_of_number n = if is_between (negsuc 0) (pos 1) n then Known n else Number

abbrev pub is_number : Holding → Bool
is_number (Known n) = true
is_number Number = true
is_number h = false

abbrev pub is_token : ℕ → Holding → Bool
is_token t (Token u) = u == t
is_token t h = false

abbrev pub token_in : Holding → List ℕ
token_in (Token t) = t ∷ []
token_in h = []

abbrev pub tokens_in : List Holding → List ℕ
tokens_in hs = flat_map token_in hs

-- ---- other token numbers

abbrev pub rename_holding : (ℕ → ℕ) → Holding → Holding
rename_holding g (Token t) = Token (g t)
rename_holding g h = h

abbrev pub rename_spot : (ℕ → ℕ) → Spot → Spot
rename_spot g (Global n) = Global n
rename_spot g (Field b tag field) = Field (g b) tag field

abbrev pub rename_tracked : (ℕ → ℕ) → Tracked → Tracked
rename_tracked g r = record { spot = rename_spot g r.spot; held = rename_holding g r.held }

abbrev pub rename : (ℕ → ℕ) → Shape → Shape
rename g s = record {
  entry = map (rename_holding g) s.entry;
  vars = map (rename_holding g) s.vars;
  statics = map (λ k. (k.0, rename_holding g k.1)) s.statics;
  returned = rename_holding g s.returned;
  slots = map (rename_tracked g) s.slots;
  made = s.made;
}

-- ---- lists of numbers

abbrev pub numbers_of_known : ℤ → List ℕ
numbers_of_known (negsuc n) = 3 ∷ 0 ∷ n ∷ []
numbers_of_known (pos n) = 3 ∷ 1 ∷ n ∷ []

abbrev pub numbers_of_holding : Holding → List ℕ
numbers_of_holding Dead = 7 ∷ []
numbers_of_holding Unset = 0 ∷ []
numbers_of_holding Null = 1 ∷ []
numbers_of_holding Text = 2 ∷ []
numbers_of_holding (Known n) = numbers_of_known n
numbers_of_holding Number = 6 ∷ []
numbers_of_holding (Token t) = (8 + t) ∷ []

abbrev pub numbers_of_spot : Spot → List ℕ
numbers_of_spot (Global n) = 0 ∷ n.0 ∷ []
numbers_of_spot (Field b tag field) = 1 ∷ b ∷ tag.0 ∷ field.0 ∷ []

abbrev pub numbers_of_tracked : Tracked → List ℕ
numbers_of_tracked r = numbers_of_spot r.spot ++ numbers_of_holding r.held

abbrev pub holding_of_static : ℕ × Holding → Holding
holding_of_static k = k.1

abbrev pub before_slots : Shape → List Holding
before_slots s = s.entry ++ (s.vars ++ (map holding_of_static s.statics ++ s.returned ∷ []))

abbrev pub numbers_of_shape : Shape → List ℕ
numbers_of_shape s =
    flat_map numbers_of_holding (before_slots s) ++ (flat_map numbers_of_tracked s.slots ++ map one_if s.made)

-- ---- tokens and coordinates

abbrev pub holding_of_slot : Tracked → Holding
holding_of_slot r = r.held

abbrev pub holders : Shape → List Holding
holders s = before_slots s ++ map holding_of_slot s.slots

abbrev pub distinct : List ℕ → List ℕ
distinct [] = []
distinct (t ∷ ts) = t ∷ filter (λ u. not (u == t)) (distinct ts)

abbrev pub tokens_of : Shape → List ℕ
tokens_of s = distinct (tokens_in (holders s))

abbrev pub count_of_numbers : List Holding → ℕ
count_of_numbers hs = count_by is_number hs

abbrev pub width_of : Shape → ℕ
width_of s =
    1 + count_of_numbers s.vars + one_if (is_number s.returned) + count_of_numbers s.entry + length (tokens_of s)

abbrev pub exit_of : Shape → Shape
exit_of s = record s { vars = []; slots = []; made = [] }
