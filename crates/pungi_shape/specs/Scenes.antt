-- A scene: what the holders hold while a part is done, with the numbers and the balances as linear forms over the
-- coordinates of the place at which it began. The balance of a token says by how much the count of its object has
-- changed, less the references to it that escaped.
--   Scene                   how many coordinates that place has; the shape; the numbers of the variables, of the
--                           returned value and of the values at entry; the balance of each token, and none of one that
--                           was merged into another
--   number_form w k h, number_forms w k hs    the form of a number that is coordinate k, and 0 where none is held;
--                           those of several holders, from coordinate k on
--   token_forms w k n       the balances of n tokens, from coordinate k on
--   after_vars, after_returned, after_entry s    the first coordinate after the numbers of the variables, after that of
--                           the returned value, after those at entry
--   scene_over w s, scene_of s    the scene at a place with this shape: where w coordinates are there, of which its own
--                           come first; where these are all
--   holding_at s x, form_at s x    what a variable holds, and as a number
--   or_unset o              what was found, and unset where nothing was
--   holding_of s a, form_of s a    what an atom is, and as a number
--   with_var x h f s        a variable holds something else
--   form_or w o             a balance, and 0 where there is none
--   balance_at s t          the balance of a token
--   add_form t f s          that balance changes by a form
--   add_to_holding h n s    the balance of what is held changes by a number
--   new_token s             the number of one more token
--   with_token f made s     one more token, with this balance
--   redirect t u v          t stands for u
--   is_made s t             a token is an object that was made in this run
--   shape_of_merge t u s, merge t u s    two tokens become one, which has the sum of their balances and is made where
--                           one of them was
use Rattle.std.specs.Prelude.{ℕ, ◌+◌, ◌==◌, ℤ, Bool, false, ◌||◌, List, [], ◌∷◌, ◌++◌, length, map, get_or}
use Rattle.std.specs.Prelude.{slice_set, Option, Some, None, if◌then◌else◌}
use Rattle.std.specs.List.{range_with_len}
use Rattle.std.specs.Map.{lookup}
use Rattle.pungi_code.specs.declared.atom.Atom.{Atom}
use Rattle.pungi_code.specs.declared.atom.Atom.TheVariants as atom
use Rattle.pungi_shape.specs.declared.holding.Holding.{Holding}
use Rattle.pungi_shape.specs.declared.holding.Holding.TheVariants.{Unset, Null, Text, Token}
use Rattle.pungi_shape.specs.declared.shape.Shape.{Shape}
pub use Rattle.pungi_shape.specs.declared.scene.Scene.{Scene}
use Rattle.pungi_shape.specs.Forms.{Form, zero_form, unit, plus, constant, one_if}
use Rattle.pungi_shape.specs.Shapes.{holding_of_number, is_number, count_of_numbers, rename, width_of}

-- ---- the scene at a place

abbrev pub number_form : ℕ → ℕ → Holding → Form
number_form w k h = if is_number h then unit w k else zero_form w

abbrev pub number_forms : ℕ → ℕ → List Holding → List Form
number_forms w k [] = []
number_forms w k (h ∷ hs) = number_form w k h ∷ number_forms w (k + one_if (is_number h)) hs

abbrev pub token_forms : ℕ → ℕ → ℕ → List (Option Form)
token_forms w k n = map (λ i. Some (unit w i)) (range_with_len k n)

-- the first coordinate of the returned number, of the numbers at entry, of the balances
abbrev pub after_vars : Shape → ℕ
after_vars s = 1 + count_of_numbers s.vars

abbrev pub after_returned : Shape → ℕ
after_returned s = after_vars s + one_if (is_number s.returned)

abbrev pub after_entry : Shape → ℕ
after_entry s = after_returned s + count_of_numbers s.entry

abbrev pub scene_over : ℕ → Shape → Scene
scene_over w s = record {
  width = w;
  shape = s;
  vars = number_forms w 1 s.vars;
  returned = number_form w (after_vars s) s.returned;
  entry = number_forms w (after_returned s) s.entry;
  balances = token_forms w (after_entry s) (length s.made);
}

abbrev pub scene_of : Shape → Scene
scene_of s = scene_over (width_of s) s

-- ---- what an atom is

abbrev pub holding_at : Scene → ℕ → Holding
holding_at s x = get_or s.shape.vars x Unset

abbrev pub form_at : Scene → ℕ → Form
form_at s x = get_or s.vars x (zero_form s.width)

abbrev pub or_unset : Option Holding → Holding
or_unset None = Unset
or_unset (Some h) = h

abbrev pub holding_of : Scene → Atom → Holding
holding_of s (atom.Var x) = holding_at s x.0
holding_of s (atom.Int n) = holding_of_number n
holding_of s atom.Null = Null
holding_of s atom.Text = Text
holding_of s (atom.Static k) = or_unset (lookup (λ j. j == k) s.shape.statics)

abbrev pub form_of : Scene → Atom → Form
form_of s (atom.Var x) = form_at s x.0
form_of s (atom.Int n) = constant s.width n
form_of s a = zero_form s.width

abbrev pub with_var : ℕ → Holding → Form → Scene → Scene
with_var x h f s =
    record s { shape = record s.shape { vars = slice_set s.shape.vars x h }; vars = slice_set s.vars x f }

-- ---- balances

abbrev pub form_or : ℕ → Option Form → Form
form_or w None = zero_form w
form_or w (Some f) = f

abbrev pub balance_at : Scene → ℕ → Form
balance_at s t = form_or s.width (get_or s.balances t None)

abbrev pub add_form : ℕ → Form → Scene → Scene
add_form t f s = record s { balances = slice_set s.balances t (Some (plus (balance_at s t) f)) }

abbrev pub add_to_holding : Holding → ℤ → Scene → Scene
add_to_holding (Token t) n s = add_form t (constant s.width n) s
add_to_holding h n s = s

-- ---- tokens

abbrev pub new_token : Scene → ℕ
new_token s = length s.shape.made

abbrev pub with_token : Form → Bool → Scene → Scene
with_token f made s =
    record s { shape = record s.shape { made = s.shape.made ++ made ∷ [] }; balances = s.balances ++ Some f ∷ [] }

abbrev pub redirect : ℕ → ℕ → ℕ → ℕ
redirect t u v = if v == u then t else v

abbrev pub is_made : Shape → ℕ → Bool
is_made s t = get_or s.made t false

abbrev pub shape_of_merge : ℕ → ℕ → Shape → Shape
shape_of_merge t u s =
    record (rename (redirect t u) s) { made = slice_set s.made t (is_made s t || is_made s u) }

abbrev pub merge : ℕ → ℕ → Scene → Scene
merge t u s =
    record s {
      shape = shape_of_merge t u s.shape;
      balances = slice_set
          (slice_set s.balances t (Some (plus (balance_at s t) (balance_at s u)))) u None;
    }
