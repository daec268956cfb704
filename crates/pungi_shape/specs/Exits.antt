-- What a called function of the file leaves behind by one of its exits. An exit class is a shape of its values at
-- entry, of static objects and of the value that it returns; it says which of these are one object. Its coordinates
-- stand after the caller's, of which there are w.
--   is_alike h k, are_alike hs ks    a value at entry may be this argument: both are NULL, or neither is; so all of
--                           them
--   with_static k, arguments_of e as    values at entry and static objects, each beside what stands for it at the
--                           caller
--   atom_of u ps            what stands for a token of the exit class, if anything does
--   join_holdings, join_one, join_with, join_all before ps s    what stands for one token is one object
--   statics_differ s        no two static objects are one
--   may_leave e as s        the exit is one for these arguments
--   exit_balance w e u s    the balance of a token of the exit class
--   beside hs fs as         three lists side by side
--   number_agrees s h f a, numbers_agree s es    the form that is 0 where a number at entry is the argument; those of
--                           all
--   agreement w e as s      these, and the form that is 0 where the leading coordinates agree
--   add_form_to h f s, add_one o f s, add_all w e ps us s    what the call did to the objects at entry and to static
--                           ones, it did to those that stand for them
--   put_object o f x s, put_result w e ps x h s    the variable of a result gets what the exit class says: NULL, a
--                           text, a number, one of these objects, or another one
--   after_exit w e ps x s, after_leaving w e x as s    what is left: where what stands for one token is one object; at
--                           first
use Rattle.std.specs.Prelude.{ℕ, ◌+◌, ◌==◌, Bool, true, false, ◌&&◌, List, [], ◌∷◌, ◌++◌, length, map, Option, Some}
use Rattle.std.specs.Prelude.{None, if◌then◌else◌}
use Rattle.std.specs.List.{flat_map, zip}
use Rattle.pungi_code.specs.declared.atom.Atom.{Atom}
use Rattle.pungi_code.specs.declared.atom.Atom.TheVariants as atom
use Rattle.pungi_code.specs.declared.atom.Var.{Var}
use Rattle.pungi_shape.specs.declared.holding.Holding.{Holding}
use Rattle.pungi_shape.specs.declared.holding.Holding.TheVariants.{Dead, Unset, Null, Text, Token}
use Rattle.pungi_shape.specs.declared.shape.Shape.{Shape}
use Rattle.pungi_shape.specs.Forms.{Form, zero_form, unit, minus}
use Rattle.pungi_shape.specs.Shapes.{is_number, is_token, tokens_in, tokens_of, distinct, holding_of_static}
use Rattle.pungi_shape.specs.Scenes.{Scene, number_forms, after_returned, after_entry, holding_of, form_of, add_form}
use Rattle.pungi_shape.specs.Scenes.{with_token, new_token, merge}
use Rattle.pungi_shape.specs.Calls.{put_if}

abbrev pub is_alike : Holding → Holding → Bool
is_alike Null Null = true
is_alike Text Text = true
is_alike (Token t) (Token u) = true
is_alike h k = is_number h && is_number k

abbrev pub are_alike : List Holding → List Holding → Bool
are_alike [] [] = true
are_alike [] (k ∷ ks) = false
are_alike (h ∷ hs) [] = false
are_alike (h ∷ hs) (k ∷ ks) = is_alike h k && are_alike hs ks

-- ---- which objects are one

abbrev pub with_static : ℕ × Holding → Holding × Atom
with_static k = (k.1, atom.Static k.0)

abbrev pub arguments_of : Shape → List Atom → List (Holding × Atom)
arguments_of e as' = zip e.entry as' ++ map with_static e.statics

abbrev pub atom_of : ℕ → List (Holding × Atom) → Option Atom
atom_of u [] = None
atom_of u (p ∷ ps) = if is_token u p.0 then Some p.1 else atom_of u ps

abbrev pub join_holdings : Holding → Holding → Scene → Scene
join_holdings (Token t) (Token u) s = if t == u then s else merge t u s
join_holdings h k s = s

abbrev pub join_one : Option Atom → Atom → Scene → Scene
join_one None a s = s
join_one (Some b) a s = join_holdings (holding_of s b) (holding_of s a) s

abbrev pub join_with : List (Holding × Atom) → Holding → Atom → Scene → Scene
join_with before (Token u) a s = join_one (atom_of u before) a s
join_with before h a s = s

abbrev pub join_all : List (Holding × Atom) → List (Holding × Atom) → Scene → Scene
join_all before [] s = s
join_all before (p ∷ ps) s = join_all (before ++ p ∷ []) ps (join_with before p.0 p.1 s)

abbrev pub statics_differ : Shape → Bool
statics_differ s = length (distinct (tokens_in (map holding_of_static s.statics))) == length s.statics

abbrev pub may_leave : Shape → List Atom → Scene → Bool
may_leave e as' s =
    are_alike e.entry (map (holding_of s) as') && statics_differ (join_all [] (arguments_of e as') s).shape

-- ---- what is taken over from the exit

abbrev pub exit_balance : ℕ → Shape → ℕ → Scene → Form
exit_balance w e u s = unit s.width (w + (after_entry e + u))

abbrev pub number_agrees : Scene → Holding → Form → Atom → List Form
number_agrees s h f a = if is_number h then minus f (form_of s a) ∷ [] else []

abbrev pub numbers_agree : Scene → List (Holding × Form × Atom) → List Form
numbers_agree s es = flat_map (λ e. number_agrees s e.0 e.1 e.2) es

abbrev pub beside : List Holding → List Form → List Atom → List (Holding × Form × Atom)
beside [] fs as' = []
beside (h ∷ hs) [] as' = []
beside (h ∷ hs) (f ∷ fs) [] = []
beside (h ∷ hs) (f ∷ fs) (a ∷ as') = (h, f, a) ∷ beside hs fs as'

abbrev pub agreement : ℕ → Shape → List Atom → Scene → List Form
agreement w e as' s =
    minus (unit s.width w) (unit s.width 0)
    ∷ numbers_agree s (beside e.entry (number_forms s.width (w + after_returned e) e.entry) as')

abbrev pub add_form_to : Holding → Form → Scene → Scene
add_form_to (Token t) f s = add_form t f s
add_form_to h f s = s

abbrev pub add_one : Option Atom → Form → Scene → Scene
add_one None f s = s
add_one (Some a) f s = add_form_to (holding_of s a) f s

abbrev pub add_all : ℕ → Shape → List (Holding × Atom) → List ℕ → Scene → Scene
add_all w e ps [] s = s
add_all w e ps (u ∷ us) s = add_all w e ps us (add_one (atom_of u ps) (exit_balance w e u s) s)

-- ---- the result

abbrev pub put_object : Option Atom → Form → Option Var → Scene → Scene
put_object (Some a) f x s = put_if x (holding_of s a) (zero_form s.width) s
put_object None f x s = put_if x (Token (new_token s)) (zero_form s.width) (with_token f false s)

abbrev pub put_result : ℕ → Shape → List (Holding × Atom) → Option Var → Holding → Scene → Scene
put_result w e ps x Dead s = s
put_result w e ps x Unset s = s
put_result w e ps x (Token u) s = put_object (atom_of u ps) (exit_balance w e u s) x s
put_result w e ps x h s = put_if x h (if is_number h then unit s.width (w + 1) else zero_form s.width) s

abbrev pub after_exit : ℕ → Shape → List (Holding × Atom) → Option Var → Scene → Scene
after_exit w e ps x s = put_result w e ps x e.returned (add_all w e ps (tokens_of e) s)

abbrev pub after_leaving : ℕ → Shape → Option Var → List Atom → Scene → Scene
after_leaving w e x as' s = after_exit w e (arguments_of e as') x (join_all [] (arguments_of e as') s)
