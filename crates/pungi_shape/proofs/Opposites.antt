-- In a sound instruction no integer constant is -2^63.
use Rattle.std.proofs.Common.{◌≡◌, ℕ, length, pos, negsuc, ◌-◌, ◌^◌, Bool, true, false, List, [], ◌∷◌}
use Rattle.std.proofs.Common.{Option, Some, None, refl}
use Rattle.std.specs.Prelude.{◌&&◌, ◌||◌, nat_le, int_le, if◌then◌else◌}
use Rattle.std.specs.List.{list_all}
use Rattle.pungi_api.specs.declared.param.Param.{Param}
use Rattle.pungi_api.specs.declared.param.Param.TheVariants as param
use Rattle.pungi_code.specs.declared.atom.Atom.{Atom}
use Rattle.pungi_code.specs.declared.atom.Atom.TheVariants as atom
use Rattle.pungi_code.specs.declared.atom.Var.{Var}
use Rattle.pungi_code.specs.declared.code.Code.{Code}
use Rattle.pungi_code.specs.declared.instr.Instr.{Instr}
use Rattle.pungi_code.specs.declared.instr.Instr.TheVariants.{Set, Arith, Fit, Compare, Load, Store, Api, Call, Unset}
use Rattle.pungi_code.specs.declared.instr.Instr.TheVariants.{Jump, Branch, Return, Fall}
use Rattle.pungi_code.specs.declared.place.Place.{Place}
use Rattle.pungi_code.specs.declared.place.Place.TheVariants.{Global, Field}
use Rattle.pungi_code.specs.WellFormed.{var_kind, is_slot_kind, is_wide, place_kind, number_fits, is_constant, atom_is}
use Rattle.pungi_code.specs.WellFormed.{is_number, is_condition, are_alike, is_order, is_var, is_integer, counts_in}
use Rattle.pungi_code.specs.WellFormed.{is_place, is_argument, are_arguments, is_label, is_answer}
use Rattle.pungi_code.specs.Limits.{most_arguments}
use Rattle.pungi_code.specs.WellFormed.{CallKinds, fits_call, fits_result, is_sound_among}
use Rattle.pungi_shape.specs.Bounds.{has_opposite, have_opposites}
use Rattle.pungi_code.specs.WellFormed.{atoms_in}
use Rattle.pungi_shape.proofs.FileCodes.{IsInstrOfFile}

left : (a b : Bool) → (a && b) ≡ true → a ≡ true
left true b e = refl
left false b e = absurd (cc)

right : (a b : Bool) → (a && b) ≡ true → b ≡ true
right true b e = e
right false b e = absurd (cc)

both : (a b : Bool) → a ≡ true → b ≡ true → (a && b) ≡ true
both true b e h = h
both false b e h = absurd (cc)

-- what follows from either follows from one of two
whichever : (a b c : Bool) → (a ≡ true → c ≡ true) → (b ≡ true → c ≡ true) → (a || b) ≡ true → c ≡ true
whichever true b c f g e = f refl
whichever false b c f g e = g e

-- ---- atoms

suits : (vars : List Param) (k : Param) (a : Atom) → atom_is vars k a ≡ true → has_opposite a ≡ true
suits vars k (atom.Var x) e = refl
suits vars k (atom.Int n) e =
    left (int_le (negsuc (2 ^ 63 - 2)) n) (int_le n (pos (2 ^ 63 - 1))) (right (number_fits k n) (is_constant n) e)
suits vars k atom.Null e = refl
suits vars k atom.Text e = refl
suits vars k (atom.Static n) e = refl

tested : (vars : List Param) (a : Atom) → is_condition vars a ≡ true → has_opposite a ≡ true
tested vars a e =
    whichever (is_number vars a) (atom_is vars param.ObjectOrNull a || atom_is vars param.TextOrNull a)
    (has_opposite a) (suits vars param.Long a) (whichever (atom_is vars param.ObjectOrNull a)
    (atom_is vars param.TextOrNull a) (has_opposite a) (suits vars param.ObjectOrNull a)
    (suits vars param.TextOrNull a)) e

one : (a : Atom) → has_opposite a ≡ true → list_all has_opposite (a ∷ []) ≡ true
one a e = both (has_opposite a) true e refl

two : (a b : Atom) → has_opposite a ≡ true → has_opposite b ≡ true → list_all has_opposite (a ∷ b ∷ []) ≡ true
two a b e h = both (has_opposite a) (list_all has_opposite (b ∷ [])) e (one b h)

both_suit : (vars : List Param) (k : Param) (a b : Atom) → (atom_is vars k a && atom_is vars k b) ≡ true
    → list_all has_opposite (a ∷ b ∷ []) ≡ true
both_suit vars k a b e =
    two a b (suits vars k a (left (atom_is vars k a) (atom_is vars k b) e)) (suits vars k b (right (atom_is vars k a)
    (atom_is vars k b) e))

compared : (vars : List Param) (order : Bool) (a b : Atom)
    → (if order then is_number vars a && is_number vars b else are_alike vars a b) ≡ true
    → list_all has_opposite (a ∷ b ∷ []) ≡ true
compared vars true a b e = both_suit vars param.Long a b e
compared vars false a b e =
    whichever (is_number vars a && is_number vars b) ((atom_is vars param.ObjectOrNull a
    && atom_is vars param.ObjectOrNull b) || (atom_is vars param.TextOrNull a && atom_is vars param.TextOrNull b))
    (list_all has_opposite (a ∷ b ∷ [])) (both_suit vars param.Long a b) (whichever
    (atom_is vars param.ObjectOrNull a && atom_is vars param.ObjectOrNull b) (atom_is vars param.TextOrNull a
    && atom_is vars param.TextOrNull b) (list_all has_opposite (a ∷ b ∷ [])) (both_suit vars param.ObjectOrNull a b)
    (both_suit vars param.TextOrNull a b)) e

passed : (vars : List Param) (p : Param) (a : Atom) → is_argument vars p a ≡ true → has_opposite a ≡ true
passed vars param.Object a e = suits vars param.ObjectOrNull a e
passed vars param.Text a e = suits vars param.TextOrNull a e
passed vars param.ModuleDef a e = suits vars param.TextOrNull a e
passed vars param.ObjectOrNull a e = suits vars param.ObjectOrNull a e
passed vars param.TextOrNull a e = suits vars param.TextOrNull a e
passed vars param.Int a e = suits vars param.Int a e
passed vars param.Long a e = suits vars param.Long a e
passed vars param.Size a e = suits vars param.Size a e

all_passed : (vars ps : List Param) (as' : List Atom) → are_arguments vars ps as' ≡ true
    → list_all has_opposite as' ≡ true
all_passed vars [] [] e = refl
all_passed vars [] (a ∷ as') e = absurd (cc)
all_passed vars (p ∷ ps) [] e = refl
all_passed vars (p ∷ ps) (a ∷ as') e =
    both (has_opposite a) (list_all has_opposite as') (passed vars p a (left (is_argument vars p a)
    (are_arguments vars ps as') e)) (all_passed vars ps as' (right (is_argument vars p a) (are_arguments vars ps as')
    e))

-- ---- instructions

based : (vars : List Param) (place : Place) (k : Param) → is_place vars place k ≡ true
    → list_all has_opposite (atoms_in place) ≡ true
based vars (Global n kind) k e = refl
based vars (Field base tag field kind) k e =
    one base (suits vars param.ObjectOrNull base (left (atom_is vars param.ObjectOrNull base) (is_slot_kind kind
    && (is_wide kind k && is_wide k kind)) e))

stored : (vars : List Param) (place : Place) (a : Atom) → list_all has_opposite (atoms_in place) ≡ true
    → has_opposite a ≡ true → list_all has_opposite (a ∷ atoms_in place) ≡ true
stored vars (Global n kind) a e h = one a h
stored vars (Field base tag field kind) a e h = two a base h (left (has_opposite base) true e)

called : (vars : List Param) (kinds : CallKinds) (x : Option Var) (as' : List Atom)
    → fits_call vars kinds x as' ≡ true → list_all has_opposite as' ≡ true
called vars None x as' e = absurd (cc)
called vars (Some k) x as' e =
    all_passed vars k.0 as' (left (are_arguments vars k.0 as') (nat_le (length as') most_arguments)
    (right (fits_result vars k.1 x) (are_arguments vars k.0 as' && nat_le (length as') most_arguments) e))

among_opposites : (callees : ℕ → CallKinds) (code : Code) (i : Instr) → is_sound_among callees code i ≡ true
    → have_opposites i ≡ true
among_opposites callees code (Set x a) e =
    one a (suits code.vars (var_kind code.vars x) a (right (is_var code.vars x) (atom_is code.vars
    (var_kind code.vars x) a) e))
among_opposites callees code (Arith x kind o a b) e =
    both_suit code.vars param.Long a b (right (counts_in kind (var_kind code.vars x)) (is_number code.vars a
    && is_number code.vars b) (right (is_var code.vars x) (counts_in kind (var_kind code.vars x)
    && (is_number code.vars a && is_number code.vars b)) e))
among_opposites callees code (Fit x kind a) e =
    one a (suits code.vars param.Long a (right (counts_in kind (var_kind code.vars x)) (is_number code.vars a) (right
    (is_var code.vars x) (counts_in kind (var_kind code.vars x) && is_number code.vars a) e)))
among_opposites callees code (Compare x c a b) e =
    let w = (if is_order c then is_number code.vars a && is_number code.vars b else are_alike code.vars a b) in
    compared code.vars (is_order c) a b (right (is_integer (var_kind code.vars x)) w (right (is_var code.vars x)
    (is_integer (var_kind code.vars x) && w) e))
among_opposites callees code (Load x place) e =
    based code.vars place (place_kind place) (left (is_place code.vars place (place_kind place))
    (is_wide (place_kind place) (var_kind code.vars x)) (right (is_var code.vars x) (is_place code.vars place
    (place_kind place) && is_wide (place_kind place) (var_kind code.vars x)) e))
among_opposites callees code (Store place a) e =
    stored code.vars place a (based code.vars place (place_kind place) (left (is_place code.vars place
    (place_kind place)) (atom_is code.vars (place_kind place) a) e)) (suits code.vars (place_kind place) a (right
    (is_place code.vars place (place_kind place)) (atom_is code.vars (place_kind place) a) e))
among_opposites callees code (Api x g as') e =
    all_passed code.vars g.params as' (left (are_arguments code.vars g.params as') _ (right (is_answer code.vars g x)
    _ e))
among_opposites callees code (Call x f as') e = called code.vars (callees f) x as' e
among_opposites callees code (Unset x) e = refl
among_opposites callees code (Jump to) e = refl
among_opposites callees code (Branch a this other) e =
    one a (tested code.vars a (left (is_condition code.vars a) (is_label code this && is_label code other) e))
among_opposites callees code (Return None) e = refl
among_opposites callees code (Return (Some a)) e = one a (tested code.vars a e)
among_opposites callees code Fall e = refl

pub sound_opposites : (code : Code) (i : Instr) → IsInstrOfFile code i → have_opposites i ≡ true
sound_opposites code i h = among_opposites h.callees code i h.sound
