-- What an instruction takes and sets in a window is what it takes and sets itself.
--   IsHeld n a            an atom is none of the variables from the n-th on
--   *_alike               in the window it has the same value; and so it is afterwards, when a variable was set
--   put_outside           where a variable of the window is set, nothing outside changes
use Rattle.std.proofs.Common.{◌≡◌, inl, inr, ℕ, ◌+◌, ◌<◌, ◌≤◌, true, ◌&&◌, ◌||◌, List, [], ◌∷◌, length}
use Rattle.std.proofs.Common.{refl, sym, ap, ap₂, ◌∙◌, ⊎_elim, arith, get_or-set_other, length-set}
use Rattle.std.specs.Prelude.{nat_lt}
use Rattle.std.proofs.Math.Nat.{min-eq_left}
use Rattle.std.proofs.lemmas.Bool.{and_parts, or_cases, cases_eq}
use Rattle.std.proofs.lemmas.Bool.Decides.{nat_tests}
use Rattle.std.proofs.lemmas.Grind.{get_or-set_at}
use Rattle.pungi_api.specs.declared.param.Param.{Param}
use Rattle.pungi_api.specs.declared.param.Param.TheVariants as param
use Rattle.pungi_world.specs.declared.content.Content.{Content}
use Rattle.pungi_world.specs.declared.content.Content.TheVariants.{Unset}
use Rattle.pungi_meaning.specs.Work.{content_at}
use Rattle.pungi_code.specs.declared.atom.Atom.{Atom}
use Rattle.pungi_code.specs.declared.atom.Atom.TheVariants as atom
use Rattle.pungi_code.specs.declared.atom.Var.{Var}
use Rattle.pungi_code.specs.declared.place.Place.{Place}
use Rattle.pungi_code.specs.declared.place.Place.TheVariants.{Global, Field}
use Rattle.pungi_code.specs.Limits.{most_variables}
use Rattle.pungi_code.specs.Perform.{field_of, slot_of}
use Rattle.pungi_code.specs.Registers.{Regs, put, content_of, both_values, all_values}
use Rattle.pungi_code.specs.WellFormed.{atom_is, is_number, is_condition, is_argument, are_arguments, are_alike}
use Rattle.pungi_code.specs.WellFormed.{is_place, is_wide, is_slot_kind, var_kind}
use Rattle.pungi_inline.specs.Moved.{moved_var, moved_atom, moved_atoms, moved_place}
use Rattle.pungi_inline.proofs.Windows.{SameRegs, SameOutside}

-- ---- which variables an instruction takes

pub lt_says : (a b : ℕ) → nat_lt a b ≡ true → a < b
lt_says a b h = grind (arith, nat_tests)

abbrev pub IsHeld : ℕ → Atom → Type 0
IsHeld n (atom.Var x) = x.0 < n
IsHeld n a = Unit {0}

pub held_of_kind : (vars : List Param) (kind : Param) (a : Atom) → atom_is vars kind a ≡ true → IsHeld (length vars) a
held_of_kind vars kind (atom.Var x) e =
    lt_says x.0 (length vars) (and_parts (nat_lt x.0 (length vars)) (is_wide (var_kind vars x) kind) e).0
held_of_kind vars kind (atom.Int n) e = tt
held_of_kind vars kind atom.Null e = tt
held_of_kind vars kind atom.Text e = tt
held_of_kind vars kind (atom.Static n) e = tt

pub held_condition : (vars : List Param) (a : Atom) → is_condition vars a ≡ true → IsHeld (length vars) a
held_condition vars a e =
    elim (or_cases (is_number vars a) (atom_is vars param.ObjectOrNull a || atom_is vars param.TextOrNull a) e) [
      | inl h ↦ held_of_kind vars param.Long a h
      | inr h ↦ elim (or_cases (atom_is vars param.ObjectOrNull a) (atom_is vars param.TextOrNull a) h) [
        | inl g ↦ held_of_kind vars param.ObjectOrNull a g
        | inr g ↦ held_of_kind vars param.TextOrNull a g
      ]
    ]

held_both : (vars : List Param) (kind : Param) (a b : Atom) → (atom_is vars kind a && atom_is vars kind b) ≡ true
    → IsHeld (length vars) a × IsHeld (length vars) b
held_both vars kind a b e =
    let h = and_parts (atom_is vars kind a) (atom_is vars kind b) e in
    (held_of_kind vars kind a h.0, held_of_kind vars kind b h.1)

pub held_numbers : (vars : List Param) (a b : Atom) → (is_number vars a && is_number vars b) ≡ true
    → IsHeld (length vars) a × IsHeld (length vars) b
held_numbers vars a b e = held_both vars param.Long a b e

pub held_alike : (vars : List Param) (a b : Atom) → are_alike vars a b ≡ true
    → IsHeld (length vars) a × IsHeld (length vars) b
held_alike vars a b e =
    let objects = atom_is vars param.ObjectOrNull a && atom_is vars param.ObjectOrNull b in
    let texts = atom_is vars param.TextOrNull a && atom_is vars param.TextOrNull b in
    elim (or_cases (is_number vars a && is_number vars b) (objects || texts) e) [
      | inl h ↦ held_numbers vars a b h
      | inr h ↦ elim (or_cases objects texts h) [
        | inl g ↦ held_both vars param.ObjectOrNull a b g
        | inr g ↦ held_both vars param.TextOrNull a b g
      ]
    ]

pub held_argument : (vars : List Param) (p : Param) (a : Atom) → is_argument vars p a ≡ true → IsHeld (length vars) a
held_argument vars param.Object a e = held_of_kind vars param.ObjectOrNull a e
held_argument vars param.ObjectOrNull a e = held_of_kind vars param.ObjectOrNull a e
held_argument vars param.Int a e = held_of_kind vars param.Int a e
held_argument vars param.Long a e = held_of_kind vars param.Long a e
held_argument vars param.Size a e = held_of_kind vars param.Size a e
held_argument vars param.Text a e = held_of_kind vars param.TextOrNull a e
held_argument vars param.TextOrNull a e = held_of_kind vars param.TextOrNull a e
held_argument vars param.ModuleDef a e = held_of_kind vars param.TextOrNull a e

-- ---- values

in_window : (w : ℕ) (x : Var) (m k : Regs) → x.0 < length m.vars → length k.vars ≤ most_variables → SameRegs w m k
    → (moved_var w x).0 ≡ w + x.0
in_window w x m k lt few same = let room = same.room in min-eq_left (omega (arith, lt, few, room))

pub atom_alike : (n w : ℕ) (a : Atom) (m k : Regs) → IsHeld n a → length m.vars ≡ n → length k.vars ≤ most_variables
    → SameRegs w m k → content_of (moved_atom w a) k.vars ≡ content_of a m.vars
atom_alike n w (atom.Var x) m k held vars few same =
    let lt : x.0 < length m.vars = omega (arith, held, vars) in
    ap (content_at k.vars) (in_window w x m k lt few same) ∙ same.vars x.0 lt
atom_alike n w (atom.Int i) m k held vars few same = refl
atom_alike n w atom.Null m k held vars few same = refl
atom_alike n w atom.Text m k held vars few same = refl
atom_alike n w (atom.Static i) m k held vars few same = refl

pub kind_alike : (vars : List Param) (kind : Param) (a : Atom) (w : ℕ) (m k : Regs) → atom_is vars kind a ≡ true
    → length m.vars ≡ length vars → length k.vars ≤ most_variables → SameRegs w m k
    → content_of (moved_atom w a) k.vars ≡ content_of a m.vars
kind_alike vars kind a w m k e long few same =
    atom_alike (length vars) w a m k (held_of_kind vars kind a e) long few same

pub condition_alike : (vars : List Param) (a : Atom) (w : ℕ) (m k : Regs) → is_condition vars a ≡ true
    → length m.vars ≡ length vars → length k.vars ≤ most_variables → SameRegs w m k
    → content_of (moved_atom w a) k.vars ≡ content_of a m.vars
condition_alike vars a w m k e long few same =
    atom_alike (length vars) w a m k (held_condition vars a e) long few same

pub values_alike : (vars ps : List Param) (as' : List Atom) (w : ℕ) (m k : Regs) → are_arguments vars ps as' ≡ true
    → length m.vars ≡ length vars → length k.vars ≤ most_variables → SameRegs w m k
    → all_values (moved_atoms w as') k.vars ≡ all_values as' m.vars
values_alike vars [] [] w m k e long few same = refl
values_alike vars [] (a ∷ as') w m k e long few same = absurd (cc)
values_alike vars (p ∷ ps) [] w m k e long few same = absurd (cc)
values_alike vars (p ∷ ps) (a ∷ as') w m k e long few same =
    let h = and_parts (is_argument vars p a) (are_arguments vars ps as') e in
    ap₂ both_values (atom_alike (length vars) w a m k (held_argument vars p a h.0) long few same)
    (values_alike vars ps as' w m k h.1 long few same)

pub slot_alike : (vars : List Param) (kind : Param) (place : Place) (w : ℕ) (m k : Regs)
    → is_place vars place kind ≡ true → length m.vars ≡ length vars → length k.vars ≤ most_variables
    → SameRegs w m k → slot_of (moved_place w place) k.vars ≡ slot_of place m.vars
slot_alike vars kind (Global n l) w m k e long few same = refl
slot_alike vars kind (Field base tag field l) w m k e long few same =
    let h = and_parts (atom_is vars param.ObjectOrNull base) (is_slot_kind l && (is_wide l kind && is_wide kind l)) e in
    ap (λ c. field_of c tag field l) (kind_alike vars param.ObjectOrNull base w m k h.0 long few same)

-- ---- a variable is set

module _ (w : ℕ) (x : Var) (c : Content) (m k : Regs) (lt : x.0 < length m.vars) (few : length k.vars ≤ most_variables)
    (same : SameRegs w m k) where
  place_is : (moved_var w x).0 ≡ w + x.0
  place_is = in_window w x m k lt few same

  put_holds : (y : ℕ) → y < length m.vars
      → content_at (put (moved_var w x) c k).vars (w + y) ≡ content_at (put x c m).vars y
  put_holds y y_lt = elim (cases_eq y x.0) [
    | inl h ↦
        let at : w + y ≡ (moved_var w x).0 = ap (λ n. w + n) h ∙ sym place_is in
        let room = same.room in
        let there : (moved_var w x).0 < length k.vars = omega (arith, place_is, lt, room) in
        get_or-set_at k.vars (moved_var w x).0 (w + y) c Unset at there
        ∙ sym (get_or-set_at m.vars x.0 y c Unset h lt)
    | inr ne ↦
        get_or-set_other k.vars (moved_var w x).0 (w + y) c Unset
        (λ at. ne (let from : (moved_var w x).0 ≡ w + x.0 = place_is in omega (arith, at, from)))
        ∙ same.vars y y_lt ∙ sym (get_or-set_other m.vars x.0 y c Unset ne)
  ]

  pub put_alike : SameRegs w (put x c m) (put (moved_var w x) c k)
  put_alike =
      let left : length (put x c m).vars ≡ length m.vars = length-set m.vars x.0 c in
      let right : length (put (moved_var w x) c k).vars ≡ length k.vars = length-set k.vars (moved_var w x).0 c in
      let room = same.room in
      record {
        world = same.world;
        used = same.used;
        vars = λ y y_lt. put_holds y (omega (arith, y_lt, left));
        room = omega (arith, left, right, room);
      }

  pub put_outside : SameOutside w (length m.vars) k.vars (put (moved_var w x) c k).vars
  put_outside y side =
      let from : (moved_var w x).0 ≡ w + x.0 = place_is in
      get_or-set_other k.vars (moved_var w x).0 y c Unset
      (λ at. ⊎_elim (λ below. omega (arith, below, at, from)) (λ after. omega (arith, after, at, from, lt)) side)
