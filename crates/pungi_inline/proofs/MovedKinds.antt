-- An instruction that is sound in a code is sound in another one, where it is moved to a window that has the code's
-- variables.
--   Window w own big      from w on the variables of a code hold what these hold, and there are not too many
use Rattle.std.proofs.Common.{◌≡◌, ℕ, ◌+◌, ◌<◌, ◌≤◌, Bool, true, false, ◌&&◌, List, [], ◌∷◌, ◌++◌, length, get_or}
use Rattle.std.proofs.Common.{Option, Some, None, refl, ap, ◌∙◌, arith, length-append, ltb-true, lt-ltb}
use Rattle.std.specs.Prelude.{nat_le, if◌then◌else◌}
use Rattle.std.proofs.lemmas.Bool.{and_parts, and_from}
use Rattle.std.proofs.lemmas.List.{length-map, get_or_append_left}
use Rattle.pungi_api.specs.declared.param.Param.{Param}
use Rattle.pungi_api.specs.declared.param.Param.TheVariants as param
use Rattle.pungi_api.specs.declared.signature.Signature.{Signature}
use Rattle.pungi_code.specs.declared.atom.Atom.{Atom}
use Rattle.pungi_code.specs.declared.atom.Atom.TheVariants as atom
use Rattle.pungi_code.specs.declared.atom.Var.{Var}
use Rattle.pungi_code.specs.declared.code.Code.{Code}
use Rattle.pungi_code.specs.declared.instr.Instr.{Instr}
use Rattle.pungi_code.specs.declared.instr.Instr.TheVariants.{Set, Arith, Fit, Compare, Load, Store, Api, Call, Unset}
use Rattle.pungi_code.specs.declared.instr.Instr.TheVariants.{Jump, Branch, Return, Fall}
use Rattle.pungi_code.specs.declared.instr.Label.{Label}
use Rattle.pungi_code.specs.declared.place.Place.{Place}
use Rattle.pungi_code.specs.declared.place.Place.TheVariants.{Global, Field}
use Rattle.pungi_code.specs.Limits.{most_arguments, most_variables}
use Rattle.pungi_code.specs.WellFormed.{CallKinds, var_kind, is_wide, is_integer, counts_in, returned_param}
use Rattle.pungi_code.specs.WellFormed.{atom_is, is_number, is_condition, are_alike, is_order, is_var}
use Rattle.pungi_code.specs.WellFormed.{is_place, is_argument, are_arguments, is_answer}
use Rattle.pungi_code.specs.WellFormed.{is_label, fits_result, fits_call, is_sound_among}
use Rattle.pungi_inline.specs.Moved.{var_in, moved_var, moved_result, moved_atom, moved_atoms, moved_place}
use Rattle.pungi_inline.specs.Moved.{moved_label, moved_instr}
use Rattle.pungi_inline.proofs.TrueTests.{and_both, or_both}

pub record Window (w : ℕ) (own big : List Param) : Type 0 where
  pub room : w + length own ≤ length big
  pub few : length big ≤ most_variables
  pub same : (x : ℕ) → x < length own → get_or big (w + x) param.ModuleDef ≡ get_or own x param.ModuleDef

-- the first variables of a window are a window
pub front_window : (w : ℕ) (own more big : List Param) → Window w (own ++ more) big → Window w own big
front_window w own more big at =
    let e = length-append own more in
    record {
      room = let r = at.room in omega (arith, r, e);
      few = at.few;
      same = λ x lt. at.same x (omega (arith, lt, e)) ∙ get_or_append_left own more param.ModuleDef x lt;
    }

module _ (w : ℕ) (own big : List Param) (at : Window w own big) where
  -- .. variables
  number_is : (x : ℕ) → x < length own → (var_in w x).0 ≡ w + x
  number_is x lt = let r = at.room in let f = at.few in omega (arith, lt, r, f)

  -- what a variable of the window holds, and that it is there
  pub kind_in : (x : ℕ) → x < length own → var_kind big (var_in w x) ≡ get_or own x param.ModuleDef
  kind_in x lt = ap (λ (n : ℕ). get_or big n param.ModuleDef) (number_is x lt) ∙ at.same x lt

  pub var_there : (x : ℕ) → x < length own → is_var big (var_in w x) ≡ true
  var_there x lt =
      let e = number_is x lt in
      let r = at.room in
      lt-ltb (var_in w x).0 (length big) (omega (arith, lt, r, e))

  -- a variable of a kind that passes a test is one in the window
  var_moved : (p : Param → Bool) (x : Var) → (is_var own x && p (var_kind own x)) ≡ true
      → (is_var big (moved_var w x) && p (var_kind big (moved_var w x))) ≡ true
  var_moved p x h =
      let b = and_parts (is_var own x) (p (var_kind own x)) h in
      let lt = ltb-true x.0 (length own) b.0 in
      and_from _ _ (var_there x.0 lt) (ap p (kind_in x.0 lt) ∙ b.1)

  -- .. atoms
  -- an atom is of the same kind in the window
  pub atom_moved : (k : Param) (a : Atom) → atom_is own k a ≡ true → atom_is big k (moved_atom w a) ≡ true
  atom_moved k (atom.Var x) h = var_moved (λ z. is_wide z k) x h
  atom_moved k (atom.Int n) h = h
  atom_moved k atom.Null h = h
  atom_moved k atom.Text h = h
  atom_moved k (atom.Static n) h = h

  number_moved : (a : Atom) → is_number own a ≡ true → is_number big (moved_atom w a) ≡ true
  number_moved a h = atom_moved param.Long a h

  condition_moved : (a : Atom) → is_condition own a ≡ true → is_condition big (moved_atom w a) ≡ true
  condition_moved a h =
      or_both _ _ _ _ (number_moved a)
      (or_both _ _ _ _ (atom_moved param.ObjectOrNull a) (atom_moved param.TextOrNull a)) h

  alike_moved : (a b : Atom) → are_alike own a b ≡ true → are_alike big (moved_atom w a) (moved_atom w b) ≡ true
  alike_moved a b h =
      or_both _ _ _ _ (and_both _ _ _ _ (number_moved a) (number_moved b))
      (or_both _ _ _ _ (and_both _ _ _ _ (atom_moved param.ObjectOrNull a) (atom_moved param.ObjectOrNull b))
      (and_both _ _ _ _ (atom_moved param.TextOrNull a) (atom_moved param.TextOrNull b))) h

  compared_moved : (o : Bool) (a b : Atom)
      → (if o then is_number own a && is_number own b else are_alike own a b) ≡ true
      → (if o then is_number big (moved_atom w a) && is_number big (moved_atom w b)
      else are_alike big (moved_atom w a) (moved_atom w b)) ≡ true
  compared_moved true a b h = and_both _ _ _ _ (number_moved a) (number_moved b) h
  compared_moved false a b h = alike_moved a b h

  -- .. slots
  place_moved : (p : Place) (k : Param) → is_place own p k ≡ true → is_place big (moved_place w p) k ≡ true
  place_moved (Global n kind) k h = h
  place_moved (Field base tag field kind) k h =
      and_both _ _ _ _ (atom_moved param.ObjectOrNull base) (λ e. e) h

  -- .. arguments
  argument_moved : (p : Param) (a : Atom) → is_argument own p a ≡ true → is_argument big p (moved_atom w a) ≡ true
  argument_moved param.Object a h = atom_moved param.ObjectOrNull a h
  argument_moved param.Text a h = atom_moved param.TextOrNull a h
  argument_moved param.ModuleDef a h = atom_moved param.TextOrNull a h
  argument_moved param.ObjectOrNull a h = atom_moved param.ObjectOrNull a h
  argument_moved param.TextOrNull a h = atom_moved param.TextOrNull a h
  argument_moved param.Int a h = atom_moved param.Int a h
  argument_moved param.Long a h = atom_moved param.Long a h
  argument_moved param.Size a h = atom_moved param.Size a h

  arguments_moved : (ps : List Param) (as' : List Atom) → are_arguments own ps as' ≡ true
      → are_arguments big ps (moved_atoms w as') ≡ true
  arguments_moved [] [] h = refl
  arguments_moved [] (a ∷ as') h = absurd (cc)
  arguments_moved (p ∷ ps) [] h = absurd (cc)
  arguments_moved (p ∷ ps) (a ∷ as') h =
      and_both _ _ _ _ (argument_moved p a) (arguments_moved ps as') h

  few_moved : (as' : List Atom) → nat_le (length as') most_arguments ≡ true
      → nat_le (length (moved_atoms w as')) most_arguments ≡ true
  few_moved as' h = ap (λ (n : ℕ). nat_le n most_arguments) (length-map as' (moved_atom w)) ∙ h

  -- .. what a call gives
  answer_moved : (g : Signature) (x : Option Var) → is_answer own g x ≡ true
      → is_answer big g (moved_result w x) ≡ true
  answer_moved g None h = refl
  answer_moved g (Some x) h = var_moved (λ z. is_wide (returned_param g.answer) z) x h

  result_moved : (k : Option Param) (x : Option Var) → fits_result own k x ≡ true
      → fits_result big k (moved_result w x) ≡ true
  result_moved k None h = refl
  result_moved None (Some x) h = absurd (cc)
  result_moved (Some k) (Some x) h = var_moved (λ z. is_wide k z) x h

  call_moved : (k : CallKinds) (x : Option Var) (as' : List Atom) → fits_call own k x as' ≡ true
      → fits_call big k (moved_result w x) (moved_atoms w as') ≡ true
  call_moved None x as' h = absurd (cc)
  call_moved (Some k) x as' h =
      and_both _ _ _ _ (result_moved k.1 x) (and_both _ _ _ _ (arguments_moved k.0 as') (few_moved as')) h

-- the labels of the code are labels of the other code, where they have moved
abbrev pub LabelsIn : Code → Code → (ℕ → ℕ) → Type 0
LabelsIn c d to = (l : ℕ) → l < length c.instrs → to l < length d.instrs

label_there : (c d : Code) (to : ℕ → ℕ) → LabelsIn c d to → (l : Label) → is_label c l ≡ true
    → is_label d (moved_label to l) ≡ true
label_there c d to in_range l h = lt-ltb _ _ (in_range l.0 (ltb-true _ _ h))

-- a sound instruction is sound in the window, with labels that have moved
pub moved_sound : (callees : ℕ → CallKinds) (c d : Code) (w : ℕ) (to : ℕ → ℕ) → Window w c.vars d.vars
    → LabelsIn c d to → (i : Instr) → is_sound_among callees c i ≡ true
    → is_sound_among callees d (moved_instr w to i) ≡ true
moved_sound callees c d w to at in_range (Set x a) h =
    let b = and_parts _ _ h in
    let lt = ltb-true x.0 (length c.vars) b.0 in
    and_from _ _ (var_there w c.vars d.vars at x.0 lt)
    (ap (λ k. atom_is d.vars k (moved_atom w a)) (kind_in w c.vars d.vars at x.0 lt)
    ∙ atom_moved w c.vars d.vars at (var_kind c.vars x) a b.1)
moved_sound callees c d w to at in_range (Arith x kind o a b) h =
    let p = and_parts _ _ h in
    let q = and_parts _ _ p.1 in
    let v = and_parts _ _ (var_moved w c.vars d.vars at (λ z. counts_in kind z) x (and_from _ _ p.0 q.0)) in
    and_from _ _ v.0 (and_from _ _ v.1 (and_both _ _ _ _ (number_moved w c.vars d.vars at a)
    (number_moved w c.vars d.vars at b) q.1))
moved_sound callees c d w to at in_range (Fit x kind a) h =
    let p = and_parts _ _ h in
    let q = and_parts _ _ p.1 in
    let v = and_parts _ _ (var_moved w c.vars d.vars at (λ z. counts_in kind z) x (and_from _ _ p.0 q.0)) in
    and_from _ _ v.0 (and_from _ _ v.1 (number_moved w c.vars d.vars at a q.1))
moved_sound callees c d w to at in_range (Compare x o a b) h =
    let p = and_parts _ _ h in
    let q = and_parts _ _ p.1 in
    let v = and_parts _ _ (var_moved w c.vars d.vars at is_integer x (and_from _ _ p.0 q.0)) in
    and_from _ _ v.0 (and_from _ _ v.1 (compared_moved w c.vars d.vars at (is_order o) a b q.1))
moved_sound callees c d w to at in_range (Load x (Global n k)) h =
    let p = and_parts _ _ h in
    let q = and_parts _ _ p.1 in
    let v = and_parts _ _ (var_moved w c.vars d.vars at (λ z. is_wide k z) x (and_from _ _ p.0 q.1)) in
    and_from _ _ v.0 (and_from _ _ (place_moved w c.vars d.vars at (Global n k) k q.0) v.1)
moved_sound callees c d w to at in_range (Load x (Field base tag field k)) h =
    let p = and_parts _ _ h in
    let q = and_parts _ _ p.1 in
    let v = and_parts _ _ (var_moved w c.vars d.vars at (λ z. is_wide k z) x (and_from _ _ p.0 q.1)) in
    and_from _ _ v.0 (and_from _ _ (place_moved w c.vars d.vars at (Field base tag field k) k q.0) v.1)
moved_sound callees c d w to at in_range (Store (Global n k) a) h =
    and_both _ _ _ _ (place_moved w c.vars d.vars at (Global n k) k) (atom_moved w c.vars d.vars at k a) h
moved_sound callees c d w to at in_range (Store (Field base tag field k) a) h =
    and_both _ _ _ _ (place_moved w c.vars d.vars at (Field base tag field k) k) (atom_moved w c.vars d.vars at k a) h
moved_sound callees c d w to at in_range (Api x g as') h =
    and_both _ _ _ _ (answer_moved w c.vars d.vars at g x)
    (and_both _ _ _ _ (arguments_moved w c.vars d.vars at g.params as')
    (and_both _ _ _ _ (few_moved w c.vars d.vars at as') (λ e. e))) h
moved_sound callees c d w to at in_range (Call x f as') h = call_moved w c.vars d.vars at (callees f) x as' h
moved_sound callees c d w to at in_range (Unset x) h =
    var_there w c.vars d.vars at x.0 (ltb-true x.0 (length c.vars) h)
moved_sound callees c d w to at in_range (Jump l) h = label_there c d to in_range l h
moved_sound callees c d w to at in_range (Branch a this other) h =
    and_both _ _ _ _ (condition_moved w c.vars d.vars at a)
    (and_both _ _ _ _ (label_there c d to in_range this) (label_there c d to in_range other)) h
moved_sound callees c d w to at in_range (Return None) h = refl
moved_sound callees c d w to at in_range (Return (Some a)) h = condition_moved w c.vars d.vars at a h
moved_sound callees c d w to at in_range Fall h = refl
