-- What gives a called code its arguments, and its result to the call, is sound.
--   IsPlain callees d n l      a line is sound in a code, and names no label
--   IsKind d x k               a variable of a code holds this kind
use Rattle.std.proofs.Common.{◌≡◌, ℕ, zero, suc, ◌+◌, ◌<◌, ◌≤◌, Bool, true, ◌&&◌, List, [], ◌∷◌, ◌++◌, length}
use Rattle.std.proofs.Common.{get_or, Option, Some, None, refl, ap, ◌∙◌, subst, arith, length-append}
use Rattle.std.proofs.Common.{ltb-true, lt-ltb}
use Rattle.std.specs.List.{list_all}
use Rattle.std.proofs.lemmas.Bool.{and_parts, and_from}
use Rattle.std.proofs.lemmas.List.{get_or_append_left}
use Rattle.pungi_base.specs.declared.pos.Pos.{Pos}
use Rattle.pungi_api.specs.declared.param.Param.{Param}
use Rattle.pungi_api.specs.declared.param.Param.TheVariants as param
use Rattle.pungi_code.specs.declared.atom.Atom.{Atom}
use Rattle.pungi_code.specs.declared.atom.Atom.TheVariants as atom
use Rattle.pungi_code.specs.declared.atom.Var.{Var}
use Rattle.pungi_code.specs.declared.code.Code.{Code}
use Rattle.pungi_code.specs.declared.code.Line.{Line}
use Rattle.pungi_code.specs.WellFormed.{CallKinds, var_kind, is_wide, atom_is, is_var, is_slot_kind, is_argument}
use Rattle.pungi_code.specs.WellFormed.{are_arguments, fits_result, is_sound_among, targets}
use Rattle.pungi_inline.specs.Moved.{var_in}
use Rattle.pungi_inline.specs.Copies.{passed, unset, exit_lines}
use Rattle.pungi_inline.specs.Sites.{result_kind}
use Rattle.pungi_inline.proofs.EachLine.{Each}
use Rattle.pungi_inline.proofs.TrueTests.{and_both}

-- ---- what is sound stays so where there are more variables

module _ (own more : List Param) where
  -- a variable of a kind that passes a test
  var_kept : (p : Param → Bool) (x : Var) → (is_var own x && p (var_kind own x)) ≡ true
      → (is_var (own ++ more) x && p (var_kind (own ++ more) x)) ≡ true
  var_kept p x h =
      let b = and_parts (is_var own x) (p (var_kind own x)) h in
      let lt = ltb-true x.0 (length own) b.0 in
      let e = length-append own more in
      and_from _ _ (lt-ltb x.0 (length (own ++ more)) (omega (arith, lt, e)))
      (ap p (get_or_append_left own more param.ModuleDef x.0 lt) ∙ b.1)

  atom_kept : (k : Param) (a : Atom) → atom_is own k a ≡ true → atom_is (own ++ more) k a ≡ true
  atom_kept k (atom.Var x) h = var_kept (λ z. is_wide z k) x h
  atom_kept k (atom.Int n) h = h
  atom_kept k atom.Null h = h
  atom_kept k atom.Text h = h
  atom_kept k (atom.Static n) h = h

  argument_kept : (p : Param) (a : Atom) → is_argument own p a ≡ true → is_argument (own ++ more) p a ≡ true
  argument_kept param.Object a h = atom_kept param.ObjectOrNull a h
  argument_kept param.Text a h = atom_kept param.TextOrNull a h
  argument_kept param.ModuleDef a h = atom_kept param.TextOrNull a h
  argument_kept param.ObjectOrNull a h = atom_kept param.ObjectOrNull a h
  argument_kept param.TextOrNull a h = atom_kept param.TextOrNull a h
  argument_kept param.Int a h = atom_kept param.Int a h
  argument_kept param.Long a h = atom_kept param.Long a h
  argument_kept param.Size a h = atom_kept param.Size a h

  pub arguments_kept : (ps : List Param) (as' : List Atom) → are_arguments own ps as' ≡ true
      → are_arguments (own ++ more) ps as' ≡ true
  arguments_kept [] [] h = refl
  arguments_kept [] (a ∷ as') h = absurd (cc)
  arguments_kept (p ∷ ps) [] h = absurd (cc)
  arguments_kept (p ∷ ps) (a ∷ as') h = and_both _ _ _ _ (argument_kept p a) (arguments_kept ps as') h

  pub result_kept : (k : Option Param) (x : Option Var) → fits_result own k x ≡ true
      → fits_result (own ++ more) k x ≡ true
  result_kept k None h = refl
  result_kept None (Some x) h = absurd (cc)
  result_kept (Some k) (Some x) h = var_kept (λ z. is_wide k z) x h

-- ---- before and after a copy

-- an argument for a slot is a value of the slot's kind
slot_argument : (vars : List Param) (k : Param) (a : Atom) → is_slot_kind k ≡ true → is_argument vars k a ≡ true
    → atom_is vars k a ≡ true
slot_argument vars param.Object a s h = absurd (cc)
slot_argument vars param.Text a s h = absurd (cc)
slot_argument vars param.ModuleDef a s h = absurd (cc)
slot_argument vars param.ObjectOrNull a s h = h
slot_argument vars param.TextOrNull a s h = h
slot_argument vars param.Int a s h = h
slot_argument vars param.Long a s h = h
slot_argument vars param.Size a s h = h

abbrev pub IsPlain : (ℕ → CallKinds) → Code → ℕ → Line → Type 0
IsPlain callees d n l = (is_sound_among callees d l.instr ≡ true) × (targets l.instr ≡ [])

abbrev pub IsKind : Code → Var → Param → Type 0
IsKind d x k = (is_var d.vars x ≡ true) × (var_kind d.vars x ≡ k)

module _ (callees : ℕ → CallKinds) (d : Code) (pos : Pos) (w : ℕ) where
  -- the n-th variables of the window and those after it are of these kinds
  pub passed_plain : (ps : List Param) (as' : List Atom) (n at : ℕ) → are_arguments d.vars ps as' ≡ true
      → list_all is_slot_kind ps ≡ true
      → ((k : ℕ) → k < length ps → IsKind d (var_in w (n + k)) (get_or ps k param.ModuleDef))
      → Each (IsPlain callees d) at (passed pos w n as')
  passed_plain [] [] n at h s f = tt
  passed_plain (p ∷ ps) [] n at h s f = tt
  passed_plain [] (a ∷ as') n at h s f = absurd (cc)
  passed_plain (p ∷ ps) (a ∷ as') n at h s f =
      let b = and_parts (is_argument d.vars p a) (are_arguments d.vars ps as') h in
      let t = and_parts (is_slot_kind p) (list_all is_slot_kind ps) s in
      let e : n + 0 ≡ n = omega arith in
      let first : IsKind d (var_in w n) p =
      subst (λ (m : ℕ). IsKind d (var_in w m) p) e (f 0 (omega arith)) in
      let sound = and_from _ _ first.0 (ap (λ (k : Param). atom_is d.vars k a) first.1
      ∙ slot_argument d.vars p a t.0 b.0) in (
        (sound, refl),
        passed_plain ps as' (n + 1) (at + 1) b.1 t.1 (λ k lt.
            let g : n + suc k ≡ n + 1 + k = omega arith in
            subst (λ (m : ℕ). IsKind d (var_in w m) (get_or ps k param.ModuleDef)) g (f (suc k) (omega (arith, lt)))),
      )

  -- variables of the window that hold nothing from now on
  pub unset_plain : (n count at end : ℕ) → n + count ≤ end
      → ((k : ℕ) → k < end → is_var d.vars (var_in w k) ≡ true)
      → Each (IsPlain callees d) at (unset pos w n count)
  unset_plain n zero at end le f = tt
  unset_plain n (suc count) at end le f =
      ((f n (omega (arith, le)), refl), unset_plain (n + 1) count (at + 1) end (omega (arith, le)) f)

  -- the result goes into a variable that may hold it
  pub exit_plain : (r : Var) (k : Option Param) (x : Option Var) (at : ℕ) → fits_result d.vars k x ≡ true
      → IsKind d r (result_kind k) → Each (IsPlain callees d) at (exit_lines pos r x)
  exit_plain r k None at h f = tt
  exit_plain r None (Some x) at h f = absurd (cc)
  exit_plain r (Some k) (Some x) at h f =
      let b = and_parts (is_var d.vars x) (is_wide k (var_kind d.vars x)) h in
      let wide = ap (λ (z : Param). is_wide z (var_kind d.vars x)) f.1 ∙ b.1 in
      ((and_from _ _ b.0 (and_from _ _ f.0 wide), refl), tt)
