-- The lines of a copy are well-formed in the code that has the copy.
--   IsGood callees d n l      what a well-formed code asks of its line at this place
use Rattle.std.proofs.Common.{◌≡◌, ℕ, zero, suc, ◌+◌, ◌-◌, ◌<◌, true, ◌||◌, List, [], ◌∷◌}
use Rattle.std.proofs.Common.{◌++◌, length, take, get_or, Option, Some, None, refl, sym, ap, ◌∙◌, subst, arith, lt-ltb}
use Rattle.std.proofs.Common.{length-append, length-take, get_or-take}
use Rattle.std.specs.Prelude.{slice_get, nat_lt}
use Rattle.std.specs.List.{list_all}
use Rattle.std.proofs.lemmas.Bool.{and_from}
use Rattle.std.proofs.lemmas.List.{length_push, get_or_push}
use Rattle.pungi_base.specs.declared.pos.Pos.{Pos}
use Rattle.pungi_api.specs.declared.param.Param.{Param}
use Rattle.pungi_api.specs.declared.param.Param.TheVariants as param
use Rattle.pungi_code.specs.declared.atom.Atom.{Atom}
use Rattle.pungi_code.specs.declared.atom.Var.{Var}
use Rattle.pungi_code.specs.declared.code.Code.{Code}
use Rattle.pungi_code.specs.declared.code.Codes.{Codes}
use Rattle.pungi_code.specs.declared.code.Line.{Line}
use Rattle.pungi_code.specs.declared.instr.Instr.{Instr}
use Rattle.pungi_code.specs.declared.instr.Instr.TheVariants.{Set, Jump, Return}
use Rattle.pungi_code.specs.declared.instr.Label.{Label}
use Rattle.pungi_code.specs.WellFormed.{CallKinds, atom_is, are_arguments, fits_result, is_sound_among, leads_on}
use Rattle.pungi_code.specs.WellFormed.{is_head, goes_back, is_returned, returns_well, kinds_of}
use Rattle.pungi_inline.specs.Copies.{passed, unset, copied_instr, copied_line, result_var, body_place, body_label}
use Rattle.pungi_inline.specs.Copies.{end_place, exit_lines, entry_lines, body_lines, copy}
use Rattle.pungi_inline.specs.Inlined.{site_heads}
use Rattle.pungi_inline.specs.Moved.{var_in, moved_atom, label_at, moved_instr, line}
use Rattle.pungi_inline.specs.Sites.{Site, result_kind, copied_size, entry_size, exit_size, call_size}
use Rattle.pungi_inline.proofs.CalledCodes.{FormedCall}
use Rattle.pungi_inline.proofs.EachLine.{Each, each_append, each_from, each_flat}
use Rattle.pungi_inline.proofs.MovedKinds.{Window, front_window, kind_in, var_there, atom_moved, moved_sound}
use Rattle.pungi_inline.proofs.MovedLabels.{back_moved, head_moved, some_copied, labels_in, back_to}
use Rattle.pungi_inline.proofs.PartPlaces.{part_within}
use Rattle.pungi_inline.proofs.PassedKinds.{IsPlain, IsKind, passed_plain, unset_plain, exit_plain}
use Rattle.pungi_inline.proofs.Placed.{body_length}
use Rattle.pungi_inline.proofs.TrueTests.{or_left}

pub record IsGood (callees : ℕ → CallKinds) (d : Code) (n : ℕ) (l : Line) : Type 0 where
  pub sound : is_sound_among callees d l.instr ≡ true
  pub last : leads_on l.instr ≡ true → n + 1 < length d.instrs
  pub back : goes_back d.heads n l.instr ≡ true

-- a plain line is good in front of an end that is within the code
plain_good : (callees : ℕ → CallKinds) (d : Code) (end : ℕ) → end < length d.instrs → (n : ℕ) (l : Line) → n < end
    → IsPlain callees d n l → IsGood callees d n l
plain_good callees d end lt n l k h = record {
  sound = h.0;
  last = λ t. omega (arith, lt, k);
  back = ap (λ (ls : List Label). list_all (λ (x : Label). nat_lt n x.0 || is_head d.heads x) ls) h.1;
}

-- ---- lengths

passed_long : (p : Pos) (w n : ℕ) (as' : List Atom) → length (passed p w n as') ≡ length as'
passed_long p w n [] = refl
passed_long p w n (a ∷ as') = ap suc (passed_long p w (n + 1) as')

unset_long : (p : Pos) (w n count : ℕ) → length (unset p w n count) ≡ count
unset_long p w n zero = refl
unset_long p w n (suc count) = ap suc (unset_long p w (n + 1) count)

exit_long : (p : Pos) (r : Var) (x : Option Var) → length (exit_lines p r x) ≡ exit_size x
exit_long p r None = refl
exit_long p r (Some x) = refl

copied_long : (w : ℕ) (to : ℕ → ℕ) (r : Var) (end : ℕ) (p : Pos) (i : Instr)
    → length (copied_instr w to r end p i) ≡ copied_size i
copied_long w to r end p (Return None) = refl
copied_long w to r end p (Return (Some a)) = refl
copied_long w to r end p i = refl

-- what a code returns is of the kind of the result's variable
returned_is : (vars : List Param) (k : Option Param) (a : Atom) → is_returned vars k (Some a) ≡ true
    → atom_is vars (result_kind k) a ≡ true
returned_is vars None a h = absurd (cc)
returned_is vars (Some k) a h = h

-- how many lines the copy of a line takes
size_of : Line → ℕ
size_of l = copied_size l.instr

-- ---- a copy

module _ (codes : Codes) (d : Code) (s : Site) (w at : ℕ) (f : FormedCall codes s)
    (window : Window w (s.code.vars ++ result_kind s.code.result ∷ []) d.vars)
    (room : at + call_size s < length d.instrs)
    (heads : (m : Label) → is_head (site_heads at (Some s)) m ≡ true → is_head d.heads m ≡ true) where
  own_window : Window w s.code.vars d.vars
  own_window = front_window w s.code.vars (result_kind s.code.result ∷ []) d.vars window

  -- .. the result
  result_is : IsKind d (result_var w s.code) (result_kind s.code.result)
  result_is =
      let all = s.code.vars ++ result_kind s.code.result ∷ [] in
      let long = length_push s.code.vars (result_kind s.code.result) in
      let lt : length s.code.vars < length all = omega (arith, long) in (
        var_there w all d.vars window (length s.code.vars) lt,
        kind_in w all d.vars window (length s.code.vars) lt
            ∙ get_or_push s.code.vars (result_kind s.code.result) param.ModuleDef (length s.code.vars) refl,
      )

  set_good : (n : ℕ) (p : Pos) (a : Atom) → n < end_place at s.code
      → is_returned s.code.vars s.code.result (Some a) ≡ true
      → IsGood (kinds_of codes) d n (line p (Set (result_var w s.code) (moved_atom w a)))
  set_good n p a lt h = record {
    sound = and_from _ _ result_is.0
        (ap (λ (k : Param). atom_is d.vars k (moved_atom w a)) result_is.1
        ∙ atom_moved w s.code.vars d.vars own_window (result_kind s.code.result) a
        (returned_is s.code.vars s.code.result a h));
    last = λ t. omega (arith, lt, room);
    back = refl;
  }

  jump_good : (n : ℕ) (p : Pos) → n < end_place at s.code
      → IsGood (kinds_of codes) d n (line p (Jump (label_at (end_place at s.code))))
  jump_good n p lt = record {
    sound = lt-ltb (end_place at s.code) (length d.instrs) (omega (arith, room));
    last = λ t. absurd (cc);
    back = and_from _ _ (or_left _ _ (lt-ltb n (end_place at s.code) lt)) refl;
  }

  -- .. the instructions of the called code
  moved_good : (i : ℕ) (l : Line) → slice_get s.code.instrs i ≡ Some l
      → IsGood (kinds_of codes) d (body_label at s.code i) (line l.pos (moved_instr w (body_label at s.code) l.instr))
  unfolding size_of
  moved_good i l e =
      let within = part_within size_of s.code.instrs i l e in
      let some = some_copied l.instr in
      record {
        sound = moved_sound (kinds_of codes) s.code d w (body_label at s.code) own_window
            (labels_in s.code d size_of (λ x. some_copied x.instr) (body_place at s.code) (omega (arith, room)))
            l.instr (f.own.sound i l e);
        last = λ t. omega (arith, room, within, some);
        back = back_moved (kinds_of codes) s.code d.heads w (body_label at s.code) i (body_label at s.code i)
            (λ m there k. back_to s.code d size_of (λ x. some_copied x.instr) (body_place at s.code)
            (λ n h. heads _ (head_moved (body_label at s.code) s.code.heads n h)) i m there k)
            l.instr (f.own.sound i l e) (f.own.back i l e);
      }

  copied_good : (i : ℕ) (l : Line) → slice_get s.code.instrs i ≡ Some l → (x : Instr) → l.instr ≡ x
      → Each (IsGood (kinds_of codes) d) (body_label at s.code i)
      (copied_instr w (body_label at s.code) (result_var w s.code) (end_place at s.code) l.pos x)
  unfolding size_of
  copied_good i l e (Return None) k =
      let within = part_within size_of s.code.instrs i l e in
      let some = some_copied l.instr in
      (jump_good (body_label at s.code i) l.pos (omega (arith, within, some)), tt)
  copied_good i l e (Return (Some a)) k =
      let within = part_within size_of s.code.instrs i l e in
      let two : copied_size l.instr ≡ 2 = ap copied_size k in
      let well : returns_well s.code (Return (Some a)) ≡ true =
      subst (λ (y : Instr). returns_well s.code y ≡ true) k (f.returns i l e) in (
        set_good (body_label at s.code i) l.pos a (omega (arith, within, two)) well,
        (jump_good (body_label at s.code i + 1) l.pos (omega (arith, within, two)), tt),
      )
  copied_good i l e x k = (
    subst (λ (y : Instr). IsGood (kinds_of codes) d (body_label at s.code i)
        (line l.pos (moved_instr w (body_label at s.code) y))) k (moved_good i l e),
    tt,
  )

  body_good : Each (IsGood (kinds_of codes) d) (body_place at s.code) (body_lines w at s.code)
  unfolding size_of
  body_good =
      each_flat (IsGood (kinds_of codes) d)
      (copied_line w (body_label at s.code) (result_var w s.code) (end_place at s.code)) size_of
      (λ l. copied_long w (body_label at s.code) (result_var w s.code) (end_place at s.code) l.pos l.instr)
      s.code.instrs (body_place at s.code) (λ i l e. copied_good i l e l.instr refl)

  -- .. what comes before and after them
  param_is : (k : ℕ) → k < length (take s.code.params s.code.vars)
      → IsKind d (var_in w (0 + k)) (get_or (take s.code.params s.code.vars) k param.ModuleDef)
  param_is k lt =
      let long = length-take s.code.params s.code.vars in
      let few : k < s.code.params = omega (arith, lt, long) in
      let there : k < length s.code.vars = omega (arith, lt, long) in
      let e : k ≡ 0 + k = omega arith in
      subst (λ (n : ℕ). IsKind d (var_in w n) (get_or (take s.code.params s.code.vars) k param.ModuleDef)) e (
        var_there w s.code.vars d.vars own_window k there,
        kind_in w s.code.vars d.vars own_window k there
            ∙ sym (get_or-take s.code.params s.code.vars k param.ModuleDef few),
      )

  entry_plain : (p : Pos) → are_arguments d.vars (take s.code.params s.code.vars) s.args ≡ true
      → Each (IsPlain (kinds_of codes) d) at (entry_lines p w s)
  entry_plain p args =
      let first = passed p w 0 s.args in
      let few = f.few in
      let long = length_push s.code.vars (result_kind s.code.result) in
      each_append (IsPlain (kinds_of codes) d) first
      (unset p w (length s.args) (entry_size s.code - length s.args)) at
      (passed_plain (kinds_of codes) d p w (take s.code.params s.code.vars) s.args 0 at args f.slots param_is)
      (unset_plain (kinds_of codes) d p w (length s.args) (entry_size s.code - length s.args) (at + length first)
      (entry_size s.code) (omega (arith, few))
      (λ k lt. var_there w (s.code.vars ++ result_kind s.code.result ∷ []) d.vars window k (omega (arith, lt, long))))

  entry_long : (p : Pos) → length (entry_lines p w s) ≡ entry_size s.code
  entry_long p =
      let a = passed_long p w 0 s.args in
      let b = unset_long p w (length s.args) (entry_size s.code - length s.args) in
      let few = f.few in
      let c = length-append (passed p w 0 s.args)
      (unset p w (length s.args) (entry_size s.code - length s.args)) in
      omega (arith, a, b, c, few)

  -- .. the whole copy, where the call fits its code
  pub copy_good : (p : Pos) → are_arguments d.vars (take s.code.params s.code.vars) s.args ≡ true
      → fits_result d.vars s.code.result s.into ≡ true → Each (IsGood (kinds_of codes) d) at (copy p w at s)
  copy_good p args result =
      let good = IsGood (kinds_of codes) d in
      let end = at + call_size s in
      let entry = entry_lines p w s in
      let body = body_lines w at s.code in
      let exit = exit_lines p (result_var w s.code) s.into in
      let entry_is = entry_long p in
      let body_is = body_length w (body_label at s.code) (result_var w s.code) (end_place at s.code) s.code.instrs in
      let exit_is = exit_long p (result_var w s.code) s.into in
      let before = each_from (IsGood (kinds_of codes) d) (IsPlain (kinds_of codes) d) end
      (plain_good (kinds_of codes) d end room) entry at (omega (arith, entry_is)) (entry_plain p args) in
      let after = each_from (IsGood (kinds_of codes) d) (IsPlain (kinds_of codes) d) end
      (plain_good (kinds_of codes) d end room) exit (end_place at s.code) (omega (arith, exit_is))
      (exit_plain (kinds_of codes) d p w (result_var w s.code) s.code.result s.into (end_place at s.code) result
      result_is) in
      each_append (IsGood (kinds_of codes) d) entry (body ++ exit) at before
      (subst (λ (n : ℕ). Each (IsGood (kinds_of codes) d) (at + n) (body ++ exit)) (sym entry_is)
      (each_append (IsGood (kinds_of codes) d) body exit (body_place at s.code) body_good
      (subst (λ (n : ℕ). Each (IsGood (kinds_of codes) d) (body_place at s.code + n) exit) (sym body_is) after)))
