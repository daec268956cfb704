-- The static objects that a code with copies names are there, as those are that the codes of its file name.
--   names_there n i           each static object that an instruction names is one of the first so many
--   lines_there n ls          so it is with those of these lines
use Rattle.std.proofs.Common.{◌≡◌, ℕ, zero, suc, ◌+◌, ◌-◌, Bool, true, false, ◌&&◌, List, [], ◌∷◌, ◌++◌, length}
use Rattle.std.proofs.Common.{Option, Some, None, refl, sym, ap, ◌∙◌}
use Rattle.std.specs.Prelude.{if◌then◌else◌}
use Rattle.std.specs.List.{list_all, flat_map}
use Rattle.std.proofs.lemmas.Bool.{and_parts, and_from}
use Rattle.std.proofs.lemmas.List.Folds.{list_all-append}
use Rattle.pungi_base.specs.declared.pos.Pos.{Pos}
use Rattle.pungi_code.specs.declared.atom.Atom.{Atom}
use Rattle.pungi_code.specs.declared.atom.Atom.TheVariants as atom
use Rattle.pungi_code.specs.declared.atom.Var.{Var}
use Rattle.pungi_code.specs.declared.code.Code.{Code}
use Rattle.pungi_code.specs.declared.code.Codes.{Codes}
use Rattle.pungi_code.specs.declared.code.Line.{Line}
use Rattle.pungi_code.specs.declared.instr.Instr.{Instr}
use Rattle.pungi_code.specs.declared.instr.Instr.TheVariants.{Set, Arith, Fit, Compare, Load, Store, Api, Call, Unset}
use Rattle.pungi_code.specs.declared.instr.Instr.TheVariants.{Jump, Branch, Return, Fall}
use Rattle.pungi_code.specs.declared.place.Place.{Place}
use Rattle.pungi_code.specs.declared.place.Place.TheVariants.{Global, Field}
use Rattle.pungi_code.specs.WellFormed.{AreWellFormed, atoms_in, atoms_of, is_there, has_statics}
use Rattle.pungi_inline.specs.Copies.{passed, unset, copied_instr, copied_line, exit_lines, entry_lines, body_lines}
use Rattle.pungi_inline.specs.Copies.{body_label, result_var, end_place, copy}
use Rattle.pungi_inline.specs.Inlined.{lines_of, all_lines, label_in, expanded, replaced}
use Rattle.pungi_inline.specs.Moved.{moved_atom, moved_atoms, moved_place, moved_instr}
use Rattle.pungi_inline.specs.Sites.{Site, site_at, line_size, window_size, entry_size, has_site, is_small}
use Rattle.pungi_inline.proofs.CalledCodes.{called, formed_call}

abbrev names_there : ℕ → Instr → Bool
names_there n i = list_all (is_there n) (atoms_of i)

abbrev lines_there : ℕ → List Line → Bool
lines_there n ls = list_all (λ (l : Line). names_there n l.instr) ls

both : (n : ℕ) (a b : List Line) → lines_there n a ≡ true → lines_there n b ≡ true → lines_there n (a ++ b) ≡ true
both n a b h k =
    list_all-append (λ (l : Line). names_there n l.instr) a b ∙ and_from (lines_there n a) (lines_there n b) h k

-- ---- what moves

atom_same : (n w : ℕ) (a : Atom) → is_there n (moved_atom w a) ≡ is_there n a
atom_same n w (atom.Var x) = refl
atom_same n w (atom.Int i) = refl
atom_same n w atom.Null = refl
atom_same n w atom.Text = refl
atom_same n w (atom.Static k) = refl

atoms_same : (n w : ℕ) (as' : List Atom) → list_all (is_there n) (moved_atoms w as') ≡ list_all (is_there n) as'
atoms_same n w [] = refl
atoms_same n w (a ∷ as') =
    ap (λ (b : Bool). b && list_all (is_there n) (moved_atoms w as')) (atom_same n w a)
    ∙ ap (λ (b : Bool). is_there n a && b) (atoms_same n w as')

place_same : (n w : ℕ) (p : Place)
    → list_all (is_there n) (atoms_in (moved_place w p)) ≡ list_all (is_there n) (atoms_in p)
place_same n w (Global name kind) = refl
place_same n w (Field base tag field kind) = atoms_same n w (base ∷ [])

-- a moved instruction names the same static objects
names_same : (n w : ℕ) (to : ℕ → ℕ) (i : Instr) → names_there n (moved_instr w to i) ≡ names_there n i
names_same n w to (Set x a) = atoms_same n w (a ∷ [])
names_same n w to (Arith x kind o a b) = atoms_same n w (a ∷ b ∷ [])
names_same n w to (Fit x kind a) = atoms_same n w (a ∷ [])
names_same n w to (Compare x c a b) = atoms_same n w (a ∷ b ∷ [])
names_same n w to (Load x place) = place_same n w place
names_same n w to (Store place a) =
    ap (λ (b : Bool). b && list_all (is_there n) (atoms_in (moved_place w place))) (atom_same n w a)
    ∙ ap (λ (b : Bool). is_there n a && b) (place_same n w place)
names_same n w to (Api x g as') = atoms_same n w as'
names_same n w to (Call x f as') = atoms_same n w as'
names_same n w to (Unset x) = refl
names_same n w to (Jump l) = refl
names_same n w to (Branch a this other) = atoms_same n w (a ∷ [])
names_same n w to (Return None) = refl
names_same n w to (Return (Some a)) = atoms_same n w (a ∷ [])
names_same n w to Fall = refl

-- ---- copies

passed_there : (n : ℕ) (p : Pos) (w k : ℕ) (as' : List Atom) → list_all (is_there n) as' ≡ true
    → lines_there n (passed p w k as') ≡ true
passed_there n p w k [] h = refl
passed_there n p w k (a ∷ as') h =
    let b = and_parts (is_there n a) (list_all (is_there n) as') h in
    and_from (is_there n a && true) (lines_there n (passed p w (k + 1) as')) (and_from (is_there n a) true b.0 refl)
    (passed_there n p w (k + 1) as' b.1)

unset_there : (n : ℕ) (p : Pos) (w k count : ℕ) → lines_there n (unset p w k count) ≡ true
unset_there n p w k zero = refl
unset_there n p w k (suc count) = unset_there n p w (k + 1) count

exit_there : (n : ℕ) (p : Pos) (r : Var) (x : Option Var) → lines_there n (exit_lines p r x) ≡ true
exit_there n p r None = refl
exit_there n p r (Some x) = refl

copied_there : (n w : ℕ) (to : ℕ → ℕ) (r : Var) (end : ℕ) (p : Pos) (i : Instr) → names_there n i ≡ true
    → lines_there n (copied_instr w to r end p i) ≡ true
copied_there n w to r end p (Return None) h = refl
copied_there n w to r end p (Return (Some a)) h =
    and_from (list_all (is_there n) (moved_atoms w (a ∷ []))) true (atoms_same n w (a ∷ []) ∙ h) refl
copied_there n w to r end p i h = and_from (names_there n (moved_instr w to i)) true (names_same n w to i ∙ h) refl

body_there : (n w : ℕ) (to : ℕ → ℕ) (r : Var) (end : ℕ) (ls : List Line) → lines_there n ls ≡ true
    → lines_there n (flat_map (copied_line w to r end) ls) ≡ true
body_there n w to r end [] h = refl
body_there n w to r end (l ∷ ls) h =
    let b = and_parts (names_there n l.instr) (lines_there n ls) h in
    both n (copied_line w to r end l) (flat_map (copied_line w to r end) ls)
    (copied_there n w to r end l.pos l.instr b.0) (body_there n w to r end ls b.1)

copy_there : (n : ℕ) (p : Pos) (w at : ℕ) (s : Site) → list_all (is_there n) s.args ≡ true
    → has_statics n s.code ≡ true → lines_there n (copy p w at s) ≡ true
copy_there n p w at s args code =
    let body = body_lines w at s.code in
    let exit = exit_lines p (result_var w s.code) s.into in
    let left = entry_size s.code - length s.args in
    both n (entry_lines p w s) (body ++ exit)
    (both n (passed p w 0 s.args) (unset p w (length s.args) left) (passed_there n p w 0 s.args args)
    (unset_there n p w (length s.args) left))
    (both n body exit
    (body_there n w (body_label at s.code) (result_var w s.code) (end_place at s.code) s.code.instrs code)
    (exit_there n p (result_var w s.code) s.into))

-- ---- codes with copies

module _ (codes : Codes) (formed : AreWellFormed codes) where
  abbrev statics : ℕ
  statics = codes.statics

  placed_there : (to : ℕ → ℕ) (w at : ℕ) (l : Line) (o : Option Site) → site_at codes.codes l ≡ o
      → names_there statics l.instr ≡ true → lines_there statics (lines_of to w at l o) ≡ true
  placed_there to w at l None k h =
      and_from (names_there statics (moved_instr 0 to l.instr)) true (names_same statics 0 to l.instr ∙ h) refl
  placed_there to w at l (Some s) k h =
      let call = called codes.codes l.instr s k in
      copy_there statics l.pos w at s (ap (names_there statics) (sym call.is) ∙ h)
      (formed_call codes formed l.instr s call).there

  all_there : (to : ℕ → ℕ) (w at : ℕ) (ls : List Line) → lines_there statics ls ≡ true
      → lines_there statics (all_lines codes.codes to w at ls) ≡ true
  all_there to w at [] h = refl
  all_there to w at (l ∷ ls) h =
      let s = site_at codes.codes l in
      let b = and_parts (names_there statics l.instr) (lines_there statics ls) h in
      both statics (lines_of to w at l s) (all_lines codes.codes to (w + window_size s) (at + line_size s) ls)
      (placed_there to w at l s refl b.0) (all_there to (w + window_size s) (at + line_size s) ls b.1)

  -- a round of copies names no other static object
  pub replaced_there : (c : Code) → has_statics statics c ≡ true
      → has_statics statics (replaced codes.codes c) ≡ true
  replaced_there c h =
      let of : (x : Bool) → has_statics statics (if x then expanded codes.codes c else c) ≡ true =
      λ x. elim x as (λ y. has_statics statics (if y then expanded codes.codes c else c) ≡ true) [
        | true ↦ all_there (label_in codes.codes c.instrs) (length c.vars) 0 c.instrs h
        | false ↦ h
      ] in
      of (has_site codes.codes c.instrs && is_small codes.codes c)
