-- Each slot that a code with copies names is one that a code of the file names, perhaps through another object. So
-- each slot has one kind in it.
--   bare p                    a slot without the object through which it is reached
--   IsNamed codes p           a line of a code of the file names it
--   SlotsOf codes ls          so it is with all slots of these lines
use Rattle.std.proofs.Common.{◌≡◌, ℕ, zero, suc, ◌+◌, Bool, true, false, ◌&&◌, List, [], ◌∷◌, ◌++◌, length, Option}
use Rattle.std.proofs.Common.{Some, None, refl, sym, subst}
use Rattle.std.specs.Prelude.{slice_get, option_map, if◌then◌else◌, ◌-◌}
use Rattle.std.specs.List.{flat_map}
use Rattle.pungi_base.specs.declared.pos.Pos.{Pos}
use Rattle.pungi_code.specs.declared.atom.Atom.{Atom}
use Rattle.pungi_code.specs.declared.atom.Atom.TheVariants as atom
use Rattle.pungi_code.specs.declared.atom.Var.{Var}
use Rattle.pungi_code.specs.declared.code.Code.{Code}
use Rattle.pungi_code.specs.declared.code.Codes.{Codes}
use Rattle.pungi_code.specs.declared.code.Line.{Line}
use Rattle.pungi_code.specs.declared.instr.Instr.{Instr}
use Rattle.pungi_code.specs.declared.instr.Instr.TheVariants.{Load, Store, Return}
use Rattle.pungi_code.specs.declared.place.Place.{Place}
use Rattle.pungi_code.specs.declared.place.Place.TheVariants.{Global, Field}
use Rattle.pungi_code.specs.WellFormed.{AreWellFormed, place_of, HaveOneKind, AgreeOnKinds}
use Rattle.pungi_inline.specs.Copies.{passed, unset, copied_instr, copied_line, exit_lines, entry_lines, body_lines}
use Rattle.pungi_inline.specs.Copies.{body_label, result_var, end_place, copy}
use Rattle.pungi_inline.specs.Inlined.{lines_of, all_lines, label_in, expanded, replaced}
use Rattle.pungi_inline.specs.Moved.{moved_instr}
use Rattle.pungi_inline.specs.Sites.{Site, site_at, line_size, window_size, entry_size, has_site, is_small}
use Rattle.pungi_inline.proofs.CalledCodes.{called, numbered}

abbrev bare : Place → Place
bare (Global n k) = Global n k
bare (Field base tag field k) = Field atom.Null tag field k

abbrev bare_slot : Instr → Option Place
bare_slot i = option_map bare (place_of i)

pub record IsNamed (codes : Codes) (p : Place) : Type 0 where
  pub number : ℕ
  pub code : Code
  pub place : ℕ
  pub line : Line
  pub at : slice_get codes.codes number ≡ Some (Some code)
  pub there : slice_get code.instrs place ≡ Some line
  pub slot : bare_slot line.instr ≡ Some p

abbrev IsSlot : Codes → Option Place → Type 0
IsSlot codes None = Unit {0}
IsSlot codes (Some p) = IsNamed codes p

abbrev pub SlotsOf : Codes → List Line → Type 0
SlotsOf codes ls = (i : ℕ) (l : Line) → slice_get ls i ≡ Some l → IsSlot codes (bare_slot l.instr)

-- a moved instruction names the same slot
slots_same : (w : ℕ) (to : ℕ → ℕ) (i : Instr) → bare_slot (moved_instr w to i) ≡ bare_slot i
slots_same w to (Load x (Global n k)) = refl
slots_same w to (Load x (Field base tag field k)) = refl
slots_same w to (Store (Global n k) a) = refl
slots_same w to (Store (Field base tag field k) a) = refl
slots_same w to i = refl

-- ---- the codes of the file

slot_named : (codes : Codes) (f : ℕ) (c : Code) (i : ℕ) (l : Line) → slice_get codes.codes f ≡ Some (Some c)
    → slice_get c.instrs i ≡ Some l → (o : Option Place) → bare_slot l.instr ≡ o → IsSlot codes o
slot_named codes f c i l at there None e = tt
slot_named codes f c i l at there (Some p) e =
    record { number = f; code = c; place = i; line = l; at = at; there = there; slot = e }

-- a code of the file names only such slots
pub own_slots : (codes : Codes) (f : ℕ) (c : Code) → slice_get codes.codes f ≡ Some (Some c) → SlotsOf codes c.instrs
own_slots codes f c at i l e = slot_named codes f c i l at e (bare_slot l.instr) refl

-- ---- copies

abbrev AreSlots : Codes → List Line → Type 0
AreSlots codes [] = Unit {0}
AreSlots codes (l ∷ ls) = IsSlot codes (bare_slot l.instr) × AreSlots codes ls

-- .. which hold of each line in turn
slots_append : (codes : Codes) (a b : List Line) → AreSlots codes a → AreSlots codes b → AreSlots codes (a ++ b)
slots_append codes [] b h k = k
slots_append codes (l ∷ a) b h k = (h.0, slots_append codes a b h.1 k)

slots_at : (codes : Codes) (ls : List Line) → AreSlots codes ls → SlotsOf codes ls
slots_at codes [] h i l e = absurd (cc)
slots_at codes (x ∷ ls) h zero l e =
    let same : x ≡ l = cc in subst (λ (y : Line). IsSlot codes (bare_slot y.instr)) same h.0
slots_at codes (x ∷ ls) h (suc i) l e = slots_at codes ls h.1 i l e

passed_slots : (codes : Codes) (p : Pos) (w n : ℕ) (as' : List Atom) → AreSlots codes (passed p w n as')
passed_slots codes p w n [] = tt
passed_slots codes p w n (a ∷ as') = (tt, passed_slots codes p w (n + 1) as')

unset_slots : (codes : Codes) (p : Pos) (w n count : ℕ) → AreSlots codes (unset p w n count)
unset_slots codes p w n zero = tt
unset_slots codes p w n (suc count) = (tt, unset_slots codes p w (n + 1) count)

exit_slots : (codes : Codes) (p : Pos) (r : Var) (x : Option Var) → AreSlots codes (exit_lines p r x)
exit_slots codes p r None = tt
exit_slots codes p r (Some x) = (tt, tt)

copied_slots : (codes : Codes) (w : ℕ) (to : ℕ → ℕ) (r : Var) (end : ℕ) (p : Pos) (i : Instr)
    → IsSlot codes (bare_slot i) → AreSlots codes (copied_instr w to r end p i)
copied_slots codes w to r end p (Return None) h = (tt, tt)
copied_slots codes w to r end p (Return (Some a)) h = (tt, (tt, tt))
copied_slots codes w to r end p i h = (subst (λ (o : Option Place). IsSlot codes o) (sym (slots_same w to i)) h, tt)

body_slots : (codes : Codes) (w : ℕ) (to : ℕ → ℕ) (r : Var) (end : ℕ) (ls : List Line) → SlotsOf codes ls
    → AreSlots codes (flat_map (copied_line w to r end) ls)
body_slots codes w to r end [] h = tt
body_slots codes w to r end (l ∷ ls) h =
    slots_append codes (copied_line w to r end l) (flat_map (copied_line w to r end) ls)
    (copied_slots codes w to r end l.pos l.instr (h 0 l refl))
    (body_slots codes w to r end ls (λ i m e. h (suc i) m e))

copy_slots : (codes : Codes) (p : Pos) (w at : ℕ) (s : Site) → SlotsOf codes s.code.instrs
    → AreSlots codes (copy p w at s)
copy_slots codes p w at s h =
    let body = body_lines w at s.code in
    let exit = exit_lines p (result_var w s.code) s.into in
    slots_append codes (entry_lines p w s) (body ++ exit)
    (slots_append codes (passed p w 0 s.args) (unset p w (length s.args) (entry_size s.code - length s.args))
    (passed_slots codes p w 0 s.args)
    (unset_slots codes p w (length s.args) (entry_size s.code - length s.args)))
    (slots_append codes body exit
    (body_slots codes w (body_label at s.code) (result_var w s.code) (end_place at s.code) s.code.instrs h)
    (exit_slots codes p (result_var w s.code) s.into))

-- ---- codes with copies

placed_slots : (codes : Codes) (to : ℕ → ℕ) (w at : ℕ) (l : Line) (o : Option Site) → site_at codes.codes l ≡ o
    → IsSlot codes (bare_slot l.instr) → AreSlots codes (lines_of to w at l o)
placed_slots codes to w at l None k h =
    (subst (λ (o : Option Place). IsSlot codes o) (sym (slots_same 0 to l.instr)) h, tt)
placed_slots codes to w at l (Some s) k h =
    let call = called codes.codes l.instr s k in
    copy_slots codes l.pos w at s
    (own_slots codes call.number s.code (numbered codes.codes call.number s.code call.code))

all_slots : (codes : Codes) (to : ℕ → ℕ) (w at : ℕ) (ls : List Line) → SlotsOf codes ls
    → AreSlots codes (all_lines codes.codes to w at ls)
all_slots codes to w at [] h = tt
all_slots codes to w at (l ∷ ls) h =
    let s = site_at codes.codes l in
    slots_append codes (lines_of to w at l s)
    (all_lines codes.codes to (w + window_size s) (at + line_size s) ls)
    (placed_slots codes to w at l s refl (h 0 l refl))
    (all_slots codes to (w + window_size s) (at + line_size s) ls (λ i m e. h (suc i) m e))

-- a round of copies adds no slot
pub replaced_slots : (codes : Codes) (c : Code) → SlotsOf codes c.instrs
    → SlotsOf codes (replaced codes.codes c).instrs
replaced_slots codes c h =
    let b = has_site codes.codes c.instrs && is_small codes.codes c in
    let of : (x : Bool) → SlotsOf codes (if x then expanded codes.codes c else c).instrs =
    λ x. elim x as (λ y. SlotsOf codes (if y then expanded codes.codes c else c).instrs) [
      | true ↦ slots_at codes _
          (all_slots codes (label_in codes.codes c.instrs) (length c.vars) 0 c.instrs h)
      | false ↦ h
    ] in
    of b

-- ---- kinds

-- the object through which a slot is reached doesn't matter
to_bare : (o u : Option Place) → HaveOneKind o u → HaveOneKind (option_map bare o) (option_map bare u)
to_bare None u h = tt
to_bare (Some p) None h = tt
to_bare (Some (Global n k)) (Some (Global m l)) h = h
to_bare (Some (Global n k)) (Some (Field other struct name l)) h = h
to_bare (Some (Field base tag field k)) (Some (Global m l)) h = h
to_bare (Some (Field base tag field k)) (Some (Field other struct name l)) h = h

from_bare : (o u : Option Place) → HaveOneKind (option_map bare o) (option_map bare u) → HaveOneKind o u
from_bare None u h = tt
from_bare (Some p) None h = tt
from_bare (Some (Global n k)) (Some (Global m l)) h = h
from_bare (Some (Global n k)) (Some (Field other struct name l)) h = h
from_bare (Some (Field base tag field k)) (Some (Global m l)) h = h
from_bare (Some (Field base tag field k)) (Some (Field other struct name l)) h = h

-- slots that the file names have one kind each
named_agree : (codes : Codes) → AreWellFormed codes → (o u : Option Place) → IsSlot codes o → IsSlot codes u
    → HaveOneKind o u
named_agree codes formed None u x y = tt
named_agree codes formed (Some p) None x y = tt
named_agree codes formed (Some p) (Some q) x y =
    let k = to_bare (place_of x.line.instr) (place_of y.line.instr)
    (formed.kinds x.number y.number x.code y.code x.at y.at x.place y.place x.line y.line x.there y.there) in
    subst (λ (o : Option Place). HaveOneKind (Some p) o) y.slot
    (subst (λ (o : Option Place). HaveOneKind o (bare_slot y.line.instr)) x.slot k)

-- so have those of a code with copies
pub agree_alone : (codes : Codes) → AreWellFormed codes → (c : Code) → SlotsOf codes c.instrs → AgreeOnKinds c c
agree_alone codes formed c h i j l m e k =
    from_bare (place_of l.instr) (place_of m.instr)
    (named_agree codes formed (bare_slot l.instr) (bare_slot m.instr) (h i l e) (h j m k))
