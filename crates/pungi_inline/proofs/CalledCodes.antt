-- The call in whose place a copy is put, and what its code is in a file of well-formed codes.
--   Called cs i s             an instruction is this call, of this code of the file
--   FormedCall codes s        its code is well-formed and returns well, its static objects are there, its parameters
--                            and its result have the kinds of slots, and it has few arguments
use Rattle.std.proofs.Common.{◌≡◌, ℕ, zero, suc, ◌≤◌, Bool, true, false, List, [], ◌∷◌, length, take}
use Rattle.std.proofs.Common.{Option, Some, None, refl, sym, ap, ◌∙◌, subst, arith, eqb-true}
use Rattle.std.specs.Prelude.{slice_get, nat_lt, ◌==◌, option_map, if◌then◌else◌}
use Rattle.std.specs.List.{list_all}
use Rattle.std.proofs.lemmas.Bool.{and_parts, and_from}
use Rattle.pungi_api.specs.declared.param.Param.{Param}
use Rattle.pungi_code.specs.declared.atom.Atom.{Atom}
use Rattle.pungi_code.specs.declared.atom.Var.{Var}
use Rattle.pungi_code.specs.declared.code.Code.{Code}
use Rattle.pungi_code.specs.declared.code.Codes.{Codes}
use Rattle.pungi_code.specs.declared.code.Line.{Line}
use Rattle.pungi_code.specs.declared.instr.Instr.{Instr}
use Rattle.pungi_code.specs.declared.instr.Instr.TheVariants.{Call}
use Rattle.pungi_code.specs.Frames.{flatten, code_numbered}
use Rattle.pungi_code.specs.WellFormed.{CallKinds, AreWellFormed, IsWellFormedAmong, kinds_of, is_slot_kind}
use Rattle.pungi_code.specs.WellFormed.{returns_well, fits_call, is_sound_among, has_statics}
use Rattle.pungi_inline.specs.Sites.{Site, result_kind, is_copied, site_of, site}
use Rattle.pungi_inline.proofs.Placed.{HaveParams}

-- ---- calls

pub record Called (cs : List (Option Code)) (i : Instr) (s : Site) : Type 0 where
  pub number : ℕ
  pub is : i ≡ Call s.into number s.args
  pub code : code_numbered cs number ≡ Some s.code
  pub copied : is_copied s.code s.args ≡ true

copied_call : (cs : List (Option Code)) (x : Option Var) (f : ℕ) (as' : List Atom) (s : Site) (o : Option Code)
    → code_numbered cs f ≡ o → site_of x as' o ≡ Some s → Called cs (Call x f as') s
copied_call cs x f as' s None e h = absurd (cc)
copied_call cs x f as' s (Some c) e h =
    let t : Site = record { into = x; args = as'; code = c } in
    let of : (b : Bool) → is_copied c as' ≡ b → (if b then Some t else None) ≡ Some s → Called cs (Call x f as') s =
    λ b. elim b as (λ y. is_copied c as' ≡ y → (if y then Some t else None) ≡ Some s → Called cs (Call x f as') s) [
      | true ↦ λ k g.
          let same : t ≡ s = cc in
          subst (λ (z : Site). Called cs (Call x f as') z) same (record { number = f; is = refl; code = e; copied = k })
      | false ↦ λ k g. absurd (cc)
    ] in
    of (is_copied c as') refl h

-- a call in whose place a copy is put
pub called : (cs : List (Option Code)) (i : Instr) (s : Site) → site cs i ≡ Some s → Called cs i s
called cs (Call x f as') s h = copied_call cs x f as' s (code_numbered cs f) refl h
called cs i s h = absurd (cc)

-- ---- codes of the file

code_there : (o : Option (Option Code)) (c : Code) → flatten o ≡ Some c → o ≡ Some (Some c)
code_there None c h = absurd (cc)
code_there (Some o) c h = ap Some h

-- a function's code is in the list
pub numbered : (cs : List (Option Code)) (f : ℕ) (c : Code) → code_numbered cs f ≡ Some c
    → slice_get cs f ≡ Some (Some c)
numbered cs f c h = code_there (slice_get cs f) c h

-- the parameters of well-formed codes are among their variables
pub have_params : (codes : Codes) → AreWellFormed codes → HaveParams codes.codes
have_params codes formed f c h =
    let own = formed.each f c (numbered codes.codes f c h) in
    let a = own.among in
    let b = own.locals in
    omega (arith, a, b)

-- the first of many kinds of slots are such
first_kinds : (n : ℕ) (ks : List Param) → list_all is_slot_kind ks ≡ true → list_all is_slot_kind (take n ks) ≡ true
first_kinds zero ks h = refl
first_kinds (suc n) [] h = refl
first_kinds (suc n) (k ∷ ks) h =
    let p = and_parts (is_slot_kind k) (list_all is_slot_kind ks) h in
    and_from (is_slot_kind k) (list_all is_slot_kind (take n ks)) p.0 (first_kinds n ks p.1)

pub record FormedCall (codes : Codes) (s : Site) : Type 0 where
  pub own : IsWellFormedAmong (kinds_of codes) s.code
  pub returns : (place : ℕ) (l : Line) → slice_get s.code.instrs place ≡ Some l
      → returns_well s.code l.instr ≡ true
  pub there : has_statics codes.statics s.code ≡ true
  pub slots : list_all is_slot_kind (take s.code.params s.code.vars) ≡ true
  pub result : is_slot_kind (result_kind s.code.result) ≡ true
  pub few : length s.args ≤ length s.code.vars

-- so it is with each call of a file of well-formed codes
pub formed_call : (codes : Codes) → AreWellFormed codes → (i : Instr) (s : Site) → Called codes.codes i s
    → FormedCall codes s
formed_call codes formed i s h =
    let at = numbered codes.codes h.number s.code h.code in
    let own = formed.each h.number s.code at in
    let a = own.among in
    let b = own.locals in
    let p = and_parts (nat_lt 0 (length s.code.instrs)) _ h.copied in
    let q = and_parts (length s.args == s.code.params) (is_slot_kind (result_kind s.code.result)) p.1 in
    let e : length s.args ≡ s.code.params = eqb-true (length s.args) s.code.params q.0 in
    record {
      own = own;
      returns = λ place l k. formed.returns h.number s.code place l at k;
      there = formed.there h.number s.code at;
      slots = first_kinds s.code.params s.code.vars own.kinds;
      result = q.1;
      few = omega (arith, a, b, e);
    }

-- the call is of the kinds of its code
pub call_fits : (codes : Codes) (c : Code) (i : Instr) (s : Site) → Called codes.codes i s
    → is_sound_among (kinds_of codes) c i ≡ true
    → fits_call c.vars (Some (take s.code.params s.code.vars, s.code.result)) s.into s.args ≡ true
call_fits codes c i s h sound =
    let k : kinds_of codes h.number ≡ Some (take s.code.params s.code.vars, s.code.result) =
    ap (option_map (λ (y : Code). (take y.params y.vars, y.result))) h.code in
    let g : is_sound_among (kinds_of codes) c (Call s.into h.number s.args) ≡ true =
    subst (λ (x : Instr). is_sound_among (kinds_of codes) c x ≡ true) h.is sound in
    ap (λ (x : CallKinds). fits_call c.vars x s.into s.args) (sym k) ∙ g
