-- The law of well-formed codes.
use Rattle.std.proofs.Common.{◌≡◌, ℕ, zero, suc, ◌+◌, ◌≤◌, Bool, true, false, List, [], ◌∷◌, refl, sym, ◌∙◌, subst}
use Rattle.std.specs.Prelude.{get_or}
use Rattle.std.specs.List.{list_all}
use Rattle.std.proofs.lemmas.Bool.{and_parts}
use Rattle.pungi_api.specs.declared.param.Param.{Param}
use Rattle.pungi_api.specs.declared.param.Param.TheVariants as param
use Rattle.pungi_code.specs.declared.code.Code.{Code}
use Rattle.pungi_code.specs.declared.code.Line.{Line}
use Rattle.pungi_code.specs.Limits.{most_variables}
use Rattle.pungi_code.specs.WellFormed.{is_slot_kind}
use Rattle.pungi_idle.specs.IdleCode.{idle_kind, idle_kinds, is_kept, idle}
use Rattle.pungi_idle.specs.Laws.{IsFormedIdle}
use Rattle.pungi_idle.proofs.Alike.{named_kept}
use Rattle.pungi_idle.proofs.Entering.{both, kept_in, kinds_long}
use Rattle.pungi_idle.proofs.Naming.{from_none, no_further, shifted}
use Rattle.pungi_idle.proofs.SameKinds.{sound_same}

kind_stays : (b : Bool) (k : Param) → b ≡ true → idle_kind b k ≡ k
kind_stays true k e = refl
kind_stays false k e = absurd (cc)

kinds_at : (ls : List Line) (taken : List ℕ) (n x : ℕ) (ks : List Param) (y : ℕ) (d : Param)
    → is_kept ls taken n (x + y) ≡ true
    → get_or (idle_kinds ls taken n x ks) y d ≡ get_or ks y d
kinds_at ls taken n x [] y d kept = refl
kinds_at ls taken n x (k ∷ ks) zero d kept =
    kind_stays (is_kept ls taken n x) k (subst (λ m. is_kept ls taken n m ≡ true) (no_further x) kept)
kinds_at ls taken n x (k ∷ ks) (suc y) d kept =
    kinds_at ls taken n (x + 1) ks y d (subst (λ m. is_kept ls taken n m ≡ true) (shifted x y) kept)

-- an idle variable is a number
held_stays : (b : Bool) (k : Param) → is_slot_kind k ≡ true → is_slot_kind (idle_kind b k) ≡ true
held_stays true k e = e
held_stays false param.ObjectOrNull e = refl
held_stays false param.TextOrNull e = refl
held_stays false param.Int e = e
held_stays false param.Long e = e
held_stays false param.Size e = e
held_stays false param.Object e = e
held_stays false param.Text e = e
held_stays false param.ModuleDef e = e

kinds_held : (ls : List Line) (taken : List ℕ) (n x : ℕ) (ks : List Param) → list_all is_slot_kind ks ≡ true
    → list_all is_slot_kind (idle_kinds ls taken n x ks) ≡ true
kinds_held ls taken n x [] e = refl
kinds_held ls taken n x (k ∷ ks) e =
    let h = and_parts (is_slot_kind k) (list_all is_slot_kind ks) e in
    both (is_slot_kind (idle_kind (is_kept ls taken n x) k)) (list_all is_slot_kind (idle_kinds ls taken n (x + 1) ks))
    (held_stays (is_kept ls taken n x) k h.0) (kinds_held ls taken n (x + 1) ks h.1)

pub formed : (c : Code) → IsFormedIdle c
formed c h =
    let taken = c.terms.convention.taken in
    let long = kinds_long c.instrs taken c.params 0 c.vars in
    record {
      params = h.params;
      among = h.among;
      locals = subst (λ n. c.locals ≤ n) (sym long) h.locals;
      vars = subst (λ n. n ≤ most_variables) (sym long) h.vars;
      few = h.few;
      kinds = kinds_held c.instrs taken c.params 0 c.vars h.kinds;
      sound = λ place line at.
          sound_same (λ x. kept_in c x ≡ true) c (idle c).vars long
          (λ x kept. kinds_at c.instrs taken c.params 0 c.vars x param.ModuleDef
          (subst (λ n. kept_in c n ≡ true) (from_none x) kept)) line.instr
          (named_kept c place line at) ∙ h.sound place line at;
      last = h.last;
      back = h.back;
    }
