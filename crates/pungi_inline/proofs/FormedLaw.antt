-- The law of well-formed codes: a code with copies is well-formed among the codes of the file, and alone where no calls
-- are left, and it has the entries and the terms of the code itself.
use Rattle.std.proofs.Common.{◌≡◌, ℕ, Bool, true, false, ◌&&◌, List, take, refl, ap, ◌∙◌}
use Rattle.std.proofs.Common.{subst, arith}
use Rattle.std.specs.Prelude.{nat_le, nat_lt, ◌^◌, if◌then◌else◌}
use Rattle.std.proofs.lemmas.List.{take-append-le}
use Rattle.pungi_base.specs.declared.names.Name.{Name}
use Rattle.pungi_api.specs.declared.param.Param.{Param}
use Rattle.pungi_code.specs.declared.code.Code.{Code}
use Rattle.pungi_code.specs.declared.code.Codes.{Codes}
use Rattle.pungi_code.specs.Alone.{CallsNone}
use Rattle.pungi_code.specs.Entries.{hold_values}
use Rattle.pungi_code.specs.WellFormed.{AreWellFormed, AgreeOnKinds, IsAlone, IsWellFormed, IsWellFormedAmong, kinds_of}
use Rattle.pungi_code.specs.WellFormed.{has_statics}
use Rattle.pungi_code.proofs.AloneLemmas.{well_formed_alone}
use Rattle.pungi_inline.specs.Inlined.{all_kinds, expanded, replaced, inlined}
use Rattle.pungi_inline.specs.Laws.{one_code, IsFormedInlined}
use Rattle.pungi_inline.specs.Sites.{has_site, is_small}
use Rattle.pungi_inline.proofs.CalledCodes.{numbered}
use Rattle.pungi_inline.proofs.Formed.{replaced_among}
use Rattle.pungi_inline.proofs.SlotKinds.{SlotsOf, own_slots, replaced_slots, agree_alone}
use Rattle.pungi_inline.proofs.StaticsThere.{replaced_there}

-- ---- entries

abbrev ParamsAre : Code → Code → Type 0
ParamsAre a b = take a.params a.vars ≡ take b.params b.vars

-- a round of copies leaves the parameters
params_kept : (codes : Codes) (c : Code) → IsWellFormedAmong (kinds_of codes) c
    → ParamsAre (replaced codes.codes c) c
params_kept codes c h =
    let a = h.among in
    let b = h.locals in
    let of : (x : Bool) → ParamsAre (if x then expanded codes.codes c else c) c =
    λ x. elim x as (λ y. ParamsAre (if y then expanded codes.codes c else c) c) [
      | true ↦ take-append-le c.params c.vars (all_kinds codes.codes c.instrs) (omega (arith, a, b))
      | false ↦ refl
    ] in
    of (has_site codes.codes c.instrs && is_small codes.codes c)

-- ---- terms

-- nor does it change the terms
terms_kept : (codes : Codes) (c : Code) → (replaced codes.codes c).terms ≡ c.terms
terms_kept codes c =
    let of : (x : Bool) → (if x then expanded codes.codes c else c).terms ≡ c.terms =
    λ x. elim x as (λ y. (if y then expanded codes.codes c else c).terms ≡ c.terms) [
      | true ↦ refl
      | false ↦ refl
    ] in
    of (has_site codes.codes c.instrs && is_small codes.codes c)

-- ---- alone

-- a file with this code alone
stands_alone : (codes : Codes) → AreWellFormed codes → (c : Code) → IsWellFormedAmong (kinds_of codes) c
    → SlotsOf codes c.instrs → has_statics codes.statics c ≡ true → CallsNone c.instrs → (name : Name)
    → IsAlone (one_code codes.statics name c) 0
stands_alone codes formed c h slots there none name =
    let few = formed.few in
    record {
      each = λ a e.
          let same : c ≡ a = cc in
          subst (λ (x : Code). IsWellFormed x) same (well_formed_alone (kinds_of codes) c none h);
      kinds = λ a b e f.
          let same : c ≡ a = cc in
          let too : c ≡ b = cc in
          subst (λ (x : Code). AgreeOnKinds a x) too
          (subst (λ (x : Code). AgreeOnKinds x c) same (agree_alone codes formed c slots));
      there = λ a e.
          let same : c ≡ a = cc in
          subst (λ (x : Code). has_statics codes.statics x ≡ true) same there;
      names = refl;
      few = omega arith;
      statics = formed.statics;
    }

-- ---- the law

pub formed_inlined : (codes : Codes) (f : ℕ) (c : Code) → IsFormedInlined codes f c
formed_inlined codes f c formed e =
    let at = numbered codes.codes f c e in
    let cs = codes.codes in
    let one = formed.each f c at in
    let two = replaced_among codes formed c one in
    let three = replaced_among codes formed (replaced codes.codes c) two in
    let four = replaced_among codes formed (replaced codes.codes (replaced codes.codes c)) three in
    let slots = replaced_slots codes (replaced codes.codes (replaced codes.codes c))
    (replaced_slots codes (replaced codes.codes c) (replaced_slots codes c (own_slots codes f c at))) in
    let there = replaced_there codes formed (replaced codes.codes (replaced codes.codes c))
    (replaced_there codes formed (replaced codes.codes c) (replaced_there codes formed c (formed.there f c at))) in
    record {
      among = four;
      there = there;
      whole = λ none name. stands_alone codes formed (inlined codes.codes c) four slots there none name;
      fits = λ entry.
          ap (λ (ks : List Param). nat_le codes.statics entry.objects && (nat_lt entry.objects (2 ^ 31)
          && hold_values entry.objects ks entry.args))
          (params_kept codes (replaced codes.codes (replaced codes.codes c)) three
          ∙ params_kept codes (replaced codes.codes c) two ∙ params_kept codes c one);
      terms = terms_kept codes (replaced codes.codes (replaced codes.codes c))
          ∙ terms_kept codes (replaced codes.codes c) ∙ terms_kept codes c;
    }
