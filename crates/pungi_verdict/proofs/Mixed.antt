-- The lines of a report while functions are judged again, one after the other.
use Rattle.std.proofs.Common.{◌≡◌, ◌∙◌, inl, inr, ℕ, ◌+◌, ◌<◌, ◌≤◌, ◌^◌, true, List, length, Option, Some, None, refl}
use Rattle.std.proofs.Common.{sym, subst}
use Rattle.std.proofs.Common.{slice_get, arith}
use Rattle.std.specs.Prelude.{IsSome}
use Rattle.std.specs.List.{AllZip, list_all}
use Rattle.std.proofs.lemmas.Bool.{cases_lt}
use Rattle.std.proofs.lemmas.Option.{slice_get_within}
use Rattle.pungi_base.specs.declared.names.Name.{Name}
use Rattle.pungi_base.specs.declared.verdict.Verdict.{Verdict}
use Rattle.pungi_base.specs.declared.verdict.Verdict.TheVariants as verdict
use Rattle.pungi_base.specs.declared.why.Why.{Why}
use Rattle.pungi_affine.specs.States.{SpanMember}
use Rattle.pungi_check.specs.Found.{is_sound_function}
use Rattle.pungi_types.specs.declared.finding.Finding.{Finding}
use Rattle.pungi_types.specs.Files.{Definition, definitions}
use Rattle.pungi_types.specs.Functions.{refusal}
use Rattle.pungi_types.specs.Refused.{CheckedFile}
use Rattle.pungi_resolve.specs.Functions.{resolved}
use Rattle.pungi_resolve.specs.Resolutions.{file_functions, resolutions}
use Rattle.pungi_code.specs.declared.code.Code.{Code}
use Rattle.pungi_code.specs.declared.code.Codes.{Codes}
use Rattle.pungi_code.specs.Run.{code_at}
use Rattle.pungi_code.specs.WellFormed.{AreWellFormed, kinds_of}
use Rattle.pungi_layout.specs.code.FunctionCode.{code_of}
use Rattle.pungi_lower.specs.Lowered.{AreLowered}
use Rattle.pungi_shape.specs.Families.{ValuesAreBalancedAmong}
use Rattle.pungi_shape.specs.Reaching.{FunctionsAreReached}
use Rattle.pungi_verdict.specs.declared.relations.Tried.{Tried}
use Rattle.pungi_verdict.specs.declared.relations.Tried.TheVariants as tried
use Rattle.pungi_verdict.specs.Across.{CallsNoFunction, HasRelationsAcross, IsAcross, IsTriedAcross, is_unknown}
use Rattle.pungi_verdict.specs.Across.{verdict_across}
use Rattle.pungi_verdict.specs.Causes.{IsCausedByCopies, IsCausedIn, file_codes}
use Rattle.pungi_verdict.specs.Refusals.{IsRefusedAt}
use Rattle.pungi_verdict.specs.Sound.{HasMeaning, IsClean, IsSound, IsTrueOf, statics_of}
use Rattle.pungi_verdict.specs.Verdicts.{IsJudged, IsJudgedByCopies}
use Rattle.pungi_verdict.proofs.Files.{code-there, joined-is, lowered-there, resolution-at, same-some, sound-among}
use Rattle.pungi_verdict.proofs.Forms.{judged}
use Rattle.pungi_verdict.proofs.Meaning.{has-meaning}
use Rattle.pungi_verdict.proofs.Shown.{shown-clean}
use Rattle.pungi_verdict.proofs.Zipped.{all-zip, zipped}

pub record AreJudgedBelow (c : CheckedFile) (ds : List Definition) (lines : List (Name × Verdict)) (k : ℕ)
    : Type 0 where
  pub count : length ds ≡ length lines
  pub done : (i : ℕ) (d : Definition) (line : Name × Verdict) → i < k → slice_get ds i ≡ Some d
      → slice_get lines i ≡ Some line → IsJudged c d line
  pub others : (i : ℕ) (d : Definition) (line : Name × Verdict) → k ≤ i → slice_get ds i ≡ Some d
      → slice_get lines i ≡ Some line → IsJudgedByCopies c d line

pub judged-none : (c : CheckedFile) (ds : List Definition) (lines : List (Name × Verdict))
    → AllZip (IsJudgedByCopies c) ds lines → AreJudgedBelow c ds lines 0
judged-none c ds lines h =
    let are = zipped (IsJudgedByCopies c) ds lines h in
    record {
      count = are.count;
      done = λ i d line lt at there. absurd (omega (arith, lt));
      others = λ i d line le at there. are.each i d line at there;
    }

pub judged-all : (c : CheckedFile) (ds : List Definition) (lines : List (Name × Verdict)) (k : ℕ) → length lines ≤ k
    → AreJudgedBelow c ds lines k → AllZip (IsJudged c) ds lines
judged-all c ds lines k past h =
    all-zip (IsJudged c) ds lines (record {
      count = h.count;
      each = λ i d line at there. let lt = slice_get_within lines i line there in
          h.done i d line (omega (arith, lt, past)) at there;
    })

-- ---- a function more

-- a function that is judged again, or left as it is
pub judged-next : (c : CheckedFile) (ds : List Definition) (lines new : List (Name × Verdict)) (k : ℕ)
    (line : Name × Verdict) (v : Verdict) → AreJudgedBelow c ds lines k → slice_get lines k ≡ Some line
    → length new ≡ length lines → ((i : ℕ) → (i ≡ k → ⊥) → slice_get new i ≡ slice_get lines i)
    → slice_get new k ≡ Some (line.0, v)
    → ((d : Definition) → slice_get ds k ≡ Some d → IsJudgedByCopies c d line → IsJudged c d (line.0, v))
    → AreJudgedBelow c ds new (k + 1)
judged-next c ds lines new k line v h at long kept put again = record {
  count = h.count ∙ sym long;
  done = λ i d l lt defined there. elim (cases_lt i k) [
    | inl less ↦ h.done i d l less defined (sym (kept i (λ e. absurd (omega (arith, e, less)))) ∙ there)
    | inr ge ↦
        let here : i ≡ k = omega (arith, lt, ge) in
        let defined_here = subst (λ n. slice_get ds n ≡ Some d) here defined in
        let same : (line.0, v) ≡ l = same-some (line.0, v) l
        (sym put ∙ subst (λ n. slice_get new n ≡ Some l) here there) in
        subst (IsJudged c d) same (again d defined_here (h.others k d line (omega arith) defined_here at))
  ];
  others = λ i d l le defined there.
      h.others i d l (omega (arith, le)) defined (sym (kept i (λ e. absurd (omega (arith, e, le)))) ∙ there);
}

-- ---- what is so where no function that calls others is left open

from-first : (c : CheckedFile) (codes : Codes) → codes ≡ file_codes c → (d : Definition) (f : ℕ)
    → slice_get (definitions c.file.items) f ≡ Some d → (o : Option Finding) (v : Verdict)
    → (is_unknown v ≡ true → CallsNoFunction codes f) → IsCausedByCopies c d o v → IsCausedIn c d o v
from-first c codes same d f at (Some e) v none h = h
from-first c codes same d f at None v none h = record {
  first = v;
  by_copies = h;
  place = f;
  is = at;
  across = stays v (λ unknown. subst (λ (cs : Codes). CallsNoFunction cs f) same (none unknown));
}
  where
    stays : (v : Verdict) → (is_unknown v ≡ true → CallsNoFunction (file_codes c) f) → IsAcross (file_codes c) f v v
    stays verdict.Clean calls_none = refl
    stays (verdict.Faulty fault) calls_none = refl
    stays (verdict.Unknown reason) calls_none = inl (calls_none refl, refl)
    stays (verdict.Refused at rule) calls_none = refl

pub all-stay : (c : CheckedFile) (codes : Codes) → codes ≡ file_codes c → (lines : List (Name × Verdict))
    → AllZip (IsJudgedByCopies c) (definitions c.file.items) lines
    → ((f : ℕ) (line : Name × Verdict) → slice_get lines f ≡ Some line → is_unknown line.1 ≡ true
    → CallsNoFunction codes f)
    → AllZip (IsJudged c) (definitions c.file.items) lines
all-stay c codes same lines h none =
    let are = zipped (IsJudgedByCopies c) (definitions c.file.items) lines h in
    all-zip (IsJudged c) (definitions c.file.items) lines (record {
      count = are.count;
      each = λ f d line at there.
          let by = are.each f d line at there in
          record {
            sound = by.sound;
            refused = by.refused;
            caused = from-first c codes same d f at (refusal c.file c.refused d) line.1 (none f line there) by.caused;
          };
    })

-- ---- a verdict across functions

module _ (c : CheckedFile) (codes : Codes) (same : codes ≡ file_codes c) (formed : AreWellFormed codes)
    (lowered : AreLowered c codes.codes) (sound : list_all is_sound_function (resolutions c) ≡ true)
    (few : codes.statics ≤ 2 ^ 30 + 24) (reached : FunctionsAreReached) (law : ValuesAreBalancedAmong SpanMember)
    (d : Definition) (f : ℕ) (at : slice_get (definitions c.file.items) f ≡ Some d) where
  -- a function that equations show to be clean is so
  shown : refusal c.file c.refused d ≡ None → HasRelationsAcross codes f
      → IsTrueOf (file_functions c) (statics_of c) (resolved c.file c.refused d) verdict.Clean
  shown none relations =
      let own = resolved c.file c.refused d in
      let code = code_of own in
      let there = code-there c codes f d own same at none refl in
      let low = lowered-there (file_functions c) c codes f d own lowered.1 at refl code there in
      let listed = joined-is (slice_get codes.codes f) code there in
      let form = judged (kinds_of codes) codes.statics code (formed.each f code listed) (formed.there f code listed) in
      let meant = has-meaning codes.statics own code (λ entry. low.fits codes.statics entry) form
      (sound-among (resolutions c) f own sound (resolution-at c f d at none)) few in
      let clean = shown-clean reached law (file_functions c) codes f own code formed there refl
      (λ entry. low.fits codes.statics entry) (λ entry. low.within codes.statics entry) low.alike relations in
      subst (λ (cs : Codes). HasMeaning cs.statics own × IsClean (file_functions c) cs.statics own) same (meant, clean)

  abbrev IsRight : Verdict → Type 0
  IsRight v = IsTrueOf (file_functions c) (statics_of c) (resolved c.file c.refused d) v × IsRefusedAt None v

  tried-right : (reason : Why) (t : Tried) → refusal c.file c.refused d ≡ None → IsTriedAcross codes f t
      → IsRight (verdict_across reason t)
  tried-right reason tried.Found none tried_so = (shown none tried_so, tt)
  tried-right reason tried.NotFound none tried_so = (tt, tt)
  tried-right reason tried.TooLarge none tried_so = (tt, tt)
  tried-right reason (tried.LargeSpan p numbers) none tried_so = (tt, tt)

  right : (first v : Verdict) → refusal c.file c.refused d ≡ None → IsRight first → IsAcross codes f first v → IsRight v
  right verdict.Clean v none by e = subst IsRight (sym e) by
  right (verdict.Faulty fault) v none by e = subst IsRight (sym e) by
  right (verdict.Refused p rule) v none by e = subst IsRight (sym e) by
  right (verdict.Unknown reason) v none by e = elim e [
    | inl own ↦ subst IsRight (sym own.1) by
    | inr other ↦ subst IsRight (sym other.1.1) (tried-right reason other.0 none other.1.0)
  ]

  refused-stays : (first v : Verdict) (e : Finding) → IsRefusedAt (Some e) first → IsAcross codes f first v → v ≡ first
  refused-stays verdict.Clean v e is across = across
  refused-stays (verdict.Faulty fault) v e is across = across
  refused-stays (verdict.Refused p rule) v e is across = across
  refused-stays (verdict.Unknown reason) v e is across = absurd (cc)

  by-finding : (o : Option Finding) → refusal c.file c.refused d ≡ o → (name : Name) (first v : Verdict)
      → IsAcross codes f first v → IsSound c d (name, first) → IsRefusedAt o first → IsCausedByCopies c d o first
      → IsSound c d (name, v) × (IsRefusedAt o v × IsCausedIn c d o v)
  by-finding (Some e) is name first v across so refused caused =
      let stays = refused-stays first v e refused across in (
        subst (λ (w : Verdict). IsSound c d (name, w)) (sym stays) so,
        (subst (IsRefusedAt (Some e)) (sym stays) refused, tt),
      )
  by-finding None is name first v across so refused caused =
      let now = right first v is (so.1, refused) across in (
        (so.0, now.0),
        (
          now.1,
          record {
            first = first;
            by_copies = caused;
            place = f;
            is = at;
            across = subst (λ (cs : Codes). IsAcross cs f first v) same across;
          },
        ),
      )

  pub again : (line : Name × Verdict) (v : Verdict) → IsAcross codes f line.1 v → IsJudgedByCopies c d line
      → IsJudged c d (line.0, v)
  again line v across by =
      let now = by-finding (refusal c.file c.refused d) refl line.0 line.1 v across by.sound by.refused by.caused in
      record { sound = now.0; refused = now.1.0; caused = now.1.1 }

-- ---- a function that is left open has code

unknown-found : (e : Finding) (v : Verdict) → is_unknown v ≡ true → IsRefusedAt (Some e) v → ⊥
unknown-found e verdict.Clean unknown refused = absurd (cc)
unknown-found e (verdict.Faulty fault) unknown refused = absurd (cc)
unknown-found e (verdict.Unknown reason) unknown refused = absurd (cc)
unknown-found e (verdict.Refused p rule) unknown refused = absurd (cc)

pub open-has-code : (c : CheckedFile) (codes : Codes) → codes ≡ file_codes c → (d : Definition) (f : ℕ)
    → slice_get (definitions c.file.items) f ≡ Some d → (line : Name × Verdict) → IsJudgedByCopies c d line
    → is_unknown line.1 ≡ true → IsSome (code_at codes f)
open-has-code c codes same d f at line judged unknown = by (refusal c.file c.refused d) refl judged.refused
  where
    by : (o : Option Finding) → refusal c.file c.refused d ≡ o → IsRefusedAt o line.1 → IsSome (code_at codes f)
    by (Some e) is refused = absurd (unknown-found e line.1 unknown refused)
    by None is refused =
        let there = code-there c codes f d (resolved c.file c.refused d) same at is refl in
        subst (λ (o : Option Code). IsSome o) (sym there) refl
