-- Verdicts that are right can be reported.
use Rattle.std.proofs.Common.{◌≡◌, inl, inr, ℕ, zero, suc, List, [], ◌∷◌, map, Option, Some, None, refl, subst}
use Rattle.std.specs.Prelude.{slice_get}
use Rattle.std.specs.List.{All, AllZip}
use Rattle.std.proofs.lemmas.List.Elements.{All-cons, All-nil}
use Rattle.pungi_base.specs.declared.names.Name.{Name}
use Rattle.pungi_base.specs.declared.pos.Pos.{Pos}
use Rattle.pungi_base.specs.declared.verdict.Verdict.{Verdict}
use Rattle.pungi_base.specs.declared.verdict.Verdict.TheVariants as verdict
use Rattle.pungi_base.specs.declared.why.Why.{Why}
use Rattle.pungi_base.specs.declared.why.Why.TheVariants as why
use Rattle.pungi_types.specs.declared.finding.Finding.{Finding}
use Rattle.pungi_types.specs.Files.{Definition, definitions}
use Rattle.pungi_types.specs.Functions.{refusal}
use Rattle.pungi_types.specs.Refused.{CheckedFile}
use Rattle.pungi_resolve.specs.Functions.{resolved}
use Rattle.pungi_resolve.specs.Resolutions.{file_functions}
use Rattle.pungi_resolved.specs.Functions.{ResolvedFunction}
use Rattle.pungi_code.specs.declared.code.Code.{Code}
use Rattle.pungi_code.specs.declared.code.Codes.{Codes}
use Rattle.pungi_inline.specs.FirstCall.{first_call}
use Rattle.pungi_lower.specs.Lowered.{names_of}
use Rattle.pungi_verdict.specs.Across.{IsAcross, if_call, verdict_across}
use Rattle.pungi_verdict.specs.Causes.{code_in, file_codes, IsUnknown, IsDecidedAt, IsDecidedBy, IsCausedIn}
use Rattle.pungi_verdict.specs.declared.relations.Tried.{Tried}
use Rattle.pungi_verdict.specs.declared.relations.Tried.TheVariants as tried
use Rattle.pungi_verdict.specs.Refusals.{IsRefusedAt}
use Rattle.pungi_verdict.specs.Sound.{statics_of, IsTrueOf}
use Rattle.pungi_verdict.specs.Verdicts.{IsJudged, IsReason, IsReportable}

named-at : (ds : List Definition) (g : ℕ) (name : Name) → slice_get (map (λ (d : Definition). d.name) ds) g ≡ Some name
    → (d : Definition) × ((slice_get ds g ≡ Some d) × (d.name ≡ name))
named-at [] g name e = absurd (cc)
named-at (d ∷ ds) zero name e = (d, (refl, let same : d.name ≡ name = cc in same))
named-at (d ∷ ds) (suc g) name e = named-at ds g name e

by-reason : (c : CheckedFile) (codes : Codes) (f : ℕ) (because : Why) → IsUnknown codes f because → IsReason c because
by-reason c codes f why.Traces h = tt
by-reason c codes f why.Shapes h = tt
by-reason c codes f (why.Range at numbers) h = tt
by-reason c codes f (why.Number at) h = tt
by-reason c codes f (why.Loop at) h = tt
by-reason c codes f (why.Call at n) h = absurd h

by-decided : (c : CheckedFile) (codes : Codes) (f : ℕ) (code : Code) (because : Why) (o : Option (Pos × ℕ))
    → IsDecidedBy codes f (names_of c) code (verdict.Unknown because) o → IsReason c because
by-decided c codes f code because None h = by-reason c codes f because h
by-decided c codes f code (why.Call at name) (Some call) h =
    (h.0.0, named-at (definitions c.file.items) h.0.0 name h.0.1.1)
by-decided c codes f code why.Traces (Some call) h = absurd h
by-decided c codes f code why.Shapes (Some call) h = absurd h
by-decided c codes f code (why.Range at numbers) (Some call) h = absurd h
by-decided c codes f code (why.Number at) (Some call) h = absurd h
by-decided c codes f code (why.Loop at) (Some call) h = absurd h

-- ---- functions judged across others

first-reason : (c : CheckedFile) (d : Definition) (reason : Why)
    → IsDecidedAt (names_of c) (statics_of c) (code_in c d) (verdict.Unknown reason) → IsReason c reason
first-reason c d reason decided =
    by-decided c decided.codes decided.place (code_in c d) reason (first_call (code_in c d).instrs) decided.decided

called-reason : (c : CheckedFile) (reason other : Why) → IsReason c reason → IsReason c other
    → IsReason c (if_call reason other)
called-reason c (why.Call at name) other first second = second
called-reason c why.Traces other first second = tt
called-reason c why.Shapes other first second = tt
called-reason c (why.Range at numbers) other first second = tt
called-reason c (why.Number at) other first second = tt
called-reason c (why.Loop at) other first second = tt

same-reason : (a b : Why) → verdict.Unknown a ≡ verdict.Unknown b → b ≡ a
same-reason a b e = cc

tried-reason : (c : CheckedFile) (reason because : Why) (t : Tried) → IsReason c reason
    → verdict.Unknown because ≡ verdict_across reason t → IsReason c because
tried-reason c reason because tried.Found first e = absurd (cc)
tried-reason c reason because tried.NotFound first e = subst (IsReason c) (same-reason because reason e) first
tried-reason c reason because tried.TooLarge first e =
    subst (IsReason c) (same-reason because (if_call reason why.Shapes) e) (called-reason c reason why.Shapes first tt)
tried-reason c reason because (tried.LargeSpan at numbers) first e =
    subst (IsReason c) (same-reason because (if_call reason (why.Range at numbers)) e)
    (called-reason c reason (why.Range at numbers) first tt)

across-reason : (c : CheckedFile) (d : Definition) (codes : Codes) (f : ℕ) (because : Why) (first : Verdict)
    → IsDecidedAt (names_of c) (statics_of c) (code_in c d) first → IsAcross codes f first (verdict.Unknown because)
    → IsReason c because
across-reason c d codes f because verdict.Clean decided e = absurd (cc)
across-reason c d codes f because (verdict.Faulty fault) decided e = absurd (cc)
across-reason c d codes f because (verdict.Refused at rule) decided e = absurd (cc)
across-reason c d codes f because (verdict.Unknown reason) decided e =
    let first = first-reason c d reason decided in
    elim e [
      | inl own ↦ subst (IsReason c) (same-reason because reason own.1) first
      | inr other ↦ tried-reason c reason because other.0 first other.1.1
    ]

by-cause : (c : CheckedFile) (d : Definition) (o : Option Finding) (because : Why)
    → IsRefusedAt o (verdict.Unknown because) → IsCausedIn c d o (verdict.Unknown because) → IsReason c because
by-cause c d (Some e) because refused caused = absurd (cc)
by-cause c d None because refused caused =
    across-reason c d (file_codes c) caused.place because caused.first caused.by_copies caused.across

right-reportable : (c : CheckedFile) (d : Definition) (fs : List (Option ResolvedFunction)) (n : ℕ)
    (f : ResolvedFunction) (o : Option Finding) (v : Verdict) → IsTrueOf fs n f v → IsRefusedAt o v
    → IsCausedIn c d o v → IsReportable c v
right-reportable c d fs n f o verdict.Clean true_of refused caused = tt
right-reportable c d fs n f o (verdict.Faulty fault) true_of refused caused = true_of.1.returns.all_used
right-reportable c d fs n f o (verdict.Unknown because) true_of refused caused = by-cause c d o because refused caused
right-reportable c d fs n f o (verdict.Refused at rule) true_of refused caused = tt

pub reportable : (c : CheckedFile) (ds : List Definition) (lines : List (Name × Verdict))
    → AllZip (IsJudged c) ds lines → All (λ (line : Name × Verdict). IsReportable c line.1) lines
reportable c [] [] judged = All-nil (λ (line : Name × Verdict). IsReportable c line.1)
reportable c [] (line ∷ lines) judged = absurd judged
reportable c (d ∷ ds) [] judged = absurd judged
reportable c (d ∷ ds) (line ∷ lines) judged =
    let here = judged.0 in
    All-cons (λ (line : Name × Verdict). IsReportable c line.1) line lines
    (right-reportable c d (file_functions c) (statics_of c) (resolved c.file c.refused d)
    (refusal c.file c.refused d) line.1 here.sound.1 here.refused here.caused) (reportable c ds lines judged.1)
