-- What linear equations across functions show of the runs of a function.
use Rattle.std.proofs.Common.{◌≡◌, ◌∙◌, ◌⊎◌, inl, inr, ℕ, ◌<◌, ◌≤◌, true, List, length, Option, Some, None, refl, ap}
use Rattle.std.proofs.Common.{subst}
use Rattle.std.specs.Prelude.{IsSome}
use Rattle.std.specs.List.{IsAmong, slice_index_or}
use Rattle.std.proofs.lemmas.List.{get_or_default}
use Rattle.pungi_base.specs.declared.entry.Entry.{Entry}
use Rattle.pungi_api.specs.declared.terms.Terms.{Terms}
use Rattle.pungi_domain.specs.Vectors.{Vectors}
use Rattle.pungi_domain.specs.declared.affine_program.AffineProgram.{AffineProgram}
use Rattle.pungi_domain.specs.declared.target.Target.{Target}
use Rattle.pungi_domain.specs.declared.target.Target.TheVariants as target
use Rattle.pungi_fixpoint.specs.Duties.{IsOfKind}
use Rattle.pungi_fixpoint.specs.declared.duty_kind.DutyKind.TheVariants.{OfPlaces, OfExits}
use Rattle.pungi_affine.specs.States.{SpanMember}
use Rattle.pungi_summary.specs.Calls.{Reaches, program_of, reaches_self}
use Rattle.pungi_world.specs.Escapes.{IsBalanced}
use Rattle.pungi_resolved.specs.Functions.{ResolvedFunction}
use Rattle.pungi_meaning.specs.Entries.{entry_fits}
use Rattle.pungi_meaning.specs.Run.{Run}
use Rattle.pungi_code.specs.declared.code.Code.{Code}
use Rattle.pungi_code.specs.declared.code.Codes.{Codes}
use Rattle.pungi_code.specs.Entries.{code_fits}
use Rattle.pungi_code.specs.Limits.{steps_an_instruction}
use Rattle.pungi_code.specs.Run.{code_at}
use Rattle.pungi_code.specs.WellFormed.{AreWellFormed}
use Rattle.pungi_layout.specs.alike.Correct.{Behaves}
use Rattle.pungi_shape.specs.Families.{AreSafeSets, IsAlwaysBalancedAmong, IsKeptBy, IsPlace}
use Rattle.pungi_shape.specs.Families.{ValuesAreBalancedAmong}
use Rattle.pungi_shape.specs.Named.{functions_from}
use Rattle.pungi_shape.specs.Promises.{vectors_of}
use Rattle.pungi_shape.specs.Reaching.{FunctionsAreReached}
use Rattle.pungi_verdict.specs.Across.{HasRelationsAcross}
use Rattle.pungi_verdict.specs.Sound.{IsClean}
use Rattle.pungi_verdict.proofs.Reached.{reaches-called}
use Rattle.pungi_verdict.proofs.Transport.{returned-over}

-- ---- sets

of-place : (t : Target) → IsPlace t → IsOfKind OfPlaces t
of-place (target.Place k) place = tt
of-place (target.Exit k) place = absurd place

kind-of : (t : Target) → IsOfKind OfPlaces t ⊎ IsOfKind OfExits t
kind-of (target.Place k) = inl tt
kind-of (target.Exit k) = inr tt

some-program : (o : Option AffineProgram) → IsSome o → (p : AffineProgram) × (o ≡ Some p)
some-program None is = absurd (cc)
some-program (Some p) is = (p, refl)

module _ (codes : Codes) (f : ℕ) (r : HasRelationsAcross codes f) where
  abbrev sets-at : ℕ → ℕ → Vectors
  sets-at g k = vectors_of SpanMember (r.at g k)

  abbrev sets-left : ℕ → ℕ → Vectors
  sets-left g c = vectors_of SpanMember (r.exits g c)

  abbrev kept : (g : ℕ) → Reaches r.file.callees f g → IsKeptBy codes g sets-at sets-left
  kept g reaches =
      let has = some-program (program_of r.file.programs g) (r.programs g reaches) in
      record {
        program = has.0;
        is = r.file.are_programs.each g has.0 has.1;
        inductive = r.safe.inductive g has.0 reaches has.1;
        drops = λ i d lt place v at meets. r.safe.place_duties g has.0 reaches has.1 i d lt
            (of-place (slice_index_or has.0.edges i d).to place) v at meets;
      }

  pub safe-sets : FunctionsAreReached → AreSafeSets codes f sets-at sets-left
  safe-sets law = record {
    each = λ i d lt. let g = slice_index_or (functions_from codes f) i d in
        kept g (reaches-called codes r.file.callees r.file.are_callees f g
        ((law codes f g).0 (among-itself i d lt)));
    own = kept f (reaches_self f);
    safe = λ i d lt v at meets. elim (kind-of (slice_index_or own-program.0.edges i d).to) [
      | inl place ↦ r.safe.place_duties f own-program.0 (reaches_self f) own-program.1 i d lt place v at meets
      | inr exit ↦ r.safe.exit_duties own-program.0 own-program.1 i d lt exit v at meets
    ];
  }
    where
      own-program : (p : AffineProgram) × (program_of r.file.programs f ≡ Some p)
      own-program = some-program (program_of r.file.programs f) (r.programs f (reaches_self f))

      among-itself : (i d : ℕ) (lt : i < length (functions_from codes f))
          → IsAmong (functions_from codes f) (slice_index_or (functions_from codes f) i d)
      among-itself i d lt = (
        i,
        (
          lt,
          get_or_default (functions_from codes f) i d
              (slice_index_or (functions_from codes f) i d) lt,
        ),
      )

-- ---- runs

pub shown-clean : FunctionsAreReached → ValuesAreBalancedAmong SpanMember → (fs : List (Option ResolvedFunction))
    (codes : Codes) (i : ℕ) (f : ResolvedFunction) (code : Code) → AreWellFormed codes → code_at codes i ≡ Some code
    → code.terms ≡ f.terms
    → ((entry : Entry) → code_fits codes.statics code entry ≡ entry_fits f.params codes.statics entry)
    → ((entry : Entry) → entry_fits f.params codes.statics entry ≡ true → length entry.args ≤ f.locals)
    → Behaves fs codes.codes f code steps_an_instruction → HasRelationsAcross codes i → IsClean fs codes.statics f
shown-clean reached law fs codes i f code formed is terms fits within behaves r =
    λ entry fit choices steps world value p used e.
    let balanced : IsAlwaysBalancedAmong codes code =
    law codes i code r.at r.exits formed is (safe-sets codes i r reached) in
    let alike = behaves.alike entry choices (within entry fit) in
    let run = alike.ends steps (returned-over _ world value p used e) in
    subst (λ (t : Terms). IsBalanced t entry world value) terms
    (balanced entry choices run.0 world value p used (fits entry ∙ fit) (ap (λ (x : Run). x.end) run.1 ∙ e))
