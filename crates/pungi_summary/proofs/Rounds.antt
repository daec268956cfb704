-- Each step of the search is a round of a build.
--   spans_at_first         the second spans at first
--   spans_after            a step adds an annotation's exit spans
--   large_round            a large step is a large round
use Rattle.std.proofs.Common.{◌≡◌, ◌∙◌, inl, inr, ℕ, ℤ, Bool, List, [], Option, Some, sym, ap, subst}
use Rattle.std.proofs.Common.{arith}
use Rattle.std.specs.Prelude.{slice_get}
use Rattle.std.specs.List.{slice_index_or}
use Rattle.std.proofs.lemmas.Option.{slice_get_within}
use Rattle.pungi_domain.specs.Builds.{Covers}
use Rattle.pungi_domain.specs.Spans.{LargeGrow}
use Rattle.pungi_domain.specs.Vectors.{Vectors, Either}
use Rattle.pungi_domain.specs.declared.affine_program.AffineProgram.{AffineProgram}
use Rattle.pungi_fixpoint.specs.Duties.{stage_of}
use Rattle.pungi_fixpoint.specs.Summaries.{exit_of, flatten}
use Rattle.pungi_summary.specs.Builds.{AreSecondSpans, IsLargeRound, spans_added, spans_first}
use Rattle.pungi_summary.specs.Calls.{program_of}
use Rattle.pungi_summary.specs.Results.{AreFirstExits, AreValues}
use Rattle.pungi_summary.specs.Steps.{IsLargeStep, IsStep}
use Rattle.pungi_summary.specs.declared.failing.Failing.{Failing}
use Rattle.pungi_summary.proofs.Reading.{AreExitsPut}

pub spans_at_first : {D : Type 0} (least : Bool) (member : D → Vectors) (width : D → ℕ)
    (ps : List (Option AffineProgram)) (exits : List (List (Option D))) → AreFirstExits least member width ps exits
    → AreSecondSpans least member ps (exit_of exits)
spans_at_first least member width ps exits first = spans_first (exit_of exits) (λ f c p p_is lt.
    let none = first.none f p p_is in
    let d = none.values.each c lt in
    (d.0, ap flatten d.1, none.none c d.0 d.1))

module _ {D : Type 0} (least : Bool) (member : D → Vectors) (width : D → ℕ) (ps : List (Option AffineProgram)) (f : ℕ)
    (p : AffineProgram) (p_is : program_of ps f ≡ Some p) (exits : List (List (Option D)))
    (values : AreValues width p.exits (slice_index_or exits f []))
    (spans : AreSecondSpans least member ps (exit_of exits)) where
  pub spans_after : (failing : Failing) (new : List (Option D)) (exits' : List (List (Option D)))
      → IsStep least member width p exits f failing new → AreExitsPut f new exits exits'
      → AreSecondSpans least member ps (exit_of exits')
  spans_after failing new exits' step change =
      spans_added (exit_of exits) (exit_of exits') f p (stage_of step.at step.added) spans p_is step.built (record {
        others = λ g c other. ap (λ (ds : List (Option D)). flatten (slice_get ds c)) (change.others g other);
        added = λ c first second first_is second_is.
            let lt_added = slice_get_within step.added c first first_is in
            let classes = step.widths.classes in
            let d = values.each c (omega (arith, lt_added, classes)) in
            let d_at : exit_of exits f c ≡ Some d.0 = ap flatten d.1 in
            let same : d.0 ≡ second = cc (d_at, second_is) in
            let s = step.grown.each c d.0 first d.1 first_is in
            let s_at : exit_of exits' f c ≡ Some s.0 =
            ap (λ (ds : List (Option D)). flatten (slice_get ds c)) change.this ∙ ap flatten s.1 in
            let covers = subst (λ n. Covers least n (Either (member d.0) (member first)) (member s.0)) d.2
            s.2.covers in (
              s.0,
              s_at,
              subst (λ (x : D). Covers least (slice_index_or p.exits c 0) (Either (member x) (member first))
                  (member s.0)) same covers,
            );
      })

  pub large_round : (r : List ℤ) → IsLargeStep least member width p exits f r → IsLargeRound least member ps f r
  large_round r (inl h) =
      record { second = exit_of exits; spans = spans; program = p; program_is = p_is; large = inl h }
  large_round r (inr h) =
      let g = h.4 in
      let c = g.0 in
      let d = g.1 in
      let a = g.2 in
      let lt_added = slice_get_within h.1 c a g.4 in
      let classes = h.2.classes in
      let v = values.each c (omega (arith, lt_added, classes)) in
      let at = v.1 in
      let d_is = g.3 in
      let same : v.0 ≡ d = cc (at, d_is) in
      let wide : width d ≡ slice_index_or p.exits c 0 = ap width (sym same) ∙ v.2 in
      record {
        second = exit_of exits;
        spans = spans;
        program = p;
        program_is = p_is;
        large = inr (
          stage_of h.0 h.1,
          h.3,
          (c, a, d, g.4, ap flatten g.3, subst (λ n. LargeGrow n (member d) (member a) r) wide g.5),
        );
      }
