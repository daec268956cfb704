use Rattle.std.proofs.Common.{◌≡◌, ◌∙◌, ◌<◌, ℕ, ℤ, true, List, Option, Some, ap, arith, length, refl, slice_get}
use Rattle.std.proofs.Common.{subst, sym}
use Rattle.std.specs.Prelude.{◌↔◌}
use Rattle.pungi_domain.specs.declared.affine_program.AffineProgram.{AffineProgram}
use Rattle.pungi_affine.specs.States.{SpanMember, SpanState}
use Rattle.pungi_fixpoint.specs.declared.state.State.TheVariants as state
use Rattle.pungi_summary.specs.Calls.{AreCallable, LacksProgram}
use Rattle.pungi_summary.specs.Results.{AreAnnotated, HasRange, IsNotSafe}
use Rattle.pungi_verdict.proofs.Asked.{code-below}
use Rattle.pungi_verdict.proofs.Stated.{state-true}
use Rattle.pungi_verdict.proofs.across.Across.of.Goals as goal

pub summarise-requires-clause-few : goal.summarise-requires-clause-few
summarise-requires-clause-few c =
    let count = c.in_ok-programs.ensures.programs.count in
    let same = ap (λ (l : List (Option AffineProgram)). length l) c.as_slice.ensures in
    let few = c.requires.few in
    omega (arith, count, same, few)

pub summarise-requires-clause-callable : goal.summarise-requires-clause-callable
summarise-requires-clause-callable c =
    subst (λ (ps : List (Option AffineProgram)). AreCallable ps c.as_slice-2.result.now) (sym c.as_slice.ensures)
    (subst (AreCallable c.in_ok-programs.programs) (sym c.as_slice-2.ensures)
    (c.in_ok-programs.ensures.callable c.in_ok-callees.callees c.in_ok-callees.ensures))

pub returns : goal.returns
returns c =
    let codes = c.args.codes.now in
    let ps = c.in_ok-programs.programs in
    let ns = c.in_ok-callees.callees in
    let s = c.in_ok-summaries.summaries in
    let told = c.in_ok-summaries.ensures in
    let are = c.in_ok-programs.ensures.programs in
    let same = c.as_slice.ensures in
    let listed = c.as_slice-2.ensures in
    let both = λ (P : List (Option AffineProgram) → List (List ℕ) → Type 0)
    (h : P c.as_slice.result.now c.as_slice-2.result.now).
    subst (λ (qs : List (Option AffineProgram)). P qs ns) same (subst (P c.as_slice.result.now) listed h) in
    let shapes = both (λ qs ms. (f : ℕ) → f < length qs → slice_get s.states f ≡ Some state.Shapes
    ↔ LacksProgram qs ms f) told.shapes in
    let annotated = both (λ qs ms. (at : ℕ → List SpanState) × AreAnnotated SpanMember qs ms at s) told.annotated in
    let not_safe = both (λ qs ms. IsNotSafe qs ms s) (told.not_safe refl) in
    let range = both (λ qs ms. (f k : ℕ) (row : List ℤ) → slice_get s.states f ≡ Some (state.Range k row)
    → HasRange true SpanMember qs ms f k row) told.range in
    let count = ap (λ (l : List (Option AffineProgram)). length l) same in
    record {
      are_programs = are;
      are_callees = c.in_ok-callees.ensures;
      count = told.count ∙ count ∙ are.count;
      states = λ f code t is e. state-true codes c.requires c.callees_are_called.ensures c.functions_are_reached.ensures
          ps ns are c.in_ok-callees.ensures s shapes annotated.0 annotated.1 not_safe range f code t is
          (subst (λ n. f < n) (sym are.count) (code-below codes f code is)) e;
    }
