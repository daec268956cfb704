-- The test of the calls of a file, one function after the other.
--   IsFit ps fs p          a program is well-formed, and calls these functions alone, each as it has to be called
--   AreFitBelow, fit_more  the programs as far as they were tested
--   lists_below, below_lists    the callees of all functions
--   fit_here               what the test of one function finds
--   fit_all                what the test finds
use Rattle.std.proofs.Common.{◌≡◌, ◌∙◌, inl, inr, ℕ, ◌+◌, ◌<◌, ◌≤◌, List, [], length, Option, Some, sym, subst}
use Rattle.std.proofs.Common.{refl, arith, All}
use Rattle.std.proofs.lemmas.Bool.{cases_lt}
use Rattle.pungi_domain.specs.Programs.{IsWellFormed}
use Rattle.pungi_domain.specs.declared.affine_program.AffineProgram.{AffineProgram}
use Rattle.pungi_summary.specs.Calls.{AreCallable, IsCallable, IsCalled, callees_of, program_of}
use Rattle.pungi_summary.proofs.Callees.{caller_here, callees_within}
use Rattle.pungi_summary.proofs.Lists.{program_within, read_default}

abbrev pub IsFit : List (Option AffineProgram) → List ℕ → AffineProgram → Type 0
IsFit ps fs p = IsWellFormed p × All (λ e. IsCallable ps fs e.action) p.edges

abbrev pub AreFitBelow : List (Option AffineProgram) → List (List ℕ) → ℕ → Type 0
AreFitBelow ps callees n =
    (f : ℕ) (p : AffineProgram) → f < n → program_of ps f ≡ Some p → IsFit ps (callees_of callees f) p

pub lists_below : (ps : List (Option AffineProgram)) (callees : List (List ℕ)) → AreCallable ps callees
    → All (λ fs. All (λ g. g < length ps) fs) callees
lists_below ps callees callable = λ k d lt.
    subst (λ (fs : List ℕ). All (λ g. g < length ps) fs) (read_default callees k [] d lt)
    (callees_within ps callees k (length ps) callable refl)

pub below_lists : (callees : List (List ℕ)) (n : ℕ) → All (λ fs. All (λ g. g < n) fs) callees → (f g : ℕ)
    → IsCalled callees f g → g < n
below_lists callees n all f g m =
    let h = all f [] (caller_here callees f g m) in
    subst (λ x. x < n) m.2 (h m.0 g m.1)

pub fit_here : (ps : List (Option AffineProgram)) (callees : List (List ℕ)) (f : ℕ) (o : Option AffineProgram)
    (fs : List ℕ) → program_of ps f ≡ o → callees_of callees f ≡ fs → AreCallable ps callees → (p : AffineProgram)
    → o ≡ Some p → IsFit ps fs p
fit_here ps callees f o fs o_is fs_is callable p is = (
  callable.well_formed f p (o_is ∙ is),
  subst (λ (gs : List ℕ). All (λ e. IsCallable ps gs e.action) p.edges) fs_is (callable.calls f p (o_is ∙ is)),
)

pub fit_more : (ps : List (Option AffineProgram)) (callees : List (List ℕ)) (n : ℕ) (o : Option AffineProgram)
    (fs : List ℕ) → program_of ps n ≡ o → callees_of callees n ≡ fs
    → ((p : AffineProgram) → o ≡ Some p → IsFit ps fs p) → AreFitBelow ps callees n → AreFitBelow ps callees (n + 1)
fit_more ps callees n o fs o_is fs_is here before f p lt is = elim (cases_lt f n) [
  | inl less ↦ before f p less is
  | inr from ↦
      let same : f ≡ n = omega arith in
      let at = subst (λ i. program_of ps i ≡ Some p) same is in
      subst (λ i. IsFit ps (callees_of callees i) p) (sym same)
      (subst (λ (gs : List ℕ). IsFit ps gs p) (sym fs_is) (here p (sym o_is ∙ at)))
]

pub fit_all : (ps : List (Option AffineProgram)) (callees : List (List ℕ)) (n : ℕ) → length callees ≡ length ps
    → All (λ fs. All (λ g. g < length ps) fs) callees → length ps ≤ n → AreFitBelow ps callees n
    → AreCallable ps callees
fit_all ps callees n count below le h = record {
  count = count;
  below = λ f g m. below_lists callees (length ps) below f g m;
  well_formed = λ f p is. (let lt = program_within ps f p is in (h f p (omega (arith, lt, le)) is).0);
  calls = λ f p is. (let lt = program_within ps f p is in (h f p (omega (arith, lt, le)) is).1);
}
