-- What the state of a function says of it.
use Rattle.std.proofs.Common.{◌≡◌, ◌∙◌, ℕ, ℤ, ◌<◌, true, List, length, Option, Some, None, Result, Ok, Err, refl, sym}
use Rattle.std.proofs.Common.{slice_get}
use Rattle.std.specs.Prelude.{◌↔◌, IfOk, IsSome}
use Rattle.pungi_domain.specs.declared.affine_program.AffineProgram.{AffineProgram}
use Rattle.pungi_affine.specs.States.{SpanMember, SpanState}
use Rattle.pungi_fixpoint.specs.Summaries.{SummariesState, exit_of}
use Rattle.pungi_fixpoint.specs.declared.state.State.{State}
use Rattle.pungi_fixpoint.specs.declared.state.State.TheVariants as state
use Rattle.pungi_summary.specs.Calls.{LacksProgram, program_of}
use Rattle.pungi_summary.specs.Results.{AreAnnotated, HasRange, IsNotSafe}
use Rattle.pungi_code.specs.declared.code.Code.{Code}
use Rattle.pungi_code.specs.declared.code.Codes.{Codes}
use Rattle.pungi_code.specs.Run.{code_at}
use Rattle.pungi_code.specs.WellFormed.{AreWellFormed}
use Rattle.pungi_shape.specs.Programs.{IsTooLarge}
use Rattle.pungi_shape.specs.Reaching.{CalleesAreCalled, FunctionsAreReached}
use Rattle.pungi_verdict.specs.Across.{AreCallees, ArePrograms, FilePrograms, HasEachProgram, IsStateFor}
use Rattle.pungi_verdict.proofs.Callees.{reached-has-code}
use Rattle.pungi_verdict.proofs.Reached.{reaches-large}

pub ok-weaker : {A E : Type 0} (r : Result A E) (P Q : A → Type 0) → ((x : A) → P x → Q x) → IfOk r P → IfOk r Q
ok-weaker (Ok x) P Q weaker h = weaker x h
ok-weaker (Err e) P Q weaker h = tt

module _ (codes : Codes) (formed : AreWellFormed codes) (called : CalleesAreCalled) (reached : FunctionsAreReached)
    (ps : List (Option AffineProgram)) (ns : List (List ℕ)) (are_programs : ArePrograms codes ps)
    (are_callees : AreCallees codes ns) (s : SummariesState SpanState)
    (shapes : (f : ℕ) → f < length ps → slice_get s.states f ≡ Some state.Shapes ↔ LacksProgram ps ns f)
    (at : ℕ → List SpanState) (annotated : AreAnnotated SpanMember ps ns at s) (not_safe : IsNotSafe ps ns s)
    (range : (f k : ℕ) (row : List ℤ) → slice_get s.states f ≡ Some (state.Range k row)
    → HasRange true SpanMember ps ns f k row) where
  abbrev file : FilePrograms codes
  file = record { programs = ps; callees = ns; are_programs = are_programs; are_callees = are_callees }

  -- a function whose state is another reaches none without a program
  each-program : (f : ℕ) → f < length ps → (slice_get s.states f ≡ Some state.Shapes → ⊥) → HasEachProgram file f
  each-program f lt other g reaches = by (program_of ps g) refl
    where
      by : (o : Option AffineProgram) → program_of ps g ≡ o → IsSome (program_of ps g)
      by None is = absurd (other ((shapes f lt).1 (g, reaches, is)))
      by (Some p) is = cc

  lacking-large : (f : ℕ) (code : Code) → code_at codes f ≡ Some code → LacksProgram ps ns f → IsTooLarge codes f
  lacking-large f code is lacks =
      let own = reached-has-code called codes ns formed are_callees f lacks.0 lacks.1 code is in
      reaches-large codes ns are_callees reached f lacks.0 lacks.1 (are_programs.none lacks.0 own.0 own.1 lacks.2)

  pub state-true : (f : ℕ) (code : Code) (t : State) → code_at codes f ≡ Some code → f < length ps
      → slice_get s.states f ≡ Some t → IsStateFor codes ps ns f t
  state-true f code state.Safe is lt e = record {
    file = file;
    programs = each-program f lt
        (λ shapes_too. let bad : Some state.Safe ≡ Some state.Shapes = sym e ∙ shapes_too in absurd (cc));
    at = λ g k. slice_get (at g) k;
    exits = λ g c. exit_of s.exits g c;
    safe = annotated.safe f e;
  }
  state-true f code (state.NotSafe k) is lt e = record {
    file = file;
    programs = each-program f lt
        (λ shapes_too. let bad : Some (state.NotSafe k) ≡ Some state.Shapes = sym e ∙ shapes_too in absurd (cc));
    none = λ rows safe. not_safe f k rows e safe;
  }
  state-true f code state.Shapes is lt e = lacking-large f code is ((shapes f lt).0 e)
  state-true f code (state.Range k row) is lt e = range f k row e
