-- What holds of each answer that a question still has holds of all next states.
use Rattle.std.proofs.Common.{◌≡◌, List, [], ◌∷◌, Bool, true, false, refl, sym, subst, arith, All, cond}
use Rattle.std.specs.Prelude.{slice_get}
use Rattle.std.specs.List.{flat_map}
use Rattle.std.proofs.lemmas.List.Concat.{flat_map-cons}
use Rattle.std.proofs.lemmas.List.Elements.{All-append}
use Rattle.pungi_code.specs.declared.code.Line.{Line}
use Rattle.pungi_symbol.specs.declared.answers.decision.Decision.{Decision}
use Rattle.pungi_symbol.specs.declared.states.state.State.{State}
use Rattle.pungi_symbol.specs.questions.NextQuestion.{ask}
use Rattle.pungi_symbol.specs.answers.SymbolicState.{can, apply, after_if, answers_of, successors}
use Rattle.pungi_symbol.specs.runs.Paths.{Path, path_on}
use Rattle.pungi_symbol.proofs.answers.Fits.{one_all}

none_all : {X : Type 0} (P : X → Type 0) → All P []
none_all P k d h = absurd (omega (arith, h))

module _ (P : Decision × State → Type 0) where
  after_one : (b : Bool) (x : Decision × State) → (b ≡ true → P x) → All P (cond b (x ∷ []) [])
  after_one true x h = one_all P x (h refl)
  after_one false x h = none_all P

  after_all : (f : Decision → List (Decision × State)) → ((d : Decision) → All P (f d)) → (ds : List Decision)
      → All P (flat_map f ds)
  after_all f h [] = none_all P
  after_all f h (d ∷ ds) = subst (All P) (sym (flat_map-cons f d ds)) (All-append P (f d) (flat_map f ds) (h d)
      (after_all f h ds))

  pub all_next : (code : List Line) (s : State)
      → ((d : Decision) → can s (ask code s.known) d ≡ true
      → P (d, apply (slice_get code s.known.pc) (ask code s.known) d s)) → All P (successors code s)
  all_next code s h = after_all (after_if (slice_get code s.known.pc) (ask code s.known) s)
      (λ d. after_one (can s (ask code s.known) d) (d, apply (slice_get code s.known.pc) (ask code s.known) d s)
      (h d)) (answers_of (ask code s.known))

-- a path goes on to each next state
pub paths_next : (code : List Line) (first s : State) (ds : List Decision) → Path code first ds s
    → All (λ p. Path code first (p.0 ∷ ds) p.1) (successors code s)
paths_next code first s ds path = all_next (λ p. Path code first (p.0 ∷ ds) p.1) code s (λ d h. path_on ds s d path h)
