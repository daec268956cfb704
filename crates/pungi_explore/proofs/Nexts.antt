-- What holds after each answer that a question still has holds of all next states.
use Rattle.std.proofs.Common.{◌≡◌, List, true}
use Rattle.std.specs.Prelude.{slice_get}
use Rattle.pungi_code.specs.declared.code.Line.{Line}
use Rattle.pungi_symbol.specs.declared.answers.decision.Decision.{Decision}
use Rattle.pungi_symbol.specs.declared.states.state.State.{State}
use Rattle.pungi_symbol.specs.questions.NextQuestion.{ask}
use Rattle.pungi_symbol.specs.answers.SymbolicState.{can, apply, after_if, answers_of, successors}
use Rattle.pungi_explore.specs.Traces.{states_after}
use Rattle.pungi_explore.proofs.Each.{Each, each_of_if, each_of_flat, each_of_map}

pub each_answer : (P : Decision × State → Type 0) (code : List Line) (s : State)
    → ((d : Decision) → can s (ask code s.known) d ≡ true
    → P (d, apply (slice_get code s.known.pc) (ask code s.known) d s)) → Each P (successors code s)
each_answer P code s h =
    let one = after_if (slice_get code s.known.pc) (ask code s.known) s in
    each_of_flat P one (λ d. each_of_if P (can s (ask code s.known) d) (
      d,
      apply (slice_get code s.known.pc)
          (ask code s.known) d s,
    ) (h d)) (answers_of (ask code s.known))

pub each_next : (P : State → Type 0) (code : List Line) (s : State)
    → ((d : Decision) → can s (ask code s.known) d ≡ true
    → P (apply (slice_get code s.known.pc) (ask code s.known) d s)) → Each P (states_after code s)
each_next P code s h = each_of_map P (λ p. p.1) (successors code s) (each_answer (λ p. P p.1) code s h)
