-- A path goes on to each next state.
use Rattle.std.proofs.Common.{◌≡◌, List, ◌∷◌, All, ap, ◌∙◌, sym, subst}
use Rattle.pungi_code.specs.declared.code.Code.{Code}
use Rattle.pungi_code.specs.declared.code.Codes.{Codes}
use Rattle.pungi_symbol.specs.declared.answers.decision.Decision.{Decision}
use Rattle.pungi_symbol.specs.declared.states.state.State.{State}
use Rattle.pungi_symbol.specs.answers.SymbolicState.{successors}
use Rattle.pungi_symbol.specs.runs.Paths.{Path, start_state}
use Rattle.pungi_symbol.specs.Promises.{lines_in, next_states, IsReached}
use Rattle.pungi_symbol.proofs.answers.NextStates.{paths_next}

-- what holds of the next states under its code holds of those of a reached state
pub of_code : (P : Decision × State → Type 0) (codes : Codes) (s : State) (ds : List Decision) (code : Code)
    (next : List (Decision × State)) → next ≡ next_states codes s → IsReached codes s ds code
    → All P (successors code.instrs s) → All P next
of_code P codes s ds code next is reached all =
    subst (All P) (sym (is ∙ ap (λ o. successors (lines_in o) s) reached.0.is)) all

pub next_paths : (codes : Codes) (s : State) (ds : List Decision) (code : Code) (next : List (Decision × State))
    → next ≡ next_states codes s → IsReached codes s ds code
    → All (λ p. Path code.instrs (start_state codes.statics s.known.function code) (p.0 ∷ ds) p.1) next
next_paths codes s ds code next is reached =
    let first = start_state codes.statics s.known.function code in
    of_code (λ p. Path code.instrs first (p.0 ∷ ds) p.1) codes s ds code next is reached
    (paths_next code.instrs first s ds reached.1)
