-- A state that has one next state.
use Rattle.std.proofs.Common.{◌≡◌, List, [], ◌∷◌, Bool, true, false}
use Rattle.pungi_code.specs.declared.code.Line.{Line}
use Rattle.pungi_symbol.specs.declared.answers.decision.Decision.{Decision}
use Rattle.pungi_symbol.specs.declared.states.state.State.{State}
use Rattle.pungi_symbol.specs.answers.SymbolicState.{successors}
use Rattle.pungi_symbol.specs.Promises.{IsAdvanced}

pub only_next : (code : List Line) (s t : State) (b : Bool) → b ≡ true → IsAdvanced code s b t
    → (d : Decision) × (successors code s ≡ (d, t) ∷ [])
only_next code s t true e h = h
only_next code s t false e h = absurd (let bad : false ≡ true = e in cc)
