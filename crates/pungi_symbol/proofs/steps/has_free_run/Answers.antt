use Rattle.std.proofs.Common.{◌≡◌, ◌^◌, Bool, nat_lt, true, false, sym, ap, ◌∙◌, subst, rules}
use Rattle.std.specs.Prelude.{MatchBool}
use Rattle.pungi_symbol.specs.declared.states.state.State.{State}
use Rattle.pungi_symbol.specs.states.Known.{count}
use Rattle.pungi_symbol.specs.runs.Paths.{Numbers, IsModel, HasNoTable}
use Rattle.pungi_symbol.proofs.Promised.{has_free_run, no_run}
use Rattle.pungi_symbol.proofs.steps.has_free_run.Goals as goal

-- what was found of the numbers of a state that is the same
module _ (s t : State) (same : s ≡ t) where
  some_found : (b : Bool) → b ≡ true → MatchBool b ((ns : Numbers) × IsModel s ns) (HasNoTable s)
      → (ns : Numbers) × IsModel t ns
  some_found true e h = (h.0, subst (λ u. IsModel u h.0) same h.1)
  some_found false e h = absurd (let bad : false ≡ true = e in cc)

  none_found : (b : Bool) → b ≡ false → MatchBool b ((ns : Numbers) × IsModel s ns) (HasNoTable s) → HasNoTable t
  none_found false e h = subst HasNoTable same h
  none_found true e h = absurd (let bad : true ≡ false = e in cc)

pub returns-clause-run : goal.returns-clause-run
returns-clause-run c h codes =
    let few : c.has_few_tokens.result ≡ true = search rules in
    let model = some_found c.state-2.result.now c.args.state.now c.state-2.ensures c.in_ok-there.there h
    (c.in_ok-there.ensures {u = tt}) in
    has_free_run c.args.state.now model.0 model.1
    (sym (ap (λ s. nat_lt (count s.known) (2 ^ 31)) c.state.ensures) ∙ sym c.has_few_tokens.ensures ∙ few) codes

pub returns-clause-none : goal.returns-clause-none
returns-clause-none c h = none_found c.state-2.result.now c.args.state.now c.state-2.ensures c.in_ok-there.there h
    (c.in_ok-there.ensures {u = tt})

pub returns-clause-dead : goal.returns-clause-dead
returns-clause-dead c h codes = no_run codes c.args.state.now (none_found c.state-2.result.now c.args.state.now
    c.state-2.ensures c.in_ok-there.there h (c.in_ok-there.ensures {u = tt}))
