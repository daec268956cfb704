use Rattle.std.proofs.Common.{rules, ◌≡◌, List, [], ◌∷◌, length, map, refl, ap, subst, arith, Option, Some}
use Rattle.std.specs.Prelude.{IfSome, is_some}
use Rattle.pungi_symbol.specs.declared.runs.model.Model.{Model}
use Rattle.pungi_symbol.specs.declared.states.state.State.{State}
use Rattle.pungi_symbol.specs.runs.Numbers.{number_where_free, numbers_in}
use Rattle.pungi_symbol.specs.runs.Paths.{Numbers, IsModel}
use Rattle.pungi_symbol.proofs.runs.Models.{free_model, no_table_at_all}
use Rattle.pungi_symbol.proofs.runs.numbers.has_model.Goals.{in-None, in-Some}
use Rattle.pungi_symbol.proofs.runs.numbers.has_model.Goals as goal

none_listed : {X : Type 0} (xs : List X) → length xs ≡ 0 → xs ≡ []
none_listed [] e = refl
none_listed (x ∷ xs) e = absurd (omega (arith, e))

pub returns-then-is_empty : goal.returns-then-is_empty
returns-then-is_empty c =
    let s = c.args.state.now in
    let none : length s.limits ≡ 0 = search rules in
    let ns : Numbers = record { tokens = map number_where_free s.known.marks; computed = [] } in
    (ns, free_model s ns refl (none_listed s.limits none))

a_model : (s : State) (o : Option Model) (m : Model) → o ≡ Some m → IfSome o (λ x. IsModel s (numbers_in x))
    → (ns : Numbers) × IsModel s ns
a_model s o m e h = (numbers_in m, subst (λ r. IfSome r (λ x. IsModel s (numbers_in x))) e h)

pub returns : goal.returns
returns c = elim c.match-branch-3.branch [
  | in-None w ↦ rw w.result-is (no_table_at_all c.args.state.now
      (c.in_ok-solved.ensures.none (ap is_some w.in-None.is)))
  | in-Some w ↦ rw w.result-is (a_model c.args.state.now c.in_ok-solved.field-0 w.in-Some.field-0 w.in-Some.is
      c.in_ok-solved.ensures.model)
]
