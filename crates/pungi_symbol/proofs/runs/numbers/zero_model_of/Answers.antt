use Rattle.std.proofs.Common.{Option, None, Some, MatchOption, All, subst}
use Rattle.std.specs.Prelude.{IfSome}
use Rattle.pungi_symbol.specs.declared.runs.model.Model.{Model}
use Rattle.pungi_symbol.specs.runs.Numbers.{numbers_in, HasNoTableWith}
use Rattle.pungi_symbol.specs.runs.Paths.{IsMetBy, AreComputed}
use Rattle.pungi_symbol.specs.runs.AtZero.{AreNeverAtZero, MeansAtZero}
use Rattle.pungi_symbol.proofs.runs.AtZero.{are_computed}
use Rattle.pungi_symbol.proofs.runs.numbers.zero_model_of.Goals as goal

if_some : (P Q : Model → Type 0) → ((m : Model) → P m → Q m) → (o : Option Model) → IfSome o P → IfSome o Q
if_some P Q f None h = tt
if_some P Q f (Some m) h = f m h

pub returns-in_ok-model-in-Some-clause-real : goal.returns-in_ok-model-in-Some-clause-real
returns-in_ok-model-in-Some-clause-real c =
    let k = c.args.state.now.known in
    let cs = c.as_slice.result.now in
    let ls = c.in-Some.zeros.items in
    let means : MeansAtZero cs ls = subst (λ o. MatchOption o (AreNeverAtZero cs) (λ ls. MeansAtZero cs ls.items))
    c.in-Some.is c.in_ok-limits_at_zero.ensures in
    if_some (λ m. All (IsMetBy (numbers_in m)) c.as_slice-in-Some.result.now) (λ m. AreComputed k (numbers_in m))
    (λ m met. are_computed (numbers_in m) k ls (subst (λ l. MeansAtZero l ls) c.as_slice.ensures means)
    (subst (All (IsMetBy (numbers_in m))) c.as_slice-in-Some.ensures.value met)) c.in_ok-model-in-Some.model
    c.in_ok-model-in-Some.ensures.more

pub returns-in_ok-model-in-Some-clause-none : goal.returns-in_ok-model-in-Some-clause-none
returns-in_ok-model-in-Some-clause-none c missing table f zero =
    let s = c.args.state.now in
    let cs = c.as_slice.result.now in
    let ls = c.in-Some.zeros.items in
    let means : MeansAtZero cs ls = subst (λ o. MatchOption o (AreNeverAtZero cs) (λ ls. MeansAtZero cs ls.items))
    c.in-Some.is c.in_ok-limits_at_zero.ensures in
    subst (HasNoTableWith s) c.as_slice-in-Some.ensures.value (c.in_ok-model-in-Some.ensures.none missing) table f
    ((subst (λ l. MeansAtZero l ls) c.as_slice.ensures means).all table zero)
