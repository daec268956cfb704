-- The code does each step of a function.
use Rattle.std.proofs.Common.{ℕ, List, [], ◌∷◌}
use Rattle.pungi_meaning.specs.Todo.{Todo, ToEval, ToLoad, ToOld, ToStep, ToMinus, ToCompute, ToFit}
use Rattle.pungi_meaning.specs.Todo.{ToCompare, ToNot, ToRight, ToTruth, ToPick, ToStore, ToArgs, ToOutputs}
use Rattle.pungi_meaning.specs.Todo.{ToExec, ToForget, ToDeclare, ToBind, ToChoose, ToRest, ToTest, ToTurn}
use Rattle.pungi_meaning.specs.Todo.{ToAgain, ToSwitch, ToSwitchEnd, ToReturn, ToEnd, State}
use Rattle.pungi_meaning.specs.Todo.{ToPostfix, ToEmpty, ToYield}
use Rattle.pungi_meaning.specs.Run.{act}
use Rattle.pungi_code.specs.declared.code.Line.{Line}
use Rattle.pungi_code.specs.Run.{Around}
use Rattle.pungi_code.specs.Registers.{Regs}
use Rattle.pungi_layout.specs.code.Scopes.{Env}
use Rattle.pungi_layout.proofs.relation.Waiting.{Waiting}
use Rattle.pungi_layout.proofs.relation.Remaining.{ItemAt}
use Rattle.pungi_layout.proofs.relation.Values.{Match}
use Rattle.pungi_layout.proofs.relation.Steps.{IsDone}
use Rattle.pungi_layout.proofs.simulation.Operators.{compute_sim, step_sim, minus_sim, fit_sim, compare_sim}
use Rattle.pungi_layout.proofs.simulation.Operators.{truth_sim, not_sim, right_sim, pick_sim, yield_sim}
use Rattle.pungi_layout.proofs.simulation.Places.{to_load_sim, old_sim, to_store_sim}
use Rattle.pungi_layout.proofs.simulation.Calls.{args_sim}
use Rattle.pungi_layout.proofs.simulation.Outputs.{outputs_sim}
use Rattle.pungi_layout.proofs.simulation.Exprs.{evaluate_sim}
use Rattle.pungi_layout.proofs.simulation.Yielded.{postfix_sim, empty_sim}
use Rattle.pungi_layout.proofs.simulation.Switch.{switch_sim}
use Rattle.pungi_layout.proofs.simulation.Stmts.{jumps, forget_sim, declare_sim, bind_sim, choose_sim, rest_sim}
use Rattle.pungi_layout.proofs.simulation.Stmts.{test_sim, turn_sim, again_sim, switch_end_sim, return_sim}
use Rattle.pungi_layout.proofs.simulation.Stmts.{end_sim, execute_sim}

module _ (around : Around) (code : List Line) (nl room : ℕ) where
  -- each step is done, where what remains stands in the code
  pub sim : (k : List Todo) (s : State) (env : Env) (pc : ℕ) (ks : List Waiting) (m : Regs)
      → ItemAt code nl room env k pc ks → Match code nl room ks s m
      → IsDone around code nl room (act around.choices k s) (jumps k) pc m
  sim [] s env pc ks m h ma = absurd h
  sim (ToEval v ∷ k) s env pc ks m h ma = evaluate_sim around code nl room v k s env pc ks m h ma
  sim (ToLoad p kind tag field ∷ k) s env pc ks m h ma = to_load_sim around code nl room p kind tag field k
      s.world s.used s.locals s.values env pc ks m h ma
  sim (ToOld kind place ∷ k) s env pc ks m h ma = old_sim around code nl room kind place k s.world s.used
      s.locals s.values env pc ks m h ma
  sim (ToStep p o kind ∷ k) s env pc ks m h ma = step_sim around code nl room p o kind k s.world s.used s.locals
      s.values env pc ks m h ma
  sim (ToPostfix p mk kind place ∷ k) s env pc ks m h ma = postfix_sim around code nl room p mk kind place k
      s.world s.used s.locals s.values env pc ks m h ma
  sim (ToEmpty kind place ∷ k) s env pc ks m h ma = empty_sim around code nl room kind place k s.world s.used
      s.locals s.values env pc ks m h ma
  sim (ToYield v ∷ k) s env pc ks m h ma = yield_sim around code nl room v k s.world s.used s.locals s.values env
      pc ks m h ma
  sim (ToMinus p kind ∷ k) s env pc ks m h ma = minus_sim around code nl room p kind k s.world s.used s.locals
      s.values env pc ks m h ma
  sim (ToCompute p o kind ∷ k) s env pc ks m h ma = compute_sim around code nl room p o kind k s.world s.used
      s.locals s.values env pc ks m h ma
  sim (ToFit p kind ∷ k) s env pc ks m h ma = fit_sim around code nl room p kind k s.world s.used s.locals
      s.values env pc ks m h ma
  sim (ToCompare p c ∷ k) s env pc ks m h ma = compare_sim around code nl room p c k s.world s.used s.locals
      s.values env pc ks m h ma
  sim (ToNot ∷ k) s env pc ks m h ma = not_sim around code nl room k s.world s.used s.locals s.values env pc ks
      m h ma
  sim (ToRight on b ∷ k) s env pc ks m h ma = right_sim around code nl room on b k s.world s.used s.locals
      s.values env pc ks m h ma
  sim (ToTruth ∷ k) s env pc ks m h ma = truth_sim around code nl room k s.world s.used s.locals s.values env pc
      ks m h ma
  sim (ToPick a b ∷ k) s env pc ks m h ma = pick_sim around code nl room a b k s.world s.used s.locals s.values
      env pc ks m h ma
  sim (ToStore kind place ∷ k) s env pc ks m h ma = to_store_sim around code nl room kind place k s.world s.used
      s.locals s.values env pc ks m h ma
  sim (ToArgs p sig args i ∷ k) s env pc ks m h ma = args_sim around code nl room p sig args i k s env pc ks m h ma
  sim (ToOutputs p steps ∷ k) s env pc ks m h ma = outputs_sim around code nl room p steps k s.world s.used
      s.locals s.values env pc ks m h ma
  sim (ToExec a ∷ k) s env pc ks m h ma = execute_sim around code nl room a k s env pc ks m h ma
  sim (ToForget ∷ k) s env pc ks m h ma = forget_sim around code nl room k s env pc ks m h ma
  sim (ToDeclare rs ∷ k) s env pc ks m h ma = declare_sim around code nl room rs k s env pc ks m h ma
  sim (ToBind x ∷ k) s env pc ks m h ma = bind_sim around code nl room x k s.world s.used s.locals s.values env
      pc ks m h ma
  sim (ToChoose a b ∷ k) s env pc ks m h ma = choose_sim around code nl room a b k s.world s.used s.locals
      s.values env pc ks m h ma
  sim (ToRest block i ∷ k) s env pc ks m h ma = rest_sim around code nl room block i k s env pc ks m h ma
  sim (ToTurn loop ∷ k) s env pc ks m h ma = turn_sim around code nl room loop k s.world s.used s.locals
      s.values env pc ks m h ma
  sim (ToAgain loop ∷ k) s env pc ks m h ma = again_sim around code nl room loop k s env pc ks m h ma
  sim (ToTest loop ∷ k) s env pc ks m h ma = test_sim around code nl room loop k s env pc ks m h ma
  sim (ToSwitch p a ∷ k) s env pc ks m h ma = switch_sim around code nl room p a k s.world s.used s.locals
      s.values env pc ks m h ma
  sim (ToSwitchEnd ∷ k) s env pc ks m h ma = switch_end_sim around code nl room k s env pc ks m h ma
  sim (ToReturn p ∷ k) s env pc ks m h ma = return_sim around code nl room p k s.world s.used s.locals s.values
      env pc ks m h ma
  sim (ToEnd p v ∷ k) s env pc ks m h ma = end_sim around code nl room p v k s env pc ks m h ma
