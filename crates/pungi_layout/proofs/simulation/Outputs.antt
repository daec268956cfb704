-- The code does what comes after a call that writes variables: it compares the number that the call has returned, and
-- writes locals.
use Rattle.std.proofs.Common.{◌≡◌, ℕ, suc, ◌+◌, ◌<◌, List, [], ◌∷◌, ◌++◌, length, replicate, Option, Some, None, refl}
use Rattle.std.proofs.Common.{ap, ◌∙◌, arith, Bool, true, false, if◌then◌else◌}
use Rattle.pungi_base.specs.declared.pos.Pos.{Pos}
use Rattle.pungi_base.specs.declared.value.Value.{Value}
use Rattle.pungi_base.specs.declared.value.Value.TheVariants as value
use Rattle.pungi_api.specs.Signatures.{output_signature}
use Rattle.pungi_resolved.specs.declared.output_step.OutputStep.{OutputStep}
use Rattle.pungi_resolved.specs.declared.output_step.OutputStep.TheVariants.{Ends, Writes}
use Rattle.pungi_world.specs.declared.content.Content.{Content}
use Rattle.pungi_world.specs.declared.content.Content.TheVariants.{Holds}
use Rattle.pungi_world.specs.declared.world.World.{World}
use Rattle.pungi_world.specs.Calls.{call_effect}
use Rattle.pungi_meaning.specs.declared.cmp.Cmp.TheVariants as cmps
use Rattle.pungi_meaning.specs.Values.{truth, holds}
use Rattle.pungi_meaning.specs.Todo.{Operation, Compared, Called, Todo, ToOutputs, State}
use Rattle.pungi_meaning.specs.Exprs.{write_local, after_output, end_output}
use Rattle.pungi_meaning.specs.Run.{with_operations, act}
use Rattle.pungi_meaning.specs.Work.{unused}
use Rattle.pungi_code.specs.declared.atom.Atom.TheVariants as atom
use Rattle.pungi_code.specs.declared.code.Line.{Line}
use Rattle.pungi_code.specs.Registers.{Regs, put, put_answer}
use Rattle.pungi_code.specs.Run.{Around, exec_in}
use Rattle.pungi_code.proofs.Simulation.{ahead}
use Rattle.pungi_layout.specs.code.ExprCode.{to_var, var, bit, result_label}
use Rattle.pungi_layout.specs.code.Scopes.{Env}
use Rattle.pungi_layout.proofs.relation.Waiting.{Waiting, w}
use Rattle.pungi_layout.proofs.relation.Waiting.{hidden}
use Rattle.pungi_layout.proofs.relation.Relation.{IsTemp, StepsAt, ResultAt}
use Rattle.pungi_layout.proofs.relation.Remaining.{ItemAt, IsAt, at_once}
use Rattle.pungi_layout.proofs.relation.Values.{Match, set_same, pushed, assigned, written_above, reacted}
use Rattle.pungi_layout.proofs.relation.Steps.{st, true_of, IsDone, set_step, jump_step, branch_step, compare_step, one}
use Rattle.pungi_layout.proofs.relation.Steps.{react_by}
use Rattle.pungi_layout.proofs.simulation.Operators.{bit_is}
use Rattle.pungi_layout.proofs.simulation.Calls.{api_step}

module _ (around : Around) (code : List Line) (nl room : ℕ) where
  -- a result
  result_sim : (b : Bool) (t results end : ℕ) (m : Regs) → ResultAt code nl room t results end
      → (c : ℕ) × ((j : ℕ) → exec_in around code (ahead (suc c) j) (result_label b results) m
      ≡ exec_in around code j end (put (to_var t) (Holds (truth b)) m))
  result_sim true t results end m h =
      let q = put (to_var t) (Holds (truth true)) m in (
        1,
        λ j. set_step around code nl room results t (bit true) m (truth true) h.0 (bit_is true m.vars) (suc j)
            ∙ jump_step around code nl room (results + 1) end q h.1 j,
      )
  result_sim false t results end m h =
      let q = put (to_var t) (Holds (truth false)) m in
      let e : results + 2 + 1 ≡ end = omega (arith, h.3) in (
        0,
        λ j. set_step around code nl room (results + 2) t (bit false) m (truth false) h.2 (bit_is false m.vars) j
            ∙ ap (λ n. exec_in around code j n q) e,
      )

  -- a local that is written, or not
  written_by : (o : Option Value) (ks : List Waiting) (s : State) (m : Regs) (n : ℕ) → n < nl
      → Match code nl room ks s m
      → Match code nl room ks (write_local n o s) (put_answer (Some (to_var n)) o m)
  written_by None ks s m n lt ma = ma
  written_by (Some v) ks s m n lt ma = assigned code nl room ks s m n (Holds v) lt ma

  -- the comparison leads to a result, or on
  ended_by : (b gives : Bool) (p : Pos) (steps : List OutputStep) (ops : List Operation) (k : List Todo) (x : World)
      (u : List Pos) (l : List Content) (v : Value) (vs : List Value) (env : Env) (pc a : ℕ)
      (ks : List Waiting) (m q : Regs) (t end y results : ℕ)
      → ((j : ℕ) → exec_in around code (suc (suc j)) pc m
      ≡ with_operations ops (exec_in around code j (if b then result_label gives results else pc + 2) q))
      → IsTemp code nl room (length ks) t → IsTemp code nl room (suc (length ks)) y
      → StepsAt code nl room p a y (pc + 2) results steps → ResultAt code nl room t results end
      → IsAt code nl room env k end (w t ∷ ks) → Match code nl room (w a ∷ ks) (st x u l (v ∷ vs)) q
      → IsDone around code nl room (end_output b gives p steps ops k (st x u l (v ∷ vs))) 1 pc m
  ended_by true gives p steps ops k x u l v vs env pc a ks m q t end y results e at aty next res is ma =
      let r = result_sim gives t results end q res in
      record {
        count = suc (suc (suc r.0));
        least = omega arith;
        place = end;
        regs = put (to_var t) (Holds (truth gives)) q;
        by = λ j. e (ahead (suc r.0) j) ∙ ap (with_operations ops) (r.1 j);
        stands = (
          env,
          w t ∷ ks,
          is,
          pushed code nl room (w a ∷ ks) (st x u l (v ∷ vs)) q vs ks t (truth gives) at ma ma.stack.2,
        );
      }
  ended_by false gives p steps ops k x u l v vs env pc a ks m q t end y results e at aty next res is ma = record {
    count = 2;
    least = omega arith;
    place = pc + 2;
    regs = q;
    by = e;
    stands = (
      env,
      w a ∷ ks,
      at_once code nl room env (ToOutputs p steps ∷ k) (pc + 2) (w a
          ∷ ks) (t, end, tt, at, (y, results, aty, next, res), is),
      ma,
    );
  }

  pub outputs_sim : (p : Pos) (steps : List OutputStep) (k : List Todo) (x : World) (u : List Pos) (l : List Content)
      (vs : List Value) (env : Env) (pc : ℕ) (ks : List Waiting) (m : Regs)
      → ItemAt code nl room env (ToOutputs p steps ∷ k) pc ks → Match code nl room ks (st x u l vs) m
      → IsDone around code nl room (act around.choices (ToOutputs p steps ∷ k) (st x u l vs)) 1 pc m
  outputs_sim p steps k x u l vs env pc [] m h ma = absurd h.2
  outputs_sim p steps k x u l vs env pc (hidden a z ∷ ks) m h ma = absurd h.2
  outputs_sim p steps k x u l [] env pc (w a ∷ ks) m h ma = absurd ma.stack
  outputs_sim p [] k x u l (v ∷ vs) env pc (w a ∷ ks) m h ma =
      let t = h.0 in
      let results = h.4.1 in
      let r = result_sim true t results h.1 m h.4.4 in
      record {
        count = suc r.0;
        least = omega arith;
        place = h.1;
        regs = put (to_var t) (Holds (truth true)) m;
        by = λ j. ap (λ n. exec_in around code (ahead (suc r.0) j) n m) h.4.3 ∙ r.1 j;
        stands = (
          env,
          w t ∷ ks,
          h.5,
          pushed code nl room (w a ∷ ks) (st x u l (v ∷ vs)) m vs ks t (truth true) h.3 ma ma.stack.2,
        );
      }
  outputs_sim p (Ends n gives ∷ steps) k x u l (v ∷ vs) env pc (w a ∷ ks) m h ma =
      let y = h.4.0 in
      let results = h.4.1 in
      let b = holds cmps.Equal v (value.Int n) in
      let q = put (to_var y) (Holds (truth b)) m in
      let s = st x u l (v ∷ vs) in
      let ma' = written_above code nl room (w a ∷ ks) s m y (Holds (truth b)) h.4.2 ma in
      let long : length m.vars ≡ room = ma.long in
      let here = set_same m.vars y (Holds (truth b)) (omega (arith, h.4.2.2, long)) in
      let to = result_label gives results in
      ended_by b gives p steps (Compared p cmps.Equal v (value.Int n) ∷ []) k x u l v vs env pc a ks m q h.0 h.1 y
      results
      (λ j. compare_step around code nl room pc p y cmps.Equal (var a) (atom.Int n) m v (value.Int n) h.4.3.0
      ma.stack.0 refl (suc j)
      ∙ ap (with_operations (Compared p cmps.Equal v (value.Int n) ∷ [])) (branch_step around code nl room (pc + 1) y
      to (pc + 2) q (truth b) h.4.3.1 here j ∙ ap (λ i. exec_in around code j (if i then to else pc + 2) q)
      (true_of b))) h.3 h.4.2 h.4.3.2 h.4.4 h.5 ma'
  outputs_sim p (Writes n f ∷ steps) k x u l (v ∷ vs) env pc (w a ∷ ks) m h ma =
      let s = st x u l (v ∷ vs) in
      let sig = output_signature f in
      react_by around code nl room 1 1 (call_effect x sig [] (unused around.choices s)) p s m pc
      (after_output p n f steps k) (λ j e q. with_operations (Called p sig [] e ∷ []) (exec_in around code j (pc + 1)
      (put_answer (Some (to_var n)) e.value q)))
      (api_step around code nl room p sig (Some (to_var n)) [] [] s pc m h.4.3.1 refl ma.world ma.used)
      (λ e is step.
      let s' = record s { world = e.1; used = s.used ++ replicate e.0.used p } in
      let q = record m { world = e.1; used = m.used ++ replicate e.0.used p } in
      one around code nl room (Called p sig [] e.0 ∷ []) (ToOutputs p steps ∷ k) (write_local n e.0.value s') 1 pc m
      (pc + 1) (put_answer (Some (to_var n)) e.0.value q) env (w a ∷ ks) (omega arith) step
      (at_once code nl room env (ToOutputs p steps ∷ k) (pc + 1) (w a ∷ ks)
      (h.0, h.1, tt, h.3, (h.4.0, h.4.1, h.4.2, h.4.3.2, h.4.4), h.5))
      (written_by e.0.value (w a ∷ ks) s' q n h.4.3.0 (reacted code nl room (w a ∷ ks) s m e.1 e.0.used p ma)))
