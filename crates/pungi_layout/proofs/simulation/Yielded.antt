-- The code does expressions that write a place and whose value is what it held: `++` and `--` after it, and Py_CLEAR.
use Rattle.std.proofs.Common.{◌≡◌, ℕ, suc, ◌+◌, List, [], ◌∷◌, length, refl, sym, ◌∙◌, arith}
use Rattle.pungi_base.specs.declared.kind.Kind.{Kind}
use Rattle.pungi_base.specs.declared.pos.Pos.{Pos}
use Rattle.pungi_base.specs.declared.value.Value.{Value}
use Rattle.pungi_base.specs.declared.value.Value.TheVariants as value
use Rattle.pungi_types.specs.declared.kind.ValueKind.{ValueKind}
use Rattle.pungi_resolved.specs.Values as expr
use Rattle.pungi_world.specs.declared.content.Content.{Content}
use Rattle.pungi_world.specs.declared.content.Content.TheVariants.{Holds}
use Rattle.pungi_world.specs.declared.world.World.{World}
use Rattle.pungi_meaning.specs.Values.{wide}
use Rattle.pungi_meaning.specs.Todo.{Todo, ToPostfix, ToEmpty, ToYield, ToStore, State}
use Rattle.pungi_meaning.specs.Exprs.{step}
use Rattle.pungi_meaning.specs.Run.{act}
use Rattle.pungi_meaning.specs.Work.{content_at}
use Rattle.pungi_code.specs.declared.atom.Atom.TheVariants as atom
use Rattle.pungi_code.specs.declared.code.Line.{Line}
use Rattle.pungi_code.specs.declared.instr.Instr.TheVariants.{Set}
use Rattle.pungi_code.specs.Registers.{Regs, put}
use Rattle.pungi_code.specs.Run.{Around}
use Rattle.pungi_layout.specs.code.Sizes.{fit_size, store_size}
use Rattle.pungi_layout.specs.code.ExprCode.{to_var, var}
use Rattle.pungi_layout.specs.code.Scopes.{Env}
use Rattle.pungi_layout.proofs.relation.Waiting.{Waiting, w, hidden}
use Rattle.pungi_layout.proofs.relation.Relation.{Does, IsTemp, StoreAt, StepAt}
use Rattle.pungi_layout.proofs.relation.Remaining.{ItemAt, IsAt, at_once}
use Rattle.pungi_layout.proofs.relation.Values.{Match, pushed, hidden_below, hidden_under}
use Rattle.pungi_layout.proofs.relation.Steps.{st, Continues, IsDone, set_step, one, two, moved}
use Rattle.pungi_layout.proofs.simulation.Exprs.{based, step_at, store_at}

module _ (around : Around) (code : List Line) (nl room : ℕ) where
  -- what a place holds goes to the variable that is reserved for the value, and the place is counted up or down
  postfix_by : (p : Pos) (mk : Kind) (kind : ValueKind) (place : expr.Place) (k : List Todo) (s : State) (env : Env)
      (pc b o x t : ℕ) (y : Value) (ks : List Waiting) (m : Regs) → Does code nl room pc (Set (to_var t) (var o))
      → content_at m.vars o ≡ Holds y → IsTemp code nl room (suc (length ks)) x
      → StepAt code nl room p mk kind place (suc (length ks)) x b o (pc + 1)
      → IsAt code nl room env k (pc + 1 + 1 + fit_size kind (wide kind) + store_size) (w t ∷ ks)
      → Match code nl room (w o ∷ based place b (hidden t y ∷ ks)) s (put (to_var t) (Holds y) m)
      → Continues around code nl room [] (step p mk kind place (ToYield y ∷ k)) s 0 pc m
  postfix_by p mk kind place k s env pc b o x t y ks m d e at h is ma =
      let ls = hidden t y ∷ ks in
      let end = pc + 1 + 1 + fit_size kind (wide kind) + store_size in
      one around code nl room [] (step p mk kind place (ToYield y ∷ k)) s 0 pc m (pc + 1) (put (to_var t) (Holds y) m)
      env (w o ∷ based place b ls) (omega arith) (set_step around code nl room pc t (var o) m y d e)
      (step_at around code nl room p mk kind place (ToYield y ∷ k) env (pc + 1) b o x ls at h
      (at_once code nl room env (ToYield y ∷ k) end (w x ∷ ls) (refl, is))) ma

  pub postfix_sim : (p : Pos) (mk : Kind) (kind : ValueKind) (place : expr.Place) (k : List Todo) (x : World)
      (u : List Pos) (l : List Content) (vs : List Value) (env : Env) (pc : ℕ) (ks : List Waiting) (m : Regs)
      → ItemAt code nl room env (ToPostfix p mk kind place ∷ k) pc ks → Match code nl room ks (st x u l vs) m
      → IsDone around code nl room (act around.choices (ToPostfix p mk kind place ∷ k) (st x u l vs)) 0 pc m
  postfix_sim p mk kind place k x u l vs env pc [] m h ma = absurd h.1
  postfix_sim p mk kind place k x u l vs env pc (hidden o v ∷ ks) m h ma = absurd h.1
  postfix_sim p mk kind place k x u l [] env pc (w o ∷ ks) m h ma = absurd ma.stack
  postfix_sim p mk kind (expr.local_place q n) k x u l (y ∷ vs) env pc (w o ∷ []) m h ma = absurd h.3
  postfix_sim p mk kind (expr.local_place q n) k x u l (y ∷ vs) env pc (w o ∷ w t ∷ ks) m h ma = absurd h.3
  postfix_sim p mk kind (expr.local_place q n) k x u l (y ∷ vs) env pc (w o ∷ hidden t v ∷ ks) m h ma =
      postfix_by p mk kind (expr.local_place q n) k (st x u l (y ∷ vs)) env pc t o h.0 t y ks m h.4 ma.stack.0 h.5 h.6
      h.7 (hidden_below code nl room (st x u l (y ∷ vs)) m y v vs o t ks ma ma.stack)
  postfix_sim p mk kind (expr.global_place q n) k x u l (y ∷ vs) env pc (w o ∷ []) m h ma = absurd h.3
  postfix_sim p mk kind (expr.global_place q n) k x u l (y ∷ vs) env pc (w o ∷ w t ∷ ks) m h ma = absurd h.3
  postfix_sim p mk kind (expr.global_place q n) k x u l (y ∷ vs) env pc (w o ∷ hidden t v ∷ ks) m h ma =
      postfix_by p mk kind (expr.global_place q n) k (st x u l (y ∷ vs)) env pc t o h.0 t y ks m h.4 ma.stack.0 h.5 h.6
      h.7 (hidden_below code nl room (st x u l (y ∷ vs)) m y v vs o t ks ma ma.stack)
  postfix_sim p mk kind (expr.field_place q base tag field) k x u l (y ∷ vs) env pc (w o ∷ []) m h ma = absurd h.2
  postfix_sim p mk kind (expr.field_place q base tag field) k x u l (y ∷ vs) env pc (w o ∷ hidden t v ∷ ks) m h ma =
      absurd h.2
  postfix_sim p mk kind (expr.field_place q base tag field) k x u l (y ∷ vs) env pc (w o ∷ w b ∷ []) m h ma = absurd h.3
  postfix_sim p mk kind (expr.field_place q base tag field) k x u l (y ∷ vs) env pc (w o ∷ w b ∷ w t ∷ ks) m h ma =
      absurd h.3
  postfix_sim p mk kind (expr.field_place q base tag field) k x u l (y ∷ []) env pc (w o ∷ w b ∷ hidden t v ∷ ks) m h
      ma = absurd ma.stack.2
  postfix_sim p mk kind (expr.field_place q base tag field) k x u l (y ∷ z ∷ vs) env pc
      (w o ∷ w b ∷ hidden t v ∷ ks) m h ma =
      postfix_by p mk kind (expr.field_place q base tag field) k (st x u l (y ∷ z ∷ vs)) env pc b o h.0 t y ks m h.4
      ma.stack.0 h.5 h.6 h.7
      (hidden_under code nl room (st x u l (y ∷ z ∷ vs)) m y z v vs o b t ks ma ma.stack)
  postfix_sim p mk kind expr.no_place k x u l (y ∷ vs) env pc (w o ∷ ks) m h ma = absurd h.6.3.4

  -- .. and NULL is stored in the place
  empty_by : (kind : ValueKind) (place : expr.Place) (k : List Todo) (x : World) (u : List Pos) (l : List Content)
      (y : Value) (vs : List Value) (env : Env) (pc b o n t : ℕ) (ks : List Waiting) (m : Regs)
      → Does code nl room pc (Set (to_var t) (var o)) → content_at m.vars o ≡ Holds y
      → Does code nl room (pc + 1) (Set (to_var o) atom.Null) → IsTemp code nl room (suc (length ks)) n
      → StoreAt code nl room kind place n b o (pc + 2) → IsAt code nl room env k (pc + 2 + store_size) (w t ∷ ks)
      → Match code nl room (w o ∷ based place b (hidden t y ∷ ks)) (st x u l (y ∷ vs)) (put (to_var t) (Holds y) m)
      → Continues around code nl room [] (ToStore kind place ∷ ToYield y ∷ k) (st x u l (value.Null ∷ vs)) 0 pc m
  empty_by kind place k x u l y vs env pc b o n t ks m d e z at h is ma =
      let ls = hidden t y ∷ ks in
      let next = ToStore kind place ∷ ToYield y ∷ k in
      let first = put (to_var t) (Holds y) m in
      let q : pc + 1 + 1 ≡ pc + 2 = omega arith in
      two around code nl room [] next (st x u l (value.Null ∷ vs)) pc m (pc + 1 + 1)
      (put (to_var o) (Holds value.Null) first) env (w o ∷ based place b ls)
      (λ j. set_step around code nl room pc t (var o) m y d e (suc j)
      ∙ set_step around code nl room (pc + 1) o atom.Null first value.Null z refl j)
      (moved around code nl room env next (pc + 2) (pc + 1 + 1) (w o ∷ based place b ls) (sym q)
      (store_at around code nl room kind place (ToYield y ∷ k) env (pc + 2) b o n ls at h
      (at_once code nl room env (ToYield y ∷ k) (pc + 2 + store_size) (w n ∷ ls) (refl, is))))
      (pushed code nl room (w o ∷ based place b ls) (st x u l (y ∷ vs)) first vs (based place b ls) o value.Null
      ma.stack.1 ma ma.stack.2)

  pub empty_sim : (kind : ValueKind) (place : expr.Place) (k : List Todo) (x : World) (u : List Pos) (l : List Content)
      (vs : List Value) (env : Env) (pc : ℕ) (ks : List Waiting) (m : Regs)
      → ItemAt code nl room env (ToEmpty kind place ∷ k) pc ks → Match code nl room ks (st x u l vs) m
      → IsDone around code nl room (act around.choices (ToEmpty kind place ∷ k) (st x u l vs)) 0 pc m
  empty_sim kind place k x u l vs env pc [] m h ma = absurd h.1
  empty_sim kind place k x u l vs env pc (hidden o v ∷ ks) m h ma = absurd h.1
  empty_sim kind place k x u l [] env pc (w o ∷ ks) m h ma = absurd ma.stack
  empty_sim kind (expr.local_place q n) k x u l (y ∷ vs) env pc (w o ∷ []) m h ma = absurd h.3
  empty_sim kind (expr.local_place q n) k x u l (y ∷ vs) env pc (w o ∷ w t ∷ ks) m h ma = absurd h.3
  empty_sim kind (expr.local_place q n) k x u l (y ∷ vs) env pc (w o ∷ hidden t v ∷ ks) m h ma =
      empty_by kind (expr.local_place q n) k x u l y vs env pc t o h.0 t ks m h.4 ma.stack.0 h.5 h.6 h.7 h.8
      (hidden_below code nl room (st x u l (y ∷ vs)) m y v vs o t ks ma ma.stack)
  empty_sim kind (expr.global_place q n) k x u l (y ∷ vs) env pc (w o ∷ []) m h ma = absurd h.3
  empty_sim kind (expr.global_place q n) k x u l (y ∷ vs) env pc (w o ∷ w t ∷ ks) m h ma = absurd h.3
  empty_sim kind (expr.global_place q n) k x u l (y ∷ vs) env pc (w o ∷ hidden t v ∷ ks) m h ma =
      empty_by kind (expr.global_place q n) k x u l y vs env pc t o h.0 t ks m h.4 ma.stack.0 h.5 h.6 h.7 h.8
      (hidden_below code nl room (st x u l (y ∷ vs)) m y v vs o t ks ma ma.stack)
  empty_sim kind (expr.field_place q base tag field) k x u l (y ∷ vs) env pc (w o ∷ []) m h ma = absurd h.2
  empty_sim kind (expr.field_place q base tag field) k x u l (y ∷ vs) env pc (w o ∷ hidden t v ∷ ks) m h ma =
      absurd h.2
  empty_sim kind (expr.field_place q base tag field) k x u l (y ∷ vs) env pc (w o ∷ w b ∷ []) m h ma = absurd h.3
  empty_sim kind (expr.field_place q base tag field) k x u l (y ∷ vs) env pc (w o ∷ w b ∷ w t ∷ ks) m h ma =
      absurd h.3
  empty_sim kind (expr.field_place q base tag field) k x u l (y ∷ []) env pc (w o ∷ w b ∷ hidden t v ∷ ks) m h ma =
      absurd ma.stack.2
  empty_sim kind (expr.field_place q base tag field) k x u l (y ∷ z ∷ vs) env pc (w o ∷ w b ∷ hidden t v ∷ ks) m h ma =
      empty_by kind (expr.field_place q base tag field) k x u l y (z ∷ vs) env pc b o h.0 t ks m h.4 ma.stack.0 h.5 h.6
      h.7 h.8 (hidden_under code nl room (st x u l (y ∷ z ∷ vs)) m y z v vs o b t ks ma ma.stack)
  empty_sim kind expr.no_place k x u l (y ∷ vs) env pc (w o ∷ ks) m h ma = absurd h.7
