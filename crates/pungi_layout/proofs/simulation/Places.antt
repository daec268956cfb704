-- The code does the loads and stores of a function.
use Rattle.std.proofs.Common.{◌≡◌, ℕ, suc, ◌+◌, List, [], ◌∷◌, ◌++◌, length, drop, replicate, Option, Some, None}
use Rattle.std.proofs.Common.{sym, ap, ◌∙◌, arith}
use Rattle.std.specs.Prelude.{slice_set}
use Rattle.pungi_base.specs.declared.names.Name.{Name}
use Rattle.pungi_base.specs.declared.pos.Pos.{Pos}
use Rattle.pungi_base.specs.declared.value.Value.{Value}
use Rattle.pungi_base.specs.declared.value.Value.TheVariants as value
use Rattle.pungi_api.specs.declared.param.Param.{Param}
use Rattle.pungi_types.specs.declared.kind.ValueKind.{ValueKind}
use Rattle.pungi_resolved.specs.Values as expr
use Rattle.pungi_world.specs.declared.content.Content.{Content}
use Rattle.pungi_world.specs.declared.content.Content.TheVariants.{Unset, Holds}
use Rattle.pungi_world.specs.declared.effect.Effect.{Effect}
use Rattle.pungi_world.specs.declared.slot.Slot.{Slot}
use Rattle.pungi_world.specs.declared.slot.Slot.TheVariants as slot
use Rattle.pungi_world.specs.declared.world.World.{World}
use Rattle.pungi_world.specs.Slots.{load_effect, store_effect}
use Rattle.pungi_meaning.specs.Values.{slot_kind}
use Rattle.pungi_meaning.specs.Todo.{Loaded, Stored, Todo, ToLoad, ToOld, ToStore, State}
use Rattle.pungi_meaning.specs.Exprs.{read_local, load_slot, load_field, after_load, after_store, store_slot}
use Rattle.pungi_meaning.specs.Exprs.{store_field}
use Rattle.pungi_meaning.specs.Run.{Run, with_operations, act}
use Rattle.pungi_meaning.specs.Work.{content_at, unused, with_result}
use Rattle.pungi_code.specs.declared.code.Line.{Line}
use Rattle.pungi_code.specs.declared.instr.Instr.TheVariants.{Set, Load, Store}
use Rattle.pungi_code.specs.declared.place.Place.TheVariants.{Global, Field}
use Rattle.pungi_code.specs.Registers.{Regs, put, content_of, after_effect, choices_left, put_answer, with_value}
use Rattle.pungi_code.specs.Perform as does
use Rattle.pungi_code.specs.Run.{Around, exec_in}
use Rattle.pungi_layout.specs.code.ExprCode.{to_var, var}
use Rattle.pungi_layout.specs.code.Scopes.{Env}
use Rattle.pungi_layout.proofs.relation.Waiting.{Waiting, w}
use Rattle.pungi_layout.proofs.relation.Waiting.{hidden}
use Rattle.pungi_layout.proofs.relation.Relation.{Stands, Does, IsTemp}
use Rattle.pungi_layout.proofs.relation.Remaining.{ItemAt, IsAt}
use Rattle.pungi_layout.proofs.relation.Values.{Stack, Match, pushed, popped, assigned, reacted}
use Rattle.pungi_layout.proofs.simulation.WorldAnswers.{HasValue, load_value}
use Rattle.pungi_layout.proofs.relation.Steps.{st, Continues, IsDone, first, with_it, set_step, one, two, moved}
use Rattle.pungi_layout.proofs.relation.Steps.{react_by}

module _ (around : Around) (code : List Line) (nl room : ℕ) where
  -- ---- loads

  -- a local is read
  pub read_sim : (c : Content) (p : Pos) (n t : ℕ) (k : List Todo) (s : State) (env : Env) (pc : ℕ)
      (ks : List Waiting) (m : Regs) → content_at m.vars n ≡ c → IsTemp code nl room (length ks) t
      → Stands code nl room pc p (Set (to_var t) (var n)) → IsAt code nl room env k (pc + 1) (w t ∷ ks)
      → Match code nl room ks s m → IsDone around code nl room (read_local c p k s) 0 pc m
  read_sim Unset p n t k s env pc ks m e at h is ma = (
    1,
    first around code nl room pc p (Set (to_var t) (var n)) m h 0
        ∙ ap (λ c. with_value c p (λ x. exec_in around code 0 (pc + 1) (put (to_var t) (Holds x) m))) e,
  )
  read_sim (Holds v) p n t k s env pc ks m e at h is ma =
      one around code nl room [] k (record s { values = v ∷ s.values }) 0 pc m (pc + 1)
      (put (to_var t) (Holds v) m) env (w t ∷ ks) (omega arith)
      (set_step around code nl room pc t (var n) m v (p, h) e) is (pushed code nl room ks s m s.values ks t v at ma
      ma.stack)

  loaded_by : (o : Option Value) → HasValue o
      → (p : Pos) (s' : Slot) (t : ℕ) (k : List Todo) (s : State) (env : Env) (pc : ℕ) (ks ls : List Waiting)
      (vs : List Value) (m q : Regs) → ((j : ℕ)
      → exec_in around code (suc j) pc m ≡ with_operations (Loaded p s' o ∷ [])
      (exec_in around code j (pc + 1) (put_answer (Some (to_var t)) o q))) → IsTemp code nl room (length ks) t
      → IsAt code nl room env k (pc + 1) (w t ∷ ks) → Match code nl room ls s q → Stack code nl room q.vars vs ks
      → Continues around code nl room (Loaded p s' o ∷ []) k (record s { values = with_result o vs }) 0 pc m
  loaded_by None has p s' t k s env pc ks ls vs m q e at is ma sk = absurd (let h : None ≡ Some has.0 = has.1 in cc)
  loaded_by (Some v) has p s' t k s env pc ks ls vs m q e at is ma sk =
      one around code nl room (Loaded p s' (Some v) ∷ []) k (record s { values = v ∷ vs }) 0 pc m (pc + 1)
      (put (to_var t) (Holds v) q) env (w t ∷ ks) (omega arith) e is (pushed code nl room ls s q vs ks t v at ma
      sk)

  -- a slot is loaded, in a state whose values stand in ks
  pub load_sim : (p : Pos) (kind : ValueKind) (s' : Slot) (t : ℕ) (k : List Todo) (s : State) (env : Env) (pc : ℕ)
      (ks ls : List Waiting) (m : Regs) → ((j : ℕ)
      → exec_in around code (suc j) pc m ≡ does.load around.choices (to_var t) p (exec_in around code j) pc m s'
      (slot_kind kind)) → IsTemp code nl room (length ks) t → IsAt code nl room env k (pc + 1) (w t ∷ ks)
      → Match code nl room ls s m → Stack code nl room m.vars s.values ks
      → IsDone around code nl room (load_slot around.choices p kind s' k s) 0 pc m
  load_sim p kind s' t k s env pc ks ls m e at is ma sk =
      let go = λ (j : ℕ) (x : Effect) (q : Regs). with_operations (Loaded p s' x.value ∷ [])
      (exec_in around code j (pc + 1) (put_answer (Some (to_var t)) x.value q)) in
      react_by around code nl room 1 0 (load_effect s.world s' (slot_kind kind) (unused around.choices s)) p s m pc
      (after_load p s' k) go
      (λ j. e j
      ∙ ap (λ x. after_effect p (load_effect x s' (slot_kind kind) (choices_left around.choices m)) m (go j)) ma.world
      ∙ ap (λ us. after_effect p (load_effect s.world s' (slot_kind kind) (drop (length us) around.choices)) m
      (go j)) ma.used)
      (λ x is' step. loaded_by x.0.value (load_value s.world s' (slot_kind kind)
      (unused around.choices s) x is') p s' t k
      (record s { world = x.1; used = s.used ++ replicate x.0.used p }) env pc ks ls s.values m
      (record m { world = x.1; used = m.used ++ replicate x.0.used p }) step at is
      (reacted code nl room ls s m x.1 x.0.used p ma) sk)

  -- the slot of a field, by what its base holds
  field_by : (b : ℕ) (v : Value) (tag field : Name) (kind : Param) (p : Pos) (m : Regs) (go : Slot → Param → Run)
      → content_at m.vars b ≡ Holds v → does.with_slot (does.slot_of (Field (var b) tag field kind) m.vars) p go
      ≡ does.with_slot (does.field_of (Holds v) tag field kind) p go
  field_by b v tag field kind p m go e = ap (λ c. does.with_slot (does.field_of c tag field kind) p go) e

  -- a field is loaded
  pub field_sim : (v : Value) (p : Pos) (kind : ValueKind) (tag field : Name) (b t : ℕ) (k : List Todo) (s : State)
      (env : Env) (pc : ℕ) (ks ls : List Waiting) (m : Regs) → content_at m.vars b ≡ Holds v
      → Stands code nl room pc p (Load (to_var t) (Field (var b) tag field (slot_kind kind)))
      → IsTemp code nl room (length ks) t → IsAt code nl room env k (pc + 1) (w t ∷ ks) → Match code nl room ls s m
      → Stack code nl room m.vars s.values ks → IsDone around code nl room
      (load_field around.choices p kind v tag field k
      s) 0 pc m
  field_sim (value.Object o) p kind tag field b t k s env pc ks ls m e h at is ma sk =
      load_sim p kind (slot.Field o tag field) t k s env pc ks ls m
      (λ j. first around code nl room pc p (Load (to_var t) (Field (var b) tag field (slot_kind kind))) m h j
      ∙ field_by b (value.Object o) tag field (slot_kind kind) p m (does.load around.choices (to_var t) p
      (exec_in around code j) pc m) e)
      at is ma sk
  field_sim (value.Int n) p kind tag field b t k s env pc ks ls m e h at is ma sk = (
    1,
    first around code nl room pc p (Load (to_var t) (Field (var b) tag field (slot_kind kind))) m h 0
        ∙ field_by b (value.Int n) tag field (slot_kind kind) p m (does.load around.choices (to_var t) p
        (exec_in around code 0) pc m) e,
  )
  field_sim value.Null p kind tag field b t k s env pc ks ls m e h at is ma sk = (
    1,
    first around code nl room pc p (Load (to_var t) (Field (var b) tag field (slot_kind kind))) m h 0
        ∙ field_by b value.Null tag field (slot_kind kind) p m (does.load around.choices (to_var t) p
        (exec_in around code 0)
        pc m) e,
  )
  field_sim value.Text p kind tag field b t k s env pc ks ls m e h at is ma sk = (
    1,
    first around code nl room pc p (Load (to_var t) (Field (var b) tag field (slot_kind kind))) m h 0
        ∙ field_by b value.Text tag field (slot_kind kind) p m (does.load around.choices (to_var t) p
        (exec_in around code 0)
        pc m) e,
  )

  pub to_load_sim : (p : Pos) (kind : ValueKind) (tag field : Name) (k : List Todo) (x : World) (u : List Pos)
      (l : List Content) (vs : List Value) (env : Env) (pc : ℕ) (ks : List Waiting) (m : Regs)
      → ItemAt code nl room env (ToLoad p kind tag field ∷ k) pc ks → Match code nl room ks (st x u l vs) m
      → IsDone around code nl room (act around.choices (ToLoad p kind tag field ∷ k) (st x u l vs)) 0 pc m
  to_load_sim p kind tag field k x u l vs env pc [] m h ma = absurd h.1
  to_load_sim p kind tag field k x u l vs env pc (hidden a z ∷ ks) m h ma = absurd h.1
  to_load_sim p kind tag field k x u l [] env pc (w a ∷ ks) m h ma = absurd ma.stack
  to_load_sim p kind tag field k x u l (y ∷ vs) env pc (w a ∷ ks) m h ma =
      field_sim y p kind tag field a h.0 k (st x u l vs) env pc ks ks m ma.stack.0 h.3 h.2 h.4
      (popped code nl room (w a ∷ ks) (st x u l (y ∷ vs)) m vs ks ma ma.stack.2) ma.stack.2

  pub old_sim : (kind : ValueKind) (place : expr.Place) (k : List Todo) (x : World) (u : List Pos)
      (l : List Content) (vs : List Value) (env : Env) (pc : ℕ) (ks : List Waiting) (m : Regs)
      → ItemAt code nl room env (ToOld kind place ∷ k) pc ks → Match code nl room ks (st x u l vs) m
      → IsDone around code nl room (act around.choices (ToOld kind place ∷ k) (st x u l vs)) 0 pc m
  old_sim kind (expr.local_place p n) k x u l vs env pc ks m h ma =
      read_sim (content_at l n) p n h.0 k (st x u l vs) env pc ks m (ma.locals n h.3.0) h.1 h.3.1 h.4 ma
  old_sim kind (expr.global_place p n) k x u l vs env pc ks m h ma =
      load_sim p kind (slot.Global n) h.0 k (st x u l vs) env pc ks ks m (first around code nl room pc p
      (Load (to_var h.0) (Global n (slot_kind kind))) m h.3) h.1 h.4 ma ma.stack
  old_sim kind (expr.field_place p base tag field) k x u l vs env pc [] m h ma = absurd h.2
  old_sim kind (expr.field_place p base tag field) k x u l vs env pc (hidden a z ∷ ks) m h ma = absurd h.2
  old_sim kind (expr.field_place p base tag field) k x u l [] env pc (w a ∷ ks) m h ma = absurd ma.stack
  old_sim kind (expr.field_place p base tag field) k x u l (y ∷ vs) env pc (w a ∷ ks) m h ma =
      field_sim y p kind tag field a h.0 k (st x u l (y ∷ vs)) env pc (w a ∷ ks) (w a ∷ ks) m ma.stack.0 h.3 h.1 h.4
      ma ma.stack
  old_sim kind expr.no_place k x u l vs env pc ks m h ma = absurd h.3

  -- ---- stores

  -- a slot is stored to, and the value goes on: in no instruction more, or in one
  pub store_sim_by : (p : Pos) (kind : ValueKind) (s' : Slot) (y : Value) (others : List Value) (k : List Todo)
      (s : State) (pc : ℕ) (m : Regs) → ((j : ℕ)
      → exec_in around code (suc j) pc m ≡ does.store around.choices p (exec_in around code j) pc m y s'
      (slot_kind kind))
      → m.world ≡ s.world → m.used ≡ s.used → ((e : Effect × World)
      → ((j : ℕ) → exec_in around code (suc j) pc m ≡ with_operations (Stored p s' y ∷ [])
      (exec_in around code j (pc + 1) (record m { world = e.1; used = m.used ++ replicate e.0.used p })))
      → Continues around code nl room (Stored p s' y ∷ []) k (record s {
        world = e.1;
        used = s.used
            ++ replicate e.0.used p;
        values = y ∷ others;
      }) 0 pc m)
      → IsDone around code nl room (store_slot around.choices p kind s' y others k s) 0 pc m
  store_sim_by p kind s' y others k s pc m e ew eu next =
      let go = λ (j : ℕ) (x : Effect) (q : Regs). with_operations (Stored p s' y ∷ [])
      (exec_in around code j (pc + 1) q) in
      react_by around code nl room 1 0 (store_effect s.world s' (slot_kind kind) y (unused around.choices s)) p s m pc
      (after_store p s' y others k) go
      (λ j. e j
      ∙ ap (λ x. after_effect p (store_effect x s' (slot_kind kind) y (choices_left around.choices m)) m (go j)) ew
      ∙ ap (λ us. after_effect p (store_effect s.world s' (slot_kind kind) y (drop (length us) around.choices)) m
      (go j)) eu)
      (λ x is step. next x step)

  stored_field : (v : Value) (p : Pos) (kind : ValueKind) (tag field : Name) (b t : ℕ) (y : Value)
      (others : List Value) (k : List Todo) (s : State) (env : Env) (pc a : ℕ) (ks ls : List Waiting)
      (m : Regs) → content_at m.vars b ≡ Holds v → content_at m.vars a ≡ Holds y
      → Stands code nl room pc p (Store (Field (var b) tag field (slot_kind kind)) (var a))
      → Does code nl room (pc + 1) (Set (to_var t) (var a)) → IsTemp code nl room (length ks) t
      → IsAt code nl room env k (pc + 2) (w t ∷ ks) → Match code nl room ls s m → Stack code nl room m.vars others ks
      → IsDone around code nl room (store_field around.choices p kind v tag field y others k s) 0 pc m
  stored_field (value.Object o) p kind tag field b t y others k s env pc a ks ls m e ey h d at is ma sk =
      let q2 : pc + 1 + 1 ≡ pc + 2 = omega arith in
      store_sim_by p kind (slot.Field o tag field) y others k s pc m
      (λ j. first around code nl room pc p (Store (Field (var b) tag field (slot_kind kind)) (var a)) m h j
      ∙ with_it around code nl room (content_of (var a) m.vars) y p (λ z. does.with_slot
      (does.slot_of (Field (var b) tag field (slot_kind kind)) m.vars) p (does.store around.choices p
      (exec_in around code j) pc m z)) ey
      ∙ field_by b (value.Object o) tag field (slot_kind kind) p m (does.store around.choices p
      (exec_in around code j) pc m
      y) e)
      ma.world ma.used
      (λ x step.
      let q = record m { world = x.1; used = m.used ++ replicate x.0.used p } in
      two around code nl room (Stored p (slot.Field o tag field) y
      ∷ []) k (record s { world = x.1; used = s.used ++ replicate x.0.used p; values = y ∷ others }) pc m
      (pc + 1 + 1) (put (to_var t) (Holds y) q) env (w t ∷ ks)
      (λ j. step (suc j) ∙ ap (with_operations (Stored p (slot.Field o tag field) y ∷ []))
      (set_step around code nl room (pc + 1) t (var a) q y d ey j))
      (moved around code nl room env k (pc + 2) (pc + 1 + 1) (w t ∷ ks) (sym q2) is)
      (pushed code nl room ls (record s { world = x.1; used = s.used ++ replicate x.0.used p }) q others ks t y at
      (reacted code nl room ls s m x.1 x.0.used p ma) sk))
  stored_field (value.Int n) p kind tag field b t y others k s env pc a ks ls m e ey h d at is ma sk = (
    1,
    first around code nl room pc p (Store (Field (var b) tag field (slot_kind kind)) (var a)) m h 0
        ∙ with_it around code nl room (content_of (var a) m.vars) y p (λ z. does.with_slot
        (does.slot_of (Field (var b) tag field (slot_kind kind)) m.vars) p (does.store around.choices p
        (exec_in around code 0) pc m z)) ey
        ∙ field_by b (value.Int n) tag field (slot_kind kind) p m (does.store around.choices p
        (exec_in around code 0) pc m y) e,
  )
  stored_field value.Null p kind tag field b t y others k s env pc a ks ls m e ey h d at is ma sk = (
    1,
    first around code nl room pc p (Store (Field (var b) tag field (slot_kind kind)) (var a)) m h 0
        ∙ with_it around code nl room (content_of (var a) m.vars) y p (λ z. does.with_slot
        (does.slot_of (Field (var b) tag field (slot_kind kind)) m.vars) p (does.store around.choices p
        (exec_in around code 0) pc m z)) ey
        ∙ field_by b value.Null tag field (slot_kind kind) p m (does.store around.choices p
        (exec_in around code 0) pc m y) e,
  )
  stored_field value.Text p kind tag field b t y others k s env pc a ks ls m e ey h d at is ma sk = (
    1,
    first around code nl room pc p (Store (Field (var b) tag field (slot_kind kind)) (var a)) m h 0
        ∙ with_it around code nl room (content_of (var a) m.vars) y p (λ z. does.with_slot
        (does.slot_of (Field (var b) tag field (slot_kind kind)) m.vars) p (does.store around.choices p
        (exec_in around code 0) pc m z)) ey
        ∙ field_by b value.Text tag field (slot_kind kind) p m (does.store around.choices p
        (exec_in around code 0) pc m y) e,
  )

  pub to_store_sim : (kind : ValueKind) (place : expr.Place) (k : List Todo) (x : World) (u : List Pos)
      (l : List Content) (vs : List Value) (env : Env) (pc : ℕ) (ks : List Waiting) (m : Regs)
      → ItemAt code nl room env (ToStore kind place ∷ k) pc ks → Match code nl room ks (st x u l vs) m
      → IsDone around code nl room (act around.choices (ToStore kind place ∷ k) (st x u l vs)) 0 pc m
  to_store_sim kind place k x u l vs env pc [] m h ma = absurd h.1
  to_store_sim kind place k x u l vs env pc (hidden a z ∷ ks) m h ma = absurd h.1
  to_store_sim kind place k x u l [] env pc (w a ∷ ks) m h ma = absurd ma.stack
  to_store_sim kind (expr.local_place p n) k x u l (y ∷ vs) env pc (w a ∷ ks) m h ma =
      let q2 : pc + 1 + 1 ≡ pc + 2 = omega arith in
      let q = put (to_var n) (Holds y) m in
      let s' = st x u (slice_set l n (Holds y)) (y ∷ vs) in
      let mq = assigned code nl room (w a ∷ ks) (st x u l (y ∷ vs)) m n (Holds y) h.4.0 ma in
      two around code nl room [] k s' pc m (pc + 1 + 1) (put (to_var h.0) (Holds y) q) env (w h.0 ∷ ks)
      (λ j. set_step around code nl room pc n (var a) m y h.4.1 ma.stack.0 (suc j)
      ∙ set_step around code nl room (pc + 1) h.0 (var a) q y h.4.2 mq.stack.0 j)
      (moved around code nl room env k (pc + 2) (pc + 1 + 1) (w h.0 ∷ ks) (sym q2) h.5)
      (pushed code nl room (w a ∷ ks) s' q vs ks h.0 y h.3 mq mq.stack.2)
  to_store_sim kind (expr.global_place p n) k x u l (y ∷ vs) env pc (w a ∷ ks) m h ma =
      let q2 : pc + 1 + 1 ≡ pc + 2 = omega arith in
      store_sim_by p kind (slot.Global n) y vs k (st x u l (y ∷ vs)) pc m
      (λ j. first around code nl room pc p (Store (Global n (slot_kind kind)) (var a)) m h.4.0 j
      ∙ with_it around code nl room (content_of (var a) m.vars) y p (λ z. does.store around.choices p
      (exec_in around code j) pc m z (slot.Global n) (slot_kind kind)) ma.stack.0)
      ma.world ma.used
      (λ e step.
      let q = record m { world = e.1; used = m.used ++ replicate e.0.used p } in
      let s' = st e.1 (u ++ replicate e.0.used p) l (y ∷ vs) in
      let mq = reacted code nl room (w a ∷ ks) (st x u l (y ∷ vs)) m e.1 e.0.used p ma in
      two around code nl room (Stored p (slot.Global n) y ∷ []) k s' pc m (pc + 1 + 1)
      (put (to_var h.0) (Holds y) q) env (w h.0 ∷ ks)
      (λ j. step (suc j) ∙ ap (with_operations (Stored p (slot.Global n) y ∷ []))
      (set_step around code nl room (pc + 1) h.0 (var a) q y h.4.1 ma.stack.0 j))
      (moved around code nl room env k (pc + 2) (pc + 1 + 1) (w h.0 ∷ ks) (sym q2) h.5)
      (pushed code nl room (w a ∷ ks) s' q vs ks h.0 y h.3 mq ma.stack.2))
  to_store_sim kind (expr.field_place p base tag field) k x u l (y ∷ vs) env pc (w a ∷ []) m h ma = absurd h.2
  to_store_sim kind (expr.field_place p base tag field) k x u l (y ∷ vs) env pc (w a ∷ hidden b z
      ∷ ks) m h ma = absurd h.2
  to_store_sim kind (expr.field_place p base tag field) k x u l (y ∷ []) env pc (w a ∷ w b
      ∷ ks) m h ma = absurd ma.stack.2
  to_store_sim kind (expr.field_place p base tag field) k x u l (y ∷ z ∷ vs) env pc (w a ∷ w b ∷ ks) m h ma =
      stored_field z p kind tag field b h.0 y vs k (st x u l (y ∷ z ∷ vs)) env pc a ks (w a ∷ w b ∷ ks) m
      ma.stack.2.0 ma.stack.0 h.4.0 h.4.1 h.3 h.5 ma ma.stack.2.2
  to_store_sim kind expr.no_place k x u l (y ∷ vs) env pc (w a ∷ ks) m h ma = absurd h.4
