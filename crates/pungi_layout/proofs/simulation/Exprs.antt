-- The code does the expressions of a function: what each leaves has its instructions where the relation says.
use Rattle.std.proofs.Common.{◌≡◌, ℕ, suc, ◌+◌, pos, List, [], ◌∷◌, length, refl, sym, ap, subst, arith, Bool}
use Rattle.std.proofs.Common.{true, false, not, if◌then◌else◌}
use Rattle.pungi_base.specs.declared.kind.Kind.{Kind}
use Rattle.pungi_base.specs.declared.kind.Kind.TheVariants as tokens
use Rattle.pungi_base.specs.declared.pos.Pos.{Pos}
use Rattle.pungi_base.specs.declared.punct.Punct.TheVariants as puncts
use Rattle.pungi_base.specs.declared.value.Value.{Value}
use Rattle.pungi_base.specs.declared.value.Value.TheVariants as value
use Rattle.pungi_types.specs.declared.kind.ValueKind.{ValueKind}
use Rattle.pungi_resolved.specs.Values as expr
use Rattle.pungi_world.specs.declared.content.Content.TheVariants.{Holds}
use Rattle.pungi_world.specs.declared.slot.Slot.TheVariants as slot
use Rattle.pungi_meaning.specs.declared.op.Op.TheVariants as ops
use Rattle.pungi_meaning.specs.Values.{op_of, cmp_of, wide, slot_kind, truth}
use Rattle.pungi_meaning.specs.Todo.{Todo, ToEval, ToLoad, ToOld, ToMinus, ToCompute, ToFit, ToCompare}
use Rattle.pungi_meaning.specs.Todo.{ToNot, ToRight, ToPick, ToStore, ToArgs, State, Target, Row, Defined}
use Rattle.pungi_meaning.specs.Todo.{UnlessNull, WithOutputs, listed_values}
use Rattle.pungi_meaning.specs.Todo.{ToPostfix, ToEmpty}
use Rattle.pungi_meaning.specs.Exprs.{evaluate, base_first, convert, sign, step, is_and}
use Rattle.pungi_meaning.specs.Work.{content_at}
use Rattle.pungi_code.specs.declared.atom.Atom.{Atom}
use Rattle.pungi_code.specs.declared.atom.Atom.TheVariants as atom
use Rattle.pungi_code.specs.declared.code.Line.{Line}
use Rattle.pungi_code.specs.declared.instr.Instr.TheVariants.{Set, Arith, Load, Fall}
use Rattle.pungi_code.specs.declared.place.Place.TheVariants.{Global}
use Rattle.pungi_code.specs.Run.{Around}
use Rattle.pungi_code.specs.Registers.{Regs, put, content_of}
use Rattle.pungi_layout.specs.code.Parts.{is_minus, gives}
use Rattle.pungi_layout.specs.code.Sizes.{expr_size, place_size, values_size, args_size, fit_size, store_size}
use Rattle.pungi_layout.specs.code.Sizes.{sign_size}
use Rattle.pungi_layout.specs.code.ExprCode.{to_var, var, bit}
use Rattle.pungi_layout.specs.code.Scopes.{Env}
use Rattle.pungi_layout.proofs.relation.Waiting.{Waiting, w, target_gives, pushed_if, One, is_same, level}
use Rattle.pungi_layout.proofs.relation.Waiting.{hidden}
use Rattle.pungi_layout.proofs.relation.Relation.{Stands, Does, IsTemp, FitAt, OldAt, StoreAt, PutAt, StepAt, ExprAt}
use Rattle.pungi_layout.proofs.relation.Relation.{BaseAt, ArgsAt, ListArgsAt, CallAt}
use Rattle.pungi_layout.proofs.relation.Remaining.{ItemAt, IsAt, at_once}
use Rattle.pungi_layout.proofs.relation.Values.{Match, pushed}
use Rattle.pungi_layout.proofs.relation.Values.{reserved}
use Rattle.pungi_layout.proofs.relation.Steps.{Continues, IsDone, first, set_step, still, one, moved, still_item}
use Rattle.pungi_layout.proofs.simulation.Operators.{bit_is}
use Rattle.pungi_layout.proofs.simulation.Places.{read_sim, load_sim}

signing_is : (p : Pos) (m : Kind) (kind : ValueKind) (k : List Todo)
    → sign p m kind k ≡ (if is_minus m then ToMinus p kind ∷ k else k)
signing_is p (tokens.Punct puncts.Minus) kind k = refl
signing_is p m kind k = refl

-- the base of a field waits
abbrev pub based : expr.Place → ℕ → List Waiting → List Waiting
based (expr.field_place p base tag field) b ks = w b ∷ ks
based place b ks = ks

module _ (around : Around) (code : List Line) (nl room : ℕ) where
  -- an operand whose value is wanted
  pub eval_at : (v : expr.Value) (k : List Todo) (env : Env) (pc t : ℕ) (ks : List Waiting) → gives v ≡ true
      → IsTemp code nl room (length ks) t → ExprAt code nl room (length ks) t pc v
      → IsAt code nl room env k (pc + expr_size v) (w t ∷ ks) → IsAt code nl room env (ToEval v ∷ k) pc ks
  eval_at v k env pc t ks g at e h = at_once code nl room env (ToEval v ∷ k) pc ks (
    t,
    at,
    e,
    subst (λ b. IsAt code nl room env k (pc + expr_size v)
        (pushed_if b t ks)) (sym g) h,
  )

  pub eval_then : (v : expr.Value) (k : List Todo) (env : Env) (pc t : ℕ) (ks : List Waiting) → gives v ≡ true
      → IsTemp code nl room (length ks) t → ExprAt code nl room (length ks) t pc v
      → ItemAt code nl room env k (pc + expr_size v) (w t ∷ ks) → IsAt code nl room env (ToEval v ∷ k) pc ks
  eval_then v k env pc t ks g at e h =
      eval_at v k env pc t ks g at e (at_once code nl room env k (pc + expr_size v) (w t ∷ ks) h)

  base_at : (place : expr.Place) (k : List Todo) (env : Env) (pc b : ℕ) (ks : List Waiting)
      → BaseAt code nl room (length ks) b pc place
      → IsAt code nl room env k (pc + place_size place) (based place b ks)
      → IsAt code nl room env (base_first place k) pc ks
  base_at (expr.local_place p n) k env pc b ks h is = let e : pc + 0
      ≡ pc = omega arith in moved around code nl room env k (pc + 0) pc ks e is
  base_at (expr.global_place p n) k env pc b ks h is = let e : pc + 0
      ≡ pc = omega arith in moved around code nl room env k (pc + 0) pc ks e is
  base_at (expr.field_place p base tag field) k env pc b ks h is = eval_at base k env pc b ks h.0 h.1 h.2 is
  base_at expr.no_place k env pc b ks h is = absurd h

  old_at : (kind : ValueKind) (place : expr.Place) (k : List Todo) (env : Env) (pc b o : ℕ) (ks : List Waiting)
      → IsTemp code nl room (level place (length ks)) o → OldAt code nl room kind place o b pc
      → IsAt code nl room env k (pc + 1) (w o ∷ based place b ks)
      → IsAt code nl room env (ToOld kind place ∷ k) pc (based place b ks)
  old_at kind (expr.local_place p n) k env pc b o ks at h is =
      at_once code nl room env (ToOld kind (expr.local_place p n) ∷ k) pc (based (expr.local_place p n) b ks)
      (o, at, tt, h, is)
  old_at kind (expr.global_place p n) k env pc b o ks at h is =
      at_once code nl room env (ToOld kind (expr.global_place p n) ∷ k) pc (based (expr.global_place p n) b ks)
      (o, at, tt, h, is)
  old_at kind (expr.field_place p base tag field) k env pc b o ks at h is =
      at_once code nl room env (ToOld kind (expr.field_place p base tag field) ∷ k) pc
      (based (expr.field_place p base tag field) b ks) (o, at, tt, h, is)
  old_at kind expr.no_place k env pc b o ks at h is = absurd h

  pub store_at : (kind : ValueKind) (place : expr.Place) (k : List Todo) (env : Env) (pc b s t : ℕ) (ks : List Waiting)
      → IsTemp code nl room (length ks) t → StoreAt code nl room kind place t b s pc
      → IsAt code nl room env k (pc + store_size) (w t ∷ ks)
      → IsAt code nl room env (ToStore kind place ∷ k) pc (w s ∷ based place b ks)
  store_at kind (expr.local_place p n) k env pc b s t ks at h is =
      at_once code nl room env (ToStore kind (expr.local_place p n) ∷ k) pc
      (w s ∷ based (expr.local_place p n) b ks) (t, tt, tt, at, h, is)
  store_at kind (expr.global_place p n) k env pc b s t ks at h is =
      at_once code nl room env (ToStore kind (expr.global_place p n) ∷ k) pc
      (w s ∷ based (expr.global_place p n) b ks) (t, tt, tt, at, h, is)
  store_at kind (expr.field_place p base tag field) k env pc b s t ks at h is =
      at_once code nl room env (ToStore kind (expr.field_place p base tag field) ∷ k) pc
      (w s ∷ based (expr.field_place p base tag field) b ks) (t, tt, tt, at, h, is)
  store_at kind expr.no_place k env pc b s t ks at h is = absurd h

  based_long : (place : expr.Place) (b : ℕ) (ks : List Waiting) → level place (length ks) ≡ length (based place b ks)
  based_long (expr.local_place p n) b ks = refl
  based_long (expr.global_place p n) b ks = refl
  based_long (expr.field_place p base tag field) b ks = refl
  based_long expr.no_place b ks = refl

  -- an operand above the base of a field
  over_base : (place : expr.Place) (v : expr.Value) (k : List Todo) (env : Env) (pc b t : ℕ) (ks : List Waiting)
      → gives v ≡ true → IsTemp code nl room (level place (length ks)) t
      → ExprAt code nl room (level place (length ks)) t pc v
      → IsAt code nl room env k (pc + expr_size v) (w t ∷ based place b ks)
      → IsAt code nl room env (ToEval v ∷ k) pc (based place b ks)
  over_base place v k env pc b t ks g at e is =
      let q = based_long place b ks in
      eval_at v k env pc t (based place b ks) g (subst (λ d. IsTemp code nl room d t) q at)
      (subst (λ d. ExprAt code nl room d t pc v) q e) is

  -- .. and above what it holds
  over_old : (place : expr.Place) (v : expr.Value) (k : List Todo) (env : Env) (pc b o t : ℕ) (ks : List Waiting)
      → gives v ≡ true → IsTemp code nl room (suc (level place (length ks))) t
      → ExprAt code nl room (suc (level place (length ks))) t pc v
      → IsAt code nl room env k (pc + expr_size v) (w t ∷ w o ∷ based place b ks)
      → IsAt code nl room env (ToEval v ∷ k) pc (w o ∷ based place b ks)
  over_old place v k env pc b o t ks g at e is =
      let q = ap suc (based_long place b ks) in
      eval_at v k env pc t (w o ∷ based place b ks) g (subst (λ d. IsTemp code nl room d t) q at)
      (subst (λ d. ExprAt code nl room d t pc v) q e) is

  -- a counted value is converted and stored
  fit_at : (same : Bool) (p : Pos) (kind : ValueKind) (place : expr.Place) (k : List Todo) (env : Env)
      (pc b c s t : ℕ) (ks : List Waiting) → IsTemp code nl room (length ks) t
      → IsTemp code nl room (level place (length ks)) s → FitAt code nl room same p kind s c pc
      → StoreAt code nl room kind place t b s (pc + (if same then 0 else 1))
      → IsAt code nl room env k (pc + (if same then 0 else 1) + store_size) (w t ∷ ks)
      → IsAt code nl room env (if same then ToStore kind place ∷ k else ToFit p kind ∷ ToStore kind place ∷ k) pc
      (w c ∷ based place b ks)
  fit_at true p kind place k env pc b c s t ks at ats f h is =
      let e : pc + 0 ≡ pc = omega arith in
      let f' : s ≡ c = sym f in
      subst (λ x. IsAt code nl room env (ToStore kind place ∷ k) pc (w x ∷ based place b ks)) f'
      (store_at kind place k env pc b s t ks at (subst (λ x. StoreAt code nl room kind place t b s x) e h)
      (subst (λ x. IsAt code nl room env k (x + store_size) (w t ∷ ks)) e is))
  fit_at false p kind place k env pc b c s t ks at ats f h is =
      at_once code nl room env (ToFit p kind ∷ ToStore kind place ∷ k) pc (w c ∷ based place b ks) (
        s,
        tt,
        subst (λ d. IsTemp code nl room d s) (based_long place b ks) ats,
        f,
        store_at kind place k env (pc + 1) b s t ks at h is,
      )

  put_at : (p : Pos) (kind counted : ValueKind) (place : expr.Place) (k : List Todo) (env : Env) (pc b c t : ℕ)
      (ks : List Waiting) → IsTemp code nl room (length ks) t
      → PutAt code nl room p kind counted place (length ks) t b c pc
      → IsAt code nl room env k (pc + fit_size kind counted + store_size) (w t ∷ ks)
      → IsAt code nl room env (convert p kind counted (ToStore kind place ∷ k)) pc (w c ∷ based place b ks)
  put_at p kind counted place k env pc b c t ks at h is =
      fit_at (is_same kind counted) p kind place k env pc b c h.0 t ks at h.2 h.3 h.4 is

  -- `++` and `--` of what o holds
  pub step_at : (p : Pos) (m : Kind) (kind : ValueKind) (place : expr.Place) (k : List Todo) (env : Env) (pc b o t : ℕ)
      (ks : List Waiting) → IsTemp code nl room (length ks) t
      → StepAt code nl room p m kind place (length ks) t b o pc
      → IsAt code nl room env k (pc + 1 + fit_size kind (wide kind) + store_size) (w t ∷ ks)
      → IsAt code nl room env (step p m kind place k) pc (w o ∷ based place b ks)
  step_at p m kind place k env pc b o t ks at h is =
      at_once code nl room env (step p m kind place k) pc (w o ∷ based place b ks) (
        h.0,
        tt,
        subst (λ d. IsTemp code nl room d h.0) (based_long place b ks) h.3.1,
        h.2,
        put_at p kind (wide kind) place k env (pc + 1) b h.0 t ks at h.3 is,
      )

  -- what a place holds stays the value, in a variable that is reserved for it
  postfix_at : (p : Pos) (m : Kind) (kind : ValueKind) (place : expr.Place) (k : List Todo) (env : Env)
      (pc b o x t : ℕ) (v : Value) (ks : List Waiting) → Does code nl room pc (Set (to_var t) (var o))
      → IsTemp code nl room (suc (length ks)) x
      → StepAt code nl room p m kind place (suc (length ks)) x b o (pc + 1)
      → IsAt code nl room env k (pc + 1 + 1 + fit_size kind (wide kind) + store_size) (w t ∷ ks)
      → IsAt code nl room env (ToPostfix p m kind place ∷ k) pc (w o ∷ based place b (hidden t v ∷ ks))
  postfix_at p m kind (expr.local_place q n) k env pc b o x t v ks d at h is =
      at_once code nl room env (ToPostfix p m kind (expr.local_place q n) ∷ k) pc (w o ∷ hidden t v ∷ ks)
      (x, tt, tt, tt, d, at, h, is)
  postfix_at p m kind (expr.global_place q n) k env pc b o x t v ks d at h is =
      at_once code nl room env (ToPostfix p m kind (expr.global_place q n) ∷ k) pc (w o ∷ hidden t v ∷ ks)
      (x, tt, tt, tt, d, at, h, is)
  postfix_at p m kind (expr.field_place q base tag field) k env pc b o x t v ks d at h is =
      at_once code nl room env (ToPostfix p m kind (expr.field_place q base tag field) ∷ k) pc
      (w o ∷ w b ∷ hidden t v ∷ ks) (x, tt, tt, tt, d, at, h, is)
  postfix_at p m kind expr.no_place k env pc b o x t v ks d at h is = absurd h.3.4

  empty_at : (kind : ValueKind) (place : expr.Place) (k : List Todo) (env : Env) (pc b o x t : ℕ) (v : Value)
      (ks : List Waiting) → Does code nl room pc (Set (to_var t) (var o))
      → Does code nl room (pc + 1) (Set (to_var o) atom.Null) → IsTemp code nl room (suc (length ks)) x
      → StoreAt code nl room kind place x b o (pc + 2) → IsAt code nl room env k (pc + 2 + store_size) (w t ∷ ks)
      → IsAt code nl room env (ToEmpty kind place ∷ k) pc (w o ∷ based place b (hidden t v ∷ ks))
  empty_at kind (expr.local_place q n) k env pc b o x t v ks d z at h is =
      at_once code nl room env (ToEmpty kind (expr.local_place q n) ∷ k) pc (w o ∷ hidden t v ∷ ks)
      (x, tt, tt, tt, d, z, at, h, is)
  empty_at kind (expr.global_place q n) k env pc b o x t v ks d z at h is =
      at_once code nl room env (ToEmpty kind (expr.global_place q n) ∷ k) pc (w o ∷ hidden t v ∷ ks)
      (x, tt, tt, tt, d, z, at, h, is)
  empty_at kind (expr.field_place q base tag field) k env pc b o x t v ks d z at h is =
      at_once code nl room env (ToEmpty kind (expr.field_place q base tag field) ∷ k) pc
      (w o ∷ w b ∷ hidden t v ∷ ks) (x, tt, tt, tt, d, z, at, h, is)
  empty_at kind expr.no_place k env pc b o x t v ks d z at h is = absurd h

  -- arguments in a list
  args_listed : (vs : expr.Values) (d : ℕ) (ts : List ℕ) (pc : ℕ) → ArgsAt code nl room d ts pc vs
      → ListArgsAt code nl room d ts pc (listed_values vs)
  args_listed expr.no_values d ts pc h = h
  args_listed (expr.value_and v vs) d [] pc h = absurd h
  args_listed (expr.value_and v vs) d (t ∷ ts) pc h = (h.0, h.1, h.2, args_listed vs (suc d) ts (pc + expr_size v) h.3)

  args_long : (vs : expr.Values) → values_size vs ≡ args_size (listed_values vs)
  args_long expr.no_values = refl
  args_long (expr.value_and v vs) = ap (λ n. expr_size v + n) (args_long vs)

  signed_at : (minus : Bool) (p : Pos) (kind : ValueKind) (v : expr.Value) (k : List Todo) (env : Env) (pc t : ℕ)
      (ks : List Waiting) → gives v ≡ true → IsTemp code nl room (length ks) t
      → One minus ((x : ℕ) × IsTemp code nl room (length ks) x × ExprAt code nl room (length ks) x pc v
      × Stands code nl room (pc + expr_size v) p (Arith (to_var t) kind ops.Sub (atom.Int (pos 0)) (var x)))
      (ExprAt code nl room (length ks) t pc v)
      → IsAt code nl room env k (pc + (expr_size v + sign_size minus)) (w t ∷ ks)
      → IsAt code nl room env (ToEval v ∷ (if minus then ToMinus p kind ∷ k else k)) pc ks
  signed_at true p kind v k env pc t ks g at h is =
      let e : pc + (expr_size v + 1) ≡ pc + expr_size v + 1 = omega arith in
      eval_then v (ToMinus p kind ∷ k) env pc h.0 ks g h.1 h.2 (
        t,
        tt,
        at,
        h.3,
        moved around code nl room env k
            (pc + (expr_size v + 1)) (pc + expr_size v + 1) (w t ∷ ks) e is,
      )
  signed_at false p kind v k env pc t ks g at h is =
      let e : pc + (expr_size v + 0) ≡ pc + expr_size v = omega arith in
      eval_at v k env pc t ks g at h (moved around code nl room env k (pc + (expr_size v + 0)) (pc + expr_size v)
      (w t ∷ ks) e is)

  -- a leaf
  leaf : (a : Atom) (v : Value) (k : List Todo) (s : State) (env : Env) (pc t : ℕ) (ks : List Waiting) (m : Regs)
      → content_of a m.vars ≡ Holds v → IsTemp code nl room (length ks) t → Does code nl room pc (Set (to_var t) a)
      → IsAt code nl room env k (pc + 1) (w t ∷ ks) → Match code nl room ks s m
      → Continues around code nl room [] k (record s { values = v ∷ s.values }) 0 pc m
  leaf a v k s env pc t ks m e at d is ma =
      one around code nl room [] k (record s { values = v ∷ s.values }) 0 pc m (pc + 1)
      (put (to_var t) (Holds v) m) env (w t ∷ ks) (omega arith) (set_step around code nl room pc t a m v d e) is
      (pushed code nl room ks s m s.values ks t v at ma ma.stack)

  -- a variable is reserved for the value, and holds another one beforehand
  reserve : (a : Atom) (v : Value) (k : List Todo) (s : State) (env : Env) (pc t : ℕ) (ks : List Waiting) (m : Regs)
      → content_of a m.vars ≡ Holds v → IsTemp code nl room (length ks) t → Does code nl room pc (Set (to_var t) a)
      → IsAt code nl room env k (pc + 1) (hidden t v ∷ ks) → Match code nl room ks s m
      → Continues around code nl room [] k s 0 pc m
  reserve a v k s env pc t ks m e at d is ma =
      one around code nl room [] k s 0 pc m (pc + 1) (put (to_var t) (Holds v) m) env (hidden t v ∷ ks) (omega arith)
      (set_step around code nl room pc t a m v d e) is (reserved code nl room ks s m t v at ma)

  -- ---- sums of sizes

  step_sum : (pc a f s : ℕ) → pc + (0 + a + 1 + 0 + 1 + f + s) ≡ pc + a + 1 + 1 + f + s
  step_sum pc a f s = omega arith

  behind_sum : (pc a f s : ℕ) → pc + (1 + a + 1 + 1 + 1 + f + s) ≡ pc + 1 + a + 1 + 1 + 1 + f + s
  behind_sum pc a f s = omega arith

  empty_sum : (pc a s : ℕ) → pc + (1 + a + 1 + 1 + 1 + s) ≡ pc + 1 + a + 1 + 2 + s
  empty_sum pc a s = omega arith

  update_sum : (pc a v f s : ℕ) → pc + (a + 1 + v + 1 + f + s) ≡ pc + a + 1 + v + 1 + f + s
  update_sum pc a v f s = omega arith

  -- a call, before its arguments
  called_sim : (p : Pos) (target : Target) (vs : expr.Values) (k : List Todo) (s : State) (env : Env) (pc end : ℕ)
      (ks : List Waiting) (m : Regs) (t : ℕ) (ts : List ℕ) → IsTemp code nl room (length ks) t
      → ArgsAt code nl room (length ks) ts pc vs
      → CallAt code nl room p target (length ks) t ts (pc + values_size vs) end
      → IsAt code nl room env k end (pushed_if (target_gives target) t ks)
      → Match code nl room ks s m
      → Continues around code nl room [] (ToArgs p target (listed_values vs) 0 ∷ k) s 0 pc m
  called_sim p target vs k s env pc end ks m t ts at args h is ma =
      let q = args_long vs in
      still_item around code nl room (ToArgs p target (listed_values vs) 0 ∷ k) s pc m env ks (
        ts,
        t,
        end,
        omega arith,
        tt,
        args_listed vs (length ks) ts pc args,
        at,
        subst (λ x. CallAt code nl room p target (length ks) t ts (pc + x) end) q h,
        is,
      ) ma

  pub evaluate_sim : (v : expr.Value) (k : List Todo) (s : State) (env : Env) (pc : ℕ) (ks : List Waiting)
      (m : Regs) → ItemAt code nl room env (ToEval v ∷ k) pc ks → Match code nl room ks s m
      → IsDone around code nl room (evaluate around.choices v k s) 0 pc m
  evaluate_sim (expr.constant p n) k s env pc ks m h ma = leaf (atom.Int n) (value.Int n) k s env pc h.0 ks m refl
      h.1 h.2 h.3 ma
  evaluate_sim (expr.text_of p ns) k s env pc ks m h ma = leaf atom.Text value.Text k s env pc h.0 ks m refl h.1 h.2
      h.3 ma
  evaluate_sim (expr.null_of p) k s env pc ks m h ma = leaf atom.Null value.Null k s env pc h.0 ks m refl h.1 h.2 h.3 ma
  evaluate_sim (expr.static_of p n) k s env pc ks m h ma = leaf (atom.Static n) (value.Object n) k s env pc h.0 ks m
      refl h.1 h.2 h.3 ma
  evaluate_sim (expr.module_of p n) k s env pc ks m h ma = leaf atom.Text value.Text k s env pc h.0 ks m refl h.1
      h.2 h.3 ma
  evaluate_sim (expr.read p kind (expr.local_place q n)) k s env pc ks m h ma =
      read_sim around code nl room (content_at s.locals n) q n h.0 k s env pc ks m (ma.locals n h.2.0) h.1 h.2.1 h.3 ma
  evaluate_sim (expr.read p kind (expr.global_place q n)) k s env pc ks m h ma =
      load_sim around code nl room q kind (slot.Global n) h.0 k s env pc ks ks m
      (first around code nl room pc q (Load (to_var h.0) (Global n (slot_kind kind))) m h.2) h.1 h.3 ma ma.stack
  evaluate_sim (expr.read p kind (expr.field_place q base tag field)) k s env pc ks m h ma =
      let e : pc + (expr_size base + 1) ≡ pc + expr_size base + 1 = omega arith in
      still around code nl room (ToEval base ∷ ToLoad q kind tag field ∷ k) s pc m env ks
      (eval_then base (ToLoad q kind tag field ∷ k) env pc h.2.0 ks h.2.1 h.2.2 h.2.3 (
        h.0,
        tt,
        h.1,
        h.2.4,
        moved around code nl room env k (pc + (expr_size base + 1)) (pc + expr_size base + 1)
            (w h.0 ∷ ks) e h.3,
      )) ma
  evaluate_sim (expr.read p kind expr.no_place) k s env pc ks m h ma = absurd h.2
  evaluate_sim (expr.inner p v) k s env pc ks m h ma =
      still_item around code nl room (ToEval v ∷ k) s pc m env ks h ma
  evaluate_sim (expr.signed p mk kind v) k s env pc ks m h ma =
      still around code nl room (ToEval v ∷ sign p mk kind k) s pc m env ks
      (subst (λ l. IsAt code nl room env (ToEval v ∷ l) pc ks) (sym (signing_is p mk kind k))
      (signed_at (is_minus mk) p kind v k env pc h.0 ks h.2.0 h.1 h.2.1 h.3)) ma
  evaluate_sim (expr.negated p v) k s env pc ks m h ma =
      let e : pc + (1 + expr_size v + 2) ≡ pc + 1 + expr_size v + 2 = omega arith in
      reserve (bit true) (truth true) (ToEval v ∷ ToNot ∷ k) s env pc h.0 ks m refl h.1 h.2.1
      (eval_then v (ToNot ∷ k) env (pc + 1) h.2.0 (hidden h.0 (truth true) ∷ ks) h.2.2 h.2.3 h.2.4 (
        refl,
        h.2.5,
        h.2.6,
        moved around code nl room env k (pc + (1 + expr_size v + 2))
            (pc + 1 + expr_size v + 2) (w h.0 ∷ ks) e h.3,
      )) ma
  evaluate_sim (expr.stepped p false mk kind place) k s env pc ks m h ma =
      let at = pc + place_size place in
      still around code nl room (base_first place (ToOld kind place ∷ step p mk kind place k)) s pc m env ks
      (base_at place (ToOld kind place ∷ step p mk kind place k) env pc h.2.0 ks h.2.2
      (old_at kind place (step p mk kind place k) env at h.2.0 h.2.1 ks h.2.4.1 h.2.3
      (step_at p mk kind place k env (at + 1) h.2.0 h.2.1 h.0 ks h.1 h.2.4
      (moved around code nl room env k _ _ (w h.0 ∷ ks) (step_sum pc (place_size place) (fit_size kind (wide kind))
      (store_size)) h.3)))) ma
  evaluate_sim (expr.stepped p true mk kind place) k s env pc ks m h ma =
      let at = pc + 1 + place_size place in
      let v = value.Int (pos 0) in
      let ls = hidden h.0 v ∷ ks in
      let last = ToPostfix p mk kind place ∷ k in
      let e : at + 2 ≡ at + 1 + 1 = omega arith in
      reserve (bit false) v (base_first place (ToOld kind place ∷ last)) s env pc h.0 ks m refl h.1 h.2.3
      (base_at place (ToOld kind place ∷ last) env (pc + 1) h.2.0 ls h.2.4
      (old_at kind place last env at h.2.0 h.2.1 ls h.2.8.1 h.2.5
      (postfix_at p mk kind place k env (at + 1) h.2.0 h.2.1 h.2.2 h.0 v ks h.2.6 h.2.7
      (subst (λ x. StepAt code nl room p mk kind place (suc (length ks)) h.2.2 h.2.0 h.2.1 x) e h.2.8)
      (moved around code nl room env k _ _ (w h.0 ∷ ks) (behind_sum pc (place_size place) (fit_size kind (wide kind))
      (store_size)) h.3)))) ma
  evaluate_sim (expr.emptied p kind place) k s env pc ks m h ma =
      let at = pc + 1 + place_size place in
      let ls = hidden h.0 value.Null ∷ ks in
      let last = ToEmpty kind place ∷ k in
      let e2 : at + 2 ≡ at + 1 + 1 = omega arith in
      let e3 : at + 3 ≡ at + 1 + 2 = omega arith in
      reserve atom.Null value.Null (base_first place (ToOld kind place ∷ last)) s env pc h.0 ks m refl h.1 h.2.3
      (base_at place (ToOld kind place ∷ last) env (pc + 1) h.2.0 ls h.2.4
      (old_at kind place last env at h.2.0 h.2.1 ls h.2.5 h.2.6
      (empty_at kind place k env (at + 1) h.2.0 h.2.1 h.2.2 h.0 value.Null ks h.2.7
      (subst (λ x. Does code nl room x (Set (to_var h.2.1) atom.Null)) e2 h.2.8) h.2.9
      (subst (λ x. StoreAt code nl room kind place h.2.2 h.2.0 h.2.1 x) e3 h.2.10)
      (moved around code nl room env k _ _ (w h.0 ∷ ks) (empty_sum pc (place_size place) (store_size)) h.3)))) ma
  evaluate_sim (expr.computed p mk kind a b) k s env pc ks m h ma =
      let e : pc + (expr_size a + expr_size b + 1) ≡ pc + expr_size a + expr_size b + 1 = omega arith in
      still around code nl room (ToEval a ∷ ToEval b ∷ ToCompute p (op_of mk) kind ∷ k) s pc m env ks
      (eval_at a (ToEval b ∷ ToCompute p (op_of mk) kind ∷ k) env pc h.2.0 ks h.2.2 h.2.3 h.2.4
      (eval_then b (ToCompute p (op_of mk) kind ∷ k) env (pc + expr_size a) h.2.1 (w h.2.0 ∷ ks) h.2.5 h.2.6 h.2.7
      (h.0, tt, h.1, h.2.8, moved around code nl room env k _ _ (w h.0 ∷ ks) e h.3))) ma
  evaluate_sim (expr.compared p mk a b) k s env pc ks m h ma =
      let e : pc + (expr_size a + expr_size b + 1) ≡ pc + expr_size a + expr_size b + 1 = omega arith in
      still around code nl room (ToEval a ∷ ToEval b ∷ ToCompare p (cmp_of mk) ∷ k) s pc m env ks
      (eval_at a (ToEval b ∷ ToCompare p (cmp_of mk) ∷ k) env pc h.2.0 ks h.2.2 h.2.3 h.2.4
      (eval_then b (ToCompare p (cmp_of mk) ∷ k) env (pc + expr_size a) h.2.1 (w h.2.0 ∷ ks) h.2.5 h.2.6 h.2.7
      (h.0, tt, h.1, h.2.8, moved around code nl room env k _ _ (w h.0 ∷ ks) e h.3))) ma
  evaluate_sim (expr.joined_by p mk a b) k s env pc ks m h ma =
      let e : pc + (1 + expr_size a + 1 + expr_size b + 2) ≡ pc + 1 + expr_size a + 1 + expr_size b + 2 = omega arith in
      let on = is_and mk in
      reserve (bit (not on)) (truth (not on)) (ToEval a ∷ ToRight on b ∷ k) s env pc h.0 ks m (bit_is (not on) m.vars)
      h.1 h.2.2
      (eval_then a (ToRight on b ∷ k) env (pc + 1) h.2.0 (hidden h.0 (truth (not on)) ∷ ks) h.2.3 h.2.4 h.2.5 (
        h.2.1,
        pc + 1 + expr_size a + 1 + expr_size b + 2,
        refl,
        h.2.6,
        h.2.7,
        h.2.8,
        h.2.9,
        h.2.10,
        refl,
        moved
            around code nl room env k _ _ (w h.0 ∷ ks) e h.3,
      )) ma
  evaluate_sim (expr.stored p kind place v) k s env pc ks m h ma =
      let e : pc + (place_size place + expr_size v + store_size)
      ≡ pc + place_size place + expr_size v + store_size = omega arith in
      still around code nl room (base_first place (ToEval v ∷ ToStore kind place ∷ k)) s pc m env ks
      (base_at place (ToEval v ∷ ToStore kind place ∷ k) env pc h.2.0 ks h.2.2
      (over_base place v (ToStore kind place ∷ k) env (pc + place_size place) h.2.0 h.2.1 ks h.2.3 h.2.4 h.2.5
      (store_at kind place k env (pc + place_size place + expr_size v) h.2.0 h.2.1 h.0 ks h.1 h.2.6
      (moved around code nl room env k _ _ (w h.0 ∷ ks) e h.3)))) ma
  evaluate_sim (expr.updated p mk counted kind place v) k s env pc ks m h ma =
      let at = pc + place_size place in
      let last = convert p kind counted (ToStore kind place ∷ k) in
      let compute = ToCompute p (op_of mk) counted ∷ last in
      still around code nl room (base_first place (ToOld kind place ∷ ToEval v ∷ compute)) s pc m env ks
      (base_at place (ToOld kind place ∷ ToEval v ∷ compute) env pc h.2.0 ks h.2.4
      (old_at kind place (ToEval v ∷ compute) env at h.2.0 h.2.1 ks h.2.5 h.2.6
      (over_old place v compute env (at + 1) h.2.0 h.2.1 h.2.2 ks h.2.7 h.2.8 h.2.9
      (at_once code nl room env compute (at + 1 + expr_size v) (w h.2.2 ∷ w h.2.1 ∷ based place h.2.0 ks) (
        h.2.3,
        tt,
        subst (λ d. IsTemp code nl room d h.2.3) (based_long place h.2.0 ks) h.2.11.1,
        h.2.10,
        put_at p kind counted place k env (at + 1 + expr_size v + 1) h.2.0 h.2.3 h.0 ks h.1 h.2.11
            (moved around code nl room env k _ _ (w h.0 ∷ ks) (update_sum pc (place_size place) (expr_size v)
            (fit_size kind counted) (store_size)) h.3),
      ))))) ma
  evaluate_sim (expr.chosen p c a b) k s env pc ks m h ma =
      let e : pc + (expr_size c + 1 + expr_size a + 1 + expr_size b)
      ≡ pc + expr_size c + 1 + expr_size a + 1 + expr_size b = omega arith in
      still around code nl room (ToEval c ∷ ToPick a b ∷ k) s pc m env ks
      (eval_then c (ToPick a b ∷ k) env pc h.2.0 ks h.2.1 h.2.2 h.2.3 (
        h.0,
        pc + expr_size c + 1 + expr_size a + 1 + expr_size b,
        tt,
        h.1,
        h.2.4,
        h.2.5,
        h.2.6,
        h.2.7,
        h.2.8,
        h.2.9,
        refl,
        moved around code nl room env k _ _ (w h.0 ∷ ks) e h.3,
      )) ma
  evaluate_sim (expr.converted p kind v) k s env pc ks m h ma =
      let e : pc + (expr_size v + 1) ≡ pc + expr_size v + 1 = omega arith in
      still around code nl room (ToEval v ∷ ToFit p kind ∷ k) s pc m env ks
      (eval_then v (ToFit p kind ∷ k) env pc h.2.0 ks h.2.1 h.2.2 h.2.3 (
        h.0,
        tt,
        h.1,
        h.2.4,
        moved around code nl
            room env k _ _ (w h.0 ∷ ks) e h.3,
      )) ma
  evaluate_sim (expr.cast_of p v) k s env pc ks m h ma =
      still_item around code nl room (ToEval v ∷ k) s pc m env ks h ma
  evaluate_sim (expr.dropped p v) k s env pc ks m h ma =
      still_item around code nl room (ToEval v ∷ k) s pc m env ks h ma
  evaluate_sim (expr.called p f vs) k s env pc ks m h ma =
      called_sim p (Defined f) vs k s env pc _ ks m h.0 h.2.0 h.1 h.2.1 h.2.2 h.3 ma
  evaluate_sim (expr.called_row p n g vs) k s env pc ks m h ma =
      called_sim p (Row g) vs k s env pc _ ks m h.0 h.2.0 h.1 h.2.1 h.2.2 h.3 ma
  evaluate_sim (expr.called_unless_null p n g vs) k s env pc ks m h ma =
      called_sim p (UnlessNull g) vs k s env pc _ ks m h.0 h.2.0 h.1 h.2.1 h.2.2 h.3 ma
  evaluate_sim (expr.called_with_outputs p n g vs steps) k s env pc ks m h ma =
      called_sim p (WithOutputs g steps) vs k s env pc _ ks m h.0 h.2.0 h.1 h.2.1 h.2.2 h.3 ma
  evaluate_sim (expr.nonsense p) k s env pc ks m h ma = (1, first around code nl room pc p Fall m h.2 0)
