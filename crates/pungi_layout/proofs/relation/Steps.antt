-- What the code does at a place where an instruction is known to stand.
use Rattle.std.proofs.Common.{◌≡◌, ℕ, zero, suc, ◌+◌, ◌≤◌, ℤ, List, [], ◌∷◌, ◌++◌, replicate, Option, Some, None}
use Rattle.std.proofs.Common.{Result, Ok}
use Rattle.std.proofs.Common.{Err, refl, sym, ap, ◌∙◌, subst, arith, Bool, true, false, not, if◌then◌else◌}
use Rattle.pungi_base.specs.declared.pos.Pos.{Pos}
use Rattle.pungi_base.specs.declared.value.Value.{Value}
use Rattle.pungi_base.specs.declared.value.Value.TheVariants as value
use Rattle.pungi_types.specs.declared.kind.ValueKind.{ValueKind}
use Rattle.pungi_world.specs.declared.content.Content.{Content}
use Rattle.pungi_world.specs.declared.content.Content.TheVariants.{Holds}
use Rattle.pungi_world.specs.declared.effect.Effect.{Effect}
use Rattle.pungi_world.specs.declared.halt.Halt.{Halt}
use Rattle.pungi_world.specs.declared.halt.Halt.TheVariants as halt
use Rattle.pungi_world.specs.declared.world.World.{World}
use Rattle.pungi_meaning.specs.declared.op.Op.{Op}
use Rattle.pungi_meaning.specs.declared.cmp.Cmp.{Cmp}
use Rattle.pungi_meaning.specs.Values.{fits, is_true, truth, arithmetic, holds, number_of}
use Rattle.pungi_meaning.specs.Todo.{Operation, Computed, Fitted, Compared, Todo, State, Step, Goes, Stops}
use Rattle.pungi_meaning.specs.Exprs.{is_wanted}
use Rattle.pungi_meaning.specs.Run.{Run, end_at_once, with_operations, Stopped}
use Rattle.pungi_meaning.specs.Work as work
use Rattle.pungi_code.specs.declared.atom.Atom.{Atom}
use Rattle.pungi_code.specs.declared.code.Line.{Line}
use Rattle.pungi_code.specs.declared.instr.Instr.{Instr}
use Rattle.pungi_code.specs.declared.instr.Instr.TheVariants.{Set, Arith, Fit, Compare, Branch, Jump}
use Rattle.pungi_code.specs.Frames.{Rest}
use Rattle.pungi_code.specs.Registers.{Regs, put, content_of, with_value, after_effect}
use Rattle.pungi_code.specs.Perform.{with_number}
use Rattle.pungi_code.specs.Run.{Around, among, perform_in, fetch_in, execute, exec_in}
use Rattle.pungi_code.proofs.Simulation.{ahead, ahead_is, GoesOn, Leads}
use Rattle.pungi_layout.specs.code.ExprCode.{to_var, var, at_label, branch_on}
use Rattle.pungi_layout.specs.code.Scopes.{Env}
use Rattle.pungi_layout.proofs.relation.Waiting.{Waiting}
use Rattle.pungi_layout.proofs.relation.Relation.{Stands, Does}
use Rattle.pungi_layout.proofs.relation.Remaining.{ItemAt, IsAt, at_once}
use Rattle.pungi_layout.proofs.relation.Remaining.{Hops}
use Rattle.pungi_layout.proofs.relation.Values.{Match}

-- a state, part by part
abbrev pub st : World → List Pos → List Content → List Value → State
st x u l vs = record { world = x; used = u; locals = l; values = vs }

pub if_not : {A : Type 0} (b : Bool) (x y : A) → (if b then x else y) ≡ (if not b then y else x)
if_not true x y = refl
if_not false x y = refl

pub true_of : (b : Bool) → is_true (truth b) ≡ b
true_of true = refl
true_of false = refl

pub ahead_sum : (a b j : ℕ) → ahead (a + b) j ≡ ahead a (ahead b j)
ahead_sum a b j = ahead_is (a + b) j ∙ both ∙ sym (ahead_is a (ahead b j))
  where
    both : a + b + j ≡ a + ahead b j
    both = let e = ahead_is b j in omega (arith, e)

-- what a step makes of a result
abbrev pub result_step : Option ℤ → Operation → Pos → List Todo → State → Step
result_step None op p k s = Stops p
result_step (Some n) op p k s = Goes (op ∷ []) k (record s { values = value.Int n ∷ s.values })

-- what remains, in this state, stands in a code at this place
abbrev pub At : ℕ → ℕ → List Line → List Todo → State → ℕ → Regs → Type 0
At nl room code k s pc m = (env : Env) × (ks : List Waiting) × IsAt code nl room env k pc ks × Match code nl room ks s m

-- what comes after an instruction, in a run of so many more
abbrev pub next_of : Around → ℕ → Rest
next_of around j = execute around.codes around.choices j

module _ (around : Around) (code : List Line) (nl room : ℕ) where
  abbrev pub Continues : List Operation → List Todo → State → ℕ → ℕ → Regs → Type 0
  Continues ops k s b pc m = GoesOn (At nl room) around code ops k s b pc m

  abbrev pub IsDone : Step → ℕ → ℕ → Regs → Type 0
  IsDone step b pc m = Leads (At nl room) around code step b pc m

  -- ---- one instruction

  pub first : (pc : ℕ) (p : Pos) (i : Instr) (m : Regs) → Stands code nl room pc p i → (j : ℕ)
      → exec_in around code (suc j) pc m
      ≡ perform_in (among around.codes around.choices around.frames) (next_of around j) code i p pc m
  first pc p i m h j =
      ap (λ o. fetch_in (among around.codes around.choices around.frames) (next_of around j) code o pc m) h

  pub with_it : (c : Content) (v : Value) (p : Pos) (go : Value → Run) → c ≡ Holds v → with_value c p go ≡ go v
  with_it c v p go e = ap (λ x. with_value x p go) e

  pub set_step : (pc t : ℕ) (a : Atom) (m : Regs) (v : Value) → Does code nl room pc (Set (to_var t) a)
      → content_of a m.vars ≡ Holds v → (j : ℕ)
      → exec_in around code (suc j) pc m ≡ exec_in around code j (pc + 1) (put (to_var t) (Holds v) m)
  set_step pc t a m v d e j =
      first pc d.0 (Set (to_var t) a) m d.1 j ∙ with_it (content_of a m.vars) v d.0
      (λ x. exec_in around code j (pc + 1) (put (to_var t) (Holds x) m)) e

  pub jump_step : (pc to : ℕ) (m : Regs) → Does code nl room pc (Jump (at_label to)) → (j : ℕ)
      → exec_in around code (suc j) pc m ≡ exec_in around code j to m
  jump_step pc to m d j = first pc d.0 (Jump (at_label to)) m d.1 j

  pub branch_step : (pc x this other : ℕ) (m : Regs) (v : Value)
      → Does code nl room pc (Branch (var x) (at_label this) (at_label other)) → content_of (var x) m.vars ≡ Holds v
      → (j : ℕ) → exec_in around code (suc j) pc m ≡ exec_in around code j (if is_true v then this else other) m
  branch_step pc x this other m v d e j =
      first pc d.0 (Branch (var x) (at_label this) (at_label other)) m d.1 j
      ∙ with_it (content_of (var x) m.vars) v d.0 (λ y. exec_in around code j (if is_true y then this else other) m)
      e

  -- a branch on the wanted truth
  pub wanted_step : (on : Bool) (pc x this other : ℕ) (m : Regs) (v : Value)
      → Does code nl room pc (branch_on on x this other) → content_of (var x) m.vars ≡ Holds v → (j : ℕ)
      → exec_in around code (suc j) pc m ≡ exec_in around code j (if is_wanted on (is_true v) then this else other) m
  wanted_step true pc x this other m v d e j = branch_step pc x this other m v d e j
  wanted_step false pc x this other m v d e j =
      branch_step pc x other this m v d e j ∙ ap (λ n. exec_in around code j n m) (if_not (is_true v) other this)

  pub arith_step : (pc : ℕ) (p : Pos) (t : ℕ) (kind : ValueKind) (o : Op) (a b : Atom) (m : Regs) (x y : Value)
      → Stands code nl room pc p (Arith (to_var t) kind o a b) → content_of a m.vars ≡ Holds x
      → content_of b m.vars ≡ Holds y → (j : ℕ)
      → exec_in around code (suc j) pc m ≡ with_number p (arithmetic o kind (number_of x) (number_of y))
      (λ n. with_operations (Computed p o kind x y ∷ [])
      (exec_in around code j (pc + 1) (put (to_var t) (Holds (value.Int n)) m)))
  arith_step pc p t kind o a b m x y h ea eb j =
      first pc p (Arith (to_var t) kind o a b) m h j
      ∙ with_it (content_of a m.vars) x p (λ v. with_value (content_of b m.vars) p
      (λ z. with_number p (arithmetic o kind (number_of v) (number_of z)) (λ n. with_operations
      (Computed p o kind v z ∷ []) (exec_in around code j (pc + 1)
      (put (to_var t) (Holds (value.Int n)) m))))) ea
      ∙ with_it (content_of b m.vars) y p (λ z. with_number p (arithmetic o kind (number_of x) (number_of z))
      (λ n. with_operations (Computed p o kind x z ∷ [])
      (exec_in around code j (pc + 1) (put (to_var t) (Holds (value.Int n)) m)))) eb

  pub compare_step : (pc : ℕ) (p : Pos) (t : ℕ) (c : Cmp) (a b : Atom) (m : Regs) (x y : Value)
      → Stands code nl room pc p (Compare (to_var t) c a b) → content_of a m.vars ≡ Holds x
      → content_of b m.vars ≡ Holds y → (j : ℕ)
      → exec_in around code (suc j) pc m ≡ with_operations (Compared p c x y ∷ [])
      (exec_in around code j (pc + 1) (put (to_var t) (Holds (truth (holds c x y))) m))
  compare_step pc p t c a b m x y h ea eb j =
      first pc p (Compare (to_var t) c a b) m h j
      ∙ with_it (content_of a m.vars) x p (λ v. with_value (content_of b m.vars) p
      (λ z. with_operations (Compared p c v z ∷ []) (exec_in around code j (pc + 1)
      (put (to_var t) (Holds (truth (holds c v z))) m)))) ea
      ∙ with_it (content_of b m.vars) y p (λ z. with_operations (Compared p c x z ∷ [])
      (exec_in around code j (pc + 1) (put (to_var t) (Holds (truth (holds c x z))) m))) eb

  pub fit_step : (pc : ℕ) (p : Pos) (t : ℕ) (kind : ValueKind) (a : Atom) (m : Regs) (x : Value)
      → Stands code nl room pc p (Fit (to_var t) kind a) → content_of a m.vars ≡ Holds x → (j : ℕ)
      → exec_in around code (suc j) pc m ≡ (if fits kind (number_of x) then with_operations
      (Fitted p kind x ∷ []) (exec_in around code j (pc
      + 1) (put (to_var t) (Holds (value.Int (number_of x))) m)) else end_at_once (Stopped p))
  fit_step pc p t kind a m x h e j =
      first pc p (Fit (to_var t) kind a) m h j
      ∙ with_it (content_of a m.vars) x p (λ v. if fits kind (number_of v) then with_operations
      (Fitted p kind v ∷ []) (exec_in around code j (pc
      + 1) (put (to_var t) (Holds (value.Int (number_of v))) m)) else end_at_once (Stopped p)) e

  -- ---- steps of a function

  -- jumps lead on
  pub hopping : (n pc end : ℕ) (m : Regs) → Hops code nl room n pc end → (j : ℕ)
      → exec_in around code (ahead n j) pc m ≡ exec_in around code j end m
  hopping zero pc end m h j = ap (λ x. exec_in around code j x m) h
  hopping (suc n) pc end m h j = jump_step pc h.0 m h.1 (ahead n j) ∙ hopping n h.0 end m h.2 j

  -- by no instruction
  pub still : (k : List Todo) (s : State) (pc : ℕ) (m : Regs) (env : Env) (ks : List Waiting)
      → IsAt code nl room env k pc ks → Match code nl room ks s m → Continues [] k s 0 pc m
  still k s pc m env ks h ma = record {
    count = 0;
    least = omega arith;
    place = pc;
    regs = m;
    by = λ j. refl;
    stands
        = (env, ks, h, ma);
  }

  pub still_item : (k : List Todo) (s : State) (pc : ℕ) (m : Regs) (env : Env) (ks : List Waiting)
      → ItemAt code nl room env k pc ks → Match code nl room ks s m → Continues [] k s 0 pc m
  still_item k s pc m env ks h ma = still k s pc m env ks (at_once code nl room env k pc ks h) ma

  pub one : (ops : List Operation) (k : List Todo) (s : State) (b pc : ℕ) (m : Regs) (to : ℕ) (n : Regs) (env : Env)
      (ks : List Waiting) → b ≤ 1 → ((j : ℕ) → exec_in around code (suc j) pc m
      ≡ with_operations ops (exec_in around code j to n)) → IsAt code nl room env k to ks → Match code nl room ks s n
      → Continues ops k s b pc m
  one ops k s b pc m to n env ks le e h ma = record {
    count = 1;
    least = le;
    place = to;
    regs = n;
    by = e;
    stands
        = (env, ks, h, ma);
  }

  pub two : (ops : List Operation) (k : List Todo) (s : State) (pc : ℕ) (m : Regs) (to : ℕ) (n : Regs) (env : Env)
      (ks : List Waiting) → ((j : ℕ) → exec_in around code (suc (suc j)) pc m
      ≡ with_operations ops (exec_in around code j to n)) → IsAt code nl room env k to ks → Match code nl room ks s n
      → Continues ops k s 0 pc m
  two ops k s pc m to n env ks e h ma = record {
    count = 2;
    least = omega arith;
    place = to;
    regs = n;
    by = e;
    stands = (env, ks, h, ma);
  }

  -- at another name for a place
  pub moved : (env : Env) (k : List Todo) (a b : ℕ) (ks : List Waiting) → a ≡ b → IsAt code nl room env k a ks
      → IsAt code nl room env k b ks
  moved env k a b ks e h = subst (λ x. IsAt code nl room env k x ks) e h

  -- what the world returns, after some instructions
  pub react_by : (count b : ℕ) (r : Result (Effect × World) Halt) (p : Pos) (s : State) (m : Regs) (pc : ℕ)
      (go : Effect → State → Step) (then' : ℕ → Effect → Regs → Run)
      → ((j : ℕ) → exec_in around code (ahead count j) pc m ≡ after_effect p r m (then' j))
      → ((e : Effect × World) → r ≡ Ok e → ((j : ℕ)
      → exec_in around code (ahead count j) pc m ≡ then' j e.0 (record m {
        world = e.1;
        used = m.used
            ++ replicate e.0.used p;
      })) → IsDone (go e.0 (record s { world = e.1; used = s.used ++ replicate e.0.used p }))
      b pc m) → IsDone (work.after_effect p r go s) b pc m
  react_by count b (Ok e) p s m pc go then' h ok = ok e refl h
  react_by count b (Err halt.Stopped) p s m pc go then' h ok = (ahead count 0, h 0)
  react_by count b (Err halt.NeedsChoice) p s m pc go then' h ok = (ahead count 0, h 0)
  react_by count b (Err halt.Memory) p s m pc go then' h ok = (ahead count 0, h 0)

  -- a result, where there is one
  pub computed_by : (r : Option ℤ) (op : Operation) (p : Pos) (t : ℕ) (k : List Todo) (s : State) (m : Regs)
      (pc : ℕ) (env : Env) (ks : List Waiting)
      → ((j : ℕ) → exec_in around code (suc j) pc m ≡ with_number p r (λ n. with_operations (op ∷ [])
      (exec_in around code j (pc + 1) (put (to_var t) (Holds (value.Int n)) m)))) → IsAt code nl room env k (pc + 1) ks
      → ((n : ℤ) → Match code nl room ks (record s { values = value.Int n ∷ s.values })
      (put (to_var t) (Holds (value.Int n)) m)) → IsDone (result_step r op p k s) 0 pc m
  computed_by None op p t k s m pc env ks e h ma = (1, e 0)
  computed_by (Some n) op p t k s m pc env ks e h ma =
      one (op ∷ []) k (record s { values = value.Int n ∷ s.values }) 0 pc m (pc + 1)
      (put (to_var t) (Holds (value.Int n)) m) env ks (omega arith) e h (ma n)
