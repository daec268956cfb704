-- What remains of a function, and a place of its code.
use Rattle.std.proofs.Common.{◌≡◌, ℕ, zero, suc, ◌+◌, ◌<◌, ◌≤◌, ◌⊎◌, List, [], ◌∷◌, take, drop, length}
use Rattle.std.proofs.Common.{Some, Bool, true, false, not, pos, refl, sym, subst, inl, inr}
use mathlib.Core.List.{reverse_aux}
use Rattle.pungi_base.specs.declared.names.Name.{Name}
use Rattle.pungi_meaning.specs.declared.op.Op.TheVariants as ops
use Rattle.pungi_meaning.specs.Values.{wide, slot_kind, truth}
use Rattle.pungi_meaning.specs.Todo.{Todo, ToEval, ToLoad, ToOld, ToPostfix, ToEmpty, ToYield, ToStep, ToMinus}
use Rattle.pungi_meaning.specs.Todo.{ToCompute}
use Rattle.pungi_meaning.specs.Todo.{ToFit, ToCompare, ToNot, ToRight, ToTruth, ToPick, ToStore, ToArgs}
use Rattle.pungi_meaning.specs.Todo.{ToOutputs, ToExec, ToForget, ToDeclare, ToBind, ToChoose, ToRest, ToTest}
use Rattle.pungi_meaning.specs.Todo.{ToTurn, ToAgain, ToSwitch, ToSwitchEnd, ToReturn, ToEnd}
use Rattle.pungi_code.specs.declared.atom.Atom.TheVariants as atom
use Rattle.pungi_code.specs.declared.code.Line.{Line}
use Rattle.pungi_code.specs.declared.instr.Instr.TheVariants.{Set, Arith, Fit, Compare, Load}
use Rattle.pungi_code.specs.declared.instr.Instr.TheVariants.{Jump, Branch, Return}
use Rattle.pungi_code.specs.declared.place.Place.TheVariants.{Field}
use Rattle.pungi_layout.specs.code.Parts.{gives}
use Rattle.pungi_layout.specs.code.Sizes.{expr_size, args_size, fit_size, store_size}
use Rattle.pungi_layout.specs.code.Sizes.{declare_size, switch_size, stmt_size}
use Rattle.pungi_layout.specs.code.ExprCode.{to_var, var, at_label, bit, branch_on}
use Rattle.pungi_layout.specs.code.Scopes.{Env}
use Rattle.pungi_layout.proofs.relation.Waiting.{Waiting, w, top_var, rest, HasMany, HasOne, HasTwo, IsHidden}
use Rattle.pungi_layout.proofs.relation.Waiting.{OverHidden}
use Rattle.pungi_layout.proofs.relation.Waiting.{vars_of, target_gives, pushed_if, BaseWaits, below_store}
use Rattle.pungi_layout.proofs.relation.Waiting.{loop_body, loop_again}
use Rattle.pungi_layout.proofs.relation.Waiting.{end_of_loop, join_size}
use Rattle.pungi_layout.proofs.relation.Relation.{Stands, Does, IsTemp, OutputsAt, CallAt, OldAt, StoreAt, StepAt}
use Rattle.pungi_layout.proofs.relation.Relation.{TruthAt, ExprAt, ListArgsAt, ReachAt, StmtAt, SwitchAt, LoopAt}
use Rattle.pungi_layout.proofs.relation.Relation.{ListAt, Inside, EndAt, OtherAt, JoinAt}

module _ (code : List Line) (nl room : ℕ) where
  -- so many jumps lead from a place to another
  abbrev pub Hops : ℕ → ℕ → ℕ → Type 0
  Hops zero pc end = pc ≡ end
  Hops (suc n) pc end = (to : ℕ) × Does code nl room pc (Jump (at_label to)) × Hops n to end

  -- at a place, or where jumps lead from there
  abbrev pub Via : ℕ → (ℕ → Type 0) → Type 0
  Via pc P = (n : ℕ) × (end : ℕ) × Hops n pc end × P end

  -- what remains to be done, while these values wait, has its instructions at this place
  abbrev pub ItemAt : Env → List Todo → ℕ → List Waiting → Type 0
  ItemAt env [] pc ks = ⊥
  ItemAt env (ToEval v ∷ k) pc ks =
      (t : ℕ) × IsTemp code nl room (length ks) t × ExprAt code nl room (length ks) t pc v
      × Via (pc + expr_size v) (λ q. ItemAt env k q (pushed_if (gives v) t ks))
  ItemAt env (ToLoad p kind tag field ∷ k) pc ks =
      (t : ℕ) × HasOne ks × IsTemp code nl room (length (rest ks)) t
      × Stands code nl room pc p (Load (to_var t) (Field (var (top_var ks)) tag field (slot_kind kind)))
      × Via (pc + 1) (λ q. ItemAt env k q (w t ∷ rest ks))
  ItemAt env (ToOld kind place ∷ k) pc ks =
      (t : ℕ) × IsTemp code nl room (length ks) t × BaseWaits place ks × OldAt code nl room kind place t (top_var ks) pc
      × Via (pc + 1) (λ q. ItemAt env k q (w t ∷ ks))
  ItemAt env (ToStep p o kind ∷ k) pc ks =
      (t : ℕ) × HasOne ks × IsTemp code nl room (length (rest ks)) t
      × Stands code nl room pc p (Arith (to_var t) kind o (var (top_var ks)) (atom.Int (pos 1)))
      × Via (pc + 1) (λ q. ItemAt env k q (w t ∷ rest ks))
  ItemAt env (ToPostfix p m kind place ∷ k) pc ks =
      (x : ℕ) × HasOne ks × BaseWaits place (rest ks) × IsHidden (below_store place ks)
      × Does code nl room pc (Set (to_var (top_var (below_store place ks))) (var (top_var ks)))
      × IsTemp code nl room (length (below_store place ks)) x
      × StepAt code nl room p m kind place (length (below_store place ks)) x (top_var (rest ks)) (top_var ks) (pc + 1)
      × Via (pc + 1 + 1 + fit_size kind (wide kind) + store_size)
      (λ q. ItemAt env k q (w (top_var (below_store place ks)) ∷ rest (below_store place ks)))
  ItemAt env (ToEmpty kind place ∷ k) pc ks =
      (x : ℕ) × HasOne ks × BaseWaits place (rest ks) × IsHidden (below_store place ks)
      × Does code nl room pc (Set (to_var (top_var (below_store place ks))) (var (top_var ks)))
      × Does code nl room (pc + 1) (Set (to_var (top_var ks)) atom.Null)
      × IsTemp code nl room (length (below_store place ks)) x
      × StoreAt code nl room kind place x (top_var (rest ks)) (top_var ks) (pc + 2)
      × Via (pc + 2 + store_size)
      (λ q. ItemAt env k q (w (top_var (below_store place ks)) ∷ rest (below_store place ks)))
  ItemAt env (ToYield v ∷ k) pc ks =
      OverHidden v ks × Via pc (λ q. ItemAt env k q (w (top_var (rest ks)) ∷ rest (rest ks)))
  ItemAt env (ToMinus p kind ∷ k) pc ks =
      (t : ℕ) × HasOne ks × IsTemp code nl room (length (rest ks)) t
      × Stands code nl room pc p (Arith (to_var t) kind ops.Sub (atom.Int (pos 0)) (var (top_var ks)))
      × Via (pc + 1) (λ q. ItemAt env k q (w t ∷ rest ks))
  ItemAt env (ToCompute p o kind ∷ k) pc ks =
      (t : ℕ) × HasTwo ks × IsTemp code nl room (length (rest (rest ks))) t
      × Stands code nl room pc p (Arith (to_var t) kind o (var (top_var (rest ks))) (var (top_var ks)))
      × Via (pc + 1) (λ q. ItemAt env k q (w t ∷ rest (rest ks)))
  ItemAt env (ToFit p kind ∷ k) pc ks =
      (t : ℕ) × HasOne ks × IsTemp code nl room (length (rest ks)) t
      × Stands code nl room pc p (Fit (to_var t) kind (var (top_var ks)))
      × Via (pc + 1) (λ q. ItemAt env k q (w t ∷ rest ks))
  ItemAt env (ToCompare p c ∷ k) pc ks =
      (t : ℕ) × HasTwo ks × IsTemp code nl room (length (rest (rest ks))) t
      × Stands code nl room pc p (Compare (to_var t) c (var (top_var (rest ks))) (var (top_var ks)))
      × Via (pc + 1) (λ q. ItemAt env k q (w t ∷ rest (rest ks)))
  ItemAt env (ToNot ∷ k) pc ks =
      OverHidden (truth true) ks
      × Does code nl room pc (Branch (var (top_var ks)) (at_label (pc + 1)) (at_label (pc + 2)))
      × Does code nl room (pc + 1) (Set (to_var (top_var (rest ks))) (bit false))
      × Via (pc + 2) (λ q. ItemAt env k q (w (top_var (rest ks)) ∷ rest (rest ks)))
  ItemAt env (ToRight on b ∷ k) pc ks =
      (y : ℕ) × (end : ℕ) × OverHidden (truth (not on)) ks
      × Does code nl room pc (branch_on on (top_var ks) (pc + 1) end) × (gives b ≡ true)
      × IsTemp code nl room (length (rest ks)) y
      × ExprAt code nl room (length (rest ks)) y (pc + 1) b
      × TruthAt code nl room on (top_var (rest ks)) y (pc + 1 + expr_size b)
      × (pc + 1 + expr_size b + 2 ≡ end)
      × Via end (λ q. ItemAt env k q (w (top_var (rest ks)) ∷ rest (rest ks)))
  ItemAt env (ToTruth ∷ k) pc ks =
      (on : Bool) × OverHidden (truth (not on)) ks × TruthAt code nl room on (top_var (rest ks)) (top_var ks) pc
      × Via (pc + 2) (λ q. ItemAt env k q (w (top_var (rest ks)) ∷ rest (rest ks)))
  ItemAt env (ToPick a b ∷ k) pc ks =
      (t : ℕ) × (end : ℕ) × HasOne ks × IsTemp code nl room (length (rest ks)) t
      × Does code nl room pc (Branch (var (top_var ks)) (at_label (pc + 1)) (at_label (pc + 1 + expr_size a + 1)))
      × (gives a ≡ true) × ExprAt code nl room (length (rest ks)) t (pc + 1) a
      × Does code nl room (pc + 1 + expr_size a) (Jump (at_label end)) × (gives b ≡ true)
      × ExprAt code nl room (length (rest ks)) t (pc + 1 + expr_size a + 1) b
      × (pc + 1 + expr_size a + 1 + expr_size b ≡ end)
      × Via end (λ q. ItemAt env k q (w t ∷ rest ks))
  ItemAt env (ToStore kind place ∷ k) pc ks =
      (t : ℕ) × HasOne ks × BaseWaits place (rest ks) × IsTemp code nl room (length (below_store place ks)) t
      × StoreAt code nl room kind place t (top_var (rest ks)) (top_var ks) pc
      × Via (pc + store_size) (λ q. ItemAt env k q (w t ∷ below_store place ks))
  ItemAt env (ToArgs p target args i ∷ k) pc ks =
      (ts : List ℕ) × (t : ℕ) × (end : ℕ) × (i ≤ length args) × HasMany i ks
      × ListArgsAt code nl room (length ks) ts pc (drop i args) × IsTemp code nl room (length (drop i ks)) t
      × CallAt code nl room p target (length (drop i ks)) t (reverse_aux (vars_of (take i ks)) ts)
      (pc + args_size (drop i args)) end
      × Via end (λ q. ItemAt env k q (pushed_if (target_gives target) t (drop i ks)))
  ItemAt env (ToOutputs p steps ∷ k) pc ks =
      (t : ℕ) × (end : ℕ) × HasOne ks × IsTemp code nl room (length (rest ks)) t
      × OutputsAt code nl room (length (rest ks)) p steps (top_var ks) t pc end
      × Via end (λ q. ItemAt env k q (w t ∷ rest ks))
  ItemAt env (ToForget ∷ k) pc ks = Via pc (λ q. ItemAt env k q [])
  ItemAt env (ToExec a ∷ k) pc ks = (ks ≡ []) × StmtAt code nl room env pc a
      × Via (pc + stmt_size a) (λ q. ItemAt env k q [])
  ItemAt env (ToDeclare rs ∷ k) pc ks = (ks ≡ []) × ReachAt code nl room pc rs
      × Via (pc + declare_size rs) (λ q. ItemAt env k q [])
  ItemAt env (ToBind x ∷ k) pc ks = HasOne ks × (rest ks ≡ []) × (x < nl)
      × Does code nl room pc (Set (to_var x) (var (top_var ks))) × Via (pc + 1) (λ q. ItemAt env k q [])
  ItemAt env (ToChoose a b ∷ k) pc ks =
      (end : ℕ) × HasOne ks × (rest ks ≡ []) × Does code nl room pc (Branch (var (top_var ks)) (at_label (pc + 1))
      (at_label (pc + 1 + stmt_size a + join_size b))) × StmtAt code nl room env (pc + 1) a
      × JoinAt code nl room b (pc + 1 + stmt_size a) end
      × OtherAt code nl room env b (pc + 1 + stmt_size a + join_size b) end
      × Via end (λ q. ItemAt env k q [])
  ItemAt env (ToRest block i ∷ k) pc ks =
      (outer : Env) × (end : ℕ) × (ks ≡ []) × ListAt code nl room env pc (drop i block) end
      × Inside code nl room env outer block end
      × Via end (λ q. ItemAt outer k q [])
  ItemAt env (ToTurn loop ∷ k) pc ks =
      (head : ℕ) × HasOne ks × (rest ks ≡ []) × Does code nl room pc (Branch (var (top_var ks))
      (at_label (loop_body head loop.test)) (at_label (end_of_loop head loop))) × LoopAt code nl room env head loop
      × Via (end_of_loop head loop) (λ q. ItemAt env k q [])
  ItemAt env (ToAgain loop ∷ k) pc ks =
      (outer : Env) × (head : ℕ) × (ks ≡ []) × LoopAt code nl room outer head loop
      × (pc ≡ loop_again head loop.test loop.body)
      × (env.breaks ≡ end_of_loop head loop) × (env.continues ≡ pc) × ((l : Name) → env.labels l ≡ outer.labels l)
      × Via (end_of_loop head loop) (λ q. ItemAt outer k q [])
  ItemAt env (ToTest loop ∷ k) pc ks =
      (head : ℕ) × (ks ≡ []) × Does code nl room pc (Jump (at_label head)) × LoopAt code nl room env head loop
      × Via (end_of_loop head loop) (λ q. ItemAt env k q [])
  ItemAt env (ToSwitch p a ∷ k) pc ks =
      HasOne ks × (rest ks ≡ []) × SwitchAt code nl room env pc p (top_var ks) a
      × Via (pc + switch_size a) (λ q. ItemAt env k q [])
  ItemAt env (ToSwitchEnd ∷ k) pc ks =
      (outer : Env) × (ks ≡ []) × (env.breaks ≡ pc) × (env.continues ≡ outer.continues)
      × ((l : Name) → env.labels l ≡ outer.labels l) × Via pc (λ q. ItemAt outer k q [])
  ItemAt env (ToReturn p ∷ k) pc ks = HasOne ks × Stands code nl room pc p (Return (Some (var (top_var ks))))
      × Via (pc + 1) (λ q. ItemAt env k q [])
  ItemAt env (ToEnd p v ∷ k) pc ks =
      (ks ≡ []) × (env.breaks ≡ pc) × (env.continues ≡ pc) × ((l : Name) → env.labels l ≡ pc)
      × EndAt code nl room v p pc

  -- .. or jumps that lead there
  abbrev pub IsAt : Env → List Todo → ℕ → List Waiting → Type 0
  IsAt env k pc ks = Via pc (λ q. ItemAt env k q ks)

  pub at_once : (env : Env) (k : List Todo) (pc : ℕ) (ks : List Waiting) → ItemAt env k pc ks → IsAt env k pc ks
  at_once env k pc ks h = (0, pc, refl, h)

  -- over a jump, where there is one
  pub over : (env : Env) (k : List Todo) (pc end : ℕ) (ks : List Waiting)
      → (pc ≡ end) ⊎ Does code nl room pc (Jump (at_label end)) → IsAt env k end ks → IsAt env k pc ks
  over env k pc end ks (inl e) h = subst (λ x. IsAt env k x ks) (sym e) h
  over env k pc end ks (inr d) h = (suc h.0, h.1, (end, d, h.2), h.3)
