-- The instructions of expressions and statements, as they stand in a code.
use Rattle.std.proofs.Common.{◌≡◌, ℕ, suc, ◌+◌, ◌*◌, ◌<◌, ◌≤◌, List, [], ◌∷◌, map, length, Option}
use Rattle.std.proofs.Common.{Some, None, Bool, true, false, not, ℤ, pos}
use Rattle.std.specs.Prelude.{slice_get}
use Rattle.pungi_base.specs.declared.kind.Kind.{Kind}
use Rattle.pungi_base.specs.declared.names.Name.{Name}
use Rattle.pungi_base.specs.declared.pos.Pos.{Pos}
use Rattle.pungi_api.specs.declared.param.Param.{Param}
use Rattle.pungi_api.specs.declared.param.Param.TheVariants as param
use Rattle.pungi_api.specs.declared.signature.Signature.{Signature}
use Rattle.pungi_api.specs.Signatures.{null_signature, output_signature}
use Rattle.pungi_types.specs.declared.kind.ValueKind.{ValueKind}
use Rattle.pungi_resolved.specs.declared.output_step.OutputStep.{OutputStep}
use Rattle.pungi_resolved.specs.declared.output_step.OutputStep.TheVariants.{Ends, Writes}
use Rattle.pungi_resolved.specs.Values as expr
use Rattle.pungi_resolved.specs.Actions as stmt
use Rattle.pungi_meaning.specs.declared.op.Op.TheVariants as ops
use Rattle.pungi_meaning.specs.Values.{op_of, cmp_of, wide, slot_kind}
use Rattle.pungi_meaning.specs.declared.cmp.Cmp.TheVariants as cmps
use Rattle.pungi_meaning.specs.Exprs.{step_op, is_and}
use Rattle.pungi_meaning.specs.Work.{block_locals}
use Rattle.pungi_meaning.specs.Todo.{Loop, Target, Row, Defined, UnlessNull, WithOutputs, listed}
use Rattle.pungi_types.specs.Operators.{is_void}
use Rattle.pungi_code.specs.declared.atom.Atom.TheVariants as atom
use Rattle.pungi_code.specs.declared.code.Line.{Line}
use Rattle.pungi_code.specs.declared.instr.Instr.{Instr}
use Rattle.pungi_code.specs.declared.instr.Instr.TheVariants.{Set, Arith, Fit, Compare, Load, Store, Api, Call, Unset}
use Rattle.pungi_code.specs.declared.instr.Instr.TheVariants.{Jump, Branch, Return, Fall}
use Rattle.pungi_code.specs.declared.place.Place.TheVariants.{Global, Field}
use Rattle.pungi_layout.specs.code.Parts.{is_minus, gives, has_call_value}
use Rattle.pungi_layout.specs.code.Sizes.{expr_size, place_size, values_size, fit_size}
use Rattle.pungi_layout.specs.code.Sizes.{option_size, declare_size, stmt_size, stmts_size}
use Rattle.pungi_layout.specs.code.ExprCode.{line, to_var, var, at_label, bit, branch_on, result_label}
use Rattle.pungi_layout.specs.code.Scopes.{Env, label_or, for_head, list_label, list_cases, list_default, in_block}
use Rattle.pungi_layout.specs.code.Scopes.{in_loop, in_switch}
use Rattle.pungi_layout.proofs.relation.Waiting.{answer_var}
use Rattle.pungi_layout.proofs.relation.Waiting.{One, is_same, level, loop_body, loop_again, loop_end, switch_first}

module _ (code : List Line) (nl room : ℕ) where
  abbrev pub Stands : ℕ → Pos → Instr → Type 0
  Stands pc p i = slice_get code pc ≡ Some (line p i)

  -- .. for whatever node
  abbrev pub Does : ℕ → Instr → Type 0
  Does pc i = (p : Pos) × Stands pc p i

  -- the variable of a value that has d values below it
  abbrev pub IsTemp : ℕ → ℕ → Type 0
  IsTemp d t = (nl + 5 * d ≤ t) × (t < nl + 5 * suc d) × (t < room)

  -- a call of the API with these variables, whose value goes to a variable where it has one
  abbrev pub RowAt : Pos → Signature → ℕ → List ℕ → ℕ → Type 0
  RowAt p g t ts pc = Stands pc p (Api (answer_var (has_call_value g.answer) t) g (map var ts))

  -- branches that lead to one place where no argument is missing, else to another
  abbrev pub MissingAt : List Param → List ℕ → ℕ → ℕ → ℕ → Type 0
  MissingAt [] ts pc go other = pc ≡ go
  MissingAt (q ∷ ps) [] pc go other = pc ≡ go
  MissingAt (param.ObjectOrNull ∷ ps) (t ∷ ts) pc go other =
      Does pc (Branch (var t) (at_label (pc + 1)) (at_label other)) × MissingAt ps ts (pc + 1) go other
  MissingAt (q ∷ ps) (t ∷ ts) pc go other = MissingAt ps ts pc go other

  -- what comes after a call that has ended with the number in x: y is for comparisons, the results stand at one place
  abbrev pub StepsAt : Pos → ℕ → ℕ → ℕ → ℕ → List OutputStep → Type 0
  StepsAt p x y pc results [] = pc ≡ results
  StepsAt p x y pc results (Ends n gives ∷ steps) =
      Stands pc p (Compare (to_var y) cmps.Equal (var x) (atom.Int n))
      × Does (pc + 1) (Branch (var y) (at_label (result_label gives results)) (at_label (pc + 2)))
      × StepsAt p x y (pc + 2) results steps
  StepsAt p x y pc results (Writes l a ∷ steps) =
      (l < nl) × Stands pc p (Api (Some (to_var l)) (output_signature a) []) × StepsAt p x y (pc + 1) results steps

  abbrev pub ResultAt : ℕ → ℕ → ℕ → Type 0
  ResultAt t results end = Does results (Set (to_var t) (bit true)) × Does (results + 1) (Jump (at_label end))
      × Does (results + 2) (Set (to_var t) (bit false)) × (results + 3 ≡ end)

  -- .. where d values wait below the number
  abbrev pub OutputsAt : ℕ → Pos → List OutputStep → ℕ → ℕ → ℕ → ℕ → Type 0
  OutputsAt d p steps x t pc end =
      (y : ℕ) × (results : ℕ) × IsTemp (suc d) y × StepsAt p x y pc results steps × ResultAt t results end

  -- a call with these variables, where d values wait below it, from a place to an end
  abbrev pub CallAt : Pos → Target → ℕ → ℕ → List ℕ → ℕ → ℕ → Type 0
  CallAt p (Row g) d t ts pc end = RowAt p g t ts pc × (pc + 1 ≡ end)
  CallAt p (Defined f) d t ts pc end =
      Stands pc p (Call (answer_var (not (is_void f.result)) t) f.number (map var ts)) × (pc + 1 ≡ end)
  CallAt p (UnlessNull g) d t ts pc end =
      (go : ℕ) × (has_call_value g.answer ≡ true) × MissingAt g.params ts pc go (go + 2) × RowAt p g t ts go
      × Does (go + 1) (Jump (at_label end)) × RowAt p (null_signature g) t ts (go + 2) × (go + 3 ≡ end)
  CallAt p (WithOutputs g steps) d t ts pc end =
      (x : ℕ) × (has_call_value g.answer ≡ true) × IsTemp d x × RowAt p g x ts pc
      × OutputsAt d p steps x t (pc + 1) end

  abbrev pub FitAt : Bool → Pos → ValueKind → ℕ → ℕ → ℕ → Type 0
  FitAt true p kind t x pc = x ≡ t
  FitAt false p kind t x pc = Stands pc p (Fit (to_var t) kind (var x))

  abbrev pub OldAt : ValueKind → expr.Place → ℕ → ℕ → ℕ → Type 0
  OldAt kind (expr.local_place p x) t b pc = (x < nl) × Stands pc p (Set (to_var t) (var x))
  OldAt kind (expr.global_place p n) t b pc = Stands pc p (Load (to_var t) (Global n (slot_kind kind)))
  OldAt kind (expr.field_place p base tag field) t b pc = Stands pc p (Load (to_var t)
      (Field (var b) tag field (slot_kind kind)))
  OldAt kind expr.no_place t b pc = ⊥

  abbrev pub StoreAt : ValueKind → expr.Place → ℕ → ℕ → ℕ → ℕ → Type 0
  StoreAt kind (expr.local_place p x) t b v pc = (x < nl) × Does pc (Set (to_var x) (var v))
      × Does (pc + 1) (Set (to_var t) (var v))
  StoreAt kind (expr.global_place p n) t b v pc = Stands pc p (Store (Global n (slot_kind kind)) (var v))
      × Does (pc + 1) (Set (to_var t) (var v))
  StoreAt kind (expr.field_place p base tag field) t b v pc =
      Stands pc p (Store (Field (var b) tag field (slot_kind kind)) (var v)) × Does (pc + 1) (Set (to_var t) (var v))
  StoreAt kind expr.no_place t b v pc = ⊥

  -- a counted value, in c, is converted and stored
  abbrev pub PutAt : Pos → ValueKind → ValueKind → expr.Place → ℕ → ℕ → ℕ → ℕ → ℕ → Type 0
  PutAt p kind counted place d t b c pc =
      (s : ℕ) × IsTemp (level place d) c × IsTemp (level place d) s × FitAt (is_same kind counted) p kind s c pc
      × StoreAt kind place t b s (pc + fit_size kind counted)

  -- `++` and `--` of what o holds
  abbrev pub StepAt : Pos → Kind → ValueKind → expr.Place → ℕ → ℕ → ℕ → ℕ → ℕ → Type 0
  StepAt p m kind place d t b o pc =
      (c : ℕ) × IsTemp (level place d) o × Stands pc p (Arith (to_var c) (wide kind) (step_op m) (var o)
      (atom.Int (pos 1))) × PutAt p kind (wide kind) place d t b c (pc + 1)

  -- the end of `&&` and `||`, whose right side stands in b
  abbrev pub TruthAt : Bool → ℕ → ℕ → ℕ → Type 0
  TruthAt on t b pc = Does pc (branch_on on b (pc + 1) (pc + 2)) × Does (pc + 1) (Set (to_var t) (bit on))

  abbrev mutual
    -- the instructions of an expression that leave its value in t, where d values wait below it
    pub ExprAt : ℕ → ℕ → ℕ → expr.Value → Type 0
    ExprAt d t pc (expr.constant p n) = Does pc (Set (to_var t) (atom.Int n))
    ExprAt d t pc (expr.text_of p ns) = Does pc (Set (to_var t) atom.Text)
    ExprAt d t pc (expr.null_of p) = Does pc (Set (to_var t) atom.Null)
    ExprAt d t pc (expr.static_of p n) = Does pc (Set (to_var t) (atom.Static n))
    ExprAt d t pc (expr.module_of p n) = Does pc (Set (to_var t) atom.Text)
    ExprAt d t pc (expr.read p kind (expr.local_place q x)) = (x < nl) × Stands pc q (Set (to_var t) (var x))
    ExprAt d t pc (expr.read p kind (expr.global_place q n)) = Stands pc q (Load (to_var t) (Global n (slot_kind kind)))
    ExprAt d t pc (expr.read p kind (expr.field_place q base tag field)) =
        (b : ℕ) × (gives base ≡ true) × IsTemp d b × ExprAt d b pc base
        × Stands (pc + expr_size base) q (Load (to_var t) (Field (var b) tag field (slot_kind kind)))
    ExprAt d t pc (expr.read p kind expr.no_place) = ⊥
    ExprAt d t pc (expr.inner p v) = ExprAt d t pc v
    ExprAt d t pc (expr.signed p m kind v) = (gives v ≡ true)
        × One (is_minus m) ((x : ℕ) × IsTemp d x × ExprAt d x pc v
        × Stands (pc + expr_size v) p (Arith (to_var t) kind ops.Sub (atom.Int (pos 0)) (var x))) (ExprAt d t pc v)
    ExprAt d t pc (expr.negated p v) =
        (x : ℕ) × Does pc (Set (to_var t) (bit true)) × (gives v ≡ true) × IsTemp (suc d) x
        × ExprAt (suc d) x (pc + 1) v × Does (pc + 1 + expr_size v) (Branch (var x)
        (at_label (pc + 1 + expr_size v + 1)) (at_label (pc + 1 + expr_size v + 2)))
        × Does (pc + 1 + expr_size v + 1) (Set (to_var t) (bit false))
    ExprAt d t pc (expr.stepped p false m kind place) =
        (b : ℕ) × (o : ℕ) × BaseAt d b pc place × OldAt kind place o b (pc + place_size place)
        × StepAt p m kind place d t b o (pc + place_size place + 1)
    ExprAt d t pc (expr.stepped p true m kind place) =
        (b : ℕ) × (o : ℕ) × (x : ℕ) × Does pc (Set (to_var t) (bit false)) × BaseAt (suc d) b (pc + 1) place
        × OldAt kind place o b (pc + 1 + place_size place)
        × Does (pc + 1 + place_size place + 1) (Set (to_var t) (var o)) × IsTemp (suc d) x
        × StepAt p m kind place (suc d) x b o (pc + 1 + place_size place + 2)
    ExprAt d t pc (expr.emptied p kind place) =
        (b : ℕ) × (o : ℕ) × (x : ℕ) × Does pc (Set (to_var t) atom.Null) × BaseAt (suc d) b (pc + 1) place
        × IsTemp (level place (suc d)) o × OldAt kind place o b (pc + 1 + place_size place)
        × Does (pc + 1 + place_size place + 1) (Set (to_var t) (var o))
        × Does (pc + 1 + place_size place + 2) (Set (to_var o) atom.Null) × IsTemp (suc d) x
        × StoreAt kind place x b o (pc + 1 + place_size place + 3)
    ExprAt d t pc (expr.computed p m kind a b) =
        (x : ℕ) × (y : ℕ) × (gives a ≡ true) × IsTemp d x × ExprAt d x pc a × (gives b ≡ true) × IsTemp (suc d) y
        × ExprAt (suc d) y (pc + expr_size a) b × Stands (pc + expr_size a + expr_size b) p
        (Arith (to_var t) kind (op_of m) (var x) (var y))
    ExprAt d t pc (expr.compared p m a b) =
        (x : ℕ) × (y : ℕ) × (gives a ≡ true) × IsTemp d x × ExprAt d x pc a × (gives b ≡ true) × IsTemp (suc d) y
        × ExprAt (suc d) y (pc + expr_size a) b × Stands (pc + expr_size a + expr_size b) p
        (Compare (to_var t) (cmp_of m) (var x) (var y))
    ExprAt d t pc (expr.joined_by p m a b) =
        (x : ℕ) × (y : ℕ) × Does pc (Set (to_var t) (bit (not (is_and m)))) × (gives a ≡ true) × IsTemp (suc d) x
        × ExprAt (suc d) x (pc + 1) a × Does (pc + 1 + expr_size a) (branch_on (is_and m) x
        (pc + 1 + expr_size a + 1) (pc + 1 + expr_size a + 1 + expr_size b + 2)) × (gives b ≡ true)
        × IsTemp (suc d) y × ExprAt (suc d) y (pc + 1 + expr_size a + 1) b
        × TruthAt (is_and m) t y (pc + 1 + expr_size a + 1 + expr_size b)
    ExprAt d t pc (expr.stored p kind place v) =
        (b : ℕ) × (s : ℕ) × BaseAt d b pc place × (gives v ≡ true) × IsTemp (level place d) s
        × ExprAt (level place d) s (pc + place_size place) v
        × StoreAt kind place t b s (pc + place_size place + expr_size v)
    ExprAt d t pc (expr.updated p m counted kind place v) =
        (b : ℕ) × (o : ℕ) × (y : ℕ) × (c : ℕ) × BaseAt d b pc place × IsTemp (level place d) o
        × OldAt kind place o b (pc + place_size place) × (gives v ≡ true) × IsTemp (suc (level place d)) y
        × ExprAt (suc (level place d)) y (pc + place_size place + 1) v
        × Stands (pc + place_size place + 1 + expr_size v) p (Arith (to_var c) counted (op_of m) (var o) (var y))
        × PutAt p kind counted place d t b c (pc + place_size place + 1 + expr_size v + 1)
    ExprAt d t pc (expr.chosen p c a b) =
        (x : ℕ) × (gives c ≡ true) × IsTemp d x × ExprAt d x pc c
        × Does (pc + expr_size c) (Branch (var x) (at_label (pc + expr_size c + 1))
        (at_label (pc + expr_size c + 1 + expr_size a + 1))) × (gives a ≡ true)
        × ExprAt d t (pc + expr_size c + 1) a × Does (pc + expr_size c + 1 + expr_size a)
        (Jump (at_label (pc + expr_size c + 1 + expr_size a + 1 + expr_size b))) × (gives b ≡ true)
        × ExprAt d t (pc + expr_size c + 1 + expr_size a + 1) b
    ExprAt d t pc (expr.converted p kind v) =
        (x : ℕ) × (gives v ≡ true) × IsTemp d x × ExprAt d x pc v
        × Stands (pc + expr_size v) p (Fit (to_var t) kind (var x))
    ExprAt d t pc (expr.cast_of p v) = ExprAt d t pc v
    ExprAt d t pc (expr.dropped p v) = ExprAt d t pc v
    ExprAt d t pc (expr.called p f vs) = (ts : List ℕ) × ArgsAt d ts pc vs
        × CallAt p (Defined f) d t ts (pc + values_size vs) (pc + expr_size (expr.called p f vs))
    ExprAt d t pc (expr.called_row p n g vs) = (ts : List ℕ) × ArgsAt d ts pc vs
        × CallAt p (Row g) d t ts (pc + values_size vs) (pc + expr_size (expr.called_row p n g vs))
    ExprAt d t pc (expr.called_unless_null p n g vs) = (ts : List ℕ) × ArgsAt d ts pc vs
        × CallAt p (UnlessNull g) d t ts (pc + values_size vs) (pc + expr_size (expr.called_unless_null p n g vs))
    ExprAt d t pc (expr.called_with_outputs p n g vs steps) = (ts : List ℕ) × ArgsAt d ts pc vs
        × CallAt p (WithOutputs g steps) d t ts (pc + values_size vs)
        (pc + expr_size (expr.called_with_outputs p n g vs steps))
    ExprAt d t pc (expr.nonsense p) = Stands pc p Fall

    pub BaseAt : ℕ → ℕ → ℕ → expr.Place → Type 0
    BaseAt d b pc (expr.local_place p x) = Unit {0}
    BaseAt d b pc (expr.global_place p n) = Unit {0}
    BaseAt d b pc (expr.field_place p base tag field) = (gives base ≡ true) × IsTemp d b × ExprAt d b pc base
    BaseAt d b pc expr.no_place = ⊥

    pub ArgsAt : ℕ → List ℕ → ℕ → expr.Values → Type 0
    ArgsAt d ts pc expr.no_values = ts ≡ []
    ArgsAt d [] pc (expr.value_and v vs) = ⊥
    ArgsAt d (t ∷ ts) pc (expr.value_and v vs) =
        (gives v ≡ true) × IsTemp d t × ExprAt d t pc v × ArgsAt (suc d) ts (pc + expr_size v) vs

  -- .. of arguments in a list
  abbrev pub ListArgsAt : ℕ → List ℕ → ℕ → List expr.Value → Type 0
  ListArgsAt d ts pc [] = ts ≡ []
  ListArgsAt d [] pc (v ∷ vs) = ⊥
  ListArgsAt d (t ∷ ts) pc (v ∷ vs) =
      (gives v ≡ true) × IsTemp d t × ExprAt d t pc v × ListArgsAt (suc d) ts (pc + expr_size v) vs

  abbrev pub OptionAt : ℕ → Option expr.Value → Type 0
  OptionAt pc None = Unit {0}
  OptionAt pc (Some v) = (t : ℕ) × IsTemp 0 t × ExprAt 0 t pc v

  -- ---- statements

  abbrev pub UnsetAt : List stmt.DeclaredLocal → ℕ → Type 0
  UnsetAt [] pc = Unit {0}
  UnsetAt (r ∷ rs) pc = (r.number < nl) × Does pc (Unset (to_var r.number)) × UnsetAt rs (pc + 1)

  -- a declared local gets its value, or holds nothing
  abbrev pub BindAt : ℕ → ℕ → Option expr.Value → Type 0
  BindAt x pc None = (x < nl) × Does pc (Unset (to_var x))
  BindAt x pc (Some v) =
      (t : ℕ) × (gives v ≡ true) × IsTemp 0 t × ExprAt 0 t pc v × (x < nl)
      × Does (pc + expr_size v) (Set (to_var x) (var t))

  abbrev pub ReachAt : ℕ → List stmt.DeclaredLocal → Type 0
  ReachAt pc [] = Unit {0}
  ReachAt pc (r ∷ rs) = BindAt r.number pc r.value × ReachAt (pc + option_size r.value + 1) rs

  -- a test, and the branch after it
  abbrev pub TestAt : ℕ → Option expr.Value → ℕ → ℕ → Type 0
  TestAt pc None go other = Unit {0}
  TestAt pc (Some c) go other =
      (t : ℕ) × (gives c ≡ true) × IsTemp 0 t × ExprAt 0 t pc c
      × Does (pc + expr_size c) (Branch (var t) (at_label go) (at_label other))

  abbrev pub GiveAt : Pos → ℕ → Option expr.Value → Type 0
  GiveAt p pc None = Stands pc p (Return None)
  GiveAt p pc (Some v) = (t : ℕ) × (gives v ≡ true) × IsTemp 0 t × ExprAt 0 t pc v
      × Stands (pc + expr_size v) p (Return (Some (var t)))

  -- the comparisons of a value with the cases, and the jump after them
  abbrev pub ComparedAt : Pos → ℕ → ℕ → ℕ → List (ℤ × ℕ) → ℕ → Type 0
  ComparedAt p x y pc [] other = Does pc (Jump (at_label other))
  ComparedAt p x y pc (c ∷ cs) other =
      Stands pc p (Compare (to_var y) cmps.Equal (var x) (atom.Int c.0))
      × Does (pc + 1) (Branch (var y) (at_label c.1) (at_label (pc + 2))) × ComparedAt p x y (pc + 2) cs other

  abbrev pub CasesAt : Pos → ℕ → ℕ → List (ℤ × ℕ) → ℕ → Type 0
  CasesAt p x pc cs other = (y : ℕ) × IsTemp 1 y × ComparedAt p x y pc cs other

  abbrev mutual
    pub StmtAt : Env → ℕ → stmt.Action → Type 0
    StmtAt env pc (stmt.block p ss q) =
        UnsetAt (block_locals (listed ss)) pc × StmtsAt (in_block env (pc + length (block_locals (listed ss)))
        (listed ss)) (pc + length (block_locals (listed ss))) ss
    StmtAt env pc (stmt.declare p rs) = ReachAt pc rs
    StmtAt env pc (stmt.do_expr p v) = OptionAt pc v
    StmtAt env pc (stmt.if_only p c a) =
        TestAt pc (Some c) (pc + expr_size c + 1) (pc + expr_size c + 1 + stmt_size a)
        × StmtAt env (pc + expr_size c + 1) a
    StmtAt env pc (stmt.if_else p c a b) =
        TestAt pc (Some c) (pc + expr_size c + 1) (pc + expr_size c + 1 + stmt_size a + 1)
        × StmtAt env (pc + expr_size c + 1) a × Does (pc + expr_size c + 1 + stmt_size a)
        (Jump (at_label (pc + expr_size c + 1 + stmt_size a + 1 + stmt_size b)))
        × StmtAt env (pc + expr_size c + 1 + stmt_size a + 1) b
    StmtAt env pc (stmt.while p c a) =
        TestAt pc (Some c) (loop_body pc (Some c)) (loop_end pc (Some c) a None)
        × StmtAt (in_loop env (loop_again pc (Some c) a) (loop_end pc (Some c) a None)) (loop_body pc (Some c)) a
        × Does (loop_again pc (Some c) a + option_size None) (Jump (at_label pc))
    StmtAt env pc (stmt.do_while p a c) =
        Does pc (Jump (at_label (loop_body (pc + 1) (Some c))))
        × TestAt (pc + 1) (Some c) (loop_body (pc + 1) (Some c)) (loop_end (pc + 1) (Some c) a None)
        × StmtAt (in_loop env (loop_again (pc + 1) (Some c) a) (loop_end (pc + 1) (Some c) a None))
        (loop_body (pc + 1) (Some c)) a × Does (loop_again (pc + 1) (Some c) a + option_size None)
        (Jump (at_label (pc + 1)))
    StmtAt env pc (stmt.for p rs u c w' a) =
        UnsetAt rs pc × ReachAt (pc + length rs) rs × OptionAt (pc + length rs + declare_size rs) u
        × TestAt (for_head pc rs u) c (loop_body (for_head pc rs u) c) (loop_end (for_head pc rs u) c a w')
        × StmtAt (in_loop env (loop_again (for_head pc rs u) c a) (loop_end (for_head pc rs u) c a w'))
        (loop_body (for_head pc rs u) c) a × OptionAt (loop_again (for_head pc rs u) c a) w'
        × Does (loop_again (for_head pc rs u) c a + option_size w') (Jump (at_label (for_head pc rs u)))
    StmtAt env pc (stmt.switch p v (stmt.block q ss r)) =
        (x : ℕ) × (gives v ≡ true) × IsTemp 0 x × ExprAt 0 x pc v
        × UnsetAt (block_locals (listed ss)) (pc + expr_size v)
        × CasesAt p x (pc + expr_size v + length (block_locals (listed ss))) (list_cases
        (switch_first (pc + expr_size v) (length (block_locals (listed ss))) ss) (listed ss))
        (label_or (list_default (switch_first (pc + expr_size v) (length (block_locals (listed ss))) ss)
        (listed ss)) (switch_first (pc + expr_size v) (length (block_locals (listed ss))) ss + stmts_size ss))
        × StmtsAt (in_block (in_switch env (switch_first (pc + expr_size v) (length (block_locals (listed ss))) ss
        + stmts_size ss)) (switch_first (pc + expr_size v) (length (block_locals (listed ss))) ss) (listed ss))
        (switch_first (pc + expr_size v) (length (block_locals (listed ss))) ss) ss
    StmtAt env pc (stmt.switch p v a) =
        (x : ℕ) × (gives v ≡ true) × IsTemp 0 x × ExprAt 0 x pc v
        × Does (pc + expr_size v) (Jump (at_label (pc + expr_size v + 1 + stmt_size a)))
        × StmtAt (in_switch env (pc + expr_size v + 1 + stmt_size a)) (pc + expr_size v + 1) a
    StmtAt env pc (stmt.case p n a) = StmtAt env pc a
    StmtAt env pc (stmt.default p a) = StmtAt env pc a
    StmtAt env pc (stmt.label p l a) = StmtAt env pc a
    StmtAt env pc (stmt.goto p l) = Does pc (Jump (at_label (env.labels l)))
    StmtAt env pc (stmt.break p) = Does pc (Jump (at_label env.breaks))
    StmtAt env pc (stmt.continue p) = Does pc (Jump (at_label env.continues))
    StmtAt env pc (stmt.return p kind v) = GiveAt p pc v

    pub StmtsAt : Env → ℕ → stmt.Actions → Type 0
    StmtsAt env pc stmt.no_actions = Unit {0}
    StmtsAt env pc (stmt.action_and a ss) = StmtAt env pc a × StmtsAt env (pc + stmt_size a) ss

  -- a `switch` after its value
  abbrev pub SwitchAt : Env → ℕ → Pos → ℕ → stmt.Action → Type 0
  SwitchAt env pc p x (stmt.block q ss r) =
      UnsetAt (block_locals (listed ss)) pc × CasesAt p x (pc + length (block_locals (listed ss)))
      (list_cases (switch_first pc (length (block_locals (listed ss))) ss) (listed ss))
      (label_or (list_default (switch_first pc (length (block_locals (listed ss))) ss) (listed ss))
      (switch_first pc (length (block_locals (listed ss))) ss + stmts_size ss))
      × StmtsAt (in_block (in_switch env (switch_first pc (length (block_locals (listed ss))) ss + stmts_size ss))
      (switch_first pc (length (block_locals (listed ss))) ss) (listed ss)) (switch_first pc
      (length (block_locals (listed ss))) ss) ss
  SwitchAt env pc p x a =
      Does pc (Jump (at_label (pc + 1 + stmt_size a))) × StmtAt (in_switch env (pc + 1 + stmt_size a)) (pc + 1) a

  -- a loop's instructions
  abbrev pub LoopAt : Env → ℕ → Loop → Type 0
  LoopAt env head loop =
      TestAt head loop.test (loop_body head loop.test) (loop_end head loop.test loop.body loop.increment)
      × StmtAt (in_loop env (loop_again head loop.test loop.body) (loop_end head loop.test loop.body
      loop.increment)) (loop_body head loop.test) loop.body
      × OptionAt (loop_again head loop.test loop.body) loop.increment
      × Does (loop_again head loop.test loop.body + option_size loop.increment) (Jump (at_label head))

  -- the instructions of statements, from a place to an end
  abbrev pub ListAt : Env → ℕ → List stmt.Action → ℕ → Type 0
  ListAt env pc [] end = pc ≡ end
  ListAt env pc (a ∷ list) end = StmtAt env pc a × ListAt env (pc + stmt_size a) list end

  -- where jumps lead from the inside of a block, whose instructions have this end
  pub record Inside (env outer : Env) (block : List stmt.Action) (end : ℕ) : Type 0 where
    pub first : ℕ
    pub list : ListAt env first block end
    pub breaks : env.breaks ≡ outer.breaks
    pub continues : env.continues ≡ outer.continues
    pub labels : (l : Name) → env.labels l ≡ label_or (list_label l first block) (outer.labels l)

  abbrev pub EndAt : Bool → Pos → ℕ → Type 0
  EndAt true p pc = Stands pc p (Return None)
  EndAt false p pc = Stands pc p Fall

  abbrev pub OtherAt : Env → Option stmt.Action → ℕ → ℕ → Type 0
  OtherAt env None pc end = pc ≡ end
  OtherAt env (Some b) pc end = StmtAt env pc b × (pc + stmt_size b ≡ end)

  -- after the part of an `if` stands a jump over the other part, where there is one
  abbrev pub JoinAt : Option stmt.Action → ℕ → ℕ → Type 0
  JoinAt None pc end = Unit {0}
  JoinAt (Some b) pc end = Does pc (Jump (at_label end))
