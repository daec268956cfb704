-- The instructions of a statement and of a function.
--   unset_code p rs                locals that are declared hold nothing, as the statement at this place begins
--   value_code nl pc v             a value that is the only one
--   option_code nl pc o            so is one that may be missing
--   bind_code, declare_code        declared locals
--   test_code nl pc c go other     a test, and the branch after it, at the first token of what is tested
--   tested_code                    the same of a test that may be missing
--   case_code p x y pc cs          the comparisons of a `switch`
--   return_code                    `return`
--   stmt_code, stmts_code          a statement, statements
--   end_code p void                the end of a function
--   body_code f                    the instructions of a function
use Rattle.std.specs.Prelude.{ℕ, ◌+◌, ◌*◌, ℤ, Bool, true, false, List, [], ◌∷◌, ◌++◌, length, Option, Some, None}
use Rattle.pungi_base.specs.declared.pos.Pos.{Pos}
use Rattle.pungi_types.specs.declared.kind.ValueKind.{ValueKind}
use Rattle.pungi_types.specs.Operators.{is_void}
use Rattle.pungi_resolved.specs.Values as expr
use Rattle.pungi_resolved.specs.Actions as stmt
use Rattle.pungi_resolved.specs.Functions.{ResolvedFunction}
use Rattle.pungi_meaning.specs.declared.cmp.Cmp.TheVariants as cmps
use Rattle.pungi_meaning.specs.Run.{closing_brace}
use Rattle.pungi_meaning.specs.Stmts.{block_cases}
use Rattle.pungi_meaning.specs.Work.{block_locals}
use Rattle.pungi_meaning.specs.Todo.{listed}
use Rattle.pungi_code.specs.declared.atom.Atom.TheVariants as atom
use Rattle.pungi_code.specs.declared.code.Line.{Line}
use Rattle.pungi_code.specs.declared.instr.Instr.TheVariants.{Set, Compare, Unset, Jump, Branch, Return, Fall}
use Rattle.pungi_layout.specs.code.FirstTokens.{first_token}
use Rattle.pungi_layout.specs.code.Sizes.{expr_size, option_size, declare_size, test_size, stmt_size, stmts_size}
use Rattle.pungi_layout.specs.code.Temporaries.{temp, temp_of, operand, local_column}
use Rattle.pungi_layout.specs.code.ExprCode.{line, to_var, var, at_label, expr_code}
use Rattle.pungi_layout.specs.code.Scopes.{Env, everywhere, label_or, for_head, list_cases, list_default, in_block}
use Rattle.pungi_layout.specs.code.Scopes.{in_loop, in_switch}

abbrev pub unset_code : Pos → List stmt.DeclaredLocal → List Line
unset_code p [] = []
unset_code p (r ∷ rs) = line p (Unset (to_var r.number)) ∷ unset_code p rs

abbrev pub value_code : ℕ → ℕ → expr.Value → List Line
value_code nl pc v = expr_code nl 0 (temp_of nl 0 v) pc v

abbrev pub option_code : ℕ → ℕ → Option expr.Value → List Line
option_code nl pc None = []
option_code nl pc (Some v) = value_code nl pc v

abbrev pub bind_code : ℕ → ℕ → Pos → ℕ → Option ValueKind → Option expr.Value → List Line
bind_code nl pc p x kind None = line p (Unset (to_var x)) ∷ []
bind_code nl pc p x kind (Some v) =
    expr_code nl 0 (operand nl 0 (local_column kind) v) pc v
    ++ line p (Set (to_var x) (var (operand nl 0 (local_column kind) v))) ∷ []

abbrev pub declare_code : ℕ → ℕ → List stmt.DeclaredLocal → List Line
declare_code nl pc [] = []
declare_code nl pc (r ∷ rs) =
    bind_code nl pc r.at r.number r.kind r.value ++ declare_code nl (pc + option_size r.value + 1) rs

abbrev pub test_code : ℕ → ℕ → expr.Value → ℕ → ℕ → List Line
test_code nl pc c go other =
    value_code nl pc c
    ++ line (first_token c) (Branch (var (temp_of nl 0 c)) (at_label go) (at_label other)) ∷ []

abbrev pub tested_code : ℕ → ℕ → Option expr.Value → ℕ → ℕ → List Line
tested_code nl pc None go other = []
tested_code nl pc (Some c) go other = test_code nl pc c go other

abbrev pub case_code : Pos → ℕ → ℕ → ℕ → List (ℤ × ℕ) → List Line
case_code p x y pc [] = []
case_code p x y pc (c ∷ cs) =
    line p (Compare (to_var y) cmps.Equal (var x) (atom.Int c.0))
    ∷ line p (Branch (var y) (at_label c.1) (at_label (pc + 2))) ∷ case_code p x y (pc + 2) cs

abbrev pub return_code : ℕ → ℕ → Pos → Option ValueKind → Option expr.Value → List Line
return_code nl pc p k None = line p (Return None) ∷ []
return_code nl pc p k (Some v) =
    expr_code nl 0 (operand nl 0 (local_column k) v) pc v
    ++ line p (Return (Some (var (operand nl 0 (local_column k) v)))) ∷ []

abbrev mutual
  pub stmt_code : ℕ → Env → ℕ → stmt.Action → List Line
  stmt_code nl env pc (stmt.block p ss q) =
      unset_code p (block_locals (listed ss)) ++ stmts_code nl (in_block env
      (pc + length (block_locals (listed ss))) (listed ss)) (pc + length (block_locals (listed ss))) ss
  stmt_code nl env pc (stmt.declare p rs) = declare_code nl pc rs
  stmt_code nl env pc (stmt.do_expr p v) = option_code nl pc v
  stmt_code nl env pc (stmt.if_only p c a) =
      test_code nl pc c (pc + expr_size c + 1) (pc + expr_size c + 1 + stmt_size a)
      ++ stmt_code nl env (pc + expr_size c + 1) a
  stmt_code nl env pc (stmt.if_else p c a b) =
      test_code nl pc c (pc + expr_size c + 1) (pc + expr_size c + 1 + stmt_size a + 1)
      ++ (stmt_code nl env (pc + expr_size c + 1) a ++ line p (Jump (at_label
      (pc + expr_size c + 1 + stmt_size a + 1 + stmt_size b)))
      ∷ stmt_code nl env (pc + expr_size c + 1 + stmt_size a + 1) b)
  stmt_code nl env pc (stmt.while p c a) =
      test_code nl pc c (pc + (expr_size c + 1)) (pc + (expr_size c + 1) + stmt_size a + 0 + 1)
      ++ (stmt_code nl (in_loop env (pc + (expr_size c + 1) + stmt_size a) (pc + (expr_size c + 1) + stmt_size a
      + 0 + 1)) (pc + (expr_size c + 1)) a ++ line p (Jump (at_label pc)) ∷ [])
  stmt_code nl env pc (stmt.do_while p a c) =
      line p (Jump (at_label (pc + 1 + (expr_size c + 1))))
      ∷ (test_code nl (pc + 1) c (pc + 1 + (expr_size c + 1)) (pc + 1 + (expr_size c + 1) + stmt_size a + 0 + 1)
      ++ (stmt_code nl (in_loop env (pc + 1 + (expr_size c + 1) + stmt_size a)
      (pc + 1 + (expr_size c + 1) + stmt_size a + 0 + 1)) (pc + 1 + (expr_size c + 1)) a
      ++ line p (Jump (at_label (pc + 1))) ∷ []))
  stmt_code nl env pc (stmt.for p rs u c w a) =
      unset_code p rs ++ (declare_code nl (pc + length rs) rs
      ++ (option_code nl (pc + length rs + declare_size rs) u
      ++ (tested_code nl (for_head pc rs u) c (for_head pc rs u + test_size c)
      (for_head pc rs u + test_size c + stmt_size a + option_size w + 1)
      ++ (stmt_code nl (in_loop env (for_head pc rs u + test_size c + stmt_size a)
      (for_head pc rs u + test_size c + stmt_size a + option_size w + 1)) (for_head pc rs u + test_size c) a
      ++ (option_code nl (for_head pc rs u + test_size c + stmt_size a) w
      ++ line p (Jump (at_label (for_head pc rs u))) ∷ [])))))
  stmt_code nl env pc (stmt.switch p v (stmt.block q ss r)) =
      value_code nl pc v ++ (unset_code p (block_locals (listed ss))
      ++ (case_code p (temp_of nl 0 v) (temp nl 1 0) (pc + expr_size v + length (block_locals (listed ss)))
      (list_cases (pc + expr_size v + length (block_locals (listed ss)) + 2 * length (block_cases (listed ss))
      + 1) (listed ss)) ++ line p (Jump (at_label (label_or (list_default (pc + expr_size v
      + length (block_locals (listed ss)) + 2 * length (block_cases (listed ss)) + 1) (listed ss))
      (pc + expr_size v + length (block_locals (listed ss)) + 2 * length (block_cases (listed ss)) + 1
      + stmts_size ss)))) ∷ stmts_code nl (in_block (in_switch env (pc + expr_size v
      + length (block_locals (listed ss)) + 2 * length (block_cases (listed ss)) + 1 + stmts_size ss))
      (pc + expr_size v + length (block_locals (listed ss)) + 2 * length (block_cases (listed ss)) + 1)
      (listed ss)) (pc + expr_size v + length (block_locals (listed ss)) + 2 * length (block_cases (listed ss))
      + 1) ss))
  stmt_code nl env pc (stmt.switch p v a) =
      value_code nl pc v ++ line p (Jump (at_label (pc + expr_size v + 1 + stmt_size a)))
      ∷ stmt_code nl (in_switch env (pc + expr_size v + 1 + stmt_size a)) (pc + expr_size v + 1) a
  stmt_code nl env pc (stmt.case p n a) = stmt_code nl env pc a
  stmt_code nl env pc (stmt.default p a) = stmt_code nl env pc a
  stmt_code nl env pc (stmt.label p l a) = stmt_code nl env pc a
  stmt_code nl env pc (stmt.goto p l) = line p (Jump (at_label (env.labels l))) ∷ []
  stmt_code nl env pc (stmt.break p) = line p (Jump (at_label env.breaks)) ∷ []
  stmt_code nl env pc (stmt.continue p) = line p (Jump (at_label env.continues)) ∷ []
  stmt_code nl env pc (stmt.return p k v) = return_code nl pc p k v

  pub stmts_code : ℕ → Env → ℕ → stmt.Actions → List Line
  stmts_code nl env pc stmt.no_actions = []
  stmts_code nl env pc (stmt.action_and a ss) = stmt_code nl env pc a ++ stmts_code nl env (pc + stmt_size a) ss

-- ---- functions

abbrev pub end_code : Pos → Bool → List Line
end_code p true = line p (Return None) ∷ []
end_code p false = line p Fall ∷ []

-- a `break` or `goto` with nowhere to go leads to the end, as it leaves nothing in the meaning
abbrev pub body_code : ResolvedFunction → List Line
body_code f =
    stmt_code f.locals (everywhere (stmt_size f.body)) 0 f.body
    ++ end_code (closing_brace f.body) (is_void f.result)
