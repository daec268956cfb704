-- The instructions of a statement are as many as its size says.
use Rattle.std.proofs.Common.{◌≡◌, ℕ, suc, ◌+◌, ◌*◌, ℤ, Bool, true, false, List, [], ◌∷◌, ◌++◌, length, Option, Some}
use Rattle.std.proofs.Common.{None, refl, sym, ap, ◌∙◌, arith, length-append}
use Rattle.pungi_base.specs.declared.pos.Pos.{Pos}
use Rattle.pungi_types.specs.declared.kind.ValueKind.{ValueKind}
use Rattle.pungi_types.specs.Operators.{is_void}
use Rattle.pungi_resolved.specs.Values as expr
use Rattle.pungi_resolved.specs.Actions as stmt
use Rattle.pungi_resolved.specs.Functions.{ResolvedFunction}
use Rattle.pungi_meaning.specs.Run.{closing_brace}
use Rattle.pungi_meaning.specs.Stmts.{cases_of, block_cases}
use Rattle.pungi_meaning.specs.Todo.{listed}
use Rattle.pungi_meaning.specs.Work.{block_locals}
use Rattle.pungi_code.specs.declared.instr.Instr.TheVariants.{Set, Jump, Branch, Return}
use Rattle.pungi_layout.specs.code.FirstTokens.{first_token}
use Rattle.pungi_layout.specs.code.Sizes.{expr_size, option_size, declare_size, test_size, stmt_size, stmts_size}
use Rattle.pungi_layout.specs.code.Temporaries.{temp, temp_of, operand, local_column}
use Rattle.pungi_layout.specs.code.ExprCode.{line, to_var, var, at_label, expr_code}
use Rattle.pungi_layout.specs.code.Scopes.{Env, everywhere, for_head, placed_cases, list_cases, in_block, in_loop}
use Rattle.pungi_layout.specs.code.Scopes.{in_switch}
use Rattle.pungi_layout.specs.code.StmtCode.{unset_code, value_code, option_code, bind_code, declare_code, test_code}
use Rattle.pungi_layout.specs.code.StmtCode.{tested_code, case_code, stmt_code, stmts_code, end_code, body_code}
use Rattle.pungi_layout.proofs.code.ExprLengths.{more_long, long_append, expr_long}

pub unset_long : (rs : List stmt.DeclaredLocal) (p : Pos) → length (unset_code p rs) ≡ length rs
unset_long [] p = refl
unset_long (r ∷ rs) p = ap suc (unset_long rs p)

pub value_long : (v : expr.Value) (nl pc : ℕ) → length (value_code nl pc v) ≡ expr_size v
value_long v nl pc = expr_long v nl 0 (temp_of nl 0 v) pc

pub option_long : (o : Option expr.Value) (nl pc : ℕ) → length (option_code nl pc o) ≡ option_size o
option_long None nl pc = refl
option_long (Some v) nl pc = value_long v nl pc

pub bind_long : (o : Option expr.Value) (nl pc x : ℕ) (p : Pos) (kind : Option ValueKind)
    → length (bind_code nl pc p x kind o) ≡ option_size o + 1
bind_long None nl pc x p kind = refl
bind_long (Some v) nl pc x p kind =
    let y = operand nl 0 (local_column kind) v in
    long_append (expr_code nl 0 y pc v) (line p (Set (to_var x) (var y)) ∷ []) (expr_size v) 1
    (expr_long v nl 0 y pc) refl

pub declare_long : (rs : List stmt.DeclaredLocal) (nl pc : ℕ) → length (declare_code nl pc rs) ≡ declare_size rs
declare_long [] nl pc = refl
declare_long (r ∷ rs) nl pc =
    long_append (bind_code nl pc r.at r.number r.kind r.value) (declare_code nl (pc + option_size r.value + 1) rs)
    (option_size r.value + 1) (declare_size rs) (bind_long r.value nl pc r.number r.at r.kind)
    (declare_long rs nl (pc + option_size r.value + 1))

pub test_long : (c : expr.Value) (nl pc go other : ℕ)
    → length (test_code nl pc c go other) ≡ expr_size c + 1
test_long c nl pc go other =
    long_append (value_code nl pc c) (line (first_token c)
    (Branch (var (temp_of nl 0 c)) (at_label go) (at_label other)) ∷ [])
    (expr_size c) 1 (value_long c nl pc) refl

pub tested_long : (o : Option expr.Value) (nl pc go other : ℕ)
    → length (tested_code nl pc o go other) ≡ test_size o
tested_long None nl pc go other = refl
tested_long (Some c) nl pc go other = test_long c nl pc go other

pub case_long : (cs : List (ℤ × ℕ)) (p : Pos) (x y pc : ℕ) → length (case_code p x y pc cs) ≡ 2 * length cs
case_long [] p x y pc = refl
case_long (c ∷ cs) p x y pc = let e = case_long cs p x y (pc + 2) in omega (arith, e)

placed_long : (cs : List ℤ) (pc : ℕ) → length (placed_cases pc cs) ≡ length cs
placed_long [] pc = refl
placed_long (c ∷ cs) pc = ap suc (placed_long cs pc)

pub cases_long : (list : List stmt.Action) (pc : ℕ) → length (list_cases pc list) ≡ length (block_cases list)
cases_long [] pc = refl
cases_long (a ∷ rest) pc =
    length-append (placed_cases pc (cases_of a)) (list_cases (pc + stmt_size a) rest)
    ∙ ap (λ n. n + length (list_cases (pc + stmt_size a) rest)) (placed_long (cases_of a) pc)
    ∙ ap (λ n. length (cases_of a) + n) (cases_long rest (pc + stmt_size a))
    ∙ sym (length-append (cases_of a) (block_cases rest))

-- ---- sums of sizes

else_sum : (c a b : ℕ) → c + 1 + (a + (1 + b)) ≡ c + 1 + a + 1 + b
else_sum c a b = omega arith

while_sum : (c a : ℕ) → c + 1 + (a + 1) ≡ c + 1 + a + 1
while_sum c a = omega arith

until_sum : (c a : ℕ) → 1 + (c + 1 + (a + 1)) ≡ 1 + c + 1 + a + 1
until_sum c a = omega arith

for_sum : (n r u c a w : ℕ) → n + (r + (u + (c + (a + (w + 1))))) ≡ n + r + u + c + a + w + 1
for_sum n r u c a w = omega arith

switch_sum : (v n c s : ℕ) → v + (n + (c + (1 + s))) ≡ v + (n + c + 1 + s)
switch_sum v n c s = omega arith

mutual
  pub stmt_long : (a : stmt.Action) (nl : ℕ) (env : Env) (pc : ℕ) → length (stmt_code nl env pc a) ≡ stmt_size a
  stmt_long (stmt.block p ss q) nl env pc =
      let own = block_locals (listed ss) in
      let from = pc + length own in
      long_append (unset_code p own) (stmts_code nl (in_block env from (listed ss)) from ss) (length own)
      (stmts_size ss) (unset_long own p) (stmts_long ss nl (in_block env from (listed ss)) from)
  stmt_long (stmt.declare p rs) nl env pc = declare_long rs nl pc
  stmt_long (stmt.do_expr p v) nl env pc = option_long v nl pc
  stmt_long (stmt.if_only p c a) nl env pc =
      long_append (test_code nl pc c (pc + expr_size c + 1) (pc + expr_size c + 1 + stmt_size a))
      (stmt_code nl env (pc + expr_size c + 1) a) (expr_size c + 1) (stmt_size a)
      (test_long c nl pc (pc + expr_size c + 1) (pc + expr_size c + 1 + stmt_size a))
      (stmt_long a nl env (pc + expr_size c + 1))
  stmt_long (stmt.if_else p c a b) nl env pc =
      let pa = pc + expr_size c + 1 in
      let pb = pa + stmt_size a + 1 in
      let jump = line p (Jump (at_label (pb + stmt_size b))) in
      long_append (test_code nl pc c pa pb) (stmt_code nl env pa a ++ jump ∷ stmt_code nl env pb b)
      (expr_size c + 1) (stmt_size a + (1 + stmt_size b)) (test_long c nl pc pa pb)
      (long_append (stmt_code nl env pa a) (jump ∷ stmt_code nl env pb b) (stmt_size a) (1 + stmt_size b)
      (stmt_long a nl env pa) (more_long _ _ (stmt_long b nl env pb)))
      ∙ else_sum (expr_size c) (stmt_size a) (stmt_size b)
  stmt_long (stmt.while p c a) nl env pc =
      let go = pc + (expr_size c + 1) in
      let end = go + stmt_size a + 0 + 1 in
      let inner = in_loop env (go + stmt_size a) end in
      long_append (test_code nl pc c go end) (stmt_code nl inner go a ++ line p (Jump (at_label pc)) ∷ [])
      (expr_size c + 1) (stmt_size a + 1) (test_long c nl pc go end)
      (long_append (stmt_code nl inner go a) (line p (Jump (at_label pc)) ∷ []) (stmt_size a) 1
      (stmt_long a nl inner go) refl)
      ∙ while_sum (expr_size c) (stmt_size a)
  stmt_long (stmt.do_while p a c) nl env pc =
      let head = pc + 1 in
      let go = head + (expr_size c + 1) in
      let end = go + stmt_size a + 0 + 1 in
      let inner = in_loop env (go + stmt_size a) end in
      more_long _ _
      (long_append (test_code nl head c go end) (stmt_code nl inner go a ++ line p (Jump (at_label head)) ∷ [])
      (expr_size c + 1) (stmt_size a + 1) (test_long c nl head go end)
      (long_append (stmt_code nl inner go a) (line p (Jump (at_label head)) ∷ []) (stmt_size a) 1
      (stmt_long a nl inner go) refl))
      ∙ until_sum (expr_size c) (stmt_size a)
  stmt_long (stmt.for p rs u c w a) nl env pc =
      let head = for_head pc rs u in
      let go = head + test_size c in
      let again = go + stmt_size a in
      let end = again + option_size w + 1 in
      let inner = in_loop env again end in
      let jump = line p (Jump (at_label head)) in
      long_append (unset_code p rs) _ (length rs) (declare_size rs
      + (option_size u + (test_size c + (stmt_size a + (option_size w + 1))))) (unset_long rs p)
      (long_append (declare_code nl (pc + length rs) rs) _ (declare_size rs)
      (option_size u + (test_size c + (stmt_size a + (option_size w + 1)))) (declare_long rs nl (pc + length rs))
      (long_append (option_code nl (pc + length rs + declare_size rs) u) _ (option_size u)
      (test_size c + (stmt_size a + (option_size w + 1))) (option_long u nl (pc + length rs + declare_size rs))
      (long_append (tested_code nl head c go end) _ (test_size c) (stmt_size a + (option_size w + 1))
      (tested_long c nl head go end)
      (long_append (stmt_code nl inner go a) _ (stmt_size a) (option_size w + 1) (stmt_long a nl inner go)
      (long_append (option_code nl again w) (jump ∷ []) (option_size w) 1 (option_long w nl again) refl)))))
      ∙ for_sum (length rs) (declare_size rs) (option_size u) (test_size c) (stmt_size a) (option_size w)
  stmt_long (stmt.switch p v (stmt.block q ss r)) nl env pc =
      let own = block_locals (listed ss) in
      let count = length own in
      let from = pc + expr_size v + count + 2 * length (block_cases (listed ss)) + 1 in
      let end = from + stmts_size ss in
      let inner = in_block (in_switch env end) from (listed ss) in
      let cs = list_cases from (listed ss) in
      let at = pc + expr_size v + count in
      let n = 2 * length (block_cases (listed ss)) in
      let lc : length (case_code p (temp_of nl 0 v) (temp nl 1 0) at cs)
      ≡ n = case_long cs p (temp_of nl 0 v) (temp nl 1 0) at ∙ ap (λ x. 2 * x) (cases_long (listed ss) from) in
      long_append (value_code nl pc v) _ (expr_size v) (count + (n + (1 + stmts_size ss))) (value_long v nl pc)
      (long_append (unset_code p own) _ count (n + (1 + stmts_size ss)) (unset_long own p)
      (long_append (case_code p (temp_of nl 0 v) (temp nl 1 0) at cs) (_ ∷ stmts_code nl inner from ss) n
      (1 + stmts_size ss) lc (more_long _ _ (stmts_long ss nl inner from))))
      ∙ switch_sum (expr_size v) count n (stmts_size ss)
  stmt_long (stmt.switch p v a) nl env pc =
      let end = pc + expr_size v + 1 + stmt_size a in
      long_append (value_code nl pc v) (line p (Jump (at_label end))
      ∷ stmt_code nl (in_switch env end) (pc + expr_size v + 1) a) (expr_size v) (1 + stmt_size a)
      (value_long v nl pc) (more_long _ _ (stmt_long a nl (in_switch env end) (pc + expr_size v + 1)))
  stmt_long (stmt.case p n a) nl env pc = stmt_long a nl env pc
  stmt_long (stmt.default p a) nl env pc = stmt_long a nl env pc
  stmt_long (stmt.label p l a) nl env pc = stmt_long a nl env pc
  stmt_long (stmt.goto p l) nl env pc = refl
  stmt_long (stmt.break p) nl env pc = refl
  stmt_long (stmt.continue p) nl env pc = refl
  stmt_long (stmt.return p k None) nl env pc = refl
  stmt_long (stmt.return p k (Some v)) nl env pc =
      let y = operand nl 0 (local_column k) v in
      long_append (expr_code nl 0 y pc v) (line p (Return (Some (var y))) ∷ []) (expr_size v) 1
      (expr_long v nl 0 y pc) refl

  pub stmts_long : (ss : stmt.Actions) (nl : ℕ) (env : Env) (pc : ℕ) → length (stmts_code nl env pc ss) ≡ stmts_size ss
  stmts_long stmt.no_actions nl env pc = refl
  stmts_long (stmt.action_and a ss) nl env pc =
      long_append (stmt_code nl env pc a) (stmts_code nl env (pc + stmt_size a) ss) (stmt_size a) (stmts_size ss)
      (stmt_long a nl env pc) (stmts_long ss nl env (pc + stmt_size a))

-- ---- a function

pub end-long : (p : Pos) (v : Bool) → length (end_code p v) ≡ 1
end-long p true = refl
end-long p false = refl

-- the code of a function is its statement and one instruction more
pub body-long : (f : ResolvedFunction) → length (body_code f) ≡ stmt_size f.body + 1
body-long f =
    long_append (stmt_code f.locals (everywhere (stmt_size f.body)) 0 f.body)
    (end_code (closing_brace f.body) (is_void f.result)) (stmt_size f.body) 1
    (stmt_long f.body f.locals (everywhere (stmt_size f.body)) 0) (end-long (closing_brace f.body) (is_void f.result))
