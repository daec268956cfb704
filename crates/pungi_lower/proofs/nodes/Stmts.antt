-- A statement of the text becomes at most three nodes for each of its nodes, and four instructions; those that unset
-- the locals of a block, and the comparisons of a `switch`, are among them.
use Rattle.std.proofs.Common.{◌≡◌, ℕ, ◌+◌, ◌*◌, ◌≤◌, arith, List, [], ◌∷◌, length, length-append, Option, Some, None}
use Rattle.std.proofs.Common.{refl}
use Rattle.pungi_base.specs.declared.pos.Pos.{Pos}
use Rattle.pungi_tree.specs.Syntax as tree
use Rattle.pungi_tree.specs.Syntax.{Expr, Spec, Declr, Init, value, table, VarDecl, var_decl, decl, ForStart}
use Rattle.pungi_tree.specs.Syntax.{start_decl, start_expr, Stmt, declare, do_expr, if_only, if_else, while, do_while}
use Rattle.pungi_tree.specs.Syntax.{for, case, default, label, goto, break, continue, return, Stmts, no_stmts, stmt_and}
use Rattle.pungi_types.specs.Files.{declr_pos}
use Rattle.pungi_types.specs.Kinds.{declared_kind}
use Rattle.pungi_types.specs.Names.{Env}
use Rattle.pungi_types.specs.Nodes as written
use Rattle.pungi_types.specs.Exprs.{kind_of}
use Rattle.pungi_resolve.specs.Exprs.{resolve}
use Rattle.pungi_resolved.specs.Values.{Value}
use Rattle.pungi_resolve.specs.Stmts.{Site, with_var, with_start, site_past, site_after, initial_value, declared_locals}
use Rattle.pungi_resolve.specs.Stmts.{start_declared, start_value, option_value, return_value, action, actions}
use Rattle.pungi_resolved.specs.Actions.{DeclaredLocal, Action, Actions, block, switch}
use Rattle.pungi_meaning.specs.Todo.{listed}
use Rattle.pungi_meaning.specs.Stmts.{cases_of, block_cases}
use Rattle.pungi_meaning.specs.Work.{block_locals, action_locals}
use Rattle.pungi_layout.specs.code.Sizes.{expr_size, option_size, declare_size, test_size, stmt_size, stmts_size}
use Rattle.pungi_layout.specs.code.Sizes.{switch_size}
use Rattle.pungi_layout.specs.code.Sound.{option_nodes, declare_nodes, stmt_nodes, stmts_nodes}
use Rattle.pungi_lower.proofs.nodes.Parts.{convert-few}
use Rattle.pungi_lower.proofs.nodes.Exprs.{expr-few}

record FewOption (o : Option Value) (n : ℕ) : Type 0 where
  nodes : option_nodes o ≤ 3 * n
  size : option_size o ≤ 4 * n

record FewReached (rs : List DeclaredLocal) (n : ℕ) : Type 0 where
  nodes : declare_nodes rs ≤ 3 * n
  size : declare_size rs + length rs ≤ 4 * n

-- a statement of n nodes
pub record FewStmt (a : Action) (n : ℕ) : Type 0 where
  pub nodes : stmt_nodes a ≤ 3 * n
  pub size : stmt_size a + length (action_locals a) + 2 * length (cases_of a) ≤ 4 * n
  pub switched : switch_size a ≤ 4 * n + 1

pub record FewStmts (ss : Actions) (n : ℕ) : Type 0 where
  pub nodes : stmts_nodes ss ≤ 3 * n
  pub size : stmts_size ss + length (block_locals (listed ss)) + 2 * length (block_cases (listed ss)) ≤ 4 * n

-- .. expressions of a statement
option-few : (env : Env) (e : Option Expr) → FewOption (option_value env e) (written.option_nodes e)
option-few env None = record { nodes = omega arith; size = omega arith }
option-few env (Some e) =
    let h = expr-few env e in record { nodes = omega (arith, h.nodes); size = omega (arith, h.size) }

tested-few : (env : Env) (e : Option Expr) → test_size (option_value env e) ≤ 4 * written.option_nodes e
tested-few env None = omega arith
tested-few env (Some e) = let h = expr-few env e in omega (arith, h.size)

returned-few : (f : Site) (p : Pos) (e : Option Expr) → FewOption (return_value f p e) (written.option_nodes e)
returned-few f p None = record { nodes = omega arith; size = omega arith }
returned-few f p (Some e) =
    let h = convert-few p f.result (kind_of f.env e) (resolve f.env e) (written.expr_nodes e) (expr-few f.env e) in
    record { nodes = omega (arith, h.nodes); size = omega (arith, h.size) }

initial-few : (f : Site) (s : Spec) (d : Declr) (i : Option Init)
    → FewOption (initial_value f s (var_decl d i)) (written.init_nodes i)
initial-few f s d None = record { nodes = omega arith; size = omega arith }
initial-few f s d (Some (table ts)) = record { nodes = omega arith; size = omega arith }
initial-few f s d (Some (value e)) =
    let env = (with_var f s (var_decl d None)).env in
    let h = convert-few (declr_pos d) (declared_kind f.env.file.items s d) (kind_of env e) (resolve env e)
    (written.expr_nodes e) (expr-few env e) in
    record { nodes = omega (arith, h.nodes); size = omega (arith, h.size) }

declared-few : (f : Site) (s : Spec) (vs : List VarDecl) → FewReached (declared_locals f s vs) (written.vars_nodes vs)
declared-few f s [] = record { nodes = omega arith; size = omega arith }
declared-few f s (var_decl d i ∷ vs) =
    let h = initial-few f s d i in
    let g = declared-few (with_var f s (var_decl d i)) s vs in
    record { nodes = omega (arith, h.nodes, g.nodes); size = omega (arith, h.size, g.size) }

started-few : (f : Site) (a : ForStart) → FewReached (start_declared f a) (written.start_nodes a)
started-few f (start_decl (decl qs s vs)) =
    let h = declared-few f s vs in record { nodes = omega (arith, h.nodes); size = omega (arith, h.size) }
started-few f (start_expr e) = record { nodes = omega arith; size = omega arith }

-- what a `for` does first: it declares, or it evaluates
record FewStart (rs : List DeclaredLocal) (u : Option Value) (n : ℕ) : Type 0 where
  nodes : declare_nodes rs + option_nodes u ≤ 3 * n
  size : length rs + declare_size rs + option_size u ≤ 4 * n

start-few : (f : Site) (a : ForStart) → FewStart (start_declared f a) (start_value f.env a) (written.start_nodes a)
start-few f (start_decl d) =
    let h = started-few f (start_decl d) in record { nodes = omega (arith, h.nodes); size = omega (arith, h.size) }
start-few f (start_expr e) =
    let h = option-few f.env e in record { nodes = omega (arith, h.nodes); size = omega (arith, h.size) }

-- .. statements
switch-is : (p : Pos) (v : Value) (a : Action) → stmt_size (switch p v a) ≡ expr_size v + switch_size a
switch-is p v (block q ss r) = refl
switch-is p v a = refl

mutual
  pub stmt-few : (f : Site) (s : Stmt) → FewStmt (action f s) (written.stmt_nodes s)
  stmt-few f (tree.block p ss q) =
      let h = stmts-few f ss in
      record { nodes = omega (arith, h.nodes); size = omega (arith, h.size); switched = omega (arith, h.size) }
  stmt-few f (declare p (decl qs s vs)) =
      let h = declared-few f s vs in
      record { nodes = omega (arith, h.nodes); size = omega (arith, h.size); switched = omega (arith, h.size) }
  stmt-few f (do_expr p e) =
      let h = option-few f.env e in
      record { nodes = omega (arith, h.nodes); size = omega (arith, h.size); switched = omega (arith, h.size) }
  stmt-few f (if_only p e s) =
      let h = expr-few f.env e in
      let g = stmt-few f s in
      record {
        nodes = omega (arith, h.nodes, g.nodes);
        size = omega (arith, h.size, g.size);
        switched = omega
            (arith, h.size, g.size);
      }
  stmt-few f (if_else p e s t) =
      let h = expr-few f.env e in
      let g = stmt-few f s in
      let k = stmt-few (site_past f s) t in
      record {
        nodes = omega (arith, h.nodes, g.nodes, k.nodes);
        size = omega (arith, h.size, g.size, k.size);
        switched = omega (arith, h.size, g.size, k.size);
      }
  stmt-few f (while p e s) =
      let h = expr-few f.env e in
      let g = stmt-few f s in
      record {
        nodes = omega (arith, h.nodes, g.nodes);
        size = omega (arith, h.size, g.size);
        switched = omega
            (arith, h.size, g.size);
      }
  stmt-few f (do_while p s e) =
      let h = expr-few f.env e in
      let g = stmt-few f s in
      record {
        nodes = omega (arith, h.nodes, g.nodes);
        size = omega (arith, h.size, g.size);
        switched = omega
            (arith, h.size, g.size);
      }
  stmt-few f (for p a b c s) =
      let i = start-few f a in
      let j = option-few (with_start f a).env b in
      let t = tested-few (with_start f a).env b in
      let k = option-few (with_start f a).env c in
      let g = stmt-few (with_start f a) s in
      record {
        nodes = omega (arith, i.nodes, j.nodes, k.nodes, g.nodes);
        size = omega (arith, i.size, t, k.size, g.size);
        switched = omega (arith, i.size, t, k.size, g.size);
      }
  stmt-few f (tree.switch p e s) =
      let h = expr-few f.env e in
      let g = stmt-few f s in
      let i = switch-is p (resolve f.env e) (action f s) in
      record {
        nodes = omega (arith, h.nodes, g.nodes);
        size = omega (arith, h.size, g.switched, i);
        switched
            = omega (arith, h.size, g.switched, i);
      }
  stmt-few f (case p e s) =
      let g = stmt-few f s in
      record { nodes = omega (arith, g.nodes); size = omega (arith, g.size); switched = omega (arith, g.size) }
  stmt-few f (default p s) =
      let g = stmt-few f s in
      record { nodes = omega (arith, g.nodes); size = omega (arith, g.size); switched = omega (arith, g.size) }
  stmt-few f (label p n s) =
      let g = stmt-few f s in
      record { nodes = omega (arith, g.nodes); size = omega (arith, g.size); switched = omega (arith, g.size) }
  stmt-few f (goto p n q) = record { nodes = omega arith; size = omega arith; switched = omega arith }
  stmt-few f (break p) = record { nodes = omega arith; size = omega arith; switched = omega arith }
  stmt-few f (continue p) = record { nodes = omega arith; size = omega arith; switched = omega arith }
  stmt-few f (return p e) =
      let h = returned-few f p e in
      record { nodes = omega (arith, h.nodes); size = omega (arith, h.size); switched = omega (arith, h.size) }

  pub stmts-few : (f : Site) (ss : Stmts) → FewStmts (actions f ss) (written.stmts_nodes ss)
  stmts-few f no_stmts = record { nodes = omega arith; size = omega arith }
  stmts-few f (stmt_and s ss) =
      let h = stmt-few f s in
      let g = stmts-few (site_after f s) ss in
      let a = length-append (action_locals (action f s)) (block_locals (listed (actions (site_after f s) ss))) in
      let b = length-append (cases_of (action f s)) (block_cases (listed (actions (site_after f s) ss))) in
      record { nodes = omega (arith, h.nodes, g.nodes); size = omega (arith, h.size, g.size, a, b) }
