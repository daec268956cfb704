-- How a statement of a function in which no rule holds is resolved.
--   Site                where a statement stands
--   with_var, with_vars, with_decl, with_start    a site after variables, a declaration, and what begins a `for`
--   site_past, site_after, with_param, with_params, params_site    a site after a part, a statement of a block, a
--                                                                  parameter, and all of them
--   initial_value, var_pos, var_kind, declared_locals, start_declared    declared locals
--   option_value, start_value, return_value, case_value    the values of a statement
--   action f s, actions f ss    a statement and statements
--   body_action p f s   a body, of a function at p
use Rattle.std.specs.Prelude.{ℕ, ℤ, ◌+◌, pos, List, [], ◌∷◌, Option, Some, None}
use Rattle.pungi_base.specs.declared.pos.Pos.{Pos}
use Rattle.pungi_tree.specs.Syntax as tree
use Rattle.pungi_tree.specs.Syntax.{Expr, Spec, value, table, VarDecl, var_decl, Decl, decl, ForStart, start_decl}
use Rattle.pungi_tree.specs.Syntax.{start_expr, Stmt, Stmts, no_stmts, stmt_and, Params, params, ParamDecl, ParamDecls}
use Rattle.pungi_tree.specs.Syntax.{no_params, param_and, param_decl, named, bare, unused}
use Rattle.pungi_types.specs.Files.{declr_name, declr_pos}
use Rattle.pungi_types.specs.Names.{Env}
use Rattle.pungi_types.specs.Kinds.{declared_kind}
use Rattle.pungi_types.specs.Calls.{param_kind}
use Rattle.pungi_types.specs.Exprs.{kind_of}
use Rattle.pungi_types.specs.Labels.{constant_of, stmt_locals}
use Rattle.pungi_resolve.specs.Exprs.{convert, resolve}
use Rattle.pungi_resolved.specs.Values.{Value}
use Rattle.pungi_resolved.specs.Actions.{DeclaredLocal, Action, block, declare, do_expr, if_only, if_else, while}
use Rattle.pungi_resolved.specs.Actions.{do_while, for, switch, case, default, label, goto, break, continue, return}
use Rattle.pungi_resolved.specs.Actions.{Actions, no_actions, action_and}
use Rattle.pungi_types.specs.Stmts.{with_local}
use Rattle.pungi_types.specs.declared.kind.ValueKind.{ValueKind}

-- where a statement stands: the names in force, the number of the next local, and the kind of the function's result
pub record Site : Type 0 where
  pub env : Env
  pub next : ℕ
  pub result : Option ValueKind

-- .. the sites after what declares
abbrev pub with_var : Site → Spec → VarDecl → Site
with_var f s (var_decl d v) =
    record f {
      env = with_local f.env (record {
        name = declr_name d;
        number = f.next;
        kind = declared_kind
            f.env.file.items s d;
      });
      next = f.next + 1;
    }

abbrev pub with_vars : Site → Spec → List VarDecl → Site
with_vars f s [] = f
with_vars f s (v ∷ vs) = with_vars (with_var f s v) s vs

abbrev pub with_decl : Site → Decl → Site
with_decl f (decl qs s vs) = with_vars f s vs

abbrev pub with_start : Site → ForStart → Site
with_start f (start_decl d) = with_decl f d
with_start f (start_expr e) = f

-- what a part declares goes out of force after it
abbrev pub site_past : Site → Stmt → Site
site_past f s = record f { next = f.next + stmt_locals s }

abbrev pub site_after : Site → Stmt → Site
site_after f (tree.declare p d) = with_decl f d
site_after f s = site_past f s

-- only a parameter that is written plainly has a name in the body; the others are locals without one
abbrev pub with_param : Site → ParamDecl → Site
with_param f (param_decl qs s (named d)) =
    record f {
      env = with_local f.env (record {
        name = declr_name d;
        number = f.next;
        kind = param_kind
            f.env.file.items s (named d);
      });
      next = f.next + 1;
    }
with_param f (param_decl qs s (bare stars)) = record f { next = f.next + 1 }
with_param f (param_decl qs s (unused stars n p)) = record f { next = f.next + 1 }

abbrev pub with_params : Site → ParamDecls → Site
with_params f no_params = f
with_params f (param_and d ds) = with_params (with_param f d) ds

abbrev pub params_site : Site → Params → Site
params_site f (params ds v dots) = with_params f ds

-- .. declared locals, and the values of a statement
-- a variable is in scope from its own first value on
abbrev pub initial_value : Site → Spec → VarDecl → Option Value
initial_value f s (var_decl d None) = None
initial_value f s (var_decl d (Some (table ts))) = None
initial_value f s (var_decl d (Some (value e))) =
    Some (convert (declr_pos d) (declared_kind f.env.file.items s d) (kind_of (with_var f s (var_decl d None)).env
    e) (resolve (with_var f s (var_decl d None)).env e))

abbrev pub var_pos : VarDecl → Pos
var_pos (var_decl d v) = declr_pos d

abbrev pub var_kind : Site → Spec → VarDecl → Option ValueKind
var_kind f s (var_decl d v) = declared_kind f.env.file.items s d

abbrev pub declared_locals : Site → Spec → List VarDecl → List DeclaredLocal
declared_locals f s [] = []
declared_locals f s (v ∷ vs) =
    record { number = f.next; at = var_pos v; kind = var_kind f s v; value = initial_value f s v }
    ∷ declared_locals (with_var f s v) s vs

abbrev pub start_declared : Site → ForStart → List DeclaredLocal
start_declared f (start_decl (decl qs s vs)) = declared_locals f s vs
start_declared f (start_expr e) = []

abbrev pub option_value : Env → Option Expr → Option Value
option_value env None = None
option_value env (Some e) = Some (resolve env e)

abbrev pub start_value : Env → ForStart → Option Value
start_value env (start_decl d) = None
start_value env (start_expr e) = option_value env e

-- a conversion in returning stops at the `return`
abbrev pub return_value : Site → Pos → Option Expr → Option Value
return_value f p None = None
return_value f p (Some e) = Some (convert p f.result (kind_of f.env e) (resolve f.env e))

abbrev pub case_value : Option ℤ → ℤ
case_value None = pos 0
case_value (Some v) = v

-- .. statements
abbrev mutual
  pub action : Site → Stmt → Action
  action f (tree.block p ss q) = block p (actions f ss) q
  action f (tree.declare p (decl qs s vs)) = declare p (declared_locals f s vs)
  action f (tree.do_expr p e) = do_expr p (option_value f.env e)
  action f (tree.if_only p e s) = if_only p (resolve f.env e) (action f s)
  action f (tree.if_else p e s t) = if_else p (resolve f.env e) (action f s) (action (site_past f s) t)
  action f (tree.while p e s) = while p (resolve f.env e) (action f s)
  action f (tree.do_while p s e) = do_while p (action f s) (resolve f.env e)
  action f (tree.for p a b c s) =
      for p (start_declared f a) (start_value f.env a) (option_value (with_start f a).env b)
      (option_value (with_start f a).env c) (action (with_start f a) s)
  action f (tree.switch p e s) = switch p (resolve f.env e) (action f s)
  action f (tree.case p e s) = case p (case_value (constant_of e)) (action f s)
  action f (tree.default p s) = default p (action f s)
  action f (tree.label p n s) = label p n (action f s)
  action f (tree.goto p n q) = goto p n
  action f (tree.break p) = break p
  action f (tree.continue p) = continue p
  action f (tree.return p e) = return p f.result (return_value f p e)

  pub actions : Site → Stmts → Actions
  actions f no_stmts = no_actions
  actions f (stmt_and s ss) = action_and (action f s) (actions (site_after f s) ss)

-- a body is a block
abbrev pub body_action : Pos → Site → Stmt → Action
body_action p f (tree.block q ss r) = action f (tree.block q ss r)
body_action p f _ = block p no_actions p
