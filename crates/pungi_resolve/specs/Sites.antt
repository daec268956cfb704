-- Where a statement stands, as the walk through a function knows it, and locals that are reached there.
--   site_of env walk result     the names of the file and the locals before them, the number of the next local, and the
--                               kind of the function's result
--   first_value env k p i       the first value of a variable of this kind that is declared at p, where these names are
--                               in force
--   declared_var f s v          a variable as it is reached
--   after_all f ss              where what follows statements stands
use Rattle.std.specs.Prelude.{Option, Some, None}
use Rattle.pungi_base.specs.declared.pos.Pos.{Pos}
use Rattle.pungi_tree.specs.Syntax.{Init, value, table, Spec, VarDecl, Stmts, no_stmts, stmt_and}
use Rattle.pungi_types.specs.Names.{Env}
use Rattle.pungi_types.specs.Exprs.{kind_of}
use Rattle.pungi_resolve.specs.Exprs.{convert, resolve}
use Rattle.pungi_resolved.specs.Values.{Value}
use Rattle.pungi_resolve.specs.Stmts.{Site, initial_value, var_pos, var_kind, site_after}
use Rattle.pungi_resolved.specs.Actions.{DeclaredLocal}
use Rattle.pungi_types.specs.declared.kind.ValueKind.{ValueKind}
use Rattle.pungi_scope.specs.ScopeEnv.{inner_env}
use Rattle.pungi_resolve.specs.declared.walk.Walk.{Walk}

abbrev pub site_of : Env → Walk → Option ValueKind → Site
site_of env walk result = record { env = inner_env env walk.locals; next = walk.next; result = result }

abbrev pub first_value : Env → Option ValueKind → Pos → Option Init → Option Value
first_value env k p None = None
first_value env k p (Some (table ts)) = None
first_value env k p (Some (value e)) = Some (convert p k (kind_of env e) (resolve env e))

abbrev pub declared_var : Site → Spec → VarDecl → DeclaredLocal
declared_var f s v = record { number = f.next; at = var_pos v; kind = var_kind f s v; value = initial_value f s v }

abbrev pub after_all : Site → Stmts → Site
after_all f no_stmts = f
after_all f (stmt_and s ss) = after_all (site_after f s) ss
