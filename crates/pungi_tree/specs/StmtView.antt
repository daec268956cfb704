-- The tree of `Syntax` that a declaration or a statement of the program stands for.
--   init_view, init_option_view, var_decl_view, decl_view    a first value, also where it may be missing, a variable,
--                                                            and a declaration
--   for_start_view        what a `for` begins with
--   stmt_view             a statement
--   stmts_of              a list of statements, as `Syntax` writes it
--   StmtNode              a statement that waits for its place
--   stmt_node_step, stmt_step    one level of a statement
use Rattle.std.specs.Prelude.{List, [], ◌∷◌, map, Option, Some, None, option_map}
use Rattle.pungi_base.specs.declared.pos.Pos.{Pos}
use Rattle.pungi_tree.specs.ExprView.{expr_view, optional_view, spec_view, declr_view}
use Rattle.pungi_tree.specs.Syntax as plain
use Rattle.pungi_tree.specs.declared.decl.Init.{Init}
use Rattle.pungi_tree.specs.declared.decl.Init.TheVariants as inits
use Rattle.pungi_tree.specs.declared.decl.VarDecl.{VarDecl}
use Rattle.pungi_tree.specs.declared.decl.Decl.{Decl}
use Rattle.pungi_tree.specs.declared.stmt.ForStart.{ForStart}
use Rattle.pungi_tree.specs.declared.stmt.ForStart.TheVariants as starts
use Rattle.pungi_tree.specs.declared.stmt.StmtNode.TheOpen.{StmtNode-F, Stmt-F}
use Rattle.pungi_tree.specs.declared.stmt.Stmt.{Stmt, fold-Stmt}

abbrev pub init_view : Init → plain.Init
init_view (inits.Value e) = plain.value (expr_view e)
init_view (inits.Table ts) = plain.table ts.items

abbrev pub init_option_view : Option Init → Option plain.Init
init_option_view o = option_map init_view o

abbrev pub var_decl_view : VarDecl → plain.VarDecl
var_decl_view v = plain.var_decl (declr_view v.declr) (init_option_view v.value)

abbrev pub decl_view : Decl → plain.Decl
decl_view d = plain.decl d.quals.items (spec_view d.type_name) (map var_decl_view d.vars.items)

abbrev pub for_start_view : ForStart → plain.ForStart
for_start_view (starts.Decl d) = plain.start_decl (decl_view d)
for_start_view (starts.Expr e) = plain.start_expr (optional_view e)

abbrev pub stmts_of : List plain.Stmt → plain.Stmts
stmts_of [] = plain.no_stmts
stmts_of (s ∷ ss) = plain.stmt_and s (stmts_of ss)

-- One level of each type, with what is inside already seen; a node waits for its place.
abbrev pub StmtNode : Type 0
StmtNode = Pos → plain.Stmt

abbrev pub stmt_node_step : StmtNode-F StmtNode plain.Stmt → StmtNode
stmt_node_step (StmtNode-F.Block ss q) = λ p. plain.block p (stmts_of ss.items) q
stmt_node_step (StmtNode-F.Declare d) = λ p. plain.declare p (decl_view d)
stmt_node_step (StmtNode-F.Do e) = λ p. plain.do_expr p (optional_view e)
stmt_node_step (StmtNode-F.If e s None) = λ p. plain.if_only p (expr_view e) s.value
stmt_node_step (StmtNode-F.If e s (Some t)) = λ p. plain.if_else p (expr_view e) s.value t.value
stmt_node_step (StmtNode-F.While e s) = λ p. plain.while p (expr_view e) s.value
stmt_node_step (StmtNode-F.DoWhile s e) = λ p. plain.do_while p s.value (expr_view e)
stmt_node_step (StmtNode-F.For h s) =
    λ p. plain.for p (for_start_view h.value.start) (optional_view h.value.test) (optional_view h.value.step)
    s.value
stmt_node_step (StmtNode-F.Switch e s) = λ p. plain.switch p (expr_view e) s.value
stmt_node_step (StmtNode-F.Case e s) = λ p. plain.case p (expr_view e) s.value
stmt_node_step (StmtNode-F.Default s) = λ p. plain.default p s.value
stmt_node_step (StmtNode-F.Label n s) = λ p. plain.label p n s.value
stmt_node_step (StmtNode-F.Goto n q) = λ p. plain.goto p n q
stmt_node_step StmtNode-F.Break = λ p. plain.break p
stmt_node_step StmtNode-F.Continue = λ p. plain.continue p
stmt_node_step (StmtNode-F.Return e) = λ p. plain.return p (optional_view e)

abbrev pub stmt_step : Stmt-F StmtNode plain.Stmt → plain.Stmt
stmt_step s = s.node s.pos

abbrev pub stmt_view : Stmt → plain.Stmt
stmt_view = fold-Stmt StmtNode plain.Stmt stmt_node_step stmt_step
