-- Where each rule holds in statements and declarations (C11 6.7, 6.8).
--   Frame               where a statement stands
--   with_local env l    a local comes into force
--   spec_pos s, is_file_storage k, has_file_storage ks    where a type begins; `static` or `extern`
--   declared_n1, is_taken, declared_n8, is_wrong_initial, first_value_findings    what holds at a declared name and its
--                                                                                 first value
--   after_var, after_vars, after_decl    the frame after variables
--   var_findings, vars_findings, decl_findings    what holds in declarations
--   condition_findings, option_findings, option_condition, is_wrong_return, return_findings, is_no_integer,
--   switched_findings    what holds in the expressions of a statement
--   in_part, in_loop, in_switch, in_block, in_label, start_frame, after_stmt, after_part, after_stmts    the frames of
--                                                                                                        its parts, and
--                                                                                                        after it
--   start_findings, stmt_findings f s, stmts_findings f ss    what holds in what begins a `for`, in a statement, and in
--                                                             statements
use Rattle.std.specs.Prelude.{ℕ, ◌+◌, Bool, true, false, ◌&&◌, ◌||◌, not, List, [], ◌∷◌, ◌++◌, Option, Some, None}
use Rattle.std.specs.Prelude.{is_some, is_none}
use Rattle.pungi_base.specs.declared.key.Key.{Key}
use Rattle.pungi_base.specs.declared.key.Key.TheVariants as keys
use Rattle.pungi_base.specs.declared.names.Name.{Name}
use Rattle.pungi_base.specs.declared.pos.Pos.{Pos}
use Rattle.pungi_tree.specs.Syntax.{Expr, Spec, spec, Init, value, table, VarDecl, var_decl, Decl, decl, ForStart}
use Rattle.pungi_tree.specs.Syntax.{start_decl, start_expr, Stmt, block, declare, do_expr, if_only, if_else, while}
use Rattle.pungi_tree.specs.Syntax.{do_while, for, switch, case, default, label, goto, break, continue, return, Stmts}
use Rattle.pungi_tree.specs.Syntax.{no_stmts, stmt_and}
use Rattle.pungi_api.specs.Rows.{row_in}
use Rattle.pungi_types.specs.Files.{declr_name, declr_pos}
use Rattle.pungi_types.specs.Kinds.{declared_kind}
use Rattle.pungi_types.specs.Names.{Env, is_among, with_word, is_function, is_static}
use Rattle.pungi_types.specs.declared.local.Local.{Local}
use Rattle.pungi_types.specs.Findings.{Findings, nothing_found, ◌and◌, when}
use Rattle.pungi_types.specs.Operators.{is_integer, is_void, fits, both_known}
use Rattle.pungi_types.specs.Exprs.{kind_of, operand, void_use, expr_findings}
use Rattle.pungi_types.specs.Labels.{block_labels, constant_of, switch_findings, stmt_locals}
use Rattle.pungi_types.specs.declared.kind.ValueKind.{ValueKind}

-- where a statement stands
pub record Frame : Type 0 where
  pub env : Env
  pub block : List ℕ  -- the names that the block around it has declared so far
  pub next : ℕ  -- the number of the next local
  pub result : Option ValueKind  -- of the function
  pub labels : List ℕ  -- of the blocks around it
  pub breaks : Bool  -- in a loop or switch
  pub continues : Bool  -- in a loop
  pub cases : Bool  -- directly in the block of a switch
  pub switched : Bool  -- the body of a switch

abbrev pub with_local : Env → Local → Env
with_local env l = record env { locals = l ∷ env.locals }

abbrev pub spec_pos : Spec → Pos
spec_pos (spec p b c) = p

abbrev pub is_file_storage : Key → Bool
is_file_storage keys.Static = true
is_file_storage keys.Extern = true
is_file_storage _ = false

abbrev pub has_file_storage : List Key → Bool
has_file_storage [] = false
has_file_storage (k ∷ ks) = is_file_storage k || has_file_storage ks

-- N1: what is declared has no kind, or is static or extern
abbrev pub declared_n1 : List Key → Spec → Option ValueKind → Findings
declared_n1 qs s k = when (is_none k || has_file_storage qs) (spec_pos s) 1

abbrev pub is_taken : Env → ℕ → Bool
is_taken env w = is_function env.file.items w || (is_some (row_in env.file.rows w) || is_static env.file.items w)

-- N8: declared twice in one block, or with the name of a function, row or static
abbrev pub declared_n8 : Env → List ℕ → Name → Pos → Findings
declared_n8 env names n p = when (is_among names n.0 || is_taken env n.0) p 8

-- a first value that doesn't fit
abbrev pub is_wrong_initial : Option ValueKind → Option ValueKind → Bool
is_wrong_initial k v = is_void v || (both_known k v && not (fits k v))

-- N10: an initialiser that doesn't fit, or a braced one
abbrev pub first_value_findings : Env → Option ValueKind → Pos → Option Init → Findings
first_value_findings env k p None = nothing_found
first_value_findings env k p (Some (table ts)) = when true p 10
first_value_findings env k p (Some (value e)) =
    expr_findings env e and (when (is_wrong_initial k (operand (kind_of env e) e)) p 10 and void_use env e)

-- the frame after a declared variable
abbrev pub after_var : Frame → Spec → VarDecl → Frame
after_var f s (var_decl d v) =
    record f {
      env = with_local f.env (record {
        name = declr_name d;
        number = f.next;
        kind = declared_kind f.env.file.items s
            d;
      });
      block = with_word f.block (declr_name d).0;
      next = f.next + 1;
    }

-- a variable is in scope from its own initialiser on
abbrev pub var_findings : Frame → List Key → Spec → VarDecl → Findings
var_findings f qs s (var_decl d v) =
    declared_n1 qs s (declared_kind f.env.file.items s d) and (declared_n8 f.env f.block (declr_name d) (declr_pos d)
    and first_value_findings (after_var f s (var_decl d v)).env (declared_kind f.env.file.items s d) (declr_pos d) v)

abbrev pub vars_findings : Frame → List Key → Spec → List VarDecl → Findings
vars_findings f qs s [] = nothing_found
vars_findings f qs s (v ∷ vs) = var_findings f qs s v and vars_findings (after_var f s v) qs s vs

abbrev pub after_vars : Frame → Spec → List VarDecl → Frame
after_vars f s [] = f
after_vars f s (v ∷ vs) = after_vars (after_var f s v) s vs

abbrev pub after_decl : Frame → Decl → Frame
after_decl f (decl qs s vs) = after_vars f s vs

abbrev pub decl_findings : Frame → Decl → Findings
decl_findings f (decl qs s vs) = vars_findings f qs s vs

-- N10: a condition is an integer or a pointer
abbrev pub condition_findings : Env → Pos → Expr → Findings
condition_findings env p e =
    expr_findings env e and (when (is_void (operand (kind_of env e) e)) p 10 and void_use env e)

abbrev pub option_findings : Env → Option Expr → Findings
option_findings env None = nothing_found
option_findings env (Some e) = expr_findings env e

abbrev pub option_condition : Env → Pos → Option Expr → Findings
option_condition env p None = nothing_found
option_condition env p (Some e) = condition_findings env p e

-- a value in a void function, or one that doesn't fit
abbrev pub is_wrong_return : Option ValueKind → Option ValueKind → Bool
is_wrong_return r v = is_void r || (both_known r v && not (fits r v))

-- N10: a value in a void function, none in another, or one that doesn't fit
abbrev pub return_findings : Env → Option ValueKind → Pos → Option Expr → Findings
return_findings env r p None = when (is_some r && not (is_void r)) p 10
return_findings env r p (Some e) =
    expr_findings env e and (when (is_wrong_return r (operand (kind_of env e) e)) p 10 and void_use env e)

-- the frame of a part that is no part of a block: it declares nothing
abbrev pub in_part : Frame → Frame
in_part f = record f { block = []; cases = false; switched = false }

abbrev pub in_loop : Frame → Frame
in_loop f = record f { block = []; breaks = true; continues = true; cases = false; switched = false }

-- the frame of the body of a `switch`
abbrev pub in_switch : Frame → Frame
in_switch f = record f { block = []; breaks = true; cases = false; switched = true }

-- the frame of the statements of a block
abbrev pub in_block : Frame → Stmts → Frame
in_block f ss = record f { block = []; labels = block_labels [] ss ++ f.labels; cases = f.switched; switched = false }

-- the frame after a `case`, `default` or label
abbrev pub in_label : Frame → Frame
in_label f = record f { block = []; switched = false }

abbrev pub start_frame : Frame → ForStart → Frame
start_frame f (start_decl d) = after_decl (record f { block = [] }) d
start_frame f (start_expr e) = record f { block = [] }

abbrev pub start_findings : Frame → ForStart → Findings
start_findings f (start_decl d) = decl_findings (record f { block = [] }) d
start_findings f (start_expr e) = option_findings f.env e

abbrev pub is_no_integer : Option ValueKind → Bool
is_no_integer k = is_some k && not (is_integer k)

-- N10: what a `switch` goes by is an integer
abbrev pub switched_findings : Env → Pos → Expr → Findings
switched_findings env p e =
    expr_findings env e and (when (is_no_integer (operand (kind_of env e) e)) p 10 and void_use env e)

-- the frame after a statement of a block
abbrev pub after_stmt : Frame → Stmt → Frame
after_stmt f (declare p d) = after_decl f d
after_stmt f s = record f { next = f.next + stmt_locals s }

abbrev pub after_part : Frame → Stmt → Frame
after_part f s = record f { next = f.next + stmt_locals s }

-- the frame after the statements of a block
abbrev pub after_stmts : Frame → Stmts → Frame
after_stmts f no_stmts = f
after_stmts f (stmt_and s ss) = after_stmts (after_stmt f s) ss

abbrev mutual
  pub stmt_findings : Frame → Stmt → Findings
  stmt_findings f (block p ss q) = stmts_findings (in_block f ss) ss
  stmt_findings f (declare p d) = decl_findings f d
  stmt_findings f (do_expr p e) = option_findings f.env e
  stmt_findings f (if_only p e s) = condition_findings f.env p e and stmt_findings (in_part f) s
  stmt_findings f (if_else p e s t) = condition_findings f.env p e
      and (stmt_findings (in_part f) s and stmt_findings (after_part (in_part f) s) t)
  stmt_findings f (while p e s) = condition_findings f.env p e and stmt_findings (in_loop f) s
  stmt_findings f (do_while p s e) = stmt_findings (in_loop f) s and condition_findings f.env p e
  stmt_findings f (for p a b c s) =
      start_findings f a and (option_condition (start_frame f a).env p b
      and (option_findings (start_frame f a).env c and stmt_findings (in_loop (start_frame f a)) s))
  stmt_findings f (switch p e s) =
      switched_findings f.env p e and (switch_findings s and stmt_findings (in_switch f) s)
  stmt_findings f (case p e s) = when (not f.cases || is_none (constant_of e)) p 7
      and (expr_findings f.env e and stmt_findings (in_label f) s)
  stmt_findings f (default p s) = when (not f.cases) p 7 and stmt_findings (in_label f) s
  stmt_findings f (label p n s) = stmt_findings (in_label f) s
  stmt_findings f (goto p n q) = when (not (is_among f.labels n.0)) q 6
  stmt_findings f (break p) = when (not f.breaks) p 7
  stmt_findings f (continue p) = when (not f.continues) p 7
  stmt_findings f (return p e) = return_findings f.env f.result p e

  pub stmts_findings : Frame → Stmts → Findings
  stmts_findings f no_stmts = nothing_found
  stmts_findings f (stmt_and s ss) = stmt_findings f s and stmts_findings (after_stmt f s) ss
