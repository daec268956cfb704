-- Labels, cases, and how many locals a function has (C11 6.8.1, 6.8.4.2, 6.8.6.1).
--   own_labels ws s, block_labels ws ss    these words, and the labels of a statement or a block that are in no inner
--                                          block
--   labels_after, labels_after_all    these words, and all labels of a statement or of statements
--   label_findings ws s, labels_findings    a label twice
--   byte c              a character's number
--   unsigned_constant, negate, is_minus, constant_of e     the value of an Int or Char, with at most one `-`
--   Cases, no_cases     the cases of a switch so far
--   has_value, with_value, with_constant, is_equal_case, with_default, cases_after    one more of them
--   case_findings, cases_findings, switch_findings s    an equal case, a second default
--   start_locals, stmt_locals, stmts_locals, param_count    how many locals are declared
use Rattle.std.specs.Prelude.{ℕ, ℤ, pos, neg_ℤ, nat_lt, int_lt, ◌+◌, Bool, true, false, List, [], ◌∷◌, ◌++◌, length}
use Rattle.std.specs.Prelude.{Option, Some, None, if◌then◌else◌}
use Rattle.std.specs.List.{list_any}
use Rattle.std.specs.Ordering.{int_eq}
use Rattle.pungi_base.specs.declared.kind.Kind.{Kind}
use Rattle.pungi_base.specs.declared.kind.Kind.TheVariants as tokens
use Rattle.pungi_base.specs.declared.punct.Punct.TheVariants as puncts
use Rattle.pungi_tree.specs.Syntax.{Expr, int, char, unary, decl, ForStart, start_decl, start_expr, Stmt, block}
use Rattle.pungi_tree.specs.Syntax.{declare, if_only, if_else, while, do_while, for, switch, case, default, label}
use Rattle.pungi_tree.specs.Syntax.{Stmts, no_stmts, stmt_and, ParamDecls, no_params, param_and}
use Rattle.pungi_types.specs.Names.{is_among, with_word}
use Rattle.pungi_types.specs.Findings.{Findings, nothing_found, ◌and◌, when}

-- .. labels
-- these words, and the labels of a statement that are in no inner block
abbrev pub own_labels : List ℕ → Stmt → List ℕ
own_labels ws (if_only p e s) = own_labels ws s
own_labels ws (if_else p e s t) = own_labels (own_labels ws s) t
own_labels ws (while p e s) = own_labels ws s
own_labels ws (do_while p s e) = own_labels ws s
own_labels ws (for p a b c s) = own_labels ws s
own_labels ws (switch p e s) = own_labels ws s
own_labels ws (case p e s) = own_labels ws s
own_labels ws (default p s) = own_labels ws s
own_labels ws (label p n s) = own_labels (with_word ws n.0) s
own_labels ws _ = ws

-- these words, and the labels of a block
abbrev pub block_labels : List ℕ → Stmts → List ℕ
block_labels ws no_stmts = ws
block_labels ws (stmt_and s ss) = block_labels (own_labels ws s) ss

abbrev mutual
  -- these words, and all labels of a statement
  pub labels_after : List ℕ → Stmt → List ℕ
  labels_after ws (block p ss q) = labels_after_all ws ss
  labels_after ws (if_only p e s) = labels_after ws s
  labels_after ws (if_else p e s t) = labels_after (labels_after ws s) t
  labels_after ws (while p e s) = labels_after ws s
  labels_after ws (do_while p s e) = labels_after ws s
  labels_after ws (for p a b c s) = labels_after ws s
  labels_after ws (switch p e s) = labels_after ws s
  labels_after ws (case p e s) = labels_after ws s
  labels_after ws (default p s) = labels_after ws s
  labels_after ws (label p n s) = labels_after (with_word ws n.0) s
  labels_after ws _ = ws

  pub labels_after_all : List ℕ → Stmts → List ℕ
  labels_after_all ws no_stmts = ws
  labels_after_all ws (stmt_and s ss) = labels_after_all (labels_after ws s) ss

abbrev mutual
  -- N7: a label twice, where these came before
  pub label_findings : List ℕ → Stmt → Findings
  label_findings ws (block p ss q) = labels_findings ws ss
  label_findings ws (if_only p e s) = label_findings ws s
  label_findings ws (if_else p e s t) = label_findings ws s and label_findings (labels_after ws s) t
  label_findings ws (while p e s) = label_findings ws s
  label_findings ws (do_while p s e) = label_findings ws s
  label_findings ws (for p a b c s) = label_findings ws s
  label_findings ws (switch p e s) = label_findings ws s
  label_findings ws (case p e s) = label_findings ws s
  label_findings ws (default p s) = label_findings ws s
  label_findings ws (label p n s) = when (is_among ws n.0) p 7 and label_findings (with_word ws n.0) s
  label_findings ws _ = nothing_found

  pub labels_findings : List ℕ → Stmts → Findings
  labels_findings ws no_stmts = nothing_found
  labels_findings ws (stmt_and s ss) = label_findings ws s and labels_findings (labels_after ws s) ss

-- .. cases
-- a character is one byte; no tree that is read holds another number
abbrev pub byte : ℕ → ℕ
byte c = if nat_lt c 256 then c else 0

-- an Int, which is not below 0, or a Char
abbrev pub unsigned_constant : Expr → Option ℤ
unsigned_constant (int p v l u) = (if int_lt v (pos 0) then None else Some v)
unsigned_constant (char p c) = Some (pos (byte c))
unsigned_constant _ = None

abbrev pub negate : Option ℤ → Option ℤ
negate None = None
negate (Some v) = Some (neg_ℤ v)

abbrev pub is_minus : Kind → Bool
is_minus (tokens.Punct puncts.Minus) = true
is_minus _ = false

-- one of these, with at most one `-`
abbrev pub constant_of : Expr → Option ℤ
constant_of (unary p k e) = (if is_minus k then negate (unsigned_constant e) else None)
constant_of e = unsigned_constant e

-- the cases of a switch so far
pub record Cases : Type 0 where
  pub values : List ℤ
  pub has_default : Bool

abbrev pub no_cases : Cases
no_cases = record { values = []; has_default = false }

abbrev pub has_value : List ℤ → ℤ → Bool
has_value vs v = list_any (λ x. int_eq v x) vs

-- these values, with one more at the end where it wasn't among them
abbrev pub with_value : List ℤ → ℤ → List ℤ
with_value vs v = (if has_value vs v then vs else vs ++ v ∷ [])

abbrev pub with_constant : Cases → Option ℤ → Cases
with_constant c None = c
with_constant c (Some v) = record c { values = with_value c.values v }

abbrev pub is_equal_case : Cases → Option ℤ → Bool
is_equal_case c None = false
is_equal_case c (Some v) = has_value c.values v

abbrev pub with_default : Cases → Cases
with_default c = record c { has_default = true }

-- the cases that stand directly in a switch's block, also after labels
abbrev pub cases_after : Cases → Stmt → Cases
cases_after c (case p e s) = cases_after (with_constant c (constant_of e)) s
cases_after c (default p s) = cases_after (with_default c) s
cases_after c (label p n s) = cases_after c s
cases_after c _ = c

-- N7: an equal case, a second default
abbrev pub case_findings : Cases → Stmt → Findings
case_findings c (case p e s) =
    when (is_equal_case c (constant_of e)) p 7 and case_findings (with_constant c (constant_of e)) s
case_findings c (default p s) = when c.has_default p 7 and case_findings (with_default c) s
case_findings c (label p n s) = case_findings c s
case_findings c _ = nothing_found

abbrev pub cases_findings : Cases → Stmts → Findings
cases_findings c no_stmts = nothing_found
cases_findings c (stmt_and s ss) = case_findings c s and cases_findings (cases_after c s) ss

abbrev pub switch_findings : Stmt → Findings
switch_findings (block p ss q) = cases_findings no_cases ss
switch_findings _ = nothing_found

-- .. locals
abbrev pub start_locals : ForStart → ℕ
start_locals (start_decl (decl qs s vs)) = length vs
start_locals (start_expr e) = 0

abbrev mutual
  pub stmt_locals : Stmt → ℕ
  stmt_locals (block p ss q) = stmts_locals ss
  stmt_locals (declare p (decl qs s vs)) = length vs
  stmt_locals (if_only p e s) = stmt_locals s
  stmt_locals (if_else p e s t) = stmt_locals s + stmt_locals t
  stmt_locals (while p e s) = stmt_locals s
  stmt_locals (do_while p s e) = stmt_locals s
  stmt_locals (for p a b c s) = start_locals a + stmt_locals s
  stmt_locals (switch p e s) = stmt_locals s
  stmt_locals (case p e s) = stmt_locals s
  stmt_locals (default p s) = stmt_locals s
  stmt_locals (label p n s) = stmt_locals s
  stmt_locals _ = 0

  pub stmts_locals : Stmts → ℕ
  stmts_locals no_stmts = 0
  stmts_locals (stmt_and s ss) = stmt_locals s + stmts_locals ss

abbrev pub param_count : ParamDecls → ℕ
param_count no_params = 0
param_count (param_and d ds) = param_count ds + 1
