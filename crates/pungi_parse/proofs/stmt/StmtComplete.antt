-- A statement that stands at the front of the tokens is read, and so is what stands in a block.
--   StmtFact, ElementFact, StmtsFact    a statement, what stands in a block, and all of a block are read wherever they
--                                       stand
--   stmt_complete, element_complete     the reader of the same name gives what stands there, where no `else` stands
--                                       after an open `if`
use Rattle.std.proofs.Common.{◌≡◌, ℕ, zero, suc, ◌<◌, ◌≤◌, Bool, true, false, List, ◌∷◌, length, Option, Some, None}
use Rattle.std.proofs.Common.{refl, sym, ◌∙◌, ap, arith}
use Rattle.std.specs.Prelude.{◌&&◌, not}
use Rattle.pungi_base.specs.declared.key.Key.{Key}
use Rattle.pungi_base.specs.declared.key.Key.TheVariants as keys
use Rattle.pungi_base.specs.declared.names.Name.{Name}
use Rattle.pungi_base.specs.declared.pos.Pos.{Pos}
use Rattle.pungi_base.specs.declared.punct.Punct.TheVariants as puncts
use Rattle.pungi_parse.specs.tokens.OneToken.{eat_key}
use Rattle.pungi_parse.specs.Reading.{chain, on_some, when}
use Rattle.pungi_parse.specs.Readers.{readers}
use Rattle.pungi_parse.specs.stmt.StmtReader.{declare_at, expression_at, label_front, goto_at, return_at, stmts_in}
use Rattle.pungi_parse.specs.stmt.StmtReader.{block_at, if_at, while_at, do_at, for_at, switch_at, case_at, default_at}
use Rattle.pungi_parse.specs.stmt.StmtReader.{label_at, optional, jump_or_expression, label_or_jump, stmt_at}
use Rattle.pungi_parse.specs.stmt.StmtReader.{element_at, read_stmt, read_element}
use Rattle.pungi_parse.specs.types.TypeReader.{plain_word}
use Rattle.pungi_parse.proofs.stmt.DeclComplete.{decl_complete, optional_complete, condition_complete, start_complete}
use Rattle.pungi_parse.proofs.stmt.DeclComplete.{decl_front}
use Rattle.pungi_parse.proofs.stmt.DeclFronts.{condition_shorter, start_shorter, optional_no_longer}
use Rattle.pungi_parse.proofs.tokens.Ends.{ends_at_paren, ends_at_semicolon, ends_at_colon, ends_at_conditional}
use Rattle.pungi_parse.proofs.stmt.StmtBegins.{under, stmt_begins, no_decl, stmt_shorter}
use Rattle.pungi_parse.proofs.Tools.{some_same, and_true, not_true}
use Rattle.pungi_parse.proofs.expr.TypeExprTheorems.{expr_no_label, expr_begins, expr_shorter, expr_complete}
use Rattle.pungi_parse.proofs.tokens.WordReadings.{plain_word_complete}
use Rattle.pungi_tree.specs.ExprLevels.{expr_at}
use Rattle.pungi_tree.specs.Placed.{Placed, mark_at, key_at, word_at, first_place}
use Rattle.pungi_tree.specs.StmtDepth.{stmt_depth, stmts_depth}
use Rattle.pungi_tree.specs.StmtLevels.{open_if, is_statement, optional_ok, start_ok, stmt_ok, stmts_ok}
use Rattle.pungi_tree.specs.StmtSpells.{SpellsStmt, SpellsStmts}
use Rattle.pungi_tree.specs.Syntax.{Expr, Decl, ForStart, Stmt, block, declare, do_expr, if_only, if_else, while}
use Rattle.pungi_tree.specs.Syntax.{do_while, for, switch, case, default, label, goto, break, continue, return, Stmts}
use Rattle.pungi_tree.specs.Syntax.{no_stmts, stmt_and}
use Rattle.pungi_tree.specs.TypeWords.{is_word}

module _ (types : List Name) (n : ℕ) where
  unfoldable pub StmtFact : Stmt → Type 0
  StmtFact s = (d : ℕ) (ts rest : List Placed) → stmt_ok types s ≡ true → is_statement s ≡ true → stmt_depth s ≤ d
      → SpellsStmt s ts rest → length ts ≤ n → (open_if s ≡ true → eat_key keys.Else rest ≡ None)
      → read_stmt types n d ts ≡ Some (s, rest)

  unfoldable pub ElementFact : Stmt → Type 0
  ElementFact s = (d : ℕ) (ts rest : List Placed) → stmt_ok types s ≡ true → stmt_depth s ≤ d → SpellsStmt s ts rest
      → length ts ≤ n → (open_if s ≡ true → eat_key keys.Else rest ≡ None)
      → read_element types n d ts ≡ Some (s, rest)

  unfoldable pub StmtsFact : Stmts → Type 0
  StmtsFact ss = (d k : ℕ) (q : Pos) (ts rest : List Placed) → stmts_ok types ss ≡ true → stmts_depth ss ≤ d
      → SpellsStmts ss ts (mark_at puncts.RightBrace q ∷ rest) → length ts ≤ n → length ts < k
      → stmts_in types (readers types n d) (read_stmt types n d) (element_at types n (read_stmt types n d) d) k ts
      ≡ Some (ss, mark_at puncts.RightBrace q ∷ rest)

  block_read : (p q : Pos) (ss : Stmts) → StmtsFact ss → StmtFact (block p ss q)
  unfolding StmtFact StmtsFact read_stmt stmt_at block_at chain on_some
  block_read p q ss f zero ts rest ok st deep s h no_else = absurd (omega arith)
  block_read p q ss f (suc d) ts rest ok st deep s h no_else =
      let r = f d (suc (length s.0)) q s.0 rest ok (omega arith) s.2 (omega (arith, ap length s.1, h)) (omega arith) in
      rw (s.1, r) refl

  -- no label stands where an expression begins
  no_label : (e : Expr) (ts : List Placed) (q : Pos) (rest : List Placed) → expr_at types 0 e ≡ true → (d : ℕ)
      → SpellsStmt (do_expr q (Some e)) ts rest → label_front types (readers types n d) ts ≡ None
  unfolding label_front chain
  no_label e ts q rest ok d s = by_what (plain_word types ts) refl
    where
      by_what : (o : Option (Name × Pos × List Placed)) → plain_word types ts ≡ o
          → label_front types (readers types n d) ts ≡ None
      by_what None h = rw h refl
      by_what (Some w) h = rw (h, expr_no_label types 0 e ts _ w s.2 ok refl h) refl

  nothing_read : (p : Pos) → StmtFact (do_expr p None)
  unfolding StmtFact read_stmt stmt_at label_or_jump label_front plain_word jump_or_expression expression_at
      optional chain on_some
  nothing_read p zero ts rest ok st deep s h no_else = absurd (omega arith)
  nothing_read p (suc d) ts rest ok st deep s h no_else =
      let place : s.0 ≡ p = some_same s.0 p (ap first_place (sym s.2) ∙ s.1) in
      rw (s.2, place) refl

  expression_read : (p : Pos) (e : Expr) → StmtFact (do_expr p (Some e))
  unfolding StmtFact read_stmt stmt_at label_or_jump jump_or_expression expression_at chain on_some
  expression_read p e zero ts rest ok st deep s h no_else = absurd (omega arith)
  expression_read p e (suc d) ts rest ok st deep s h no_else =
      let b = expr_begins types 0 e ts _ s.2 ok in
      let r = optional_complete types n d puncts.Semicolon (Some e) s.0 ts rest s.2 ok (omega arith) h
      (ends_at_semicolon s.0 rest) refl refl in
      rw (
        b.no_mark puncts.LeftBrace refl,
        b.no_key keys.If refl,
        b.no_key keys.While refl,
        b.no_key keys.Do refl,
        b.no_key keys.For refl,
        b.no_key keys.Switch refl,
        b.no_key keys.Case refl,
        b.no_key keys.Default refl,
        no_label e ts p rest ok d s,
        b.no_key keys.Goto refl,
        b.no_key keys.Break refl,
        b.no_key keys.Continue refl,
        b.no_key keys.Return refl,
        s.1,
        r,
      ) refl

  if_read : (p : Pos) (e : Expr) (t : Stmt) → StmtFact t → StmtFact (if_only p e t)
  unfolding StmtFact read_stmt stmt_at if_at chain on_some
  if_read p e t f zero ts rest ok st deep s h no_else = absurd (omega arith)
  if_read p e t f (suc d) ts rest ok st deep s h no_else =
      let u = under types (expr_at types 0 e) t ok in
      let l : length s.0 < n = omega (arith, ap length s.2, h) in
      let c = condition_complete types n d e s.0 s.1 s.3 u.0 (omega arith) (omega arith) in
      let r = f d s.1 rest u.2 u.1 (omega arith) s.4 (omega (arith, condition_shorter types e _ _ s.3 u.0))
      (λ _. no_else refl) in
      rw (s.2, c, r, no_else refl) refl

  else_read : (p : Pos) (e : Expr) (t v : Stmt) → StmtFact t → StmtFact v → StmtFact (if_else p e t v)
  unfolding StmtFact read_stmt stmt_at if_at chain on_some
  else_read p e t v f g zero ts rest ok st deep s h no_else = absurd (omega arith)
  else_read p e t v f g (suc d) ts rest ok st deep s h no_else =
      let a = and_true (expr_at types 0 e) (is_statement t
      && (stmt_ok types t && (not (open_if t) && (is_statement v && stmt_ok types v)))) ok in
      let b = and_true (is_statement t) (stmt_ok types t
      && (not (open_if t) && (is_statement v && stmt_ok types v))) a.1 in
      let u = and_true (stmt_ok types t) (not (open_if t) && (is_statement v && stmt_ok types v)) b.1 in
      let w = under types (not (open_if t)) v u.1 in
      let l : length s.0 < n = omega (arith, ap length s.4, h) in
      let i = condition_shorter types e _ _ s.5 a.0 in
      let j = stmt_shorter types t _ _ s.6 u.0 in
      let c = condition_complete types n d e s.0 s.1 s.5 a.0 (omega arith) (omega arith) in
      let r = f d s.1 _ u.0 b.0 (omega arith) s.6 (omega arith) (λ o. absurd (differ (open_if t) o (not_true _ w.0))) in
      let x = g d s.2 rest w.2 w.1 (omega arith) s.7 (omega arith) no_else in
      rw (s.4, c, r, x) refl
    where
      differ : (b : Bool) → b ≡ true → b ≡ false → ⊥
      differ b x y = cc

  while_read : (p : Pos) (e : Expr) (t : Stmt) → StmtFact t → StmtFact (while p e t)
  unfolding StmtFact read_stmt stmt_at while_at chain on_some
  while_read p e t f zero ts rest ok st deep s h no_else = absurd (omega arith)
  while_read p e t f (suc d) ts rest ok st deep s h no_else =
      let u = under types (expr_at types 0 e) t ok in
      let l : length s.0 < n = omega (arith, ap length s.2, h) in
      let c = condition_complete types n d e s.0 s.1 s.3 u.0 (omega arith) (omega arith) in
      let r = f d s.1 rest u.2 u.1 (omega arith) s.4 (omega (arith, condition_shorter types e _ _ s.3 u.0)) no_else in
      rw (s.2, c, r) refl

  do_read : (p : Pos) (t : Stmt) (e : Expr) → StmtFact t → StmtFact (do_while p t e)
  unfolding StmtFact read_stmt stmt_at do_at chain on_some
  do_read p t e f zero ts rest ok st deep s h no_else = absurd (omega arith)
  do_read p t e f (suc d) ts rest ok st deep s h no_else =
      let a = and_true (is_statement t) (stmt_ok types t && expr_at types 0 e) ok in
      let b = and_true (stmt_ok types t) (expr_at types 0 e) a.1 in
      let l : length s.0 < n = omega (arith, ap length s.4, h) in
      let r = f d s.0 _ b.0 a.0 (omega arith) s.5 (omega arith) (λ _. refl) in
      let c = condition_complete types n d e s.1 _ s.6 b.1 (omega arith) (omega
      (arith, stmt_shorter types t _ _ s.5 b.0)) in
      rw (s.4, r, c) refl

  for_read : (p : Pos) (a : ForStart) (b c : Option Expr) (t : Stmt) → StmtFact t → StmtFact (for p a b c t)
  unfolding StmtFact read_stmt stmt_at for_at chain on_some
  for_read p a b c t f zero ts rest ok st deep s h no_else = absurd (omega arith)
  for_read p a b c t f (suc d) ts rest ok st deep s h no_else =
      let u = and_true (start_ok types a) (optional_ok types b
      && (optional_ok types c && (is_statement t && stmt_ok types t))) ok in
      let v = and_true (optional_ok types b) (optional_ok types c && (is_statement t && stmt_ok types t)) u.1 in
      let w = under types (optional_ok types c) t v.1 in
      let l : length s.0 < n = omega (arith, ap length s.7, h) in
      let i = start_shorter types a _ _ s.8 u.0 in
      let j = optional_no_longer types b _ _ s.9 v.0 in
      let k = optional_no_longer types c _ _ s.10 w.0 in
      let x = start_complete types n d a s.0 s.1 s.8 u.0 (omega arith) (omega arith) in
      let y = optional_complete types n d puncts.Semicolon b s.5 s.1 s.2 s.9 v.0 (omega arith) (omega arith)
      (ends_at_semicolon s.5 s.2) refl refl in
      let z = optional_complete types n d puncts.RightParen c s.6 s.2 s.3 s.10 w.0 (omega arith) (omega arith)
      (ends_at_paren s.6 s.3) refl refl in
      let r = f d s.3 rest w.2 w.1 (omega arith) s.11 (omega arith) no_else in
      rw (s.7, x, y, z, r) refl

  switch_read : (p : Pos) (e : Expr) (t : Stmt) → StmtFact t → StmtFact (switch p e t)
  unfolding StmtFact read_stmt stmt_at switch_at chain on_some
  switch_read p e t f zero ts rest ok st deep s h no_else = absurd (omega arith)
  switch_read p e t f (suc d) ts rest ok st deep s h no_else =
      let u = under types (expr_at types 0 e) t ok in
      let l : length s.0 < n = omega (arith, ap length s.2, h) in
      let c = condition_complete types n d e s.0 s.1 s.3 u.0 (omega arith) (omega arith) in
      let r = f d s.1 rest u.2 u.1 (omega arith) s.4 (omega (arith, condition_shorter types e _ _ s.3 u.0)) no_else in
      rw (s.2, c, r) refl

  case_read : (p : Pos) (e : Expr) (t : Stmt) → StmtFact t → StmtFact (case p e t)
  unfolding StmtFact read_stmt stmt_at label_or_jump case_at chain on_some
  case_read p e t f zero ts rest ok st deep s h no_else = absurd (omega arith)
  case_read p e t f (suc d) ts rest ok st deep s h no_else =
      let u = under types (expr_at types 2 e) t ok in
      let l : length s.0 < n = omega (arith, ap length s.3, h) in
      let x = expr_complete types n d 2 e s.0 _ s.4 u.0 (omega arith) (omega arith)
      (ends_at_conditional _ (ends_at_colon s.2 s.1)) (omega arith) in
      let r = f d s.1 rest u.2 u.1 (omega arith) s.5 (omega (arith, expr_shorter types 2 e _ _ s.4 u.0)) no_else in
      rw (s.3, x, r) refl

  default_read : (p : Pos) (t : Stmt) → StmtFact t → StmtFact (default p t)
  unfolding StmtFact read_stmt stmt_at label_or_jump default_at chain on_some
  default_read p t f zero ts rest ok st deep s h no_else = absurd (omega arith)
  default_read p t f (suc d) ts rest ok st deep s h no_else =
      let u = and_true (is_statement t) (stmt_ok types t) ok in
      let r = f d s.0 rest u.1 u.0 (omega arith) s.3 (omega (arith, ap length s.2, h)) no_else in
      rw (s.2, r) refl

  label_read : (p : Pos) (w : Name) (t : Stmt) → StmtFact t → StmtFact (label p w t)
  unfolding StmtFact read_stmt stmt_at label_or_jump label_front label_at chain on_some
  label_read p w t f zero ts rest ok st deep s h no_else = absurd (omega arith)
  label_read p w t f (suc d) ts rest ok st deep s h no_else =
      let u = under types (is_word types w) t ok in
      let r = f d s.0 rest u.2 u.1 (omega arith) s.3 (omega (arith, ap length s.2, h)) no_else in
      rw (s.2, plain_word_complete types w p (mark_at puncts.Colon s.1 ∷ s.0) u.0, r) refl

  no_word_at_key : (k : Key) (p : Pos) (ts : List Placed) → plain_word types (key_at k p ∷ ts) ≡ None
  unfolding plain_word chain
  no_word_at_key k p ts = refl

  goto_read : (p q : Pos) (w : Name) → StmtFact (goto p w q)
  unfolding StmtFact read_stmt stmt_at label_or_jump label_front jump_or_expression goto_at chain on_some
  goto_read p q w zero ts rest ok st deep s h no_else = absurd (omega arith)
  goto_read p q w (suc d) ts rest ok st deep s h no_else =
      let none = no_word_at_key keys.Goto p (word_at w q ∷ mark_at puncts.Semicolon s.0 ∷ rest) in
      rw (s.1, none, plain_word_complete types w q (mark_at puncts.Semicolon s.0 ∷ rest) ok) refl

  break_read : (p : Pos) → StmtFact (break p)
  unfolding StmtFact read_stmt stmt_at label_or_jump label_front plain_word jump_or_expression chain on_some
  break_read p zero ts rest ok st deep s h no_else = absurd (omega arith)
  break_read p (suc d) ts rest ok st deep s h no_else = rw s.1 refl

  continue_read : (p : Pos) → StmtFact (continue p)
  unfolding StmtFact read_stmt stmt_at label_or_jump label_front plain_word jump_or_expression chain on_some
  continue_read p zero ts rest ok st deep s h no_else = absurd (omega arith)
  continue_read p (suc d) ts rest ok st deep s h no_else = rw s.1 refl

  return_read : (p : Pos) (e : Option Expr) → StmtFact (return p e)
  unfolding StmtFact read_stmt stmt_at label_or_jump label_front plain_word jump_or_expression return_at chain on_some
  return_read p e zero ts rest ok st deep s h no_else = absurd (omega arith)
  return_read p e (suc d) ts rest ok st deep s h no_else =
      let r = optional_complete types n d puncts.Semicolon e s.1 s.0 rest s.3 ok (omega arith)
      (omega (arith, ap length s.2, h)) (ends_at_semicolon s.1 rest) refl refl in
      rw (s.2, r) refl

  declare_read : (p : Pos) (c : Decl) → ElementFact (declare p c)
  unfolding ElementFact element_at declare_at chain on_some when
  declare_read p c zero ts rest ok deep s h no_else = absurd (omega arith)
  declare_read p c (suc d) ts rest ok deep s h no_else =
      rw (decl_front types n d c ts rest s.1 ok, s.0, decl_complete types n d c ts rest s.1 ok (omega arith) h) refl

  statement_element : (s : Stmt) → is_statement s ≡ true → StmtFact s → ElementFact s
  unfolding StmtFact ElementFact read_stmt element_at on_some when
  statement_element s st f zero ts rest ok deep sp h no_else = f zero ts rest ok st deep sp h no_else
  statement_element s st f (suc d) ts rest ok deep sp h no_else =
      rw (no_decl types s ts rest sp ok st, f (suc d) ts rest ok st deep sp h no_else) refl

  stmts_end : StmtsFact no_stmts
  unfolding StmtsFact stmts_in on_some
  stmts_end d zero q ts rest ok deep s h k = absurd (omega arith)
  stmts_end d (suc k) q ts rest ok deep s h f = rw s refl

  -- what follows a statement of a block is no `else`
  no_else_behind : (ss : Stmts) (q : Pos) (ts rest : List Placed)
      → SpellsStmts ss ts (mark_at puncts.RightBrace q ∷ rest) → stmts_ok types ss ≡ true
      → eat_key keys.Else ts ≡ None
  no_else_behind no_stmts q ts rest s ok = rw s refl
  no_else_behind (stmt_and t ss) q ts rest s ok = (stmt_begins types t ts _ s.1
      (and_true (stmt_ok types t) (stmts_ok types ss) ok).0).no_else

  stmts_and : (t : Stmt) (ss : Stmts) → ElementFact t → StmtsFact ss → StmtsFact (stmt_and t ss)
  unfolding ElementFact StmtsFact stmts_in chain on_some
  stmts_and t ss f g d zero q ts rest ok deep s h k = absurd (omega arith)
  stmts_and t ss f g d (suc k) q ts rest ok deep s h m =
      let o = and_true (stmt_ok types t) (stmts_ok types ss) ok in
      let i = stmt_shorter types t _ _ s.1 o.0 in
      let r = f d ts s.0 o.0 (omega arith) s.1 h (λ _. no_else_behind ss q s.0 rest s.2 o.1) in
      let x = g d k q s.0 rest o.1 (omega arith) s.2 (omega arith) (omega arith) in
      rw ((stmt_begins types t ts _ s.1 o.0).no_close, r, x) refl

  declare_fact : (p : Pos) (c : Decl) → StmtFact (declare p c)
  unfolding StmtFact
  declare_fact p c d ts rest ok st = absurd (cc)

  element_fact : (s : Stmt) → StmtFact s → ElementFact s
  element_fact (block p ss q) f = statement_element (block p ss q) refl f
  element_fact (declare p c) f = declare_read p c
  element_fact (do_expr p e) f = statement_element (do_expr p e) refl f
  element_fact (if_only p e t) f = statement_element (if_only p e t) refl f
  element_fact (if_else p e t u) f = statement_element (if_else p e t u) refl f
  element_fact (while p e t) f = statement_element (while p e t) refl f
  element_fact (do_while p t e) f = statement_element (do_while p t e) refl f
  element_fact (for p a b c t) f = statement_element (for p a b c t) refl f
  element_fact (switch p e t) f = statement_element (switch p e t) refl f
  element_fact (case p e t) f = statement_element (case p e t) refl f
  element_fact (default p t) f = statement_element (default p t) refl f
  element_fact (label p w t) f = statement_element (label p w t) refl f
  element_fact (goto p w q) f = statement_element (goto p w q) refl f
  element_fact (break p) f = statement_element (break p) refl f
  element_fact (continue p) f = statement_element (continue p) refl f
  element_fact (return p e) f = statement_element (return p e) refl f

  mutual
    stmt_fact : (s : Stmt) → StmtFact s
    stmt_fact (block p ss q) = block_read p q ss (stmts_fact ss)
    stmt_fact (declare p c) = declare_fact p c
    stmt_fact (do_expr p None) = nothing_read p
    stmt_fact (do_expr p (Some e)) = expression_read p e
    stmt_fact (if_only p e t) = if_read p e t (stmt_fact t)
    stmt_fact (if_else p e t u) = else_read p e t u (stmt_fact t) (stmt_fact u)
    stmt_fact (while p e t) = while_read p e t (stmt_fact t)
    stmt_fact (do_while p t e) = do_read p t e (stmt_fact t)
    stmt_fact (for p a b c t) = for_read p a b c t (stmt_fact t)
    stmt_fact (switch p e t) = switch_read p e t (stmt_fact t)
    stmt_fact (case p e t) = case_read p e t (stmt_fact t)
    stmt_fact (default p t) = default_read p t (stmt_fact t)
    stmt_fact (label p w t) = label_read p w t (stmt_fact t)
    stmt_fact (goto p w q) = goto_read p q w
    stmt_fact (break p) = break_read p
    stmt_fact (continue p) = continue_read p
    stmt_fact (return p e) = return_read p e

    stmts_fact : (ss : Stmts) → StmtsFact ss
    stmts_fact no_stmts = stmts_end
    stmts_fact (stmt_and t ss) = stmts_and t ss (element_fact t (stmt_fact t)) (stmts_fact ss)

  pub stmt_complete : (s : Stmt) (d : ℕ) (ts rest : List Placed) → stmt_ok types s ≡ true → is_statement s ≡ true
      → stmt_depth s ≤ d → SpellsStmt s ts rest → length ts ≤ n → (open_if s ≡ true → eat_key keys.Else rest ≡ None)
      → read_stmt types n d ts ≡ Some (s, rest)
  unfolding StmtFact
  stmt_complete s = stmt_fact s

  pub element_complete : (s : Stmt) (d : ℕ) (ts rest : List Placed) → stmt_ok types s ≡ true → stmt_depth s ≤ d
      → SpellsStmt s ts rest → length ts ≤ n → (open_if s ≡ true → eat_key keys.Else rest ≡ None)
      → read_element types n d ts ≡ Some (s, rest)
  unfolding ElementFact
  element_complete s = element_fact s (stmt_fact s)
