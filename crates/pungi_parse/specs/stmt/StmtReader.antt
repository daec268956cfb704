-- Reading declarations and statements (C11 6.7 and 6.8). `low` has the readers of expressions, types and parameters in
-- them.
--   table_in awaited ts    tokens up to the brace that closes the table, where these brackets are awaited in it
--   init_at, var_at, more_vars, vars_at    a first value with its `=`, a variable, further ones, and all up to the
--                                          semicolon, which is read
--   decl_at            a declaration
--   optional m ts      an expression, where it is there, and the punctuator `m` after it
--   condition          an expression in parentheses
--   stmts_in, block_at statements up to the brace, which stays, and a block after its brace
--   if_at, while_at, do_at, start_at, for_at, switch_at, case_at, default_at, goto_at, label_front, label_at
--   statements after their keyword
--   stmt_at            a statement, which is no declaration
--   read_stmt          the same, where it has at most `d` nodes on a path
--   read_element       a statement or a declaration
use Rattle.std.specs.Prelude.{ℕ, zero, suc, Bool, true, false, List, [], ◌∷◌, length, Option, Some, None, if◌then◌else◌}
use Rattle.pungi_base.specs.declared.key.Key.TheVariants as keys
use Rattle.pungi_base.specs.declared.names.Name.{Name}
use Rattle.pungi_base.specs.declared.pos.Pos.{Pos}
use Rattle.pungi_base.specs.declared.punct.Punct.{Punct}
use Rattle.pungi_base.specs.declared.punct.Punct.TheVariants as puncts
use Rattle.pungi_parse.specs.tokens.OneToken.{eat, eat_key}
use Rattle.pungi_parse.specs.Reading.{Read, ◌>>=◌, chain, on_some, when, unless}
use Rattle.pungi_parse.specs.Readers.{readers}
use Rattle.pungi_parse.specs.types.TypeReader.{Lower, keywords, plain_word, begins_decl, declr_at}
use Rattle.pungi_tree.specs.Balanced.{awaited_after}
use Rattle.pungi_tree.specs.Operators.{is_qualifier}
use Rattle.pungi_tree.specs.Placed.{Placed, first_place}
use Rattle.pungi_tree.specs.Syntax.{Expr, Init, value, table, VarDecl, var_decl, Decl, decl, ForStart, start_decl}
use Rattle.pungi_tree.specs.Syntax.{start_expr, Stmt, block, declare, do_expr, if_only, if_else, while, do_while, for}
use Rattle.pungi_tree.specs.Syntax.{switch, case, default, label, goto, break, continue, return, Stmts, no_stmts}
use Rattle.pungi_tree.specs.Syntax.{stmt_and}

unfoldable pub table_in : List Punct → List Placed → Read (List Placed)
table_in awaited [] = None
table_in (m ∷ ms) (t ∷ ts) =
    awaited_after t.0 (m ∷ ms) >>= λ after. table_in after ts >>= λ more. Some (t ∷ more.0, more.1)
table_in [] (t ∷ ts) =
    on_some (eat puncts.RightBrace (t ∷ ts))
    (λ c. Some ([], c.1))
    (awaited_after t.0 [] >>= λ after. table_in after ts >>= λ more. Some (t ∷ more.0, more.1))

module _ (types : List Name) (low : Lower) where
  unfoldable pub first_value : List Placed → Read Init
  first_value ts =
      on_some (eat puncts.LeftBrace ts)
      (λ o. table_in [] o.1 >>= λ ks. Some (table ks.0, ks.1))
      (low.expr 1 ts >>= λ e. Some (value e.0, e.1))

  unfoldable pub init_at : List Placed → Read (Option Init)
  init_at ts = on_some (eat puncts.Assign ts) (λ a. first_value a.1 >>= λ i. Some (Some i.0, i.1)) (Some (None, ts))

  unfoldable pub var_at : List Placed → Read VarDecl
  var_at ts = declr_at types low ts >>= λ d. init_at d.1 >>= λ i. Some (var_decl d.0 i.0, i.1)

  unfoldable pub more_vars : ℕ → List Placed → Read (List VarDecl)
  more_vars zero ts = None
  more_vars (suc k) ts =
      on_some (eat puncts.Comma ts)
      (λ c. var_at c.1 >>= λ v. more_vars k v.1 >>= λ vs. Some (v.0 ∷ vs.0, vs.1))
      (Some ([], ts))

  unfoldable pub vars_at : List Placed → Read (List VarDecl)
  vars_at ts =
      var_at ts >>= λ v. more_vars (suc (length v.1)) v.1 >>= λ vs. eat puncts.Semicolon vs.1 >>= λ c. Some
      (v.0 ∷ vs.0, c.1)

  unfoldable pub decl_at : List Placed → Read Decl
  decl_at ts = let q = keywords is_qualifier ts in low.spec q.1 >>= λ s. vars_at s.1 >>= λ vs. Some
      (decl q.0 s.0 vs.0, vs.1)

  unfoldable pub optional : Punct → List Placed → Read (Option Expr)
  optional m ts =
      on_some (eat m ts) (λ c. Some (None, c.1)) (low.expr 0 ts >>= λ e. eat m e.1 >>= λ c. Some (Some e.0, c.1))

  unfoldable pub condition : List Placed → Read Expr
  condition ts = eat puncts.LeftParen ts >>= λ o. low.expr 0 o.1 >>= λ e. eat puncts.RightParen e.1 >>= λ c. Some
      (e.0, c.1)

  unfoldable pub declare_at : List Placed → Read Stmt
  declare_at ts = first_place ts >>= λ p. decl_at ts >>= λ d. Some (declare p d.0, d.1)

  unfoldable pub start_at : List Placed → Read ForStart
  start_at ts =
      on_some (when (begins_decl types ts) (Some ts))
      (λ us. decl_at us >>= λ d. Some (start_decl d.0, d.1))
      (optional puncts.Semicolon ts >>= λ e. Some (start_expr e.0, e.1))

  unfoldable pub expression_at : List Placed → Read Stmt
  expression_at ts = first_place ts >>= λ p. optional puncts.Semicolon ts >>= λ e. Some (do_expr p e.0, e.1)

  unfoldable pub label_front : List Placed → Option (Name × Pos × List Placed)
  label_front ts = plain_word types ts >>= λ w. eat puncts.Colon w.2 >>= λ c. Some (w.0, w.1, c.1)

  unfoldable pub goto_at : Pos → List Placed → Read Stmt
  goto_at p ts = plain_word types ts >>= λ w. eat puncts.Semicolon w.2 >>= λ c. Some (goto p w.0 w.1, c.1)

  unfoldable pub return_at : Pos → List Placed → Read Stmt
  return_at p ts = optional puncts.Semicolon ts >>= λ e. Some (return p e.0, e.1)

  -- `stmt` reads the statements in it, and `element` what stands in a block
  module _ (stmt element : List Placed → Read Stmt) where
    unfoldable pub stmts_in : ℕ → List Placed → Read Stmts
    stmts_in zero ts = None
    stmts_in (suc k) ts =
        on_some (eat puncts.RightBrace ts)
        (λ c. Some (no_stmts, ts))
        (element ts >>= λ s. stmts_in k s.1 >>= λ ss. Some (stmt_and s.0 ss.0, ss.1))

    unfoldable pub block_at : Pos → List Placed → Read Stmt
    block_at p ts = stmts_in (suc (length ts)) ts >>= λ ss. eat puncts.RightBrace ss.1 >>= λ c. Some
        (block p ss.0 c.0, c.1)

    unfoldable pub if_at : Pos → List Placed → Read Stmt
    if_at p ts =
        condition ts >>= λ e. stmt e.1 >>= λ s.
        on_some (eat_key keys.Else s.1) (λ k. stmt k.1 >>= λ t. Some (if_else p e.0 s.0 t.0, t.1))
        (Some (if_only p e.0 s.0, s.1))

    unfoldable pub while_at : Pos → List Placed → Read Stmt
    while_at p ts = condition ts >>= λ e. stmt e.1 >>= λ s. Some (while p e.0 s.0, s.1)

    unfoldable pub do_at : Pos → List Placed → Read Stmt
    do_at p ts =
        stmt ts >>= λ s. eat_key keys.While s.1 >>= λ k. condition k.1 >>= λ e. eat puncts.Semicolon e.1 >>= λ c.
        Some (do_while p s.0 e.0, c.1)

    unfoldable pub for_at : Pos → List Placed → Read Stmt
    for_at p ts =
        eat puncts.LeftParen ts >>= λ o. start_at o.1 >>= λ a. optional puncts.Semicolon a.1 >>= λ b. optional
        puncts.RightParen b.1 >>= λ c.
        stmt c.1 >>= λ s. Some (for p a.0 b.0 c.0 s.0, s.1)

    unfoldable pub switch_at : Pos → List Placed → Read Stmt
    switch_at p ts = condition ts >>= λ e. stmt e.1 >>= λ s. Some (switch p e.0 s.0, s.1)

    unfoldable pub case_at : Pos → List Placed → Read Stmt
    case_at p ts = low.expr 2 ts >>= λ e. eat puncts.Colon e.1 >>= λ c. stmt c.1 >>= λ s. Some (case p e.0 s.0, s.1)

    unfoldable pub default_at : Pos → List Placed → Read Stmt
    default_at p ts = eat puncts.Colon ts >>= λ c. stmt c.1 >>= λ s. Some (default p s.0, s.1)

    unfoldable pub label_at : Pos → Name → List Placed → Read Stmt
    label_at p n ts = stmt ts >>= λ s. Some (label p n s.0, s.1)

    -- the statements that hold no other one, after their keyword
    unfoldable pub jump_or_expression : List Placed → Read Stmt
    jump_or_expression ts =
        on_some (eat_key keys.Goto ts) (λ k. goto_at k.0 k.1)
        (on_some (eat_key keys.Break ts) (λ k. eat puncts.Semicolon k.1 >>= λ c. Some (break k.0, c.1))
        (on_some (eat_key keys.Continue ts) (λ k. eat puncts.Semicolon k.1 >>= λ c. Some (continue k.0, c.1))
        (on_some (eat_key keys.Return ts) (λ k. return_at k.0 k.1) (expression_at ts))))

    unfoldable pub label_or_jump : List Placed → Read Stmt
    label_or_jump ts =
        on_some (eat_key keys.Case ts) (λ k. case_at k.0 k.1)
        (on_some (eat_key keys.Default ts) (λ k. default_at k.0 k.1)
        (on_some (label_front ts) (λ w. label_at w.1 w.0 w.2) (jump_or_expression ts)))

    unfoldable pub stmt_at : List Placed → Read Stmt
    stmt_at ts =
        on_some (eat puncts.LeftBrace ts) (λ o. block_at o.0 o.1)
        (on_some (eat_key keys.If ts) (λ k. if_at k.0 k.1)
        (on_some (eat_key keys.While ts) (λ k. while_at k.0 k.1)
        (on_some (eat_key keys.Do ts) (λ k. do_at k.0 k.1)
        (on_some (eat_key keys.For ts) (λ k. for_at k.0 k.1)
        (on_some (eat_key keys.Switch ts) (λ k. switch_at k.0 k.1) (label_or_jump ts))))))

-- `stmt` reads a statement with at most `d` nodes on a path
unfoldable pub element_at : List Name → ℕ → (List Placed → Read Stmt) → ℕ → List Placed → Read Stmt
element_at types n stmt zero ts = None
element_at types n stmt (suc d) ts =
    on_some (when (begins_decl types ts) (Some ts)) (λ us. declare_at types (readers types n d) us) (stmt ts)

unfoldable pub read_stmt : List Name → ℕ → ℕ → List Placed → Read Stmt
read_stmt types n zero ts = None
read_stmt types n (suc d) ts =
    stmt_at types (readers types n d) (read_stmt types n d) (element_at types n (read_stmt types n d) d) ts

abbrev pub read_element : List Name → ℕ → ℕ → List Placed → Read Stmt
read_element types n d ts = element_at types n (read_stmt types n d) d ts
