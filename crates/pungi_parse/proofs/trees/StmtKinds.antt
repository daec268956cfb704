-- What stands at the front of tokens has the kinds that the tree lists, and then come those of the rest: declarations,
-- statements, items and files.
use Rattle.std.proofs.Common.{◌≡◌, List, [], ◌∷◌, ◌++◌, Option, Some, None, refl, sym, ◌∙◌, ap, append_assoc}
use Rattle.std.proofs.lemmas.List.{append-nil}
use Rattle.pungi_base.specs.declared.kind.Kind.{Kind}
use Rattle.pungi_tree.specs.Placed.{Placed, kinds}
use Rattle.pungi_tree.specs.StmtFlat.{optional_flat, init_flat, var_decl_flat, vars_flat, more_vars_flat, decl_flat}
use Rattle.pungi_tree.specs.StmtFlat.{for_start_flat, stmt_flat, stmts_flat}
use Rattle.pungi_tree.specs.StmtSpells.{SpellsInit, SpellsVar, SpellsVars, SpellsMoreVars, SpellsDecl, SpellsOptional}
use Rattle.pungi_tree.specs.StmtSpells.{SpellsStart, SpellsStmt, SpellsStmts}
use Rattle.pungi_tree.specs.Syntax.{Expr, Init, value, table, VarDecl, var_decl, Decl, decl, ForStart, start_decl}
use Rattle.pungi_tree.specs.Syntax.{start_expr, Stmt, block, declare, do_expr, if_only, if_else, while, do_while, for}
use Rattle.pungi_tree.specs.Syntax.{switch, case, default, label, goto, break, continue, return, Stmts, no_stmts}
use Rattle.pungi_tree.specs.Syntax.{stmt_and, Head, head, Item, nothing, doc, typedef, tag, variables, prototype}
use Rattle.pungi_tree.specs.Syntax.{function_def}
use Rattle.pungi_tree.specs.UnitFlat.{signature_flat, item_flat, items_flat}
use Rattle.pungi_tree.specs.UnitSpells.{SpellsHead, SpellsItem, SpellsItems}
use Rattle.pungi_parse.proofs.trees.ExprKinds.{expr_kinds, spec_kinds, declr_kinds, params_kinds, keys_kinds}
use Rattle.pungi_parse.proofs.trees.ExprKinds.{stars_kinds, texts_kinds}

pub kinds_append : (ks ts : List Placed) → kinds (ks ++ ts) ≡ kinds ks ++ kinds ts
kinds_append [] ts = refl
kinds_append (k ∷ ks) ts = ap (λ z. k.0 ∷ z) (kinds_append ks ts)

optional_kinds : (e : Option Expr) (ts rest : List Placed) → SpellsOptional e ts rest
    → kinds ts ≡ optional_flat e ++ kinds rest
optional_kinds None ts rest s = rw s refl
optional_kinds (Some e) ts rest s = expr_kinds e _ _ s

init_kinds : (i : Option Init) (ts rest : List Placed) → SpellsInit i ts rest → kinds ts ≡ init_flat i ++ kinds rest
init_kinds None ts rest s = rw s refl
init_kinds (Some (value e)) ts rest s = rw (s.2, expr_kinds e _ _ s.3) refl
init_kinds (Some (table ks)) ts rest s = rw (s.3, kinds_append ks _) (simp append_assoc)

var_kinds : (v : VarDecl) (ts rest : List Placed) → SpellsVar v ts rest → kinds ts ≡ var_decl_flat v ++ kinds rest
var_kinds (var_decl d i) ts rest s = rw (declr_kinds d _ _ s.1, init_kinds i _ _ s.2) (simp append_assoc)

more_vars_kinds : (vs : List VarDecl) (ts rest : List Placed) → SpellsMoreVars vs ts rest
    → kinds ts ≡ more_vars_flat vs ++ kinds rest
more_vars_kinds [] ts rest s = rw s refl
more_vars_kinds (v ∷ vs) ts rest s = rw (s.3, var_kinds v _ _ s.4, more_vars_kinds vs _ _ s.5) (simp append_assoc)

vars_kinds : (vs : List VarDecl) (ts rest : List Placed) → SpellsVars vs ts rest → kinds ts ≡ vars_flat vs ++ kinds rest
vars_kinds [] ts rest s = rw s refl
vars_kinds (v ∷ vs) ts rest s = rw (var_kinds v _ _ s.1, more_vars_kinds vs _ _ s.2) (simp append_assoc)

pub decl_kinds : (d : Decl) (ts rest : List Placed) → SpellsDecl d ts rest → kinds ts ≡ decl_flat d ++ kinds rest
decl_kinds (decl qs b vs) ts rest s =
    rw (keys_kinds qs _ _ s.3, spec_kinds b _ _ s.4, vars_kinds vs _ _ s.5) (simp append_assoc)

start_kinds : (a : ForStart) (ts rest : List Placed) → SpellsStart a ts rest → kinds ts ≡ for_start_flat a ++ kinds rest
start_kinds (start_decl d) ts rest s = decl_kinds d _ _ s
start_kinds (start_expr e) ts rest s = rw (optional_kinds e _ _ s.1) (simp append_assoc)

mutual
  pub stmt_kinds : (s : Stmt) (ts rest : List Placed) → SpellsStmt s ts rest → kinds ts ≡ stmt_flat s ++ kinds rest
  stmt_kinds (block p ss q) ts rest h = rw (h.1, stmts_kinds ss _ _ h.2) (simp append_assoc)
  stmt_kinds (declare p d) ts rest h = decl_kinds d _ _ h.1
  stmt_kinds (do_expr p e) ts rest h = rw (optional_kinds e _ _ h.2) (simp append_assoc)
  stmt_kinds (if_only p e s) ts rest h = rw (h.2, h.3.3, expr_kinds e _ _ h.3.4, stmt_kinds s _ _ h.4)
      (simp append_assoc)
  stmt_kinds (if_else p e s t) ts rest h = rw (
    h.4,
    h.5.3,
    expr_kinds e _ _ h.5.4,
    stmt_kinds s _ _ h.6,
    stmt_kinds
        t _ _ h.7,
  ) (simp append_assoc)
  stmt_kinds (while p e s) ts rest h = rw (h.2, h.3.3, expr_kinds e _ _ h.3.4, stmt_kinds s _ _ h.4) (simp append_assoc)
  stmt_kinds (do_while p s e) ts rest h = rw (h.4, stmt_kinds s _ _ h.5, h.6.3, expr_kinds e _ _ h.6.4)
      (simp append_assoc)
  stmt_kinds (for p a b c s) ts rest h =
      rw (h.7, start_kinds a _ _ h.8, optional_kinds b _ _ h.9, optional_kinds c _ _ h.10, stmt_kinds s _ _ h.11)
      (simp append_assoc)
  stmt_kinds (switch p e s) ts rest h = rw (h.2, h.3.3, expr_kinds e _ _ h.3.4, stmt_kinds s _ _ h.4)
      (simp append_assoc)
  stmt_kinds (case p e s) ts rest h = rw (h.3, expr_kinds e _ _ h.4, stmt_kinds s _ _ h.5) (simp append_assoc)
  stmt_kinds (default p s) ts rest h = rw (h.2, stmt_kinds s _ _ h.3) refl
  stmt_kinds (label p n s) ts rest h = rw (h.2, stmt_kinds s _ _ h.3) refl
  stmt_kinds (goto p n q) ts rest h = rw h.1 refl
  stmt_kinds (break p) ts rest h = rw h.1 refl
  stmt_kinds (continue p) ts rest h = rw h.1 refl
  stmt_kinds (return p e) ts rest h = rw (h.2, optional_kinds e _ _ h.3) (simp append_assoc)

  stmts_kinds : (ss : Stmts) (ts rest : List Placed) → SpellsStmts ss ts rest → kinds ts ≡ stmts_flat ss ++ kinds rest
  stmts_kinds no_stmts ts rest h = rw h refl
  stmts_kinds (stmt_and s ss) ts rest h = rw (stmt_kinds s _ _ h.1, stmts_kinds ss _ _ h.2) (simp append_assoc)

abbrev head_flat : Head → List Kind
head_flat (head qs b ns n p ps) = signature_flat qs b ns n ps

head_kinds : (h : Head) (ts rest : List Placed) → SpellsHead h ts rest → kinds ts ≡ head_flat h ++ kinds rest
head_kinds (head qs b ns n p ps) ts rest s =
    rw (keys_kinds qs _ _ s.5, spec_kinds b _ _ s.6, stars_kinds ns _ _ s.7, params_kinds ps _ _ s.8)
    (simp append_assoc)

pub item_kinds : (i : Item) (ts rest : List Placed) → SpellsItem i ts rest → kinds ts ≡ item_flat i ++ kinds rest
item_kinds (nothing p) ts rest s = rw s refl
item_kinds (doc p n ns) ts rest s = rw (s.5, texts_kinds ns _ _ s.6) (simp append_assoc)
item_kinds (typedef b ns n p) ts rest s = rw (s.4, spec_kinds b _ _ s.5, stars_kinds ns _ _ s.6) (simp append_assoc)
item_kinds (tag qs b) ts rest s = rw (keys_kinds qs _ _ s.2, spec_kinds b _ _ s.3) (simp append_assoc)
item_kinds (variables d) ts rest s = decl_kinds d _ _ s
item_kinds (prototype (head qs b ns n p ps)) ts rest s =
    rw (head_kinds (head qs b ns n p ps) _ _ s.1) (simp append_assoc)
item_kinds (function_def (head qs b ns n p ps) body) ts rest s =
    rw (head_kinds (head qs b ns n p ps) _ _ s.1, stmt_kinds body _ _ s.2) (simp append_assoc)

pub items_kinds : (items : List Item) (ts rest : List Placed) → SpellsItems items ts rest
    → kinds ts ≡ items_flat items ++ kinds rest
items_kinds [] ts rest s = rw s refl
items_kinds (i ∷ items) ts rest s = rw (item_kinds i _ _ s.1, items_kinds items _ _ s.2) (simp append_assoc)

-- the tokens of a file are those of its items
pub unit_kinds : (items : List Item) (ts : List Placed) → SpellsItems items ts [] → items_flat items ≡ kinds ts
unit_kinds items ts s = sym (items_kinds items ts [] s ∙ append-nil (items_flat items))
