-- An item that stands at the front of the tokens is read, whatever follows it.
--   HeadBegins ts     the tokens after a type, where a declarator begins
--   item_complete     the item is what is read
--   item_shorter      fewer tokens are left than there were
use Rattle.std.proofs.Common.{◌≡◌, ℕ, ◌<◌, ◌≤◌, max, true, false, List, [], ◌∷◌, length, Option, Some, None, refl, sym}
use Rattle.std.proofs.Common.{◌∙◌, ap, subst, arith}
use Rattle.std.specs.Prelude.{◌&&◌, not}
use Rattle.pungi_base.specs.declared.key.Key.{Key}
use Rattle.pungi_base.specs.declared.names.Name.{Name}
use Rattle.pungi_base.specs.declared.pos.Pos.{Pos}
use Rattle.pungi_base.specs.declared.punct.Punct.TheVariants as puncts
use Rattle.pungi_base.specs.Numbers.{py_doc_strvar}
use Rattle.pungi_parse.specs.tokens.OneToken.{eat}
use Rattle.pungi_parse.specs.Reading.{chain, on_some, when, unless}
use Rattle.pungi_parse.specs.types.TypeReader.{plain_word}
use Rattle.pungi_parse.specs.item.UnitReader.{deepest, doc_front, doc_at, typedef_at, head_front, function_rest}
use Rattle.pungi_parse.specs.item.UnitReader.{declared_at, declaration_at, item_at}
use Rattle.pungi_parse.proofs.stmt.DeclComplete.{not_both, vars_complete}
use Rattle.pungi_parse.proofs.stmt.DeclFronts.{VarEnds, decl_shorter, var_begins, more_vars_end}
use Rattle.pungi_parse.proofs.tokens.Ends.{SpecEnds, StarsEnd}
use Rattle.pungi_parse.proofs.stmt.StmtBegins.{stmt_shorter}
use Rattle.pungi_parse.proofs.stmt.StmtComplete.{stmt_complete}
use Rattle.pungi_parse.proofs.Tools.{and_true, not_true}
use Rattle.pungi_parse.proofs.expr.TypeExprTheorems.{spec_begins, decl_begins, spec_shorter, params_no_longer}
use Rattle.pungi_parse.proofs.expr.TypeExprTheorems.{spec_complete, params_complete}
use Rattle.pungi_parse.proofs.tokens.WordReadings.{keywords_complete, stars_complete, texts_complete}
use Rattle.pungi_parse.proofs.tokens.WordReadings.{plain_word_complete, keys_no_longer, stars_no_longer}
use Rattle.pungi_parse.proofs.tokens.WordReadings.{texts_no_longer}
use Rattle.pungi_tree.specs.ExprDepth.{spec_depth, params_depth}
use Rattle.pungi_tree.specs.ExprLevels.{is_empty, spec_ok, params_ok, declr_ok, sizes_ok}
use Rattle.pungi_tree.specs.ExprSpells.{SpellsKeys, SpellsSpec, SpellsStars, SpellsSizes, SpellsDeclr, SpellsParams}
use Rattle.pungi_tree.specs.Operators.{is_qualifier, all_keys}
use Rattle.pungi_tree.specs.Placed.{Placed, mark_at, word_at}
use Rattle.pungi_tree.specs.StmtDepth.{stmt_depth}
use Rattle.pungi_tree.specs.StmtLevels.{is_statement, open_if, init_ok, var_ok, vars_ok, stmt_ok}
use Rattle.pungi_tree.specs.StmtSpells.{SpellsInit, SpellsVar, SpellsStmt}
use Rattle.pungi_tree.specs.Syntax.{Spec, Params, Declr, declr, Sizes, no_sizes, open_and, size_and, sizes, function}
use Rattle.pungi_tree.specs.Syntax.{Init, value, table, VarDecl, var_decl, decl, Stmt, block, declare, do_expr, if_only}
use Rattle.pungi_tree.specs.Syntax.{if_else, while, do_while, for, switch, case, default, label, goto, break, continue}
use Rattle.pungi_tree.specs.Syntax.{return, head, Item, nothing, doc, typedef, tag, variables, prototype, function_def}
use Rattle.pungi_tree.specs.Tokens.{named_word}
use Rattle.pungi_tree.specs.TypeWords.{is_word}
use Rattle.pungi_tree.specs.UnitDepth.{item_depth}
use Rattle.pungi_tree.specs.UnitLevels.{is_block, signature_ok, item_ok}
use Rattle.pungi_tree.specs.UnitSpells.{SpellsHead, SpellsItem}

pub record HeadBegins (ts : List Placed) : Type 0 where
  pub ends : SpecEnds ts
  pub no_end : eat puncts.Semicolon ts ≡ None

stars_and_word : (ss : List ℕ) (w : Name) (p : Pos) (ts rest : List Placed) → SpellsStars ss ts (word_at w p ∷ rest)
    → HeadBegins ts
stars_and_word [] w p ts rest s =
    rw s (record { ends = record { no_const = refl; no_base_word = refl; no_brace = refl }; no_end = refl })
stars_and_word (k ∷ ks) w p ts rest s =
    rw s.3 (record { ends = record { no_const = refl; no_base_word = refl; no_brace = refl }; no_end = refl })

word_ends_stars : (w : Name) (p : Pos) (rest : List Placed) → StarsEnd (word_at w p ∷ rest)
word_ends_stars w p rest = record { no_star = refl; no_const = refl }

paren_ends_stars : (p : Pos) (rest : List Placed) → StarsEnd (mark_at puncts.LeftParen p ∷ rest)
paren_ends_stars p rest = record { no_star = refl; no_const = refl }

declr_no_end : (c : Declr) (ts rest : List Placed) → SpellsDeclr c ts rest → eat puncts.Semicolon ts ≡ None
declr_no_end (declr (k ∷ ks) n p t) ts rest s = rw s.1.3 refl
declr_no_end (declr [] n p (sizes ss)) ts rest s = rw (s.1, s.2.1) refl
declr_no_end (declr [] n p (function ps)) ts rest s = rw (s.1, s.2.6) refl

-- after the name of a variable comes no parenthesis
init_no_call : (i : Option Init) (ts rest : List Placed) → SpellsInit i ts rest → VarEnds rest
    → eat puncts.LeftParen ts ≡ None
init_no_call None ts rest s e = rw s e.ends.no_postfix.no_call
init_no_call (Some (value e)) ts rest s _ = rw s.2 refl
init_no_call (Some (table ks)) ts rest s _ = rw s.3 refl

sizes_no_call : (ss : Sizes) (ts rest : List Placed) → SpellsSizes ss ts rest → eat puncts.LeftParen rest ≡ None
    → eat puncts.LeftParen ts ≡ None
sizes_no_call no_sizes ts rest s e = rw s e
sizes_no_call (open_and ss) ts rest s e = rw s.3 refl
sizes_no_call (size_and x ss) ts rest s e = rw s.4 refl

-- a block begins with its brace
record BlockBegins (s : Stmt) (ts : List Placed) : Type 0 where
  pub place : Pos
  pub inner : List Placed
  pub brace : eat puncts.LeftBrace ts ≡ Some (place, inner)
  pub no_end : eat puncts.Semicolon ts ≡ None
  pub statement : is_statement s ≡ true
  pub no_if : open_if s ≡ false

block_begins : (s : Stmt) (ts rest : List Placed) → SpellsStmt s ts rest → is_block s ≡ true → BlockBegins s ts
block_begins (block p ss q) ts rest s h =
    record { place = p; inner = s.0; brace = rw s.1 refl; no_end = rw s.1 refl; statement = refl; no_if = refl }
block_begins (declare p c) ts rest s h = absurd (cc)
block_begins (do_expr p e) ts rest s h = absurd (cc)
block_begins (if_only p e t) ts rest s h = absurd (cc)
block_begins (if_else p e t u) ts rest s h = absurd (cc)
block_begins (while p e t) ts rest s h = absurd (cc)
block_begins (do_while p t e) ts rest s h = absurd (cc)
block_begins (for p a b c t) ts rest s h = absurd (cc)
block_begins (switch p e t) ts rest s h = absurd (cc)
block_begins (case p e t) ts rest s h = absurd (cc)
block_begins (default p t) ts rest s h = absurd (cc)
block_begins (label p n t) ts rest s h = absurd (cc)
block_begins (goto p n q) ts rest s h = absurd (cc)
block_begins (break p) ts rest s h = absurd (cc)
block_begins (continue p) ts rest s h = absurd (cc)
block_begins (return p e) ts rest s h = absurd (cc)

module _ (types : List Name) where
  params_allowed : (qs : List Key) (b : Spec) (w : Name) (ps : Params) → signature_ok types qs b w ps ≡ true
      → params_ok types ps ≡ true
  params_allowed qs b w ps ok =
      let a = and_true (all_keys is_qualifier qs) (spec_ok types b && (is_word types w && params_ok types ps)) ok in
      let c = and_true (spec_ok types b) (is_word types w && params_ok types ps) a.1 in
      (and_true (is_word types w) (params_ok types ps) c.1).1

  -- a declarator of a variable is no head of a function
  declr_no_head : (c : Declr) (ts rest : List Placed) → SpellsDeclr c ts rest → eat puncts.LeftParen rest ≡ None
      → declr_ok types c ≡ true → head_front types ts ≡ None
  unfolding head_front plain_word chain
  declr_no_head (declr ss w p (function ps)) ts rest s e ok =
      let at : SpellsStars ss ts _ = subst (λ z. SpellsStars ss ts z) s.2.6 s.1 in
      rw (stars_complete ss ts _ at (paren_ends_stars s.2.1 _)) refl
  declr_no_head (declr ss w p (sizes k)) ts rest s e ok =
      let at : SpellsStars ss ts (word_at w p ∷ s.2.0) = subst (λ z. SpellsStars ss ts z) s.2.1 s.1 in
      let word = plain_word_complete types w p s.2.0 (and_true (is_word types w) (sizes_ok types k) ok).0 in
      rw (stars_complete ss ts _ at (word_ends_stars w p s.2.0), word, sizes_no_call k _ _ s.2.2 e) refl

  var_no_head : (v : VarDecl) (ts rest : List Placed) → SpellsVar v ts rest → VarEnds rest → var_ok types v ≡ true
      → head_front types ts ≡ None
  var_no_head (var_decl c i) ts rest s e ok =
      declr_no_head c ts s.0 s.1 (init_no_call i s.0 rest s.2 e) (and_true (declr_ok types c) (init_ok types i) ok).0

  var_no_end : (v : VarDecl) (ts rest : List Placed) → SpellsVar v ts rest → eat puncts.Semicolon ts ≡ None
  var_no_end (var_decl c i) ts rest s = declr_no_end c ts s.0 s.1

  head_complete : (ss : List ℕ) (w : Name) (p q : Pos) (ts inner : List Placed)
      → SpellsStars ss ts (word_at w p ∷ mark_at puncts.LeftParen q ∷ inner) → is_word types w ≡ true
      → head_front types ts ≡ Some (ss, w, p, inner)
  unfolding head_front chain
  head_complete ss w p q ts inner s ok = rw (
    stars_complete ss ts _ s (word_ends_stars w p _),
    plain_word_complete
        types w p (mark_at puncts.LeftParen q ∷ inner) ok,
  ) refl

  module _ (n : ℕ) where
    -- qualifiers and a type come first, and then what is declared
    declaration_begins : (qs : List Key) (b : Spec) (ts after pointers : List Placed) → SpellsKeys qs ts after
        → all_keys is_qualifier qs ≡ true → SpellsSpec b after pointers → spec_ok types b ≡ true
        → spec_depth b ≤ deepest → length ts ≤ n → SpecEnds pointers
        → item_at types n ts ≡ declared_at types n qs b pointers
    unfolding item_at declaration_at doc_front chain on_some
    declaration_begins qs b ts after pointers k q s ok deep h e =
        let d = decl_begins types qs b ts after pointers k q s ok in
        let r = keywords_complete is_qualifier qs ts after k q (spec_begins types b after pointers s ok).no_qualifier in
        let x = spec_complete types n deepest b after pointers s ok deep (omega (arith, keys_no_longer qs _ _ k)) e in
        rw (d.no_mark puncts.Semicolon, d.no_plain_word, d.no_typedef, r, x) refl

    typedef_read : (b : Spec) (ss : List ℕ) (w : Name) (p : Pos) (ts rest : List Placed)
        → SpellsItem (typedef b ss w p) ts rest → spec_ok types b ≡ true → spec_depth b ≤ deepest → length ts ≤ n
        → item_at types n ts ≡ Some (typedef b ss w p, rest)
    unfolding item_at doc_front plain_word typedef_at chain on_some
    typedef_read b ss w p ts rest s ok deep h =
        let x = spec_complete types n deepest b s.0 s.1 s.5 ok deep (omega (arith, ap length s.4, h))
        (stars_and_word ss w p s.1 _ s.6).ends in
        let y = stars_complete ss s.1 _ s.6 (word_ends_stars w p _) in
        rw (s.4, x, y) refl

    doc_read : (p : Pos) (w : Name) (ns : List Name) (ts rest : List Placed) → SpellsItem (doc p w ns) ts rest
        → item_ok types (doc p w ns) ≡ true → item_at types n ts ≡ Some (doc p w ns, rest)
    unfolding item_at doc_front doc_at chain on_some when unless
    doc_read p w ns ts rest s ok =
        let a = and_true (is_word types (named_word py_doc_strvar)) (is_word types w && not (is_empty ns)) ok in
        let b = and_true (is_word types w) (not (is_empty ns)) a.1 in
        let x = plain_word_complete types (named_word py_doc_strvar) s.1 (mark_at puncts.LeftParen s.2 ∷ word_at w p
        ∷ mark_at puncts.Comma s.3 ∷ s.0) a.0 in
        let y = plain_word_complete types w p (mark_at puncts.Comma s.3 ∷ s.0) b.0 in
        let z = texts_complete ns s.0 (mark_at puncts.RightParen s.4 ∷ rest) s.6 refl in
        rw (s.5, x, y, z, not_true _ b.1) refl

    tag_read : (qs : List Key) (b : Spec) (ts rest : List Placed) → SpellsItem (tag qs b) ts rest
        → item_ok types (tag qs b) ≡ true → item_depth (tag qs b) ≤ deepest → length ts ≤ n
        → item_at types n ts ≡ Some (tag qs b, rest)
    unfolding declared_at on_some
    tag_read qs b ts rest s ok deep h =
        let a = and_true (all_keys is_qualifier qs) (spec_ok types b) ok in
        rw (declaration_begins qs b ts s.0 _ s.2 a.0 s.3 a.1 deep h (record {
          no_const = refl;
          no_base_word = refl;
          no_brace = refl;
        })) refl

    variables_read : (qs : List Key) (b : Spec) (vs : List VarDecl) (ts rest : List Placed)
        → SpellsItem (variables (decl qs b vs)) ts rest → item_ok types (variables (decl qs b vs)) ≡ true
        → item_depth (variables (decl qs b vs)) ≤ deepest → length ts ≤ n
        → item_at types n ts ≡ Some (variables (decl qs b vs), rest)
    unfolding declared_at chain on_some
    variables_read qs b [] ts rest s ok deep h =
        let a = and_true (all_keys is_qualifier qs) (spec_ok types b && false) ok in
        absurd (not_both (and_true (spec_ok types b) false a.1).1)
    variables_read qs b (v ∷ vs) ts rest s ok deep h =
        let a = and_true (all_keys is_qualifier qs) (spec_ok types b && (var_ok types v && vars_ok types vs)) ok in
        let c = and_true (spec_ok types b) (var_ok types v && vars_ok types vs) a.1 in
        let e = and_true (var_ok types v) (vars_ok types vs) c.1 in
        let front = declaration_begins qs b ts s.0 s.1 s.3 a.0 s.4 c.0 (omega arith) h (var_begins v s.1 _ s.5.1) in
        let x = vars_complete types n deepest (v ∷ vs) s.2 s.1 rest s.5 c.1 (omega arith)
        (omega (arith, keys_no_longer qs _ _ s.3, spec_shorter types b _ _ s.4 c.0)) in
        rw (front, var_no_end v s.1 _ s.5.1, var_no_head v s.1 _ s.5.1 (more_vars_end vs s.2 _ rest s.5.2) e.0, x) refl

    -- up to the parenthesis of a function's parameters
    signature_read : (qs : List Key) (b : Spec) (ss : List ℕ) (w : Name) (p : Pos) (ps : Params)
        (ts rest : List Placed) → SpellsHead (head qs b ss w p ps) ts rest → signature_ok types qs b w ps ≡ true
        → spec_depth b ≤ deepest → length ts ≤ n
        → (inner : List Placed) × (r : Pos) × (item_at types n ts ≡ function_rest types n qs b ss w p inner)
        × SpellsParams ps inner (mark_at puncts.RightParen r ∷ rest) × (length inner < length ts)
    unfolding declared_at on_some
    signature_read qs b ss w p ps ts rest s ok deep h =
        let a = and_true (all_keys is_qualifier qs) (spec_ok types b && (is_word types w && params_ok types ps)) ok in
        let c = and_true (spec_ok types b) (is_word types w && params_ok types ps) a.1 in
        let e = and_true (is_word types w) (params_ok types ps) c.1 in
        let f = stars_and_word ss w p s.1 _ s.7 in
        let front = declaration_begins qs b ts s.0 s.1 s.5 a.0 s.6 c.0 deep h f.ends in (
          s.2,
          s.4,
          rw (front, f.no_end, head_complete ss w p s.3 s.1 s.2 s.7 e.0) refl,
          s.8,
          omega
              (arith, keys_no_longer qs _ _ s.5, spec_shorter types b _ _ s.6 c.0, stars_no_longer ss _ _ s.7),
        )

    prototype_read : (qs : List Key) (b : Spec) (ss : List ℕ) (w : Name) (p : Pos) (ps : Params)
        (ts rest : List Placed) → SpellsItem (prototype (head qs b ss w p ps)) ts rest
        → signature_ok types qs b w ps ≡ true → max (spec_depth b) (params_depth ps) ≤ deepest → length ts ≤ n
        → item_at types n ts ≡ Some (prototype (head qs b ss w p ps), rest)
    unfolding function_rest chain on_some
    prototype_read qs b ss w p ps ts rest s ok deep h =
        let g = signature_read qs b ss w p ps ts _ s.1 ok (omega arith) h in
        let x = params_complete types n deepest ps g.1 g.0 _ g.3 (params_allowed qs b w ps ok) (omega arith)
        (omega (arith, g.4)) in
        rw (g.2, x) refl

    function_read : (qs : List Key) (b : Spec) (ss : List ℕ) (w : Name) (p : Pos) (ps : Params) (body : Stmt)
        (ts rest : List Placed) → SpellsItem (function_def (head qs b ss w p ps) body) ts rest
        → signature_ok types qs b w ps ≡ true → is_block body ≡ true → stmt_ok types body ≡ true
        → max (spec_depth b) (max (params_depth ps) (stmt_depth body)) ≤ deepest → length ts ≤ n
        → item_at types n ts ≡ Some (function_def (head qs b ss w p ps) body, rest)
    unfolding function_rest chain on_some
    function_read qs b ss w p ps body ts rest s ok is allowed deep h =
        let g = signature_read qs b ss w p ps ts _ s.1 ok (omega arith) h in
        let x = params_complete types n deepest ps g.1 g.0 _ g.3 (params_allowed qs b w ps ok) (omega arith)
        (omega (arith, g.4)) in
        let f = block_begins body s.0 rest s.2 is in
        let y = stmt_complete types n body deepest s.0 rest allowed f.statement (omega arith) s.2
        (omega (arith, params_no_longer ps _ _ g.3, g.4)) (λ z. absurd (not_both (sym f.no_if ∙ z))) in
        rw (g.2, x, f.no_end, f.brace, y) refl

    pub item_complete : (i : Item) (ts rest : List Placed) → SpellsItem i ts rest → item_ok types i ≡ true
        → item_depth i ≤ deepest → length ts ≤ n → item_at types n ts ≡ Some (i, rest)
    unfolding item_at on_some
    item_complete (nothing p) ts rest s ok deep h = rw s refl
    item_complete (doc p w ns) ts rest s ok deep h = doc_read p w ns ts rest s ok
    item_complete (typedef b ss w p) ts rest s ok deep h = typedef_read b ss w p ts rest s ok deep h
    item_complete (tag qs b) ts rest s ok deep h = tag_read qs b ts rest s ok deep h
    item_complete (variables (decl qs b vs)) ts rest s ok deep h = variables_read qs b vs ts rest s ok deep h
    item_complete (prototype (head qs b ss w p ps)) ts rest s ok deep h = prototype_read qs b ss w p ps ts rest s ok
        deep h
    item_complete (function_def (head qs b ss w p ps) body) ts rest s ok deep h =
        let a = and_true (signature_ok types qs b w ps) (is_block body && stmt_ok types body) ok in
        let c = and_true (is_block body) (stmt_ok types body) a.1 in
        function_read qs b ss w p ps body ts rest s a.0 c.0 c.1 deep h

  head_shorter : (qs : List Key) (b : Spec) (ss : List ℕ) (w : Name) (p : Pos) (ps : Params) (ts rest : List Placed)
      → SpellsHead (head qs b ss w p ps) ts rest → signature_ok types qs b w ps ≡ true → length rest < length ts
  head_shorter qs b ss w p ps ts rest s ok =
      let a = and_true (all_keys is_qualifier qs) (spec_ok types b && (is_word types w && params_ok types ps)) ok in
      let c = and_true (spec_ok types b) (is_word types w && params_ok types ps) a.1 in
      omega (
        arith,
        keys_no_longer qs _ _ s.5,
        spec_shorter types b _ _ s.6 c.0,
        stars_no_longer ss _ _ s.7,
        params_no_longer ps _ _ s.8,
      )

  pub item_shorter : (i : Item) (ts rest : List Placed) → SpellsItem i ts rest → item_ok types i ≡ true
      → length rest < length ts
  item_shorter (nothing p) ts rest s ok = rw s (omega arith)
  item_shorter (doc p w ns) ts rest s ok = rw s.5 (omega (arith, texts_no_longer ns _ _ s.6))
  item_shorter (typedef b ss w p) ts rest s ok = rw s.4 (omega (
    arith,
    spec_shorter types b _ _ s.5 ok,
    stars_no_longer ss _ _ s.6,
  ))
  item_shorter (tag qs b) ts rest s ok =
      let a = and_true (all_keys is_qualifier qs) (spec_ok types b) ok in
      omega (arith, keys_no_longer qs _ _ s.2, spec_shorter types b _ _ s.3 a.1)
  item_shorter (variables c) ts rest s ok = decl_shorter types c ts rest s ok
  item_shorter (prototype (head qs b ss w p ps)) ts rest s ok = omega (arith, head_shorter qs b ss w p ps _ _ s.1 ok)
  item_shorter (function_def (head qs b ss w p ps) body) ts rest s ok =
      let a = and_true (signature_ok types qs b w ps) (is_block body && stmt_ok types body) ok in
      let c = and_true (is_block body) (stmt_ok types body) a.1 in
      omega (arith, head_shorter qs b ss w p ps _ _ s.1 a.0, stmt_shorter types body _ _ s.2 c.1)
