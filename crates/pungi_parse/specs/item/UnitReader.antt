-- Reading what a file consists of (C11 6.9). Its expressions and statements have at most `deepest` nodes on a path.
--   deepest           the greatest number of nodes of expressions and statements on a path of a tree
--   doc_front, doc_at `PyDoc_STRVAR`, where it is no type word, and what stands after it
--   typedef_at        a type definition after its keyword
--   head_front        the stars, the name and the parenthesis of a function after its type
--   function_rest     what stands after a function's parenthesis
--   declared_at       what stands after the type of a declaration
--   item_at           an item
--   items_in          as many items as stand there, at most `k`, and the tokens after them
use Rattle.std.specs.Prelude.{ℕ, zero, suc, ◌==◌, Bool, true, false, List, [], ◌∷◌, length, Option, Some, None}
use Rattle.pungi_base.specs.declared.key.Key.{Key}
use Rattle.pungi_base.specs.declared.key.Key.TheVariants as keys
use Rattle.pungi_base.specs.declared.names.Name.{Name}
use Rattle.pungi_base.specs.declared.pos.Pos.{Pos}
use Rattle.pungi_base.specs.declared.punct.Punct.TheVariants as puncts
use Rattle.pungi_base.specs.Numbers.{py_doc_strvar}
use Rattle.pungi_parse.specs.tokens.OneToken.{eat, eat_key, eat_word}
use Rattle.pungi_parse.specs.Reading.{Read, ◌>>=◌, chain, on_some, when, unless}
use Rattle.pungi_parse.specs.Readers.{readers}
use Rattle.pungi_parse.specs.stmt.StmtReader.{vars_at, read_stmt}
use Rattle.pungi_parse.specs.types.TypeReader.{Lower, keywords, stars, texts, plain_word}
use Rattle.pungi_tree.specs.ExprLevels.{is_empty}
use Rattle.pungi_tree.specs.Operators.{is_qualifier}
use Rattle.pungi_tree.specs.Placed.{Placed}
use Rattle.pungi_tree.specs.Syntax.{Spec, Params, decl, Head, head, Item, nothing, doc, typedef, tag, variables}
use Rattle.pungi_tree.specs.Syntax.{prototype, function_def}

abbrev pub deepest : ℕ
deepest = 256

module _ (types : List Name) where
  unfoldable pub doc_front : List Placed → Option (Pos × List Placed)
  doc_front ts = plain_word types ts >>= λ w. when (w.0.0 == py_doc_strvar) (eat puncts.LeftParen w.2)

  unfoldable pub doc_at : List Placed → Read Item
  doc_at ts =
      plain_word types ts >>= λ w. eat puncts.Comma w.2 >>= λ c. let ns = texts c.1 in unless (is_empty ns.0)
      (eat puncts.RightParen ns.1 >>= λ r. Some (doc w.1 w.0 ns.0, r.1))

  unfoldable pub typedef_at : Lower → List Placed → Read Item
  typedef_at low ts =
      low.spec ts >>= λ s. let p = stars s.1 in eat_word p.1 >>= λ w. eat puncts.Semicolon w.2 >>= λ c. Some
      (typedef s.0 p.0 w.0 w.1, c.1)

  unfoldable pub head_front : List Placed → Option (List ℕ × Name × Pos × List Placed)
  head_front ts =
      let p = stars ts in plain_word types p.1 >>= λ w. eat puncts.LeftParen w.2 >>= λ o. Some (p.0, w.0, w.1, o.1)

  -- `n` tokens stand in the file at most
  module _ (n : ℕ) where
    unfoldable pub function_rest : List Key → Spec → List ℕ → Name → Pos → List Placed → Read Item
    function_rest qs s p w q ts =
        (readers types n deepest).params ts >>= λ ps.
        on_some (eat puncts.Semicolon ps.1)
        (λ c. Some (prototype (head qs s p w q ps.0), c.1))
        (eat puncts.LeftBrace ps.1 >>= λ o. read_stmt types n deepest ps.1 >>= λ b. Some
        (function_def (head qs s p w q ps.0) b.0, b.1))

    unfoldable pub declared_at : List Key → Spec → List Placed → Read Item
    declared_at qs s ts =
        on_some (eat puncts.Semicolon ts)
        (λ c. Some (tag qs s, c.1))
        (on_some (head_front ts)
        (λ h. function_rest qs s h.0 h.1 h.2 h.3)
        (vars_at types (readers types n deepest) ts >>= λ vs. Some (variables (decl qs s vs.0), vs.1)))

    unfoldable pub declaration_at : List Placed → Read Item
    declaration_at ts = let q = keywords is_qualifier ts in (readers types n deepest).spec q.1 >>= λ s. declared_at
        q.0 s.0 s.1

    unfoldable pub item_at : List Placed → Read Item
    item_at ts =
        on_some (eat puncts.Semicolon ts) (λ c. Some (nothing c.0, c.1))
        (on_some (doc_front ts) (λ o. doc_at o.1)
        (on_some (eat_key keys.Typedef ts) (λ k. typedef_at (readers types n deepest) k.1) (declaration_at ts)))

    unfoldable pub items_in : ℕ → List Placed → List Item × List Placed
    items_in zero ts = ([], ts)
    items_in (suc k) ts = on_some (item_at ts) (λ x. let more = items_in k x.1 in (x.0 ∷ more.0, more.1)) ([], ts)
