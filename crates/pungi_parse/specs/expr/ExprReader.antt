-- Reading expressions (C11 6.5), all binary levels by one reader. `low` has the readers of what stands inside, whose
-- expressions have at most `most` nodes on a path. A loop to the left adds a node at each turn, and tests the depth
-- before it reads on.
--   more_args, args_at    further arguments, and arguments with their closing parenthesis
--   new_front, new_at     `PyObject_New (` before a type, and what stands after
--   word_at, primary      a word that is no type word, a primary expression
--   postfix_turn          what stands after a primary or postfix expression
--   postfixes, postfix    the loop over it, and a postfix expression
--   sizeof_at, unary      what stands after `sizeof`, and a unary expression
--   cast_front, casted    the parenthesis before a type, and a cast
--   operations, climb     the loop over binary operators of level `l` and tighter ones, and what they stand between
--   conditional_rest, assign_rest, commas    what stands after a binary expression at the levels 2, 1 and 0
--   read_at               an expression of a level
--   expr_at               the same, where it has at most `d` nodes on a path
use Rattle.std.specs.Prelude.{ℕ, zero, suc, ◌+◌, Bool, true, false, ◌&&◌, ◌==◌, nat_le, nat_lt, List, [], ◌∷◌, length}
use Rattle.std.specs.Prelude.{Option, Some, None, if◌then◌else◌}
use Rattle.pungi_base.specs.declared.key.Key.TheVariants as keys
use Rattle.pungi_base.specs.declared.kind.Kind.TheVariants as kind
use Rattle.pungi_base.specs.declared.names.Name.{Name}
use Rattle.pungi_base.specs.declared.pos.Pos.{Pos}
use Rattle.pungi_base.specs.declared.punct.Punct.TheVariants as puncts
use Rattle.pungi_base.specs.Numbers.{py_object_new}
use Rattle.pungi_parse.specs.tokens.OneToken.{eat, eat_key, eat_literal, eat_prefix, eat_operator, eat_assign, eat_step}
use Rattle.pungi_parse.specs.tokens.OneToken.{eat_word}
use Rattle.pungi_parse.specs.Reading.{Read, ◌>>=◌, chain, on_some, when, unless}
use Rattle.pungi_parse.specs.types.TypeReader.{Lower, texts, plain_word, begins_type, type_name_at}
use Rattle.pungi_tree.specs.ExprDepth.{expr_depth}
use Rattle.pungi_tree.specs.ExprLevels.{is_empty}
use Rattle.pungi_tree.specs.Operators.{binary_level, prefix_mark_need, level}
use Rattle.pungi_tree.specs.Placed.{Placed, first_place}
use Rattle.pungi_tree.specs.Syntax.{Expr, word, text, paren, unary as prefix, post, binary, assign, conditional, comma}
use Rattle.pungi_tree.specs.Syntax.{cast, size_of_type, call, new, index, dot, arrow, Exprs, no_exprs, expr_and}

module _ (types : List Name) where
  unfoldable pub new_front : List Placed → Option (Pos × List Placed)
  new_front ts =
      plain_word types ts >>= λ w. when (w.0.0 == py_object_new) (eat puncts.LeftParen w.2 >>= λ o. when
      (begins_type types o.1) (Some (w.1, o.1)))

  unfoldable pub cast_front : List Placed → Option (Pos × List Placed)
  cast_front ts = eat puncts.LeftParen ts >>= λ o. when (begins_type types o.1) (Some o)

module _ (types : List Name) (low : Lower) where
  -- further arguments, up to the closing parenthesis, which stays
  unfoldable pub more_args : ℕ → List Placed → Read Exprs
  more_args zero ts = None
  more_args (suc k) ts =
      on_some (eat puncts.Comma ts)
      (λ c. low.expr 1 c.1 >>= λ e. more_args k e.1 >>= λ es. Some (expr_and e.0 es.0, es.1))
      (Some (no_exprs, ts))

  unfoldable pub some_args : List Placed → Read Exprs
  some_args ts =
      low.expr 1 ts >>= λ e. more_args (suc (length e.1)) e.1 >>= λ es. eat puncts.RightParen es.1 >>= λ c. Some
      (expr_and e.0 es.0, c.1)

  unfoldable pub args_at : List Placed → Read Exprs
  args_at ts = on_some (eat puncts.RightParen ts) (λ c. Some (no_exprs, c.1)) (some_args ts)

  unfoldable pub new_at : Pos → List Placed → Read Expr
  new_at p ts =
      type_name_at low ts >>= λ t. eat puncts.Comma t.1 >>= λ c. low.expr 1 c.1 >>= λ e. eat puncts.RightParen e.1
      >>= λ r.
      Some (new p t.0 e.0, r.1)

  unfoldable pub paren_at : Pos → List Placed → Read Expr
  paren_at p ts = low.expr 0 ts >>= λ e. eat puncts.RightParen e.1 >>= λ c. Some (paren p e.0, c.1)

  unfoldable pub text_at : List Placed → Read Expr
  text_at ts = first_place ts >>= λ p. let ns = texts ts in unless (is_empty ns.0) (Some (text p ns.0, ns.1))

  unfoldable pub primary : List Placed → Read Expr
  primary ts =
      on_some (eat_literal ts) (λ e. Some e)
      (on_some (new_front types ts) (λ n. new_at n.0 n.1)
      (on_some (plain_word types ts) (λ w. Some (word w.1 w.0, w.2))
      (on_some (eat puncts.LeftParen ts) (λ o. paren_at o.0 o.1) (text_at ts))))

  unfoldable pub index_at : Expr → Pos → List Placed → Read Expr
  index_at e p ts = low.expr 0 ts >>= λ i. eat puncts.RightBracket i.1 >>= λ c. Some (index p e i.0, c.1)

  -- `start` is the place of the first token of `e`
  unfoldable pub call_at : Pos → Expr → List Placed → Read Expr
  call_at start e ts = args_at ts >>= λ es. Some (call start e es.0, es.1)

  -- what stands after `e`, where something that goes on with it does; the test for more depth comes first
  unfoldable pub postfix_turn : Pos → Expr → List Placed → Option (Read Expr)
  postfix_turn start e ts =
      on_some (eat puncts.LeftParen ts) (λ o. Some (call_at start e o.1))
      (on_some (eat puncts.LeftBracket ts) (λ o. Some (index_at e o.0 o.1))
      (on_some (eat puncts.Dot ts) (λ o. Some (plain_word types o.1 >>= λ w. Some (dot o.0 e w.0, w.2)))
      (on_some (eat puncts.Arrow ts) (λ o. Some (plain_word types o.1 >>= λ w. Some (arrow o.0 e w.0, w.2)))
      (on_some (eat_step ts) (λ o. Some (Some (post o.1 o.0 e, o.2))) None))))

  module _ (most : ℕ) where
    unfoldable pub postfixes : ℕ → Pos → Expr → List Placed → Read Expr
    postfixes zero start e ts = on_some (postfix_turn start e ts) (λ r. None) (Some (e, ts))
    postfixes (suc k) start e ts =
        on_some (postfix_turn start e ts)
        (λ r. when (nat_lt (expr_depth e) most) (r >>= λ x. postfixes k start x.0 x.1))
        (Some (e, ts))

    unfoldable pub postfix : List Placed → Read Expr
    postfix ts = first_place ts >>= λ p. primary ts >>= λ e. postfixes most p e.0 e.1

    unfoldable pub sizeof_at : Pos → List Placed → Read Expr
    sizeof_at p ts =
        on_some (eat puncts.LeftParen ts >>= λ o. when (begins_type types o.1) (Some o.1))
        (λ inner. type_name_at low inner >>= λ t. eat puncts.RightParen t.1 >>= λ c. Some (size_of_type p t.0, c.1))
        (low.expr 14 ts >>= λ e. Some (prefix p (kind.Key keys.Sizeof) e.0, e.1))

    unfoldable pub unary : List Placed → Read Expr
    unary ts =
        on_some (eat_prefix ts) (λ o. low.expr (prefix_mark_need o.0) o.2 >>= λ e. Some
        (prefix o.1 (kind.Punct o.0) e.0, e.1))
        (on_some (eat_key keys.Sizeof ts) (λ k. sizeof_at k.0 k.1) (postfix ts))

    unfoldable pub casted : List Placed → Read Expr
    casted ts =
        on_some (cast_front types ts)
        (λ o. type_name_at low o.1 >>= λ t. eat puncts.RightParen t.1 >>= λ c. low.expr 13 c.1 >>= λ e. Some
        (cast o.0 t.0 e.0, e.1))
        (unary ts)

    unfoldable pub operations : ℕ → ℕ → Expr → List Placed → Read Expr
    operations zero l e ts = on_some (eat_operator l ts) (λ o. None) (Some (e, ts))
    operations (suc k) l e ts =
        on_some (eat_operator l ts)
        (λ o. when (nat_lt (expr_depth e) most) (low.expr (binary_level o.0 + 1) o.2 >>= λ r. operations k l
        (binary o.1 o.0 e r.0) r.1))
        (Some (e, ts))

    unfoldable pub climb : ℕ → List Placed → Read Expr
    climb l ts = casted ts >>= λ e. operations most l e.0 e.1

    unfoldable pub conditional_rest : Expr → List Placed → Read Expr
    conditional_rest e ts =
        on_some (eat puncts.Question ts)
        (λ q. when (nat_lt (expr_depth e) most)
        (low.expr 0 q.1 >>= λ b. eat puncts.Colon b.1 >>= λ c. low.expr 2 c.1 >>= λ d. Some
        (conditional q.0 e b.0 d.0, d.1)))
        (Some (e, ts))

    unfoldable pub conditional_at : List Placed → Read Expr
    conditional_at ts = climb 3 ts >>= λ e. conditional_rest e.0 e.1

    unfoldable pub assign_rest : Expr → List Placed → Read Expr
    assign_rest e ts =
        on_some (eat_assign ts)
        (λ o. when (nat_le 14 (level e) && nat_lt (expr_depth e) most) (low.expr 1 o.2 >>= λ r. Some
        (assign o.1 o.0 e r.0, r.1)))
        (Some (e, ts))

    unfoldable pub assign_at : List Placed → Read Expr
    assign_at ts = conditional_at ts >>= λ e. assign_rest e.0 e.1

    unfoldable pub commas : ℕ → Expr → List Placed → Read Expr
    commas zero e ts = on_some (eat puncts.Comma ts) (λ c. None) (Some (e, ts))
    commas (suc k) e ts =
        on_some (eat puncts.Comma ts)
        (λ c. when (nat_lt (expr_depth e) most) (low.expr 1 c.1 >>= λ r. commas k (comma c.0 e r.0) r.1))
        (Some (e, ts))

    unfoldable pub comma_at : List Placed → Read Expr
    comma_at ts = assign_at ts >>= λ e. commas most e.0 e.1

    unfoldable pub read_at : ℕ → List Placed → Read Expr
    read_at zero ts = comma_at ts
    read_at (suc zero) ts = assign_at ts
    read_at (suc (suc zero)) ts = conditional_at ts
    read_at (suc (suc (suc l))) ts = if nat_le 14 (suc (suc (suc l))) then unary ts else climb (suc (suc (suc l))) ts

-- `inner` has the readers of what stands inside, by how many nodes a path may have there
unfoldable pub expr_at : List Name → (ℕ → Lower) → ℕ → ℕ → List Placed → Read Expr
expr_at types inner zero l ts = None
expr_at types inner (suc d) l ts = read_at types (inner d) (suc d) l ts
