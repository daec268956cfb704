-- Parts of the readers that the program reads by functions of their own.
--   joined o              what there is, where it is something itself
--   size_at low ts        what stands after the bracket of an array, with the closing one
--   size_depth o          how deep that is
--   function_front types ts    `( * word ) (`: the word, its place, and the tokens after
--   goes_on ts            something stands here that goes on with a postfix expression
--   close_params ds dots ts    the closing parenthesis of these parameters
--   sizeof_front types ts      the tokens after a parenthesis before a type
--   member_or_step types e ts  a member of `e`, or `e` with a step
use Rattle.std.specs.Prelude.{ℕ, Bool, false, ◌||◌, List, Option, Some, None, is_some}
use Rattle.pungi_base.specs.declared.names.Name.{Name}
use Rattle.pungi_base.specs.declared.pos.Pos.{Pos}
use Rattle.pungi_base.specs.declared.punct.Punct.TheVariants as puncts
use Rattle.pungi_parse.specs.tokens.OneToken.{eat, eat_step}
use Rattle.pungi_parse.specs.Reading.{Read, ◌>>=◌, on_some, when}
use Rattle.pungi_parse.specs.types.TypeReader.{Lower, plain_word, begins_type}
use Rattle.pungi_tree.specs.ExprDepth.{expr_depth}
use Rattle.pungi_tree.specs.Placed.{Placed}
use Rattle.pungi_tree.specs.Syntax.{Expr, post, dot, arrow, Params, params, ParamDecls}

abbrev pub joined : {A : Type 0} → Option (Option A) → Option A
joined (Some o) = o
joined None = None

abbrev pub size_depth : Option Expr → ℕ
size_depth None = 0
size_depth (Some e) = expr_depth e

unfoldable pub size_at : Lower → List Placed → Read (Option Expr)
size_at low ts =
    on_some (eat puncts.RightBracket ts)
    (λ c. Some (None, c.1))
    (low.expr 0 ts >>= λ e. eat puncts.RightBracket e.1 >>= λ c. Some (Some e.0, c.1))

unfoldable pub goes_on : List Placed → Bool
goes_on ts =
    is_some (eat puncts.LeftParen ts) || (is_some (eat puncts.LeftBracket ts)
    || (is_some (eat puncts.Dot ts) || (is_some (eat puncts.Arrow ts) || is_some (eat_step ts))))

unfoldable pub close_params : ParamDecls → Option Pos → List Placed → Read Params
close_params ds dots ts = eat puncts.RightParen ts >>= λ c. Some (params ds false dots, c.1)

module _ (types : List Name) where
  unfoldable pub function_front : List Placed → Option (Name × Pos × List Placed)
  function_front ts =
      eat puncts.LeftParen ts >>= λ o. eat puncts.Star o.1 >>= λ s. plain_word types s.1 >>= λ w. eat
      puncts.RightParen w.2 >>= λ c.
      eat puncts.LeftParen c.1 >>= λ i. Some (w.0, w.1, i.1)

  unfoldable pub sizeof_front : List Placed → Option (List Placed)
  sizeof_front ts = eat puncts.LeftParen ts >>= λ o. when (begins_type types o.1) (Some o.1)

  unfoldable pub member_or_step : Expr → List Placed → Option (Read Expr)
  member_or_step e ts =
      on_some (eat puncts.Dot ts) (λ o. Some (plain_word types o.1 >>= λ w. Some (dot o.0 e w.0, w.2)))
      (on_some (eat puncts.Arrow ts) (λ o. Some (plain_word types o.1 >>= λ w. Some (arrow o.0 e w.0, w.2)))
      (on_some (eat_step ts) (λ o. Some (Some (post o.1 o.0 e, o.2))) None))
