-- The loop over arguments (C11 6.5.2.2).
--   close_args front y    the closing parenthesis after all arguments
--   ArgsTo types low start front ts    these arguments are read, and further ones are read from here
--   args_begin, args_turn, args_fail, args_open, args_end    the first, one more, a failure, no parenthesis, and the
--                                                            end
--   args_depth            how deep they are with one more
use Rattle.std.proofs.Common.{◌≡◌, ℕ, zero, suc, ◌<◌, max, List, [], ◌∷◌, ◌++◌, length, Some, None, refl, ◌∙◌, ap}
use Rattle.std.proofs.Common.{arith}
use Rattle.pungi_base.specs.declared.names.Name.{Name}
use Rattle.pungi_base.specs.declared.pos.Pos.{Pos}
use Rattle.pungi_base.specs.declared.punct.Punct.TheVariants as puncts
use Rattle.pungi_parse.specs.tokens.OneToken.{eat}
use Rattle.pungi_parse.specs.expr.ExprReader.{args_at, some_args, more_args}
use Rattle.pungi_parse.specs.Gives.{Fails}
use Rattle.pungi_parse.specs.Reading.{Read, ◌>>=◌, chain, on_some}
use Rattle.pungi_parse.specs.types.TypeReader.{Lower}
use Rattle.pungi_parse.specs.declared.stop.Stop.{Stop}
use Rattle.pungi_parse.specs.declared.stop.Stop.TheVariants as stops
use Rattle.pungi_parse.proofs.ListLoop.{before, before_push, ListTo, list_turn, list_fail, list_end}
use Rattle.pungi_tree.specs.ExprDepth.{expr_depth, exprs_depth}
use Rattle.pungi_tree.specs.ExprView.{exprs_of}
use Rattle.pungi_tree.specs.Placed.{Placed}
use Rattle.pungi_tree.specs.Syntax.{Expr, Exprs, no_exprs, expr_and}

pub close_args : List Expr → Exprs × List Placed → Read Exprs
close_args front y = eat puncts.RightParen y.1 >>= λ c. Some (before expr_and front y.0, c.1)

all_before : (front : List Expr) → before expr_and front no_exprs ≡ exprs_of front
all_before [] = refl
all_before (e ∷ front) = ap (λ z. expr_and e z) (all_before front)

pub args_depth : (front : List Expr) (e : Expr)
    → exprs_depth (exprs_of (front ++ e ∷ [])) ≡ max (exprs_depth (exprs_of front)) (expr_depth e)
args_depth [] e = omega arith
args_depth (a ∷ front) e = omega (arith, args_depth front e)

place : (front : List Expr) (e : Expr) (y : Exprs × List Placed)
    → close_args front (expr_and e y.0, y.1) ≡ close_args (front ++ e ∷ []) y
unfolding close_args
place front e y = rw (before_push expr_and front e y.0) refl

abbrev pub ArgsTo : List Name → Lower → List Placed → List Expr → List Placed → Type 0
ArgsTo types low start front ts = ListTo (more_args types low) close_args (args_at types low start) front ts

module _ (types : List Name) (low : Lower) (start : List Placed) where
  pub args_begin : (e : Expr) (ts : List Placed) → eat puncts.RightParen start ≡ None
      → low.expr 1 start ≡ Some (e, ts) → ArgsTo types low start (e ∷ []) ts
  unfolding args_at some_args chain on_some close_args
  args_begin e ts h r = record { fuel = suc (length ts); enough = omega arith; comes = rw (h, r) refl }

  more_turn : (k : ℕ) (e : Expr) (ts rest : List Placed) (o : Pos × List Placed) → eat puncts.Comma ts ≡ Some o
      → low.expr 1 o.1 ≡ Some (e, rest) → more_args types low (suc k) ts
      ≡ (more_args types low k rest >>= λ (y : Exprs × List Placed). Some (expr_and e y.0, y.1))
  unfolding more_args on_some chain
  more_turn k e ts rest o h r = rw (h, r) refl

  more_fails : (k : ℕ) (ts : List Placed) (o : Pos × List Placed) → eat puncts.Comma ts ≡ Some o
      → low.expr 1 o.1 ≡ None → more_args types low k ts ≡ None
  unfolding more_args on_some chain
  more_fails zero ts o h r = refl
  more_fails (suc k) ts o h r = rw (h, r) refl

  more_ends : (k : ℕ) (ts : List Placed) → eat puncts.Comma ts ≡ None
      → more_args types low (suc k) ts ≡ Some (no_exprs, ts)
  unfolding more_args on_some
  more_ends k ts h = rw h refl

  pub args_turn : (front : List Expr) (e : Expr) (ts rest : List Placed) (o : Pos × List Placed)
      → ArgsTo types low start front ts → eat puncts.Comma ts ≡ Some o → low.expr 1 o.1 ≡ Some (e, rest)
      → length rest < length ts → ArgsTo types low start (front ++ e ∷ []) rest
  args_turn front e ts rest o c h r n = list_turn expr_and (more_args types low) close_args
      (args_at types low start) front ts e rest (λ y. place front e y) (λ k. more_turn k e ts rest o h r) n c

  pub args_fail : (f : Stop) (front : List Expr) (ts : List Placed) (o : Pos × List Placed)
      → ArgsTo types low start front ts → eat puncts.Comma ts ≡ Some o → Fails f (low.expr 1 o.1)
      → Fails f (args_at types low start)
  args_fail stops.Memory front ts o c h r = tt
  args_fail stops.NothingRead front ts o c h r = list_fail expr_and (more_args types low) close_args
      (args_at types low start) front ts (λ k. more_fails k ts o h r) c

  pub args_open : (front : List Expr) (ts : List Placed) → ArgsTo types low start front ts
      → eat puncts.Comma ts ≡ None → eat puncts.RightParen ts ≡ None → args_at types low start ≡ None
  unfolding close_args chain
  args_open front ts c h r = list_end expr_and (more_args types low) close_args (args_at types low start) front ts
      (no_exprs, ts) (λ k. more_ends k ts h) c ∙ rw r refl

  pub args_end : (front : List Expr) (ts : List Placed) (o : Pos × List Placed) → ArgsTo types low start front ts
      → eat puncts.Comma ts ≡ None → eat puncts.RightParen ts ≡ Some o
      → args_at types low start ≡ Some (exprs_of front, o.1)
  unfolding close_args chain
  args_end front ts o c h r = list_end expr_and (more_args types low) close_args (args_at types low start) front ts
      (no_exprs, ts) (λ k. more_ends k ts h) c ∙ rw (r, all_before front) refl
