-- What of a statement stands in front of the first statement in it, and how the statement goes on from there.
--   Head, Begun       a statement in front of its one body; a whole statement, a block, an `if`, or a statement with
--                     one body, each as far as it is read
--   for_head_view, head_view, begun_view    those that the parser's stand for
--   for_head_at       what stands between the parentheses of a `for`, with the closing one
--   branch_front, while_front, for_front, switch_front, case_front, default_front    what stands after the keyword
--   label_or_whole    a statement with a label in front, as far as it is read, or a whole one that holds no other one
--   begin_at          a statement, up to the first one in it
--   do_end            what stands after the body of a `do`
--   finish_at         what stands after the body
--   branch_rest       what stands after the condition of an `if`
--   go_on             the rest of a statement
use Rattle.std.specs.Prelude.{List, Option, Some}
use Rattle.pungi_base.specs.declared.key.Key.TheVariants as keys
use Rattle.pungi_base.specs.declared.names.Name.{Name}
use Rattle.pungi_base.specs.declared.pos.Pos.{Pos}
use Rattle.pungi_base.specs.declared.punct.Punct.TheVariants as puncts
use Rattle.pungi_parse.specs.tokens.OneToken.{eat, eat_key}
use Rattle.pungi_parse.specs.Reading.{Read, ◌>>=◌, on_some}
use Rattle.pungi_parse.specs.stmt.StmtReader.{optional, condition, start_at, label_front, jump_or_expression, block_at}
use Rattle.pungi_parse.specs.types.TypeReader.{Lower}
use Rattle.pungi_parse.specs.declared.stmt.begun.Begun.{Begun as TheBegun}
use Rattle.pungi_parse.specs.declared.stmt.begun.Begun.TheVariants as begun
use Rattle.pungi_tree.specs.declared.stmt.ForHead.{ForHead}
use Rattle.pungi_parse.specs.declared.stmt.begun.StmtHead.{StmtHead}
use Rattle.pungi_parse.specs.declared.stmt.begun.StmtHead.TheVariants as heads
use Rattle.pungi_tree.specs.ExprView.{expr_view, optional_view}
use Rattle.pungi_tree.specs.Placed.{Placed}
use Rattle.pungi_tree.specs.StmtView.{for_start_view, stmt_view}
use Rattle.pungi_tree.specs.Syntax.{Expr, ForStart, Stmt, if_only, if_else, while, do_while, for, switch, case, default}
use Rattle.pungi_tree.specs.Syntax.{label}

pub data Head : Type 0 where
  while_head : Expr → Head
  do_head : Head
  for_head : ForStart → Option Expr → Option Expr → Head
  switch_head : Expr → Head
  case_head : Expr → Head
  default_head : Head
  label_head : Name → Head

pub data Begun : Type 0 where
  whole : Stmt → Begun
  braced : Pos → Begun
  branched : Pos → Expr → Begun
  headed : Pos → Head → Begun

abbrev pub for_head_view : ForHead → Head
for_head_view h = for_head (for_start_view h.start) (optional_view h.test) (optional_view h.step)

abbrev pub head_view : StmtHead → Head
head_view (heads.While e) = while_head (expr_view e.value)
head_view (heads.For h) = for_head_view h.value
head_view (heads.Switch e) = switch_head (expr_view e.value)
head_view (heads.Case e) = case_head (expr_view e.value)
head_view heads.Default = default_head
head_view (heads.Label n) = label_head n

abbrev pub begun_view : TheBegun → Begun
begun_view (begun.Whole s) = whole (stmt_view s.value)
begun_view (begun.Block p) = braced p
begun_view (begun.If p e) = branched p (expr_view e.value)
begun_view (begun.Do p) = headed p do_head
begun_view (begun.Before p h) = headed p (head_view h)

module _ (types : List Name) (low : Lower) where
  unfoldable pub branch_front : Pos → List Placed → Read Begun
  branch_front p ts = condition types low ts >>= λ e. Some (branched p e.0, e.1)

  unfoldable pub while_front : Pos → List Placed → Read Begun
  while_front p ts = condition types low ts >>= λ e. Some (headed p (while_head e.0), e.1)

  unfoldable pub for_head_at : List Placed → Read Head
  for_head_at ts =
      start_at types low ts >>= λ a. optional types low puncts.Semicolon a.1 >>= λ b. optional types low
      puncts.RightParen b.1 >>= λ c.
      Some (for_head a.0 b.0 c.0, c.1)

  unfoldable pub for_front : Pos → List Placed → Read Begun
  for_front p ts = eat puncts.LeftParen ts >>= λ o. for_head_at o.1 >>= λ h. Some (headed p h.0, h.1)

  unfoldable pub switch_front : Pos → List Placed → Read Begun
  switch_front p ts = condition types low ts >>= λ e. Some (headed p (switch_head e.0), e.1)

  unfoldable pub case_front : Pos → List Placed → Read Begun
  case_front p ts = low.expr 2 ts >>= λ e. eat puncts.Colon e.1 >>= λ c. Some (headed p (case_head e.0), c.1)

  unfoldable pub default_front : Pos → List Placed → Read Begun
  default_front p ts = eat puncts.Colon ts >>= λ c. Some (headed p default_head, c.1)

  unfoldable pub do_end : Pos → Stmt → List Placed → Read Stmt
  do_end p s ts =
      eat_key keys.While ts >>= λ k. condition types low k.1 >>= λ e. eat puncts.Semicolon e.1 >>= λ c. Some
      (do_while p s e.0, c.1)

  abbrev pub finish_at : Pos → Head → Stmt → List Placed → Read Stmt
  finish_at p (while_head e) s ts = Some (while p e s, ts)
  finish_at p do_head s ts = do_end p s ts
  finish_at p (for_head a b c) s ts = Some (for p a b c s, ts)
  finish_at p (switch_head e) s ts = Some (switch p e s, ts)
  finish_at p (case_head e) s ts = Some (case p e s, ts)
  finish_at p default_head s ts = Some (default p s, ts)
  finish_at p (label_head n) s ts = Some (label p n s, ts)

  module _ (stmt element : List Placed → Read Stmt) where
    unfoldable pub whole_at : List Placed → Read Begun
    whole_at ts = jump_or_expression types low stmt element ts >>= λ s. Some (whole s.0, s.1)

    unfoldable pub label_or_whole : List Placed → Read Begun
    label_or_whole ts =
        on_some (eat_key keys.Case ts) (λ k. case_front k.0 k.1)
        (on_some (eat_key keys.Default ts) (λ k. default_front k.0 k.1)
        (on_some (label_front types low ts) (λ w. Some (headed w.1 (label_head w.0), w.2)) (whole_at ts)))

    unfoldable pub begin_at : List Placed → Read Begun
    begin_at ts =
        on_some (eat puncts.LeftBrace ts) (λ o. Some (braced o.0, o.1))
        (on_some (eat_key keys.If ts) (λ k. branch_front k.0 k.1)
        (on_some (eat_key keys.While ts) (λ k. while_front k.0 k.1)
        (on_some (eat_key keys.Do ts) (λ k. Some (headed k.0 do_head, k.1))
        (on_some (eat_key keys.For ts) (λ k. for_front k.0 k.1)
        (on_some (eat_key keys.Switch ts) (λ k. switch_front k.0 k.1) (label_or_whole ts))))))

    unfoldable pub branch_rest : Pos → Expr → List Placed → Read Stmt
    branch_rest p e ts =
        stmt ts >>= λ s.
        on_some (eat_key keys.Else s.1) (λ k. stmt k.1 >>= λ t. Some (if_else p e s.0 t.0, t.1))
        (Some (if_only p e s.0, s.1))

    abbrev pub go_on : Begun → List Placed → Read Stmt
    go_on (whole s) ts = Some (s, ts)
    go_on (braced p) ts = block_at types low stmt element p ts
    go_on (branched p e) ts = branch_rest p e ts
    go_on (headed p h) ts = stmt ts >>= λ s. finish_at p h s.0 s.1
