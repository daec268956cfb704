-- What is found in an expression is the same under two sets of refused functions that agree on the words that it calls.
use Rattle.std.proofs.Common.{◌≡◌, ℕ, List, ◌++◌, refl}
use Rattle.pungi_tree.specs.Syntax.{Expr, word, int, float, char, text, null, paren, unary, post, binary, assign}
use Rattle.pungi_tree.specs.Syntax.{conditional, comma, cast, size_of_type, call, new, index, dot, arrow, Exprs}
use Rattle.pungi_tree.specs.Syntax.{no_exprs, expr_and}
use Rattle.pungi_types.specs.declared.local.Local.{Local}
use Rattle.pungi_types.specs.declared.wants.Want.{Want}
use Rattle.pungi_types.specs.Calls.{callee, call_wants, other_wants}
use Rattle.pungi_types.specs.Exprs.{expr_findings, args_findings}
use Rattle.pungi_check.specs.Calls.{called_word, expr_calls, exprs_calls}
use Rattle.pungi_check.proofs.Places.{World, env_at}
use Rattle.pungi_check.proofs.Agreement.{Agree, left, right}
use Rattle.pungi_check.proofs.SameKinds.{is_place-same, names_type_object-same, passed_address-same, callee-same}
use Rattle.pungi_check.proofs.SameKinds.{call_wants-same, called-alike, kind-same, met-same, call_met-same}

mutual
  pub expr-same : (x : World) (s t : List ℕ) (ls : List Local) (e : Expr) → Agree x s t (expr_calls e)
      → expr_findings (env_at x s ls) e ≡ expr_findings (env_at x t ls) e
  expr-same x s t ls (word p n) h = refl
  expr-same x s t ls (int p v l u) h = refl
  expr-same x s t ls (float p) h = refl
  expr-same x s t ls (char p c) h = refl
  expr-same x s t ls (text p ns) h = refl
  expr-same x s t ls (null p) h = refl
  expr-same x s t ls (paren p e) h = expr-same x s t ls e h
  expr-same x s t ls (unary p k e) h = cc (
    names_type_object-same x s t ls e,
    is_place-same x s t ls e,
    kind-same x
        s t ls e h,
    expr-same x s t ls e h,
  )
  expr-same x s t ls (post p m e) h = cc (is_place-same x s t ls e, kind-same x s t ls e h, expr-same x s t ls e h)
  expr-same x s t ls (binary p m a b) h =
      let l = left x s t (expr_calls a) (expr_calls b) h in
      let r = right x s t (expr_calls a) (expr_calls b) h in
      cc (kind-same x s t ls a l, kind-same x s t ls b r, expr-same x s t ls a l, expr-same x s t ls b r)
  expr-same x s t ls (assign p m a b) h =
      let l = left x s t (expr_calls a) (expr_calls b) h in
      let r = right x s t (expr_calls a) (expr_calls b) h in
      cc (
        is_place-same x s t ls a,
        kind-same x s t ls a l,
        kind-same x s t ls b r,
        expr-same x s t ls a l,
        expr-same x s t ls b r,
      )
  expr-same x s t ls (conditional p c a b) h =
      let l = left x s t (expr_calls c) (expr_calls a ++ expr_calls b) h in
      let g = right x s t (expr_calls c) (expr_calls a ++ expr_calls b) h in
      let m = left x s t (expr_calls a) (expr_calls b) g in
      let r = right x s t (expr_calls a) (expr_calls b) g in
      cc (
        kind-same x s t ls c l,
        kind-same x s t ls a m,
        kind-same x s t ls b r,
        expr-same x s t ls c l,
        expr-same
            x s t ls a m,
        expr-same x s t ls b r,
      )
  expr-same x s t ls (comma p a b) h =
      cc (
        expr-same x s t ls a (left x s t (expr_calls a) (expr_calls b) h),
        expr-same x s t ls b
            (right x s t (expr_calls a) (expr_calls b) h),
      )
  expr-same x s t ls (cast p ty e) h = rw (kind-same x s t ls e h) (rw (expr-same x s t ls e h) refl)
  expr-same x s t ls (size_of_type p ty) h = refl
  expr-same x s t ls (call p f es) h =
      let g = right x s t (called_word f) (expr_calls f ++ exprs_calls es) h in
      let l = left x s t (expr_calls f) (exprs_calls es) g in
      let r = right x s t (expr_calls f) (exprs_calls es) g in
      let c = called-alike x s t ls f (left x s t (called_word f) (expr_calls f ++ exprs_calls es) h) in
      let ce = callee-same x s t ls f in
      let w = call_wants-same x s t ls (callee (env_at x t ls) f) es in
      let ws = call_wants (env_at x t ls) (callee (env_at x t ls) f) es in
      let m = met-same x s t ls ws es r in
      let k = call_met-same x s t ls (callee (env_at x t ls) f) es r in
      let a = args-same x s t ls ws es r in
      cc (c.unknown, ce, w, m, k, a, expr-same x s t ls f l)
  expr-same x s t ls (new p ty e) h = cc (expr-same x s t ls e h, kind-same x s t ls e h)
  expr-same x s t ls (index p a b) h =
      let l = left x s t (expr_calls a) (expr_calls b) h in
      let r = right x s t (expr_calls a) (expr_calls b) h in
      cc (kind-same x s t ls a l, kind-same x s t ls b r, expr-same x s t ls a l, expr-same x s t ls b r)
  expr-same x s t ls (dot p e n) h = cc (kind-same x s t ls e h, expr-same x s t ls e h)
  expr-same x s t ls (arrow p e n) h = cc (kind-same x s t ls e h, expr-same x s t ls e h)

  pub args-same : (x : World) (s t : List ℕ) (ls : List Local) (ws : List Want) (es : Exprs)
      → Agree x s t (exprs_calls es) → args_findings (env_at x s ls) ws es ≡ args_findings (env_at x t ls) ws es
  args-same x s t ls ws no_exprs h = refl
  args-same x s t ls ws (expr_and e es) h =
      let l = left x s t (expr_calls e) (exprs_calls es) h in
      cc (
        passed_address-same x s t ls ws e,
        kind-same x s t ls e l,
        expr-same x s t ls e l,
        args-same x s t ls
            (other_wants ws) es (right x s t (expr_calls e) (exprs_calls es) h),
      )
