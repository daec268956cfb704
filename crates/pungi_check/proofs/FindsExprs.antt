-- Where an expression calls a function of the set, a rule holds in it.
use Rattle.std.proofs.Common.{◌≡◌, ℕ, Bool, true, false, List, Option, Some, None, refl}
use Rattle.std.specs.Prelude.{◌&&◌, ◌||◌, not, if◌then◌else◌}
use Rattle.pungi_base.specs.declared.pos.Pos.{Pos}
use Rattle.pungi_tree.specs.Syntax.{Expr, word, int, float, char, text, null, paren, unary, post, binary, assign}
use Rattle.pungi_tree.specs.Syntax.{conditional, comma, cast, size_of_type, call, new, index, dot, arrow, Exprs}
use Rattle.pungi_tree.specs.Syntax.{no_exprs, expr_and}
use Rattle.pungi_types.specs.Files.{Definition, definitions, definition_in}
use Rattle.pungi_types.specs.Names.{local_in, is_some_definition}
use Rattle.pungi_types.specs.Operators.{prefix_of}
use Rattle.pungi_types.specs.declared.local.Local.{Local}
use Rattle.pungi_types.specs.declared.wants.Want.{Want}
use Rattle.pungi_types.specs.Findings.{Findings, nothing_found, when}
use Rattle.pungi_types.specs.Calls.{is_address, names_type_object, names_module, names_local, passed_address}
use Rattle.pungi_types.specs.Calls.{local_called_or, defined_or, callee_of, callee, call_wants, wants_module}
use Rattle.pungi_types.specs.Calls.{wants_output, other_wants, takes_arguments, is_word}
use Rattle.pungi_types.specs.Exprs.{is_call_met, is_unknown_call, is_value_called, n11, node_findings, expr_findings}
use Rattle.pungi_types.specs.Exprs.{args_findings}
use Rattle.pungi_check.specs.Calls.{called_word, expr_calls, exprs_calls}
use Rattle.pungi_check.proofs.Places.{World, env_at, other_in, refused_call}
use Rattle.pungi_check.proofs.Agreement.{is_found, Finds, none, first, second, either, both, or-left}
use Rattle.pungi_check.proofs.SameKinds.{IsNamed, definition_in-named}

noted : (u v w r : Bool) (p : Pos) → (u || v) ≡ true
    → (is_found (when u p 9) || (is_found (when (v || w) p 10) || r)) ≡ true
noted true v w r p h = refl
noted false true w r p h = refl
noted false false w r p h = absurd (cc)

defined_refused : (x : World) (t : List ℕ) (ls : List Local) (w : ℕ) (o : Option Definition) → IsNamed w o
    → (is_some_definition o && other_in x t w) ≡ true
    → is_unknown_call (env_at x t ls) (defined_or (env_at x t ls) w o) ≡ true
defined_refused x t ls w None n h = absurd (cc)
defined_refused x t ls w (Some d) n h = rw n h

unknown_or_value : (x : World) (t : List ℕ) (ls : List Local) (w : ℕ) (o : Option Local) → refused_call x t w ≡ true
    → (is_unknown_call (env_at x t ls) (local_called_or (env_at x t ls) w o)
    || is_value_called (local_called_or (env_at x t ls) w o)) ≡ true
unknown_or_value x t ls w (Some l) h = refl
unknown_or_value x t ls w None h =
    or-left _ _ (defined_refused x t ls w (definition_in (definitions x.file.items) w)
    (definition_in-named (definitions x.file.items) w) h)

or_false : (a : Bool) → (a || false) ≡ true → a ≡ true
or_false true h = refl
or_false false h = h

called-finds : (x : World) (t : List ℕ) (ls : List Local) (p : Pos) (f : Expr) (es : Exprs)
    → Finds (refused_call x t) (called_word f) (node_findings (env_at x t ls) (call p f es))
called-finds x t ls p (word q n) es =
    let env = env_at x t ls in
    let c = callee_of env n.0 in
    record {
      found = λ k. noted (is_unknown_call env c) (is_value_called c) (takes_arguments c
          && not (is_call_met env c es)) (is_found (n11 env (call p (word q n) es)) || false) p
          (unknown_or_value x t ls n.0 (local_in ls n.0) (or_false (refused_call x t n.0) k));
    }
called-finds x t ls p _ es = none (refused_call x t) _

no-names : (a b c : Bool) → ((a && (c && false)) || (b && (c && false))) ≡ false
no-names true true true = refl
no-names true true false = refl
no-names true false true = refl
no-names true false false = refl
no-names false true true = refl
no-names false true false = refl
no-names false false c = refl

no-address : (a b : Bool) → ((a && false) || (b && false)) ≡ false
no-address true true = refl
no-address true false = refl
no-address false true = refl
no-address false false = refl

unless_type_object : (x : World) (t : List ℕ) (ls : List Local) (b : Bool) (e : Expr) (fs : Findings)
    → Finds (refused_call x t) (expr_calls e) fs
    → Finds (refused_call x t) (expr_calls e) (if b
    && names_type_object (env_at x t ls) e then nothing_found else fs)
unless_type_object x t ls false e fs h = h
unless_type_object x t ls true (word p n) fs h = none (refused_call x t) _
unless_type_object x t ls true _ fs h = h

unless_names : (x : World) (t : List ℕ) (ls : List Local) (a b c : Bool) (e : Expr) (fs : Findings)
    → Finds (refused_call x t) (expr_calls e) fs
    → Finds (refused_call x t) (expr_calls e) (if (a && (c && names_module (env_at x t ls) e))
    || (b && (c && names_local (env_at x t ls) e)) then nothing_found else fs)
unless_names x t ls a b c (word p n) fs h = none (refused_call x t) _
unless_names x t ls a b c _ fs h = rw (no-names a b c) h

unless_passed : (x : World) (t : List ℕ) (ls : List Local) (ws : List Want) (e : Expr) (fs : Findings)
    → Finds (refused_call x t) (expr_calls e) fs
    → Finds (refused_call x t) (expr_calls e) (if passed_address (env_at x t ls) ws e then nothing_found else fs)
unless_passed x t ls ws (unary p k e) fs h =
    unless_names x t ls (wants_module ws) (wants_output ws) (is_address (prefix_of k)) e fs h
unless_passed x t ls ws _ fs h = rw (no-address (wants_module ws) (wants_output ws)) h

unless_word : (x : World) (t : List ℕ) (f : Expr) (fs : Findings) → Finds (refused_call x t) (expr_calls f) fs
    → Finds (refused_call x t) (expr_calls f) (if is_word f then nothing_found else fs)
unless_word x t (word p n) fs h = none (refused_call x t) _
unless_word x t _ fs h = h

mutual
  pub expr-finds : (x : World) (t : List ℕ) (ls : List Local) (e : Expr)
      → Finds (refused_call x t) (expr_calls e) (expr_findings (env_at x t ls) e)
  expr-finds x t ls (word p n) = none (refused_call x t) _
  expr-finds x t ls (int p v l u) = none (refused_call x t) _
  expr-finds x t ls (float p) = none (refused_call x t) _
  expr-finds x t ls (char p c) = none (refused_call x t) _
  expr-finds x t ls (text p ns) = none (refused_call x t) _
  expr-finds x t ls (null p) = none (refused_call x t) _
  expr-finds x t ls (paren p e) = expr-finds x t ls e
  expr-finds x t ls (unary p k e) = first (refused_call x t) _ _ _ (unless_type_object x t ls
      (is_address (prefix_of k)) e _ (expr-finds x t ls e))
  expr-finds x t ls (post p m e) = first (refused_call x t) _ _ _ (expr-finds x t ls e)
  expr-finds x t ls (binary p m a b) = both (refused_call x t) _ _ _ _ (expr-finds x t ls a)
      (first (refused_call x t) _ _ _ (expr-finds x t ls b))
  expr-finds x t ls (assign p m a b) = both (refused_call x t) _ _ _ _ (expr-finds x t ls a)
      (first (refused_call x t) _ _ _ (expr-finds x t ls b))
  expr-finds x t ls (conditional p c a b) =
      both (refused_call x t) _ _ _ _ (expr-finds x t ls c) (both (refused_call x t) _ _ _ _ (expr-finds x t ls a)
      (first (refused_call x t) _ _ _ (expr-finds x t ls b)))
  expr-finds x t ls (comma p a b) = both (refused_call x t) _ _ _ _ (expr-finds x t ls a)
      (first (refused_call x t) _ _ _ (expr-finds x t ls b))
  expr-finds x t ls (cast p ty e) = first (refused_call x t) _ _ _ (expr-finds x t ls e)
  expr-finds x t ls (size_of_type p ty) = none (refused_call x t) _
  expr-finds x t ls (call p f es) =
      let q = refused_call x t in
      either q _ _ _ (second q _ _ _ (second q _ _ _ (called-finds x t ls p f es)))
      (either q _ _ _ (second q _ _ _ (first q _ _ _ (unless_word x t f _ (expr-finds x t ls f))))
      (first q _ _ _ (args-finds x t ls (call_wants (env_at x t ls) (callee (env_at x t ls) f) es) es)))
  expr-finds x t ls (new p ty e) = first (refused_call x t) _ _ _ (expr-finds x t ls e)
  expr-finds x t ls (index p a b) = both (refused_call x t) _ _ _ _ (expr-finds x t ls a)
      (first (refused_call x t) _ _ _ (expr-finds x t ls b))
  expr-finds x t ls (dot p e n) = first (refused_call x t) _ _ _ (expr-finds x t ls e)
  expr-finds x t ls (arrow p e n) = first (refused_call x t) _ _ _ (expr-finds x t ls e)

  pub args-finds : (x : World) (t : List ℕ) (ls : List Local) (ws : List Want) (es : Exprs)
      → Finds (refused_call x t) (exprs_calls es) (args_findings (env_at x t ls) ws es)
  args-finds x t ls ws no_exprs = none (refused_call x t) _
  args-finds x t ls ws (expr_and e es) =
      both (refused_call x t) _ _ _ _ (unless_passed x t ls ws e _
      (first (refused_call x t) _ _ _ (expr-finds x t ls e))) (args-finds x t ls (other_wants ws) es)
