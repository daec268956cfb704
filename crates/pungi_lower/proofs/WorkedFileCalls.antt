-- How each run of small functions ends, by computing from the definitions: calls of functions of the file. The expected
-- ends come from a reading of the rules.
use Rattle.std.proofs.Common.{◌≡◌, refl, List, [], ◌∷◌, Some, None, true, false, pos}
use Rattle.pungi_base.specs.declared.choice.Choice.TheVariants as choice
use Rattle.pungi_base.specs.declared.key.Key.TheVariants as keys
use Rattle.pungi_base.specs.declared.punct.Punct.TheVariants as puncts
use Rattle.pungi_base.specs.declared.value.Value.TheVariants as value
use Rattle.pungi_tree.specs.Syntax as plain
use Rattle.pungi_lower.proofs.Worked.{at, name, gives, stops, wants, goes_on, told, last_run}

-- ---- A value that is returned

-- int g(int a) { return a + 1; }
-- int f(int n) { return g(n) * 2; }
abbrev pub file_0 : List plain.Item
file_0 =
    plain.function_def (plain.head ([]) (plain.spec (at 1 1) (plain.words (keys.Int ∷ [])) 0) ([]) (name 374) (at 1 5)
    (plain.params (plain.param_and (plain.param_decl ([]) (plain.spec (at 1 7) (plain.words (keys.Int ∷ [])) 0)
    (plain.named (plain.declr ([]) (name 375) (at 1 11) (plain.sizes plain.no_sizes)))) plain.no_params) false None))
    (plain.block (at 1 14) (plain.stmt_and (plain.return (at 1 16) (Some (plain.binary (at 1 25) puncts.Plus
    (plain.word (at 1 23) (name 375)) (plain.int (at 1 27) (pos 1) false false)))) plain.no_stmts) (at 1 30)) ∷
    plain.function_def (plain.head ([]) (plain.spec (at 2 1) (plain.words (keys.Int ∷ [])) 0) ([]) (name 376) (at 2 5)
    (plain.params (plain.param_and (plain.param_decl ([]) (plain.spec (at 2 7) (plain.words (keys.Int ∷ [])) 0)
    (plain.named (plain.declr ([]) (name 377) (at 2 11) (plain.sizes plain.no_sizes)))) plain.no_params) false None))
    (plain.block (at 2 14) (plain.stmt_and (plain.return (at 2 16) (Some (plain.binary (at 2 28) puncts.Star
    (plain.call (at 2 23) (plain.word (at 2 23) (name 374)) (plain.expr_and (plain.word (at 2 25) (name 377))
    plain.no_exprs)) (plain.int (at 2 30) (pos 2) false false)))) plain.no_stmts) (at 2 33)) ∷ []

run_0 : told (last_run file_0 24 ((value.Int (pos 3)) ∷ []) ([]) 200) ≡ gives (Some (value.Int (pos 8))) (at 2 16) ([])
run_0 = refl

-- int h(int a) { return a * 2; }
-- int g(int a) { return h(a) + 1; }
-- int f(int n) { return g(n) + h(n); }
abbrev pub file_1 : List plain.Item
file_1 =
    plain.function_def (plain.head ([]) (plain.spec (at 1 1) (plain.words (keys.Int ∷ [])) 0) ([]) (name 374) (at 1 5)
    (plain.params (plain.param_and (plain.param_decl ([]) (plain.spec (at 1 7) (plain.words (keys.Int ∷ [])) 0)
    (plain.named (plain.declr ([]) (name 375) (at 1 11) (plain.sizes plain.no_sizes)))) plain.no_params) false None))
    (plain.block (at 1 14) (plain.stmt_and (plain.return (at 1 16) (Some (plain.binary (at 1 25) puncts.Star
    (plain.word (at 1 23) (name 375)) (plain.int (at 1 27) (pos 2) false false)))) plain.no_stmts) (at 1 30)) ∷
    plain.function_def (plain.head ([]) (plain.spec (at 2 1) (plain.words (keys.Int ∷ [])) 0) ([]) (name 376) (at 2 5)
    (plain.params (plain.param_and (plain.param_decl ([]) (plain.spec (at 2 7) (plain.words (keys.Int ∷ [])) 0)
    (plain.named (plain.declr ([]) (name 375) (at 2 11) (plain.sizes plain.no_sizes)))) plain.no_params) false None))
    (plain.block (at 2 14) (plain.stmt_and (plain.return (at 2 16) (Some (plain.binary (at 2 28) puncts.Plus
    (plain.call (at 2 23) (plain.word (at 2 23) (name 374)) (plain.expr_and (plain.word (at 2 25) (name 375))
    plain.no_exprs)) (plain.int (at 2 30) (pos 1) false false)))) plain.no_stmts) (at 2 33)) ∷ plain.function_def
    (plain.head ([]) (plain.spec (at 3 1) (plain.words (keys.Int ∷ [])) 0) ([]) (name 377) (at 3 5) (plain.params
    (plain.param_and (plain.param_decl ([]) (plain.spec (at 3 7) (plain.words (keys.Int ∷ [])) 0) (plain.named
    (plain.declr ([]) (name 378) (at 3 11) (plain.sizes plain.no_sizes)))) plain.no_params) false None)) (plain.block
    (at 3 14) (plain.stmt_and (plain.return (at 3 16) (Some (plain.binary (at 3 28) puncts.Plus (plain.call (at 3 23)
    (plain.word (at 3 23) (name 376)) (plain.expr_and (plain.word (at 3 25) (name 378)) plain.no_exprs)) (plain.call
    (at 3 30) (plain.word (at 3 30) (name 374)) (plain.expr_and (plain.word (at 3 32) (name 378)) plain.no_exprs)))))
    plain.no_stmts) (at 3 36)) ∷ []

run_1 : told (last_run file_1 24 ((value.Int (pos 5)) ∷ []) ([]) 200) ≡ gives (Some (value.Int (pos 21))) (at 3 16) ([])
run_1 = refl

-- ---- A function that returns nothing, and a global

-- long t;
-- void g(long a) { t = a; }
-- long f(void) { g(5); return t; }
abbrev pub file_2 : List plain.Item
file_2 =
    plain.variables (plain.decl ([]) (plain.spec (at 1 1) (plain.words (keys.Long ∷ [])) 0) ((plain.var_decl
    (plain.declr ([]) (name 374) (at 1 6) (plain.sizes plain.no_sizes)) None) ∷ [])) ∷ plain.function_def (plain.head
    ([]) (plain.spec (at 2 1) (plain.words (keys.Void ∷ [])) 0) ([]) (name 375) (at 2 6) (plain.params
    (plain.param_and (plain.param_decl ([]) (plain.spec (at 2 8) (plain.words (keys.Long ∷ [])) 0) (plain.named
    (plain.declr ([]) (name 376) (at 2 13) (plain.sizes plain.no_sizes)))) plain.no_params) false None)) (plain.block
    (at 2 16) (plain.stmt_and (plain.do_expr (at 2 18) (Some (plain.assign (at 2 20) puncts.Assign (plain.word (at 2
    18) (name 374)) (plain.word (at 2 22) (name 376))))) plain.no_stmts) (at 2 25)) ∷ plain.function_def (plain.head
    ([]) (plain.spec (at 3 1) (plain.words (keys.Long ∷ [])) 0) ([]) (name 377) (at 3 6) (plain.params plain.no_params
    true None)) (plain.block (at 3 14) (plain.stmt_and (plain.do_expr (at 3 16) (Some (plain.call (at 3 16)
    (plain.word (at 3 16) (name 375)) (plain.expr_and (plain.int (at 3 18) (pos 5) false false) plain.no_exprs))))
    (plain.stmt_and (plain.return (at 3 22) (Some (plain.word (at 3 29) (name 374)))) plain.no_stmts)) (at 3 32)) ∷ []

run_2 : told (last_run file_2 24 ([]) ((choice.Int (pos 0)) ∷ []) 200)
    ≡ gives (Some (value.Int (pos 5))) (at 3 22) (at 2 18 ∷ [])
run_2 = refl

-- long t;
-- long g(void) { return t; }
-- long f(void) { return g() - g(); }
abbrev pub file_3 : List plain.Item
file_3 =
    plain.variables (plain.decl ([]) (plain.spec (at 1 1) (plain.words (keys.Long ∷ [])) 0) ((plain.var_decl
    (plain.declr ([]) (name 374) (at 1 6) (plain.sizes plain.no_sizes)) None) ∷ [])) ∷ plain.function_def (plain.head
    ([]) (plain.spec (at 2 1) (plain.words (keys.Long ∷ [])) 0) ([]) (name 375) (at 2 6) (plain.params plain.no_params
    true None)) (plain.block (at 2 14) (plain.stmt_and (plain.return (at 2 16) (Some (plain.word (at 2 23) (name
    374)))) plain.no_stmts) (at 2 26)) ∷ plain.function_def (plain.head ([]) (plain.spec (at 3 1) (plain.words
    (keys.Long ∷ [])) 0) ([]) (name 376) (at 3 6) (plain.params plain.no_params true None)) (plain.block (at 3 14)
    (plain.stmt_and (plain.return (at 3 16) (Some (plain.binary (at 3 27) puncts.Minus (plain.call (at 3 23)
    (plain.word (at 3 23) (name 375)) plain.no_exprs) (plain.call (at 3 29) (plain.word (at 3 29) (name 375))
    plain.no_exprs)))) plain.no_stmts) (at 3 34)) ∷ []

run_3 : told (last_run file_3 24 ([]) ((choice.Int (pos 9)) ∷ []) 200)
    ≡ gives (Some (value.Int (pos 0))) (at 3 16) (at 2 23 ∷ [])
run_3 = refl

-- ---- Conversions of arguments and of results

-- int g(int a) { return a; }
-- int f(long n) { return g(n); }
abbrev pub file_4 : List plain.Item
file_4 =
    plain.function_def (plain.head ([]) (plain.spec (at 1 1) (plain.words (keys.Int ∷ [])) 0) ([]) (name 374) (at 1 5)
    (plain.params (plain.param_and (plain.param_decl ([]) (plain.spec (at 1 7) (plain.words (keys.Int ∷ [])) 0)
    (plain.named (plain.declr ([]) (name 375) (at 1 11) (plain.sizes plain.no_sizes)))) plain.no_params) false None))
    (plain.block (at 1 14) (plain.stmt_and (plain.return (at 1 16) (Some (plain.word (at 1 23) (name 375))))
    plain.no_stmts) (at 1 26)) ∷ plain.function_def (plain.head ([]) (plain.spec (at 2 1) (plain.words (keys.Int ∷
    [])) 0) ([]) (name 376) (at 2 5) (plain.params (plain.param_and (plain.param_decl ([]) (plain.spec (at 2 7)
    (plain.words (keys.Long ∷ [])) 0) (plain.named (plain.declr ([]) (name 377) (at 2 12) (plain.sizes
    plain.no_sizes)))) plain.no_params) false None)) (plain.block (at 2 15) (plain.stmt_and (plain.return (at 2 17)
    (Some (plain.call (at 2 24) (plain.word (at 2 24) (name 374)) (plain.expr_and (plain.word (at 2 26) (name 377))
    plain.no_exprs)))) plain.no_stmts) (at 2 30)) ∷ []

run_4 : told (last_run file_4 24 ((value.Int (pos 7)) ∷ []) ([]) 200) ≡ gives (Some (value.Int (pos 7))) (at 2 17) ([])
run_4 = refl

-- int g(int a) { return a; }
-- int f(long n) { return g(n); }
run_5 : told (last_run file_4 24 ((value.Int (pos 3000000000)) ∷ []) ([]) 200) ≡ stops (at 2 26)
run_5 = refl

-- int g(long a) { return a; }
-- long f(long n) { return g(n) + 1; }
abbrev pub file_6 : List plain.Item
file_6 =
    plain.function_def (plain.head ([]) (plain.spec (at 1 1) (plain.words (keys.Int ∷ [])) 0) ([]) (name 374) (at 1 5)
    (plain.params (plain.param_and (plain.param_decl ([]) (plain.spec (at 1 7) (plain.words (keys.Long ∷ [])) 0)
    (plain.named (plain.declr ([]) (name 375) (at 1 12) (plain.sizes plain.no_sizes)))) plain.no_params) false None))
    (plain.block (at 1 15) (plain.stmt_and (plain.return (at 1 17) (Some (plain.word (at 1 24) (name 375))))
    plain.no_stmts) (at 1 27)) ∷ plain.function_def (plain.head ([]) (plain.spec (at 2 1) (plain.words (keys.Long ∷
    [])) 0) ([]) (name 376) (at 2 6) (plain.params (plain.param_and (plain.param_decl ([]) (plain.spec (at 2 8)
    (plain.words (keys.Long ∷ [])) 0) (plain.named (plain.declr ([]) (name 377) (at 2 13) (plain.sizes
    plain.no_sizes)))) plain.no_params) false None)) (plain.block (at 2 16) (plain.stmt_and (plain.return (at 2 18)
    (Some (plain.binary (at 2 30) puncts.Plus (plain.call (at 2 25) (plain.word (at 2 25) (name 374)) (plain.expr_and
    (plain.word (at 2 27) (name 377)) plain.no_exprs)) (plain.int (at 2 32) (pos 1) false false)))) plain.no_stmts)
    (at 2 35)) ∷ []

run_6 : told (last_run file_6 24 ((value.Int (pos 7)) ∷ []) ([]) 200) ≡ gives (Some (value.Int (pos 8))) (at 2 18) ([])
run_6 = refl

-- int g(long a) { return a; }
-- long f(long n) { return g(n) + 1; }
run_7 : told (last_run file_6 24 ((value.Int (pos 3000000000)) ∷ []) ([]) 200) ≡ stops (at 1 17)
run_7 = refl

-- ---- From left to right

-- long t;
-- int g(int a) { t = t * 10 + a; return a; }
-- int h(int a, int b) { return a - b; }
-- long f(void) { t = 0; h(g(1), g(2)); return t; }
abbrev pub file_8 : List plain.Item
file_8 =
    plain.variables (plain.decl ([]) (plain.spec (at 1 1) (plain.words (keys.Long ∷ [])) 0) ((plain.var_decl
    (plain.declr ([]) (name 374) (at 1 6) (plain.sizes plain.no_sizes)) None) ∷ [])) ∷ plain.function_def (plain.head
    ([]) (plain.spec (at 2 1) (plain.words (keys.Int ∷ [])) 0) ([]) (name 375) (at 2 5) (plain.params (plain.param_and
    (plain.param_decl ([]) (plain.spec (at 2 7) (plain.words (keys.Int ∷ [])) 0) (plain.named (plain.declr ([]) (name
    376) (at 2 11) (plain.sizes plain.no_sizes)))) plain.no_params) false None)) (plain.block (at 2 14)
    (plain.stmt_and (plain.do_expr (at 2 16) (Some (plain.assign (at 2 18) puncts.Assign (plain.word (at 2 16) (name
    374)) (plain.binary (at 2 27) puncts.Plus (plain.binary (at 2 22) puncts.Star (plain.word (at 2 20) (name 374))
    (plain.int (at 2 24) (pos 10) false false)) (plain.word (at 2 29) (name 376)))))) (plain.stmt_and (plain.return
    (at 2 32) (Some (plain.word (at 2 39) (name 376)))) plain.no_stmts)) (at 2 42)) ∷ plain.function_def (plain.head
    ([]) (plain.spec (at 3 1) (plain.words (keys.Int ∷ [])) 0) ([]) (name 377) (at 3 5) (plain.params (plain.param_and
    (plain.param_decl ([]) (plain.spec (at 3 7) (plain.words (keys.Int ∷ [])) 0) (plain.named (plain.declr ([]) (name
    376) (at 3 11) (plain.sizes plain.no_sizes)))) (plain.param_and (plain.param_decl ([]) (plain.spec (at 3 14)
    (plain.words (keys.Int ∷ [])) 0) (plain.named (plain.declr ([]) (name 378) (at 3 18) (plain.sizes
    plain.no_sizes)))) plain.no_params)) false None)) (plain.block (at 3 21) (plain.stmt_and (plain.return (at 3 23)
    (Some (plain.binary (at 3 32) puncts.Minus (plain.word (at 3 30) (name 376)) (plain.word (at 3 34) (name 378)))))
    plain.no_stmts) (at 3 37)) ∷ plain.function_def (plain.head ([]) (plain.spec (at 4 1) (plain.words (keys.Long ∷
    [])) 0) ([]) (name 379) (at 4 6) (plain.params plain.no_params true None)) (plain.block (at 4 14) (plain.stmt_and
    (plain.do_expr (at 4 16) (Some (plain.assign (at 4 18) puncts.Assign (plain.word (at 4 16) (name 374)) (plain.int
    (at 4 20) (pos 0) false false)))) (plain.stmt_and (plain.do_expr (at 4 23) (Some (plain.call (at 4 23) (plain.word
    (at 4 23) (name 377)) (plain.expr_and (plain.call (at 4 25) (plain.word (at 4 25) (name 375)) (plain.expr_and
    (plain.int (at 4 27) (pos 1) false false) plain.no_exprs)) (plain.expr_and (plain.call (at 4 31) (plain.word (at 4
    31) (name 375)) (plain.expr_and (plain.int (at 4 33) (pos 2) false false) plain.no_exprs)) plain.no_exprs)))))
    (plain.stmt_and (plain.return (at 4 38) (Some (plain.word (at 4 45) (name 374)))) plain.no_stmts))) (at 4 48)) ∷
    []

run_8 : told (last_run file_8 24 ([]) ((choice.Int (pos 7)) ∷ []) 300)
    ≡ gives (Some (value.Int (pos 12))) (at 4 38) (at 4 16 ∷ [])
run_8 = refl

-- ---- A function that calls itself

-- int f(int n) { if (n < 2) return 1; return n * f(n - 1); }
abbrev pub file_9 : List plain.Item
file_9 =
    plain.function_def (plain.head ([]) (plain.spec (at 1 1) (plain.words (keys.Int ∷ [])) 0) ([]) (name 374) (at 1 5)
    (plain.params (plain.param_and (plain.param_decl ([]) (plain.spec (at 1 7) (plain.words (keys.Int ∷ [])) 0)
    (plain.named (plain.declr ([]) (name 375) (at 1 11) (plain.sizes plain.no_sizes)))) plain.no_params) false None))
    (plain.block (at 1 14) (plain.stmt_and (plain.if_only (at 1 16) (plain.binary (at 1 22) puncts.Less (plain.word
    (at 1 20) (name 375)) (plain.int (at 1 24) (pos 2) false false)) (plain.return (at 1 27) (Some (plain.int (at 1
    34) (pos 1) false false)))) (plain.stmt_and (plain.return (at 1 37) (Some (plain.binary (at 1 46) puncts.Star
    (plain.word (at 1 44) (name 375)) (plain.call (at 1 48) (plain.word (at 1 48) (name 374)) (plain.expr_and
    (plain.binary (at 1 52) puncts.Minus (plain.word (at 1 50) (name 375)) (plain.int (at 1 54) (pos 1) false false))
    plain.no_exprs))))) plain.no_stmts)) (at 1 58)) ∷ []

run_9 : told (last_run file_9 24 ((value.Int (pos 1)) ∷ []) ([]) 300) ≡ gives (Some (value.Int (pos 1))) (at 1 27) ([])
run_9 = refl

-- int f(int n) { if (n < 2) return 1; return n * f(n - 1); }
run_10 : told (last_run file_9 24 ((value.Int (pos 5)) ∷ []) ([]) 300)
    ≡ gives (Some (value.Int (pos 120))) (at 1 37) ([])
run_10 = refl

-- int f(int n) { return f(n); }
abbrev pub file_11 : List plain.Item
file_11 =
    plain.function_def (plain.head ([]) (plain.spec (at 1 1) (plain.words (keys.Int ∷ [])) 0) ([]) (name 374) (at 1 5)
    (plain.params (plain.param_and (plain.param_decl ([]) (plain.spec (at 1 7) (plain.words (keys.Int ∷ [])) 0)
    (plain.named (plain.declr ([]) (name 375) (at 1 11) (plain.sizes plain.no_sizes)))) plain.no_params) false None))
    (plain.block (at 1 14) (plain.stmt_and (plain.return (at 1 16) (Some (plain.call (at 1 23) (plain.word (at 1 23)
    (name 374)) (plain.expr_and (plain.word (at 1 25) (name 375)) plain.no_exprs)))) plain.no_stmts) (at 1 29)) ∷ []

run_11 : told (last_run file_11 24 ((value.Int (pos 1)) ∷ []) ([]) 300) ≡ goes_on
run_11 = refl

-- ---- A function that stops

-- int g(int a) { return 1 / a; }
-- int f(int n) { g(n); return 2; }
abbrev pub file_12 : List plain.Item
file_12 =
    plain.function_def (plain.head ([]) (plain.spec (at 1 1) (plain.words (keys.Int ∷ [])) 0) ([]) (name 374) (at 1 5)
    (plain.params (plain.param_and (plain.param_decl ([]) (plain.spec (at 1 7) (plain.words (keys.Int ∷ [])) 0)
    (plain.named (plain.declr ([]) (name 375) (at 1 11) (plain.sizes plain.no_sizes)))) plain.no_params) false None))
    (plain.block (at 1 14) (plain.stmt_and (plain.return (at 1 16) (Some (plain.binary (at 1 25) puncts.Slash
    (plain.int (at 1 23) (pos 1) false false) (plain.word (at 1 27) (name 375))))) plain.no_stmts) (at 1 30)) ∷
    plain.function_def (plain.head ([]) (plain.spec (at 2 1) (plain.words (keys.Int ∷ [])) 0) ([]) (name 376) (at 2 5)
    (plain.params (plain.param_and (plain.param_decl ([]) (plain.spec (at 2 7) (plain.words (keys.Int ∷ [])) 0)
    (plain.named (plain.declr ([]) (name 377) (at 2 11) (plain.sizes plain.no_sizes)))) plain.no_params) false None))
    (plain.block (at 2 14) (plain.stmt_and (plain.do_expr (at 2 16) (Some (plain.call (at 2 16) (plain.word (at 2 16)
    (name 374)) (plain.expr_and (plain.word (at 2 18) (name 377)) plain.no_exprs)))) (plain.stmt_and (plain.return (at
    2 22) (Some (plain.int (at 2 29) (pos 2) false false))) plain.no_stmts)) (at 2 32)) ∷ []

run_12 : told (last_run file_12 24 ((value.Int (pos 1)) ∷ []) ([]) 200)
    ≡ gives (Some (value.Int (pos 2))) (at 2 22) ([])
run_12 = refl

-- int g(int a) { return 1 / a; }
-- int f(int n) { g(n); return 2; }
run_13 : told (last_run file_12 24 ((value.Int (pos 0)) ∷ []) ([]) 200) ≡ stops (at 1 25)
run_13 = refl

-- int g(int a) { if (a) return 5; }
-- int f(int n) { return g(n); }
abbrev pub file_14 : List plain.Item
file_14 =
    plain.function_def (plain.head ([]) (plain.spec (at 1 1) (plain.words (keys.Int ∷ [])) 0) ([]) (name 374) (at 1 5)
    (plain.params (plain.param_and (plain.param_decl ([]) (plain.spec (at 1 7) (plain.words (keys.Int ∷ [])) 0)
    (plain.named (plain.declr ([]) (name 375) (at 1 11) (plain.sizes plain.no_sizes)))) plain.no_params) false None))
    (plain.block (at 1 14) (plain.stmt_and (plain.if_only (at 1 16) (plain.word (at 1 20) (name 375)) (plain.return
    (at 1 23) (Some (plain.int (at 1 30) (pos 5) false false)))) plain.no_stmts) (at 1 33)) ∷ plain.function_def
    (plain.head ([]) (plain.spec (at 2 1) (plain.words (keys.Int ∷ [])) 0) ([]) (name 376) (at 2 5) (plain.params
    (plain.param_and (plain.param_decl ([]) (plain.spec (at 2 7) (plain.words (keys.Int ∷ [])) 0) (plain.named
    (plain.declr ([]) (name 377) (at 2 11) (plain.sizes plain.no_sizes)))) plain.no_params) false None)) (plain.block
    (at 2 14) (plain.stmt_and (plain.return (at 2 16) (Some (plain.call (at 2 23) (plain.word (at 2 23) (name 374))
    (plain.expr_and (plain.word (at 2 25) (name 377)) plain.no_exprs)))) plain.no_stmts) (at 2 29)) ∷ []

run_14 : told (last_run file_14 24 ((value.Int (pos 1)) ∷ []) ([]) 200)
    ≡ gives (Some (value.Int (pos 5))) (at 2 16) ([])
run_14 = refl

-- int g(int a) { if (a) return 5; }
-- int f(int n) { return g(n); }
run_15 : told (last_run file_14 24 ((value.Int (pos 0)) ∷ []) ([]) 200) ≡ stops (at 1 33)
run_15 = refl

-- ---- Its locals are its own

-- int g(int a) { int s = 7; a = 9; return s; }
-- int f(int a) { int s = 1; g(a); return a * 10 + s; }
abbrev pub file_16 : List plain.Item
file_16 =
    plain.function_def (plain.head ([]) (plain.spec (at 1 1) (plain.words (keys.Int ∷ [])) 0) ([]) (name 374) (at 1 5)
    (plain.params (plain.param_and (plain.param_decl ([]) (plain.spec (at 1 7) (plain.words (keys.Int ∷ [])) 0)
    (plain.named (plain.declr ([]) (name 375) (at 1 11) (plain.sizes plain.no_sizes)))) plain.no_params) false None))
    (plain.block (at 1 14) (plain.stmt_and (plain.declare (at 1 16) (plain.decl ([]) (plain.spec (at 1 16)
    (plain.words (keys.Int ∷ [])) 0) ((plain.var_decl (plain.declr ([]) (name 376) (at 1 20) (plain.sizes
    plain.no_sizes)) (Some (plain.value (plain.int (at 1 24) (pos 7) false false)))) ∷ []))) (plain.stmt_and
    (plain.do_expr (at 1 27) (Some (plain.assign (at 1 29) puncts.Assign (plain.word (at 1 27) (name 375)) (plain.int
    (at 1 31) (pos 9) false false)))) (plain.stmt_and (plain.return (at 1 34) (Some (plain.word (at 1 41) (name
    376)))) plain.no_stmts))) (at 1 44)) ∷ plain.function_def (plain.head ([]) (plain.spec (at 2 1) (plain.words
    (keys.Int ∷ [])) 0) ([]) (name 377) (at 2 5) (plain.params (plain.param_and (plain.param_decl ([]) (plain.spec (at
    2 7) (plain.words (keys.Int ∷ [])) 0) (plain.named (plain.declr ([]) (name 375) (at 2 11) (plain.sizes
    plain.no_sizes)))) plain.no_params) false None)) (plain.block (at 2 14) (plain.stmt_and (plain.declare (at 2 16)
    (plain.decl ([]) (plain.spec (at 2 16) (plain.words (keys.Int ∷ [])) 0) ((plain.var_decl (plain.declr ([]) (name
    376) (at 2 20) (plain.sizes plain.no_sizes)) (Some (plain.value (plain.int (at 2 24) (pos 1) false false)))) ∷
    []))) (plain.stmt_and (plain.do_expr (at 2 27) (Some (plain.call (at 2 27) (plain.word (at 2 27) (name 374))
    (plain.expr_and (plain.word (at 2 29) (name 375)) plain.no_exprs)))) (plain.stmt_and (plain.return (at 2 33) (Some
    (plain.binary (at 2 47) puncts.Plus (plain.binary (at 2 42) puncts.Star (plain.word (at 2 40) (name 375))
    (plain.int (at 2 44) (pos 10) false false)) (plain.word (at 2 49) (name 376))))) plain.no_stmts))) (at 2 52)) ∷ []

run_16 : told (last_run file_16 24 ((value.Int (pos 4)) ∷ []) ([]) 200)
    ≡ gives (Some (value.Int (pos 41))) (at 2 33) ([])
run_16 = refl

-- int g(int a) { int s; return s; }
-- int f(int n) { int s = 3; return g(n); }
abbrev pub file_17 : List plain.Item
file_17 =
    plain.function_def (plain.head ([]) (plain.spec (at 1 1) (plain.words (keys.Int ∷ [])) 0) ([]) (name 374) (at 1 5)
    (plain.params (plain.param_and (plain.param_decl ([]) (plain.spec (at 1 7) (plain.words (keys.Int ∷ [])) 0)
    (plain.named (plain.declr ([]) (name 375) (at 1 11) (plain.sizes plain.no_sizes)))) plain.no_params) false None))
    (plain.block (at 1 14) (plain.stmt_and (plain.declare (at 1 16) (plain.decl ([]) (plain.spec (at 1 16)
    (plain.words (keys.Int ∷ [])) 0) ((plain.var_decl (plain.declr ([]) (name 376) (at 1 20) (plain.sizes
    plain.no_sizes)) None) ∷ []))) (plain.stmt_and (plain.return (at 1 23) (Some (plain.word (at 1 30) (name 376))))
    plain.no_stmts)) (at 1 33)) ∷ plain.function_def (plain.head ([]) (plain.spec (at 2 1) (plain.words (keys.Int ∷
    [])) 0) ([]) (name 377) (at 2 5) (plain.params (plain.param_and (plain.param_decl ([]) (plain.spec (at 2 7)
    (plain.words (keys.Int ∷ [])) 0) (plain.named (plain.declr ([]) (name 378) (at 2 11) (plain.sizes
    plain.no_sizes)))) plain.no_params) false None)) (plain.block (at 2 14) (plain.stmt_and (plain.declare (at 2 16)
    (plain.decl ([]) (plain.spec (at 2 16) (plain.words (keys.Int ∷ [])) 0) ((plain.var_decl (plain.declr ([]) (name
    376) (at 2 20) (plain.sizes plain.no_sizes)) (Some (plain.value (plain.int (at 2 24) (pos 3) false false)))) ∷
    []))) (plain.stmt_and (plain.return (at 2 27) (Some (plain.call (at 2 34) (plain.word (at 2 34) (name 374))
    (plain.expr_and (plain.word (at 2 36) (name 378)) plain.no_exprs)))) plain.no_stmts)) (at 2 40)) ∷ []

run_17 : told (last_run file_17 24 ((value.Int (pos 1)) ∷ []) ([]) 200) ≡ stops (at 1 30)
run_17 = refl

-- ---- The API

-- PyObject *g(PyObject *x) { return PyObject_Str(x); }
-- PyObject *f(PyObject *x) { PyObject *a = g(x); return g(a); }
abbrev pub file_18 : List plain.Item
file_18 =
    plain.function_def (plain.head ([]) (plain.spec (at 1 1) (plain.alias (name 48)) 0) (0 ∷ []) (name 374) (at 1 11)
    (plain.params (plain.param_and (plain.param_decl ([]) (plain.spec (at 1 13) (plain.alias (name 48)) 0)
    (plain.named (plain.declr (0 ∷ []) (name 375) (at 1 23) (plain.sizes plain.no_sizes)))) plain.no_params) false
    None)) (plain.block (at 1 26) (plain.stmt_and (plain.return (at 1 28) (Some (plain.call (at 1 35) (plain.word (at
    1 35) (name 109)) (plain.expr_and (plain.word (at 1 48) (name 375)) plain.no_exprs)))) plain.no_stmts) (at 1 52))
    ∷ plain.function_def (plain.head ([]) (plain.spec (at 2 1) (plain.alias (name 48)) 0) (0 ∷ []) (name 376) (at 2
    11) (plain.params (plain.param_and (plain.param_decl ([]) (plain.spec (at 2 13) (plain.alias (name 48)) 0)
    (plain.named (plain.declr (0 ∷ []) (name 375) (at 2 23) (plain.sizes plain.no_sizes)))) plain.no_params) false
    None)) (plain.block (at 2 26) (plain.stmt_and (plain.declare (at 2 28) (plain.decl ([]) (plain.spec (at 2 28)
    (plain.alias (name 48)) 0) ((plain.var_decl (plain.declr (0 ∷ []) (name 377) (at 2 38) (plain.sizes
    plain.no_sizes)) (Some (plain.value (plain.call (at 2 42) (plain.word (at 2 42) (name 374)) (plain.expr_and
    (plain.word (at 2 44) (name 375)) plain.no_exprs))))) ∷ []))) (plain.stmt_and (plain.return (at 2 48) (Some
    (plain.call (at 2 55) (plain.word (at 2 55) (name 374)) (plain.expr_and (plain.word (at 2 57) (name 377))
    plain.no_exprs)))) plain.no_stmts)) (at 2 61)) ∷ []

run_18 : told (last_run file_18 24 ((value.Object 5) ∷ []) ((choice.Object 24) ∷ (choice.Object 25) ∷ []) 200)
    ≡ gives (Some (value.Object 25)) (at 2 48) (at 1 35 ∷ at 1 35 ∷ [])
run_18 = refl

-- PyObject *g(PyObject *x) { return PyObject_Str(x); }
-- PyObject *f(PyObject *x) { PyObject *a = g(x); return g(a); }
run_19 : told (last_run file_18 24 ((value.Object 5) ∷ []) (choice.Null ∷ []) 200) ≡ stops (at 1 35)
run_19 = refl

-- PyObject *g(PyObject *x) { return PyObject_Str(x); }
-- PyObject *f(PyObject *x) { PyObject *a = g(x); return g(a); }
run_20 : told (last_run file_18 24 ((value.Object 5) ∷ []) ((choice.Object 24) ∷ []) 200) ≡ wants
run_20 = refl
