-- The rules on expressions, one function for each case.
use Rattle.std.proofs.Common.{◌≡◌, refl, List, [], ◌∷◌, map, Some, None, true, false, pos}
use Rattle.pungi_base.specs.declared.key.Key.TheVariants as keys
use Rattle.pungi_base.specs.declared.kind.Kind.TheVariants as tokens
use Rattle.pungi_base.specs.declared.punct.Punct.TheVariants as puncts
use Rattle.pungi_tree.specs.Syntax as plain
use Rattle.pungi_types.specs.Files.{definitions}
use Rattle.pungi_types.specs.Findings.{least}
use Rattle.pungi_check.specs.Duplicates.{faults}
use Rattle.pungi_types.specs.Functions.{refusal}
use Rattle.pungi_resolve.specs.Functions.{resolved}
use Rattle.pungi_resolve.specs.Sound.{is_sound_action}
use Rattle.pungi_check.proofs.worked.Words.{at, manual_file, name, passed, told}

-- int a1(int a) { return a & 1; }
-- int a2(int a) { return sizeof(a); }
-- int a3(int a) { a <<= 1; return a; }
-- int a4(int a) { return a, a; }
-- int a5(int a) { double d; return 1.5; }
-- int a6(PyObject *p) { return *p; }
-- int a7(PyObject *p) { return p[0]; }
-- int a8(int a) { return (a)(); }
-- int a9(int a) { return a9; }
-- int b1(PyObject *p) { return (int)p; }
-- int b2(int *p) { return 1; }
-- int b3(PyObject *p) { return &p == NULL; }
-- PyObject *b4(void) { return (PyObject *)&PyList_Type; }
-- PyObject *b5(void) { return PyList_Type; }
-- int b6(PyObject *p) { return p + 1; }
-- int b7(PyObject *p) { p++; return 1; }
-- int b8(PyObject *p) { p += 1; return -p; }
-- int b9(void) { return 5u; }
-- long c1(void) { return 9223372036854775808; }
-- int c2(void) { return x; }
-- int c3(PyObject *x) { Py_INCREF(x, x); return 1; }
-- int c4(PyObject *x) { return Py_INCREF(x); }
-- int c5(PyObject *x) { return Py_DECREF(x) + 1; }
-- void c6(PyObject *x) { (void)Py_INCREF(x); (void)x; Py_XDECREF(NULL); }
-- PyObject *c7(PyObject *x) { return PyNumber_Add(x, 1); }
-- PyObject *c8(PyObject *x) { return PyList_New(1); }
-- int c9(PyObject *x) { return x ? 1 : x; }
-- PyObject *d1(PyObject *x) { return x ? x : NULL; }
-- int d2(PyObject *x) { return PyModule_Create(x) == x; }
-- int d3(PyObject *x) { if (!x && x == Py_None || 1) return 'c' < 2; return "a" == "b"; }
-- int d4(PyObject *x) { return Py_INCREF; }
-- int d5(int x) { return x(1); }
-- int d6(int x) { (x) = 1; 3 = x; return x; }
-- int d7(int x) { x = (x = 2) + x++; ++x; return !x; }
-- PyObject *d8(char *s) { return (PyObject *)s; }
-- int d9(int Py_UNUSED(z)) { return z; }
abbrev file_4 : List plain.Item
file_4 =
    plain.function_def (plain.head ([]) (plain.spec (at 1 1) (plain.words (keys.Int ∷ [])) 0) ([]) (name 411)
    (at 1 5) (plain.params (plain.param_and (plain.param_decl ([]) (plain.spec (at 1 8)
    (plain.words (keys.Int ∷ [])) 0) (plain.named (plain.declr ([]) (name 390) (at 1 12)
    (plain.sizes plain.no_sizes)))) plain.no_params) false None)) (plain.block (at 1 15)
    (plain.stmt_and (plain.return (at 1 17) (Some (plain.binary (at 1 26) puncts.And
    (plain.word (at 1 24) (name 390)) (plain.int (at 1 28) (pos 1) false false)))) plain.no_stmts) (at 1 31))
    ∷ plain.function_def (plain.head ([]) (plain.spec (at 2 1) (plain.words (keys.Int ∷ [])) 0) ([]) (name 412)
    (at 2 5) (plain.params (plain.param_and (plain.param_decl ([]) (plain.spec (at 2 8)
    (plain.words (keys.Int ∷ [])) 0) (plain.named (plain.declr ([]) (name 390) (at 2 12)
    (plain.sizes plain.no_sizes)))) plain.no_params) false None)) (plain.block (at 2 15)
    (plain.stmt_and (plain.return (at 2 17) (Some (plain.unary (at 2 24) (tokens.Key keys.Sizeof)
    (plain.paren (at 2 30) (plain.word (at 2 31) (name 390)))))) plain.no_stmts) (at 2 35))
    ∷ plain.function_def (plain.head ([]) (plain.spec (at 3 1) (plain.words (keys.Int ∷ [])) 0) ([]) (name 413)
    (at 3 5) (plain.params (plain.param_and (plain.param_decl ([]) (plain.spec (at 3 8)
    (plain.words (keys.Int ∷ [])) 0) (plain.named (plain.declr ([]) (name 390) (at 3 12)
    (plain.sizes plain.no_sizes)))) plain.no_params) false None)) (plain.block (at 3 15)
    (plain.stmt_and (plain.do_expr (at 3 17) (Some (plain.assign (at 3 19) puncts.ShiftLeftAssign
    (plain.word (at 3 17) (name 390)) (plain.int (at 3 23) (pos 1) false false))))
    (plain.stmt_and (plain.return (at 3 26) (Some (plain.word (at 3 33) (name 390)))) plain.no_stmts)) (at 3 36))
    ∷ plain.function_def (plain.head ([]) (plain.spec (at 4 1) (plain.words (keys.Int ∷ [])) 0) ([]) (name 414)
    (at 4 5) (plain.params (plain.param_and (plain.param_decl ([]) (plain.spec (at 4 8)
    (plain.words (keys.Int ∷ [])) 0) (plain.named (plain.declr ([]) (name 390) (at 4 12)
    (plain.sizes plain.no_sizes)))) plain.no_params) false None)) (plain.block (at 4 15)
    (plain.stmt_and (plain.return (at 4 17) (Some (plain.comma (at 4 25) (plain.word (at 4 24) (name 390))
    (plain.word (at 4 27) (name 390))))) plain.no_stmts) (at 4 30))
    ∷ plain.function_def (plain.head ([]) (plain.spec (at 5 1) (plain.words (keys.Int ∷ [])) 0) ([]) (name 415)
    (at 5 5) (plain.params (plain.param_and (plain.param_decl ([]) (plain.spec (at 5 8)
    (plain.words (keys.Int ∷ [])) 0) (plain.named (plain.declr ([]) (name 390) (at 5 12)
    (plain.sizes plain.no_sizes)))) plain.no_params) false None)) (plain.block (at 5 15)
    (plain.stmt_and (plain.declare (at 5 17) (plain.decl ([]) (plain.spec (at 5 17) (plain.words (keys.Double ∷ []))
    0) ((plain.var_decl (plain.declr ([]) (name 388) (at 5 24) (plain.sizes plain.no_sizes)) None) ∷ [])))
    (plain.stmt_and (plain.return (at 5 27) (Some (plain.float (at 5 34)))) plain.no_stmts)) (at 5 39))
    ∷ plain.function_def (plain.head ([]) (plain.spec (at 6 1) (plain.words (keys.Int ∷ [])) 0) ([]) (name 416)
    (at 6 5) (plain.params (plain.param_and (plain.param_decl ([]) (plain.spec (at 6 8) (plain.alias (name 48)) 0)
    (plain.named (plain.declr (0 ∷ []) (name 417) (at 6 18) (plain.sizes plain.no_sizes)))) plain.no_params) false
    None)) (plain.block (at 6 21) (plain.stmt_and (plain.return (at 6 23) (Some
    (plain.unary (at 6 30) (tokens.Punct puncts.Star) (plain.word (at 6 31) (name 417))))) plain.no_stmts)
    (at 6 34)) ∷ plain.function_def (plain.head ([]) (plain.spec (at 7 1) (plain.words (keys.Int ∷ [])) 0) ([])
    (name 418) (at 7 5) (plain.params (plain.param_and (plain.param_decl ([])
    (plain.spec (at 7 8) (plain.alias (name 48)) 0) (plain.named (plain.declr (0 ∷ []) (name 417) (at 7 18)
    (plain.sizes plain.no_sizes)))) plain.no_params) false None)) (plain.block (at 7 21)
    (plain.stmt_and (plain.return (at 7 23) (Some (plain.index (at 7 31) (plain.word (at 7 30) (name 417))
    (plain.int (at 7 32) (pos 0) false false)))) plain.no_stmts) (at 7 36))
    ∷ plain.function_def (plain.head ([]) (plain.spec (at 8 1) (plain.words (keys.Int ∷ [])) 0) ([]) (name 419)
    (at 8 5) (plain.params (plain.param_and (plain.param_decl ([]) (plain.spec (at 8 8)
    (plain.words (keys.Int ∷ [])) 0) (plain.named (plain.declr ([]) (name 390) (at 8 12)
    (plain.sizes plain.no_sizes)))) plain.no_params) false None)) (plain.block (at 8 15)
    (plain.stmt_and (plain.return (at 8 17) (Some (plain.call (at 8 24) (plain.paren (at 8 24)
    (plain.word (at 8 25) (name 390))) plain.no_exprs))) plain.no_stmts) (at 8 31))
    ∷ plain.function_def (plain.head ([]) (plain.spec (at 9 1) (plain.words (keys.Int ∷ [])) 0) ([]) (name 420)
    (at 9 5) (plain.params (plain.param_and (plain.param_decl ([]) (plain.spec (at 9 8)
    (plain.words (keys.Int ∷ [])) 0) (plain.named (plain.declr ([]) (name 390) (at 9 12)
    (plain.sizes plain.no_sizes)))) plain.no_params) false None)) (plain.block (at 9 15)
    (plain.stmt_and (plain.return (at 9 17) (Some (plain.word (at 9 24) (name 420)))) plain.no_stmts) (at 9 28))
    ∷ plain.function_def (plain.head ([]) (plain.spec (at 10 1) (plain.words (keys.Int ∷ [])) 0) ([]) (name 421)
    (at 10 5) (plain.params (plain.param_and (plain.param_decl ([]) (plain.spec (at 10 8) (plain.alias (name 48)) 0)
    (plain.named (plain.declr (0 ∷ []) (name 417) (at 10 18) (plain.sizes plain.no_sizes)))) plain.no_params) false
    None)) (plain.block (at 10 21) (plain.stmt_and (plain.return (at 10 23)
    (Some (plain.cast (at 10 30) (plain.type_name (plain.spec (at 10 31) (plain.words (keys.Int ∷ [])) 0) ([]))
    (plain.word (at 10 35) (name 417))))) plain.no_stmts) (at 10 38))
    ∷ plain.function_def (plain.head ([]) (plain.spec (at 11 1) (plain.words (keys.Int ∷ [])) 0) ([]) (name 422)
    (at 11 5) (plain.params (plain.param_and (plain.param_decl ([]) (plain.spec (at 11 8)
    (plain.words (keys.Int ∷ [])) 0) (plain.named (plain.declr (0 ∷ []) (name 417) (at 11 13)
    (plain.sizes plain.no_sizes)))) plain.no_params) false None)) (plain.block (at 11 16)
    (plain.stmt_and (plain.return (at 11 18) (Some (plain.int (at 11 25) (pos 1) false false))) plain.no_stmts)
    (at 11 28)) ∷ plain.function_def (plain.head ([]) (plain.spec (at 12 1) (plain.words (keys.Int ∷ [])) 0) ([])
    (name 423) (at 12 5) (plain.params (plain.param_and (plain.param_decl ([])
    (plain.spec (at 12 8) (plain.alias (name 48)) 0) (plain.named (plain.declr (0 ∷ []) (name 417) (at 12 18)
    (plain.sizes plain.no_sizes)))) plain.no_params) false None)) (plain.block (at 12 21)
    (plain.stmt_and (plain.return (at 12 23) (Some (plain.binary (at 12 33) puncts.Equal
    (plain.unary (at 12 30) (tokens.Punct puncts.And) (plain.word (at 12 31) (name 417))) (plain.null (at 12 36)))))
    plain.no_stmts) (at 12 42)) ∷ plain.function_def (plain.head ([]) (plain.spec (at 13 1) (plain.alias (name 48))
    0) (0 ∷ []) (name 424) (at 13 11) (plain.params plain.no_params true None))
    (plain.block (at 13 20) (plain.stmt_and (plain.return (at 13 22) (Some
    (plain.cast (at 13 29) (plain.type_name (plain.spec (at 13 30) (plain.alias (name 48)) 0) (0 ∷ []))
    (plain.unary (at 13 41) (tokens.Punct puncts.And) (plain.word (at 13 42) (name 97)))))) plain.no_stmts)
    (at 13 55)) ∷ plain.function_def (plain.head ([]) (plain.spec (at 14 1) (plain.alias (name 48)) 0) (0 ∷ [])
    (name 425) (at 14 11) (plain.params plain.no_params true None)) (plain.block (at 14 20)
    (plain.stmt_and (plain.return (at 14 22) (Some (plain.word (at 14 29) (name 97)))) plain.no_stmts) (at 14 42))
    ∷ plain.function_def (plain.head ([]) (plain.spec (at 15 1) (plain.words (keys.Int ∷ [])) 0) ([]) (name 426)
    (at 15 5) (plain.params (plain.param_and (plain.param_decl ([]) (plain.spec (at 15 8) (plain.alias (name 48)) 0)
    (plain.named (plain.declr (0 ∷ []) (name 417) (at 15 18) (plain.sizes plain.no_sizes)))) plain.no_params) false
    None)) (plain.block (at 15 21) (plain.stmt_and (plain.return (at 15 23)
    (Some (plain.binary (at 15 32) puncts.Plus (plain.word (at 15 30) (name 417))
    (plain.int (at 15 34) (pos 1) false false)))) plain.no_stmts) (at 15 37))
    ∷ plain.function_def (plain.head ([]) (plain.spec (at 16 1) (plain.words (keys.Int ∷ [])) 0) ([]) (name 427)
    (at 16 5) (plain.params (plain.param_and (plain.param_decl ([]) (plain.spec (at 16 8) (plain.alias (name 48)) 0)
    (plain.named (plain.declr (0 ∷ []) (name 417) (at 16 18) (plain.sizes plain.no_sizes)))) plain.no_params) false
    None)) (plain.block (at 16 21) (plain.stmt_and (plain.do_expr (at 16 23)
    (Some (plain.post (at 16 24) puncts.PlusPlus (plain.word (at 16 23) (name 417)))))
    (plain.stmt_and (plain.return (at 16 28) (Some (plain.int (at 16 35) (pos 1) false false))) plain.no_stmts))
    (at 16 38)) ∷ plain.function_def (plain.head ([]) (plain.spec (at 17 1) (plain.words (keys.Int ∷ [])) 0) ([])
    (name 428) (at 17 5) (plain.params (plain.param_and (plain.param_decl ([])
    (plain.spec (at 17 8) (plain.alias (name 48)) 0) (plain.named (plain.declr (0 ∷ []) (name 417) (at 17 18)
    (plain.sizes plain.no_sizes)))) plain.no_params) false None)) (plain.block (at 17 21)
    (plain.stmt_and (plain.do_expr (at 17 23) (Some (plain.assign (at 17 25) puncts.PlusAssign
    (plain.word (at 17 23) (name 417)) (plain.int (at 17 28) (pos 1) false false))))
    (plain.stmt_and (plain.return (at 17 31) (Some (plain.unary (at 17 38) (tokens.Punct puncts.Minus)
    (plain.word (at 17 39) (name 417))))) plain.no_stmts)) (at 17 42))
    ∷ plain.function_def (plain.head ([]) (plain.spec (at 18 1) (plain.words (keys.Int ∷ [])) 0) ([]) (name 429)
    (at 18 5) (plain.params plain.no_params true None)) (plain.block (at 18 14)
    (plain.stmt_and (plain.return (at 18 16) (Some (plain.int (at 18 23) (pos 5) false true))) plain.no_stmts)
    (at 18 27)) ∷ plain.function_def (plain.head ([]) (plain.spec (at 19 1) (plain.words (keys.Long ∷ [])) 0) ([])
    (name 430) (at 19 6) (plain.params plain.no_params true None)) (plain.block (at 19 15)
    (plain.stmt_and (plain.return (at 19 17) (Some (plain.int (at 19 24) (pos 9223372036854775808) true false)))
    plain.no_stmts) (at 19 45)) ∷ plain.function_def (plain.head ([]) (plain.spec (at 20 1)
    (plain.words (keys.Int ∷ [])) 0) ([]) (name 431) (at 20 5) (plain.params plain.no_params true None))
    (plain.block (at 20 14) (plain.stmt_and (plain.return (at 20 16) (Some (plain.word (at 20 23) (name 432))))
    plain.no_stmts) (at 20 26)) ∷ plain.function_def (plain.head ([]) (plain.spec (at 21 1)
    (plain.words (keys.Int ∷ [])) 0) ([]) (name 433) (at 21 5) (plain.params
    (plain.param_and (plain.param_decl ([]) (plain.spec (at 21 8) (plain.alias (name 48)) 0)
    (plain.named (plain.declr (0 ∷ []) (name 432) (at 21 18) (plain.sizes plain.no_sizes)))) plain.no_params) false
    None)) (plain.block (at 21 21) (plain.stmt_and (plain.do_expr (at 21 23)
    (Some (plain.call (at 21 23) (plain.word (at 21 23) (name 167)) (plain.expr_and
    (plain.word (at 21 33) (name 432)) (plain.expr_and (plain.word (at 21 36) (name 432)) plain.no_exprs)))))
    (plain.stmt_and (plain.return (at 21 40) (Some (plain.int (at 21 47) (pos 1) false false))) plain.no_stmts))
    (at 21 50)) ∷ plain.function_def (plain.head ([]) (plain.spec (at 22 1) (plain.words (keys.Int ∷ [])) 0) ([])
    (name 434) (at 22 5) (plain.params (plain.param_and (plain.param_decl ([])
    (plain.spec (at 22 8) (plain.alias (name 48)) 0) (plain.named (plain.declr (0 ∷ []) (name 432) (at 22 18)
    (plain.sizes plain.no_sizes)))) plain.no_params) false None)) (plain.block (at 22 21)
    (plain.stmt_and (plain.return (at 22 23) (Some (plain.call (at 22 30) (plain.word (at 22 30) (name 167))
    (plain.expr_and (plain.word (at 22 40) (name 432)) plain.no_exprs)))) plain.no_stmts) (at 22 44))
    ∷ plain.function_def (plain.head ([]) (plain.spec (at 23 1) (plain.words (keys.Int ∷ [])) 0) ([]) (name 435)
    (at 23 5) (plain.params (plain.param_and (plain.param_decl ([]) (plain.spec (at 23 8) (plain.alias (name 48)) 0)
    (plain.named (plain.declr (0 ∷ []) (name 432) (at 23 18) (plain.sizes plain.no_sizes)))) plain.no_params) false
    None)) (plain.block (at 23 21) (plain.stmt_and (plain.return (at 23 23)
    (Some (plain.binary (at 23 43) puncts.Plus (plain.call (at 23 30) (plain.word (at 23 30) (name 168))
    (plain.expr_and (plain.word (at 23 40) (name 432)) plain.no_exprs)) (plain.int (at 23 45) (pos 1) false
    false)))) plain.no_stmts) (at 23 48)) ∷ plain.function_def (plain.head ([])
    (plain.spec (at 24 1) (plain.words (keys.Void ∷ [])) 0) ([]) (name 436) (at 24 6)
    (plain.params (plain.param_and (plain.param_decl ([]) (plain.spec (at 24 9) (plain.alias (name 48)) 0)
    (plain.named (plain.declr (0 ∷ []) (name 432) (at 24 19) (plain.sizes plain.no_sizes)))) plain.no_params) false
    None)) (plain.block (at 24 22) (plain.stmt_and (plain.do_expr (at 24 24)
    (Some (plain.cast (at 24 24) (plain.type_name (plain.spec (at 24 25) (plain.words (keys.Void ∷ [])) 0) ([]))
    (plain.call (at 24 30) (plain.word (at 24 30) (name 167)) (plain.expr_and (plain.word (at 24 40) (name 432))
    plain.no_exprs))))) (plain.stmt_and (plain.do_expr (at 24 44) (Some (plain.cast (at 24 44)
    (plain.type_name (plain.spec (at 24 45) (plain.words (keys.Void ∷ [])) 0) ([]))
    (plain.word (at 24 50) (name 432))))) (plain.stmt_and (plain.do_expr (at 24 53)
    (Some (plain.call (at 24 53) (plain.word (at 24 53) (name 170)) (plain.expr_and (plain.null (at 24 64))
    plain.no_exprs)))) plain.no_stmts))) (at 24 71)) ∷ plain.function_def (plain.head ([])
    (plain.spec (at 25 1) (plain.alias (name 48)) 0) (0 ∷ []) (name 437) (at 25 11)
    (plain.params (plain.param_and (plain.param_decl ([]) (plain.spec (at 25 14) (plain.alias (name 48)) 0)
    (plain.named (plain.declr (0 ∷ []) (name 432) (at 25 24) (plain.sizes plain.no_sizes)))) plain.no_params) false
    None)) (plain.block (at 25 27) (plain.stmt_and (plain.return (at 25 29)
    (Some (plain.call (at 25 36) (plain.word (at 25 36) (name 119)) (plain.expr_and
    (plain.word (at 25 49) (name 432)) (plain.expr_and (plain.int (at 25 52) (pos 1) false false)
    plain.no_exprs))))) plain.no_stmts) (at 25 56)) ∷ plain.function_def (plain.head ([])
    (plain.spec (at 26 1) (plain.alias (name 48)) 0) (0 ∷ []) (name 438) (at 26 11)
    (plain.params (plain.param_and (plain.param_decl ([]) (plain.spec (at 26 14) (plain.alias (name 48)) 0)
    (plain.named (plain.declr (0 ∷ []) (name 432) (at 26 24) (plain.sizes plain.no_sizes)))) plain.no_params) false
    None)) (plain.block (at 26 27) (plain.stmt_and (plain.return (at 26 29)
    (Some (plain.call (at 26 36) (plain.word (at 26 36) (name 106)) (plain.expr_and
    (plain.int (at 26 47) (pos 1) false false) plain.no_exprs)))) plain.no_stmts) (at 26 51))
    ∷ plain.function_def (plain.head ([]) (plain.spec (at 27 1) (plain.words (keys.Int ∷ [])) 0) ([]) (name 439)
    (at 27 5) (plain.params (plain.param_and (plain.param_decl ([]) (plain.spec (at 27 8) (plain.alias (name 48)) 0)
    (plain.named (plain.declr (0 ∷ []) (name 432) (at 27 18) (plain.sizes plain.no_sizes)))) plain.no_params) false
    None)) (plain.block (at 27 21) (plain.stmt_and (plain.return (at 27 23)
    (Some (plain.conditional (at 27 32) (plain.word (at 27 30) (name 432))
    (plain.int (at 27 34) (pos 1) false false) (plain.word (at 27 38) (name 432))))) plain.no_stmts) (at 27 41))
    ∷ plain.function_def (plain.head ([]) (plain.spec (at 28 1) (plain.alias (name 48)) 0) (0 ∷ []) (name 440)
    (at 28 11) (plain.params (plain.param_and (plain.param_decl ([]) (plain.spec (at 28 14) (plain.alias (name 48))
    0) (plain.named (plain.declr (0 ∷ []) (name 432) (at 28 24) (plain.sizes plain.no_sizes)))) plain.no_params)
    false None)) (plain.block (at 28 27) (plain.stmt_and (plain.return (at 28 29)
    (Some (plain.conditional (at 28 38) (plain.word (at 28 36) (name 432)) (plain.word (at 28 40) (name 432))
    (plain.null (at 28 44))))) plain.no_stmts) (at 28 50))
    ∷ plain.function_def (plain.head ([]) (plain.spec (at 29 1) (plain.words (keys.Int ∷ [])) 0) ([]) (name 441)
    (at 29 5) (plain.params (plain.param_and (plain.param_decl ([]) (plain.spec (at 29 8) (plain.alias (name 48)) 0)
    (plain.named (plain.declr (0 ∷ []) (name 432) (at 29 18) (plain.sizes plain.no_sizes)))) plain.no_params) false
    None)) (plain.block (at 29 21) (plain.stmt_and (plain.return (at 29 23)
    (Some (plain.binary (at 29 49) puncts.Equal (plain.call (at 29 30) (plain.word (at 29 30) (name 127))
    (plain.expr_and (plain.word (at 29 46) (name 432)) plain.no_exprs)) (plain.word (at 29 52) (name 432)))))
    plain.no_stmts) (at 29 55)) ∷ plain.function_def (plain.head ([]) (plain.spec (at 30 1)
    (plain.words (keys.Int ∷ [])) 0) ([]) (name 442) (at 30 5) (plain.params
    (plain.param_and (plain.param_decl ([]) (plain.spec (at 30 8) (plain.alias (name 48)) 0)
    (plain.named (plain.declr (0 ∷ []) (name 432) (at 30 18) (plain.sizes plain.no_sizes)))) plain.no_params) false
    None)) (plain.block (at 30 21) (plain.stmt_and (plain.if_only (at 30 23)
    (plain.binary (at 30 46) puncts.OrOr (plain.binary (at 30 30) puncts.AndAnd
    (plain.unary (at 30 27) (tokens.Punct puncts.Not) (plain.word (at 30 28) (name 432)))
    (plain.binary (at 30 35) puncts.Equal (plain.word (at 30 33) (name 432)) (plain.word (at 30 38) (name 79))))
    (plain.int (at 30 49) (pos 1) false false)) (plain.return (at 30 52) (Some
    (plain.binary (at 30 63) puncts.Less (plain.char (at 30 59) 99) (plain.int (at 30 65) (pos 2) false false)))))
    (plain.stmt_and (plain.return (at 30 68) (Some (plain.binary (at 30 79) puncts.Equal
    (plain.text (at 30 75) (name 199 ∷ [])) (plain.text (at 30 82) (name 199 ∷ []))))) plain.no_stmts)) (at 30 87))
    ∷ plain.function_def (plain.head ([]) (plain.spec (at 31 1) (plain.words (keys.Int ∷ [])) 0) ([]) (name 443)
    (at 31 5) (plain.params (plain.param_and (plain.param_decl ([]) (plain.spec (at 31 8) (plain.alias (name 48)) 0)
    (plain.named (plain.declr (0 ∷ []) (name 432) (at 31 18) (plain.sizes plain.no_sizes)))) plain.no_params) false
    None)) (plain.block (at 31 21) (plain.stmt_and (plain.return (at 31 23)
    (Some (plain.word (at 31 30) (name 167)))) plain.no_stmts) (at 31 41))
    ∷ plain.function_def (plain.head ([]) (plain.spec (at 32 1) (plain.words (keys.Int ∷ [])) 0) ([]) (name 444)
    (at 32 5) (plain.params (plain.param_and (plain.param_decl ([]) (plain.spec (at 32 8)
    (plain.words (keys.Int ∷ [])) 0) (plain.named (plain.declr ([]) (name 432) (at 32 12)
    (plain.sizes plain.no_sizes)))) plain.no_params) false None)) (plain.block (at 32 15)
    (plain.stmt_and (plain.return (at 32 17) (Some (plain.call (at 32 24) (plain.word (at 32 24) (name 432))
    (plain.expr_and (plain.int (at 32 26) (pos 1) false false) plain.no_exprs)))) plain.no_stmts) (at 32 30))
    ∷ plain.function_def (plain.head ([]) (plain.spec (at 33 1) (plain.words (keys.Int ∷ [])) 0) ([]) (name 445)
    (at 33 5) (plain.params (plain.param_and (plain.param_decl ([]) (plain.spec (at 33 8)
    (plain.words (keys.Int ∷ [])) 0) (plain.named (plain.declr ([]) (name 432) (at 33 12)
    (plain.sizes plain.no_sizes)))) plain.no_params) false None)) (plain.block (at 33 15)
    (plain.stmt_and (plain.do_expr (at 33 17) (Some (plain.assign (at 33 21) puncts.Assign
    (plain.paren (at 33 17) (plain.word (at 33 18) (name 432))) (plain.int (at 33 23) (pos 1) false false))))
    (plain.stmt_and (plain.do_expr (at 33 26) (Some (plain.assign (at 33 28) puncts.Assign
    (plain.int (at 33 26) (pos 3) false false) (plain.word (at 33 30) (name 432)))))
    (plain.stmt_and (plain.return (at 33 33) (Some (plain.word (at 33 40) (name 432)))) plain.no_stmts)))
    (at 33 43)) ∷ plain.function_def (plain.head ([]) (plain.spec (at 34 1) (plain.words (keys.Int ∷ [])) 0) ([])
    (name 446) (at 34 5) (plain.params (plain.param_and (plain.param_decl ([])
    (plain.spec (at 34 8) (plain.words (keys.Int ∷ [])) 0) (plain.named (plain.declr ([]) (name 432) (at 34 12)
    (plain.sizes plain.no_sizes)))) plain.no_params) false None)) (plain.block (at 34 15)
    (plain.stmt_and (plain.do_expr (at 34 17) (Some (plain.assign (at 34 19) puncts.Assign
    (plain.word (at 34 17) (name 432)) (plain.binary (at 34 29) puncts.Plus
    (plain.paren (at 34 21) (plain.assign (at 34 24) puncts.Assign (plain.word (at 34 22) (name 432))
    (plain.int (at 34 26) (pos 2) false false))) (plain.post (at 34 32) puncts.PlusPlus
    (plain.word (at 34 31) (name 432))))))) (plain.stmt_and (plain.do_expr (at 34 36)
    (Some (plain.unary (at 34 36) (tokens.Punct puncts.PlusPlus) (plain.word (at 34 38) (name 432)))))
    (plain.stmt_and (plain.return (at 34 41) (Some (plain.unary (at 34 48) (tokens.Punct puncts.Not)
    (plain.word (at 34 49) (name 432))))) plain.no_stmts))) (at 34 52))
    ∷ plain.function_def (plain.head ([]) (plain.spec (at 35 1) (plain.alias (name 48)) 0) (0 ∷ []) (name 447)
    (at 35 11) (plain.params (plain.param_and (plain.param_decl ([]) (plain.spec (at 35 14)
    (plain.words (keys.Char ∷ [])) 0) (plain.named (plain.declr (0 ∷ []) (name 448) (at 35 20)
    (plain.sizes plain.no_sizes)))) plain.no_params) false None)) (plain.block (at 35 23)
    (plain.stmt_and (plain.return (at 35 25) (Some (plain.cast (at 35 32) (plain.type_name
    (plain.spec (at 35 33) (plain.alias (name 48)) 0) (0 ∷ [])) (plain.word (at 35 44) (name 448)))))
    plain.no_stmts) (at 35 47)) ∷ plain.function_def (plain.head ([]) (plain.spec (at 36 1)
    (plain.words (keys.Int ∷ [])) 0) ([]) (name 449) (at 36 5) (plain.params
    (plain.param_and (plain.param_decl ([]) (plain.spec (at 36 8) (plain.words (keys.Int ∷ [])) 0)
    (plain.unused ([]) (name 450) (at 36 22))) plain.no_params) false None))
    (plain.block (at 36 26) (plain.stmt_and (plain.return (at 36 28) (Some (plain.word (at 36 35) (name 450))))
    plain.no_stmts) (at 36 38)) ∷ []

no_fault_4 : least (faults (manual_file file_4)) ≡ None
no_fault_4 = refl

told_4 : map (refusal (manual_file file_4) (411 ∷ 412 ∷ 413 ∷ 414 ∷ 415 ∷ 416 ∷ 418 ∷ 419 ∷ 420
    ∷ 421 ∷ 422 ∷ 423 ∷ 425 ∷ 426 ∷ 427 ∷ 428 ∷ 429 ∷ 430 ∷ 431 ∷ 433 ∷ 434 ∷ 435 ∷ 437 ∷ 439 ∷ 441 ∷ 442 ∷ 443
    ∷ 444 ∷ 445 ∷ 447 ∷ 449 ∷ [])) (definitions file_4)
    ≡ (told 1 26 2 ∷ told 2 24 2 ∷ told 3 19 2 ∷ told 4 25 2 ∷ told 5 17 1 ∷ told 6 30 2 ∷ told 7 31 2 ∷ told 8 24 3
    ∷ told 9 24 3 ∷ told 10 30 4 ∷ told 11 8 1 ∷ told 12 30 5 ∷ None ∷ told 14 29 9 ∷ told 15 32 13 ∷ told 16 24 13
    ∷ told 17 25 13 ∷ told 18 23 14 ∷ told 19 24 14 ∷ told 20 23 9 ∷ told 21 23 10 ∷ told 22 30 10 ∷ told 23 30 10
    ∷ None ∷ told 25 36 10 ∷ None ∷ told 27 32 10 ∷ None ∷ told 29 30 10 ∷ told 30 79 10 ∷ told 31 30 9
    ∷ told 32 24 10 ∷ told 33 21 10 ∷ None ∷ told 35 32 10 ∷ told 36 35 9 ∷ [])
told_4 = refl

sound_4 : map (λ d. is_sound_action (resolved (manual_file file_4)
    (411 ∷ 412 ∷ 413 ∷ 414 ∷ 415 ∷ 416 ∷ 418 ∷ 419 ∷ 420 ∷ 421 ∷ 422 ∷ 423 ∷ 425 ∷ 426 ∷ 427 ∷ 428 ∷ 429 ∷ 430 ∷ 431
    ∷ 433 ∷ 434 ∷ 435 ∷ 437 ∷ 439 ∷ 441 ∷ 442 ∷ 443 ∷ 444 ∷ 445 ∷ 447 ∷ 449 ∷ []) d).body)
    (passed (refusal (manual_file file_4) (411 ∷ 412 ∷ 413 ∷ 414 ∷ 415 ∷ 416 ∷ 418 ∷ 419 ∷ 420 ∷ 421
    ∷ 422 ∷ 423 ∷ 425 ∷ 426 ∷ 427 ∷ 428 ∷ 429 ∷ 430 ∷ 431 ∷ 433 ∷ 434 ∷ 435 ∷ 437 ∷ 439 ∷ 441 ∷ 442 ∷ 443 ∷ 444
    ∷ 445 ∷ 447 ∷ 449 ∷ [])) (definitions file_4)) ≡ (true ∷ true ∷ true ∷ true ∷ true ∷ [])
sound_4 = refl
