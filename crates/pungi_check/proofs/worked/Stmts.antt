-- The rules on names, declarations and statements, one function for each case.
use Rattle.std.proofs.Common.{◌≡◌, refl, List, [], ◌∷◌, map, Some, None, true, false, pos}
use Rattle.pungi_base.specs.declared.key.Key.TheVariants as keys
use Rattle.pungi_base.specs.declared.kind.Kind.TheVariants as tokens
use Rattle.pungi_base.specs.declared.punct.Punct.TheVariants as puncts
use Rattle.pungi_tree.specs.Syntax as plain
use Rattle.pungi_types.specs.Files.{definitions}
use Rattle.pungi_types.specs.Findings.{least}
use Rattle.pungi_check.specs.Duplicates.{faults}
use Rattle.pungi_types.specs.Functions.{refusal}
use Rattle.pungi_resolve.specs.Functions.{resolved}
use Rattle.pungi_resolve.specs.Sound.{is_sound_action}
use Rattle.pungi_check.proofs.worked.Words.{at, manual_file, name, passed, told}

-- static PyModuleDef mod = { 1 };
-- static PyTypeObject T1 = { 1 };
-- PyObject *glob;
-- int proto(int a);
-- PyObject *m1(void) { return PyModule_Create(&mod); }
-- PyObject *m2(void) { return (PyObject *)&T1; }
-- PyObject *m3(void) { return glob; }
-- int m4(void) { return proto(1); }
-- int m5(void) { return proto; }
-- int m6(int a, int a) { return a; }
-- int m7(int a) { int a; return a; }
-- int m8(int a) { int m7; return a; }
-- int m9(int a) { { int a; a = 1; } int Py_None; return a; }
-- int n1(int a) { int PyList_New; return a; }
-- int n2(int a) { int b = b + 1, c = "x"; return a; }
-- int n3(int a) { int b = { 1 }; return a; }
-- int n4(int a) { l: a = 1; l: return a; }
-- int n5(int a) { break; return a; }
-- int n6(int a) { while (a) { switch (a) { case 1: continue; case -1: break; default: a = 2; } } return a; }
-- int n7(int a) { switch (a) { case 1: { case 2: break; } } return a; }
-- int n8(int a) { switch (a) { case 1: case 1: break; default: default: ; } return a; }
-- int n9(int a) { switch (a) case 1: return 1; return a; }
-- int o1(int a) { switch (a) { case a: return 1; } return a; }
-- int o2(int a) { switch (glob) { x: case 3: return 1; } return a; }
-- int o3(int a) { if (a) l: a = 1; goto l; return a; }
-- int o4(int a) { for (int i = 0; i < a; i++) { a = i; } return i; }
-- void o5(int a) { return a; }
-- int o6(int a) { return; }
-- int o7(int a) { do a = 1; while (Py_INCREF(glob)); return a; }
-- int o8(int a) { return o8(a, a); }
-- int o9(int a) { return m4() + 1; }
-- int p1(int a) { return p1(a) + o9(a); }
abbrev file_5 : List plain.Item
file_5 =
    plain.variables (plain.decl (keys.Static ∷ []) (plain.spec (at 1 8) (plain.alias (name 52)) 0)
    ((plain.var_decl (plain.declr ([]) (name 451) (at 1 20) (plain.sizes plain.no_sizes)) (Some (plain.table [])))
    ∷ [])) ∷ plain.variables (plain.decl (keys.Static ∷ []) (plain.spec (at 2 8) (plain.alias (name 50)) 0)
    ((plain.var_decl (plain.declr ([]) (name 452) (at 2 21) (plain.sizes plain.no_sizes)) (Some (plain.table [])))
    ∷ [])) ∷ plain.variables (plain.decl ([]) (plain.spec (at 3 1) (plain.alias (name 48)) 0)
    ((plain.var_decl (plain.declr (0 ∷ []) (name 453) (at 3 11) (plain.sizes plain.no_sizes)) None) ∷ []))
    ∷ plain.prototype (plain.head ([]) (plain.spec (at 4 1) (plain.words (keys.Int ∷ [])) 0) ([]) (name 454)
    (at 4 5) (plain.params (plain.param_and (plain.param_decl ([]) (plain.spec (at 4 11)
    (plain.words (keys.Int ∷ [])) 0) (plain.named (plain.declr ([]) (name 390) (at 4 15)
    (plain.sizes plain.no_sizes)))) plain.no_params) false None))
    ∷ plain.function_def (plain.head ([]) (plain.spec (at 5 1) (plain.alias (name 48)) 0) (0 ∷ []) (name 455)
    (at 5 11) (plain.params plain.no_params true None)) (plain.block (at 5 20)
    (plain.stmt_and (plain.return (at 5 22) (Some (plain.call (at 5 29) (plain.word (at 5 29) (name 127))
    (plain.expr_and (plain.unary (at 5 45) (tokens.Punct puncts.And) (plain.word (at 5 46) (name 451)))
    plain.no_exprs)))) plain.no_stmts) (at 5 52)) ∷ plain.function_def (plain.head ([])
    (plain.spec (at 6 1) (plain.alias (name 48)) 0) (0 ∷ []) (name 456) (at 6 11)
    (plain.params plain.no_params true None)) (plain.block (at 6 20) (plain.stmt_and
    (plain.return (at 6 22) (Some (plain.cast (at 6 29) (plain.type_name (plain.spec (at 6 30)
    (plain.alias (name 48)) 0) (0 ∷ [])) (plain.unary (at 6 41) (tokens.Punct puncts.And)
    (plain.word (at 6 42) (name 452)))))) plain.no_stmts) (at 6 46))
    ∷ plain.function_def (plain.head ([]) (plain.spec (at 7 1) (plain.alias (name 48)) 0) (0 ∷ []) (name 457)
    (at 7 11) (plain.params plain.no_params true None)) (plain.block (at 7 20)
    (plain.stmt_and (plain.return (at 7 22) (Some (plain.word (at 7 29) (name 453)))) plain.no_stmts) (at 7 35))
    ∷ plain.function_def (plain.head ([]) (plain.spec (at 8 1) (plain.words (keys.Int ∷ [])) 0) ([]) (name 458)
    (at 8 5) (plain.params plain.no_params true None)) (plain.block (at 8 14)
    (plain.stmt_and (plain.return (at 8 16) (Some (plain.call (at 8 23) (plain.word (at 8 23) (name 454))
    (plain.expr_and (plain.int (at 8 29) (pos 1) false false) plain.no_exprs)))) plain.no_stmts) (at 8 33))
    ∷ plain.function_def (plain.head ([]) (plain.spec (at 9 1) (plain.words (keys.Int ∷ [])) 0) ([]) (name 459)
    (at 9 5) (plain.params plain.no_params true None)) (plain.block (at 9 14)
    (plain.stmt_and (plain.return (at 9 16) (Some (plain.word (at 9 23) (name 454)))) plain.no_stmts) (at 9 30))
    ∷ plain.function_def (plain.head ([]) (plain.spec (at 10 1) (plain.words (keys.Int ∷ [])) 0) ([]) (name 460)
    (at 10 5) (plain.params (plain.param_and (plain.param_decl ([]) (plain.spec (at 10 8)
    (plain.words (keys.Int ∷ [])) 0) (plain.named (plain.declr ([]) (name 390) (at 10 12)
    (plain.sizes plain.no_sizes)))) (plain.param_and (plain.param_decl ([])
    (plain.spec (at 10 15) (plain.words (keys.Int ∷ [])) 0) (plain.named (plain.declr ([]) (name 390) (at 10 19)
    (plain.sizes plain.no_sizes)))) plain.no_params)) false None)) (plain.block (at 10 22)
    (plain.stmt_and (plain.return (at 10 24) (Some (plain.word (at 10 31) (name 390)))) plain.no_stmts) (at 10 34))
    ∷ plain.function_def (plain.head ([]) (plain.spec (at 11 1) (plain.words (keys.Int ∷ [])) 0) ([]) (name 461)
    (at 11 5) (plain.params (plain.param_and (plain.param_decl ([]) (plain.spec (at 11 8)
    (plain.words (keys.Int ∷ [])) 0) (plain.named (plain.declr ([]) (name 390) (at 11 12)
    (plain.sizes plain.no_sizes)))) plain.no_params) false None)) (plain.block (at 11 15)
    (plain.stmt_and (plain.declare (at 11 17) (plain.decl ([]) (plain.spec (at 11 17) (plain.words (keys.Int ∷ []))
    0) ((plain.var_decl (plain.declr ([]) (name 390) (at 11 21) (plain.sizes plain.no_sizes)) None) ∷ [])))
    (plain.stmt_and (plain.return (at 11 24) (Some (plain.word (at 11 31) (name 390)))) plain.no_stmts)) (at 11 34))
    ∷ plain.function_def (plain.head ([]) (plain.spec (at 12 1) (plain.words (keys.Int ∷ [])) 0) ([]) (name 462)
    (at 12 5) (plain.params (plain.param_and (plain.param_decl ([]) (plain.spec (at 12 8)
    (plain.words (keys.Int ∷ [])) 0) (plain.named (plain.declr ([]) (name 390) (at 12 12)
    (plain.sizes plain.no_sizes)))) plain.no_params) false None)) (plain.block (at 12 15)
    (plain.stmt_and (plain.declare (at 12 17) (plain.decl ([]) (plain.spec (at 12 17) (plain.words (keys.Int ∷ []))
    0) ((plain.var_decl (plain.declr ([]) (name 461) (at 12 21) (plain.sizes plain.no_sizes)) None) ∷ [])))
    (plain.stmt_and (plain.return (at 12 25) (Some (plain.word (at 12 32) (name 390)))) plain.no_stmts)) (at 12 35))
    ∷ plain.function_def (plain.head ([]) (plain.spec (at 13 1) (plain.words (keys.Int ∷ [])) 0) ([]) (name 463)
    (at 13 5) (plain.params (plain.param_and (plain.param_decl ([]) (plain.spec (at 13 8)
    (plain.words (keys.Int ∷ [])) 0) (plain.named (plain.declr ([]) (name 390) (at 13 12)
    (plain.sizes plain.no_sizes)))) plain.no_params) false None)) (plain.block (at 13 15)
    (plain.stmt_and (plain.block (at 13 17) (plain.stmt_and (plain.declare (at 13 19)
    (plain.decl ([]) (plain.spec (at 13 19) (plain.words (keys.Int ∷ [])) 0)
    ((plain.var_decl (plain.declr ([]) (name 390) (at 13 23) (plain.sizes plain.no_sizes)) None) ∷ [])))
    (plain.stmt_and (plain.do_expr (at 13 26) (Some (plain.assign (at 13 28) puncts.Assign
    (plain.word (at 13 26) (name 390)) (plain.int (at 13 30) (pos 1) false false)))) plain.no_stmts)) (at 13 33))
    (plain.stmt_and (plain.declare (at 13 35) (plain.decl ([]) (plain.spec (at 13 35) (plain.words (keys.Int ∷ []))
    0) ((plain.var_decl (plain.declr ([]) (name 79) (at 13 39) (plain.sizes plain.no_sizes)) None) ∷ [])))
    (plain.stmt_and (plain.return (at 13 48) (Some (plain.word (at 13 55) (name 390)))) plain.no_stmts)))
    (at 13 58)) ∷ plain.function_def (plain.head ([]) (plain.spec (at 14 1) (plain.words (keys.Int ∷ [])) 0) ([])
    (name 464) (at 14 5) (plain.params (plain.param_and (plain.param_decl ([])
    (plain.spec (at 14 8) (plain.words (keys.Int ∷ [])) 0) (plain.named (plain.declr ([]) (name 390) (at 14 12)
    (plain.sizes plain.no_sizes)))) plain.no_params) false None)) (plain.block (at 14 15)
    (plain.stmt_and (plain.declare (at 14 17) (plain.decl ([]) (plain.spec (at 14 17) (plain.words (keys.Int ∷ []))
    0) ((plain.var_decl (plain.declr ([]) (name 106) (at 14 21) (plain.sizes plain.no_sizes)) None) ∷ [])))
    (plain.stmt_and (plain.return (at 14 33) (Some (plain.word (at 14 40) (name 390)))) plain.no_stmts)) (at 14 43))
    ∷ plain.function_def (plain.head ([]) (plain.spec (at 15 1) (plain.words (keys.Int ∷ [])) 0) ([]) (name 465)
    (at 15 5) (plain.params (plain.param_and (plain.param_decl ([]) (plain.spec (at 15 8)
    (plain.words (keys.Int ∷ [])) 0) (plain.named (plain.declr ([]) (name 390) (at 15 12)
    (plain.sizes plain.no_sizes)))) plain.no_params) false None)) (plain.block (at 15 15)
    (plain.stmt_and (plain.declare (at 15 17) (plain.decl ([]) (plain.spec (at 15 17) (plain.words (keys.Int ∷ []))
    0) ((plain.var_decl (plain.declr ([]) (name 400) (at 15 21) (plain.sizes plain.no_sizes))
    (Some (plain.value (plain.binary (at 15 27) puncts.Plus (plain.word (at 15 25) (name 400))
    (plain.int (at 15 29) (pos 1) false false))))) ∷ (plain.var_decl (plain.declr ([]) (name 466) (at 15 32)
    (plain.sizes plain.no_sizes)) (Some (plain.value (plain.text (at 15 36) (name 199 ∷ []))))) ∷ [])))
    (plain.stmt_and (plain.return (at 15 41) (Some (plain.word (at 15 48) (name 390)))) plain.no_stmts)) (at 15 51))
    ∷ plain.function_def (plain.head ([]) (plain.spec (at 16 1) (plain.words (keys.Int ∷ [])) 0) ([]) (name 467)
    (at 16 5) (plain.params (plain.param_and (plain.param_decl ([]) (plain.spec (at 16 8)
    (plain.words (keys.Int ∷ [])) 0) (plain.named (plain.declr ([]) (name 390) (at 16 12)
    (plain.sizes plain.no_sizes)))) plain.no_params) false None)) (plain.block (at 16 15)
    (plain.stmt_and (plain.declare (at 16 17) (plain.decl ([]) (plain.spec (at 16 17) (plain.words (keys.Int ∷ []))
    0) ((plain.var_decl (plain.declr ([]) (name 400) (at 16 21) (plain.sizes plain.no_sizes))
    (Some (plain.table []))) ∷ []))) (plain.stmt_and (plain.return (at 16 32)
    (Some (plain.word (at 16 39) (name 390)))) plain.no_stmts)) (at 16 42))
    ∷ plain.function_def (plain.head ([]) (plain.spec (at 17 1) (plain.words (keys.Int ∷ [])) 0) ([]) (name 468)
    (at 17 5) (plain.params (plain.param_and (plain.param_decl ([]) (plain.spec (at 17 8)
    (plain.words (keys.Int ∷ [])) 0) (plain.named (plain.declr ([]) (name 390) (at 17 12)
    (plain.sizes plain.no_sizes)))) plain.no_params) false None)) (plain.block (at 17 15)
    (plain.stmt_and (plain.label (at 17 17) (name 469) (plain.do_expr (at 17 20)
    (Some (plain.assign (at 17 22) puncts.Assign (plain.word (at 17 20) (name 390))
    (plain.int (at 17 24) (pos 1) false false))))) (plain.stmt_and (plain.label (at 17 27) (name 469)
    (plain.return (at 17 30) (Some (plain.word (at 17 37) (name 390))))) plain.no_stmts)) (at 17 40))
    ∷ plain.function_def (plain.head ([]) (plain.spec (at 18 1) (plain.words (keys.Int ∷ [])) 0) ([]) (name 470)
    (at 18 5) (plain.params (plain.param_and (plain.param_decl ([]) (plain.spec (at 18 8)
    (plain.words (keys.Int ∷ [])) 0) (plain.named (plain.declr ([]) (name 390) (at 18 12)
    (plain.sizes plain.no_sizes)))) plain.no_params) false None)) (plain.block (at 18 15)
    (plain.stmt_and (plain.break (at 18 17)) (plain.stmt_and (plain.return (at 18 24)
    (Some (plain.word (at 18 31) (name 390)))) plain.no_stmts)) (at 18 34))
    ∷ plain.function_def (plain.head ([]) (plain.spec (at 19 1) (plain.words (keys.Int ∷ [])) 0) ([]) (name 471)
    (at 19 5) (plain.params (plain.param_and (plain.param_decl ([]) (plain.spec (at 19 8)
    (plain.words (keys.Int ∷ [])) 0) (plain.named (plain.declr ([]) (name 390) (at 19 12)
    (plain.sizes plain.no_sizes)))) plain.no_params) false None)) (plain.block (at 19 15)
    (plain.stmt_and (plain.while (at 19 17) (plain.word (at 19 24) (name 390))
    (plain.block (at 19 27) (plain.stmt_and (plain.switch (at 19 29) (plain.word (at 19 37) (name 390))
    (plain.block (at 19 40) (plain.stmt_and (plain.case (at 19 42) (plain.int (at 19 47) (pos 1) false false)
    (plain.continue (at 19 50))) (plain.stmt_and (plain.case (at 19 60) (plain.unary (at 19 65)
    (tokens.Punct puncts.Minus) (plain.int (at 19 66) (pos 1) false false)) (plain.break (at 19 69)))
    (plain.stmt_and (plain.default (at 19 76) (plain.do_expr (at 19 85) (Some
    (plain.assign (at 19 87) puncts.Assign (plain.word (at 19 85) (name 390))
    (plain.int (at 19 89) (pos 2) false false))))) plain.no_stmts))) (at 19 92))) plain.no_stmts) (at 19 94)))
    (plain.stmt_and (plain.return (at 19 96) (Some (plain.word (at 19 103) (name 390)))) plain.no_stmts))
    (at 19 106)) ∷ plain.function_def (plain.head ([]) (plain.spec (at 20 1) (plain.words (keys.Int ∷ [])) 0) ([])
    (name 472) (at 20 5) (plain.params (plain.param_and (plain.param_decl ([])
    (plain.spec (at 20 8) (plain.words (keys.Int ∷ [])) 0) (plain.named (plain.declr ([]) (name 390) (at 20 12)
    (plain.sizes plain.no_sizes)))) plain.no_params) false None)) (plain.block (at 20 15)
    (plain.stmt_and (plain.switch (at 20 17) (plain.word (at 20 25) (name 390))
    (plain.block (at 20 28) (plain.stmt_and (plain.case (at 20 30) (plain.int (at 20 35) (pos 1) false false)
    (plain.block (at 20 38) (plain.stmt_and (plain.case (at 20 40) (plain.int (at 20 45) (pos 2) false false)
    (plain.break (at 20 48))) plain.no_stmts) (at 20 55))) plain.no_stmts) (at 20 57)))
    (plain.stmt_and (plain.return (at 20 59) (Some (plain.word (at 20 66) (name 390)))) plain.no_stmts)) (at 20 69))
    ∷ plain.function_def (plain.head ([]) (plain.spec (at 21 1) (plain.words (keys.Int ∷ [])) 0) ([]) (name 473)
    (at 21 5) (plain.params (plain.param_and (plain.param_decl ([]) (plain.spec (at 21 8)
    (plain.words (keys.Int ∷ [])) 0) (plain.named (plain.declr ([]) (name 390) (at 21 12)
    (plain.sizes plain.no_sizes)))) plain.no_params) false None)) (plain.block (at 21 15)
    (plain.stmt_and (plain.switch (at 21 17) (plain.word (at 21 25) (name 390))
    (plain.block (at 21 28) (plain.stmt_and (plain.case (at 21 30) (plain.int (at 21 35) (pos 1) false false)
    (plain.case (at 21 38) (plain.int (at 21 43) (pos 1) false false) (plain.break (at 21 46))))
    (plain.stmt_and (plain.default (at 21 53) (plain.default (at 21 62) (plain.do_expr (at 21 71) None)))
    plain.no_stmts)) (at 21 73))) (plain.stmt_and (plain.return (at 21 75)
    (Some (plain.word (at 21 82) (name 390)))) plain.no_stmts)) (at 21 85))
    ∷ plain.function_def (plain.head ([]) (plain.spec (at 22 1) (plain.words (keys.Int ∷ [])) 0) ([]) (name 474)
    (at 22 5) (plain.params (plain.param_and (plain.param_decl ([]) (plain.spec (at 22 8)
    (plain.words (keys.Int ∷ [])) 0) (plain.named (plain.declr ([]) (name 390) (at 22 12)
    (plain.sizes plain.no_sizes)))) plain.no_params) false None)) (plain.block (at 22 15)
    (plain.stmt_and (plain.switch (at 22 17) (plain.word (at 22 25) (name 390))
    (plain.case (at 22 28) (plain.int (at 22 33) (pos 1) false false) (plain.return (at 22 36)
    (Some (plain.int (at 22 43) (pos 1) false false))))) (plain.stmt_and (plain.return (at 22 46)
    (Some (plain.word (at 22 53) (name 390)))) plain.no_stmts)) (at 22 56))
    ∷ plain.function_def (plain.head ([]) (plain.spec (at 23 1) (plain.words (keys.Int ∷ [])) 0) ([]) (name 475)
    (at 23 5) (plain.params (plain.param_and (plain.param_decl ([]) (plain.spec (at 23 8)
    (plain.words (keys.Int ∷ [])) 0) (plain.named (plain.declr ([]) (name 390) (at 23 12)
    (plain.sizes plain.no_sizes)))) plain.no_params) false None)) (plain.block (at 23 15)
    (plain.stmt_and (plain.switch (at 23 17) (plain.word (at 23 25) (name 390))
    (plain.block (at 23 28) (plain.stmt_and (plain.case (at 23 30) (plain.word (at 23 35) (name 390))
    (plain.return (at 23 38) (Some (plain.int (at 23 45) (pos 1) false false)))) plain.no_stmts) (at 23 48)))
    (plain.stmt_and (plain.return (at 23 50) (Some (plain.word (at 23 57) (name 390)))) plain.no_stmts)) (at 23 60))
    ∷ plain.function_def (plain.head ([]) (plain.spec (at 24 1) (plain.words (keys.Int ∷ [])) 0) ([]) (name 476)
    (at 24 5) (plain.params (plain.param_and (plain.param_decl ([]) (plain.spec (at 24 8)
    (plain.words (keys.Int ∷ [])) 0) (plain.named (plain.declr ([]) (name 390) (at 24 12)
    (plain.sizes plain.no_sizes)))) plain.no_params) false None)) (plain.block (at 24 15)
    (plain.stmt_and (plain.switch (at 24 17) (plain.word (at 24 25) (name 453))
    (plain.block (at 24 31) (plain.stmt_and (plain.label (at 24 33) (name 432)
    (plain.case (at 24 36) (plain.int (at 24 41) (pos 3) false false) (plain.return (at 24 44)
    (Some (plain.int (at 24 51) (pos 1) false false))))) plain.no_stmts) (at 24 54)))
    (plain.stmt_and (plain.return (at 24 56) (Some (plain.word (at 24 63) (name 390)))) plain.no_stmts)) (at 24 66))
    ∷ plain.function_def (plain.head ([]) (plain.spec (at 25 1) (plain.words (keys.Int ∷ [])) 0) ([]) (name 477)
    (at 25 5) (plain.params (plain.param_and (plain.param_decl ([]) (plain.spec (at 25 8)
    (plain.words (keys.Int ∷ [])) 0) (plain.named (plain.declr ([]) (name 390) (at 25 12)
    (plain.sizes plain.no_sizes)))) plain.no_params) false None)) (plain.block (at 25 15)
    (plain.stmt_and (plain.if_only (at 25 17) (plain.word (at 25 21) (name 390))
    (plain.label (at 25 24) (name 469) (plain.do_expr (at 25 27) (Some (plain.assign (at 25 29) puncts.Assign
    (plain.word (at 25 27) (name 390)) (plain.int (at 25 31) (pos 1) false false))))))
    (plain.stmt_and (plain.goto (at 25 34) (name 469) (at 25 39)) (plain.stmt_and
    (plain.return (at 25 42) (Some (plain.word (at 25 49) (name 390)))) plain.no_stmts))) (at 25 52))
    ∷ plain.function_def (plain.head ([]) (plain.spec (at 26 1) (plain.words (keys.Int ∷ [])) 0) ([]) (name 478)
    (at 26 5) (plain.params (plain.param_and (plain.param_decl ([]) (plain.spec (at 26 8)
    (plain.words (keys.Int ∷ [])) 0) (plain.named (plain.declr ([]) (name 390) (at 26 12)
    (plain.sizes plain.no_sizes)))) plain.no_params) false None)) (plain.block (at 26 15)
    (plain.stmt_and (plain.for (at 26 17) (plain.start_decl (plain.decl ([])
    (plain.spec (at 26 22) (plain.words (keys.Int ∷ [])) 0) ((plain.var_decl
    (plain.declr ([]) (name 479) (at 26 26) (plain.sizes plain.no_sizes)) (Some
    (plain.value (plain.int (at 26 30) (pos 0) false false)))) ∷ []))) (Some
    (plain.binary (at 26 35) puncts.Less (plain.word (at 26 33) (name 479)) (plain.word (at 26 37) (name 390))))
    (Some (plain.post (at 26 41) puncts.PlusPlus (plain.word (at 26 40) (name 479))))
    (plain.block (at 26 45) (plain.stmt_and (plain.do_expr (at 26 47) (Some
    (plain.assign (at 26 49) puncts.Assign (plain.word (at 26 47) (name 390)) (plain.word (at 26 51) (name 479)))))
    plain.no_stmts) (at 26 54))) (plain.stmt_and (plain.return (at 26 56) (Some (plain.word (at 26 63) (name 479))))
    plain.no_stmts)) (at 26 66)) ∷ plain.function_def (plain.head ([]) (plain.spec (at 27 1)
    (plain.words (keys.Void ∷ [])) 0) ([]) (name 480) (at 27 6) (plain.params
    (plain.param_and (plain.param_decl ([]) (plain.spec (at 27 9) (plain.words (keys.Int ∷ [])) 0)
    (plain.named (plain.declr ([]) (name 390) (at 27 13) (plain.sizes plain.no_sizes)))) plain.no_params) false
    None)) (plain.block (at 27 16) (plain.stmt_and (plain.return (at 27 18)
    (Some (plain.word (at 27 25) (name 390)))) plain.no_stmts) (at 27 28))
    ∷ plain.function_def (plain.head ([]) (plain.spec (at 28 1) (plain.words (keys.Int ∷ [])) 0) ([]) (name 481)
    (at 28 5) (plain.params (plain.param_and (plain.param_decl ([]) (plain.spec (at 28 8)
    (plain.words (keys.Int ∷ [])) 0) (plain.named (plain.declr ([]) (name 390) (at 28 12)
    (plain.sizes plain.no_sizes)))) plain.no_params) false None)) (plain.block (at 28 15)
    (plain.stmt_and (plain.return (at 28 17) None) plain.no_stmts) (at 28 25))
    ∷ plain.function_def (plain.head ([]) (plain.spec (at 29 1) (plain.words (keys.Int ∷ [])) 0) ([]) (name 482)
    (at 29 5) (plain.params (plain.param_and (plain.param_decl ([]) (plain.spec (at 29 8)
    (plain.words (keys.Int ∷ [])) 0) (plain.named (plain.declr ([]) (name 390) (at 29 12)
    (plain.sizes plain.no_sizes)))) plain.no_params) false None)) (plain.block (at 29 15)
    (plain.stmt_and (plain.do_while (at 29 17) (plain.do_expr (at 29 20) (Some
    (plain.assign (at 29 22) puncts.Assign (plain.word (at 29 20) (name 390))
    (plain.int (at 29 24) (pos 1) false false)))) (plain.call (at 29 34) (plain.word (at 29 34) (name 167))
    (plain.expr_and (plain.word (at 29 44) (name 453)) plain.no_exprs))) (plain.stmt_and
    (plain.return (at 29 52) (Some (plain.word (at 29 59) (name 390)))) plain.no_stmts)) (at 29 62))
    ∷ plain.function_def (plain.head ([]) (plain.spec (at 30 1) (plain.words (keys.Int ∷ [])) 0) ([]) (name 483)
    (at 30 5) (plain.params (plain.param_and (plain.param_decl ([]) (plain.spec (at 30 8)
    (plain.words (keys.Int ∷ [])) 0) (plain.named (plain.declr ([]) (name 390) (at 30 12)
    (plain.sizes plain.no_sizes)))) plain.no_params) false None)) (plain.block (at 30 15)
    (plain.stmt_and (plain.return (at 30 17) (Some (plain.call (at 30 24) (plain.word (at 30 24) (name 483))
    (plain.expr_and (plain.word (at 30 27) (name 390)) (plain.expr_and (plain.word (at 30 30) (name 390))
    plain.no_exprs))))) plain.no_stmts) (at 30 34)) ∷ plain.function_def (plain.head ([])
    (plain.spec (at 31 1) (plain.words (keys.Int ∷ [])) 0) ([]) (name 484) (at 31 5)
    (plain.params (plain.param_and (plain.param_decl ([]) (plain.spec (at 31 8) (plain.words (keys.Int ∷ [])) 0)
    (plain.named (plain.declr ([]) (name 390) (at 31 12) (plain.sizes plain.no_sizes)))) plain.no_params) false
    None)) (plain.block (at 31 15) (plain.stmt_and (plain.return (at 31 17)
    (Some (plain.binary (at 31 29) puncts.Plus (plain.call (at 31 24) (plain.word (at 31 24) (name 458))
    plain.no_exprs) (plain.int (at 31 31) (pos 1) false false)))) plain.no_stmts) (at 31 34))
    ∷ plain.function_def (plain.head ([]) (plain.spec (at 32 1) (plain.words (keys.Int ∷ [])) 0) ([]) (name 485)
    (at 32 5) (plain.params (plain.param_and (plain.param_decl ([]) (plain.spec (at 32 8)
    (plain.words (keys.Int ∷ [])) 0) (plain.named (plain.declr ([]) (name 390) (at 32 12)
    (plain.sizes plain.no_sizes)))) plain.no_params) false None)) (plain.block (at 32 15)
    (plain.stmt_and (plain.return (at 32 17) (Some (plain.binary (at 32 30) puncts.Plus
    (plain.call (at 32 24) (plain.word (at 32 24) (name 485)) (plain.expr_and (plain.word (at 32 27) (name 390))
    plain.no_exprs)) (plain.call (at 32 32) (plain.word (at 32 32) (name 484))
    (plain.expr_and (plain.word (at 32 35) (name 390)) plain.no_exprs))))) plain.no_stmts) (at 32 39)) ∷ []

no_fault_5 : least (faults (manual_file file_5)) ≡ None
no_fault_5 = refl

told_5 : map (refusal (manual_file file_5) (458 ∷ 459 ∷ 460 ∷ 461 ∷ 462 ∷ 463 ∷ 464 ∷ 465 ∷ 467
    ∷ 468 ∷ 470 ∷ 472 ∷ 473 ∷ 474 ∷ 475 ∷ 476 ∷ 478 ∷ 480 ∷ 481 ∷ 482 ∷ 483 ∷ 484 ∷ 485 ∷ [])) (definitions file_5)
    ≡ (None ∷ None ∷ None ∷ told 8 23 9 ∷ told 9 23 3 ∷ told 10 19 8 ∷ told 11 21 8 ∷ told 12 21 8 ∷ told 13 39 8
    ∷ told 14 21 8 ∷ told 15 32 10 ∷ told 16 21 10 ∷ told 17 27 7 ∷ told 18 17 7 ∷ None ∷ told 20 40 7
    ∷ told 21 38 7 ∷ told 22 28 7 ∷ told 23 30 7 ∷ told 24 17 10 ∷ None ∷ told 26 63 9 ∷ told 27 18 10
    ∷ told 28 17 10 ∷ told 29 34 10 ∷ told 30 24 10 ∷ told 31 24 9 ∷ told 32 32 9 ∷ [])
told_5 = refl

sound_5 : map (λ d. is_sound_action (resolved (manual_file file_5)
    (458 ∷ 459 ∷ 460 ∷ 461 ∷ 462 ∷ 463 ∷ 464 ∷ 465 ∷ 467 ∷ 468 ∷ 470 ∷ 472 ∷ 473 ∷ 474 ∷ 475 ∷ 476 ∷ 478 ∷ 480 ∷ 481
    ∷ 482 ∷ 483 ∷ 484 ∷ 485 ∷ []) d).body) (passed (refusal (manual_file file_5)
    (458 ∷ 459 ∷ 460 ∷ 461 ∷ 462 ∷ 463 ∷ 464 ∷ 465 ∷ 467 ∷ 468 ∷ 470 ∷ 472 ∷ 473 ∷ 474 ∷ 475 ∷ 476 ∷ 478 ∷ 480 ∷ 481
    ∷ 482 ∷ 483 ∷ 484 ∷ 485 ∷ [])) (definitions file_5)) ≡ (true ∷ true ∷ true ∷ true ∷ true ∷ [])
sound_5 = refl
