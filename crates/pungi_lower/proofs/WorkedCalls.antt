-- How each run of small functions ends, by computing from the definitions: calls of the API. The expected ends come
-- from a reading of the rules.
use Rattle.std.proofs.Common.{◌≡◌, refl, List, [], ◌∷◌, Some, None, true, false, pos, negsuc}
use Rattle.pungi_base.specs.declared.choice.Choice.TheVariants as choice
use Rattle.pungi_base.specs.declared.key.Key.TheVariants as keys
use Rattle.pungi_base.specs.declared.kind.Kind.TheVariants as tokens
use Rattle.pungi_base.specs.declared.punct.Punct.TheVariants as puncts
use Rattle.pungi_base.specs.declared.value.Value.TheVariants as value
use Rattle.pungi_tree.specs.Syntax as plain
use Rattle.pungi_lower.proofs.Worked.{at, name, gives, stops, wants, told, last_run}

-- ---- Calls of the API

-- void f(PyObject *x) { Py_INCREF(x); }
abbrev pub file_18 : List plain.Item
file_18 =
    plain.function_def (plain.head ([]) (plain.spec (at 1 1) (plain.words (keys.Void ∷ [])) 0) ([]) (name 374)
    (at 1 6) (plain.params (plain.param_and (plain.param_decl ([]) (plain.spec (at 1 8) (plain.alias (name 48)) 0)
    (plain.named (plain.declr (0 ∷ []) (name 375) (at 1 18) (plain.sizes plain.no_sizes)))) plain.no_params) false
    None)) (plain.block (at 1 21) (plain.stmt_and (plain.do_expr (at 1 23)
    (Some (plain.call (at 1 23) (plain.word (at 1 23) (name 167)) (plain.expr_and (plain.word (at 1 33) (name 375))
    plain.no_exprs)))) plain.no_stmts) (at 1 37)) ∷ []

run_18 : told (last_run file_18 24 (value.Null ∷ []) ([]) 50) ≡ stops (at 1 23)
run_18 = refl

-- void f(PyObject *x) { Py_XINCREF(x); }
abbrev pub file_19 : List plain.Item
file_19 =
    plain.function_def (plain.head ([]) (plain.spec (at 1 1) (plain.words (keys.Void ∷ [])) 0) ([]) (name 374)
    (at 1 6) (plain.params (plain.param_and (plain.param_decl ([]) (plain.spec (at 1 8) (plain.alias (name 48)) 0)
    (plain.named (plain.declr (0 ∷ []) (name 375) (at 1 18) (plain.sizes plain.no_sizes)))) plain.no_params) false
    None)) (plain.block (at 1 21) (plain.stmt_and (plain.do_expr (at 1 23)
    (Some (plain.call (at 1 23) (plain.word (at 1 23) (name 169)) (plain.expr_and (plain.word (at 1 34) (name 375))
    plain.no_exprs)))) plain.no_stmts) (at 1 38)) ∷ []

run_19 : told (last_run file_19 24 (value.Null ∷ []) ([]) 50) ≡ gives None (at 1 38) ([])
run_19 = refl

-- PyObject *f(int n) { return PyList_New(n); }
abbrev pub file_20 : List plain.Item
file_20 =
    plain.function_def (plain.head ([]) (plain.spec (at 1 1) (plain.alias (name 48)) 0) (0 ∷ []) (name 374)
    (at 1 11) (plain.params (plain.param_and (plain.param_decl ([]) (plain.spec (at 1 13)
    (plain.words (keys.Int ∷ [])) 0) (plain.named (plain.declr ([]) (name 375) (at 1 17)
    (plain.sizes plain.no_sizes)))) plain.no_params) false None)) (plain.block (at 1 20)
    (plain.stmt_and (plain.return (at 1 22) (Some (plain.call (at 1 29) (plain.word (at 1 29) (name 106))
    (plain.expr_and (plain.word (at 1 40) (name 375)) plain.no_exprs)))) plain.no_stmts) (at 1 44)) ∷ []

run_20 : told (last_run file_20 24 ((value.Int (pos 3)) ∷ []) ((choice.Object 24) ∷ []) 50)
    ≡ gives (Some (value.Object 24)) (at 1 22) (at 1 29 ∷ [])
run_20 = refl

-- PyObject *f(PyObject *x) { PyObject *a = PyList_New(0); PyObject *b = PyList_New(1); return b; }
abbrev pub file_21 : List plain.Item
file_21 =
    plain.function_def (plain.head ([]) (plain.spec (at 1 1) (plain.alias (name 48)) 0) (0 ∷ []) (name 374)
    (at 1 11) (plain.params (plain.param_and (plain.param_decl ([]) (plain.spec (at 1 13) (plain.alias (name 48)) 0)
    (plain.named (plain.declr (0 ∷ []) (name 375) (at 1 23) (plain.sizes plain.no_sizes)))) plain.no_params) false
    None)) (plain.block (at 1 26) (plain.stmt_and (plain.declare (at 1 28)
    (plain.decl ([]) (plain.spec (at 1 28) (plain.alias (name 48)) 0) ((plain.var_decl
    (plain.declr (0 ∷ []) (name 376) (at 1 38) (plain.sizes plain.no_sizes))
    (Some (plain.value (plain.call (at 1 42) (plain.word (at 1 42) (name 106))
    (plain.expr_and (plain.int (at 1 53) (pos 0) false false) plain.no_exprs))))) ∷ [])))
    (plain.stmt_and (plain.declare (at 1 57) (plain.decl ([]) (plain.spec (at 1 57) (plain.alias (name 48)) 0)
    ((plain.var_decl (plain.declr (0 ∷ []) (name 377) (at 1 67) (plain.sizes plain.no_sizes))
    (Some (plain.value (plain.call (at 1 71) (plain.word (at 1 71) (name 106))
    (plain.expr_and (plain.int (at 1 82) (pos 1) false false) plain.no_exprs))))) ∷ [])))
    (plain.stmt_and (plain.return (at 1 86) (Some (plain.word (at 1 93) (name 377)))) plain.no_stmts))) (at 1 96))
    ∷ []

run_21 : told (last_run file_21 24 (value.Null ∷ []) ((choice.Object 24) ∷ choice.Null ∷ []) 80)
    ≡ gives (Some value.Null) (at 1 86) (at 1 42 ∷ at 1 71 ∷ [])
run_21 = refl

-- int f(PyObject *l, PyObject *x) { if (PyList_Append(l, x) < 0) return -1; return 0; }
abbrev pub file_22 : List plain.Item
file_22 =
    plain.function_def (plain.head ([]) (plain.spec (at 1 1) (plain.words (keys.Int ∷ [])) 0) ([]) (name 374)
    (at 1 5) (plain.params (plain.param_and (plain.param_decl ([]) (plain.spec (at 1 7) (plain.alias (name 48)) 0)
    (plain.named (plain.declr (0 ∷ []) (name 375) (at 1 17) (plain.sizes plain.no_sizes))))
    (plain.param_and (plain.param_decl ([]) (plain.spec (at 1 20) (plain.alias (name 48)) 0)
    (plain.named (plain.declr (0 ∷ []) (name 376) (at 1 30) (plain.sizes plain.no_sizes)))) plain.no_params)) false
    None)) (plain.block (at 1 33) (plain.stmt_and (plain.if_only (at 1 35)
    (plain.binary (at 1 59) puncts.Less (plain.call (at 1 39) (plain.word (at 1 39) (name 143))
    (plain.expr_and (plain.word (at 1 53) (name 375)) (plain.expr_and (plain.word (at 1 56) (name 376))
    plain.no_exprs))) (plain.int (at 1 61) (pos 0) false false)) (plain.return (at 1 64)
    (Some (plain.unary (at 1 71) (tokens.Punct puncts.Minus) (plain.int (at 1 72) (pos 1) false false)))))
    (plain.stmt_and (plain.return (at 1 75) (Some (plain.int (at 1 82) (pos 0) false false))) plain.no_stmts))
    (at 1 85)) ∷ []

run_22 : told (last_run file_22 24 ((value.Object 1) ∷ (value.Object 2) ∷ []) ((choice.Int (negsuc 0)) ∷ []) 80)
    ≡ gives (Some (value.Int (negsuc 0))) (at 1 64) (at 1 39 ∷ [])
run_22 = refl

-- int f(PyObject *l, PyObject *x) { if (PyList_Append(l, x) < 0) return -1; return 0; }
run_23 : told (last_run file_22 24 ((value.Object 1) ∷ (value.Object 2) ∷ []) ((choice.Int (pos 1)) ∷ []) 80) ≡ wants
run_23 = refl

-- PyObject *f(void) { PyErr_SetString(PyExc_ValueError, "e"); return NULL; }
abbrev pub file_24 : List plain.Item
file_24 =
    plain.function_def (plain.head ([]) (plain.spec (at 1 1) (plain.alias (name 48)) 0) (0 ∷ []) (name 374)
    (at 1 11) (plain.params plain.no_params true None)) (plain.block (at 1 19)
    (plain.stmt_and (plain.do_expr (at 1 21) (Some (plain.call (at 1 21) (plain.word (at 1 21) (name 163))
    (plain.expr_and (plain.word (at 1 37) (name 84)) (plain.expr_and (plain.text (at 1 55) ((name 375) ∷ []))
    plain.no_exprs))))) (plain.stmt_and (plain.return (at 1 61) (Some (plain.null (at 1 68)))) plain.no_stmts))
    (at 1 74)) ∷ []

run_24 : told (last_run file_24 24 ([]) ([]) 80) ≡ gives (Some value.Null) (at 1 61) ([])
run_24 = refl

-- void f(PyObject *x) { (void)Py_INCREF(x); (Py_INCREF(x)); }
abbrev pub file_25 : List plain.Item
file_25 =
    plain.function_def (plain.head ([]) (plain.spec (at 1 1) (plain.words (keys.Void ∷ [])) 0) ([]) (name 374)
    (at 1 6) (plain.params (plain.param_and (plain.param_decl ([]) (plain.spec (at 1 8) (plain.alias (name 48)) 0)
    (plain.named (plain.declr (0 ∷ []) (name 375) (at 1 18) (plain.sizes plain.no_sizes)))) plain.no_params) false
    None)) (plain.block (at 1 21) (plain.stmt_and (plain.do_expr (at 1 23)
    (Some (plain.cast (at 1 23) (plain.type_name (plain.spec (at 1 24) (plain.words (keys.Void ∷ [])) 0) ([]))
    (plain.call (at 1 29) (plain.word (at 1 29) (name 167)) (plain.expr_and (plain.word (at 1 39) (name 375))
    plain.no_exprs))))) (plain.stmt_and (plain.do_expr (at 1 43) (Some (plain.paren (at 1 43)
    (plain.call (at 1 44) (plain.word (at 1 44) (name 167)) (plain.expr_and (plain.word (at 1 54) (name 375))
    plain.no_exprs))))) plain.no_stmts)) (at 1 59)) ∷ []

run_25 : told (last_run file_25 24 ((value.Object 1) ∷ []) ([]) 80) ≡ gives None (at 1 59) ([])
run_25 = refl

-- PyObject *f(void) { return Py_None; }
abbrev pub file_26 : List plain.Item
file_26 =
    plain.function_def (plain.head ([]) (plain.spec (at 1 1) (plain.alias (name 48)) 0) (0 ∷ []) (name 374)
    (at 1 11) (plain.params plain.no_params true None)) (plain.block (at 1 19)
    (plain.stmt_and (plain.return (at 1 21) (Some (plain.word (at 1 28) (name 79)))) plain.no_stmts) (at 1 37)) ∷ []

run_26 : told (last_run file_26 24 ([]) ([]) 80) ≡ gives (Some (value.Object 0)) (at 1 21) ([])
run_26 = refl

-- PyObject *f(void) { return (PyObject *)&PyList_Type; }
abbrev pub file_27 : List plain.Item
file_27 =
    plain.function_def (plain.head ([]) (plain.spec (at 1 1) (plain.alias (name 48)) 0) (0 ∷ []) (name 374)
    (at 1 11) (plain.params plain.no_params true None)) (plain.block (at 1 19)
    (plain.stmt_and (plain.return (at 1 21) (Some (plain.cast (at 1 28) (plain.type_name
    (plain.spec (at 1 29) (plain.alias (name 48)) 0) (0 ∷ [])) (plain.unary (at 1 40) (tokens.Punct puncts.And)
    (plain.word (at 1 41) (name 97)))))) plain.no_stmts) (at 1 54)) ∷ []

run_27 : told (last_run file_27 24 ([]) ([]) 80) ≡ gives (Some (value.Object 18)) (at 1 21) ([])
run_27 = refl

-- int f(PyObject *x) { int n = PyLong_AsLong(x); return n; }
abbrev pub file_28 : List plain.Item
file_28 =
    plain.function_def (plain.head ([]) (plain.spec (at 1 1) (plain.words (keys.Int ∷ [])) 0) ([]) (name 374)
    (at 1 5) (plain.params (plain.param_and (plain.param_decl ([]) (plain.spec (at 1 7) (plain.alias (name 48)) 0)
    (plain.named (plain.declr (0 ∷ []) (name 375) (at 1 17) (plain.sizes plain.no_sizes)))) plain.no_params) false
    None)) (plain.block (at 1 20) (plain.stmt_and (plain.declare (at 1 22)
    (plain.decl ([]) (plain.spec (at 1 22) (plain.words (keys.Int ∷ [])) 0)
    ((plain.var_decl (plain.declr ([]) (name 376) (at 1 26) (plain.sizes plain.no_sizes))
    (Some (plain.value (plain.call (at 1 30) (plain.word (at 1 30) (name 160))
    (plain.expr_and (plain.word (at 1 44) (name 375)) plain.no_exprs))))) ∷ [])))
    (plain.stmt_and (plain.return (at 1 48) (Some (plain.word (at 1 55) (name 376)))) plain.no_stmts)) (at 1 58))
    ∷ []

run_28 : told (last_run file_28 24 ((value.Object 1) ∷ []) ((choice.Int (pos 5000000000)) ∷ []) 80) ≡ stops (at 1 26)
run_28 = refl

-- PyObject *f(PyObject *x) { return Py_NewRef(x); }
abbrev pub file_29 : List plain.Item
file_29 =
    plain.function_def (plain.head ([]) (plain.spec (at 1 1) (plain.alias (name 48)) 0) (0 ∷ []) (name 374)
    (at 1 11) (plain.params (plain.param_and (plain.param_decl ([]) (plain.spec (at 1 13) (plain.alias (name 48)) 0)
    (plain.named (plain.declr (0 ∷ []) (name 375) (at 1 23) (plain.sizes plain.no_sizes)))) plain.no_params) false
    None)) (plain.block (at 1 26) (plain.stmt_and (plain.return (at 1 28) (Some
    (plain.call (at 1 35) (plain.word (at 1 35) (name 172)) (plain.expr_and (plain.word (at 1 45) (name 375))
    plain.no_exprs)))) plain.no_stmts) (at 1 49)) ∷ []

run_29 : told (last_run file_29 24 ((value.Object 5) ∷ []) ([]) 80) ≡ gives (Some (value.Object 5)) (at 1 28) ([])
run_29 = refl

-- PyObject *f(PyObject *x) { return PyNumber_Add(PyObject_Str(x), PyObject_Repr(x)); }
abbrev pub file_30 : List plain.Item
file_30 =
    plain.function_def (plain.head ([]) (plain.spec (at 1 1) (plain.alias (name 48)) 0) (0 ∷ []) (name 374)
    (at 1 11) (plain.params (plain.param_and (plain.param_decl ([]) (plain.spec (at 1 13) (plain.alias (name 48)) 0)
    (plain.named (plain.declr (0 ∷ []) (name 375) (at 1 23) (plain.sizes plain.no_sizes)))) plain.no_params) false
    None)) (plain.block (at 1 26) (plain.stmt_and (plain.return (at 1 28) (Some
    (plain.call (at 1 35) (plain.word (at 1 35) (name 119)) (plain.expr_and
    (plain.call (at 1 48) (plain.word (at 1 48) (name 109)) (plain.expr_and (plain.word (at 1 61) (name 375))
    plain.no_exprs)) (plain.expr_and (plain.call (at 1 65) (plain.word (at 1 65) (name 110))
    (plain.expr_and (plain.word (at 1 79) (name 375)) plain.no_exprs)) plain.no_exprs))))) plain.no_stmts)
    (at 1 84)) ∷ []

run_30 : told (last_run file_30 24 ((value.Object 5) ∷ []) ((choice.Object 24) ∷ (choice.Object 25)
    ∷ (choice.Object 26) ∷ []) 80) ≡ gives (Some (value.Object 26)) (at 1 28) (at 1 48 ∷ at 1 65 ∷ at 1 35 ∷ [])
run_30 = refl

-- PyObject *f(PyObject *x) { return PyNumber_Add(PyObject_Str(x), x); }
abbrev pub file_31 : List plain.Item
file_31 =
    plain.function_def (plain.head ([]) (plain.spec (at 1 1) (plain.alias (name 48)) 0) (0 ∷ []) (name 374)
    (at 1 11) (plain.params (plain.param_and (plain.param_decl ([]) (plain.spec (at 1 13) (plain.alias (name 48)) 0)
    (plain.named (plain.declr (0 ∷ []) (name 375) (at 1 23) (plain.sizes plain.no_sizes)))) plain.no_params) false
    None)) (plain.block (at 1 26) (plain.stmt_and (plain.return (at 1 28) (Some
    (plain.call (at 1 35) (plain.word (at 1 35) (name 119)) (plain.expr_and
    (plain.call (at 1 48) (plain.word (at 1 48) (name 109)) (plain.expr_and (plain.word (at 1 61) (name 375))
    plain.no_exprs)) (plain.expr_and (plain.word (at 1 65) (name 375)) plain.no_exprs))))) plain.no_stmts)
    (at 1 69)) ∷ []

run_31 : told (last_run file_31 24 ((value.Object 5) ∷ []) (choice.Null ∷ []) 80) ≡ stops (at 1 35)
run_31 = refl

-- int f(PyObject *x, long a) { return PyObject_RichCompareBool(x, x, a); }
abbrev pub file_32 : List plain.Item
file_32 =
    plain.function_def (plain.head ([]) (plain.spec (at 1 1) (plain.words (keys.Int ∷ [])) 0) ([]) (name 374)
    (at 1 5) (plain.params (plain.param_and (plain.param_decl ([]) (plain.spec (at 1 7) (plain.alias (name 48)) 0)
    (plain.named (plain.declr (0 ∷ []) (name 375) (at 1 17) (plain.sizes plain.no_sizes))))
    (plain.param_and (plain.param_decl ([]) (plain.spec (at 1 20) (plain.words (keys.Long ∷ [])) 0)
    (plain.named (plain.declr ([]) (name 376) (at 1 25) (plain.sizes plain.no_sizes)))) plain.no_params)) false
    None)) (plain.block (at 1 28) (plain.stmt_and (plain.return (at 1 30) (Some
    (plain.call (at 1 37) (plain.word (at 1 37) (name 156)) (plain.expr_and (plain.word (at 1 62) (name 375))
    (plain.expr_and (plain.word (at 1 65) (name 375)) (plain.expr_and (plain.word (at 1 68) (name 376))
    plain.no_exprs)))))) plain.no_stmts) (at 1 72)) ∷ []

run_32 : told (last_run file_32 24 ((value.Object 1) ∷ (value.Int (pos 3000000000)) ∷ [])
    ((choice.Int (pos 1)) ∷ []) 80) ≡ stops (at 1 68)
run_32 = refl

-- int f(PyObject *x, long a) { return PyObject_RichCompareBool(x, x, a + 1); }
abbrev pub file_33 : List plain.Item
file_33 =
    plain.function_def (plain.head ([]) (plain.spec (at 1 1) (plain.words (keys.Int ∷ [])) 0) ([]) (name 374)
    (at 1 5) (plain.params (plain.param_and (plain.param_decl ([]) (plain.spec (at 1 7) (plain.alias (name 48)) 0)
    (plain.named (plain.declr (0 ∷ []) (name 375) (at 1 17) (plain.sizes plain.no_sizes))))
    (plain.param_and (plain.param_decl ([]) (plain.spec (at 1 20) (plain.words (keys.Long ∷ [])) 0)
    (plain.named (plain.declr ([]) (name 376) (at 1 25) (plain.sizes plain.no_sizes)))) plain.no_params)) false
    None)) (plain.block (at 1 28) (plain.stmt_and (plain.return (at 1 30) (Some
    (plain.call (at 1 37) (plain.word (at 1 37) (name 156)) (plain.expr_and (plain.word (at 1 62) (name 375))
    (plain.expr_and (plain.word (at 1 65) (name 375)) (plain.expr_and (plain.binary (at 1 70) puncts.Plus
    (plain.word (at 1 68) (name 376)) (plain.int (at 1 72) (pos 1) false false)) plain.no_exprs))))))
    plain.no_stmts) (at 1 76)) ∷ []

run_33 : told (last_run file_33 24 ((value.Object 1) ∷ (value.Int (pos 3000000000)) ∷ [])
    ((choice.Int (pos 1)) ∷ []) 80) ≡ stops (at 1 70)
run_33 = refl
