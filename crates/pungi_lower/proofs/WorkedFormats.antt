-- How each run of small functions ends, by computing from the definitions: calls with formats and outputs. The expected
-- ends come from a reading of the manual (Python/C API Reference Manual 3.11, 'Parsing arguments and building values').
use Rattle.std.proofs.Common.{◌≡◌, ℕ, refl, List, [], ◌∷◌, Some, None, false, pos, ℤ}
use Rattle.std.specs.Prelude.{codes}
use Rattle.pungi_base.specs.declared.choice.Choice.TheVariants as choice
use Rattle.pungi_base.specs.declared.key.Key.TheVariants as keys
use Rattle.pungi_base.specs.declared.kind.Kind.TheVariants as tokens
use Rattle.pungi_base.specs.declared.punct.Punct.TheVariants as puncts
use Rattle.pungi_base.specs.declared.value.Value.TheVariants as value
use Rattle.pungi_tree.specs.Syntax as plain
use Rattle.pungi_world.specs.World.{account_of}
use Rattle.pungi_meaning.specs.Run.{End, Returned}
use Rattle.pungi_lower.proofs.Worked.{at, name, gives, stops, wants, told, last_run_with}
use Rattle.pungi_lower.proofs.WorkedSlots.{change_of}

abbrev pub handed_of : ℕ → End → ℤ
handed_of object (Returned w v p used) = (account_of w object).handed
handed_of object e = pos 0

-- ---- `PyArg_ParseTuple`: an object, and a number that may be missing

-- int f(PyObject *a, int n) { PyObject *o; if (PyArg_ParseTuple(a, "O|i:f", &o, &n)) return n; return 0; }
abbrev pub texts_0 : List (List ℕ)
texts_0 = codes "O|i:f" ∷ []

abbrev pub file_0 : List plain.Item
file_0 =
    plain.function_def (plain.head ([]) (plain.spec (at 1 1) (plain.words (keys.Int ∷ [])) 0) ([]) (name 374) (at 1 5)
    (plain.params (plain.param_and (plain.param_decl ([]) (plain.spec (at 1 7) (plain.alias (name 48)) 0) (plain.named
    (plain.declr (0 ∷ []) (name 375) (at 1 17) (plain.sizes plain.no_sizes)))) (plain.param_and (plain.param_decl ([])
    (plain.spec (at 1 20) (plain.words (keys.Int ∷ [])) 0) (plain.named (plain.declr ([]) (name 376) (at 1 24)
    (plain.sizes plain.no_sizes)))) plain.no_params)) false None)) (plain.block (at 1 27) (plain.stmt_and
    (plain.declare (at 1 29) (plain.decl ([]) (plain.spec (at 1 29) (plain.alias (name 48)) 0) ((plain.var_decl
    (plain.declr (0 ∷ []) (name 377) (at 1 39) (plain.sizes plain.no_sizes)) None) ∷ []))) (plain.stmt_and
    (plain.if_only (at 1 42) (plain.call (at 1 46) (plain.word (at 1 46) (name 178)) (plain.expr_and (plain.word
    (at 1 63) (name 375)) (plain.expr_and (plain.text (at 1 66) (name 0 ∷ [])) (plain.expr_and (plain.unary (at 1 75)
    (tokens.Punct puncts.And) (plain.word (at 1 76) (name 377))) (plain.expr_and (plain.unary (at 1 79) (tokens.Punct
    puncts.And) (plain.word (at 1 80) (name 376))) plain.no_exprs))))) (plain.return (at 1 84) (Some (plain.word
    (at 1 91) (name 376))))) (plain.stmt_and (plain.return (at 1 94) (Some (plain.int (at 1 101) (pos 0) false false)))
    plain.no_stmts))) (at 1 104)) ∷ []

run_0 : told (last_run_with texts_0 file_0 25 (value.Object 24 ∷ value.Int (pos 7) ∷ []) (choice.Given 2 ∷
    choice.Object 25 ∷ choice.Int (pos 5) ∷ []) 120) ≡ gives (Some (value.Int (pos 5))) (at 1 84) (at 1 46 ∷ at 1 46 ∷
    at 1 46 ∷ [])
run_0 = refl

-- a variable whose argument is missing keeps its value
run_1 : told (last_run_with texts_0 file_0 25 (value.Object 24 ∷ value.Int (pos 7) ∷ []) (choice.Given 1 ∷
    choice.Object 25 ∷ []) 120) ≡ gives (Some (value.Int (pos 7))) (at 1 84) (at 1 46 ∷ at 1 46 ∷ [])
run_1 = refl

-- the number has the wrong type; the object was written before
run_2 : told (last_run_with texts_0 file_0 25 (value.Object 24 ∷ value.Int (pos 7) ∷ []) (choice.Failed 1 ∷
    choice.Object 25 ∷ []) 120) ≡ gives (Some (value.Int (pos 0))) (at 1 94) (at 1 46 ∷ at 1 46 ∷ [])
run_2 = refl

run_3 : told (last_run_with texts_0 file_0 25 (value.Object 24 ∷ value.Int (pos 7) ∷ []) (choice.Failed 0 ∷ []) 120) ≡
    gives (Some (value.Int (pos 0))) (at 1 94) (at 1 46 ∷ [])
run_3 = refl

-- the object is required
run_4 : told (last_run_with texts_0 file_0 25 (value.Object 24 ∷ value.Int (pos 7) ∷ []) (choice.Given 0 ∷ []) 120) ≡
    wants
run_4 = refl

-- the tuple is not NULL
run_5 : told (last_run_with texts_0 file_0 24 (value.Null ∷ value.Int (pos 7) ∷ []) (choice.Given 1 ∷ []) 120) ≡ stops
    (at 1 46)
run_5 = refl

-- ---- `PyArg_UnpackTuple`

-- PyObject *f(PyObject *a) { PyObject *o = a; PyArg_UnpackTuple(a, "f", 0, 1, &o); return o; }
abbrev pub texts_6 : List (List ℕ)
texts_6 = codes "f" ∷ []

abbrev pub file_6 : List plain.Item
file_6 =
    plain.function_def (plain.head ([]) (plain.spec (at 1 1) (plain.alias (name 48)) 0) (0 ∷ []) (name 374) (at 1 11)
    (plain.params (plain.param_and (plain.param_decl ([]) (plain.spec (at 1 13) (plain.alias (name 48)) 0) (plain.named
    (plain.declr (0 ∷ []) (name 375) (at 1 23) (plain.sizes plain.no_sizes)))) plain.no_params) false None))
    (plain.block (at 1 26) (plain.stmt_and (plain.declare (at 1 28) (plain.decl ([]) (plain.spec (at 1 28) (plain.alias
    (name 48)) 0) ((plain.var_decl (plain.declr (0 ∷ []) (name 376) (at 1 38) (plain.sizes plain.no_sizes)) (Some
    (plain.value (plain.word (at 1 42) (name 375))))) ∷ []))) (plain.stmt_and (plain.do_expr (at 1 45) (Some
    (plain.call (at 1 45) (plain.word (at 1 45) (name 179)) (plain.expr_and (plain.word (at 1 63) (name 375))
    (plain.expr_and (plain.text (at 1 66) (name 0 ∷ [])) (plain.expr_and (plain.int (at 1 71) (pos 0) false false)
    (plain.expr_and (plain.int (at 1 74) (pos 1) false false) (plain.expr_and (plain.unary (at 1 77) (tokens.Punct
    puncts.And) (plain.word (at 1 78) (name 376))) plain.no_exprs)))))))) (plain.stmt_and (plain.return (at 1 82) (Some
    (plain.word (at 1 89) (name 376)))) plain.no_stmts))) (at 1 92)) ∷ []

run_6 : told (last_run_with texts_6 file_6 25 (value.Object 24 ∷ []) (choice.Given 1 ∷ choice.Object 25 ∷ []) 120) ≡
    gives (Some (value.Object 25)) (at 1 82) (at 1 45 ∷ at 1 45 ∷ [])
run_6 = refl

run_7 : told (last_run_with texts_6 file_6 25 (value.Object 24 ∷ []) (choice.Given 0 ∷ []) 120) ≡ gives (Some
    (value.Object 24)) (at 1 82) (at 1 45 ∷ [])
run_7 = refl

run_8 : told (last_run_with texts_6 file_6 25 (value.Object 24 ∷ []) (choice.Failed 0 ∷ []) 120) ≡ gives (Some
    (value.Object 24)) (at 1 82) (at 1 45 ∷ [])
run_8 = refl

-- ---- `PyDict_Next`

-- PyObject *f(PyObject *d) { Py_ssize_t i = 0; PyObject *v = NULL; PyDict_Next(d, &i, NULL, &v); return v; }
abbrev pub texts_9 : List (List ℕ)
texts_9 = []

abbrev pub file_9 : List plain.Item
file_9 =
    plain.function_def (plain.head ([]) (plain.spec (at 1 1) (plain.alias (name 48)) 0) (0 ∷ []) (name 374) (at 1 11)
    (plain.params (plain.param_and (plain.param_decl ([]) (plain.spec (at 1 13) (plain.alias (name 48)) 0) (plain.named
    (plain.declr (0 ∷ []) (name 375) (at 1 23) (plain.sizes plain.no_sizes)))) plain.no_params) false None))
    (plain.block (at 1 26) (plain.stmt_and (plain.declare (at 1 28) (plain.decl ([]) (plain.spec (at 1 28) (plain.alias
    (name 62)) 0) ((plain.var_decl (plain.declr ([]) (name 376) (at 1 39) (plain.sizes plain.no_sizes)) (Some
    (plain.value (plain.int (at 1 43) (pos 0) false false)))) ∷ []))) (plain.stmt_and (plain.declare (at 1 46)
    (plain.decl ([]) (plain.spec (at 1 46) (plain.alias (name 48)) 0) ((plain.var_decl (plain.declr (0 ∷ []) (name 377)
    (at 1 56) (plain.sizes plain.no_sizes)) (Some (plain.value (plain.null (at 1 60))))) ∷ []))) (plain.stmt_and
    (plain.do_expr (at 1 66) (Some (plain.call (at 1 66) (plain.word (at 1 66) (name 180)) (plain.expr_and (plain.word
    (at 1 78) (name 375)) (plain.expr_and (plain.unary (at 1 81) (tokens.Punct puncts.And) (plain.word (at 1 82) (name
    376))) (plain.expr_and (plain.null (at 1 85)) (plain.expr_and (plain.unary (at 1 91) (tokens.Punct puncts.And)
    (plain.word (at 1 92) (name 377))) plain.no_exprs))))))) (plain.stmt_and (plain.return (at 1 96) (Some (plain.word
    (at 1 103) (name 377)))) plain.no_stmts)))) (at 1 106)) ∷ []

-- the position is written, and then the value, which is borrowed
run_9 : told (last_run_with texts_9 file_9 25 (value.Object 24 ∷ []) (choice.Int (pos 1) ∷ choice.Int (pos 3) ∷
    choice.Object 25 ∷ []) 160) ≡ gives (Some (value.Object 25)) (at 1 96) (at 1 66 ∷ at 1 66 ∷ at 1 66 ∷ [])
run_9 = refl

changes_9 : ◌≡◌ {A = List ℤ} (change_of 24 (last_run_with texts_9 file_9 25 (value.Object 24 ∷ []) (choice.Int (pos 1)
    ∷ choice.Int (pos 3) ∷ choice.Object 25 ∷ []) 160) ∷ change_of 25 (last_run_with texts_9 file_9 25 (value.Object 24
    ∷ []) (choice.Int (pos 1) ∷ choice.Int (pos 3) ∷ choice.Object 25 ∷ []) 160) ∷ []) (pos 0 ∷ pos 0 ∷ [])
changes_9 = refl

-- nothing is left
run_10 : told (last_run_with texts_9 file_9 25 (value.Object 24 ∷ []) (choice.Int (pos 0) ∷ []) 160) ≡ gives (Some
    value.Null) (at 1 96) (at 1 66 ∷ [])
run_10 = refl

-- ---- `Py_BuildValue`: the tuple is a new reference, and takes over none

-- PyObject *f(PyObject *a, int n) { return Py_BuildValue("(Oi)", a, n); }
abbrev pub texts_11 : List (List ℕ)
texts_11 = codes "(Oi)" ∷ []

abbrev pub file_11 : List plain.Item
file_11 =
    plain.function_def (plain.head ([]) (plain.spec (at 1 1) (plain.alias (name 48)) 0) (0 ∷ []) (name 374) (at 1 11)
    (plain.params (plain.param_and (plain.param_decl ([]) (plain.spec (at 1 13) (plain.alias (name 48)) 0) (plain.named
    (plain.declr (0 ∷ []) (name 375) (at 1 23) (plain.sizes plain.no_sizes)))) (plain.param_and (plain.param_decl ([])
    (plain.spec (at 1 26) (plain.words (keys.Int ∷ [])) 0) (plain.named (plain.declr ([]) (name 376) (at 1 30)
    (plain.sizes plain.no_sizes)))) plain.no_params)) false None)) (plain.block (at 1 33) (plain.stmt_and (plain.return
    (at 1 35) (Some (plain.call (at 1 42) (plain.word (at 1 42) (name 181)) (plain.expr_and (plain.text (at 1 56) (name
    0 ∷ [])) (plain.expr_and (plain.word (at 1 64) (name 375)) (plain.expr_and (plain.word (at 1 67) (name 376))
    plain.no_exprs)))))) plain.no_stmts) (at 1 71)) ∷ []

run_11 : told (last_run_with texts_11 file_11 25 (value.Object 24 ∷ value.Int (pos 7) ∷ []) (choice.Object 25 ∷ [])
    120) ≡ gives (Some (value.Object 25)) (at 1 35) (at 1 42 ∷ [])
run_11 = refl

changes_11 : ◌≡◌ {A = List ℤ} (change_of 25 (last_run_with texts_11 file_11 25 (value.Object 24 ∷ value.Int (pos 7) ∷
    []) (choice.Object 25 ∷ []) 120) ∷ change_of 24 (last_run_with texts_11 file_11 25 (value.Object 24 ∷ value.Int
    (pos 7) ∷ []) (choice.Object 25 ∷ []) 120) ∷ []) (pos 1 ∷ pos 0 ∷ [])
changes_11 = refl

run_12 : told (last_run_with texts_11 file_11 25 (value.Object 24 ∷ value.Int (pos 7) ∷ []) (choice.Null ∷ []) 120) ≡
    gives (Some value.Null) (at 1 35) (at 1 42 ∷ [])
run_12 = refl

-- NULL among the objects is returned
run_13 : told (last_run_with texts_11 file_11 24 (value.Null ∷ value.Int (pos 7) ∷ []) (choice.Object 24 ∷ []) 120) ≡
    gives (Some value.Null) (at 1 35) ([])
run_13 = refl

-- ---- `N` takes over its object

-- PyObject *f(PyObject *a) { return Py_BuildValue("N", a); }
abbrev pub texts_14 : List (List ℕ)
texts_14 = codes "N" ∷ []

abbrev pub file_14 : List plain.Item
file_14 =
    plain.function_def (plain.head ([]) (plain.spec (at 1 1) (plain.alias (name 48)) 0) (0 ∷ []) (name 374) (at 1 11)
    (plain.params (plain.param_and (plain.param_decl ([]) (plain.spec (at 1 13) (plain.alias (name 48)) 0) (plain.named
    (plain.declr (0 ∷ []) (name 375) (at 1 23) (plain.sizes plain.no_sizes)))) plain.no_params) false None))
    (plain.block (at 1 26) (plain.stmt_and (plain.return (at 1 28) (Some (plain.call (at 1 35) (plain.word (at 1 35)
    (name 181)) (plain.expr_and (plain.text (at 1 49) (name 0 ∷ [])) (plain.expr_and (plain.word (at 1 54) (name 375))
    plain.no_exprs))))) plain.no_stmts) (at 1 58)) ∷ []

run_14 : told (last_run_with texts_14 file_14 25 (value.Object 24 ∷ []) (choice.Object 25 ∷ []) 120) ≡ gives (Some
    (value.Object 25)) (at 1 28) (at 1 35 ∷ [])
run_14 = refl

-- the reference to the object is handed over, and none of it is counted
handed_14 : ◌≡◌ {A = List ℤ} (handed_of 25 (last_run_with texts_14 file_14 25 (value.Object 24 ∷ []) (choice.Object 25
    ∷ []) 120) ∷ handed_of 24 (last_run_with texts_14 file_14 25 (value.Object 24 ∷ []) (choice.Object 25 ∷ []) 120) ∷
    []) (pos 0 ∷ pos 1 ∷ [])
handed_14 = refl

changes_14 : ◌≡◌ {A = List ℤ} (change_of 25 (last_run_with texts_14 file_14 25 (value.Object 24 ∷ []) (choice.Object 25
    ∷ []) 120) ∷ change_of 24 (last_run_with texts_14 file_14 25 (value.Object 24 ∷ []) (choice.Object 25 ∷ []) 120) ∷
    []) (pos 1 ∷ pos 0 ∷ [])
changes_14 = refl
