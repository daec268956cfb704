-- The rules on calls with formats and outputs, one function for each case (Python/C API Reference Manual 3.11, 'Parsing
-- arguments and building values').
use Rattle.std.proofs.Common.{◌≡◌, ℕ, refl, List, [], ◌∷◌, map, Some, None, true, false, pos}
use Rattle.std.specs.Prelude.{codes}
use Rattle.pungi_base.specs.declared.key.Key.TheVariants as keys
use Rattle.pungi_base.specs.declared.kind.Kind.TheVariants as tokens
use Rattle.pungi_base.specs.declared.punct.Punct.TheVariants as puncts
use Rattle.pungi_tree.specs.Syntax as plain
use Rattle.pungi_api.specs.Manual.{special_call}
use Rattle.pungi_api.specs.Rows.{builtin_row}
use Rattle.pungi_api.specs.declared.row.Row.{Row}
use Rattle.pungi_api.specs.declared.special.Special.TheVariants as special
use Rattle.pungi_api.specs.Terms.{manual_terms}
use Rattle.pungi_types.specs.Files.{SourceFile, source_file, definitions}
use Rattle.pungi_types.specs.Findings.{least}
use Rattle.pungi_check.specs.Duplicates.{faults}
use Rattle.pungi_types.specs.Functions.{refusal}
use Rattle.pungi_resolve.specs.Functions.{resolved}
use Rattle.pungi_resolve.specs.Sound.{is_sound_action}
use Rattle.pungi_check.proofs.worked.Words.{at, name, passed, told}

-- the texts of the string literals, which are the first names here
abbrev texts_12 : List (List ℕ)
texts_12 =
    codes "O" ∷ codes "O|i:f" ∷ codes "#" ∷ codes "" ∷ codes "z" ∷ codes "i" ∷ codes "(O" ∷ codes "(Ol)" ∷ codes "f" ∷
    []

abbrev rows_12 : List (ℕ × Row)
rows_12 =
    map builtin_row (
    special_call 178 (codes "PyArg_ParseTuple") special.ParseTuple ∷
    special_call 179 (codes "PyArg_UnpackTuple") special.UnpackTuple ∷
    special_call 180 (codes "PyDict_Next") special.DictNext ∷
    special_call 181 (codes "Py_BuildValue") special.BuildValue ∷ []
    )

-- void a1(PyObject *a) { PyArg_ParseTuple(a, "O", &a); }
-- void a2(PyObject *a, int n) { PyArg_ParseTuple(a, "O|i:f", &a, &n); }
-- void a3(PyObject *a) { PyArg_ParseTuple(a, "O|i:f", &a); }
-- void a4(PyObject *a, int n) { PyArg_ParseTuple(a, "O", &n); }
-- void a5(PyObject *a) { PyArg_ParseTuple(a, "#", &a); }
-- void a6(PyObject *a, char *s) { PyArg_ParseTuple(a, s, &a); }
-- void a7(PyObject *a) { PyArg_ParseTuple(a); }
-- void a8(PyObject *a) { PyArg_ParseTuple(1, "O", &a); }
-- void a9(PyObject *a) { PyArg_ParseTuple(a, "O", a); }
-- void b1(PyObject *a) { PyArg_ParseTuple(a, "", &a); }
-- void b2(PyObject *a, char *s) { PyArg_ParseTuple(a, "z", &s); }
-- PyObject *b3(int n) { return Py_BuildValue("i", n); }
-- PyObject *b4(int n) { return Py_BuildValue("i", n, n); }
-- PyObject *b5(PyObject *a) { return Py_BuildValue("i", a); }
-- PyObject *b6(PyObject *a) { return Py_BuildValue("(O", a); }
-- PyObject *b7(void) { return Py_BuildValue(); }
-- PyObject *b8(PyObject *a, long n) { return Py_BuildValue("(Ol)", a, n); }
-- void b9(PyObject *a) { PyArg_UnpackTuple(a, "f", 1, 1, &a); }
-- void c1(PyObject *a) { PyArg_UnpackTuple(a, "f", 2, 1, &a); }
-- void c2(PyObject *a) { PyArg_UnpackTuple(a, "f", 0, 2, &a); }
-- void c3(PyObject *a) { PyArg_UnpackTuple(a, "f", 0, 1, a); }
-- void c4(PyObject *a, Py_ssize_t n) { PyDict_Next(a, &n, &a, NULL); }
-- void c5(PyObject *a, int n) { PyDict_Next(a, &n, NULL, NULL); }
-- void c6(PyObject *a) { PyDict_Next(a, NULL, &a, NULL); }
-- void c7(PyObject *a, Py_ssize_t n) { PyDict_Next(a, &n, NULL); }
-- void c8(PyObject *a) { PyArg_ParseTuple(a, "O", &b); }
abbrev file_12 : List plain.Item
file_12 =
    plain.function_def (plain.head ([]) (plain.spec (at 1 1) (plain.words (keys.Void ∷ [])) 0) ([]) (name 390)
    (at 1 6) (plain.params (plain.param_and (plain.param_decl ([]) (plain.spec (at 1 9) (plain.alias (name 48)) 0)
    (plain.named (plain.declr (0 ∷ []) (name 389) (at 1 19) (plain.sizes plain.no_sizes)))) plain.no_params) false
    None)) (plain.block (at 1 22) (plain.stmt_and (plain.do_expr (at 1 24) (Some (plain.call (at 1 24) (plain.word
    (at 1 24) (name 178)) (plain.expr_and (plain.word (at 1 41) (name 389)) (plain.expr_and (plain.text (at 1 44)
    (name 0 ∷ [])) (plain.expr_and (plain.unary (at 1 49) (tokens.Punct puncts.And) (plain.word (at 1 50) (name 389)))
    plain.no_exprs)))))) plain.no_stmts) (at 1 54)) ∷ plain.function_def (plain.head ([]) (plain.spec (at 2 1)
    (plain.words (keys.Void ∷ [])) 0) ([]) (name 392) (at 2 6) (plain.params (plain.param_and (plain.param_decl ([])
    (plain.spec (at 2 9) (plain.alias (name 48)) 0) (plain.named (plain.declr (0 ∷ []) (name 389) (at 2 19)
    (plain.sizes plain.no_sizes)))) (plain.param_and (plain.param_decl ([]) (plain.spec (at 2 22) (plain.words
    (keys.Int ∷ [])) 0) (plain.named (plain.declr ([]) (name 391) (at 2 26) (plain.sizes plain.no_sizes))))
    plain.no_params)) false None)) (plain.block (at 2 29) (plain.stmt_and (plain.do_expr (at 2 31) (Some (plain.call
    (at 2 31) (plain.word (at 2 31) (name 178)) (plain.expr_and (plain.word (at 2 48) (name 389)) (plain.expr_and
    (plain.text (at 2 51) (name 1 ∷ [])) (plain.expr_and (plain.unary (at 2 60) (tokens.Punct puncts.And) (plain.word
    (at 2 61) (name 389))) (plain.expr_and (plain.unary (at 2 64) (tokens.Punct puncts.And) (plain.word (at 2 65)
    (name 391))) plain.no_exprs))))))) plain.no_stmts) (at 2 69)) ∷ plain.function_def (plain.head ([]) (plain.spec
    (at 3 1) (plain.words (keys.Void ∷ [])) 0) ([]) (name 393) (at 3 6) (plain.params (plain.param_and
    (plain.param_decl ([]) (plain.spec (at 3 9) (plain.alias (name 48)) 0) (plain.named (plain.declr (0 ∷ [])
    (name 389) (at 3 19) (plain.sizes plain.no_sizes)))) plain.no_params) false None)) (plain.block (at 3 22)
    (plain.stmt_and (plain.do_expr (at 3 24) (Some (plain.call (at 3 24) (plain.word (at 3 24) (name 178))
    (plain.expr_and (plain.word (at 3 41) (name 389)) (plain.expr_and (plain.text (at 3 44) (name 1 ∷ []))
    (plain.expr_and (plain.unary (at 3 53) (tokens.Punct puncts.And) (plain.word (at 3 54) (name 389)))
    plain.no_exprs)))))) plain.no_stmts) (at 3 58)) ∷ plain.function_def (plain.head ([]) (plain.spec (at 4 1)
    (plain.words (keys.Void ∷ [])) 0) ([]) (name 394) (at 4 6) (plain.params (plain.param_and (plain.param_decl ([])
    (plain.spec (at 4 9) (plain.alias (name 48)) 0) (plain.named (plain.declr (0 ∷ []) (name 389) (at 4 19)
    (plain.sizes plain.no_sizes)))) (plain.param_and (plain.param_decl ([]) (plain.spec (at 4 22) (plain.words
    (keys.Int ∷ [])) 0) (plain.named (plain.declr ([]) (name 391) (at 4 26) (plain.sizes plain.no_sizes))))
    plain.no_params)) false None)) (plain.block (at 4 29) (plain.stmt_and (plain.do_expr (at 4 31) (Some (plain.call
    (at 4 31) (plain.word (at 4 31) (name 178)) (plain.expr_and (plain.word (at 4 48) (name 389)) (plain.expr_and
    (plain.text (at 4 51) (name 0 ∷ [])) (plain.expr_and (plain.unary (at 4 56) (tokens.Punct puncts.And) (plain.word
    (at 4 57) (name 391))) plain.no_exprs)))))) plain.no_stmts) (at 4 61)) ∷ plain.function_def (plain.head ([])
    (plain.spec (at 5 1) (plain.words (keys.Void ∷ [])) 0) ([]) (name 395) (at 5 6) (plain.params (plain.param_and
    (plain.param_decl ([]) (plain.spec (at 5 9) (plain.alias (name 48)) 0) (plain.named (plain.declr (0 ∷ [])
    (name 389) (at 5 19) (plain.sizes plain.no_sizes)))) plain.no_params) false None)) (plain.block (at 5 22)
    (plain.stmt_and (plain.do_expr (at 5 24) (Some (plain.call (at 5 24) (plain.word (at 5 24) (name 178))
    (plain.expr_and (plain.word (at 5 41) (name 389)) (plain.expr_and (plain.text (at 5 44) (name 2 ∷ []))
    (plain.expr_and (plain.unary (at 5 49) (tokens.Punct puncts.And) (plain.word (at 5 50) (name 389)))
    plain.no_exprs)))))) plain.no_stmts) (at 5 54)) ∷ plain.function_def (plain.head ([]) (plain.spec (at 6 1)
    (plain.words (keys.Void ∷ [])) 0) ([]) (name 397) (at 6 6) (plain.params (plain.param_and (plain.param_decl ([])
    (plain.spec (at 6 9) (plain.alias (name 48)) 0) (plain.named (plain.declr (0 ∷ []) (name 389) (at 6 19)
    (plain.sizes plain.no_sizes)))) (plain.param_and (plain.param_decl ([]) (plain.spec (at 6 22) (plain.words
    (keys.Char ∷ [])) 0) (plain.named (plain.declr (0 ∷ []) (name 396) (at 6 28) (plain.sizes plain.no_sizes))))
    plain.no_params)) false None)) (plain.block (at 6 31) (plain.stmt_and (plain.do_expr (at 6 33) (Some (plain.call
    (at 6 33) (plain.word (at 6 33) (name 178)) (plain.expr_and (plain.word (at 6 50) (name 389)) (plain.expr_and
    (plain.word (at 6 53) (name 396)) (plain.expr_and (plain.unary (at 6 56) (tokens.Punct puncts.And) (plain.word
    (at 6 57) (name 389))) plain.no_exprs)))))) plain.no_stmts) (at 6 61)) ∷ plain.function_def (plain.head ([])
    (plain.spec (at 7 1) (plain.words (keys.Void ∷ [])) 0) ([]) (name 398) (at 7 6) (plain.params (plain.param_and
    (plain.param_decl ([]) (plain.spec (at 7 9) (plain.alias (name 48)) 0) (plain.named (plain.declr (0 ∷ [])
    (name 389) (at 7 19) (plain.sizes plain.no_sizes)))) plain.no_params) false None)) (plain.block (at 7 22)
    (plain.stmt_and (plain.do_expr (at 7 24) (Some (plain.call (at 7 24) (plain.word (at 7 24) (name 178))
    (plain.expr_and (plain.word (at 7 41) (name 389)) plain.no_exprs)))) plain.no_stmts) (at 7 45)) ∷
    plain.function_def (plain.head ([]) (plain.spec (at 8 1) (plain.words (keys.Void ∷ [])) 0) ([]) (name 399)
    (at 8 6) (plain.params (plain.param_and (plain.param_decl ([]) (plain.spec (at 8 9) (plain.alias (name 48)) 0)
    (plain.named (plain.declr (0 ∷ []) (name 389) (at 8 19) (plain.sizes plain.no_sizes)))) plain.no_params) false
    None)) (plain.block (at 8 22) (plain.stmt_and (plain.do_expr (at 8 24) (Some (plain.call (at 8 24) (plain.word
    (at 8 24) (name 178)) (plain.expr_and (plain.int (at 8 41) (pos 1) false false) (plain.expr_and (plain.text
    (at 8 44) (name 0 ∷ [])) (plain.expr_and (plain.unary (at 8 49) (tokens.Punct puncts.And) (plain.word (at 8 50)
    (name 389))) plain.no_exprs)))))) plain.no_stmts) (at 8 54)) ∷ plain.function_def (plain.head ([]) (plain.spec
    (at 9 1) (plain.words (keys.Void ∷ [])) 0) ([]) (name 400) (at 9 6) (plain.params (plain.param_and
    (plain.param_decl ([]) (plain.spec (at 9 9) (plain.alias (name 48)) 0) (plain.named (plain.declr (0 ∷ [])
    (name 389) (at 9 19) (plain.sizes plain.no_sizes)))) plain.no_params) false None)) (plain.block (at 9 22)
    (plain.stmt_and (plain.do_expr (at 9 24) (Some (plain.call (at 9 24) (plain.word (at 9 24) (name 178))
    (plain.expr_and (plain.word (at 9 41) (name 389)) (plain.expr_and (plain.text (at 9 44) (name 0 ∷ []))
    (plain.expr_and (plain.word (at 9 49) (name 389)) plain.no_exprs)))))) plain.no_stmts) (at 9 53)) ∷
    plain.function_def (plain.head ([]) (plain.spec (at 10 1) (plain.words (keys.Void ∷ [])) 0) ([]) (name 401)
    (at 10 6) (plain.params (plain.param_and (plain.param_decl ([]) (plain.spec (at 10 9) (plain.alias (name 48)) 0)
    (plain.named (plain.declr (0 ∷ []) (name 389) (at 10 19) (plain.sizes plain.no_sizes)))) plain.no_params) false
    None)) (plain.block (at 10 22) (plain.stmt_and (plain.do_expr (at 10 24) (Some (plain.call (at 10 24) (plain.word
    (at 10 24) (name 178)) (plain.expr_and (plain.word (at 10 41) (name 389)) (plain.expr_and (plain.text (at 10 44)
    (name 3 ∷ [])) (plain.expr_and (plain.unary (at 10 48) (tokens.Punct puncts.And) (plain.word (at 10 49)
    (name 389))) plain.no_exprs)))))) plain.no_stmts) (at 10 53)) ∷ plain.function_def (plain.head ([]) (plain.spec
    (at 11 1) (plain.words (keys.Void ∷ [])) 0) ([]) (name 402) (at 11 6) (plain.params (plain.param_and
    (plain.param_decl ([]) (plain.spec (at 11 9) (plain.alias (name 48)) 0) (plain.named (plain.declr (0 ∷ [])
    (name 389) (at 11 19) (plain.sizes plain.no_sizes)))) (plain.param_and (plain.param_decl ([]) (plain.spec
    (at 11 22) (plain.words (keys.Char ∷ [])) 0) (plain.named (plain.declr (0 ∷ []) (name 396) (at 11 28) (plain.sizes
    plain.no_sizes)))) plain.no_params)) false None)) (plain.block (at 11 31) (plain.stmt_and (plain.do_expr
    (at 11 33) (Some (plain.call (at 11 33) (plain.word (at 11 33) (name 178)) (plain.expr_and (plain.word (at 11 50)
    (name 389)) (plain.expr_and (plain.text (at 11 53) (name 4 ∷ [])) (plain.expr_and (plain.unary (at 11 58)
    (tokens.Punct puncts.And) (plain.word (at 11 59) (name 396))) plain.no_exprs)))))) plain.no_stmts) (at 11 63)) ∷
    plain.function_def (plain.head ([]) (plain.spec (at 12 1) (plain.alias (name 48)) 0) (0 ∷ []) (name 403)
    (at 12 11) (plain.params (plain.param_and (plain.param_decl ([]) (plain.spec (at 12 14) (plain.words (keys.Int ∷
    [])) 0) (plain.named (plain.declr ([]) (name 391) (at 12 18) (plain.sizes plain.no_sizes)))) plain.no_params)
    false None)) (plain.block (at 12 21) (plain.stmt_and (plain.return (at 12 23) (Some (plain.call (at 12 30)
    (plain.word (at 12 30) (name 181)) (plain.expr_and (plain.text (at 12 44) (name 5 ∷ [])) (plain.expr_and
    (plain.word (at 12 49) (name 391)) plain.no_exprs))))) plain.no_stmts) (at 12 53)) ∷ plain.function_def
    (plain.head ([]) (plain.spec (at 13 1) (plain.alias (name 48)) 0) (0 ∷ []) (name 404) (at 13 11) (plain.params
    (plain.param_and (plain.param_decl ([]) (plain.spec (at 13 14) (plain.words (keys.Int ∷ [])) 0) (plain.named
    (plain.declr ([]) (name 391) (at 13 18) (plain.sizes plain.no_sizes)))) plain.no_params) false None)) (plain.block
    (at 13 21) (plain.stmt_and (plain.return (at 13 23) (Some (plain.call (at 13 30) (plain.word (at 13 30)
    (name 181)) (plain.expr_and (plain.text (at 13 44) (name 5 ∷ [])) (plain.expr_and (plain.word (at 13 49)
    (name 391)) (plain.expr_and (plain.word (at 13 52) (name 391)) plain.no_exprs)))))) plain.no_stmts) (at 13 56)) ∷
    plain.function_def (plain.head ([]) (plain.spec (at 14 1) (plain.alias (name 48)) 0) (0 ∷ []) (name 405)
    (at 14 11) (plain.params (plain.param_and (plain.param_decl ([]) (plain.spec (at 14 14) (plain.alias (name 48)) 0)
    (plain.named (plain.declr (0 ∷ []) (name 389) (at 14 24) (plain.sizes plain.no_sizes)))) plain.no_params) false
    None)) (plain.block (at 14 27) (plain.stmt_and (plain.return (at 14 29) (Some (plain.call (at 14 36) (plain.word
    (at 14 36) (name 181)) (plain.expr_and (plain.text (at 14 50) (name 5 ∷ [])) (plain.expr_and (plain.word
    (at 14 55) (name 389)) plain.no_exprs))))) plain.no_stmts) (at 14 59)) ∷ plain.function_def (plain.head ([])
    (plain.spec (at 15 1) (plain.alias (name 48)) 0) (0 ∷ []) (name 406) (at 15 11) (plain.params (plain.param_and
    (plain.param_decl ([]) (plain.spec (at 15 14) (plain.alias (name 48)) 0) (plain.named (plain.declr (0 ∷ [])
    (name 389) (at 15 24) (plain.sizes plain.no_sizes)))) plain.no_params) false None)) (plain.block (at 15 27)
    (plain.stmt_and (plain.return (at 15 29) (Some (plain.call (at 15 36) (plain.word (at 15 36) (name 181))
    (plain.expr_and (plain.text (at 15 50) (name 6 ∷ [])) (plain.expr_and (plain.word (at 15 56) (name 389))
    plain.no_exprs))))) plain.no_stmts) (at 15 60)) ∷ plain.function_def (plain.head ([]) (plain.spec (at 16 1)
    (plain.alias (name 48)) 0) (0 ∷ []) (name 407) (at 16 11) (plain.params plain.no_params true None)) (plain.block
    (at 16 20) (plain.stmt_and (plain.return (at 16 22) (Some (plain.call (at 16 29) (plain.word (at 16 29)
    (name 181)) plain.no_exprs))) plain.no_stmts) (at 16 46)) ∷ plain.function_def (plain.head ([]) (plain.spec
    (at 17 1) (plain.alias (name 48)) 0) (0 ∷ []) (name 408) (at 17 11) (plain.params (plain.param_and
    (plain.param_decl ([]) (plain.spec (at 17 14) (plain.alias (name 48)) 0) (plain.named (plain.declr (0 ∷ [])
    (name 389) (at 17 24) (plain.sizes plain.no_sizes)))) (plain.param_and (plain.param_decl ([]) (plain.spec
    (at 17 27) (plain.words (keys.Long ∷ [])) 0) (plain.named (plain.declr ([]) (name 391) (at 17 32) (plain.sizes
    plain.no_sizes)))) plain.no_params)) false None)) (plain.block (at 17 35) (plain.stmt_and (plain.return (at 17 37)
    (Some (plain.call (at 17 44) (plain.word (at 17 44) (name 181)) (plain.expr_and (plain.text (at 17 58) (name 7 ∷
    [])) (plain.expr_and (plain.word (at 17 66) (name 389)) (plain.expr_and (plain.word (at 17 69) (name 391))
    plain.no_exprs)))))) plain.no_stmts) (at 17 73)) ∷ plain.function_def (plain.head ([]) (plain.spec (at 18 1)
    (plain.words (keys.Void ∷ [])) 0) ([]) (name 409) (at 18 6) (plain.params (plain.param_and (plain.param_decl ([])
    (plain.spec (at 18 9) (plain.alias (name 48)) 0) (plain.named (plain.declr (0 ∷ []) (name 389) (at 18 19)
    (plain.sizes plain.no_sizes)))) plain.no_params) false None)) (plain.block (at 18 22) (plain.stmt_and
    (plain.do_expr (at 18 24) (Some (plain.call (at 18 24) (plain.word (at 18 24) (name 179)) (plain.expr_and
    (plain.word (at 18 42) (name 389)) (plain.expr_and (plain.text (at 18 45) (name 8 ∷ [])) (plain.expr_and
    (plain.int (at 18 50) (pos 1) false false) (plain.expr_and (plain.int (at 18 53) (pos 1) false false)
    (plain.expr_and (plain.unary (at 18 56) (tokens.Punct puncts.And) (plain.word (at 18 57) (name 389)))
    plain.no_exprs)))))))) plain.no_stmts) (at 18 61)) ∷ plain.function_def (plain.head ([]) (plain.spec (at 19 1)
    (plain.words (keys.Void ∷ [])) 0) ([]) (name 410) (at 19 6) (plain.params (plain.param_and (plain.param_decl ([])
    (plain.spec (at 19 9) (plain.alias (name 48)) 0) (plain.named (plain.declr (0 ∷ []) (name 389) (at 19 19)
    (plain.sizes plain.no_sizes)))) plain.no_params) false None)) (plain.block (at 19 22) (plain.stmt_and
    (plain.do_expr (at 19 24) (Some (plain.call (at 19 24) (plain.word (at 19 24) (name 179)) (plain.expr_and
    (plain.word (at 19 42) (name 389)) (plain.expr_and (plain.text (at 19 45) (name 8 ∷ [])) (plain.expr_and
    (plain.int (at 19 50) (pos 2) false false) (plain.expr_and (plain.int (at 19 53) (pos 1) false false)
    (plain.expr_and (plain.unary (at 19 56) (tokens.Punct puncts.And) (plain.word (at 19 57) (name 389)))
    plain.no_exprs)))))))) plain.no_stmts) (at 19 61)) ∷ plain.function_def (plain.head ([]) (plain.spec (at 20 1)
    (plain.words (keys.Void ∷ [])) 0) ([]) (name 411) (at 20 6) (plain.params (plain.param_and (plain.param_decl ([])
    (plain.spec (at 20 9) (plain.alias (name 48)) 0) (plain.named (plain.declr (0 ∷ []) (name 389) (at 20 19)
    (plain.sizes plain.no_sizes)))) plain.no_params) false None)) (plain.block (at 20 22) (plain.stmt_and
    (plain.do_expr (at 20 24) (Some (plain.call (at 20 24) (plain.word (at 20 24) (name 179)) (plain.expr_and
    (plain.word (at 20 42) (name 389)) (plain.expr_and (plain.text (at 20 45) (name 8 ∷ [])) (plain.expr_and
    (plain.int (at 20 50) (pos 0) false false) (plain.expr_and (plain.int (at 20 53) (pos 2) false false)
    (plain.expr_and (plain.unary (at 20 56) (tokens.Punct puncts.And) (plain.word (at 20 57) (name 389)))
    plain.no_exprs)))))))) plain.no_stmts) (at 20 61)) ∷ plain.function_def (plain.head ([]) (plain.spec (at 21 1)
    (plain.words (keys.Void ∷ [])) 0) ([]) (name 412) (at 21 6) (plain.params (plain.param_and (plain.param_decl ([])
    (plain.spec (at 21 9) (plain.alias (name 48)) 0) (plain.named (plain.declr (0 ∷ []) (name 389) (at 21 19)
    (plain.sizes plain.no_sizes)))) plain.no_params) false None)) (plain.block (at 21 22) (plain.stmt_and
    (plain.do_expr (at 21 24) (Some (plain.call (at 21 24) (plain.word (at 21 24) (name 179)) (plain.expr_and
    (plain.word (at 21 42) (name 389)) (plain.expr_and (plain.text (at 21 45) (name 8 ∷ [])) (plain.expr_and
    (plain.int (at 21 50) (pos 0) false false) (plain.expr_and (plain.int (at 21 53) (pos 1) false false)
    (plain.expr_and (plain.word (at 21 56) (name 389)) plain.no_exprs)))))))) plain.no_stmts) (at 21 60)) ∷
    plain.function_def (plain.head ([]) (plain.spec (at 22 1) (plain.words (keys.Void ∷ [])) 0) ([]) (name 413)
    (at 22 6) (plain.params (plain.param_and (plain.param_decl ([]) (plain.spec (at 22 9) (plain.alias (name 48)) 0)
    (plain.named (plain.declr (0 ∷ []) (name 389) (at 22 19) (plain.sizes plain.no_sizes)))) (plain.param_and
    (plain.param_decl ([]) (plain.spec (at 22 22) (plain.alias (name 62)) 0) (plain.named (plain.declr ([]) (name 391)
    (at 22 33) (plain.sizes plain.no_sizes)))) plain.no_params)) false None)) (plain.block (at 22 36) (plain.stmt_and
    (plain.do_expr (at 22 38) (Some (plain.call (at 22 38) (plain.word (at 22 38) (name 180)) (plain.expr_and
    (plain.word (at 22 50) (name 389)) (plain.expr_and (plain.unary (at 22 53) (tokens.Punct puncts.And) (plain.word
    (at 22 54) (name 391))) (plain.expr_and (plain.unary (at 22 57) (tokens.Punct puncts.And) (plain.word (at 22 58)
    (name 389))) (plain.expr_and (plain.null (at 22 61)) plain.no_exprs))))))) plain.no_stmts) (at 22 68)) ∷
    plain.function_def (plain.head ([]) (plain.spec (at 23 1) (plain.words (keys.Void ∷ [])) 0) ([]) (name 414)
    (at 23 6) (plain.params (plain.param_and (plain.param_decl ([]) (plain.spec (at 23 9) (plain.alias (name 48)) 0)
    (plain.named (plain.declr (0 ∷ []) (name 389) (at 23 19) (plain.sizes plain.no_sizes)))) (plain.param_and
    (plain.param_decl ([]) (plain.spec (at 23 22) (plain.words (keys.Int ∷ [])) 0) (plain.named (plain.declr ([])
    (name 391) (at 23 26) (plain.sizes plain.no_sizes)))) plain.no_params)) false None)) (plain.block (at 23 29)
    (plain.stmt_and (plain.do_expr (at 23 31) (Some (plain.call (at 23 31) (plain.word (at 23 31) (name 180))
    (plain.expr_and (plain.word (at 23 43) (name 389)) (plain.expr_and (plain.unary (at 23 46) (tokens.Punct
    puncts.And) (plain.word (at 23 47) (name 391))) (plain.expr_and (plain.null (at 23 50)) (plain.expr_and
    (plain.null (at 23 56)) plain.no_exprs))))))) plain.no_stmts) (at 23 63)) ∷ plain.function_def (plain.head ([])
    (plain.spec (at 24 1) (plain.words (keys.Void ∷ [])) 0) ([]) (name 415) (at 24 6) (plain.params (plain.param_and
    (plain.param_decl ([]) (plain.spec (at 24 9) (plain.alias (name 48)) 0) (plain.named (plain.declr (0 ∷ [])
    (name 389) (at 24 19) (plain.sizes plain.no_sizes)))) plain.no_params) false None)) (plain.block (at 24 22)
    (plain.stmt_and (plain.do_expr (at 24 24) (Some (plain.call (at 24 24) (plain.word (at 24 24) (name 180))
    (plain.expr_and (plain.word (at 24 36) (name 389)) (plain.expr_and (plain.null (at 24 39)) (plain.expr_and
    (plain.unary (at 24 45) (tokens.Punct puncts.And) (plain.word (at 24 46) (name 389))) (plain.expr_and (plain.null
    (at 24 49)) plain.no_exprs))))))) plain.no_stmts) (at 24 56)) ∷ plain.function_def (plain.head ([]) (plain.spec
    (at 25 1) (plain.words (keys.Void ∷ [])) 0) ([]) (name 416) (at 25 6) (plain.params (plain.param_and
    (plain.param_decl ([]) (plain.spec (at 25 9) (plain.alias (name 48)) 0) (plain.named (plain.declr (0 ∷ [])
    (name 389) (at 25 19) (plain.sizes plain.no_sizes)))) (plain.param_and (plain.param_decl ([]) (plain.spec
    (at 25 22) (plain.alias (name 62)) 0) (plain.named (plain.declr ([]) (name 391) (at 25 33) (plain.sizes
    plain.no_sizes)))) plain.no_params)) false None)) (plain.block (at 25 36) (plain.stmt_and (plain.do_expr
    (at 25 38) (Some (plain.call (at 25 38) (plain.word (at 25 38) (name 180)) (plain.expr_and (plain.word (at 25 50)
    (name 389)) (plain.expr_and (plain.unary (at 25 53) (tokens.Punct puncts.And) (plain.word (at 25 54) (name 391)))
    (plain.expr_and (plain.null (at 25 57)) plain.no_exprs)))))) plain.no_stmts) (at 25 64)) ∷ plain.function_def
    (plain.head ([]) (plain.spec (at 26 1) (plain.words (keys.Void ∷ [])) 0) ([]) (name 418) (at 26 6) (plain.params
    (plain.param_and (plain.param_decl ([]) (plain.spec (at 26 9) (plain.alias (name 48)) 0) (plain.named (plain.declr
    (0 ∷ []) (name 389) (at 26 19) (plain.sizes plain.no_sizes)))) plain.no_params) false None)) (plain.block
    (at 26 22) (plain.stmt_and (plain.do_expr (at 26 24) (Some (plain.call (at 26 24) (plain.word (at 26 24)
    (name 178)) (plain.expr_and (plain.word (at 26 41) (name 389)) (plain.expr_and (plain.text (at 26 44) (name 0 ∷
    [])) (plain.expr_and (plain.unary (at 26 49) (tokens.Punct puncts.And) (plain.word (at 26 50) (name 417)))
    plain.no_exprs)))))) plain.no_stmts) (at 26 54)) ∷ []

abbrev source_12 : SourceFile
source_12 = source_file texts_12 file_12 rows_12 manual_terms

no_fault_12 : least (faults source_12) ≡ None
no_fault_12 = refl

told_12 :
    map (refusal source_12 (393 ∷ 394 ∷ 395 ∷ 397 ∷ 398 ∷ 399 ∷ 400 ∷ 401 ∷ 404 ∷ 405 ∷
    406 ∷ 407 ∷ 410 ∷ 411 ∷ 412 ∷ 414 ∷ 415 ∷ 416 ∷ 418 ∷ [])) (definitions file_12) ≡ (None ∷ None ∷ told 3 44 11 ∷
    told 4 51 11 ∷ told 5 44 11 ∷ told 6 53 11 ∷ told 7 24 10 ∷ told 8 24 10 ∷ told 9 44 11 ∷ told 10 44 11 ∷ None ∷
    None ∷ told 13 44 11 ∷ told 14 50 11 ∷ told 15 50 11 ∷ told 16 29 10 ∷ None ∷ None ∷ told 19 24 10 ∷
    told 20 24 10 ∷ told 21 24 10 ∷ None ∷ told 23 31 10 ∷ told 24 24 10 ∷ told 25 38 10 ∷ told 26 49 5 ∷ [])
told_12 = refl

sound_12 :
    map (λ d. is_sound_action (resolved source_12 (393 ∷ 394 ∷ 395 ∷ 397 ∷ 398 ∷ 399 ∷
    400 ∷ 401 ∷ 404 ∷ 405 ∷ 406 ∷ 407 ∷ 410 ∷ 411 ∷ 412 ∷ 414 ∷ 415 ∷ 416 ∷ 418 ∷ []) d).body) (passed (refusal
    source_12 (393 ∷ 394 ∷ 395 ∷ 397 ∷ 398 ∷ 399 ∷ 400 ∷ 401 ∷ 404 ∷ 405 ∷ 406 ∷ 407 ∷
    410 ∷ 411 ∷ 412 ∷ 414 ∷ 415 ∷ 416 ∷ 418 ∷ [])) (definitions file_12)) ≡ (true ∷ true ∷ true ∷ true ∷ true ∷ true ∷
    true ∷ [])
sound_12 = refl
