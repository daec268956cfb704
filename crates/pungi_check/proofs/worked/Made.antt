-- The rules on `PyObject_New`, one function for each case (Python/C API Reference Manual 3.11, 'Allocating Objects on the
-- Heap').
use Rattle.std.proofs.Common.{◌≡◌, refl, List, [], ◌∷◌, map, Some, None, true, false, pos}
use Rattle.pungi_base.specs.declared.key.Key.TheVariants as keys
use Rattle.pungi_base.specs.declared.kind.Kind.TheVariants as tokens
use Rattle.pungi_base.specs.declared.punct.Punct.TheVariants as puncts
use Rattle.pungi_tree.specs.Syntax as plain
use Rattle.pungi_types.specs.Files.{definitions}
use Rattle.pungi_types.specs.Findings.{least}
use Rattle.pungi_check.specs.Duplicates.{faults}
use Rattle.pungi_types.specs.Functions.{refusal}
use Rattle.pungi_resolve.specs.Functions.{resolved}
use Rattle.pungi_resolve.specs.Sound.{is_sound_action}
use Rattle.pungi_check.proofs.worked.Words.{at, manual_file, name, passed, told}

-- typedef struct { PyObject_HEAD long hits; } Box;
-- typedef Box *BoxP;
-- typedef struct { long hits; } Plain;
-- static PyTypeObject Box_Type;
-- Box *a1(void) { return PyObject_New(Box, &Box_Type); }
-- PyObject *a2(PyTypeObject *t) { return (PyObject *)PyObject_New(Box, t); }
-- void a3(PyTypeObject *t) { PyObject_New(Box, t)->hits = 1; }
-- void a4(void) { PyObject_New(Box, NULL); }
-- void a5(PyTypeObject *t) { PyObject_New(BoxP, t); }
-- void a6(PyTypeObject *t) { PyObject_New(Box *, t); }
-- void a7(PyTypeObject *t) { PyObject_New(Plain, t); }
-- void a8(PyTypeObject *t) { PyObject_New(PyObject, t); }
-- void a9(PyTypeObject *t) { PyObject_New(int, t); }
-- void b1(int n) { PyObject_New(Box, n); }
-- void b2(char *s) { PyObject_New(Box, s); }
-- void b3(PyObject *o) { PyObject_New(Box, Py_INCREF(o)); }
-- void b4(PyTypeObject *t) { PyObject_New(Box, PyObject_New(Box, t)); }
-- long b5(PyTypeObject *t) { return PyObject_New(Plain, t)->hits; }
-- void b6(Box *b) { b = PyObject_New(Box, c); }
abbrev file_13 : List plain.Item
file_13 =
    plain.typedef (plain.spec (at 1 9) (plain.tagged_fields keys.Struct None (plain.field_and (plain.members ([])
    (plain.spec (at 1 18) (plain.alias (name 48)) 0) (plain.declr_and (plain.declr ([]) (name 182) (at 1 18)
    (plain.sizes plain.no_sizes)) plain.no_declrs)) (plain.field_and (plain.members ([]) (plain.spec (at 1 32)
    (plain.words (keys.Long ∷ [])) 0) (plain.declr_and (plain.declr ([]) (name 389) (at 1 37) (plain.sizes
    plain.no_sizes)) plain.no_declrs)) plain.no_fields))) 0) ([]) (name 390) (at 1 45) ∷ plain.typedef (plain.spec
    (at 2 9) (plain.alias (name 390)) 0) (0 ∷ []) (name 391) (at 2 14) ∷ plain.typedef (plain.spec (at 3 9)
    (plain.tagged_fields keys.Struct None (plain.field_and (plain.members ([]) (plain.spec (at 3 18) (plain.words
    (keys.Long ∷ [])) 0) (plain.declr_and (plain.declr ([]) (name 389) (at 3 23) (plain.sizes plain.no_sizes))
    plain.no_declrs)) plain.no_fields)) 0) ([]) (name 392) (at 3 31) ∷ plain.variables (plain.decl (keys.Static ∷ [])
    (plain.spec (at 4 8) (plain.alias (name 50)) 0) ((plain.var_decl (plain.declr ([]) (name 394) (at 4 21) (plain.sizes
    plain.no_sizes)) None) ∷ [])) ∷ plain.function_def (plain.head ([]) (plain.spec (at 5 1) (plain.alias (name 390)) 0)
    (0 ∷ []) (name 393) (at 5 6) (plain.params plain.no_params true None)) (plain.block (at 5 15) (plain.stmt_and
    (plain.return (at 5 17) (Some (plain.new (at 5 24) (plain.type_name (plain.spec (at 5 37) (plain.alias (name 390))
    0) ([])) (plain.unary (at 5 42) (tokens.Punct puncts.And) (plain.word (at 5 43) (name 394)))))) plain.no_stmts)
    (at 5 54)) ∷ plain.function_def (plain.head ([]) (plain.spec (at 6 1) (plain.alias (name 48)) 0) (0 ∷ []) (name 395)
    (at 6 11) (plain.params (plain.param_and (plain.param_decl ([]) (plain.spec (at 6 14) (plain.alias (name 50)) 0)
    (plain.named (plain.declr (0 ∷ []) (name 396) (at 6 28) (plain.sizes plain.no_sizes)))) plain.no_params) false
    None)) (plain.block (at 6 31) (plain.stmt_and (plain.return (at 6 33) (Some (plain.cast (at 6 40) (plain.type_name
    (plain.spec (at 6 41) (plain.alias (name 48)) 0) (0 ∷ [])) (plain.new (at 6 52) (plain.type_name (plain.spec
    (at 6 65) (plain.alias (name 390)) 0) ([])) (plain.word (at 6 70) (name 396)))))) plain.no_stmts) (at 6 74)) ∷
    plain.function_def (plain.head ([]) (plain.spec (at 7 1) (plain.words (keys.Void ∷ [])) 0) ([]) (name 397) (at 7 6)
    (plain.params (plain.param_and (plain.param_decl ([]) (plain.spec (at 7 9) (plain.alias (name 50)) 0) (plain.named
    (plain.declr (0 ∷ []) (name 396) (at 7 23) (plain.sizes plain.no_sizes)))) plain.no_params) false None))
    (plain.block (at 7 26) (plain.stmt_and (plain.do_expr (at 7 28) (Some (plain.assign (at 7 55) puncts.Assign
    (plain.arrow (at 7 48) (plain.new (at 7 28) (plain.type_name (plain.spec (at 7 41) (plain.alias (name 390)) 0) ([]))
    (plain.word (at 7 46) (name 396))) (name 389)) (plain.int (at 7 57) (pos 1) false false)))) plain.no_stmts)
    (at 7 60)) ∷ plain.function_def (plain.head ([]) (plain.spec (at 8 1) (plain.words (keys.Void ∷ [])) 0) ([])
    (name 398) (at 8 6) (plain.params plain.no_params true None)) (plain.block (at 8 15) (plain.stmt_and (plain.do_expr
    (at 8 17) (Some (plain.new (at 8 17) (plain.type_name (plain.spec (at 8 30) (plain.alias (name 390)) 0) ([]))
    (plain.null (at 8 35))))) plain.no_stmts) (at 8 42)) ∷ plain.function_def (plain.head ([]) (plain.spec (at 9 1)
    (plain.words (keys.Void ∷ [])) 0) ([]) (name 399) (at 9 6) (plain.params (plain.param_and (plain.param_decl ([])
    (plain.spec (at 9 9) (plain.alias (name 50)) 0) (plain.named (plain.declr (0 ∷ []) (name 396) (at 9 23) (plain.sizes
    plain.no_sizes)))) plain.no_params) false None)) (plain.block (at 9 26) (plain.stmt_and (plain.do_expr (at 9 28)
    (Some (plain.new (at 9 28) (plain.type_name (plain.spec (at 9 41) (plain.alias (name 391)) 0) ([])) (plain.word
    (at 9 47) (name 396))))) plain.no_stmts) (at 9 51)) ∷ plain.function_def (plain.head ([]) (plain.spec (at 10 1)
    (plain.words (keys.Void ∷ [])) 0) ([]) (name 400) (at 10 6) (plain.params (plain.param_and (plain.param_decl ([])
    (plain.spec (at 10 9) (plain.alias (name 50)) 0) (plain.named (plain.declr (0 ∷ []) (name 396) (at 10 23)
    (plain.sizes plain.no_sizes)))) plain.no_params) false None)) (plain.block (at 10 26) (plain.stmt_and (plain.do_expr
    (at 10 28) (Some (plain.new (at 10 28) (plain.type_name (plain.spec (at 10 41) (plain.alias (name 390)) 0) (0 ∷ []))
    (plain.word (at 10 48) (name 396))))) plain.no_stmts) (at 10 52)) ∷ plain.function_def (plain.head ([]) (plain.spec
    (at 11 1) (plain.words (keys.Void ∷ [])) 0) ([]) (name 401) (at 11 6) (plain.params (plain.param_and
    (plain.param_decl ([]) (plain.spec (at 11 9) (plain.alias (name 50)) 0) (plain.named (plain.declr (0 ∷ [])
    (name 396) (at 11 23) (plain.sizes plain.no_sizes)))) plain.no_params) false None)) (plain.block (at 11 26)
    (plain.stmt_and (plain.do_expr (at 11 28) (Some (plain.new (at 11 28) (plain.type_name (plain.spec (at 11 41)
    (plain.alias (name 392)) 0) ([])) (plain.word (at 11 48) (name 396))))) plain.no_stmts) (at 11 52)) ∷
    plain.function_def (plain.head ([]) (plain.spec (at 12 1) (plain.words (keys.Void ∷ [])) 0) ([]) (name 402)
    (at 12 6) (plain.params (plain.param_and (plain.param_decl ([]) (plain.spec (at 12 9) (plain.alias (name 50)) 0)
    (plain.named (plain.declr (0 ∷ []) (name 396) (at 12 23) (plain.sizes plain.no_sizes)))) plain.no_params) false
    None)) (plain.block (at 12 26) (plain.stmt_and (plain.do_expr (at 12 28) (Some (plain.new (at 12 28)
    (plain.type_name (plain.spec (at 12 41) (plain.alias (name 48)) 0) ([])) (plain.word (at 12 51) (name 396)))))
    plain.no_stmts) (at 12 55)) ∷ plain.function_def (plain.head ([]) (plain.spec (at 13 1) (plain.words (keys.Void ∷
    [])) 0) ([]) (name 403) (at 13 6) (plain.params (plain.param_and (plain.param_decl ([]) (plain.spec (at 13 9)
    (plain.alias (name 50)) 0) (plain.named (plain.declr (0 ∷ []) (name 396) (at 13 23) (plain.sizes plain.no_sizes))))
    plain.no_params) false None)) (plain.block (at 13 26) (plain.stmt_and (plain.do_expr (at 13 28) (Some (plain.new
    (at 13 28) (plain.type_name (plain.spec (at 13 41) (plain.words (keys.Int ∷ [])) 0) ([])) (plain.word (at 13 46)
    (name 396))))) plain.no_stmts) (at 13 50)) ∷ plain.function_def (plain.head ([]) (plain.spec (at 14 1) (plain.words
    (keys.Void ∷ [])) 0) ([]) (name 404) (at 14 6) (plain.params (plain.param_and (plain.param_decl ([]) (plain.spec
    (at 14 9) (plain.words (keys.Int ∷ [])) 0) (plain.named (plain.declr ([]) (name 405) (at 14 13) (plain.sizes
    plain.no_sizes)))) plain.no_params) false None)) (plain.block (at 14 16) (plain.stmt_and (plain.do_expr (at 14 18)
    (Some (plain.new (at 14 18) (plain.type_name (plain.spec (at 14 31) (plain.alias (name 390)) 0) ([])) (plain.word
    (at 14 36) (name 405))))) plain.no_stmts) (at 14 40)) ∷ plain.function_def (plain.head ([]) (plain.spec (at 15 1)
    (plain.words (keys.Void ∷ [])) 0) ([]) (name 406) (at 15 6) (plain.params (plain.param_and (plain.param_decl ([])
    (plain.spec (at 15 9) (plain.words (keys.Char ∷ [])) 0) (plain.named (plain.declr (0 ∷ []) (name 407) (at 15 15)
    (plain.sizes plain.no_sizes)))) plain.no_params) false None)) (plain.block (at 15 18) (plain.stmt_and (plain.do_expr
    (at 15 20) (Some (plain.new (at 15 20) (plain.type_name (plain.spec (at 15 33) (plain.alias (name 390)) 0) ([]))
    (plain.word (at 15 38) (name 407))))) plain.no_stmts) (at 15 42)) ∷ plain.function_def (plain.head ([]) (plain.spec
    (at 16 1) (plain.words (keys.Void ∷ [])) 0) ([]) (name 408) (at 16 6) (plain.params (plain.param_and
    (plain.param_decl ([]) (plain.spec (at 16 9) (plain.alias (name 48)) 0) (plain.named (plain.declr (0 ∷ [])
    (name 409) (at 16 19) (plain.sizes plain.no_sizes)))) plain.no_params) false None)) (plain.block (at 16 22)
    (plain.stmt_and (plain.do_expr (at 16 24) (Some (plain.new (at 16 24) (plain.type_name (plain.spec (at 16 37)
    (plain.alias (name 390)) 0) ([])) (plain.call (at 16 42) (plain.word (at 16 42) (name 167)) (plain.expr_and
    (plain.word (at 16 52) (name 409)) plain.no_exprs))))) plain.no_stmts) (at 16 57)) ∷ plain.function_def (plain.head
    ([]) (plain.spec (at 17 1) (plain.words (keys.Void ∷ [])) 0) ([]) (name 410) (at 17 6) (plain.params
    (plain.param_and (plain.param_decl ([]) (plain.spec (at 17 9) (plain.alias (name 50)) 0) (plain.named (plain.declr
    (0 ∷ []) (name 396) (at 17 23) (plain.sizes plain.no_sizes)))) plain.no_params) false None)) (plain.block (at 17 26)
    (plain.stmt_and (plain.do_expr (at 17 28) (Some (plain.new (at 17 28) (plain.type_name (plain.spec (at 17 41)
    (plain.alias (name 390)) 0) ([])) (plain.new (at 17 46) (plain.type_name (plain.spec (at 17 59) (plain.alias
    (name 390)) 0) ([])) (plain.word (at 17 64) (name 396)))))) plain.no_stmts) (at 17 69)) ∷ plain.function_def
    (plain.head ([]) (plain.spec (at 18 1) (plain.words (keys.Long ∷ [])) 0) ([]) (name 411) (at 18 6) (plain.params
    (plain.param_and (plain.param_decl ([]) (plain.spec (at 18 9) (plain.alias (name 50)) 0) (plain.named (plain.declr
    (0 ∷ []) (name 396) (at 18 23) (plain.sizes plain.no_sizes)))) plain.no_params) false None)) (plain.block (at 18 26)
    (plain.stmt_and (plain.return (at 18 28) (Some (plain.arrow (at 18 57) (plain.new (at 18 35) (plain.type_name
    (plain.spec (at 18 48) (plain.alias (name 392)) 0) ([])) (plain.word (at 18 55) (name 396))) (name 389))))
    plain.no_stmts) (at 18 65)) ∷ plain.function_def (plain.head ([]) (plain.spec (at 19 1) (plain.words (keys.Void ∷
    [])) 0) ([]) (name 412) (at 19 6) (plain.params (plain.param_and (plain.param_decl ([]) (plain.spec (at 19 9)
    (plain.alias (name 390)) 0) (plain.named (plain.declr (0 ∷ []) (name 413) (at 19 14) (plain.sizes plain.no_sizes))))
    plain.no_params) false None)) (plain.block (at 19 17) (plain.stmt_and (plain.do_expr (at 19 19) (Some (plain.assign
    (at 19 21) puncts.Assign (plain.word (at 19 19) (name 413)) (plain.new (at 19 23) (plain.type_name (plain.spec
    (at 19 36) (plain.alias (name 390)) 0) ([])) (plain.word (at 19 41) (name 414)))))) plain.no_stmts) (at 19 45)) ∷ []

no_fault_13 : least (faults (manual_file file_13)) ≡ None
no_fault_13 = refl

told_13 :
    map (refusal (manual_file file_13) (399 ∷ 400 ∷ 401 ∷ 402 ∷ 403 ∷ 404 ∷ 406 ∷ 408 ∷ 411 ∷ 412 ∷ []))
    (definitions file_13) ≡ (None ∷ None ∷ None ∷ None ∷ told 9 28 10 ∷ told 10 28 10 ∷ told 11 28 10 ∷ told 12 28 10 ∷
    told 13 28 10 ∷ told 14 18 10 ∷ told 15 20 10 ∷ told 16 42 10 ∷ None ∷ told 18 35 10 ∷ told 19 41 9 ∷ [])
told_13 = refl

sound_13 :
    map (λ d. is_sound_action (resolved (manual_file file_13) (399 ∷ 400 ∷ 401 ∷ 402 ∷ 403 ∷ 404 ∷ 406 ∷
    408 ∷ 411 ∷ 412 ∷ []) d).body) (passed (refusal (manual_file file_13) (399 ∷ 400 ∷ 401 ∷ 402 ∷ 403 ∷
    404 ∷ 406 ∷ 408 ∷ 411 ∷ 412 ∷ [])) (definitions file_13)) ≡ (true ∷ true ∷ true ∷ true ∷ true ∷ [])
sound_13 = refl
