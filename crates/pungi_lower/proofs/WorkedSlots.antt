-- How each run of small functions ends, by computing from the definitions: a loop, objects and slots, and fields. The
-- expected ends come from a reading of the rules.
use Rattle.std.proofs.Common.{◌≡◌, refl, ℕ, List, [], ◌∷◌, Some, None, true, false, pos, negsuc, ℤ}
use Rattle.pungi_base.specs.declared.choice.Choice.TheVariants as choice
use Rattle.pungi_base.specs.declared.key.Key.TheVariants as keys
use Rattle.pungi_base.specs.declared.kind.Kind.TheVariants as tokens
use Rattle.pungi_base.specs.declared.punct.Punct.TheVariants as puncts
use Rattle.pungi_base.specs.declared.value.Value.TheVariants as value
use Rattle.pungi_tree.specs.Syntax as plain
use Rattle.pungi_meaning.specs.Run.{End, Returned}
use Rattle.pungi_world.specs.declared.content.Content.{Content}
use Rattle.pungi_world.specs.declared.slot.Slot.{Slot}
use Rattle.pungi_world.specs.declared.slot.SlotState.{SlotState}
use Rattle.pungi_world.specs.World.{account_of}
use Rattle.pungi_lower.proofs.Worked.{at, name, gives, stops, wants, goes_on, told, last_run}

abbrev pub slots_of : End → List SlotState
slots_of (Returned w v p used) = w.slots
slots_of e = []

abbrev pub change_of : ℕ → End → ℤ
change_of object (Returned w v p used) = (account_of w object).change
change_of object e = pos 0

abbrev pub held_then : Slot → Content → Content → SlotState
held_then slot entry now = record { slot = slot; at_entry = entry; held = now }

-- ---- A loop, objects and slots

-- int f(int n) { int s = 0; while (n) { s = s + n; n = n - 1; } return s; }
abbrev pub file_0 : List plain.Item
file_0 =
    plain.function_def (plain.head ([]) (plain.spec (at 1 1) (plain.words (keys.Int ∷ [])) 0) ([]) (name 374)
    (at 1 5) (plain.params (plain.param_and (plain.param_decl ([]) (plain.spec (at 1 7)
    (plain.words (keys.Int ∷ [])) 0) (plain.named (plain.declr ([]) (name 375) (at 1 11)
    (plain.sizes plain.no_sizes)))) plain.no_params) false None)) (plain.block (at 1 14)
    (plain.stmt_and (plain.declare (at 1 16) (plain.decl ([]) (plain.spec (at 1 16) (plain.words (keys.Int ∷ [])) 0)
    ((plain.var_decl (plain.declr ([]) (name 376) (at 1 20) (plain.sizes plain.no_sizes))
    (Some (plain.value (plain.int (at 1 24) (pos 0) false false)))) ∷ [])))
    (plain.stmt_and (plain.while (at 1 27) (plain.word (at 1 34) (name 375))
    (plain.block (at 1 37) (plain.stmt_and (plain.do_expr (at 1 39) (Some (plain.assign (at 1 41) puncts.Assign
    (plain.word (at 1 39) (name 376)) (plain.binary (at 1 45) puncts.Plus (plain.word (at 1 43) (name 376))
    (plain.word (at 1 47) (name 375)))))) (plain.stmt_and (plain.do_expr (at 1 50)
    (Some (plain.assign (at 1 52) puncts.Assign (plain.word (at 1 50) (name 375))
    (plain.binary (at 1 56) puncts.Minus (plain.word (at 1 54) (name 375))
    (plain.int (at 1 58) (pos 1) false false))))) plain.no_stmts)) (at 1 61)))
    (plain.stmt_and (plain.return (at 1 63) (Some (plain.word (at 1 70) (name 376)))) plain.no_stmts))) (at 1 73))
    ∷ []

run_0 : told (last_run file_0 24 ((value.Int (pos 3)) ∷ []) ([]) 200) ≡ gives (Some (value.Int (pos 6))) (at 1 63) ([])
run_0 = refl

-- int f(int n) { int s = 0; while (n) { s = s + n; n = n - 1; } return s; }
run_1 : told (last_run file_0 24 ((value.Int (negsuc 0)) ∷ []) ([]) 1000) ≡ goes_on
run_1 = refl

-- typedef struct { PyObject_HEAD PyObject *first; } Box;
-- void f(Box *self, PyObject *x) { PyObject *tmp = self->first; Py_INCREF(x); self->first = x; Py_XDECREF(tmp); }
abbrev pub file_2 : List plain.Item
file_2 =
    plain.typedef (plain.spec (at 1 9) (plain.tagged_fields keys.Struct None
    (plain.field_and (plain.members ([]) (plain.spec (at 1 18) (plain.alias (name 48)) 0)
    (plain.declr_and (plain.declr ([]) (name 182) (at 1 18) (plain.sizes plain.no_sizes)) plain.no_declrs))
    (plain.field_and (plain.members ([]) (plain.spec (at 1 32) (plain.alias (name 48)) 0)
    (plain.declr_and (plain.declr (0 ∷ []) (name 374) (at 1 42) (plain.sizes plain.no_sizes)) plain.no_declrs))
    plain.no_fields))) 0) ([]) (name 375) (at 1 51) ∷ plain.function_def (plain.head ([])
    (plain.spec (at 2 1) (plain.words (keys.Void ∷ [])) 0) ([]) (name 376) (at 2 6)
    (plain.params (plain.param_and (plain.param_decl ([]) (plain.spec (at 2 8) (plain.alias (name 375)) 0)
    (plain.named (plain.declr (0 ∷ []) (name 377) (at 2 13) (plain.sizes plain.no_sizes))))
    (plain.param_and (plain.param_decl ([]) (plain.spec (at 2 19) (plain.alias (name 48)) 0)
    (plain.named (plain.declr (0 ∷ []) (name 378) (at 2 29) (plain.sizes plain.no_sizes)))) plain.no_params)) false
    None)) (plain.block (at 2 32) (plain.stmt_and (plain.declare (at 2 34)
    (plain.decl ([]) (plain.spec (at 2 34) (plain.alias (name 48)) 0) ((plain.var_decl
    (plain.declr (0 ∷ []) (name 379) (at 2 44) (plain.sizes plain.no_sizes))
    (Some (plain.value (plain.arrow (at 2 54) (plain.word (at 2 50) (name 377)) (name 374))))) ∷ [])))
    (plain.stmt_and (plain.do_expr (at 2 63) (Some (plain.call (at 2 63) (plain.word (at 2 63) (name 167))
    (plain.expr_and (plain.word (at 2 73) (name 378)) plain.no_exprs)))) (plain.stmt_and
    (plain.do_expr (at 2 77) (Some (plain.assign (at 2 89) puncts.Assign (plain.arrow (at 2 81)
    (plain.word (at 2 77) (name 377)) (name 374)) (plain.word (at 2 91) (name 378)))))
    (plain.stmt_and (plain.do_expr (at 2 94) (Some (plain.call (at 2 94) (plain.word (at 2 94) (name 170))
    (plain.expr_and (plain.word (at 2 105) (name 379)) plain.no_exprs)))) plain.no_stmts)))) (at 2 111)) ∷ []

run_2 : told (last_run file_2 26 ((value.Object 24) ∷ (value.Object 25) ∷ []) (choice.Null ∷ []) 100)
    ≡ gives None (at 2 111) (at 2 54 ∷ [])
run_2 = refl

-- PyObject *f(PyObject *self, PyObject *args) { return PyLong_FromLong(1); }
abbrev pub file_3 : List plain.Item
file_3 =
    plain.function_def (plain.head ([]) (plain.spec (at 1 1) (plain.alias (name 48)) 0) (0 ∷ []) (name 374)
    (at 1 11) (plain.params (plain.param_and (plain.param_decl ([]) (plain.spec (at 1 13) (plain.alias (name 48)) 0)
    (plain.named (plain.declr (0 ∷ []) (name 375) (at 1 23) (plain.sizes plain.no_sizes))))
    (plain.param_and (plain.param_decl ([]) (plain.spec (at 1 29) (plain.alias (name 48)) 0)
    (plain.named (plain.declr (0 ∷ []) (name 376) (at 1 39) (plain.sizes plain.no_sizes)))) plain.no_params)) false
    None)) (plain.block (at 1 45) (plain.stmt_and (plain.return (at 1 47) (Some
    (plain.call (at 1 54) (plain.word (at 1 54) (name 103)) (plain.expr_and
    (plain.int (at 1 70) (pos 1) false false) plain.no_exprs)))) plain.no_stmts) (at 1 74)) ∷ []

run_3 : told (last_run file_3 24 (value.Null ∷ value.Null ∷ []) (choice.Null ∷ []) 100)
    ≡ gives (Some value.Null) (at 1 47) (at 1 54 ∷ [])
run_3 = refl

-- PyObject *f(PyObject *self, PyObject *args) { return PyLong_FromLong(1); }
run_4 : told (last_run file_3 24 (value.Null ∷ value.Null ∷ []) ([]) 100) ≡ wants
run_4 = refl

-- PyObject *f(PyObject *self, PyObject *args) { return PyLong_FromLong(1); }
run_5 : told (last_run file_3 24 (value.Null ∷ value.Null ∷ []) (choice.Null ∷ []) 0) ≡ goes_on
run_5 = refl

-- ---- Fields

-- typedef struct { PyObject_HEAD PyObject *first; long hits; int few; } Box;
-- long f(Box *b) { return b->hits; }
abbrev pub file_6 : List plain.Item
file_6 =
    plain.typedef (plain.spec (at 1 9) (plain.tagged_fields keys.Struct None
    (plain.field_and (plain.members ([]) (plain.spec (at 1 18) (plain.alias (name 48)) 0)
    (plain.declr_and (plain.declr ([]) (name 182) (at 1 18) (plain.sizes plain.no_sizes)) plain.no_declrs))
    (plain.field_and (plain.members ([]) (plain.spec (at 1 32) (plain.alias (name 48)) 0)
    (plain.declr_and (plain.declr (0 ∷ []) (name 374) (at 1 42) (plain.sizes plain.no_sizes)) plain.no_declrs))
    (plain.field_and (plain.members ([]) (plain.spec (at 1 49) (plain.words (keys.Long ∷ [])) 0)
    (plain.declr_and (plain.declr ([]) (name 375) (at 1 54) (plain.sizes plain.no_sizes)) plain.no_declrs))
    (plain.field_and (plain.members ([]) (plain.spec (at 1 60) (plain.words (keys.Int ∷ [])) 0)
    (plain.declr_and (plain.declr ([]) (name 376) (at 1 64) (plain.sizes plain.no_sizes)) plain.no_declrs))
    plain.no_fields))))) 0) ([]) (name 377) (at 1 71) ∷ plain.function_def
    (plain.head ([]) (plain.spec (at 2 1) (plain.words (keys.Long ∷ [])) 0) ([]) (name 378) (at 2 6)
    (plain.params (plain.param_and (plain.param_decl ([]) (plain.spec (at 2 8) (plain.alias (name 377)) 0)
    (plain.named (plain.declr (0 ∷ []) (name 379) (at 2 13) (plain.sizes plain.no_sizes)))) plain.no_params) false
    None)) (plain.block (at 2 16) (plain.stmt_and (plain.return (at 2 18) (Some
    (plain.arrow (at 2 26) (plain.word (at 2 25) (name 379)) (name 375)))) plain.no_stmts) (at 2 34)) ∷ []

run_6 : told (last_run file_6 24 (value.Null ∷ []) ((choice.Int (pos 1)) ∷ []) 50) ≡ stops (at 2 26)
run_6 = refl

-- typedef struct { PyObject_HEAD PyObject *first; long hits; int few; } Box;
-- int f(Box *b) { return b->few; }
abbrev pub file_7 : List plain.Item
file_7 =
    plain.typedef (plain.spec (at 1 9) (plain.tagged_fields keys.Struct None
    (plain.field_and (plain.members ([]) (plain.spec (at 1 18) (plain.alias (name 48)) 0)
    (plain.declr_and (plain.declr ([]) (name 182) (at 1 18) (plain.sizes plain.no_sizes)) plain.no_declrs))
    (plain.field_and (plain.members ([]) (plain.spec (at 1 32) (plain.alias (name 48)) 0)
    (plain.declr_and (plain.declr (0 ∷ []) (name 374) (at 1 42) (plain.sizes plain.no_sizes)) plain.no_declrs))
    (plain.field_and (plain.members ([]) (plain.spec (at 1 49) (plain.words (keys.Long ∷ [])) 0)
    (plain.declr_and (plain.declr ([]) (name 375) (at 1 54) (plain.sizes plain.no_sizes)) plain.no_declrs))
    (plain.field_and (plain.members ([]) (plain.spec (at 1 60) (plain.words (keys.Int ∷ [])) 0)
    (plain.declr_and (plain.declr ([]) (name 376) (at 1 64) (plain.sizes plain.no_sizes)) plain.no_declrs))
    plain.no_fields))))) 0) ([]) (name 377) (at 1 71) ∷ plain.function_def
    (plain.head ([]) (plain.spec (at 2 1) (plain.words (keys.Int ∷ [])) 0) ([]) (name 378) (at 2 5)
    (plain.params (plain.param_and (plain.param_decl ([]) (plain.spec (at 2 7) (plain.alias (name 377)) 0)
    (plain.named (plain.declr (0 ∷ []) (name 379) (at 2 12) (plain.sizes plain.no_sizes)))) plain.no_params) false
    None)) (plain.block (at 2 15) (plain.stmt_and (plain.return (at 2 17) (Some
    (plain.arrow (at 2 25) (plain.word (at 2 24) (name 379)) (name 376)))) plain.no_stmts) (at 2 32)) ∷ []

run_7 : told (last_run file_7 25 ((value.Object 24) ∷ []) ((choice.Int (pos 5)) ∷ []) 50)
    ≡ gives (Some (value.Int (pos 5))) (at 2 17) (at 2 25 ∷ [])
run_7 = refl

-- typedef struct { PyObject_HEAD PyObject *first; long hits; int few; } Box;
-- int f(Box *b) { return b->few; }
run_8 : told (last_run file_7 25 ((value.Object 24) ∷ []) ((choice.Int (pos 3000000000)) ∷ []) 50) ≡ wants
run_8 = refl

-- typedef struct { PyObject_HEAD PyObject *first; long hits; int few; } Box;
-- long f(Box *b) { b->hits += 1; return b->hits; }
abbrev pub file_9 : List plain.Item
file_9 =
    plain.typedef (plain.spec (at 1 9) (plain.tagged_fields keys.Struct None
    (plain.field_and (plain.members ([]) (plain.spec (at 1 18) (plain.alias (name 48)) 0)
    (plain.declr_and (plain.declr ([]) (name 182) (at 1 18) (plain.sizes plain.no_sizes)) plain.no_declrs))
    (plain.field_and (plain.members ([]) (plain.spec (at 1 32) (plain.alias (name 48)) 0)
    (plain.declr_and (plain.declr (0 ∷ []) (name 374) (at 1 42) (plain.sizes plain.no_sizes)) plain.no_declrs))
    (plain.field_and (plain.members ([]) (plain.spec (at 1 49) (plain.words (keys.Long ∷ [])) 0)
    (plain.declr_and (plain.declr ([]) (name 375) (at 1 54) (plain.sizes plain.no_sizes)) plain.no_declrs))
    (plain.field_and (plain.members ([]) (plain.spec (at 1 60) (plain.words (keys.Int ∷ [])) 0)
    (plain.declr_and (plain.declr ([]) (name 376) (at 1 64) (plain.sizes plain.no_sizes)) plain.no_declrs))
    plain.no_fields))))) 0) ([]) (name 377) (at 1 71) ∷ plain.function_def
    (plain.head ([]) (plain.spec (at 2 1) (plain.words (keys.Long ∷ [])) 0) ([]) (name 378) (at 2 6)
    (plain.params (plain.param_and (plain.param_decl ([]) (plain.spec (at 2 8) (plain.alias (name 377)) 0)
    (plain.named (plain.declr (0 ∷ []) (name 379) (at 2 13) (plain.sizes plain.no_sizes)))) plain.no_params) false
    None)) (plain.block (at 2 16) (plain.stmt_and (plain.do_expr (at 2 18)
    (Some (plain.assign (at 2 26) puncts.PlusAssign (plain.arrow (at 2 19) (plain.word (at 2 18) (name 379))
    (name 375)) (plain.int (at 2 29) (pos 1) false false)))) (plain.stmt_and
    (plain.return (at 2 32) (Some (plain.arrow (at 2 40) (plain.word (at 2 39) (name 379)) (name 375))))
    plain.no_stmts)) (at 2 48)) ∷ []

run_9 : told (last_run file_9 25 ((value.Object 24) ∷ []) ((choice.Int (pos 41)) ∷ []) 50)
    ≡ gives (Some (value.Int (pos 42))) (at 2 32) (at 2 19 ∷ [])
run_9 = refl

-- typedef struct { PyObject_HEAD PyObject *first; long hits; int few; } Box;
-- long f(Box *b) { long old = b->hits++; return old * 100 + b->hits; }
abbrev pub file_10 : List plain.Item
file_10 =
    plain.typedef (plain.spec (at 1 9) (plain.tagged_fields keys.Struct None
    (plain.field_and (plain.members ([]) (plain.spec (at 1 18) (plain.alias (name 48)) 0)
    (plain.declr_and (plain.declr ([]) (name 182) (at 1 18) (plain.sizes plain.no_sizes)) plain.no_declrs))
    (plain.field_and (plain.members ([]) (plain.spec (at 1 32) (plain.alias (name 48)) 0)
    (plain.declr_and (plain.declr (0 ∷ []) (name 374) (at 1 42) (plain.sizes plain.no_sizes)) plain.no_declrs))
    (plain.field_and (plain.members ([]) (plain.spec (at 1 49) (plain.words (keys.Long ∷ [])) 0)
    (plain.declr_and (plain.declr ([]) (name 375) (at 1 54) (plain.sizes plain.no_sizes)) plain.no_declrs))
    (plain.field_and (plain.members ([]) (plain.spec (at 1 60) (plain.words (keys.Int ∷ [])) 0)
    (plain.declr_and (plain.declr ([]) (name 376) (at 1 64) (plain.sizes plain.no_sizes)) plain.no_declrs))
    plain.no_fields))))) 0) ([]) (name 377) (at 1 71) ∷ plain.function_def
    (plain.head ([]) (plain.spec (at 2 1) (plain.words (keys.Long ∷ [])) 0) ([]) (name 378) (at 2 6)
    (plain.params (plain.param_and (plain.param_decl ([]) (plain.spec (at 2 8) (plain.alias (name 377)) 0)
    (plain.named (plain.declr (0 ∷ []) (name 379) (at 2 13) (plain.sizes plain.no_sizes)))) plain.no_params) false
    None)) (plain.block (at 2 16) (plain.stmt_and (plain.declare (at 2 18)
    (plain.decl ([]) (plain.spec (at 2 18) (plain.words (keys.Long ∷ [])) 0)
    ((plain.var_decl (plain.declr ([]) (name 380) (at 2 23) (plain.sizes plain.no_sizes))
    (Some (plain.value (plain.post (at 2 36) puncts.PlusPlus (plain.arrow (at 2 30)
    (plain.word (at 2 29) (name 379)) (name 375)))))) ∷ []))) (plain.stmt_and
    (plain.return (at 2 40) (Some (plain.binary (at 2 57) puncts.Plus (plain.binary (at 2 51) puncts.Star
    (plain.word (at 2 47) (name 380)) (plain.int (at 2 53) (pos 100) false false))
    (plain.arrow (at 2 60) (plain.word (at 2 59) (name 379)) (name 375))))) plain.no_stmts)) (at 2 68)) ∷ []

run_10 : told (last_run file_10 25 ((value.Object 24) ∷ []) ((choice.Int (pos 5)) ∷ []) 50)
    ≡ gives (Some (value.Int (pos 506))) (at 2 40) (at 2 30 ∷ [])
run_10 = refl

-- typedef struct { PyObject_HEAD PyObject *first; long hits; int few; } Box;
-- long f(Box *b) { long new = ++b->hits; return new * 100 + b->hits; }
abbrev pub file_11 : List plain.Item
file_11 =
    plain.typedef (plain.spec (at 1 9) (plain.tagged_fields keys.Struct None
    (plain.field_and (plain.members ([]) (plain.spec (at 1 18) (plain.alias (name 48)) 0)
    (plain.declr_and (plain.declr ([]) (name 182) (at 1 18) (plain.sizes plain.no_sizes)) plain.no_declrs))
    (plain.field_and (plain.members ([]) (plain.spec (at 1 32) (plain.alias (name 48)) 0)
    (plain.declr_and (plain.declr (0 ∷ []) (name 374) (at 1 42) (plain.sizes plain.no_sizes)) plain.no_declrs))
    (plain.field_and (plain.members ([]) (plain.spec (at 1 49) (plain.words (keys.Long ∷ [])) 0)
    (plain.declr_and (plain.declr ([]) (name 375) (at 1 54) (plain.sizes plain.no_sizes)) plain.no_declrs))
    (plain.field_and (plain.members ([]) (plain.spec (at 1 60) (plain.words (keys.Int ∷ [])) 0)
    (plain.declr_and (plain.declr ([]) (name 376) (at 1 64) (plain.sizes plain.no_sizes)) plain.no_declrs))
    plain.no_fields))))) 0) ([]) (name 377) (at 1 71) ∷ plain.function_def
    (plain.head ([]) (plain.spec (at 2 1) (plain.words (keys.Long ∷ [])) 0) ([]) (name 378) (at 2 6)
    (plain.params (plain.param_and (plain.param_decl ([]) (plain.spec (at 2 8) (plain.alias (name 377)) 0)
    (plain.named (plain.declr (0 ∷ []) (name 379) (at 2 13) (plain.sizes plain.no_sizes)))) plain.no_params) false
    None)) (plain.block (at 2 16) (plain.stmt_and (plain.declare (at 2 18)
    (plain.decl ([]) (plain.spec (at 2 18) (plain.words (keys.Long ∷ [])) 0)
    ((plain.var_decl (plain.declr ([]) (name 380) (at 2 23) (plain.sizes plain.no_sizes))
    (Some (plain.value (plain.unary (at 2 29) (tokens.Punct puncts.PlusPlus)
    (plain.arrow (at 2 32) (plain.word (at 2 31) (name 379)) (name 375)))))) ∷ [])))
    (plain.stmt_and (plain.return (at 2 40) (Some (plain.binary (at 2 57) puncts.Plus
    (plain.binary (at 2 51) puncts.Star (plain.word (at 2 47) (name 380)) (plain.int (at 2 53) (pos 100) false
    false)) (plain.arrow (at 2 60) (plain.word (at 2 59) (name 379)) (name 375))))) plain.no_stmts)) (at 2 68)) ∷ []

run_11 : told (last_run file_11 25 ((value.Object 24) ∷ []) ((choice.Int (pos 5)) ∷ []) 50)
    ≡ gives (Some (value.Int (pos 606))) (at 2 40) (at 2 32 ∷ [])
run_11 = refl

-- typedef struct { PyObject_HEAD PyObject *first; long hits; int few; } Box;
-- int f(Box *b) { b->few += 1; return 0; }
abbrev pub file_12 : List plain.Item
file_12 =
    plain.typedef (plain.spec (at 1 9) (plain.tagged_fields keys.Struct None
    (plain.field_and (plain.members ([]) (plain.spec (at 1 18) (plain.alias (name 48)) 0)
    (plain.declr_and (plain.declr ([]) (name 182) (at 1 18) (plain.sizes plain.no_sizes)) plain.no_declrs))
    (plain.field_and (plain.members ([]) (plain.spec (at 1 32) (plain.alias (name 48)) 0)
    (plain.declr_and (plain.declr (0 ∷ []) (name 374) (at 1 42) (plain.sizes plain.no_sizes)) plain.no_declrs))
    (plain.field_and (plain.members ([]) (plain.spec (at 1 49) (plain.words (keys.Long ∷ [])) 0)
    (plain.declr_and (plain.declr ([]) (name 375) (at 1 54) (plain.sizes plain.no_sizes)) plain.no_declrs))
    (plain.field_and (plain.members ([]) (plain.spec (at 1 60) (plain.words (keys.Int ∷ [])) 0)
    (plain.declr_and (plain.declr ([]) (name 376) (at 1 64) (plain.sizes plain.no_sizes)) plain.no_declrs))
    plain.no_fields))))) 0) ([]) (name 377) (at 1 71) ∷ plain.function_def
    (plain.head ([]) (plain.spec (at 2 1) (plain.words (keys.Int ∷ [])) 0) ([]) (name 378) (at 2 5)
    (plain.params (plain.param_and (plain.param_decl ([]) (plain.spec (at 2 7) (plain.alias (name 377)) 0)
    (plain.named (plain.declr (0 ∷ []) (name 379) (at 2 12) (plain.sizes plain.no_sizes)))) plain.no_params) false
    None)) (plain.block (at 2 15) (plain.stmt_and (plain.do_expr (at 2 17)
    (Some (plain.assign (at 2 24) puncts.PlusAssign (plain.arrow (at 2 18) (plain.word (at 2 17) (name 379))
    (name 376)) (plain.int (at 2 27) (pos 1) false false)))) (plain.stmt_and
    (plain.return (at 2 30) (Some (plain.int (at 2 37) (pos 0) false false))) plain.no_stmts)) (at 2 40)) ∷ []

run_12 : told (last_run file_12 25 ((value.Object 24) ∷ []) ((choice.Int (pos 2147483647)) ∷ []) 50) ≡ stops (at 2 24)
run_12 = refl

-- typedef struct { PyObject_HEAD PyObject *first; long hits; int few; } Box;
-- int f(Box *a, Box *b) { a->few = 1; b->few = 2; return a->few; }
abbrev pub file_13 : List plain.Item
file_13 =
    plain.typedef (plain.spec (at 1 9) (plain.tagged_fields keys.Struct None
    (plain.field_and (plain.members ([]) (plain.spec (at 1 18) (plain.alias (name 48)) 0)
    (plain.declr_and (plain.declr ([]) (name 182) (at 1 18) (plain.sizes plain.no_sizes)) plain.no_declrs))
    (plain.field_and (plain.members ([]) (plain.spec (at 1 32) (plain.alias (name 48)) 0)
    (plain.declr_and (plain.declr (0 ∷ []) (name 374) (at 1 42) (plain.sizes plain.no_sizes)) plain.no_declrs))
    (plain.field_and (plain.members ([]) (plain.spec (at 1 49) (plain.words (keys.Long ∷ [])) 0)
    (plain.declr_and (plain.declr ([]) (name 375) (at 1 54) (plain.sizes plain.no_sizes)) plain.no_declrs))
    (plain.field_and (plain.members ([]) (plain.spec (at 1 60) (plain.words (keys.Int ∷ [])) 0)
    (plain.declr_and (plain.declr ([]) (name 376) (at 1 64) (plain.sizes plain.no_sizes)) plain.no_declrs))
    plain.no_fields))))) 0) ([]) (name 377) (at 1 71) ∷ plain.function_def
    (plain.head ([]) (plain.spec (at 2 1) (plain.words (keys.Int ∷ [])) 0) ([]) (name 378) (at 2 5)
    (plain.params (plain.param_and (plain.param_decl ([]) (plain.spec (at 2 7) (plain.alias (name 377)) 0)
    (plain.named (plain.declr (0 ∷ []) (name 379) (at 2 12) (plain.sizes plain.no_sizes))))
    (plain.param_and (plain.param_decl ([]) (plain.spec (at 2 15) (plain.alias (name 377)) 0)
    (plain.named (plain.declr (0 ∷ []) (name 380) (at 2 20) (plain.sizes plain.no_sizes)))) plain.no_params)) false
    None)) (plain.block (at 2 23) (plain.stmt_and (plain.do_expr (at 2 25)
    (Some (plain.assign (at 2 32) puncts.Assign (plain.arrow (at 2 26) (plain.word (at 2 25) (name 379)) (name 376))
    (plain.int (at 2 34) (pos 1) false false)))) (plain.stmt_and (plain.do_expr (at 2 37)
    (Some (plain.assign (at 2 44) puncts.Assign (plain.arrow (at 2 38) (plain.word (at 2 37) (name 380)) (name 376))
    (plain.int (at 2 46) (pos 2) false false)))) (plain.stmt_and (plain.return (at 2 49)
    (Some (plain.arrow (at 2 57) (plain.word (at 2 56) (name 379)) (name 376)))) plain.no_stmts))) (at 2 64)) ∷ []

run_13 : told (last_run file_13 25 ((value.Object 24) ∷ (value.Object 24) ∷ [])
    ((choice.Int (pos 0)) ∷ (choice.Int (pos 9)) ∷ []) 80)
    ≡ gives (Some (value.Int (pos 2))) (at 2 49) (at 2 26 ∷ [])
run_13 = refl

-- typedef struct { PyObject_HEAD PyObject *first; long hits; int few; } Box;
-- int f(Box *a, Box *b) { a->few = 1; b->few = 2; return a->few; }
run_14 : told (last_run file_13 26 ((value.Object 24) ∷ (value.Object 25) ∷ [])
    ((choice.Int (pos 0)) ∷ (choice.Int (pos 9)) ∷ []) 80)
    ≡ gives (Some (value.Int (pos 1))) (at 2 49) (at 2 26 ∷ at 2 38 ∷ [])
run_14 = refl

-- typedef struct { PyObject_HEAD PyObject *first; long hits; int few; } Box;
-- PyObject *f(Box *b) { return b->first; }
abbrev pub file_15 : List plain.Item
file_15 =
    plain.typedef (plain.spec (at 1 9) (plain.tagged_fields keys.Struct None
    (plain.field_and (plain.members ([]) (plain.spec (at 1 18) (plain.alias (name 48)) 0)
    (plain.declr_and (plain.declr ([]) (name 182) (at 1 18) (plain.sizes plain.no_sizes)) plain.no_declrs))
    (plain.field_and (plain.members ([]) (plain.spec (at 1 32) (plain.alias (name 48)) 0)
    (plain.declr_and (plain.declr (0 ∷ []) (name 374) (at 1 42) (plain.sizes plain.no_sizes)) plain.no_declrs))
    (plain.field_and (plain.members ([]) (plain.spec (at 1 49) (plain.words (keys.Long ∷ [])) 0)
    (plain.declr_and (plain.declr ([]) (name 375) (at 1 54) (plain.sizes plain.no_sizes)) plain.no_declrs))
    (plain.field_and (plain.members ([]) (plain.spec (at 1 60) (plain.words (keys.Int ∷ [])) 0)
    (plain.declr_and (plain.declr ([]) (name 376) (at 1 64) (plain.sizes plain.no_sizes)) plain.no_declrs))
    plain.no_fields))))) 0) ([]) (name 377) (at 1 71) ∷ plain.function_def
    (plain.head ([]) (plain.spec (at 2 1) (plain.alias (name 48)) 0) (0 ∷ []) (name 378) (at 2 11)
    (plain.params (plain.param_and (plain.param_decl ([]) (plain.spec (at 2 13) (plain.alias (name 377)) 0)
    (plain.named (plain.declr (0 ∷ []) (name 379) (at 2 18) (plain.sizes plain.no_sizes)))) plain.no_params) false
    None)) (plain.block (at 2 21) (plain.stmt_and (plain.return (at 2 23) (Some
    (plain.arrow (at 2 31) (plain.word (at 2 30) (name 379)) (name 374)))) plain.no_stmts) (at 2 40)) ∷ []

run_15 : told (last_run file_15 25 ((value.Object 24) ∷ []) ((choice.Object 25) ∷ []) 80)
    ≡ gives (Some (value.Object 25)) (at 2 23) (at 2 31 ∷ [])
run_15 = refl

-- typedef struct { PyObject_HEAD PyObject *first; long hits; int few; } Box;
-- PyObject *f(Box *b) { return b->first; }
run_16 : told (last_run file_15 25 ((value.Object 24) ∷ []) ((choice.Object 26) ∷ []) 80) ≡ wants
run_16 = refl

-- long g;
-- long f(void) { return g + g; }
abbrev pub file_17 : List plain.Item
file_17 =
    plain.variables (plain.decl ([]) (plain.spec (at 1 1) (plain.words (keys.Long ∷ [])) 0)
    ((plain.var_decl (plain.declr ([]) (name 374) (at 1 6) (plain.sizes plain.no_sizes)) None) ∷ []))
    ∷ plain.function_def (plain.head ([]) (plain.spec (at 2 1) (plain.words (keys.Long ∷ [])) 0) ([]) (name 375)
    (at 2 6) (plain.params plain.no_params true None)) (plain.block (at 2 14)
    (plain.stmt_and (plain.return (at 2 16) (Some (plain.binary (at 2 25) puncts.Plus
    (plain.word (at 2 23) (name 374)) (plain.word (at 2 27) (name 374))))) plain.no_stmts) (at 2 30)) ∷ []

run_17 : told (last_run file_17 24 ([]) ((choice.Int (pos 21)) ∷ []) 80)
    ≡ gives (Some (value.Int (pos 42))) (at 2 16) (at 2 23 ∷ [])
run_17 = refl
