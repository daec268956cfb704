-- How each run of small functions ends, by computing from the definitions: calls whose arguments depend on their
-- number, and of a place that is emptied. The expected ends come from a reading of the manual.
use Rattle.std.proofs.Common.{◌≡◌, refl, List, [], ◌∷◌, Some, None, true, false, pos, negsuc, ℤ}
use Rattle.pungi_base.specs.declared.choice.Choice.TheVariants as choice
use Rattle.pungi_base.specs.declared.key.Key.TheVariants as keys
use Rattle.pungi_base.specs.declared.value.Value.TheVariants as value
use Rattle.pungi_tree.specs.Syntax as plain
use Rattle.pungi_api.specs.Signatures.{special_signature}
use Rattle.pungi_api.specs.declared.special.Special.TheVariants as specials
use Rattle.pungi_world.specs.declared.content.Content.TheVariants.{Holds}
use Rattle.pungi_world.specs.declared.slot.Slot.{Slot}
use Rattle.pungi_world.specs.declared.slot.Slot.TheVariants.{Field}
use Rattle.pungi_world.specs.declared.slot.SlotState.{SlotState}
use Rattle.pungi_world.specs.Effects.{effect}
use Rattle.pungi_meaning.specs.Todo.{Loaded, Stored, Called}
use Rattle.pungi_lower.proofs.Worked.{at, name, gives, stops, told, last_run, last_operations}
use Rattle.pungi_lower.proofs.WorkedSlots.{slots_of, change_of, held_then}

-- ---- `Py_CLEAR` of a local

-- PyObject *f(PyObject *x) { Py_CLEAR(x); return x; }
abbrev pub file_0 : List plain.Item
file_0 =
    plain.function_def (plain.head ([]) (plain.spec (at 1 1) (plain.alias (name 48)) 0) (0 ∷ []) (name 374)
    (at 1 11) (plain.params (plain.param_and (plain.param_decl ([]) (plain.spec (at 1 13) (plain.alias (name 48)) 0)
    (plain.named (plain.declr (0 ∷ []) (name 375) (at 1 23) (plain.sizes plain.no_sizes)))) plain.no_params) false
    None)) (plain.block (at 1 26) (plain.stmt_and (plain.do_expr (at 1 28)
    (Some (plain.call (at 1 28) (plain.word (at 1 28) (name 171)) (plain.expr_and (plain.word (at 1 37) (name 375))
    plain.no_exprs)))) (plain.stmt_and (plain.return (at 1 41) (Some (plain.word (at 1 48) (name 375))))
    plain.no_stmts)) (at 1 51)) ∷ []

run_0 : told (last_run file_0 25 ((value.Object 24) ∷ []) ([]) 80) ≡ gives (Some value.Null) (at 1 41) ([])
run_0 = refl

change_0 : change_of 24 (last_run file_0 25 ((value.Object 24) ∷ []) ([]) 80) ≡ negsuc 0
change_0 = refl

-- NULL stays NULL
run_1 : told (last_run file_0 25 (value.Null ∷ []) ([]) 80) ≡ gives (Some value.Null) (at 1 41) ([])
run_1 = refl

-- ---- `Py_CLEAR` of a field: the object is released when the field holds NULL

-- typedef struct { PyObject_HEAD PyObject *first; } Box;
-- void f(Box *self) { Py_CLEAR(self->first); }
abbrev pub file_2 : List plain.Item
file_2 =
    plain.typedef (plain.spec (at 1 9) (plain.tagged_fields keys.Struct None
    (plain.field_and (plain.members ([]) (plain.spec (at 1 18) (plain.alias (name 48)) 0)
    (plain.declr_and (plain.declr ([]) (name 182) (at 1 18) (plain.sizes plain.no_sizes)) plain.no_declrs))
    (plain.field_and (plain.members ([]) (plain.spec (at 1 32) (plain.alias (name 48)) 0)
    (plain.declr_and (plain.declr (0 ∷ []) (name 374) (at 1 42) (plain.sizes plain.no_sizes)) plain.no_declrs))
    plain.no_fields))) 0) ([]) (name 375) (at 1 51) ∷ plain.function_def (plain.head ([])
    (plain.spec (at 2 1) (plain.words (keys.Void ∷ [])) 0) ([]) (name 376) (at 2 6)
    (plain.params (plain.param_and (plain.param_decl ([]) (plain.spec (at 2 8) (plain.alias (name 375)) 0)
    (plain.named (plain.declr (0 ∷ []) (name 377) (at 2 13) (plain.sizes plain.no_sizes)))) plain.no_params) false
    None)) (plain.block (at 2 19) (plain.stmt_and (plain.do_expr (at 2 21)
    (Some (plain.call (at 2 21) (plain.word (at 2 21) (name 171)) (plain.expr_and
    (plain.arrow (at 2 34) (plain.word (at 2 30) (name 377)) (name 374)) plain.no_exprs)))) plain.no_stmts) (at 2 44))
    ∷ []

abbrev pub first_of_24 : Slot
first_of_24 = Field 24 (name 375) (name 374)

run_2 : told (last_run file_2 26 ((value.Object 24) ∷ []) ((choice.Object 25) ∷ []) 80)
    ≡ gives None (at 2 44) (at 2 34 ∷ [])
run_2 = refl

operations_2 : last_operations file_2 26 ((value.Object 24) ∷ []) ((choice.Object 25) ∷ []) 80
    ≡ Loaded (at 2 34) first_of_24 (Some (value.Object 25)) ∷ Stored (at 2 34) first_of_24 value.Null
    ∷ Called (at 2 21) (special_signature specials.Clear ([])) ((value.Object 25) ∷ []) (effect None 0) ∷ []
operations_2 = refl

world_2 : ◌≡◌ {A = List SlotState × ℤ} (
  slots_of (last_run file_2 26 ((value.Object 24) ∷ []) ((choice.Object 25) ∷ []) 80),
  change_of 25 (last_run file_2 26 ((value.Object 24) ∷ []) ((choice.Object 25) ∷ []) 80),
) (held_then first_of_24 (Holds (value.Object 25)) (Holds value.Null) ∷ [], negsuc 0)
world_2 = refl

-- NULL stays NULL
run_3 : told (last_run file_2 26 ((value.Object 24) ∷ []) (choice.Null ∷ []) 80)
    ≡ gives None (at 2 44) (at 2 34 ∷ [])
run_3 = refl

-- NULL has no fields
run_4 : told (last_run file_2 26 (value.Null ∷ []) ((choice.Object 25) ∷ []) 80) ≡ stops (at 2 34)
run_4 = refl

-- ---- As many objects as are counted

-- PyObject *f(PyObject *x, PyObject *y) { return PyTuple_Pack(2, x, y); }
abbrev pub file_5 : List plain.Item
file_5 =
    plain.function_def (plain.head ([]) (plain.spec (at 1 1) (plain.alias (name 48)) 0) (0 ∷ []) (name 374)
    (at 1 11) (plain.params (plain.param_and (plain.param_decl ([]) (plain.spec (at 1 13) (plain.alias (name 48)) 0)
    (plain.named (plain.declr (0 ∷ []) (name 375) (at 1 23) (plain.sizes plain.no_sizes))))
    (plain.param_and (plain.param_decl ([]) (plain.spec (at 1 26) (plain.alias (name 48)) 0)
    (plain.named (plain.declr (0 ∷ []) (name 376) (at 1 36) (plain.sizes plain.no_sizes)))) plain.no_params)) false
    None)) (plain.block (at 1 39) (plain.stmt_and (plain.return (at 1 41) (Some
    (plain.call (at 1 48) (plain.word (at 1 48) (name 175)) (plain.expr_and
    (plain.int (at 1 61) (pos 2) false false) (plain.expr_and (plain.word (at 1 64) (name 375))
    (plain.expr_and (plain.word (at 1 67) (name 376)) plain.no_exprs)))))) plain.no_stmts) (at 1 71)) ∷ []

run_5 : told (last_run file_5 26 ((value.Object 24) ∷ (value.Object 25) ∷ []) ((choice.Object 26) ∷ []) 80)
    ≡ gives (Some (value.Object 26)) (at 1 41) (at 1 48 ∷ [])
run_5 = refl

-- the tuple is a new reference, and takes over none
changes_5 : ◌≡◌ {A = ℤ × ℤ} (
  change_of 26 (last_run file_5 26 ((value.Object 24) ∷ (value.Object 25) ∷ []) ((choice.Object 26) ∷ []) 80),
  change_of 24 (last_run file_5 26 ((value.Object 24) ∷ (value.Object 25) ∷ []) ((choice.Object 26) ∷ []) 80),
) (pos 1, pos 0)
changes_5 = refl

run_6 : told (last_run file_5 26 ((value.Object 24) ∷ (value.Object 25) ∷ []) (choice.Null ∷ []) 80)
    ≡ gives (Some value.Null) (at 1 41) (at 1 48 ∷ [])
run_6 = refl

-- no item is NULL
run_7 : told (last_run file_5 26 ((value.Object 24) ∷ value.Null ∷ []) ((choice.Object 26) ∷ []) 80) ≡ stops (at 1 48)
run_7 = refl

-- PyObject *f(void) { return PyTuple_Pack(0); }
abbrev pub file_8 : List plain.Item
file_8 =
    plain.function_def (plain.head ([]) (plain.spec (at 1 1) (plain.alias (name 48)) 0) (0 ∷ []) (name 374)
    (at 1 11) (plain.params plain.no_params true None)) (plain.block (at 1 19)
    (plain.stmt_and (plain.return (at 1 21) (Some (plain.call (at 1 28) (plain.word (at 1 28) (name 175))
    (plain.expr_and (plain.int (at 1 41) (pos 0) false false) plain.no_exprs)))) plain.no_stmts) (at 1 45)) ∷ []

run_8 : told (last_run file_8 24 ([]) ((choice.Object 24) ∷ []) 80)
    ≡ gives (Some (value.Object 24)) (at 1 21) (at 1 28 ∷ [])
run_8 = refl

-- ---- Objects, and then NULL

-- PyObject *f(PyObject *x, PyObject *y) { return PyObject_CallFunctionObjArgs(x, y, NULL); }
abbrev pub file_9 : List plain.Item
file_9 =
    plain.function_def (plain.head ([]) (plain.spec (at 1 1) (plain.alias (name 48)) 0) (0 ∷ []) (name 374)
    (at 1 11) (plain.params (plain.param_and (plain.param_decl ([]) (plain.spec (at 1 13) (plain.alias (name 48)) 0)
    (plain.named (plain.declr (0 ∷ []) (name 375) (at 1 23) (plain.sizes plain.no_sizes))))
    (plain.param_and (plain.param_decl ([]) (plain.spec (at 1 26) (plain.alias (name 48)) 0)
    (plain.named (plain.declr (0 ∷ []) (name 376) (at 1 36) (plain.sizes plain.no_sizes)))) plain.no_params)) false
    None)) (plain.block (at 1 39) (plain.stmt_and (plain.return (at 1 41) (Some
    (plain.call (at 1 48) (plain.word (at 1 48) (name 176)) (plain.expr_and (plain.word (at 1 77) (name 375))
    (plain.expr_and (plain.word (at 1 80) (name 376)) (plain.expr_and (plain.null (at 1 83)) plain.no_exprs))))))
    plain.no_stmts) (at 1 90)) ∷ []

run_9 : told (last_run file_9 26 ((value.Object 24) ∷ (value.Object 25) ∷ []) ((choice.Object 26) ∷ []) 80)
    ≡ gives (Some (value.Object 26)) (at 1 41) (at 1 48 ∷ [])
run_9 = refl

-- the first NULL ends the arguments
run_10 : told (last_run file_9 26 ((value.Object 24) ∷ value.Null ∷ []) ((choice.Object 26) ∷ []) 80)
    ≡ gives (Some (value.Object 26)) (at 1 41) (at 1 48 ∷ [])
run_10 = refl

-- what is called is not NULL
run_11 : told (last_run file_9 26 (value.Null ∷ (value.Object 25) ∷ []) ((choice.Object 26) ∷ []) 80)
    ≡ stops (at 1 48)
run_11 = refl

-- ---- An exception, a text, and then anything

-- PyObject *f(int n, PyObject *x) { return PyErr_Format(PyExc_ValueError, "%d %S", n, x); }
abbrev pub file_12 : List plain.Item
file_12 =
    plain.function_def (plain.head ([]) (plain.spec (at 1 1) (plain.alias (name 48)) 0) (0 ∷ []) (name 374)
    (at 1 11) (plain.params (plain.param_and (plain.param_decl ([]) (plain.spec (at 1 13)
    (plain.words (keys.Int ∷ [])) 0) (plain.named (plain.declr ([]) (name 375) (at 1 17)
    (plain.sizes plain.no_sizes)))) (plain.param_and (plain.param_decl ([]) (plain.spec (at 1 20)
    (plain.alias (name 48)) 0) (plain.named (plain.declr (0 ∷ []) (name 376) (at 1 30)
    (plain.sizes plain.no_sizes)))) plain.no_params)) false None)) (plain.block (at 1 33)
    (plain.stmt_and (plain.return (at 1 35) (Some (plain.call (at 1 42) (plain.word (at 1 42) (name 177))
    (plain.expr_and (plain.word (at 1 55) (name 84)) (plain.expr_and (plain.text (at 1 73) ((name 377) ∷ []))
    (plain.expr_and (plain.word (at 1 82) (name 375)) (plain.expr_and (plain.word (at 1 85) (name 376))
    plain.no_exprs))))))) plain.no_stmts) (at 1 89)) ∷ []

-- it returns NULL always
run_12 : told (last_run file_12 25 ((value.Int (pos 3)) ∷ (value.Object 24) ∷ []) ([]) 80)
    ≡ gives (Some value.Null) (at 1 35) ([])
run_12 = refl

run_13 : told (last_run file_12 25 ((value.Int (pos 3)) ∷ value.Null ∷ []) ([]) 80)
    ≡ gives (Some value.Null) (at 1 35) ([])
run_13 = refl

-- PyObject *f(PyObject *x) { return PyErr_Format(x, "no"); }
abbrev pub file_14 : List plain.Item
file_14 =
    plain.function_def (plain.head ([]) (plain.spec (at 1 1) (plain.alias (name 48)) 0) (0 ∷ []) (name 374)
    (at 1 11) (plain.params (plain.param_and (plain.param_decl ([]) (plain.spec (at 1 13) (plain.alias (name 48)) 0)
    (plain.named (plain.declr (0 ∷ []) (name 375) (at 1 23) (plain.sizes plain.no_sizes)))) plain.no_params) false
    None)) (plain.block (at 1 26) (plain.stmt_and (plain.return (at 1 28) (Some
    (plain.call (at 1 35) (plain.word (at 1 35) (name 177)) (plain.expr_and (plain.word (at 1 48) (name 375))
    (plain.expr_and (plain.text (at 1 51) ((name 376) ∷ [])) plain.no_exprs))))) plain.no_stmts) (at 1 58)) ∷ []

-- an exception is not NULL
run_14 : told (last_run file_14 24 (value.Null ∷ []) ([]) 80) ≡ stops (at 1 35)
run_14 = refl
