-- How the runs of the code of small functions end whose calls take arguments by their number, or empty a place: as
-- those of the functions do.
use Rattle.std.proofs.Common.{◌≡◌, refl, List, [], ◌∷◌, Some, None, pos, negsuc, ℤ}
use Rattle.pungi_base.specs.declared.choice.Choice.TheVariants as choice
use Rattle.pungi_base.specs.declared.value.Value.TheVariants as value
use Rattle.pungi_api.specs.Signatures.{special_signature}
use Rattle.pungi_api.specs.declared.special.Special.TheVariants as specials
use Rattle.pungi_world.specs.declared.content.Content.TheVariants.{Holds}
use Rattle.pungi_world.specs.declared.slot.SlotState.{SlotState}
use Rattle.pungi_world.specs.Effects.{effect}
use Rattle.pungi_meaning.specs.Todo.{Loaded, Stored, Called}
use Rattle.pungi_lower.proofs.Worked.{at, gives, stops, told}
use Rattle.pungi_lower.proofs.WorkedSlots.{slots_of, change_of, held_then}
use Rattle.pungi_lower.proofs.WorkedRows.{file_0, file_2, file_5, file_8, file_9, file_12, file_14, first_of_24}
use Rattle.pungi_lower.proofs.WorkedCode.{last_run, last_operations}

-- ---- `Py_CLEAR` of a local

-- PyObject *f(PyObject *x) { Py_CLEAR(x); return x; }
run_0 : told (last_run file_0 25 ((value.Object 24) ∷ []) ([]) 80) ≡ gives (Some value.Null) (at 1 41) ([])
run_0 = refl

change_0 : change_of 24 (last_run file_0 25 ((value.Object 24) ∷ []) ([]) 80) ≡ negsuc 0
change_0 = refl

-- NULL stays NULL
run_1 : told (last_run file_0 25 (value.Null ∷ []) ([]) 80) ≡ gives (Some value.Null) (at 1 41) ([])
run_1 = refl

-- ---- `Py_CLEAR` of a field: the object is released when the field holds NULL

-- typedef struct { PyObject_HEAD PyObject *first; } Box;
-- void f(Box *self) { Py_CLEAR(self->first); }
run_2 : told (last_run file_2 26 ((value.Object 24) ∷ []) ((choice.Object 25) ∷ []) 80)
    ≡ gives None (at 2 44) (at 2 34 ∷ [])
run_2 = refl

operations_2 : last_operations file_2 26 ((value.Object 24) ∷ []) ((choice.Object 25) ∷ []) 80
    ≡ Loaded (at 2 34) first_of_24 (Some (value.Object 25)) ∷ Stored (at 2 34) first_of_24 value.Null
    ∷ Called (at 2 21) (special_signature specials.Clear ([])) ((value.Object 25) ∷ []) (effect None 0) ∷ []
operations_2 = refl

world_2 : ◌≡◌ {A = List SlotState × ℤ} (
  slots_of (last_run file_2 26 ((value.Object 24) ∷ []) ((choice.Object 25) ∷ []) 80),
  change_of 25 (last_run file_2 26 ((value.Object 24) ∷ []) ((choice.Object 25) ∷ []) 80),
) (held_then first_of_24 (Holds (value.Object 25)) (Holds value.Null) ∷ [], negsuc 0)
world_2 = refl

-- NULL stays NULL
run_3 : told (last_run file_2 26 ((value.Object 24) ∷ []) (choice.Null ∷ []) 80)
    ≡ gives None (at 2 44) (at 2 34 ∷ [])
run_3 = refl

-- NULL has no fields
run_4 : told (last_run file_2 26 (value.Null ∷ []) ((choice.Object 25) ∷ []) 80) ≡ stops (at 2 34)
run_4 = refl

-- ---- As many objects as are counted

-- PyObject *f(PyObject *x, PyObject *y) { return PyTuple_Pack(2, x, y); }
run_5 : told (last_run file_5 26 ((value.Object 24) ∷ (value.Object 25) ∷ []) ((choice.Object 26) ∷ []) 80)
    ≡ gives (Some (value.Object 26)) (at 1 41) (at 1 48 ∷ [])
run_5 = refl

-- the tuple is a new reference, and takes over none
changes_5 : ◌≡◌ {A = ℤ × ℤ} (
  change_of 26 (last_run file_5 26 ((value.Object 24) ∷ (value.Object 25) ∷ []) ((choice.Object 26) ∷ []) 80),
  change_of 24 (last_run file_5 26 ((value.Object 24) ∷ (value.Object 25) ∷ []) ((choice.Object 26) ∷ []) 80),
) (pos 1, pos 0)
changes_5 = refl

run_6 : told (last_run file_5 26 ((value.Object 24) ∷ (value.Object 25) ∷ []) (choice.Null ∷ []) 80)
    ≡ gives (Some value.Null) (at 1 41) (at 1 48 ∷ [])
run_6 = refl

-- no item is NULL
run_7 : told (last_run file_5 26 ((value.Object 24) ∷ value.Null ∷ []) ((choice.Object 26) ∷ []) 80) ≡ stops (at 1 48)
run_7 = refl

-- PyObject *f(void) { return PyTuple_Pack(0); }
run_8 : told (last_run file_8 24 ([]) ((choice.Object 24) ∷ []) 80)
    ≡ gives (Some (value.Object 24)) (at 1 21) (at 1 28 ∷ [])
run_8 = refl

-- ---- Objects, and then NULL

-- PyObject *f(PyObject *x, PyObject *y) { return PyObject_CallFunctionObjArgs(x, y, NULL); }
run_9 : told (last_run file_9 26 ((value.Object 24) ∷ (value.Object 25) ∷ []) ((choice.Object 26) ∷ []) 80)
    ≡ gives (Some (value.Object 26)) (at 1 41) (at 1 48 ∷ [])
run_9 = refl

-- the first NULL ends the arguments
run_10 : told (last_run file_9 26 ((value.Object 24) ∷ value.Null ∷ []) ((choice.Object 26) ∷ []) 80)
    ≡ gives (Some (value.Object 26)) (at 1 41) (at 1 48 ∷ [])
run_10 = refl

-- what is called is not NULL
run_11 : told (last_run file_9 26 (value.Null ∷ (value.Object 25) ∷ []) ((choice.Object 26) ∷ []) 80)
    ≡ stops (at 1 48)
run_11 = refl

-- ---- An exception, a text, and then anything

-- PyObject *f(int n, PyObject *x) { return PyErr_Format(PyExc_ValueError, "%d %S", n, x); }
-- it returns NULL always
run_12 : told (last_run file_12 25 ((value.Int (pos 3)) ∷ (value.Object 24) ∷ []) ([]) 80)
    ≡ gives (Some value.Null) (at 1 35) ([])
run_12 = refl

run_13 : told (last_run file_12 25 ((value.Int (pos 3)) ∷ value.Null ∷ []) ([]) 80)
    ≡ gives (Some value.Null) (at 1 35) ([])
run_13 = refl

-- PyObject *f(PyObject *x) { return PyErr_Format(x, "no"); }
-- an exception is not NULL
run_14 : told (last_run file_14 24 (value.Null ∷ []) ([]) 80) ≡ stops (at 1 35)
run_14 = refl
