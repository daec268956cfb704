-- How the runs of the code of small functions end that make an object: as those of the functions do.
use Rattle.std.proofs.Common.{◌≡◌, refl, List, [], ◌∷◌, Bool, Some, None, true, pos, ℤ}
use Rattle.pungi_base.specs.declared.choice.Choice.TheVariants as choice
use Rattle.pungi_base.specs.declared.value.Value.TheVariants as value
use Rattle.pungi_api.specs.Signatures.{made_signature}
use Rattle.pungi_meaning.specs.Todo.{Called}
use Rattle.pungi_world.specs.Effects.{effect}
use Rattle.pungi_world.specs.declared.content.Content.TheVariants.{Unset, Holds}
use Rattle.pungi_world.specs.declared.slot.SlotState.{SlotState}
use Rattle.pungi_lower.proofs.Worked.{at, gives, stops, wants, told}
use Rattle.pungi_lower.proofs.WorkedSlots.{slots_of, change_of, held_then}
use Rattle.pungi_lower.proofs.WorkedMade.{made_of, file_0, file_5, file_7, file_9, first_of_26}
use Rattle.pungi_lower.proofs.WorkedCode.{last_run, last_operations}

-- ---- A field that was never written is not read

-- long f(PyTypeObject *t) { Box *b = PyObject_New(Box, t); if (!b) return 0; return b->hits; }

run_0 : told (last_run file_0 25 ((value.Object 24) ∷ []) (choice.Null ∷ []) 120)
    ≡ gives (Some (value.Int (pos 0))) (at 2 66) (at 2 36 ∷ [])
run_0 = refl

run_1 : told (last_run file_0 25 ((value.Object 24) ∷ []) (choice.Object 25 ∷ []) 120) ≡ stops (at 2 84)
run_1 = refl

-- the object is none of those that are there, but the next one
run_2 : told (last_run file_0 25 ((value.Object 24) ∷ []) (choice.Object 24 ∷ []) 120) ≡ wants
run_2 = refl

run_3 : told (last_run file_0 25 ((value.Object 24) ∷ []) (choice.Object 26 ∷ []) 120) ≡ wants
run_3 = refl

-- the type is not NULL
run_4 : told (last_run file_0 24 (value.Null ∷ []) (choice.Object 24 ∷ []) 120) ≡ stops (at 2 36)
run_4 = refl

-- ---- An object that is lost

-- void f(PyTypeObject *t) { PyObject_New(Box, t); }

run_5 : told (last_run file_5 25 ((value.Object 24) ∷ []) (choice.Object 25 ∷ []) 120)
    ≡ gives None (at 2 49) (at 2 27 ∷ [])
run_5 = refl

change_5 : ◌≡◌ {A = ℤ × Bool} (
  change_of 25 (last_run file_5 25 ((value.Object 24) ∷ []) (choice.Object 25 ∷ []) 120),
  made_of 25 (last_run file_5 25 ((value.Object 24) ∷ []) (choice.Object 25 ∷ []) 120),
) (pos 1, true)
change_5 = refl

run_6 : told (last_run file_5 25 ((value.Object 24) ∷ []) (choice.Null ∷ []) 120) ≡ gives None (at 2 49) (at 2 27 ∷ [])
run_6 = refl

-- ---- An object that is returned, with a field that is written

-- PyObject *f(PyTypeObject *t, PyObject *x) { Box *b = PyObject_New(Box, t); if (!b) return NULL;
--     Py_INCREF(x); b->first = x; return (PyObject *)b; }

run_7 : told (last_run file_7 26 ((value.Object 24) ∷ (value.Object 25) ∷ []) (choice.Object 26 ∷ []) 120)
    ≡ gives (Some (value.Object 26)) (at 3 33) (at 2 54 ∷ [])
run_7 = refl

-- the field held nothing before
world_7 : ◌≡◌ {A = List SlotState × ℤ × ℤ} (
  slots_of (last_run file_7 26 ((value.Object 24) ∷ (value.Object 25) ∷ []) (choice.Object 26 ∷ []) 120),
  change_of 26 (last_run file_7 26 ((value.Object 24) ∷ (value.Object 25) ∷ []) (choice.Object 26 ∷ []) 120),
  change_of 25 (last_run file_7 26 ((value.Object 24) ∷ (value.Object 25) ∷ []) (choice.Object 26 ∷ []) 120),
) (held_then first_of_26 Unset (Holds (value.Object 25)) ∷ [], pos 1, pos 1)
world_7 = refl

run_8 : told (last_run file_7 26 ((value.Object 24) ∷ (value.Object 25) ∷ []) (choice.Null ∷ []) 120)
    ≡ gives (Some value.Null) (at 2 84) (at 2 54 ∷ [])
run_8 = refl

-- ---- The type is one of the file's own, which stands after those that are built in

-- PyTypeObject BoxType;
-- Box *f(void) { return PyObject_New(Box, &BoxType); }

run_9 : told (last_run file_9 25 ([]) (choice.Object 25 ∷ []) 120)
    ≡ gives (Some (value.Object 25)) (at 3 16) (at 3 23 ∷ [])
run_9 = refl

operations_9 : last_operations file_9 25 ([]) (choice.Object 25 ∷ []) 120
    ≡ Called (at 3 23) made_signature ((value.Object 24) ∷ []) (effect (Some (value.Object 25)) 1) ∷ []
operations_9 = refl
