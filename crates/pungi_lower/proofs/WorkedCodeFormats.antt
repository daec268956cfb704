-- How the runs of the code of small functions end that call with formats and outputs: as those of the functions do.
use Rattle.std.proofs.Common.{◌≡◌, refl, List, [], ◌∷◌, Some, pos, ℤ}
use Rattle.pungi_base.specs.declared.choice.Choice.TheVariants as choice
use Rattle.pungi_base.specs.declared.value.Value.TheVariants as value
use Rattle.pungi_lower.proofs.Worked.{at, gives, stops, wants, told}
use Rattle.pungi_lower.proofs.WorkedSlots.{change_of}
use Rattle.pungi_lower.proofs.WorkedFormats.{texts_0, file_0, texts_6, file_6, texts_9, file_9, texts_11, file_11}
use Rattle.pungi_lower.proofs.WorkedFormats.{texts_14, file_14, handed_of}
use Rattle.pungi_lower.proofs.WorkedCode.{last_run_with}

-- ---- `PyArg_ParseTuple`: an object, and a number that may be missing

-- int f(PyObject *a, int n) { PyObject *o; if (PyArg_ParseTuple(a, "O|i:f", &o, &n)) return n; return 0; }

run_0 : told (last_run_with texts_0 file_0 25 (value.Object 24 ∷ value.Int (pos 7) ∷ []) (choice.Given 2 ∷
    choice.Object 25 ∷ choice.Int (pos 5) ∷ []) 120) ≡ gives (Some (value.Int (pos 5))) (at 1 84) (at 1 46 ∷ at 1 46 ∷
    at 1 46 ∷ [])
run_0 = refl

-- a variable whose argument is missing keeps its value
run_1 : told (last_run_with texts_0 file_0 25 (value.Object 24 ∷ value.Int (pos 7) ∷ []) (choice.Given 1 ∷
    choice.Object 25 ∷ []) 120) ≡ gives (Some (value.Int (pos 7))) (at 1 84) (at 1 46 ∷ at 1 46 ∷ [])
run_1 = refl

-- the number has the wrong type; the object was written before
run_2 : told (last_run_with texts_0 file_0 25 (value.Object 24 ∷ value.Int (pos 7) ∷ []) (choice.Failed 1 ∷
    choice.Object 25 ∷ []) 120) ≡ gives (Some (value.Int (pos 0))) (at 1 94) (at 1 46 ∷ at 1 46 ∷ [])
run_2 = refl

run_3 : told (last_run_with texts_0 file_0 25 (value.Object 24 ∷ value.Int (pos 7) ∷ []) (choice.Failed 0 ∷ []) 120) ≡
    gives (Some (value.Int (pos 0))) (at 1 94) (at 1 46 ∷ [])
run_3 = refl

-- the object is required
run_4 : told (last_run_with texts_0 file_0 25 (value.Object 24 ∷ value.Int (pos 7) ∷ []) (choice.Given 0 ∷ []) 120) ≡
    wants
run_4 = refl

-- the tuple is not NULL
run_5 : told (last_run_with texts_0 file_0 24 (value.Null ∷ value.Int (pos 7) ∷ []) (choice.Given 1 ∷ []) 120) ≡ stops
    (at 1 46)
run_5 = refl

-- ---- `PyArg_UnpackTuple`

-- PyObject *f(PyObject *a) { PyObject *o = a; PyArg_UnpackTuple(a, "f", 0, 1, &o); return o; }

run_6 : told (last_run_with texts_6 file_6 25 (value.Object 24 ∷ []) (choice.Given 1 ∷ choice.Object 25 ∷ []) 120) ≡
    gives (Some (value.Object 25)) (at 1 82) (at 1 45 ∷ at 1 45 ∷ [])
run_6 = refl

run_7 : told (last_run_with texts_6 file_6 25 (value.Object 24 ∷ []) (choice.Given 0 ∷ []) 120) ≡ gives (Some
    (value.Object 24)) (at 1 82) (at 1 45 ∷ [])
run_7 = refl

run_8 : told (last_run_with texts_6 file_6 25 (value.Object 24 ∷ []) (choice.Failed 0 ∷ []) 120) ≡ gives (Some
    (value.Object 24)) (at 1 82) (at 1 45 ∷ [])
run_8 = refl

-- ---- `PyDict_Next`

-- PyObject *f(PyObject *d) { Py_ssize_t i = 0; PyObject *v = NULL; PyDict_Next(d, &i, NULL, &v); return v; }

-- the position is written, and then the value, which is borrowed
run_9 : told (last_run_with texts_9 file_9 25 (value.Object 24 ∷ []) (choice.Int (pos 1) ∷ choice.Int (pos 3) ∷
    choice.Object 25 ∷ []) 160) ≡ gives (Some (value.Object 25)) (at 1 96) (at 1 66 ∷ at 1 66 ∷ at 1 66 ∷ [])
run_9 = refl

changes_9 : ◌≡◌ {A = List ℤ} (change_of 24 (last_run_with texts_9 file_9 25 (value.Object 24 ∷ []) (choice.Int (pos 1)
    ∷ choice.Int (pos 3) ∷ choice.Object 25 ∷ []) 160) ∷ change_of 25 (last_run_with texts_9 file_9 25 (value.Object 24
    ∷ []) (choice.Int (pos 1) ∷ choice.Int (pos 3) ∷ choice.Object 25 ∷ []) 160) ∷ []) (pos 0 ∷ pos 0 ∷ [])
changes_9 = refl

-- nothing is left
run_10 : told (last_run_with texts_9 file_9 25 (value.Object 24 ∷ []) (choice.Int (pos 0) ∷ []) 160) ≡ gives (Some
    value.Null) (at 1 96) (at 1 66 ∷ [])
run_10 = refl

-- ---- `Py_BuildValue`: the tuple is a new reference, and takes over none

-- PyObject *f(PyObject *a, int n) { return Py_BuildValue("(Oi)", a, n); }

run_11 : told (last_run_with texts_11 file_11 25 (value.Object 24 ∷ value.Int (pos 7) ∷ []) (choice.Object 25 ∷ [])
    120) ≡ gives (Some (value.Object 25)) (at 1 35) (at 1 42 ∷ [])
run_11 = refl

changes_11 : ◌≡◌ {A = List ℤ} (change_of 25 (last_run_with texts_11 file_11 25 (value.Object 24 ∷ value.Int (pos 7) ∷
    []) (choice.Object 25 ∷ []) 120) ∷ change_of 24 (last_run_with texts_11 file_11 25 (value.Object 24 ∷ value.Int
    (pos 7) ∷ []) (choice.Object 25 ∷ []) 120) ∷ []) (pos 1 ∷ pos 0 ∷ [])
changes_11 = refl

run_12 : told (last_run_with texts_11 file_11 25 (value.Object 24 ∷ value.Int (pos 7) ∷ []) (choice.Null ∷ []) 120) ≡
    gives (Some value.Null) (at 1 35) (at 1 42 ∷ [])
run_12 = refl

-- NULL among the objects is returned
run_13 : told (last_run_with texts_11 file_11 24 (value.Null ∷ value.Int (pos 7) ∷ []) (choice.Object 24 ∷ []) 120) ≡
    gives (Some value.Null) (at 1 35) ([])
run_13 = refl

-- ---- `N` takes over its object

-- PyObject *f(PyObject *a) { return Py_BuildValue("N", a); }

run_14 : told (last_run_with texts_14 file_14 25 (value.Object 24 ∷ []) (choice.Object 25 ∷ []) 120) ≡ gives (Some
    (value.Object 25)) (at 1 28) (at 1 35 ∷ [])
run_14 = refl

-- the reference to the object is handed over, and none of it is counted
handed_14 : ◌≡◌ {A = List ℤ} (handed_of 25 (last_run_with texts_14 file_14 25 (value.Object 24 ∷ []) (choice.Object 25
    ∷ []) 120) ∷ handed_of 24 (last_run_with texts_14 file_14 25 (value.Object 24 ∷ []) (choice.Object 25 ∷ []) 120) ∷
    []) (pos 0 ∷ pos 1 ∷ [])
handed_14 = refl

changes_14 : ◌≡◌ {A = List ℤ} (change_of 25 (last_run_with texts_14 file_14 25 (value.Object 24 ∷ []) (choice.Object 25
    ∷ []) 120) ∷ change_of 24 (last_run_with texts_14 file_14 25 (value.Object 24 ∷ []) (choice.Object 25 ∷ []) 120) ∷
    []) (pos 1 ∷ pos 0 ∷ [])
changes_14 = refl
