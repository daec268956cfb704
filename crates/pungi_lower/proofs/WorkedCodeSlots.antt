-- How the runs of the code of small functions end: as those of the functions do.
use Rattle.std.proofs.Common.{◌≡◌, refl, List, [], ◌∷◌, Some, None, false, pos, negsuc, ℤ}
use Rattle.pungi_base.specs.declared.choice.Choice.TheVariants as choice
use Rattle.pungi_base.specs.declared.key.Key.TheVariants as keys
use Rattle.pungi_base.specs.declared.punct.Punct.TheVariants as puncts
use Rattle.pungi_base.specs.declared.value.Value.TheVariants as value
use Rattle.pungi_tree.specs.Syntax as plain
use Rattle.pungi_world.specs.declared.content.Content.TheVariants.{Holds}
use Rattle.pungi_world.specs.declared.slot.Slot.TheVariants.{Global, Field}
use Rattle.pungi_world.specs.declared.slot.SlotState.{SlotState}
use Rattle.pungi_lower.proofs.Worked.{at, name, gives, stops, wants, goes_on, told}
use Rattle.pungi_lower.proofs.WorkedSlots.{slots_of, change_of, held_then, file_0, file_2, file_3, file_6, file_7}
use Rattle.pungi_lower.proofs.WorkedSlots.{file_9, file_10, file_11, file_12, file_13, file_15, file_17}
use Rattle.pungi_lower.proofs.WorkedCalls.{file_18, file_19, file_20, file_21, file_22, file_24, file_25, file_26}
use Rattle.pungi_lower.proofs.WorkedCalls.{file_27, file_28, file_29, file_30, file_31, file_32, file_33}
use Rattle.pungi_lower.proofs.WorkedPlaces.{file_34, file_35, file_36, file_37, file_39, file_40, file_41, file_42}
use Rattle.pungi_lower.proofs.WorkedPlaces.{file_43, file_45, file_46, file_47}
use Rattle.pungi_lower.proofs.WorkedCode.{last_run}

-- ---- A loop, objects and slots

-- int f(int n) { int s = 0; while (n) { s = s + n; n = n - 1; } return s; }
run_0 : told (last_run file_0 24 ((value.Int (pos 3)) ∷ []) ([]) 200) ≡ gives (Some (value.Int (pos 6))) (at 1 63) ([])
run_0 = refl

-- int f(int n) { int s = 0; while (n) { s = s + n; n = n - 1; } return s; }
run_1 : told (last_run file_0 24 ((value.Int (negsuc 0)) ∷ []) ([]) 1000) ≡ goes_on
run_1 = refl

-- typedef struct { PyObject_HEAD PyObject *first; } Box;
-- void f(Box *self, PyObject *x) { PyObject *tmp = self->first; Py_INCREF(x); self->first = x; Py_XDECREF(tmp); }
run_2 : told (last_run file_2 26 ((value.Object 24) ∷ (value.Object 25) ∷ []) (choice.Null ∷ []) 100)
    ≡ gives None (at 2 111) (at 2 54 ∷ [])
run_2 = refl

-- PyObject *f(PyObject *self, PyObject *args) { return PyLong_FromLong(1); }
run_3 : told (last_run file_3 24 (value.Null ∷ value.Null ∷ []) (choice.Null ∷ []) 100)
    ≡ gives (Some value.Null) (at 1 47) (at 1 54 ∷ [])
run_3 = refl

-- PyObject *f(PyObject *self, PyObject *args) { return PyLong_FromLong(1); }
run_4 : told (last_run file_3 24 (value.Null ∷ value.Null ∷ []) ([]) 100) ≡ wants
run_4 = refl

-- PyObject *f(PyObject *self, PyObject *args) { return PyLong_FromLong(1); }
run_5 : told (last_run file_3 24 (value.Null ∷ value.Null ∷ []) (choice.Null ∷ []) 0) ≡ goes_on
run_5 = refl

-- ---- Fields

-- typedef struct { PyObject_HEAD PyObject *first; long hits; int few; } Box;
-- long f(Box *b) { return b->hits; }
run_6 : told (last_run file_6 24 (value.Null ∷ []) ((choice.Int (pos 1)) ∷ []) 50) ≡ stops (at 2 26)
run_6 = refl

-- typedef struct { PyObject_HEAD PyObject *first; long hits; int few; } Box;
-- int f(Box *b) { return b->few; }
run_7 : told (last_run file_7 25 ((value.Object 24) ∷ []) ((choice.Int (pos 5)) ∷ []) 50)
    ≡ gives (Some (value.Int (pos 5))) (at 2 17) (at 2 25 ∷ [])
run_7 = refl

-- typedef struct { PyObject_HEAD PyObject *first; long hits; int few; } Box;
-- int f(Box *b) { return b->few; }
run_8 : told (last_run file_7 25 ((value.Object 24) ∷ []) ((choice.Int (pos 3000000000)) ∷ []) 50) ≡ wants
run_8 = refl

-- typedef struct { PyObject_HEAD PyObject *first; long hits; int few; } Box;
-- long f(Box *b) { b->hits += 1; return b->hits; }
run_9 : told (last_run file_9 25 ((value.Object 24) ∷ []) ((choice.Int (pos 41)) ∷ []) 50)
    ≡ gives (Some (value.Int (pos 42))) (at 2 32) (at 2 19 ∷ [])
run_9 = refl

-- typedef struct { PyObject_HEAD PyObject *first; long hits; int few; } Box;
-- long f(Box *b) { long old = b->hits++; return old * 100 + b->hits; }
run_10 : told (last_run file_10 25 ((value.Object 24) ∷ []) ((choice.Int (pos 5)) ∷ []) 50)
    ≡ gives (Some (value.Int (pos 506))) (at 2 40) (at 2 30 ∷ [])
run_10 = refl

-- typedef struct { PyObject_HEAD PyObject *first; long hits; int few; } Box;
-- long f(Box *b) { long new = ++b->hits; return new * 100 + b->hits; }
run_11 : told (last_run file_11 25 ((value.Object 24) ∷ []) ((choice.Int (pos 5)) ∷ []) 50)
    ≡ gives (Some (value.Int (pos 606))) (at 2 40) (at 2 32 ∷ [])
run_11 = refl

-- typedef struct { PyObject_HEAD PyObject *first; long hits; int few; } Box;
-- int f(Box *b) { b->few += 1; return 0; }
run_12 : told (last_run file_12 25 ((value.Object 24) ∷ []) ((choice.Int (pos 2147483647)) ∷ []) 50) ≡ stops (at 2 24)
run_12 = refl

-- typedef struct { PyObject_HEAD PyObject *first; long hits; int few; } Box;
-- int f(Box *a, Box *b) { a->few = 1; b->few = 2; return a->few; }
run_13 : told (last_run file_13 25 ((value.Object 24) ∷ (value.Object 24) ∷ [])
    ((choice.Int (pos 0)) ∷ (choice.Int (pos 9)) ∷ []) 80)
    ≡ gives (Some (value.Int (pos 2))) (at 2 49) (at 2 26 ∷ [])
run_13 = refl

-- typedef struct { PyObject_HEAD PyObject *first; long hits; int few; } Box;
-- int f(Box *a, Box *b) { a->few = 1; b->few = 2; return a->few; }
run_14 : told (last_run file_13 26 ((value.Object 24) ∷ (value.Object 25) ∷ [])
    ((choice.Int (pos 0)) ∷ (choice.Int (pos 9)) ∷ []) 80)
    ≡ gives (Some (value.Int (pos 1))) (at 2 49) (at 2 26 ∷ at 2 38 ∷ [])
run_14 = refl

-- typedef struct { PyObject_HEAD PyObject *first; long hits; int few; } Box;
-- PyObject *f(Box *b) { return b->first; }
run_15 : told (last_run file_15 25 ((value.Object 24) ∷ []) ((choice.Object 25) ∷ []) 80)
    ≡ gives (Some (value.Object 25)) (at 2 23) (at 2 31 ∷ [])
run_15 = refl

-- typedef struct { PyObject_HEAD PyObject *first; long hits; int few; } Box;
-- PyObject *f(Box *b) { return b->first; }
run_16 : told (last_run file_15 25 ((value.Object 24) ∷ []) ((choice.Object 26) ∷ []) 80) ≡ wants
run_16 = refl

-- long g;
-- long f(void) { return g + g; }
run_17 : told (last_run file_17 24 ([]) ((choice.Int (pos 21)) ∷ []) 80)
    ≡ gives (Some (value.Int (pos 42))) (at 2 16) (at 2 23 ∷ [])
run_17 = refl

-- ---- Calls of the API

-- void f(PyObject *x) { Py_INCREF(x); }
run_18 : told (last_run file_18 24 (value.Null ∷ []) ([]) 50) ≡ stops (at 1 23)
run_18 = refl

-- void f(PyObject *x) { Py_XINCREF(x); }
run_19 : told (last_run file_19 24 (value.Null ∷ []) ([]) 50) ≡ gives None (at 1 38) ([])
run_19 = refl

-- PyObject *f(int n) { return PyList_New(n); }
run_20 : told (last_run file_20 24 ((value.Int (pos 3)) ∷ []) ((choice.Object 24) ∷ []) 50)
    ≡ gives (Some (value.Object 24)) (at 1 22) (at 1 29 ∷ [])
run_20 = refl

-- PyObject *f(PyObject *x) { PyObject *a = PyList_New(0); PyObject *b = PyList_New(1); return b; }
run_21 : told (last_run file_21 24 (value.Null ∷ []) ((choice.Object 24) ∷ choice.Null ∷ []) 80)
    ≡ gives (Some value.Null) (at 1 86) (at 1 42 ∷ at 1 71 ∷ [])
run_21 = refl

-- int f(PyObject *l, PyObject *x) { if (PyList_Append(l, x) < 0) return -1; return 0; }
run_22 : told (last_run file_22 24 ((value.Object 1) ∷ (value.Object 2) ∷ []) ((choice.Int (negsuc 0)) ∷ []) 80)
    ≡ gives (Some (value.Int (negsuc 0))) (at 1 64) (at 1 39 ∷ [])
run_22 = refl

-- int f(PyObject *l, PyObject *x) { if (PyList_Append(l, x) < 0) return -1; return 0; }
run_23 : told (last_run file_22 24 ((value.Object 1) ∷ (value.Object 2) ∷ []) ((choice.Int (pos 1)) ∷ []) 80) ≡ wants
run_23 = refl

-- PyObject *f(void) { PyErr_SetString(PyExc_ValueError, "e"); return NULL; }
run_24 : told (last_run file_24 24 ([]) ([]) 80) ≡ gives (Some value.Null) (at 1 61) ([])
run_24 = refl

-- void f(PyObject *x) { (void)Py_INCREF(x); (Py_INCREF(x)); }
run_25 : told (last_run file_25 24 ((value.Object 1) ∷ []) ([]) 80) ≡ gives None (at 1 59) ([])
run_25 = refl

-- PyObject *f(void) { return Py_None; }
run_26 : told (last_run file_26 24 ([]) ([]) 80) ≡ gives (Some (value.Object 0)) (at 1 21) ([])
run_26 = refl

-- PyObject *f(void) { return (PyObject *)&PyList_Type; }
run_27 : told (last_run file_27 24 ([]) ([]) 80) ≡ gives (Some (value.Object 18)) (at 1 21) ([])
run_27 = refl

-- int f(PyObject *x) { int n = PyLong_AsLong(x); return n; }
run_28 : told (last_run file_28 24 ((value.Object 1) ∷ []) ((choice.Int (pos 5000000000)) ∷ []) 80) ≡ stops (at 1 26)
run_28 = refl

-- PyObject *f(PyObject *x) { return Py_NewRef(x); }
run_29 : told (last_run file_29 24 ((value.Object 5) ∷ []) ([]) 80) ≡ gives (Some (value.Object 5)) (at 1 28) ([])
run_29 = refl

-- PyObject *f(PyObject *x) { return PyNumber_Add(PyObject_Str(x), PyObject_Repr(x)); }
run_30 : told (last_run file_30 24 ((value.Object 5) ∷ []) ((choice.Object 24) ∷ (choice.Object 25)
    ∷ (choice.Object 26) ∷ []) 80) ≡ gives (Some (value.Object 26)) (at 1 28) (at 1 48 ∷ at 1 65 ∷ at 1 35 ∷ [])
run_30 = refl

-- PyObject *f(PyObject *x) { return PyNumber_Add(PyObject_Str(x), x); }
run_31 : told (last_run file_31 24 ((value.Object 5) ∷ []) (choice.Null ∷ []) 80) ≡ stops (at 1 35)
run_31 = refl

-- int f(PyObject *x, long a) { return PyObject_RichCompareBool(x, x, a); }
run_32 : told (last_run file_32 24 ((value.Object 1) ∷ (value.Int (pos 3000000000)) ∷ [])
    ((choice.Int (pos 1)) ∷ []) 80) ≡ stops (at 1 68)
run_32 = refl

-- int f(PyObject *x, long a) { return PyObject_RichCompareBool(x, x, a + 1); }
run_33 : told (last_run file_33 24 ((value.Object 1) ∷ (value.Int (pos 3000000000)) ∷ [])
    ((choice.Int (pos 1)) ∷ []) 80) ≡ stops (at 1 70)
run_33 = refl

-- ---- Where a place that is written stands

-- int f(void) { int a; a += 1; return a; }
run_34 : told (last_run file_34 24 ([]) ([]) 50) ≡ stops (at 1 22)
run_34 = refl

-- int f(void) { int a; a++; return a; }
run_35 : told (last_run file_35 24 ([]) ([]) 50) ≡ stops (at 1 22)
run_35 = refl

-- int f(void) { int a; --a; return a; }
run_36 : told (last_run file_36 24 ([]) ([]) 50) ≡ stops (at 1 24)
run_36 = refl

-- long g;
-- long f(void) { g = 5; return g; }
run_37 : told (last_run file_37 24 ([]) ((choice.Int (pos 3)) ∷ []) 80)
    ≡ gives (Some (value.Int (pos 5))) (at 2 23) (at 2 16 ∷ [])
run_37 = refl

-- long g;
-- long f(void) { g = 5; return g; }
run_38 : told (last_run file_37 24 ([]) (choice.Null ∷ []) 80) ≡ wants
run_38 = refl

-- int h;
-- int f(void) { return h++ * 10 + h; }
run_39 : told (last_run file_39 24 ([]) ((choice.Int (pos 3)) ∷ []) 80)
    ≡ gives (Some (value.Int (pos 34))) (at 2 15) (at 2 22 ∷ [])
run_39 = refl

-- PyObject *o;
-- void f(PyObject *x) { o = x; }
run_40 : told (last_run file_40 24 ((value.Object 3) ∷ []) ((choice.Object 24) ∷ []) 80)
    ≡ gives None (at 2 30) (at 2 23 ∷ [])
run_40 = refl

-- typedef struct { PyObject_HEAD PyObject *first; long hits; int few; } Box;
-- long f(Box *b, long n) { b->hits = n; return 0; }
run_41 : told (last_run file_41 24 (value.Null ∷ (value.Int (pos 4)) ∷ []) ((choice.Int (pos 1)) ∷ []) 50)
    ≡ stops (at 2 27)
run_41 = refl

-- typedef struct { PyObject_HEAD PyObject *first; long hits; int few; } Box;
-- int f(Box *b, long n) { b->few = n; return 0; }
run_42 : told (last_run file_42 25 ((value.Object 24) ∷ (value.Int (pos 3000000000)) ∷ [])
    ((choice.Int (pos 1)) ∷ []) 50) ≡ stops (at 2 32)
run_42 = refl

-- int f(int a, long b) { a += b; return a; }
run_43 : told (last_run file_43 24 ((value.Int (pos 5)) ∷ (value.Int (pos 9223372036854775807)) ∷ []) ([]) 50)
    ≡ stops (at 1 26)
run_43 = refl

-- int f(int a, long b) { a += b; return a; }
run_44 : told (last_run file_43 24 ((value.Int (pos 5)) ∷ (value.Int (negsuc 6)) ∷ []) ([]) 50)
    ≡ gives (Some (value.Int (negsuc 1))) (at 1 32) ([])
run_44 = refl

-- Py_ssize_t f(Py_ssize_t a) { a++; a += 1; return -a; }
run_45 : told (last_run file_45 24 ((value.Int (pos 5)) ∷ []) ([]) 50)
    ≡ gives (Some (value.Int (negsuc 6))) (at 1 43) ([])
run_45 = refl

-- ---- The world at the end: the slots that were touched, and the change of object 25

-- typedef struct { PyObject_HEAD PyObject *first; } Box;
-- void f(Box *self, PyObject *x) { PyObject *tmp = self->first; Py_INCREF(x); self->first = x; Py_XDECREF(tmp); }
run_46 : ◌≡◌ {A = List SlotState × ℤ} (
  slots_of (last_run file_46 26 ((value.Object 24) ∷ (value.Object 25) ∷ [])
      (choice.Null ∷ []) 100),
  change_of 25 (last_run (plain.typedef (plain.spec (at 1 9)
      (plain.tagged_fields keys.Struct None (plain.field_and (plain.members ([])
      (plain.spec (at 1 18) (plain.alias (name 48)) 0) (plain.declr_and (plain.declr ([]) (name 182) (at 1 18)
      (plain.sizes plain.no_sizes)) plain.no_declrs)) (plain.field_and (plain.members ([])
      (plain.spec (at 1 32) (plain.alias (name 48)) 0) (plain.declr_and (plain.declr (0 ∷ []) (name 374) (at 1 42)
      (plain.sizes plain.no_sizes)) plain.no_declrs)) plain.no_fields))) 0) ([]) (name 375) (at 1 51)
      ∷ plain.function_def (plain.head ([]) (plain.spec (at 2 1) (plain.words (keys.Void ∷ [])) 0) ([]) (name 376)
      (at 2 6) (plain.params (plain.param_and (plain.param_decl ([]) (plain.spec (at 2 8) (plain.alias (name 375)) 0)
      (plain.named (plain.declr (0 ∷ []) (name 377) (at 2 13) (plain.sizes plain.no_sizes))))
      (plain.param_and (plain.param_decl ([]) (plain.spec (at 2 19) (plain.alias (name 48)) 0)
      (plain.named (plain.declr (0 ∷ []) (name 378) (at 2 29) (plain.sizes plain.no_sizes)))) plain.no_params)) false
      None)) (plain.block (at 2 32) (plain.stmt_and (plain.declare (at 2 34)
      (plain.decl ([]) (plain.spec (at 2 34) (plain.alias (name 48)) 0) ((plain.var_decl
      (plain.declr (0 ∷ []) (name 379) (at 2 44) (plain.sizes plain.no_sizes))
      (Some (plain.value (plain.arrow (at 2 54) (plain.word (at 2 50) (name 377)) (name 374))))) ∷ [])))
      (plain.stmt_and (plain.do_expr (at 2 63) (Some (plain.call (at 2 63) (plain.word (at 2 63) (name 167))
      (plain.expr_and (plain.word (at 2 73) (name 378)) plain.no_exprs)))) (plain.stmt_and
      (plain.do_expr (at 2 77) (Some (plain.assign (at 2 89) puncts.Assign (plain.arrow (at 2 81)
      (plain.word (at 2 77) (name 377)) (name 374)) (plain.word (at 2 91) (name 378)))))
      (plain.stmt_and (plain.do_expr (at 2 94) (Some (plain.call (at 2 94) (plain.word (at 2 94) (name 170))
      (plain.expr_and (plain.word (at 2 105) (name 379)) plain.no_exprs)))) plain.no_stmts)))) (at 2 111)) ∷ []) 26
      ((value.Object 24) ∷ (value.Object 25) ∷ []) (choice.Null ∷ []) 100),
) (
  held_then
      (Field 24 (name 375) (name 374)) (Holds value.Null) (Holds (value.Object 25)) ∷ [],
  pos 1,
)
run_46 = refl

-- long g;
-- void f(PyObject *x) { g = 5; Py_DECREF(x); }
run_47 : ◌≡◌ {A = List SlotState × ℤ} (
  slots_of (last_run file_47 26 ((value.Object 25) ∷ [])
      ((choice.Int (pos 3)) ∷ []) 100),
  change_of 25 (last_run (plain.variables
      (plain.decl ([]) (plain.spec (at 1 1) (plain.words (keys.Long ∷ [])) 0)
      ((plain.var_decl (plain.declr ([]) (name 374) (at 1 6) (plain.sizes plain.no_sizes)) None) ∷ []))
      ∷ plain.function_def (plain.head ([]) (plain.spec (at 2 1) (plain.words (keys.Void ∷ [])) 0) ([]) (name 375)
      (at 2 6) (plain.params (plain.param_and (plain.param_decl ([]) (plain.spec (at 2 8) (plain.alias (name 48)) 0)
      (plain.named (plain.declr (0 ∷ []) (name 376) (at 2 18) (plain.sizes plain.no_sizes)))) plain.no_params) false
      None)) (plain.block (at 2 21) (plain.stmt_and (plain.do_expr (at 2 23)
      (Some (plain.assign (at 2 25) puncts.Assign (plain.word (at 2 23) (name 374))
      (plain.int (at 2 27) (pos 5) false false)))) (plain.stmt_and (plain.do_expr (at 2 30)
      (Some (plain.call (at 2 30) (plain.word (at 2 30) (name 168)) (plain.expr_and (plain.word (at 2 40) (name 376))
      plain.no_exprs)))) plain.no_stmts)) (at 2 44)) ∷ []) 26 ((value.Object 25) ∷ []) ((choice.Int (pos 3)) ∷ [])
      100),
) (held_then (Global (name 374)) (Holds (value.Int (pos 3))) (Holds (value.Int (pos 5))) ∷ [], negsuc 0)
run_47 = refl
