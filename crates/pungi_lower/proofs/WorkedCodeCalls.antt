-- How the runs of the code of small functions end that call functions of their file: as those of the functions do.
use Rattle.std.proofs.Common.{◌≡◌, refl, [], ◌∷◌, Some, pos}
use Rattle.pungi_base.specs.declared.choice.Choice.TheVariants as choice
use Rattle.pungi_base.specs.declared.value.Value.TheVariants as value
use Rattle.pungi_lower.proofs.Worked.{at, gives, stops, wants, goes_on, told}
use Rattle.pungi_lower.proofs.WorkedFileCalls.{file_0, file_1, file_2, file_3, file_4, file_6, file_8, file_9, file_11}
use Rattle.pungi_lower.proofs.WorkedFileCalls.{file_12, file_14, file_16, file_17, file_18}
use Rattle.pungi_lower.proofs.WorkedCode.{last_run}

-- ---- A value that is returned

-- int g(int a) { return a + 1; }
-- int f(int n) { return g(n) * 2; }
run_0 : told (last_run file_0 24 ((value.Int (pos 3)) ∷ []) ([]) 200) ≡ gives (Some (value.Int (pos 8))) (at 2 16) ([])
run_0 = refl

-- int h(int a) { return a * 2; }
-- int g(int a) { return h(a) + 1; }
-- int f(int n) { return g(n) + h(n); }
run_1 : told (last_run file_1 24 ((value.Int (pos 5)) ∷ []) ([]) 200) ≡ gives (Some (value.Int (pos 21))) (at 3 16) ([])
run_1 = refl

-- ---- A function that returns nothing, and a global

-- long t;
-- void g(long a) { t = a; }
-- long f(void) { g(5); return t; }
run_2 : told (last_run file_2 24 ([]) ((choice.Int (pos 0)) ∷ []) 200)
    ≡ gives (Some (value.Int (pos 5))) (at 3 22) (at 2 18 ∷ [])
run_2 = refl

-- long t;
-- long g(void) { return t; }
-- long f(void) { return g() - g(); }
run_3 : told (last_run file_3 24 ([]) ((choice.Int (pos 9)) ∷ []) 200)
    ≡ gives (Some (value.Int (pos 0))) (at 3 16) (at 2 23 ∷ [])
run_3 = refl

-- ---- Conversions of arguments and of results

-- int g(int a) { return a; }
-- int f(long n) { return g(n); }
run_4 : told (last_run file_4 24 ((value.Int (pos 7)) ∷ []) ([]) 200) ≡ gives (Some (value.Int (pos 7))) (at 2 17) ([])
run_4 = refl

-- int g(int a) { return a; }
-- int f(long n) { return g(n); }
run_5 : told (last_run file_4 24 ((value.Int (pos 3000000000)) ∷ []) ([]) 200) ≡ stops (at 2 26)
run_5 = refl

-- int g(long a) { return a; }
-- long f(long n) { return g(n) + 1; }
run_6 : told (last_run file_6 24 ((value.Int (pos 7)) ∷ []) ([]) 200) ≡ gives (Some (value.Int (pos 8))) (at 2 18) ([])
run_6 = refl

-- int g(long a) { return a; }
-- long f(long n) { return g(n) + 1; }
run_7 : told (last_run file_6 24 ((value.Int (pos 3000000000)) ∷ []) ([]) 200) ≡ stops (at 1 17)
run_7 = refl

-- ---- From left to right

-- long t;
-- int g(int a) { t = t * 10 + a; return a; }
-- int h(int a, int b) { return a - b; }
-- long f(void) { t = 0; h(g(1), g(2)); return t; }
run_8 : told (last_run file_8 24 ([]) ((choice.Int (pos 7)) ∷ []) 300)
    ≡ gives (Some (value.Int (pos 12))) (at 4 38) (at 4 16 ∷ [])
run_8 = refl

-- ---- A function that calls itself

-- int f(int n) { if (n < 2) return 1; return n * f(n - 1); }
run_9 : told (last_run file_9 24 ((value.Int (pos 1)) ∷ []) ([]) 300) ≡ gives (Some (value.Int (pos 1))) (at 1 27) ([])
run_9 = refl

-- int f(int n) { if (n < 2) return 1; return n * f(n - 1); }
run_10 : told (last_run file_9 24 ((value.Int (pos 5)) ∷ []) ([]) 300)
    ≡ gives (Some (value.Int (pos 120))) (at 1 37) ([])
run_10 = refl

-- int f(int n) { return f(n); }
run_11 : told (last_run file_11 24 ((value.Int (pos 1)) ∷ []) ([]) 300) ≡ goes_on
run_11 = refl

-- ---- A function that stops

-- int g(int a) { return 1 / a; }
-- int f(int n) { g(n); return 2; }
run_12 : told (last_run file_12 24 ((value.Int (pos 1)) ∷ []) ([]) 200)
    ≡ gives (Some (value.Int (pos 2))) (at 2 22) ([])
run_12 = refl

-- int g(int a) { return 1 / a; }
-- int f(int n) { g(n); return 2; }
run_13 : told (last_run file_12 24 ((value.Int (pos 0)) ∷ []) ([]) 200) ≡ stops (at 1 25)
run_13 = refl

-- int g(int a) { if (a) return 5; }
-- int f(int n) { return g(n); }
run_14 : told (last_run file_14 24 ((value.Int (pos 1)) ∷ []) ([]) 200)
    ≡ gives (Some (value.Int (pos 5))) (at 2 16) ([])
run_14 = refl

-- int g(int a) { if (a) return 5; }
-- int f(int n) { return g(n); }
run_15 : told (last_run file_14 24 ((value.Int (pos 0)) ∷ []) ([]) 200) ≡ stops (at 1 33)
run_15 = refl

-- ---- Its locals are its own

-- int g(int a) { int s = 7; a = 9; return s; }
-- int f(int a) { int s = 1; g(a); return a * 10 + s; }
run_16 : told (last_run file_16 24 ((value.Int (pos 4)) ∷ []) ([]) 200)
    ≡ gives (Some (value.Int (pos 41))) (at 2 33) ([])
run_16 = refl

-- int g(int a) { int s; return s; }
-- int f(int n) { int s = 3; return g(n); }
run_17 : told (last_run file_17 24 ((value.Int (pos 1)) ∷ []) ([]) 200) ≡ stops (at 1 30)
run_17 = refl

-- ---- The API

-- PyObject *g(PyObject *x) { return PyObject_Str(x); }
-- PyObject *f(PyObject *x) { PyObject *a = g(x); return g(a); }
run_18 : told (last_run file_18 24 ((value.Object 5) ∷ []) ((choice.Object 24) ∷ (choice.Object 25) ∷ []) 200)
    ≡ gives (Some (value.Object 25)) (at 2 48) (at 1 35 ∷ at 1 35 ∷ [])
run_18 = refl

-- PyObject *g(PyObject *x) { return PyObject_Str(x); }
-- PyObject *f(PyObject *x) { PyObject *a = g(x); return g(a); }
run_19 : told (last_run file_18 24 ((value.Object 5) ∷ []) (choice.Null ∷ []) 200) ≡ stops (at 1 35)
run_19 = refl

-- PyObject *g(PyObject *x) { return PyObject_Str(x); }
-- PyObject *f(PyObject *x) { PyObject *a = g(x); return g(a); }
run_20 : told (last_run file_18 24 ((value.Object 5) ∷ []) ((choice.Object 24) ∷ []) 200) ≡ wants
run_20 = refl
