-- How the runs of the code of small functions end: as those of the functions do.
use Rattle.std.proofs.Common.{◌≡◌, refl, [], ◌∷◌, Some, pos, negsuc}
use Rattle.pungi_base.specs.declared.value.Value.TheVariants as value
use Rattle.pungi_lower.proofs.Worked.{at, gives, stops, told}
use Rattle.pungi_lower.proofs.WorkedOperators.{file_0, file_2, file_4, file_6, file_10, file_14, file_15, file_16}
use Rattle.pungi_lower.proofs.WorkedOperators.{file_17, file_18, file_19, file_20, file_21, file_22, file_23, file_24}
use Rattle.pungi_lower.proofs.WorkedOperators.{file_26, file_27, file_28, file_29, file_30, file_31}
use Rattle.pungi_lower.proofs.WorkedOrder.{file_33, file_34, file_35, file_36, file_37, file_39, file_41, file_43}
use Rattle.pungi_lower.proofs.WorkedOrder.{file_44, file_46, file_49, file_52, file_53}
use Rattle.pungi_lower.proofs.WorkedCode.{last_run}

-- ---- Operators at the ends of their ranges

-- int f(int a) { return a + 1; }
run_0 : told (last_run file_0 24 ((value.Int (pos 2147483647)) ∷ []) ([]) 50) ≡ stops (at 1 25)
run_0 = refl

-- int f(int a) { return a + 1; }
run_1 : told (last_run file_0 24 ((value.Int (pos 2147483646)) ∷ []) ([]) 50)
    ≡ gives (Some (value.Int (pos 2147483647))) (at 1 16) ([])
run_1 = refl

-- int f(int a) { return a - 1; }
run_2 : told (last_run file_2 24 ((value.Int (negsuc 2147483647)) ∷ []) ([]) 50) ≡ stops (at 1 25)
run_2 = refl

-- int f(int a) { return a - 1; }
run_3 : told (last_run file_2 24 ((value.Int (negsuc 2147483646)) ∷ []) ([]) 50)
    ≡ gives (Some (value.Int (negsuc 2147483647))) (at 1 16) ([])
run_3 = refl

-- int f(int a) { return a * 2; }
run_4 : told (last_run file_4 24 ((value.Int (pos 1073741824)) ∷ []) ([]) 50) ≡ stops (at 1 25)
run_4 = refl

-- int f(int a) { return a * 2; }
run_5 : told (last_run file_4 24 ((value.Int (negsuc 1073741823)) ∷ []) ([]) 50)
    ≡ gives (Some (value.Int (negsuc 2147483647))) (at 1 16) ([])
run_5 = refl

-- int f(int a, int b) { return a / b; }
run_6 : told (last_run file_6 24 ((value.Int (negsuc 2147483647)) ∷ (value.Int (negsuc 0)) ∷ []) ([]) 50)
    ≡ stops (at 1 32)
run_6 = refl

-- int f(int a, int b) { return a / b; }
run_7 : told (last_run file_6 24 ((value.Int (pos 5)) ∷ (value.Int (pos 0)) ∷ []) ([]) 50) ≡ stops (at 1 32)
run_7 = refl

-- int f(int a, int b) { return a / b; }
run_8 : told (last_run file_6 24 ((value.Int (negsuc 6)) ∷ (value.Int (pos 2)) ∷ []) ([]) 50)
    ≡ gives (Some (value.Int (negsuc 2))) (at 1 23) ([])
run_8 = refl

-- int f(int a, int b) { return a / b; }
run_9 : told (last_run file_6 24 ((value.Int (pos 7)) ∷ (value.Int (negsuc 1)) ∷ []) ([]) 50)
    ≡ gives (Some (value.Int (negsuc 2))) (at 1 23) ([])
run_9 = refl

-- int f(int a, int b) { return a % b; }
run_10 : told (last_run file_10 24 ((value.Int (negsuc 6)) ∷ (value.Int (pos 2)) ∷ []) ([]) 50)
    ≡ gives (Some (value.Int (negsuc 0))) (at 1 23) ([])
run_10 = refl

-- int f(int a, int b) { return a % b; }
run_11 : told (last_run file_10 24 ((value.Int (pos 7)) ∷ (value.Int (negsuc 1)) ∷ []) ([]) 50)
    ≡ gives (Some (value.Int (pos 1))) (at 1 23) ([])
run_11 = refl

-- int f(int a, int b) { return a % b; }
run_12 : told (last_run file_10 24 ((value.Int (negsuc 2147483647)) ∷ (value.Int (negsuc 0)) ∷ []) ([]) 50)
    ≡ gives (Some (value.Int (pos 0))) (at 1 23) ([])
run_12 = refl

-- int f(int a, int b) { return a % b; }
run_13 : told (last_run file_10 24 ((value.Int (pos 5)) ∷ (value.Int (pos 0)) ∷ []) ([]) 50) ≡ stops (at 1 32)
run_13 = refl

-- long f(long a) { return a + 1; }
run_14 : told (last_run file_14 24 ((value.Int (pos 9223372036854775807)) ∷ []) ([]) 50) ≡ stops (at 1 27)
run_14 = refl

-- long f(int a) { return (long)a + 1; }
run_15 : told (last_run file_15 24 ((value.Int (pos 2147483647)) ∷ []) ([]) 50)
    ≡ gives (Some (value.Int (pos 2147483648))) (at 1 17) ([])
run_15 = refl

-- int f(int a) { return -a; }
run_16 : told (last_run file_16 24 ((value.Int (negsuc 2147483647)) ∷ []) ([]) 50) ≡ stops (at 1 23)
run_16 = refl

-- int f(int a) { return +a; }
run_17 : told (last_run file_17 24 ((value.Int (negsuc 4)) ∷ []) ([]) 50)
    ≡ gives (Some (value.Int (negsuc 4))) (at 1 16) ([])
run_17 = refl

-- long f(int a, long b) { return a * b; }
run_18 : told (last_run file_18 24 ((value.Int (pos 2147483647)) ∷ (value.Int (pos 2)) ∷ []) ([]) 50)
    ≡ gives (Some (value.Int (pos 4294967294))) (at 1 25) ([])
run_18 = refl

-- long f(void) { return -9223372036854775807 - 1; }
run_19 : told (last_run file_19 24 ([]) ([]) 50) ≡ gives (Some (value.Int (negsuc 9223372036854775807))) (at 1 16) ([])
run_19 = refl

-- int f(int a) { a += 1; return a; }
run_20 : told (last_run file_20 24 ((value.Int (pos 2147483647)) ∷ []) ([]) 50) ≡ stops (at 1 18)
run_20 = refl

-- int f(int a) { a++; return a; }
run_21 : told (last_run file_21 24 ((value.Int (pos 2147483647)) ∷ []) ([]) 50) ≡ stops (at 1 17)
run_21 = refl

-- int f(int a) { --a; return a; }
run_22 : told (last_run file_22 24 ((value.Int (negsuc 2147483647)) ∷ []) ([]) 50) ≡ stops (at 1 16)
run_22 = refl

-- int f(int a, int b) { a -= b; a *= b; a /= 4; a %= 5; return a; }
run_23 : told (last_run file_23 24 ((value.Int (pos 20)) ∷ (value.Int (pos 6)) ∷ []) ([]) 90)
    ≡ gives (Some (value.Int (pos 1))) (at 1 55) ([])
run_23 = refl

-- ---- Conversions

-- int f(long a) { return a; }
run_24 : told (last_run file_24 24 ((value.Int (pos 2147483648)) ∷ []) ([]) 50) ≡ stops (at 1 17)
run_24 = refl

-- int f(long a) { return a; }
run_25 : told (last_run file_24 24 ((value.Int (negsuc 2147483647)) ∷ []) ([]) 50)
    ≡ gives (Some (value.Int (negsuc 2147483647))) (at 1 17) ([])
run_25 = refl

-- int f(long a) { int b = a; return b; }
run_26 : told (last_run file_26 24 ((value.Int (pos 2147483648)) ∷ []) ([]) 50) ≡ stops (at 1 21)
run_26 = refl

-- int f(long a) { int b; b = a; return b; }
run_27 : told (last_run file_27 24 ((value.Int (negsuc 2147483648)) ∷ []) ([]) 50) ≡ stops (at 1 26)
run_27 = refl

-- int f(long a) { return (int)a; }
run_28 : told (last_run file_28 24 ((value.Int (pos 3000000000)) ∷ []) ([]) 50) ≡ stops (at 1 24)
run_28 = refl

-- Py_ssize_t f(long a) { return a; }
run_29 : told (last_run file_29 24 ((value.Int (pos 9223372036854775807)) ∷ []) ([]) 50)
    ≡ gives (Some (value.Int (pos 9223372036854775807))) (at 1 24) ([])
run_29 = refl

-- int f(int a, long b) { a += b; return a; }
run_30 : told (last_run file_30 24 ((value.Int (pos 1)) ∷ (value.Int (pos 2147483647)) ∷ []) ([]) 50) ≡ stops (at 1 26)
run_30 = refl

-- int f(char *t) { return (t == NULL) + !t * 10; }
run_31 : told (last_run file_31 24 (value.Text ∷ []) ([]) 80) ≡ gives (Some (value.Int (pos 0))) (at 1 18) ([])
run_31 = refl

-- int f(char *t) { return (t == NULL) + !t * 10; }
run_32 : told (last_run file_31 24 (value.Null ∷ []) ([]) 80) ≡ gives (Some (value.Int (pos 11))) (at 1 18) ([])
run_32 = refl

-- ---- Order of operands, and operands that are left out

-- int f(int a) { return (a = 1) + (a = 2) * 10 + a; }
run_33 : told (last_run file_33 24 ((value.Int (pos 5)) ∷ []) ([]) 80)
    ≡ gives (Some (value.Int (pos 23))) (at 1 16) ([])
run_33 = refl

-- int f(int a) { return a++ + a; }
run_34 : told (last_run file_34 24 ((value.Int (pos 5)) ∷ []) ([]) 80)
    ≡ gives (Some (value.Int (pos 11))) (at 1 16) ([])
run_34 = refl

-- int f(int a) { return a-- - --a; }
run_35 : told (last_run file_35 24 ((value.Int (pos 5)) ∷ []) ([]) 80) ≡ gives (Some (value.Int (pos 2))) (at 1 16) ([])
run_35 = refl

-- int f(int a) { a += a++; return a; }
run_36 : told (last_run file_36 24 ((value.Int (pos 5)) ∷ []) ([]) 80)
    ≡ gives (Some (value.Int (pos 10))) (at 1 26) ([])
run_36 = refl

-- int f(int a, int b) { return a && (b = 7) ? b : b + 1; }
run_37 : told (last_run file_37 24 ((value.Int (pos 0)) ∷ (value.Int (pos 3)) ∷ []) ([]) 80)
    ≡ gives (Some (value.Int (pos 4))) (at 1 23) ([])
run_37 = refl

-- int f(int a, int b) { return a && (b = 7) ? b : b + 1; }
run_38 : told (last_run file_37 24 ((value.Int (pos 1)) ∷ (value.Int (pos 3)) ∷ []) ([]) 80)
    ≡ gives (Some (value.Int (pos 7))) (at 1 23) ([])
run_38 = refl

-- int f(int a, int b) { a || (b = 7); return b; }
run_39 : told (last_run file_39 24 ((value.Int (pos 1)) ∷ (value.Int (pos 3)) ∷ []) ([]) 80)
    ≡ gives (Some (value.Int (pos 3))) (at 1 37) ([])
run_39 = refl

-- int f(int a, int b) { a || (b = 7); return b; }
run_40 : told (last_run file_39 24 ((value.Int (pos 0)) ∷ (value.Int (pos 3)) ∷ []) ([]) 80)
    ≡ gives (Some (value.Int (pos 7))) (at 1 37) ([])
run_40 = refl

-- int f(int a) { return (a && 2) + (a || 0); }
run_41 : told (last_run file_41 24 ((value.Int (pos 3)) ∷ []) ([]) 80) ≡ gives (Some (value.Int (pos 2))) (at 1 16) ([])
run_41 = refl

-- int f(int a) { return (a && 2) + (a || 0); }
run_42 : told (last_run file_41 24 ((value.Int (pos 0)) ∷ []) ([]) 80) ≡ gives (Some (value.Int (pos 0))) (at 1 16) ([])
run_42 = refl

-- int f(int a) { return a < 3 == 1; }
run_43 : told (last_run file_43 24 ((value.Int (pos 2)) ∷ []) ([]) 80) ≡ gives (Some (value.Int (pos 1))) (at 1 16) ([])
run_43 = refl

-- int f(int a) { return !a; }
run_44 : told (last_run file_44 24 ((value.Int (pos 0)) ∷ []) ([]) 80) ≡ gives (Some (value.Int (pos 1))) (at 1 16) ([])
run_44 = refl

-- int f(int a) { return !a; }
run_45 : told (last_run file_44 24 ((value.Int (pos 5)) ∷ []) ([]) 80) ≡ gives (Some (value.Int (pos 0))) (at 1 16) ([])
run_45 = refl

-- int f(int a, int b) { return (a < b) + (a <= b) * 10 + (a > b) * 100 + (a >= b) * 1000 + (a == b) * 10000 + (a != b)
-- * 100000; }
run_46 : told (last_run file_46 24 ((value.Int (pos 1)) ∷ (value.Int (pos 2)) ∷ []) ([]) 120)
    ≡ gives (Some (value.Int (pos 100011))) (at 1 23) ([])
run_46 = refl

-- int f(int a, int b) { return (a < b) + (a <= b) * 10 + (a > b) * 100 + (a >= b) * 1000 + (a == b) * 10000 + (a != b)
-- * 100000; }
run_47 : told (last_run file_46 24 ((value.Int (pos 2)) ∷ (value.Int (pos 2)) ∷ []) ([]) 120)
    ≡ gives (Some (value.Int (pos 11010))) (at 1 23) ([])
run_47 = refl

-- int f(int a, int b) { return (a < b) + (a <= b) * 10 + (a > b) * 100 + (a >= b) * 1000 + (a == b) * 10000 + (a != b)
-- * 100000; }
run_48 : told (last_run file_46 24 ((value.Int (pos 3)) ∷ (value.Int (pos 2)) ∷ []) ([]) 120)
    ≡ gives (Some (value.Int (pos 101100))) (at 1 23) ([])
run_48 = refl

-- int f(PyObject *x, PyObject *y) { return (x == y) + (x != NULL) * 10 + (NULL == y) * 100 + !x * 1000; }
run_49 : told (last_run file_49 24 ((value.Object 3) ∷ value.Null ∷ []) ([]) 120)
    ≡ gives (Some (value.Int (pos 110))) (at 1 35) ([])
run_49 = refl

-- int f(PyObject *x, PyObject *y) { return (x == y) + (x != NULL) * 10 + (NULL == y) * 100 + !x * 1000; }
run_50 : told (last_run file_49 24 ((value.Object 3) ∷ (value.Object 3) ∷ []) ([]) 120)
    ≡ gives (Some (value.Int (pos 11))) (at 1 35) ([])
run_50 = refl

-- int f(PyObject *x, PyObject *y) { return (x == y) + (x != NULL) * 10 + (NULL == y) * 100 + !x * 1000; }
run_51 : told (last_run file_49 24 (value.Null ∷ value.Null ∷ []) ([]) 120)
    ≡ gives (Some (value.Int (pos 1101))) (at 1 35) ([])
run_51 = refl

-- long f(int a, long b) { return a ? a : b; }
run_52 : told (last_run file_52 24 ((value.Int (pos 0)) ∷ (value.Int (pos 5)) ∷ []) ([]) 80)
    ≡ gives (Some (value.Int (pos 5))) (at 1 25) ([])
run_52 = refl

-- int f(void) { return 'a' + 1; }
run_53 : told (last_run file_53 24 ([]) ([]) 80) ≡ gives (Some (value.Int (pos 98))) (at 1 15) ([])
run_53 = refl
