-- How the runs of the code of small functions end: as those of the functions do.
use Rattle.std.proofs.Common.{◌≡◌, refl, [], ◌∷◌, Some, None, pos, negsuc}
use Rattle.pungi_base.specs.declared.value.Value.TheVariants as value
use Rattle.pungi_lower.proofs.Worked.{at, gives, stops, told}
use Rattle.pungi_lower.proofs.WorkedStatements.{file_0, file_1, file_2, file_3, file_4, file_5, file_6, file_7, file_9}
use Rattle.pungi_lower.proofs.WorkedStatements.{file_10, file_11, file_12, file_13, file_14, file_39, file_41, file_42}
use Rattle.pungi_lower.proofs.WorkedStatements.{file_43}
use Rattle.pungi_lower.proofs.WorkedSwitch.{file_15, file_19, file_20, file_22, file_23, file_24, file_25}
use Rattle.pungi_lower.proofs.WorkedJumps.{file_26, file_28, file_29, file_30, file_31, file_32, file_33, file_34}
use Rattle.pungi_lower.proofs.WorkedJumps.{file_35, file_36, file_37, file_38}
use Rattle.pungi_lower.proofs.WorkedCode.{last_run}

-- ---- Locals without a value

-- int f(void) { int a; return a; }
run_0 : told (last_run file_0 24 ([]) ([]) 50) ≡ stops (at 1 29)
run_0 = refl

-- int f(void) { int a = a; return 1; }
run_1 : told (last_run file_1 24 ([]) ([]) 50) ≡ stops (at 1 23)
run_1 = refl

-- int f(int n) { while (n) { int a; if (n == 1) return a; a = n; n = n - 1; } return 0; }
run_2 : told (last_run file_2 24 ((value.Int (pos 2)) ∷ []) ([]) 150) ≡ stops (at 1 54)
run_2 = refl

-- int f(int n) { again: ; int a; if (n == 0) return a; a = 7; n = n - 1; goto again; }
run_3 : told (last_run file_3 24 ((value.Int (pos 1)) ∷ []) ([]) 150) ≡ stops (at 1 51)
run_3 = refl

-- int f(int n) { again: ; int a = n; n = n - 1; if (n > 0) goto again; return a; }
run_4 : told (last_run file_4 24 ((value.Int (pos 3)) ∷ []) ([]) 150) ≡ gives (Some (value.Int (pos 1))) (at 1 70) ([])
run_4 = refl

-- int f(void) { goto on; int a = 1; on: return a; }
run_5 : told (last_run file_5 24 ([]) ([]) 50) ≡ stops (at 1 46)
run_5 = refl

-- int f(int n) { switch (n) { int a; case 1: return a; } return 0; }
run_6 : told (last_run file_6 24 ((value.Int (pos 1)) ∷ []) ([]) 50) ≡ stops (at 1 51)
run_6 = refl

-- ---- Loops

-- int f(int n) { int s = 0; do { s += n; n--; } while (n > 0); return s; }
run_7 : told (last_run file_7 24 ((value.Int (pos 0)) ∷ []) ([]) 150) ≡ gives (Some (value.Int (pos 0))) (at 1 62) ([])
run_7 = refl

-- int f(int n) { int s = 0; do { s += n; n--; } while (n > 0); return s; }
run_8 : told (last_run file_7 24 ((value.Int (pos 3)) ∷ []) ([]) 200) ≡ gives (Some (value.Int (pos 6))) (at 1 62) ([])
run_8 = refl

-- int f(int n) { int s = 0; for (int i = 0; i < n; i++) { if (i == 1) continue; if (i == 3) break; s = s * 10 + i + 1;
-- } return s; }
run_9 : told (last_run file_9 24 ((value.Int (pos 9)) ∷ []) ([]) 300)
    ≡ gives (Some (value.Int (pos 13))) (at 1 120) ([])
run_9 = refl

-- int f(int n) { for (;;) { if (n > 2) return n; n++; } }
run_10 : told (last_run file_10 24 ((value.Int (pos 0)) ∷ []) ([]) 200)
    ≡ gives (Some (value.Int (pos 3))) (at 1 38) ([])
run_10 = refl

-- int f(int n) { for (; n > 0;) n -= 2; return n; }
run_11 : told (last_run file_11 24 ((value.Int (pos 5)) ∷ []) ([]) 200)
    ≡ gives (Some (value.Int (negsuc 0))) (at 1 39) ([])
run_11 = refl

-- int f(int n) { int s = 0; do { n--; if (n == 1) continue; s += 1; } while (n > 0); return s; }
run_12 : told (last_run file_12 24 ((value.Int (pos 3)) ∷ []) ([]) 300)
    ≡ gives (Some (value.Int (pos 2))) (at 1 84) ([])
run_12 = refl

-- int f(int n) { int s = 0; while (n > 0) { n--; if (n == 1) continue; s++; } return s; }
run_13 : told (last_run file_13 24 ((value.Int (pos 3)) ∷ []) ([]) 300)
    ≡ gives (Some (value.Int (pos 2))) (at 1 77) ([])
run_13 = refl

-- int f(int n) { int s = 0; int i, j; for (i = 0; i < n; i++) for (j = i; j < n; j++) { if (j == 2) break; s += 1; }
-- return s; }
run_14 : told (last_run file_14 24 ((value.Int (pos 4)) ∷ []) ([]) 600)
    ≡ gives (Some (value.Int (pos 4))) (at 1 116) ([])
run_14 = refl

-- ---- switch

-- int f(int n) { int s = 0; switch (n) { case 1: s += 1; case 2: s += 10; break; default: s += 100; case 3: s += 1000;
-- } return s; }
run_15 : told (last_run file_15 24 ((value.Int (pos 1)) ∷ []) ([]) 150)
    ≡ gives (Some (value.Int (pos 11))) (at 1 120) ([])
run_15 = refl

-- int f(int n) { int s = 0; switch (n) { case 1: s += 1; case 2: s += 10; break; default: s += 100; case 3: s += 1000;
-- } return s; }
run_16 : told (last_run file_15 24 ((value.Int (pos 2)) ∷ []) ([]) 150)
    ≡ gives (Some (value.Int (pos 10))) (at 1 120) ([])
run_16 = refl

-- int f(int n) { int s = 0; switch (n) { case 1: s += 1; case 2: s += 10; break; default: s += 100; case 3: s += 1000;
-- } return s; }
run_17 : told (last_run file_15 24 ((value.Int (pos 3)) ∷ []) ([]) 150)
    ≡ gives (Some (value.Int (pos 1000))) (at 1 120) ([])
run_17 = refl

-- int f(int n) { int s = 0; switch (n) { case 1: s += 1; case 2: s += 10; break; default: s += 100; case 3: s += 1000;
-- } return s; }
run_18 : told (last_run file_15 24 ((value.Int (pos 4)) ∷ []) ([]) 150)
    ≡ gives (Some (value.Int (pos 1100))) (at 1 120) ([])
run_18 = refl

-- int f(int n) { int s = 5; switch (n) { case 1: s = 1; } return s; }
run_19 : told (last_run file_19 24 ((value.Int (pos 9)) ∷ []) ([]) 150)
    ≡ gives (Some (value.Int (pos 5))) (at 1 57) ([])
run_19 = refl

-- int f(int n) { switch (n) { case 1: case -2: n = 7; } return n; }
run_20 : told (last_run file_20 24 ((value.Int (negsuc 1)) ∷ []) ([]) 150)
    ≡ gives (Some (value.Int (pos 7))) (at 1 55) ([])
run_20 = refl

-- int f(int n) { switch (n) { case 1: case -2: n = 7; } return n; }
run_21 : told (last_run file_20 24 ((value.Int (pos 3)) ∷ []) ([]) 150)
    ≡ gives (Some (value.Int (pos 3))) (at 1 55) ([])
run_21 = refl

-- int f(int n) { switch (n) n = 9; return n; }
run_22 : told (last_run file_22 24 ((value.Int (pos 1)) ∷ []) ([]) 150)
    ≡ gives (Some (value.Int (pos 1))) (at 1 34) ([])
run_22 = refl

-- int f(int n) { int s = 0; while (n > 0) { n--; switch (n) { case 1: continue; case 0: break; } s++; } return s; }
run_23 : told (last_run file_23 24 ((value.Int (pos 3)) ∷ []) ([]) 300)
    ≡ gives (Some (value.Int (pos 2))) (at 1 103) ([])
run_23 = refl

-- int f(int n) { switch (n) { case 1: switch (n + 1) { case 2: n = 20; break; case 1: n = 30; } n++; break; case 20: n
-- = 40; } return n; }
run_24 : told (last_run file_24 24 ((value.Int (pos 1)) ∷ []) ([]) 300)
    ≡ gives (Some (value.Int (pos 21))) (at 1 126) ([])
run_24 = refl

-- int f(int n) { switch (n) { case 'a': return 1; default: return 2; } }
run_25 : told (last_run file_25 24 ((value.Int (pos 97)) ∷ []) ([]) 80)
    ≡ gives (Some (value.Int (pos 1))) (at 1 39) ([])
run_25 = refl

-- ---- Jumps

-- int f(int n) { int s = 0; goto in; while (n > 0) in: { s += 1; n--; } return s; }
run_26 : told (last_run file_26 24 ((value.Int (pos 0)) ∷ []) ([]) 200)
    ≡ gives (Some (value.Int (pos 1))) (at 1 71) ([])
run_26 = refl

-- int f(int n) { int s = 0; goto in; while (n > 0) in: { s += 1; n--; } return s; }
run_27 : told (last_run file_26 24 ((value.Int (pos 2)) ∷ []) ([]) 200)
    ≡ gives (Some (value.Int (pos 2))) (at 1 71) ([])
run_27 = refl

-- int f(int n) { if (n == 100) in: n = n + 5; if (n < 10) goto in; return n; }
run_28 : told (last_run file_28 24 ((value.Int (pos 1)) ∷ []) ([]) 200)
    ≡ gives (Some (value.Int (pos 11))) (at 1 66) ([])
run_28 = refl

-- int f(int n) { if (n == 0) n = 1; else in: n = n + 2; if (n < 4) goto in; return n; }
run_29 : told (last_run file_29 24 ((value.Int (pos 0)) ∷ []) ([]) 200)
    ≡ gives (Some (value.Int (pos 5))) (at 1 75) ([])
run_29 = refl

-- int f(int n) { while (1) { while (1) { if (n > 3) goto out; n++; } } out: return n; }
run_30 : told (last_run file_30 24 ((value.Int (pos 0)) ∷ []) ([]) 300)
    ≡ gives (Some (value.Int (pos 4))) (at 1 75) ([])
run_30 = refl

-- int f(int n) { { int a = 1; again: a = a + a; n--; if (n > 0) goto again; return a; } }
run_31 : told (last_run file_31 24 ((value.Int (pos 3)) ∷ []) ([]) 300)
    ≡ gives (Some (value.Int (pos 8))) (at 1 75) ([])
run_31 = refl

-- int f(int n) { int s = 0; int i = 5; goto in; for (i = 0; i < 7; i++) in: s += i; return s; }
run_32 : told (last_run file_32 24 ((value.Int (pos 1)) ∷ []) ([]) 300)
    ≡ gives (Some (value.Int (pos 11))) (at 1 83) ([])
run_32 = refl

-- int f(int n) { int s = 0; goto in; for (int i = 0; i < 7; i++) in: s += i; return s; }
run_33 : told (last_run file_33 24 ((value.Int (pos 1)) ∷ []) ([]) 300) ≡ stops (at 1 73)
run_33 = refl

-- int f(int n) { goto in; do in: n++; while (n < 5); return n; }
run_34 : told (last_run file_34 24 ((value.Int (pos 9)) ∷ []) ([]) 300)
    ≡ gives (Some (value.Int (pos 10))) (at 1 52) ([])
run_34 = refl

-- int f(int n) { goto b; a: b: n++; return n; }
run_35 : told (last_run file_35 24 ((value.Int (pos 1)) ∷ []) ([]) 300)
    ≡ gives (Some (value.Int (pos 2))) (at 1 35) ([])
run_35 = refl

-- int f(int n) { switch (n) { case 1: goto x; n = 50; x: n = n + 1; } return n; }
run_36 : told (last_run file_36 24 ((value.Int (pos 1)) ∷ []) ([]) 300)
    ≡ gives (Some (value.Int (pos 2))) (at 1 69) ([])
run_36 = refl

-- int f(int n) { int s = 0; for (int i = 0; i < 3; i++) { if (i == 1) goto next; s += 10; next: s += 1; } return s; }
run_37 : told (last_run file_37 24 ((value.Int (pos 1)) ∷ []) ([]) 400)
    ≡ gives (Some (value.Int (pos 23))) (at 1 105) ([])
run_37 = refl

-- int f(int n) { goto in; switch (n) in: { n = n + 1; break; n = n + 100; } return n; }
run_38 : told (last_run file_38 24 ((value.Int (pos 1)) ∷ []) ([]) 200)
    ≡ gives (Some (value.Int (pos 2))) (at 1 75) ([])
run_38 = refl

-- ---- Ends

-- void f(int n) { if (n) return; }
run_39 : told (last_run file_39 24 ((value.Int (pos 1)) ∷ []) ([]) 50) ≡ gives None (at 1 24) ([])
run_39 = refl

-- void f(int n) { if (n) return; }
run_40 : told (last_run file_39 24 ((value.Int (pos 0)) ∷ []) ([]) 50) ≡ gives None (at 1 32) ([])
run_40 = refl

-- int f(int n) { if (n) return 1; }
run_41 : told (last_run file_41 24 ((value.Int (pos 0)) ∷ []) ([]) 50) ≡ stops (at 1 33)
run_41 = refl

-- int f(void) { ; 3; return 4; }
run_42 : told (last_run file_42 24 ([]) ([]) 50) ≡ gives (Some (value.Int (pos 4))) (at 1 20) ([])
run_42 = refl

-- int f(int a) { if (a) if (a > 5) return 1; else return 2; return 3; }
run_43 : told (last_run file_43 24 ((value.Int (pos 1)) ∷ []) ([]) 50) ≡ gives (Some (value.Int (pos 2))) (at 1 49) ([])
run_43 = refl

-- int f(int a) { if (a) if (a > 5) return 1; else return 2; return 3; }
run_44 : told (last_run file_43 24 ((value.Int (pos 0)) ∷ []) ([]) 50) ≡ gives (Some (value.Int (pos 3))) (at 1 59) ([])
run_44 = refl
