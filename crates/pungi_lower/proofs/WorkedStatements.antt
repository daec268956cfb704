-- How each run of small functions ends, by computing from the definitions: locals, loops and ends. The expected ends
-- come from a reading of the rules.
use Rattle.std.proofs.Common.{◌≡◌, refl, List, [], ◌∷◌, Some, None, true, false, pos, negsuc}
use Rattle.pungi_base.specs.declared.key.Key.TheVariants as keys
use Rattle.pungi_base.specs.declared.punct.Punct.TheVariants as puncts
use Rattle.pungi_base.specs.declared.value.Value.TheVariants as value
use Rattle.pungi_tree.specs.Syntax as plain
use Rattle.pungi_lower.proofs.Worked.{at, name, gives, stops, told, last_run}

-- ---- Locals without a value

-- int f(void) { int a; return a; }
abbrev pub file_0 : List plain.Item
file_0 =
    plain.function_def (plain.head ([]) (plain.spec (at 1 1) (plain.words (keys.Int ∷ [])) 0) ([]) (name 374)
    (at 1 5) (plain.params plain.no_params true None)) (plain.block (at 1 13)
    (plain.stmt_and (plain.declare (at 1 15) (plain.decl ([]) (plain.spec (at 1 15) (plain.words (keys.Int ∷ [])) 0)
    ((plain.var_decl (plain.declr ([]) (name 375) (at 1 19) (plain.sizes plain.no_sizes)) None) ∷ [])))
    (plain.stmt_and (plain.return (at 1 22) (Some (plain.word (at 1 29) (name 375)))) plain.no_stmts)) (at 1 32))
    ∷ []

run_0 : told (last_run file_0 24 ([]) ([]) 50) ≡ stops (at 1 29)
run_0 = refl

-- int f(void) { int a = a; return 1; }
abbrev pub file_1 : List plain.Item
file_1 =
    plain.function_def (plain.head ([]) (plain.spec (at 1 1) (plain.words (keys.Int ∷ [])) 0) ([]) (name 374)
    (at 1 5) (plain.params plain.no_params true None)) (plain.block (at 1 13)
    (plain.stmt_and (plain.declare (at 1 15) (plain.decl ([]) (plain.spec (at 1 15) (plain.words (keys.Int ∷ [])) 0)
    ((plain.var_decl (plain.declr ([]) (name 375) (at 1 19) (plain.sizes plain.no_sizes))
    (Some (plain.value (plain.word (at 1 23) (name 375))))) ∷ []))) (plain.stmt_and
    (plain.return (at 1 26) (Some (plain.int (at 1 33) (pos 1) false false))) plain.no_stmts)) (at 1 36)) ∷ []

run_1 : told (last_run file_1 24 ([]) ([]) 50) ≡ stops (at 1 23)
run_1 = refl

-- int f(int n) { while (n) { int a; if (n == 1) return a; a = n; n = n - 1; } return 0; }
abbrev pub file_2 : List plain.Item
file_2 =
    plain.function_def (plain.head ([]) (plain.spec (at 1 1) (plain.words (keys.Int ∷ [])) 0) ([]) (name 374)
    (at 1 5) (plain.params (plain.param_and (plain.param_decl ([]) (plain.spec (at 1 7)
    (plain.words (keys.Int ∷ [])) 0) (plain.named (plain.declr ([]) (name 375) (at 1 11)
    (plain.sizes plain.no_sizes)))) plain.no_params) false None)) (plain.block (at 1 14)
    (plain.stmt_and (plain.while (at 1 16) (plain.word (at 1 23) (name 375))
    (plain.block (at 1 26) (plain.stmt_and (plain.declare (at 1 28) (plain.decl ([])
    (plain.spec (at 1 28) (plain.words (keys.Int ∷ [])) 0) ((plain.var_decl
    (plain.declr ([]) (name 376) (at 1 32) (plain.sizes plain.no_sizes)) None) ∷ [])))
    (plain.stmt_and (plain.if_only (at 1 35) (plain.binary (at 1 41) puncts.Equal (plain.word (at 1 39) (name 375))
    (plain.int (at 1 44) (pos 1) false false)) (plain.return (at 1 47) (Some (plain.word (at 1 54) (name 376)))))
    (plain.stmt_and (plain.do_expr (at 1 57) (Some (plain.assign (at 1 59) puncts.Assign
    (plain.word (at 1 57) (name 376)) (plain.word (at 1 61) (name 375)))))
    (plain.stmt_and (plain.do_expr (at 1 64) (Some (plain.assign (at 1 66) puncts.Assign
    (plain.word (at 1 64) (name 375)) (plain.binary (at 1 70) puncts.Minus (plain.word (at 1 68) (name 375))
    (plain.int (at 1 72) (pos 1) false false))))) plain.no_stmts)))) (at 1 75)))
    (plain.stmt_and (plain.return (at 1 77) (Some (plain.int (at 1 84) (pos 0) false false))) plain.no_stmts))
    (at 1 87)) ∷ []

run_2 : told (last_run file_2 24 ((value.Int (pos 2)) ∷ []) ([]) 150) ≡ stops (at 1 54)
run_2 = refl

-- int f(int n) { again: ; int a; if (n == 0) return a; a = 7; n = n - 1; goto again; }
abbrev pub file_3 : List plain.Item
file_3 =
    plain.function_def (plain.head ([]) (plain.spec (at 1 1) (plain.words (keys.Int ∷ [])) 0) ([]) (name 374)
    (at 1 5) (plain.params (plain.param_and (plain.param_decl ([]) (plain.spec (at 1 7)
    (plain.words (keys.Int ∷ [])) 0) (plain.named (plain.declr ([]) (name 375) (at 1 11)
    (plain.sizes plain.no_sizes)))) plain.no_params) false None)) (plain.block (at 1 14)
    (plain.stmt_and (plain.label (at 1 16) (name 376) (plain.do_expr (at 1 23) None))
    (plain.stmt_and (plain.declare (at 1 25) (plain.decl ([]) (plain.spec (at 1 25) (plain.words (keys.Int ∷ [])) 0)
    ((plain.var_decl (plain.declr ([]) (name 377) (at 1 29) (plain.sizes plain.no_sizes)) None) ∷ [])))
    (plain.stmt_and (plain.if_only (at 1 32) (plain.binary (at 1 38) puncts.Equal (plain.word (at 1 36) (name 375))
    (plain.int (at 1 41) (pos 0) false false)) (plain.return (at 1 44) (Some (plain.word (at 1 51) (name 377)))))
    (plain.stmt_and (plain.do_expr (at 1 54) (Some (plain.assign (at 1 56) puncts.Assign
    (plain.word (at 1 54) (name 377)) (plain.int (at 1 58) (pos 7) false false))))
    (plain.stmt_and (plain.do_expr (at 1 61) (Some (plain.assign (at 1 63) puncts.Assign
    (plain.word (at 1 61) (name 375)) (plain.binary (at 1 67) puncts.Minus (plain.word (at 1 65) (name 375))
    (plain.int (at 1 69) (pos 1) false false))))) (plain.stmt_and (plain.goto (at 1 72) (name 376) (at 1 77))
    plain.no_stmts)))))) (at 1 84)) ∷ []

run_3 : told (last_run file_3 24 ((value.Int (pos 1)) ∷ []) ([]) 150) ≡ stops (at 1 51)
run_3 = refl

-- int f(int n) { again: ; int a = n; n = n - 1; if (n > 0) goto again; return a; }
abbrev pub file_4 : List plain.Item
file_4 =
    plain.function_def (plain.head ([]) (plain.spec (at 1 1) (plain.words (keys.Int ∷ [])) 0) ([]) (name 374)
    (at 1 5) (plain.params (plain.param_and (plain.param_decl ([]) (plain.spec (at 1 7)
    (plain.words (keys.Int ∷ [])) 0) (plain.named (plain.declr ([]) (name 375) (at 1 11)
    (plain.sizes plain.no_sizes)))) plain.no_params) false None)) (plain.block (at 1 14)
    (plain.stmt_and (plain.label (at 1 16) (name 376) (plain.do_expr (at 1 23) None))
    (plain.stmt_and (plain.declare (at 1 25) (plain.decl ([]) (plain.spec (at 1 25) (plain.words (keys.Int ∷ [])) 0)
    ((plain.var_decl (plain.declr ([]) (name 377) (at 1 29) (plain.sizes plain.no_sizes))
    (Some (plain.value (plain.word (at 1 33) (name 375))))) ∷ []))) (plain.stmt_and
    (plain.do_expr (at 1 36) (Some (plain.assign (at 1 38) puncts.Assign (plain.word (at 1 36) (name 375))
    (plain.binary (at 1 42) puncts.Minus (plain.word (at 1 40) (name 375))
    (plain.int (at 1 44) (pos 1) false false))))) (plain.stmt_and (plain.if_only (at 1 47)
    (plain.binary (at 1 53) puncts.Greater (plain.word (at 1 51) (name 375))
    (plain.int (at 1 55) (pos 0) false false)) (plain.goto (at 1 58) (name 376) (at 1 63)))
    (plain.stmt_and (plain.return (at 1 70) (Some (plain.word (at 1 77) (name 377)))) plain.no_stmts))))) (at 1 80))
    ∷ []

run_4 : told (last_run file_4 24 ((value.Int (pos 3)) ∷ []) ([]) 150) ≡ gives (Some (value.Int (pos 1))) (at 1 70) ([])
run_4 = refl

-- int f(void) { goto on; int a = 1; on: return a; }
abbrev pub file_5 : List plain.Item
file_5 =
    plain.function_def (plain.head ([]) (plain.spec (at 1 1) (plain.words (keys.Int ∷ [])) 0) ([]) (name 374)
    (at 1 5) (plain.params plain.no_params true None)) (plain.block (at 1 13)
    (plain.stmt_and (plain.goto (at 1 15) (name 375) (at 1 20)) (plain.stmt_and
    (plain.declare (at 1 24) (plain.decl ([]) (plain.spec (at 1 24) (plain.words (keys.Int ∷ [])) 0)
    ((plain.var_decl (plain.declr ([]) (name 376) (at 1 28) (plain.sizes plain.no_sizes))
    (Some (plain.value (plain.int (at 1 32) (pos 1) false false)))) ∷ [])))
    (plain.stmt_and (plain.label (at 1 35) (name 375) (plain.return (at 1 39)
    (Some (plain.word (at 1 46) (name 376))))) plain.no_stmts))) (at 1 49)) ∷ []

run_5 : told (last_run file_5 24 ([]) ([]) 50) ≡ stops (at 1 46)
run_5 = refl

-- int f(int n) { switch (n) { int a; case 1: return a; } return 0; }
abbrev pub file_6 : List plain.Item
file_6 =
    plain.function_def (plain.head ([]) (plain.spec (at 1 1) (plain.words (keys.Int ∷ [])) 0) ([]) (name 374)
    (at 1 5) (plain.params (plain.param_and (plain.param_decl ([]) (plain.spec (at 1 7)
    (plain.words (keys.Int ∷ [])) 0) (plain.named (plain.declr ([]) (name 375) (at 1 11)
    (plain.sizes plain.no_sizes)))) plain.no_params) false None)) (plain.block (at 1 14)
    (plain.stmt_and (plain.switch (at 1 16) (plain.word (at 1 24) (name 375))
    (plain.block (at 1 27) (plain.stmt_and (plain.declare (at 1 29) (plain.decl ([])
    (plain.spec (at 1 29) (plain.words (keys.Int ∷ [])) 0) ((plain.var_decl
    (plain.declr ([]) (name 376) (at 1 33) (plain.sizes plain.no_sizes)) None) ∷ [])))
    (plain.stmt_and (plain.case (at 1 36) (plain.int (at 1 41) (pos 1) false false)
    (plain.return (at 1 44) (Some (plain.word (at 1 51) (name 376))))) plain.no_stmts)) (at 1 54)))
    (plain.stmt_and (plain.return (at 1 56) (Some (plain.int (at 1 63) (pos 0) false false))) plain.no_stmts))
    (at 1 66)) ∷ []

run_6 : told (last_run file_6 24 ((value.Int (pos 1)) ∷ []) ([]) 50) ≡ stops (at 1 51)
run_6 = refl

-- ---- Loops

-- int f(int n) { int s = 0; do { s += n; n--; } while (n > 0); return s; }
abbrev pub file_7 : List plain.Item
file_7 =
    plain.function_def (plain.head ([]) (plain.spec (at 1 1) (plain.words (keys.Int ∷ [])) 0) ([]) (name 374)
    (at 1 5) (plain.params (plain.param_and (plain.param_decl ([]) (plain.spec (at 1 7)
    (plain.words (keys.Int ∷ [])) 0) (plain.named (plain.declr ([]) (name 375) (at 1 11)
    (plain.sizes plain.no_sizes)))) plain.no_params) false None)) (plain.block (at 1 14)
    (plain.stmt_and (plain.declare (at 1 16) (plain.decl ([]) (plain.spec (at 1 16) (plain.words (keys.Int ∷ [])) 0)
    ((plain.var_decl (plain.declr ([]) (name 376) (at 1 20) (plain.sizes plain.no_sizes))
    (Some (plain.value (plain.int (at 1 24) (pos 0) false false)))) ∷ [])))
    (plain.stmt_and (plain.do_while (at 1 27) (plain.block (at 1 30) (plain.stmt_and
    (plain.do_expr (at 1 32) (Some (plain.assign (at 1 34) puncts.PlusAssign (plain.word (at 1 32) (name 376))
    (plain.word (at 1 37) (name 375))))) (plain.stmt_and (plain.do_expr (at 1 40)
    (Some (plain.post (at 1 41) puncts.MinusMinus (plain.word (at 1 40) (name 375))))) plain.no_stmts)) (at 1 45))
    (plain.binary (at 1 56) puncts.Greater (plain.word (at 1 54) (name 375))
    (plain.int (at 1 58) (pos 0) false false))) (plain.stmt_and (plain.return (at 1 62)
    (Some (plain.word (at 1 69) (name 376)))) plain.no_stmts))) (at 1 72)) ∷ []

run_7 : told (last_run file_7 24 ((value.Int (pos 0)) ∷ []) ([]) 150) ≡ gives (Some (value.Int (pos 0))) (at 1 62) ([])
run_7 = refl

-- int f(int n) { int s = 0; do { s += n; n--; } while (n > 0); return s; }
run_8 : told (last_run file_7 24 ((value.Int (pos 3)) ∷ []) ([]) 200) ≡ gives (Some (value.Int (pos 6))) (at 1 62) ([])
run_8 = refl

-- int f(int n) { int s = 0; for (int i = 0; i < n; i++) { if (i == 1) continue; if (i == 3) break; s = s * 10 + i + 1;
-- } return s; }
abbrev pub file_9 : List plain.Item
file_9 =
    plain.function_def (plain.head ([]) (plain.spec (at 1 1) (plain.words (keys.Int ∷ [])) 0) ([]) (name 374)
    (at 1 5) (plain.params (plain.param_and (plain.param_decl ([]) (plain.spec (at 1 7)
    (plain.words (keys.Int ∷ [])) 0) (plain.named (plain.declr ([]) (name 375) (at 1 11)
    (plain.sizes plain.no_sizes)))) plain.no_params) false None)) (plain.block (at 1 14)
    (plain.stmt_and (plain.declare (at 1 16) (plain.decl ([]) (plain.spec (at 1 16) (plain.words (keys.Int ∷ [])) 0)
    ((plain.var_decl (plain.declr ([]) (name 376) (at 1 20) (plain.sizes plain.no_sizes))
    (Some (plain.value (plain.int (at 1 24) (pos 0) false false)))) ∷ [])))
    (plain.stmt_and (plain.for (at 1 27) (plain.start_decl (plain.decl ([])
    (plain.spec (at 1 32) (plain.words (keys.Int ∷ [])) 0) ((plain.var_decl
    (plain.declr ([]) (name 377) (at 1 36) (plain.sizes plain.no_sizes)) (Some
    (plain.value (plain.int (at 1 40) (pos 0) false false)))) ∷ []))) (Some
    (plain.binary (at 1 45) puncts.Less (plain.word (at 1 43) (name 377)) (plain.word (at 1 47) (name 375))))
    (Some (plain.post (at 1 51) puncts.PlusPlus (plain.word (at 1 50) (name 377))))
    (plain.block (at 1 55) (plain.stmt_and (plain.if_only (at 1 57) (plain.binary (at 1 63) puncts.Equal
    (plain.word (at 1 61) (name 377)) (plain.int (at 1 66) (pos 1) false false)) (plain.continue (at 1 69)))
    (plain.stmt_and (plain.if_only (at 1 79) (plain.binary (at 1 85) puncts.Equal (plain.word (at 1 83) (name 377))
    (plain.int (at 1 88) (pos 3) false false)) (plain.break (at 1 91))) (plain.stmt_and
    (plain.do_expr (at 1 98) (Some (plain.assign (at 1 100) puncts.Assign (plain.word (at 1 98) (name 376))
    (plain.binary (at 1 113) puncts.Plus (plain.binary (at 1 109) puncts.Plus
    (plain.binary (at 1 104) puncts.Star (plain.word (at 1 102) (name 376))
    (plain.int (at 1 106) (pos 10) false false)) (plain.word (at 1 111) (name 377)))
    (plain.int (at 1 115) (pos 1) false false))))) plain.no_stmts))) (at 1 118)))
    (plain.stmt_and (plain.return (at 1 120) (Some (plain.word (at 1 127) (name 376)))) plain.no_stmts)))
    (at 1 130)) ∷ []

run_9 : told (last_run file_9 24 ((value.Int (pos 9)) ∷ []) ([]) 300)
    ≡ gives (Some (value.Int (pos 13))) (at 1 120) ([])
run_9 = refl

-- int f(int n) { for (;;) { if (n > 2) return n; n++; } }
abbrev pub file_10 : List plain.Item
file_10 =
    plain.function_def (plain.head ([]) (plain.spec (at 1 1) (plain.words (keys.Int ∷ [])) 0) ([]) (name 374)
    (at 1 5) (plain.params (plain.param_and (plain.param_decl ([]) (plain.spec (at 1 7)
    (plain.words (keys.Int ∷ [])) 0) (plain.named (plain.declr ([]) (name 375) (at 1 11)
    (plain.sizes plain.no_sizes)))) plain.no_params) false None)) (plain.block (at 1 14)
    (plain.stmt_and (plain.for (at 1 16) (plain.start_expr None) None None
    (plain.block (at 1 25) (plain.stmt_and (plain.if_only (at 1 27) (plain.binary (at 1 33) puncts.Greater
    (plain.word (at 1 31) (name 375)) (plain.int (at 1 35) (pos 2) false false))
    (plain.return (at 1 38) (Some (plain.word (at 1 45) (name 375))))) (plain.stmt_and
    (plain.do_expr (at 1 48) (Some (plain.post (at 1 49) puncts.PlusPlus (plain.word (at 1 48) (name 375)))))
    plain.no_stmts)) (at 1 53))) plain.no_stmts) (at 1 55)) ∷ []

run_10 : told (last_run file_10 24 ((value.Int (pos 0)) ∷ []) ([]) 200)
    ≡ gives (Some (value.Int (pos 3))) (at 1 38) ([])
run_10 = refl

-- int f(int n) { for (; n > 0;) n -= 2; return n; }
abbrev pub file_11 : List plain.Item
file_11 =
    plain.function_def (plain.head ([]) (plain.spec (at 1 1) (plain.words (keys.Int ∷ [])) 0) ([]) (name 374)
    (at 1 5) (plain.params (plain.param_and (plain.param_decl ([]) (plain.spec (at 1 7)
    (plain.words (keys.Int ∷ [])) 0) (plain.named (plain.declr ([]) (name 375) (at 1 11)
    (plain.sizes plain.no_sizes)))) plain.no_params) false None)) (plain.block (at 1 14)
    (plain.stmt_and (plain.for (at 1 16) (plain.start_expr None) (Some (plain.binary (at 1 25) puncts.Greater
    (plain.word (at 1 23) (name 375)) (plain.int (at 1 27) (pos 0) false false))) None
    (plain.do_expr (at 1 31) (Some (plain.assign (at 1 33) puncts.MinusAssign (plain.word (at 1 31) (name 375))
    (plain.int (at 1 36) (pos 2) false false))))) (plain.stmt_and (plain.return (at 1 39)
    (Some (plain.word (at 1 46) (name 375)))) plain.no_stmts)) (at 1 49)) ∷ []

run_11 : told (last_run file_11 24 ((value.Int (pos 5)) ∷ []) ([]) 200)
    ≡ gives (Some (value.Int (negsuc 0))) (at 1 39) ([])
run_11 = refl

-- int f(int n) { int s = 0; do { n--; if (n == 1) continue; s += 1; } while (n > 0); return s; }
abbrev pub file_12 : List plain.Item
file_12 =
    plain.function_def (plain.head ([]) (plain.spec (at 1 1) (plain.words (keys.Int ∷ [])) 0) ([]) (name 374)
    (at 1 5) (plain.params (plain.param_and (plain.param_decl ([]) (plain.spec (at 1 7)
    (plain.words (keys.Int ∷ [])) 0) (plain.named (plain.declr ([]) (name 375) (at 1 11)
    (plain.sizes plain.no_sizes)))) plain.no_params) false None)) (plain.block (at 1 14)
    (plain.stmt_and (plain.declare (at 1 16) (plain.decl ([]) (plain.spec (at 1 16) (plain.words (keys.Int ∷ [])) 0)
    ((plain.var_decl (plain.declr ([]) (name 376) (at 1 20) (plain.sizes plain.no_sizes))
    (Some (plain.value (plain.int (at 1 24) (pos 0) false false)))) ∷ [])))
    (plain.stmt_and (plain.do_while (at 1 27) (plain.block (at 1 30) (plain.stmt_and
    (plain.do_expr (at 1 32) (Some (plain.post (at 1 33) puncts.MinusMinus (plain.word (at 1 32) (name 375)))))
    (plain.stmt_and (plain.if_only (at 1 37) (plain.binary (at 1 43) puncts.Equal (plain.word (at 1 41) (name 375))
    (plain.int (at 1 46) (pos 1) false false)) (plain.continue (at 1 49)))
    (plain.stmt_and (plain.do_expr (at 1 59) (Some (plain.assign (at 1 61) puncts.PlusAssign
    (plain.word (at 1 59) (name 376)) (plain.int (at 1 64) (pos 1) false false)))) plain.no_stmts))) (at 1 67))
    (plain.binary (at 1 78) puncts.Greater (plain.word (at 1 76) (name 375))
    (plain.int (at 1 80) (pos 0) false false))) (plain.stmt_and (plain.return (at 1 84)
    (Some (plain.word (at 1 91) (name 376)))) plain.no_stmts))) (at 1 94)) ∷ []

run_12 : told (last_run file_12 24 ((value.Int (pos 3)) ∷ []) ([]) 300)
    ≡ gives (Some (value.Int (pos 2))) (at 1 84) ([])
run_12 = refl

-- int f(int n) { int s = 0; while (n > 0) { n--; if (n == 1) continue; s++; } return s; }
abbrev pub file_13 : List plain.Item
file_13 =
    plain.function_def (plain.head ([]) (plain.spec (at 1 1) (plain.words (keys.Int ∷ [])) 0) ([]) (name 374)
    (at 1 5) (plain.params (plain.param_and (plain.param_decl ([]) (plain.spec (at 1 7)
    (plain.words (keys.Int ∷ [])) 0) (plain.named (plain.declr ([]) (name 375) (at 1 11)
    (plain.sizes plain.no_sizes)))) plain.no_params) false None)) (plain.block (at 1 14)
    (plain.stmt_and (plain.declare (at 1 16) (plain.decl ([]) (plain.spec (at 1 16) (plain.words (keys.Int ∷ [])) 0)
    ((plain.var_decl (plain.declr ([]) (name 376) (at 1 20) (plain.sizes plain.no_sizes))
    (Some (plain.value (plain.int (at 1 24) (pos 0) false false)))) ∷ [])))
    (plain.stmt_and (plain.while (at 1 27) (plain.binary (at 1 36) puncts.Greater (plain.word (at 1 34) (name 375))
    (plain.int (at 1 38) (pos 0) false false)) (plain.block (at 1 41) (plain.stmt_and
    (plain.do_expr (at 1 43) (Some (plain.post (at 1 44) puncts.MinusMinus (plain.word (at 1 43) (name 375)))))
    (plain.stmt_and (plain.if_only (at 1 48) (plain.binary (at 1 54) puncts.Equal (plain.word (at 1 52) (name 375))
    (plain.int (at 1 57) (pos 1) false false)) (plain.continue (at 1 60)))
    (plain.stmt_and (plain.do_expr (at 1 70) (Some (plain.post (at 1 71) puncts.PlusPlus
    (plain.word (at 1 70) (name 376))))) plain.no_stmts))) (at 1 75))) (plain.stmt_and
    (plain.return (at 1 77) (Some (plain.word (at 1 84) (name 376)))) plain.no_stmts))) (at 1 87)) ∷ []

run_13 : told (last_run file_13 24 ((value.Int (pos 3)) ∷ []) ([]) 300)
    ≡ gives (Some (value.Int (pos 2))) (at 1 77) ([])
run_13 = refl

-- int f(int n) { int s = 0; int i, j; for (i = 0; i < n; i++) for (j = i; j < n; j++) { if (j == 2) break; s += 1; }
-- return s; }
abbrev pub file_14 : List plain.Item
file_14 =
    plain.function_def (plain.head ([]) (plain.spec (at 1 1) (plain.words (keys.Int ∷ [])) 0) ([]) (name 374)
    (at 1 5) (plain.params (plain.param_and (plain.param_decl ([]) (plain.spec (at 1 7)
    (plain.words (keys.Int ∷ [])) 0) (plain.named (plain.declr ([]) (name 375) (at 1 11)
    (plain.sizes plain.no_sizes)))) plain.no_params) false None)) (plain.block (at 1 14)
    (plain.stmt_and (plain.declare (at 1 16) (plain.decl ([]) (plain.spec (at 1 16) (plain.words (keys.Int ∷ [])) 0)
    ((plain.var_decl (plain.declr ([]) (name 376) (at 1 20) (plain.sizes plain.no_sizes))
    (Some (plain.value (plain.int (at 1 24) (pos 0) false false)))) ∷ [])))
    (plain.stmt_and (plain.declare (at 1 27) (plain.decl ([]) (plain.spec (at 1 27) (plain.words (keys.Int ∷ [])) 0)
    ((plain.var_decl (plain.declr ([]) (name 377) (at 1 31) (plain.sizes plain.no_sizes)) None)
    ∷ (plain.var_decl (plain.declr ([]) (name 378) (at 1 34) (plain.sizes plain.no_sizes)) None) ∷ [])))
    (plain.stmt_and (plain.for (at 1 37) (plain.start_expr (Some (plain.assign (at 1 44) puncts.Assign
    (plain.word (at 1 42) (name 377)) (plain.int (at 1 46) (pos 0) false false))))
    (Some (plain.binary (at 1 51) puncts.Less (plain.word (at 1 49) (name 377)) (plain.word (at 1 53) (name 375))))
    (Some (plain.post (at 1 57) puncts.PlusPlus (plain.word (at 1 56) (name 377))))
    (plain.for (at 1 61) (plain.start_expr (Some (plain.assign (at 1 68) puncts.Assign
    (plain.word (at 1 66) (name 378)) (plain.word (at 1 70) (name 377)))))
    (Some (plain.binary (at 1 75) puncts.Less (plain.word (at 1 73) (name 378)) (plain.word (at 1 77) (name 375))))
    (Some (plain.post (at 1 81) puncts.PlusPlus (plain.word (at 1 80) (name 378))))
    (plain.block (at 1 85) (plain.stmt_and (plain.if_only (at 1 87) (plain.binary (at 1 93) puncts.Equal
    (plain.word (at 1 91) (name 378)) (plain.int (at 1 96) (pos 2) false false)) (plain.break (at 1 99)))
    (plain.stmt_and (plain.do_expr (at 1 106) (Some (plain.assign (at 1 108) puncts.PlusAssign
    (plain.word (at 1 106) (name 376)) (plain.int (at 1 111) (pos 1) false false)))) plain.no_stmts)) (at 1 114))))
    (plain.stmt_and (plain.return (at 1 116) (Some (plain.word (at 1 123) (name 376)))) plain.no_stmts))))
    (at 1 126)) ∷ []

run_14 : told (last_run file_14 24 ((value.Int (pos 4)) ∷ []) ([]) 600)
    ≡ gives (Some (value.Int (pos 4))) (at 1 116) ([])
run_14 = refl

-- ---- Ends

-- void f(int n) { if (n) return; }
abbrev pub file_39 : List plain.Item
file_39 =
    plain.function_def (plain.head ([]) (plain.spec (at 1 1) (plain.words (keys.Void ∷ [])) 0) ([]) (name 374)
    (at 1 6) (plain.params (plain.param_and (plain.param_decl ([]) (plain.spec (at 1 8)
    (plain.words (keys.Int ∷ [])) 0) (plain.named (plain.declr ([]) (name 375) (at 1 12)
    (plain.sizes plain.no_sizes)))) plain.no_params) false None)) (plain.block (at 1 15)
    (plain.stmt_and (plain.if_only (at 1 17) (plain.word (at 1 21) (name 375)) (plain.return (at 1 24) None))
    plain.no_stmts) (at 1 32)) ∷ []

run_39 : told (last_run file_39 24 ((value.Int (pos 1)) ∷ []) ([]) 50) ≡ gives None (at 1 24) ([])
run_39 = refl

-- void f(int n) { if (n) return; }
run_40 : told (last_run file_39 24 ((value.Int (pos 0)) ∷ []) ([]) 50) ≡ gives None (at 1 32) ([])
run_40 = refl

-- int f(int n) { if (n) return 1; }
abbrev pub file_41 : List plain.Item
file_41 =
    plain.function_def (plain.head ([]) (plain.spec (at 1 1) (plain.words (keys.Int ∷ [])) 0) ([]) (name 374)
    (at 1 5) (plain.params (plain.param_and (plain.param_decl ([]) (plain.spec (at 1 7)
    (plain.words (keys.Int ∷ [])) 0) (plain.named (plain.declr ([]) (name 375) (at 1 11)
    (plain.sizes plain.no_sizes)))) plain.no_params) false None)) (plain.block (at 1 14)
    (plain.stmt_and (plain.if_only (at 1 16) (plain.word (at 1 20) (name 375))
    (plain.return (at 1 23) (Some (plain.int (at 1 30) (pos 1) false false)))) plain.no_stmts) (at 1 33)) ∷ []

run_41 : told (last_run file_41 24 ((value.Int (pos 0)) ∷ []) ([]) 50) ≡ stops (at 1 33)
run_41 = refl

-- int f(void) { ; 3; return 4; }
abbrev pub file_42 : List plain.Item
file_42 =
    plain.function_def (plain.head ([]) (plain.spec (at 1 1) (plain.words (keys.Int ∷ [])) 0) ([]) (name 374)
    (at 1 5) (plain.params plain.no_params true None)) (plain.block (at 1 13)
    (plain.stmt_and (plain.do_expr (at 1 15) None) (plain.stmt_and (plain.do_expr (at 1 17)
    (Some (plain.int (at 1 17) (pos 3) false false))) (plain.stmt_and (plain.return (at 1 20)
    (Some (plain.int (at 1 27) (pos 4) false false))) plain.no_stmts))) (at 1 30)) ∷ []

run_42 : told (last_run file_42 24 ([]) ([]) 50) ≡ gives (Some (value.Int (pos 4))) (at 1 20) ([])
run_42 = refl

-- int f(int a) { if (a) if (a > 5) return 1; else return 2; return 3; }
abbrev pub file_43 : List plain.Item
file_43 =
    plain.function_def (plain.head ([]) (plain.spec (at 1 1) (plain.words (keys.Int ∷ [])) 0) ([]) (name 374)
    (at 1 5) (plain.params (plain.param_and (plain.param_decl ([]) (plain.spec (at 1 7)
    (plain.words (keys.Int ∷ [])) 0) (plain.named (plain.declr ([]) (name 375) (at 1 11)
    (plain.sizes plain.no_sizes)))) plain.no_params) false None)) (plain.block (at 1 14)
    (plain.stmt_and (plain.if_only (at 1 16) (plain.word (at 1 20) (name 375))
    (plain.if_else (at 1 23) (plain.binary (at 1 29) puncts.Greater (plain.word (at 1 27) (name 375))
    (plain.int (at 1 31) (pos 5) false false)) (plain.return (at 1 34) (Some
    (plain.int (at 1 41) (pos 1) false false))) (plain.return (at 1 49) (Some
    (plain.int (at 1 56) (pos 2) false false))))) (plain.stmt_and (plain.return (at 1 59)
    (Some (plain.int (at 1 66) (pos 3) false false))) plain.no_stmts)) (at 1 69)) ∷ []

run_43 : told (last_run file_43 24 ((value.Int (pos 1)) ∷ []) ([]) 50) ≡ gives (Some (value.Int (pos 2))) (at 1 49) ([])
run_43 = refl

-- int f(int a) { if (a) if (a > 5) return 1; else return 2; return 3; }
run_44 : told (last_run file_43 24 ((value.Int (pos 0)) ∷ []) ([]) 50) ≡ gives (Some (value.Int (pos 3))) (at 1 59) ([])
run_44 = refl
