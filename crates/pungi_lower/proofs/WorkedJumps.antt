-- How each run of small functions ends, by computing from the definitions: jumps. The expected ends come from a
-- reading of the rules.
use Rattle.std.proofs.Common.{◌≡◌, refl, List, [], ◌∷◌, Some, None, false, pos}
use Rattle.pungi_base.specs.declared.key.Key.TheVariants as keys
use Rattle.pungi_base.specs.declared.punct.Punct.TheVariants as puncts
use Rattle.pungi_base.specs.declared.value.Value.TheVariants as value
use Rattle.pungi_tree.specs.Syntax as plain
use Rattle.pungi_lower.proofs.Worked.{at, name, gives, stops, told, last_run}

-- ---- Jumps

-- int f(int n) { int s = 0; goto in; while (n > 0) in: { s += 1; n--; } return s; }
abbrev pub file_26 : List plain.Item
file_26 =
    plain.function_def (plain.head ([]) (plain.spec (at 1 1) (plain.words (keys.Int ∷ [])) 0) ([]) (name 374)
    (at 1 5) (plain.params (plain.param_and (plain.param_decl ([]) (plain.spec (at 1 7)
    (plain.words (keys.Int ∷ [])) 0) (plain.named (plain.declr ([]) (name 375) (at 1 11)
    (plain.sizes plain.no_sizes)))) plain.no_params) false None)) (plain.block (at 1 14)
    (plain.stmt_and (plain.declare (at 1 16) (plain.decl ([]) (plain.spec (at 1 16) (plain.words (keys.Int ∷ [])) 0)
    ((plain.var_decl (plain.declr ([]) (name 376) (at 1 20) (plain.sizes plain.no_sizes))
    (Some (plain.value (plain.int (at 1 24) (pos 0) false false)))) ∷ [])))
    (plain.stmt_and (plain.goto (at 1 27) (name 377) (at 1 32)) (plain.stmt_and
    (plain.while (at 1 36) (plain.binary (at 1 45) puncts.Greater (plain.word (at 1 43) (name 375))
    (plain.int (at 1 47) (pos 0) false false)) (plain.label (at 1 50) (name 377)
    (plain.block (at 1 54) (plain.stmt_and (plain.do_expr (at 1 56) (Some (plain.assign (at 1 58) puncts.PlusAssign
    (plain.word (at 1 56) (name 376)) (plain.int (at 1 61) (pos 1) false false))))
    (plain.stmt_and (plain.do_expr (at 1 64) (Some (plain.post (at 1 65) puncts.MinusMinus
    (plain.word (at 1 64) (name 375))))) plain.no_stmts)) (at 1 69)))) (plain.stmt_and
    (plain.return (at 1 71) (Some (plain.word (at 1 78) (name 376)))) plain.no_stmts)))) (at 1 81)) ∷ []

run_26 : told (last_run file_26 24 ((value.Int (pos 0)) ∷ []) ([]) 200)
    ≡ gives (Some (value.Int (pos 1))) (at 1 71) ([])
run_26 = refl

-- int f(int n) { int s = 0; goto in; while (n > 0) in: { s += 1; n--; } return s; }
run_27 : told (last_run file_26 24 ((value.Int (pos 2)) ∷ []) ([]) 200)
    ≡ gives (Some (value.Int (pos 2))) (at 1 71) ([])
run_27 = refl

-- int f(int n) { if (n == 100) in: n = n + 5; if (n < 10) goto in; return n; }
abbrev pub file_28 : List plain.Item
file_28 =
    plain.function_def (plain.head ([]) (plain.spec (at 1 1) (plain.words (keys.Int ∷ [])) 0) ([]) (name 374)
    (at 1 5) (plain.params (plain.param_and (plain.param_decl ([]) (plain.spec (at 1 7)
    (plain.words (keys.Int ∷ [])) 0) (plain.named (plain.declr ([]) (name 375) (at 1 11)
    (plain.sizes plain.no_sizes)))) plain.no_params) false None)) (plain.block (at 1 14)
    (plain.stmt_and (plain.if_only (at 1 16) (plain.binary (at 1 22) puncts.Equal (plain.word (at 1 20) (name 375))
    (plain.int (at 1 25) (pos 100) false false)) (plain.label (at 1 30) (name 376)
    (plain.do_expr (at 1 34) (Some (plain.assign (at 1 36) puncts.Assign (plain.word (at 1 34) (name 375))
    (plain.binary (at 1 40) puncts.Plus (plain.word (at 1 38) (name 375)) (plain.int (at 1 42) (pos 5) false
    false))))))) (plain.stmt_and (plain.if_only (at 1 45) (plain.binary (at 1 51) puncts.Less
    (plain.word (at 1 49) (name 375)) (plain.int (at 1 53) (pos 10) false false))
    (plain.goto (at 1 57) (name 376) (at 1 62))) (plain.stmt_and (plain.return (at 1 66)
    (Some (plain.word (at 1 73) (name 375)))) plain.no_stmts))) (at 1 76)) ∷ []

run_28 : told (last_run file_28 24 ((value.Int (pos 1)) ∷ []) ([]) 200)
    ≡ gives (Some (value.Int (pos 11))) (at 1 66) ([])
run_28 = refl

-- int f(int n) { if (n == 0) n = 1; else in: n = n + 2; if (n < 4) goto in; return n; }
abbrev pub file_29 : List plain.Item
file_29 =
    plain.function_def (plain.head ([]) (plain.spec (at 1 1) (plain.words (keys.Int ∷ [])) 0) ([]) (name 374)
    (at 1 5) (plain.params (plain.param_and (plain.param_decl ([]) (plain.spec (at 1 7)
    (plain.words (keys.Int ∷ [])) 0) (plain.named (plain.declr ([]) (name 375) (at 1 11)
    (plain.sizes plain.no_sizes)))) plain.no_params) false None)) (plain.block (at 1 14)
    (plain.stmt_and (plain.if_else (at 1 16) (plain.binary (at 1 22) puncts.Equal (plain.word (at 1 20) (name 375))
    (plain.int (at 1 25) (pos 0) false false)) (plain.do_expr (at 1 28) (Some
    (plain.assign (at 1 30) puncts.Assign (plain.word (at 1 28) (name 375))
    (plain.int (at 1 32) (pos 1) false false)))) (plain.label (at 1 40) (name 376)
    (plain.do_expr (at 1 44) (Some (plain.assign (at 1 46) puncts.Assign (plain.word (at 1 44) (name 375))
    (plain.binary (at 1 50) puncts.Plus (plain.word (at 1 48) (name 375)) (plain.int (at 1 52) (pos 2) false
    false))))))) (plain.stmt_and (plain.if_only (at 1 55) (plain.binary (at 1 61) puncts.Less
    (plain.word (at 1 59) (name 375)) (plain.int (at 1 63) (pos 4) false false))
    (plain.goto (at 1 66) (name 376) (at 1 71))) (plain.stmt_and (plain.return (at 1 75)
    (Some (plain.word (at 1 82) (name 375)))) plain.no_stmts))) (at 1 85)) ∷ []

run_29 : told (last_run file_29 24 ((value.Int (pos 0)) ∷ []) ([]) 200)
    ≡ gives (Some (value.Int (pos 5))) (at 1 75) ([])
run_29 = refl

-- int f(int n) { while (1) { while (1) { if (n > 3) goto out; n++; } } out: return n; }
abbrev pub file_30 : List plain.Item
file_30 =
    plain.function_def (plain.head ([]) (plain.spec (at 1 1) (plain.words (keys.Int ∷ [])) 0) ([]) (name 374)
    (at 1 5) (plain.params (plain.param_and (plain.param_decl ([]) (plain.spec (at 1 7)
    (plain.words (keys.Int ∷ [])) 0) (plain.named (plain.declr ([]) (name 375) (at 1 11)
    (plain.sizes plain.no_sizes)))) plain.no_params) false None)) (plain.block (at 1 14)
    (plain.stmt_and (plain.while (at 1 16) (plain.int (at 1 23) (pos 1) false false)
    (plain.block (at 1 26) (plain.stmt_and (plain.while (at 1 28) (plain.int (at 1 35) (pos 1) false false)
    (plain.block (at 1 38) (plain.stmt_and (plain.if_only (at 1 40) (plain.binary (at 1 46) puncts.Greater
    (plain.word (at 1 44) (name 375)) (plain.int (at 1 48) (pos 3) false false))
    (plain.goto (at 1 51) (name 376) (at 1 56))) (plain.stmt_and (plain.do_expr (at 1 61)
    (Some (plain.post (at 1 62) puncts.PlusPlus (plain.word (at 1 61) (name 375))))) plain.no_stmts)) (at 1 66)))
    plain.no_stmts) (at 1 68))) (plain.stmt_and (plain.label (at 1 70) (name 376)
    (plain.return (at 1 75) (Some (plain.word (at 1 82) (name 375))))) plain.no_stmts)) (at 1 85)) ∷ []

run_30 : told (last_run file_30 24 ((value.Int (pos 0)) ∷ []) ([]) 300)
    ≡ gives (Some (value.Int (pos 4))) (at 1 75) ([])
run_30 = refl

-- int f(int n) { { int a = 1; again: a = a + a; n--; if (n > 0) goto again; return a; } }
abbrev pub file_31 : List plain.Item
file_31 =
    plain.function_def (plain.head ([]) (plain.spec (at 1 1) (plain.words (keys.Int ∷ [])) 0) ([]) (name 374)
    (at 1 5) (plain.params (plain.param_and (plain.param_decl ([]) (plain.spec (at 1 7)
    (plain.words (keys.Int ∷ [])) 0) (plain.named (plain.declr ([]) (name 375) (at 1 11)
    (plain.sizes plain.no_sizes)))) plain.no_params) false None)) (plain.block (at 1 14)
    (plain.stmt_and (plain.block (at 1 16) (plain.stmt_and (plain.declare (at 1 18)
    (plain.decl ([]) (plain.spec (at 1 18) (plain.words (keys.Int ∷ [])) 0)
    ((plain.var_decl (plain.declr ([]) (name 376) (at 1 22) (plain.sizes plain.no_sizes))
    (Some (plain.value (plain.int (at 1 26) (pos 1) false false)))) ∷ [])))
    (plain.stmt_and (plain.label (at 1 29) (name 377) (plain.do_expr (at 1 36)
    (Some (plain.assign (at 1 38) puncts.Assign (plain.word (at 1 36) (name 376))
    (plain.binary (at 1 42) puncts.Plus (plain.word (at 1 40) (name 376)) (plain.word (at 1 44) (name 376)))))))
    (plain.stmt_and (plain.do_expr (at 1 47) (Some (plain.post (at 1 48) puncts.MinusMinus
    (plain.word (at 1 47) (name 375))))) (plain.stmt_and (plain.if_only (at 1 52)
    (plain.binary (at 1 58) puncts.Greater (plain.word (at 1 56) (name 375))
    (plain.int (at 1 60) (pos 0) false false)) (plain.goto (at 1 63) (name 377) (at 1 68)))
    (plain.stmt_and (plain.return (at 1 75) (Some (plain.word (at 1 82) (name 376)))) plain.no_stmts))))) (at 1 85))
    plain.no_stmts) (at 1 87)) ∷ []

run_31 : told (last_run file_31 24 ((value.Int (pos 3)) ∷ []) ([]) 300)
    ≡ gives (Some (value.Int (pos 8))) (at 1 75) ([])
run_31 = refl

-- int f(int n) { int s = 0; int i = 5; goto in; for (i = 0; i < 7; i++) in: s += i; return s; }
abbrev pub file_32 : List plain.Item
file_32 =
    plain.function_def (plain.head ([]) (plain.spec (at 1 1) (plain.words (keys.Int ∷ [])) 0) ([]) (name 374)
    (at 1 5) (plain.params (plain.param_and (plain.param_decl ([]) (plain.spec (at 1 7)
    (plain.words (keys.Int ∷ [])) 0) (plain.named (plain.declr ([]) (name 375) (at 1 11)
    (plain.sizes plain.no_sizes)))) plain.no_params) false None)) (plain.block (at 1 14)
    (plain.stmt_and (plain.declare (at 1 16) (plain.decl ([]) (plain.spec (at 1 16) (plain.words (keys.Int ∷ [])) 0)
    ((plain.var_decl (plain.declr ([]) (name 376) (at 1 20) (plain.sizes plain.no_sizes))
    (Some (plain.value (plain.int (at 1 24) (pos 0) false false)))) ∷ [])))
    (plain.stmt_and (plain.declare (at 1 27) (plain.decl ([]) (plain.spec (at 1 27) (plain.words (keys.Int ∷ [])) 0)
    ((plain.var_decl (plain.declr ([]) (name 377) (at 1 31) (plain.sizes plain.no_sizes))
    (Some (plain.value (plain.int (at 1 35) (pos 5) false false)))) ∷ [])))
    (plain.stmt_and (plain.goto (at 1 38) (name 378) (at 1 43)) (plain.stmt_and
    (plain.for (at 1 47) (plain.start_expr (Some (plain.assign (at 1 54) puncts.Assign
    (plain.word (at 1 52) (name 377)) (plain.int (at 1 56) (pos 0) false false))))
    (Some (plain.binary (at 1 61) puncts.Less (plain.word (at 1 59) (name 377))
    (plain.int (at 1 63) (pos 7) false false))) (Some (plain.post (at 1 67) puncts.PlusPlus
    (plain.word (at 1 66) (name 377)))) (plain.label (at 1 71) (name 378) (plain.do_expr (at 1 75)
    (Some (plain.assign (at 1 77) puncts.PlusAssign (plain.word (at 1 75) (name 376))
    (plain.word (at 1 80) (name 377))))))) (plain.stmt_and (plain.return (at 1 83)
    (Some (plain.word (at 1 90) (name 376)))) plain.no_stmts))))) (at 1 93)) ∷ []

run_32 : told (last_run file_32 24 ((value.Int (pos 1)) ∷ []) ([]) 300)
    ≡ gives (Some (value.Int (pos 11))) (at 1 83) ([])
run_32 = refl

-- int f(int n) { int s = 0; goto in; for (int i = 0; i < 7; i++) in: s += i; return s; }
abbrev pub file_33 : List plain.Item
file_33 =
    plain.function_def (plain.head ([]) (plain.spec (at 1 1) (plain.words (keys.Int ∷ [])) 0) ([]) (name 374)
    (at 1 5) (plain.params (plain.param_and (plain.param_decl ([]) (plain.spec (at 1 7)
    (plain.words (keys.Int ∷ [])) 0) (plain.named (plain.declr ([]) (name 375) (at 1 11)
    (plain.sizes plain.no_sizes)))) plain.no_params) false None)) (plain.block (at 1 14)
    (plain.stmt_and (plain.declare (at 1 16) (plain.decl ([]) (plain.spec (at 1 16) (plain.words (keys.Int ∷ [])) 0)
    ((plain.var_decl (plain.declr ([]) (name 376) (at 1 20) (plain.sizes plain.no_sizes))
    (Some (plain.value (plain.int (at 1 24) (pos 0) false false)))) ∷ [])))
    (plain.stmt_and (plain.goto (at 1 27) (name 377) (at 1 32)) (plain.stmt_and
    (plain.for (at 1 36) (plain.start_decl (plain.decl ([]) (plain.spec (at 1 41) (plain.words (keys.Int ∷ [])) 0)
    ((plain.var_decl (plain.declr ([]) (name 378) (at 1 45) (plain.sizes plain.no_sizes))
    (Some (plain.value (plain.int (at 1 49) (pos 0) false false)))) ∷ [])))
    (Some (plain.binary (at 1 54) puncts.Less (plain.word (at 1 52) (name 378))
    (plain.int (at 1 56) (pos 7) false false))) (Some (plain.post (at 1 60) puncts.PlusPlus
    (plain.word (at 1 59) (name 378)))) (plain.label (at 1 64) (name 377) (plain.do_expr (at 1 68)
    (Some (plain.assign (at 1 70) puncts.PlusAssign (plain.word (at 1 68) (name 376))
    (plain.word (at 1 73) (name 378))))))) (plain.stmt_and (plain.return (at 1 76)
    (Some (plain.word (at 1 83) (name 376)))) plain.no_stmts)))) (at 1 86)) ∷ []

run_33 : told (last_run file_33 24 ((value.Int (pos 1)) ∷ []) ([]) 300) ≡ stops (at 1 73)
run_33 = refl

-- int f(int n) { goto in; do in: n++; while (n < 5); return n; }
abbrev pub file_34 : List plain.Item
file_34 =
    plain.function_def (plain.head ([]) (plain.spec (at 1 1) (plain.words (keys.Int ∷ [])) 0) ([]) (name 374)
    (at 1 5) (plain.params (plain.param_and (plain.param_decl ([]) (plain.spec (at 1 7)
    (plain.words (keys.Int ∷ [])) 0) (plain.named (plain.declr ([]) (name 375) (at 1 11)
    (plain.sizes plain.no_sizes)))) plain.no_params) false None)) (plain.block (at 1 14)
    (plain.stmt_and (plain.goto (at 1 16) (name 376) (at 1 21)) (plain.stmt_and
    (plain.do_while (at 1 25) (plain.label (at 1 28) (name 376) (plain.do_expr (at 1 32)
    (Some (plain.post (at 1 33) puncts.PlusPlus (plain.word (at 1 32) (name 375))))))
    (plain.binary (at 1 46) puncts.Less (plain.word (at 1 44) (name 375)) (plain.int (at 1 48) (pos 5) false
    false))) (plain.stmt_and (plain.return (at 1 52) (Some (plain.word (at 1 59) (name 375)))) plain.no_stmts)))
    (at 1 62)) ∷ []

run_34 : told (last_run file_34 24 ((value.Int (pos 9)) ∷ []) ([]) 300)
    ≡ gives (Some (value.Int (pos 10))) (at 1 52) ([])
run_34 = refl

-- int f(int n) { goto b; a: b: n++; return n; }
abbrev pub file_35 : List plain.Item
file_35 =
    plain.function_def (plain.head ([]) (plain.spec (at 1 1) (plain.words (keys.Int ∷ [])) 0) ([]) (name 374)
    (at 1 5) (plain.params (plain.param_and (plain.param_decl ([]) (plain.spec (at 1 7)
    (plain.words (keys.Int ∷ [])) 0) (plain.named (plain.declr ([]) (name 375) (at 1 11)
    (plain.sizes plain.no_sizes)))) plain.no_params) false None)) (plain.block (at 1 14)
    (plain.stmt_and (plain.goto (at 1 16) (name 376) (at 1 21)) (plain.stmt_and
    (plain.label (at 1 24) (name 377) (plain.label (at 1 27) (name 376) (plain.do_expr (at 1 30)
    (Some (plain.post (at 1 31) puncts.PlusPlus (plain.word (at 1 30) (name 375)))))))
    (plain.stmt_and (plain.return (at 1 35) (Some (plain.word (at 1 42) (name 375)))) plain.no_stmts))) (at 1 45))
    ∷ []

run_35 : told (last_run file_35 24 ((value.Int (pos 1)) ∷ []) ([]) 300)
    ≡ gives (Some (value.Int (pos 2))) (at 1 35) ([])
run_35 = refl

-- int f(int n) { switch (n) { case 1: goto x; n = 50; x: n = n + 1; } return n; }
abbrev pub file_36 : List plain.Item
file_36 =
    plain.function_def (plain.head ([]) (plain.spec (at 1 1) (plain.words (keys.Int ∷ [])) 0) ([]) (name 374)
    (at 1 5) (plain.params (plain.param_and (plain.param_decl ([]) (plain.spec (at 1 7)
    (plain.words (keys.Int ∷ [])) 0) (plain.named (plain.declr ([]) (name 375) (at 1 11)
    (plain.sizes plain.no_sizes)))) plain.no_params) false None)) (plain.block (at 1 14)
    (plain.stmt_and (plain.switch (at 1 16) (plain.word (at 1 24) (name 375))
    (plain.block (at 1 27) (plain.stmt_and (plain.case (at 1 29) (plain.int (at 1 34) (pos 1) false false)
    (plain.goto (at 1 37) (name 376) (at 1 42))) (plain.stmt_and (plain.do_expr (at 1 45)
    (Some (plain.assign (at 1 47) puncts.Assign (plain.word (at 1 45) (name 375))
    (plain.int (at 1 49) (pos 50) false false)))) (plain.stmt_and (plain.label (at 1 53) (name 376)
    (plain.do_expr (at 1 56) (Some (plain.assign (at 1 58) puncts.Assign (plain.word (at 1 56) (name 375))
    (plain.binary (at 1 62) puncts.Plus (plain.word (at 1 60) (name 375)) (plain.int (at 1 64) (pos 1) false
    false)))))) plain.no_stmts))) (at 1 67))) (plain.stmt_and (plain.return (at 1 69)
    (Some (plain.word (at 1 76) (name 375)))) plain.no_stmts)) (at 1 79)) ∷ []

run_36 : told (last_run file_36 24 ((value.Int (pos 1)) ∷ []) ([]) 300)
    ≡ gives (Some (value.Int (pos 2))) (at 1 69) ([])
run_36 = refl

-- int f(int n) { int s = 0; for (int i = 0; i < 3; i++) { if (i == 1) goto next; s += 10; next: s += 1; } return s; }
abbrev pub file_37 : List plain.Item
file_37 =
    plain.function_def (plain.head ([]) (plain.spec (at 1 1) (plain.words (keys.Int ∷ [])) 0) ([]) (name 374)
    (at 1 5) (plain.params (plain.param_and (plain.param_decl ([]) (plain.spec (at 1 7)
    (plain.words (keys.Int ∷ [])) 0) (plain.named (plain.declr ([]) (name 375) (at 1 11)
    (plain.sizes plain.no_sizes)))) plain.no_params) false None)) (plain.block (at 1 14)
    (plain.stmt_and (plain.declare (at 1 16) (plain.decl ([]) (plain.spec (at 1 16) (plain.words (keys.Int ∷ [])) 0)
    ((plain.var_decl (plain.declr ([]) (name 376) (at 1 20) (plain.sizes plain.no_sizes))
    (Some (plain.value (plain.int (at 1 24) (pos 0) false false)))) ∷ [])))
    (plain.stmt_and (plain.for (at 1 27) (plain.start_decl (plain.decl ([])
    (plain.spec (at 1 32) (plain.words (keys.Int ∷ [])) 0) ((plain.var_decl
    (plain.declr ([]) (name 377) (at 1 36) (plain.sizes plain.no_sizes)) (Some
    (plain.value (plain.int (at 1 40) (pos 0) false false)))) ∷ []))) (Some
    (plain.binary (at 1 45) puncts.Less (plain.word (at 1 43) (name 377)) (plain.int (at 1 47) (pos 3) false
    false))) (Some (plain.post (at 1 51) puncts.PlusPlus (plain.word (at 1 50) (name 377))))
    (plain.block (at 1 55) (plain.stmt_and (plain.if_only (at 1 57) (plain.binary (at 1 63) puncts.Equal
    (plain.word (at 1 61) (name 377)) (plain.int (at 1 66) (pos 1) false false))
    (plain.goto (at 1 69) (name 378) (at 1 74))) (plain.stmt_and (plain.do_expr (at 1 80)
    (Some (plain.assign (at 1 82) puncts.PlusAssign (plain.word (at 1 80) (name 376))
    (plain.int (at 1 85) (pos 10) false false)))) (plain.stmt_and (plain.label (at 1 89) (name 378)
    (plain.do_expr (at 1 95) (Some (plain.assign (at 1 97) puncts.PlusAssign (plain.word (at 1 95) (name 376))
    (plain.int (at 1 100) (pos 1) false false))))) plain.no_stmts))) (at 1 103)))
    (plain.stmt_and (plain.return (at 1 105) (Some (plain.word (at 1 112) (name 376)))) plain.no_stmts)))
    (at 1 115)) ∷ []

run_37 : told (last_run file_37 24 ((value.Int (pos 1)) ∷ []) ([]) 400)
    ≡ gives (Some (value.Int (pos 23))) (at 1 105) ([])
run_37 = refl

-- int f(int n) { goto in; switch (n) in: { n = n + 1; break; n = n + 100; } return n; }
abbrev pub file_38 : List plain.Item
file_38 =
    plain.function_def (plain.head ([]) (plain.spec (at 1 1) (plain.words (keys.Int ∷ [])) 0) ([]) (name 374)
    (at 1 5) (plain.params (plain.param_and (plain.param_decl ([]) (plain.spec (at 1 7)
    (plain.words (keys.Int ∷ [])) 0) (plain.named (plain.declr ([]) (name 375) (at 1 11)
    (plain.sizes plain.no_sizes)))) plain.no_params) false None)) (plain.block (at 1 14)
    (plain.stmt_and (plain.goto (at 1 16) (name 376) (at 1 21)) (plain.stmt_and
    (plain.switch (at 1 25) (plain.word (at 1 33) (name 375)) (plain.label (at 1 36) (name 376)
    (plain.block (at 1 40) (plain.stmt_and (plain.do_expr (at 1 42) (Some (plain.assign (at 1 44) puncts.Assign
    (plain.word (at 1 42) (name 375)) (plain.binary (at 1 48) puncts.Plus (plain.word (at 1 46) (name 375))
    (plain.int (at 1 50) (pos 1) false false))))) (plain.stmt_and (plain.break (at 1 53))
    (plain.stmt_and (plain.do_expr (at 1 60) (Some (plain.assign (at 1 62) puncts.Assign
    (plain.word (at 1 60) (name 375)) (plain.binary (at 1 66) puncts.Plus (plain.word (at 1 64) (name 375))
    (plain.int (at 1 68) (pos 100) false false))))) plain.no_stmts))) (at 1 73))))
    (plain.stmt_and (plain.return (at 1 75) (Some (plain.word (at 1 82) (name 375)))) plain.no_stmts))) (at 1 85))
    ∷ []

run_38 : told (last_run file_38 24 ((value.Int (pos 1)) ∷ []) ([]) 200)
    ≡ gives (Some (value.Int (pos 2))) (at 1 75) ([])
run_38 = refl
