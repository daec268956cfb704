-- How each run of small functions ends, by computing from the definitions: `switch`. The expected ends come from a
-- reading of the rules.
use Rattle.std.proofs.Common.{◌≡◌, refl, List, [], ◌∷◌, Some, None, false, pos, negsuc}
use Rattle.pungi_base.specs.declared.key.Key.TheVariants as keys
use Rattle.pungi_base.specs.declared.kind.Kind.TheVariants as tokens
use Rattle.pungi_base.specs.declared.punct.Punct.TheVariants as puncts
use Rattle.pungi_base.specs.declared.value.Value.TheVariants as value
use Rattle.pungi_tree.specs.Syntax as plain
use Rattle.pungi_lower.proofs.Worked.{at, name, gives, told, last_run}

-- ---- switch

-- int f(int n) { int s = 0; switch (n) { case 1: s += 1; case 2: s += 10; break; default: s += 100; case 3: s += 1000;
-- } return s; }
abbrev pub file_15 : List plain.Item
file_15 =
    plain.function_def (plain.head ([]) (plain.spec (at 1 1) (plain.words (keys.Int ∷ [])) 0) ([]) (name 374)
    (at 1 5) (plain.params (plain.param_and (plain.param_decl ([]) (plain.spec (at 1 7)
    (plain.words (keys.Int ∷ [])) 0) (plain.named (plain.declr ([]) (name 375) (at 1 11)
    (plain.sizes plain.no_sizes)))) plain.no_params) false None)) (plain.block (at 1 14)
    (plain.stmt_and (plain.declare (at 1 16) (plain.decl ([]) (plain.spec (at 1 16) (plain.words (keys.Int ∷ [])) 0)
    ((plain.var_decl (plain.declr ([]) (name 376) (at 1 20) (plain.sizes plain.no_sizes))
    (Some (plain.value (plain.int (at 1 24) (pos 0) false false)))) ∷ [])))
    (plain.stmt_and (plain.switch (at 1 27) (plain.word (at 1 35) (name 375))
    (plain.block (at 1 38) (plain.stmt_and (plain.case (at 1 40) (plain.int (at 1 45) (pos 1) false false)
    (plain.do_expr (at 1 48) (Some (plain.assign (at 1 50) puncts.PlusAssign (plain.word (at 1 48) (name 376))
    (plain.int (at 1 53) (pos 1) false false))))) (plain.stmt_and (plain.case (at 1 56)
    (plain.int (at 1 61) (pos 2) false false) (plain.do_expr (at 1 64) (Some
    (plain.assign (at 1 66) puncts.PlusAssign (plain.word (at 1 64) (name 376))
    (plain.int (at 1 69) (pos 10) false false))))) (plain.stmt_and (plain.break (at 1 73))
    (plain.stmt_and (plain.default (at 1 80) (plain.do_expr (at 1 89) (Some
    (plain.assign (at 1 91) puncts.PlusAssign (plain.word (at 1 89) (name 376))
    (plain.int (at 1 94) (pos 100) false false))))) (plain.stmt_and (plain.case (at 1 99)
    (plain.int (at 1 104) (pos 3) false false) (plain.do_expr (at 1 107) (Some
    (plain.assign (at 1 109) puncts.PlusAssign (plain.word (at 1 107) (name 376))
    (plain.int (at 1 112) (pos 1000) false false))))) plain.no_stmts))))) (at 1 118)))
    (plain.stmt_and (plain.return (at 1 120) (Some (plain.word (at 1 127) (name 376)))) plain.no_stmts)))
    (at 1 130)) ∷ []

run_15 : told (last_run file_15 24 ((value.Int (pos 1)) ∷ []) ([]) 150)
    ≡ gives (Some (value.Int (pos 11))) (at 1 120) ([])
run_15 = refl

-- int f(int n) { int s = 0; switch (n) { case 1: s += 1; case 2: s += 10; break; default: s += 100; case 3: s += 1000;
-- } return s; }
run_16 : told (last_run file_15 24 ((value.Int (pos 2)) ∷ []) ([]) 150)
    ≡ gives (Some (value.Int (pos 10))) (at 1 120) ([])
run_16 = refl

-- int f(int n) { int s = 0; switch (n) { case 1: s += 1; case 2: s += 10; break; default: s += 100; case 3: s += 1000;
-- } return s; }
run_17 : told (last_run file_15 24 ((value.Int (pos 3)) ∷ []) ([]) 150)
    ≡ gives (Some (value.Int (pos 1000))) (at 1 120) ([])
run_17 = refl

-- int f(int n) { int s = 0; switch (n) { case 1: s += 1; case 2: s += 10; break; default: s += 100; case 3: s += 1000;
-- } return s; }
run_18 : told (last_run file_15 24 ((value.Int (pos 4)) ∷ []) ([]) 150)
    ≡ gives (Some (value.Int (pos 1100))) (at 1 120) ([])
run_18 = refl

-- int f(int n) { int s = 5; switch (n) { case 1: s = 1; } return s; }
abbrev pub file_19 : List plain.Item
file_19 =
    plain.function_def (plain.head ([]) (plain.spec (at 1 1) (plain.words (keys.Int ∷ [])) 0) ([]) (name 374)
    (at 1 5) (plain.params (plain.param_and (plain.param_decl ([]) (plain.spec (at 1 7)
    (plain.words (keys.Int ∷ [])) 0) (plain.named (plain.declr ([]) (name 375) (at 1 11)
    (plain.sizes plain.no_sizes)))) plain.no_params) false None)) (plain.block (at 1 14)
    (plain.stmt_and (plain.declare (at 1 16) (plain.decl ([]) (plain.spec (at 1 16) (plain.words (keys.Int ∷ [])) 0)
    ((plain.var_decl (plain.declr ([]) (name 376) (at 1 20) (plain.sizes plain.no_sizes))
    (Some (plain.value (plain.int (at 1 24) (pos 5) false false)))) ∷ [])))
    (plain.stmt_and (plain.switch (at 1 27) (plain.word (at 1 35) (name 375))
    (plain.block (at 1 38) (plain.stmt_and (plain.case (at 1 40) (plain.int (at 1 45) (pos 1) false false)
    (plain.do_expr (at 1 48) (Some (plain.assign (at 1 50) puncts.Assign (plain.word (at 1 48) (name 376))
    (plain.int (at 1 52) (pos 1) false false))))) plain.no_stmts) (at 1 55)))
    (plain.stmt_and (plain.return (at 1 57) (Some (plain.word (at 1 64) (name 376)))) plain.no_stmts))) (at 1 67))
    ∷ []

run_19 : told (last_run file_19 24 ((value.Int (pos 9)) ∷ []) ([]) 150)
    ≡ gives (Some (value.Int (pos 5))) (at 1 57) ([])
run_19 = refl

-- int f(int n) { switch (n) { case 1: case -2: n = 7; } return n; }
abbrev pub file_20 : List plain.Item
file_20 =
    plain.function_def (plain.head ([]) (plain.spec (at 1 1) (plain.words (keys.Int ∷ [])) 0) ([]) (name 374)
    (at 1 5) (plain.params (plain.param_and (plain.param_decl ([]) (plain.spec (at 1 7)
    (plain.words (keys.Int ∷ [])) 0) (plain.named (plain.declr ([]) (name 375) (at 1 11)
    (plain.sizes plain.no_sizes)))) plain.no_params) false None)) (plain.block (at 1 14)
    (plain.stmt_and (plain.switch (at 1 16) (plain.word (at 1 24) (name 375))
    (plain.block (at 1 27) (plain.stmt_and (plain.case (at 1 29) (plain.int (at 1 34) (pos 1) false false)
    (plain.case (at 1 37) (plain.unary (at 1 42) (tokens.Punct puncts.Minus)
    (plain.int (at 1 43) (pos 2) false false)) (plain.do_expr (at 1 46) (Some
    (plain.assign (at 1 48) puncts.Assign (plain.word (at 1 46) (name 375))
    (plain.int (at 1 50) (pos 7) false false)))))) plain.no_stmts) (at 1 53)))
    (plain.stmt_and (plain.return (at 1 55) (Some (plain.word (at 1 62) (name 375)))) plain.no_stmts)) (at 1 65))
    ∷ []

run_20 : told (last_run file_20 24 ((value.Int (negsuc 1)) ∷ []) ([]) 150)
    ≡ gives (Some (value.Int (pos 7))) (at 1 55) ([])
run_20 = refl

-- int f(int n) { switch (n) { case 1: case -2: n = 7; } return n; }
run_21 : told (last_run file_20 24 ((value.Int (pos 3)) ∷ []) ([]) 150)
    ≡ gives (Some (value.Int (pos 3))) (at 1 55) ([])
run_21 = refl

-- int f(int n) { switch (n) n = 9; return n; }
abbrev pub file_22 : List plain.Item
file_22 =
    plain.function_def (plain.head ([]) (plain.spec (at 1 1) (plain.words (keys.Int ∷ [])) 0) ([]) (name 374)
    (at 1 5) (plain.params (plain.param_and (plain.param_decl ([]) (plain.spec (at 1 7)
    (plain.words (keys.Int ∷ [])) 0) (plain.named (plain.declr ([]) (name 375) (at 1 11)
    (plain.sizes plain.no_sizes)))) plain.no_params) false None)) (plain.block (at 1 14)
    (plain.stmt_and (plain.switch (at 1 16) (plain.word (at 1 24) (name 375))
    (plain.do_expr (at 1 27) (Some (plain.assign (at 1 29) puncts.Assign (plain.word (at 1 27) (name 375))
    (plain.int (at 1 31) (pos 9) false false))))) (plain.stmt_and (plain.return (at 1 34)
    (Some (plain.word (at 1 41) (name 375)))) plain.no_stmts)) (at 1 44)) ∷ []

run_22 : told (last_run file_22 24 ((value.Int (pos 1)) ∷ []) ([]) 150)
    ≡ gives (Some (value.Int (pos 1))) (at 1 34) ([])
run_22 = refl

-- int f(int n) { int s = 0; while (n > 0) { n--; switch (n) { case 1: continue; case 0: break; } s++; } return s; }
abbrev pub file_23 : List plain.Item
file_23 =
    plain.function_def (plain.head ([]) (plain.spec (at 1 1) (plain.words (keys.Int ∷ [])) 0) ([]) (name 374)
    (at 1 5) (plain.params (plain.param_and (plain.param_decl ([]) (plain.spec (at 1 7)
    (plain.words (keys.Int ∷ [])) 0) (plain.named (plain.declr ([]) (name 375) (at 1 11)
    (plain.sizes plain.no_sizes)))) plain.no_params) false None)) (plain.block (at 1 14)
    (plain.stmt_and (plain.declare (at 1 16) (plain.decl ([]) (plain.spec (at 1 16) (plain.words (keys.Int ∷ [])) 0)
    ((plain.var_decl (plain.declr ([]) (name 376) (at 1 20) (plain.sizes plain.no_sizes))
    (Some (plain.value (plain.int (at 1 24) (pos 0) false false)))) ∷ [])))
    (plain.stmt_and (plain.while (at 1 27) (plain.binary (at 1 36) puncts.Greater (plain.word (at 1 34) (name 375))
    (plain.int (at 1 38) (pos 0) false false)) (plain.block (at 1 41) (plain.stmt_and
    (plain.do_expr (at 1 43) (Some (plain.post (at 1 44) puncts.MinusMinus (plain.word (at 1 43) (name 375)))))
    (plain.stmt_and (plain.switch (at 1 48) (plain.word (at 1 56) (name 375))
    (plain.block (at 1 59) (plain.stmt_and (plain.case (at 1 61) (plain.int (at 1 66) (pos 1) false false)
    (plain.continue (at 1 69))) (plain.stmt_and (plain.case (at 1 79) (plain.int (at 1 84) (pos 0) false false)
    (plain.break (at 1 87))) plain.no_stmts)) (at 1 94))) (plain.stmt_and (plain.do_expr (at 1 96)
    (Some (plain.post (at 1 97) puncts.PlusPlus (plain.word (at 1 96) (name 376))))) plain.no_stmts))) (at 1 101)))
    (plain.stmt_and (plain.return (at 1 103) (Some (plain.word (at 1 110) (name 376)))) plain.no_stmts)))
    (at 1 113)) ∷ []

run_23 : told (last_run file_23 24 ((value.Int (pos 3)) ∷ []) ([]) 300)
    ≡ gives (Some (value.Int (pos 2))) (at 1 103) ([])
run_23 = refl

-- int f(int n) { switch (n) { case 1: switch (n + 1) { case 2: n = 20; break; case 1: n = 30; } n++; break; case 20: n
-- = 40; } return n; }
abbrev pub file_24 : List plain.Item
file_24 =
    plain.function_def (plain.head ([]) (plain.spec (at 1 1) (plain.words (keys.Int ∷ [])) 0) ([]) (name 374)
    (at 1 5) (plain.params (plain.param_and (plain.param_decl ([]) (plain.spec (at 1 7)
    (plain.words (keys.Int ∷ [])) 0) (plain.named (plain.declr ([]) (name 375) (at 1 11)
    (plain.sizes plain.no_sizes)))) plain.no_params) false None)) (plain.block (at 1 14)
    (plain.stmt_and (plain.switch (at 1 16) (plain.word (at 1 24) (name 375))
    (plain.block (at 1 27) (plain.stmt_and (plain.case (at 1 29) (plain.int (at 1 34) (pos 1) false false)
    (plain.switch (at 1 37) (plain.binary (at 1 47) puncts.Plus (plain.word (at 1 45) (name 375))
    (plain.int (at 1 49) (pos 1) false false)) (plain.block (at 1 52) (plain.stmt_and
    (plain.case (at 1 54) (plain.int (at 1 59) (pos 2) false false) (plain.do_expr (at 1 62)
    (Some (plain.assign (at 1 64) puncts.Assign (plain.word (at 1 62) (name 375))
    (plain.int (at 1 66) (pos 20) false false))))) (plain.stmt_and (plain.break (at 1 70))
    (plain.stmt_and (plain.case (at 1 77) (plain.int (at 1 82) (pos 1) false false)
    (plain.do_expr (at 1 85) (Some (plain.assign (at 1 87) puncts.Assign (plain.word (at 1 85) (name 375))
    (plain.int (at 1 89) (pos 30) false false))))) plain.no_stmts))) (at 1 93))))
    (plain.stmt_and (plain.do_expr (at 1 95) (Some (plain.post (at 1 96) puncts.PlusPlus
    (plain.word (at 1 95) (name 375))))) (plain.stmt_and (plain.break (at 1 100))
    (plain.stmt_and (plain.case (at 1 107) (plain.int (at 1 112) (pos 20) false false)
    (plain.do_expr (at 1 116) (Some (plain.assign (at 1 118) puncts.Assign (plain.word (at 1 116) (name 375))
    (plain.int (at 1 120) (pos 40) false false))))) plain.no_stmts)))) (at 1 124)))
    (plain.stmt_and (plain.return (at 1 126) (Some (plain.word (at 1 133) (name 375)))) plain.no_stmts)) (at 1 136))
    ∷ []

run_24 : told (last_run file_24 24 ((value.Int (pos 1)) ∷ []) ([]) 300)
    ≡ gives (Some (value.Int (pos 21))) (at 1 126) ([])
run_24 = refl

-- int f(int n) { switch (n) { case 'a': return 1; default: return 2; } }
abbrev pub file_25 : List plain.Item
file_25 =
    plain.function_def (plain.head ([]) (plain.spec (at 1 1) (plain.words (keys.Int ∷ [])) 0) ([]) (name 374)
    (at 1 5) (plain.params (plain.param_and (plain.param_decl ([]) (plain.spec (at 1 7)
    (plain.words (keys.Int ∷ [])) 0) (plain.named (plain.declr ([]) (name 375) (at 1 11)
    (plain.sizes plain.no_sizes)))) plain.no_params) false None)) (plain.block (at 1 14)
    (plain.stmt_and (plain.switch (at 1 16) (plain.word (at 1 24) (name 375))
    (plain.block (at 1 27) (plain.stmt_and (plain.case (at 1 29) (plain.char (at 1 34) 97)
    (plain.return (at 1 39) (Some (plain.int (at 1 46) (pos 1) false false))))
    (plain.stmt_and (plain.default (at 1 49) (plain.return (at 1 58) (Some
    (plain.int (at 1 65) (pos 2) false false)))) plain.no_stmts)) (at 1 68))) plain.no_stmts) (at 1 70)) ∷ []

run_25 : told (last_run file_25 24 ((value.Int (pos 97)) ∷ []) ([]) 80)
    ≡ gives (Some (value.Int (pos 1))) (at 1 39) ([])
run_25 = refl
