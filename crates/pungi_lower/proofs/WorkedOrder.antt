-- How each run of small functions ends, by computing from the definitions: the order of operands. The expected ends
-- come from a reading of the rules.
use Rattle.std.proofs.Common.{◌≡◌, refl, List, [], ◌∷◌, Some, None, true, false, pos}
use Rattle.pungi_base.specs.declared.key.Key.TheVariants as keys
use Rattle.pungi_base.specs.declared.kind.Kind.TheVariants as tokens
use Rattle.pungi_base.specs.declared.punct.Punct.TheVariants as puncts
use Rattle.pungi_base.specs.declared.value.Value.TheVariants as value
use Rattle.pungi_tree.specs.Syntax as plain
use Rattle.pungi_lower.proofs.Worked.{at, name, gives, told, last_run}

-- ---- Order of operands, and operands that are left out

-- int f(int a) { return (a = 1) + (a = 2) * 10 + a; }
abbrev pub file_33 : List plain.Item
file_33 =
    plain.function_def (plain.head ([]) (plain.spec (at 1 1) (plain.words (keys.Int ∷ [])) 0) ([]) (name 374)
    (at 1 5) (plain.params (plain.param_and (plain.param_decl ([]) (plain.spec (at 1 7)
    (plain.words (keys.Int ∷ [])) 0) (plain.named (plain.declr ([]) (name 375) (at 1 11)
    (plain.sizes plain.no_sizes)))) plain.no_params) false None)) (plain.block (at 1 14)
    (plain.stmt_and (plain.return (at 1 16) (Some (plain.binary (at 1 46) puncts.Plus
    (plain.binary (at 1 31) puncts.Plus (plain.paren (at 1 23) (plain.assign (at 1 26) puncts.Assign
    (plain.word (at 1 24) (name 375)) (plain.int (at 1 28) (pos 1) false false)))
    (plain.binary (at 1 41) puncts.Star (plain.paren (at 1 33) (plain.assign (at 1 36) puncts.Assign
    (plain.word (at 1 34) (name 375)) (plain.int (at 1 38) (pos 2) false false)))
    (plain.int (at 1 43) (pos 10) false false))) (plain.word (at 1 48) (name 375))))) plain.no_stmts) (at 1 51))
    ∷ []

run_33 : told (last_run file_33 24 ((value.Int (pos 5)) ∷ []) ([]) 80)
    ≡ gives (Some (value.Int (pos 23))) (at 1 16) ([])
run_33 = refl

-- int f(int a) { return a++ + a; }
abbrev pub file_34 : List plain.Item
file_34 =
    plain.function_def (plain.head ([]) (plain.spec (at 1 1) (plain.words (keys.Int ∷ [])) 0) ([]) (name 374)
    (at 1 5) (plain.params (plain.param_and (plain.param_decl ([]) (plain.spec (at 1 7)
    (plain.words (keys.Int ∷ [])) 0) (plain.named (plain.declr ([]) (name 375) (at 1 11)
    (plain.sizes plain.no_sizes)))) plain.no_params) false None)) (plain.block (at 1 14)
    (plain.stmt_and (plain.return (at 1 16) (Some (plain.binary (at 1 27) puncts.Plus
    (plain.post (at 1 24) puncts.PlusPlus (plain.word (at 1 23) (name 375))) (plain.word (at 1 29) (name 375)))))
    plain.no_stmts) (at 1 32)) ∷ []

run_34 : told (last_run file_34 24 ((value.Int (pos 5)) ∷ []) ([]) 80)
    ≡ gives (Some (value.Int (pos 11))) (at 1 16) ([])
run_34 = refl

-- int f(int a) { return a-- - --a; }
abbrev pub file_35 : List plain.Item
file_35 =
    plain.function_def (plain.head ([]) (plain.spec (at 1 1) (plain.words (keys.Int ∷ [])) 0) ([]) (name 374)
    (at 1 5) (plain.params (plain.param_and (plain.param_decl ([]) (plain.spec (at 1 7)
    (plain.words (keys.Int ∷ [])) 0) (plain.named (plain.declr ([]) (name 375) (at 1 11)
    (plain.sizes plain.no_sizes)))) plain.no_params) false None)) (plain.block (at 1 14)
    (plain.stmt_and (plain.return (at 1 16) (Some (plain.binary (at 1 27) puncts.Minus
    (plain.post (at 1 24) puncts.MinusMinus (plain.word (at 1 23) (name 375)))
    (plain.unary (at 1 29) (tokens.Punct puncts.MinusMinus) (plain.word (at 1 31) (name 375)))))) plain.no_stmts)
    (at 1 34)) ∷ []

run_35 : told (last_run file_35 24 ((value.Int (pos 5)) ∷ []) ([]) 80) ≡ gives (Some (value.Int (pos 2))) (at 1 16) ([])
run_35 = refl

-- int f(int a) { a += a++; return a; }
abbrev pub file_36 : List plain.Item
file_36 =
    plain.function_def (plain.head ([]) (plain.spec (at 1 1) (plain.words (keys.Int ∷ [])) 0) ([]) (name 374)
    (at 1 5) (plain.params (plain.param_and (plain.param_decl ([]) (plain.spec (at 1 7)
    (plain.words (keys.Int ∷ [])) 0) (plain.named (plain.declr ([]) (name 375) (at 1 11)
    (plain.sizes plain.no_sizes)))) plain.no_params) false None)) (plain.block (at 1 14)
    (plain.stmt_and (plain.do_expr (at 1 16) (Some (plain.assign (at 1 18) puncts.PlusAssign
    (plain.word (at 1 16) (name 375)) (plain.post (at 1 22) puncts.PlusPlus (plain.word (at 1 21) (name 375))))))
    (plain.stmt_and (plain.return (at 1 26) (Some (plain.word (at 1 33) (name 375)))) plain.no_stmts)) (at 1 36))
    ∷ []

run_36 : told (last_run file_36 24 ((value.Int (pos 5)) ∷ []) ([]) 80)
    ≡ gives (Some (value.Int (pos 10))) (at 1 26) ([])
run_36 = refl

-- int f(int a, int b) { return a && (b = 7) ? b : b + 1; }
abbrev pub file_37 : List plain.Item
file_37 =
    plain.function_def (plain.head ([]) (plain.spec (at 1 1) (plain.words (keys.Int ∷ [])) 0) ([]) (name 374)
    (at 1 5) (plain.params (plain.param_and (plain.param_decl ([]) (plain.spec (at 1 7)
    (plain.words (keys.Int ∷ [])) 0) (plain.named (plain.declr ([]) (name 375) (at 1 11)
    (plain.sizes plain.no_sizes)))) (plain.param_and (plain.param_decl ([])
    (plain.spec (at 1 14) (plain.words (keys.Int ∷ [])) 0) (plain.named (plain.declr ([]) (name 376) (at 1 18)
    (plain.sizes plain.no_sizes)))) plain.no_params)) false None)) (plain.block (at 1 21)
    (plain.stmt_and (plain.return (at 1 23) (Some (plain.conditional (at 1 43)
    (plain.binary (at 1 32) puncts.AndAnd (plain.word (at 1 30) (name 375))
    (plain.paren (at 1 35) (plain.assign (at 1 38) puncts.Assign (plain.word (at 1 36) (name 376))
    (plain.int (at 1 40) (pos 7) false false)))) (plain.word (at 1 45) (name 376))
    (plain.binary (at 1 51) puncts.Plus (plain.word (at 1 49) (name 376)) (plain.int (at 1 53) (pos 1) false
    false))))) plain.no_stmts) (at 1 56)) ∷ []

run_37 : told (last_run file_37 24 ((value.Int (pos 0)) ∷ (value.Int (pos 3)) ∷ []) ([]) 80)
    ≡ gives (Some (value.Int (pos 4))) (at 1 23) ([])
run_37 = refl

-- int f(int a, int b) { return a && (b = 7) ? b : b + 1; }
run_38 : told (last_run file_37 24 ((value.Int (pos 1)) ∷ (value.Int (pos 3)) ∷ []) ([]) 80)
    ≡ gives (Some (value.Int (pos 7))) (at 1 23) ([])
run_38 = refl

-- int f(int a, int b) { a || (b = 7); return b; }
abbrev pub file_39 : List plain.Item
file_39 =
    plain.function_def (plain.head ([]) (plain.spec (at 1 1) (plain.words (keys.Int ∷ [])) 0) ([]) (name 374)
    (at 1 5) (plain.params (plain.param_and (plain.param_decl ([]) (plain.spec (at 1 7)
    (plain.words (keys.Int ∷ [])) 0) (plain.named (plain.declr ([]) (name 375) (at 1 11)
    (plain.sizes plain.no_sizes)))) (plain.param_and (plain.param_decl ([])
    (plain.spec (at 1 14) (plain.words (keys.Int ∷ [])) 0) (plain.named (plain.declr ([]) (name 376) (at 1 18)
    (plain.sizes plain.no_sizes)))) plain.no_params)) false None)) (plain.block (at 1 21)
    (plain.stmt_and (plain.do_expr (at 1 23) (Some (plain.binary (at 1 25) puncts.OrOr
    (plain.word (at 1 23) (name 375)) (plain.paren (at 1 28) (plain.assign (at 1 31) puncts.Assign
    (plain.word (at 1 29) (name 376)) (plain.int (at 1 33) (pos 7) false false))))))
    (plain.stmt_and (plain.return (at 1 37) (Some (plain.word (at 1 44) (name 376)))) plain.no_stmts)) (at 1 47))
    ∷ []

run_39 : told (last_run file_39 24 ((value.Int (pos 1)) ∷ (value.Int (pos 3)) ∷ []) ([]) 80)
    ≡ gives (Some (value.Int (pos 3))) (at 1 37) ([])
run_39 = refl

-- int f(int a, int b) { a || (b = 7); return b; }
run_40 : told (last_run file_39 24 ((value.Int (pos 0)) ∷ (value.Int (pos 3)) ∷ []) ([]) 80)
    ≡ gives (Some (value.Int (pos 7))) (at 1 37) ([])
run_40 = refl

-- int f(int a) { return (a && 2) + (a || 0); }
abbrev pub file_41 : List plain.Item
file_41 =
    plain.function_def (plain.head ([]) (plain.spec (at 1 1) (plain.words (keys.Int ∷ [])) 0) ([]) (name 374)
    (at 1 5) (plain.params (plain.param_and (plain.param_decl ([]) (plain.spec (at 1 7)
    (plain.words (keys.Int ∷ [])) 0) (plain.named (plain.declr ([]) (name 375) (at 1 11)
    (plain.sizes plain.no_sizes)))) plain.no_params) false None)) (plain.block (at 1 14)
    (plain.stmt_and (plain.return (at 1 16) (Some (plain.binary (at 1 32) puncts.Plus
    (plain.paren (at 1 23) (plain.binary (at 1 26) puncts.AndAnd (plain.word (at 1 24) (name 375))
    (plain.int (at 1 29) (pos 2) false false))) (plain.paren (at 1 34) (plain.binary (at 1 37) puncts.OrOr
    (plain.word (at 1 35) (name 375)) (plain.int (at 1 40) (pos 0) false false)))))) plain.no_stmts) (at 1 44)) ∷ []

run_41 : told (last_run file_41 24 ((value.Int (pos 3)) ∷ []) ([]) 80) ≡ gives (Some (value.Int (pos 2))) (at 1 16) ([])
run_41 = refl

-- int f(int a) { return (a && 2) + (a || 0); }
run_42 : told (last_run file_41 24 ((value.Int (pos 0)) ∷ []) ([]) 80) ≡ gives (Some (value.Int (pos 0))) (at 1 16) ([])
run_42 = refl

-- int f(int a) { return a < 3 == 1; }
abbrev pub file_43 : List plain.Item
file_43 =
    plain.function_def (plain.head ([]) (plain.spec (at 1 1) (plain.words (keys.Int ∷ [])) 0) ([]) (name 374)
    (at 1 5) (plain.params (plain.param_and (plain.param_decl ([]) (plain.spec (at 1 7)
    (plain.words (keys.Int ∷ [])) 0) (plain.named (plain.declr ([]) (name 375) (at 1 11)
    (plain.sizes plain.no_sizes)))) plain.no_params) false None)) (plain.block (at 1 14)
    (plain.stmt_and (plain.return (at 1 16) (Some (plain.binary (at 1 29) puncts.Equal
    (plain.binary (at 1 25) puncts.Less (plain.word (at 1 23) (name 375)) (plain.int (at 1 27) (pos 3) false false))
    (plain.int (at 1 32) (pos 1) false false)))) plain.no_stmts) (at 1 35)) ∷ []

run_43 : told (last_run file_43 24 ((value.Int (pos 2)) ∷ []) ([]) 80) ≡ gives (Some (value.Int (pos 1))) (at 1 16) ([])
run_43 = refl

-- int f(int a) { return !a; }
abbrev pub file_44 : List plain.Item
file_44 =
    plain.function_def (plain.head ([]) (plain.spec (at 1 1) (plain.words (keys.Int ∷ [])) 0) ([]) (name 374)
    (at 1 5) (plain.params (plain.param_and (plain.param_decl ([]) (plain.spec (at 1 7)
    (plain.words (keys.Int ∷ [])) 0) (plain.named (plain.declr ([]) (name 375) (at 1 11)
    (plain.sizes plain.no_sizes)))) plain.no_params) false None)) (plain.block (at 1 14)
    (plain.stmt_and (plain.return (at 1 16) (Some (plain.unary (at 1 23) (tokens.Punct puncts.Not)
    (plain.word (at 1 24) (name 375))))) plain.no_stmts) (at 1 27)) ∷ []

run_44 : told (last_run file_44 24 ((value.Int (pos 0)) ∷ []) ([]) 80) ≡ gives (Some (value.Int (pos 1))) (at 1 16) ([])
run_44 = refl

-- int f(int a) { return !a; }
run_45 : told (last_run file_44 24 ((value.Int (pos 5)) ∷ []) ([]) 80) ≡ gives (Some (value.Int (pos 0))) (at 1 16) ([])
run_45 = refl

-- int f(int a, int b) { return (a < b) + (a <= b) * 10 + (a > b) * 100 + (a >= b) * 1000 + (a == b) * 10000 + (a != b)
-- * 100000; }
abbrev pub file_46 : List plain.Item
file_46 =
    plain.function_def (plain.head ([]) (plain.spec (at 1 1) (plain.words (keys.Int ∷ [])) 0) ([]) (name 374)
    (at 1 5) (plain.params (plain.param_and (plain.param_decl ([]) (plain.spec (at 1 7)
    (plain.words (keys.Int ∷ [])) 0) (plain.named (plain.declr ([]) (name 375) (at 1 11)
    (plain.sizes plain.no_sizes)))) (plain.param_and (plain.param_decl ([])
    (plain.spec (at 1 14) (plain.words (keys.Int ∷ [])) 0) (plain.named (plain.declr ([]) (name 376) (at 1 18)
    (plain.sizes plain.no_sizes)))) plain.no_params)) false None)) (plain.block (at 1 21)
    (plain.stmt_and (plain.return (at 1 23) (Some (plain.binary (at 1 107) puncts.Plus
    (plain.binary (at 1 88) puncts.Plus (plain.binary (at 1 70) puncts.Plus
    (plain.binary (at 1 54) puncts.Plus (plain.binary (at 1 38) puncts.Plus
    (plain.paren (at 1 30) (plain.binary (at 1 33) puncts.Less (plain.word (at 1 31) (name 375))
    (plain.word (at 1 35) (name 376)))) (plain.binary (at 1 49) puncts.Star
    (plain.paren (at 1 40) (plain.binary (at 1 43) puncts.LessEqual (plain.word (at 1 41) (name 375))
    (plain.word (at 1 46) (name 376)))) (plain.int (at 1 51) (pos 10) false false)))
    (plain.binary (at 1 64) puncts.Star (plain.paren (at 1 56) (plain.binary (at 1 59) puncts.Greater
    (plain.word (at 1 57) (name 375)) (plain.word (at 1 61) (name 376)))) (plain.int (at 1 66) (pos 100) false
    false))) (plain.binary (at 1 81) puncts.Star (plain.paren (at 1 72) (plain.binary (at 1 75) puncts.GreaterEqual
    (plain.word (at 1 73) (name 375)) (plain.word (at 1 78) (name 376)))) (plain.int (at 1 83) (pos 1000) false
    false))) (plain.binary (at 1 99) puncts.Star (plain.paren (at 1 90) (plain.binary (at 1 93) puncts.Equal
    (plain.word (at 1 91) (name 375)) (plain.word (at 1 96) (name 376)))) (plain.int (at 1 101) (pos 10000) false
    false))) (plain.binary (at 1 118) puncts.Star (plain.paren (at 1 109) (plain.binary (at 1 112) puncts.NotEqual
    (plain.word (at 1 110) (name 375)) (plain.word (at 1 115) (name 376))))
    (plain.int (at 1 120) (pos 100000) false false))))) plain.no_stmts) (at 1 128)) ∷ []

run_46 : told (last_run file_46 24 ((value.Int (pos 1)) ∷ (value.Int (pos 2)) ∷ []) ([]) 120)
    ≡ gives (Some (value.Int (pos 100011))) (at 1 23) ([])
run_46 = refl

-- int f(int a, int b) { return (a < b) + (a <= b) * 10 + (a > b) * 100 + (a >= b) * 1000 + (a == b) * 10000 + (a != b)
-- * 100000; }
run_47 : told (last_run file_46 24 ((value.Int (pos 2)) ∷ (value.Int (pos 2)) ∷ []) ([]) 120)
    ≡ gives (Some (value.Int (pos 11010))) (at 1 23) ([])
run_47 = refl

-- int f(int a, int b) { return (a < b) + (a <= b) * 10 + (a > b) * 100 + (a >= b) * 1000 + (a == b) * 10000 + (a != b)
-- * 100000; }
run_48 : told (last_run file_46 24 ((value.Int (pos 3)) ∷ (value.Int (pos 2)) ∷ []) ([]) 120)
    ≡ gives (Some (value.Int (pos 101100))) (at 1 23) ([])
run_48 = refl

-- int f(PyObject *x, PyObject *y) { return (x == y) + (x != NULL) * 10 + (NULL == y) * 100 + !x * 1000; }
abbrev pub file_49 : List plain.Item
file_49 =
    plain.function_def (plain.head ([]) (plain.spec (at 1 1) (plain.words (keys.Int ∷ [])) 0) ([]) (name 374)
    (at 1 5) (plain.params (plain.param_and (plain.param_decl ([]) (plain.spec (at 1 7) (plain.alias (name 48)) 0)
    (plain.named (plain.declr (0 ∷ []) (name 375) (at 1 17) (plain.sizes plain.no_sizes))))
    (plain.param_and (plain.param_decl ([]) (plain.spec (at 1 20) (plain.alias (name 48)) 0)
    (plain.named (plain.declr (0 ∷ []) (name 376) (at 1 30) (plain.sizes plain.no_sizes)))) plain.no_params)) false
    None)) (plain.block (at 1 33) (plain.stmt_and (plain.return (at 1 35) (Some
    (plain.binary (at 1 90) puncts.Plus (plain.binary (at 1 70) puncts.Plus
    (plain.binary (at 1 51) puncts.Plus (plain.paren (at 1 42) (plain.binary (at 1 45) puncts.Equal
    (plain.word (at 1 43) (name 375)) (plain.word (at 1 48) (name 376)))) (plain.binary (at 1 65) puncts.Star
    (plain.paren (at 1 53) (plain.binary (at 1 56) puncts.NotEqual (plain.word (at 1 54) (name 375))
    (plain.null (at 1 59)))) (plain.int (at 1 67) (pos 10) false false))) (plain.binary (at 1 84) puncts.Star
    (plain.paren (at 1 72) (plain.binary (at 1 78) puncts.Equal (plain.null (at 1 73))
    (plain.word (at 1 81) (name 376)))) (plain.int (at 1 86) (pos 100) false false)))
    (plain.binary (at 1 95) puncts.Star (plain.unary (at 1 92) (tokens.Punct puncts.Not)
    (plain.word (at 1 93) (name 375))) (plain.int (at 1 97) (pos 1000) false false))))) plain.no_stmts) (at 1 103))
    ∷ []

run_49 : told (last_run file_49 24 ((value.Object 3) ∷ value.Null ∷ []) ([]) 120)
    ≡ gives (Some (value.Int (pos 110))) (at 1 35) ([])
run_49 = refl

-- int f(PyObject *x, PyObject *y) { return (x == y) + (x != NULL) * 10 + (NULL == y) * 100 + !x * 1000; }
run_50 : told (last_run file_49 24 ((value.Object 3) ∷ (value.Object 3) ∷ []) ([]) 120)
    ≡ gives (Some (value.Int (pos 11))) (at 1 35) ([])
run_50 = refl

-- int f(PyObject *x, PyObject *y) { return (x == y) + (x != NULL) * 10 + (NULL == y) * 100 + !x * 1000; }
run_51 : told (last_run file_49 24 (value.Null ∷ value.Null ∷ []) ([]) 120)
    ≡ gives (Some (value.Int (pos 1101))) (at 1 35) ([])
run_51 = refl

-- long f(int a, long b) { return a ? a : b; }
abbrev pub file_52 : List plain.Item
file_52 =
    plain.function_def (plain.head ([]) (plain.spec (at 1 1) (plain.words (keys.Long ∷ [])) 0) ([]) (name 374)
    (at 1 6) (plain.params (plain.param_and (plain.param_decl ([]) (plain.spec (at 1 8)
    (plain.words (keys.Int ∷ [])) 0) (plain.named (plain.declr ([]) (name 375) (at 1 12)
    (plain.sizes plain.no_sizes)))) (plain.param_and (plain.param_decl ([])
    (plain.spec (at 1 15) (plain.words (keys.Long ∷ [])) 0) (plain.named (plain.declr ([]) (name 376) (at 1 20)
    (plain.sizes plain.no_sizes)))) plain.no_params)) false None)) (plain.block (at 1 23)
    (plain.stmt_and (plain.return (at 1 25) (Some (plain.conditional (at 1 34) (plain.word (at 1 32) (name 375))
    (plain.word (at 1 36) (name 375)) (plain.word (at 1 40) (name 376))))) plain.no_stmts) (at 1 43)) ∷ []

run_52 : told (last_run file_52 24 ((value.Int (pos 0)) ∷ (value.Int (pos 5)) ∷ []) ([]) 80)
    ≡ gives (Some (value.Int (pos 5))) (at 1 25) ([])
run_52 = refl

-- int f(void) { return 'a' + 1; }
abbrev pub file_53 : List plain.Item
file_53 =
    plain.function_def (plain.head ([]) (plain.spec (at 1 1) (plain.words (keys.Int ∷ [])) 0) ([]) (name 374)
    (at 1 5) (plain.params plain.no_params true None)) (plain.block (at 1 13)
    (plain.stmt_and (plain.return (at 1 15) (Some (plain.binary (at 1 26) puncts.Plus (plain.char (at 1 22) 97)
    (plain.int (at 1 28) (pos 1) false false)))) plain.no_stmts) (at 1 31)) ∷ []

run_53 : told (last_run file_53 24 ([]) ([]) 80) ≡ gives (Some (value.Int (pos 98))) (at 1 15) ([])
run_53 = refl
