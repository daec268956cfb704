-- How each run of small functions ends, by computing from the definitions: operators at the ends of their ranges, and
-- conversions. The expected ends come from a reading of the rules.
use Rattle.std.proofs.Common.{◌≡◌, refl, List, [], ◌∷◌, Some, None, true, false, pos, negsuc}
use Rattle.pungi_base.specs.declared.key.Key.TheVariants as keys
use Rattle.pungi_base.specs.declared.kind.Kind.TheVariants as tokens
use Rattle.pungi_base.specs.declared.punct.Punct.TheVariants as puncts
use Rattle.pungi_base.specs.declared.value.Value.TheVariants as value
use Rattle.pungi_tree.specs.Syntax as plain
use Rattle.pungi_lower.proofs.Worked.{at, name, gives, stops, told, last_run}

-- ---- Operators at the ends of their ranges

-- int f(int a) { return a + 1; }
abbrev pub file_0 : List plain.Item
file_0 =
    plain.function_def (plain.head ([]) (plain.spec (at 1 1) (plain.words (keys.Int ∷ [])) 0) ([]) (name 374)
    (at 1 5) (plain.params (plain.param_and (plain.param_decl ([]) (plain.spec (at 1 7)
    (plain.words (keys.Int ∷ [])) 0) (plain.named (plain.declr ([]) (name 375) (at 1 11)
    (plain.sizes plain.no_sizes)))) plain.no_params) false None)) (plain.block (at 1 14)
    (plain.stmt_and (plain.return (at 1 16) (Some (plain.binary (at 1 25) puncts.Plus
    (plain.word (at 1 23) (name 375)) (plain.int (at 1 27) (pos 1) false false)))) plain.no_stmts) (at 1 30)) ∷ []

run_0 : told (last_run file_0 24 ((value.Int (pos 2147483647)) ∷ []) ([]) 50) ≡ stops (at 1 25)
run_0 = refl

-- int f(int a) { return a + 1; }
run_1 : told (last_run file_0 24 ((value.Int (pos 2147483646)) ∷ []) ([]) 50)
    ≡ gives (Some (value.Int (pos 2147483647))) (at 1 16) ([])
run_1 = refl

-- int f(int a) { return a - 1; }
abbrev pub file_2 : List plain.Item
file_2 =
    plain.function_def (plain.head ([]) (plain.spec (at 1 1) (plain.words (keys.Int ∷ [])) 0) ([]) (name 374)
    (at 1 5) (plain.params (plain.param_and (plain.param_decl ([]) (plain.spec (at 1 7)
    (plain.words (keys.Int ∷ [])) 0) (plain.named (plain.declr ([]) (name 375) (at 1 11)
    (plain.sizes plain.no_sizes)))) plain.no_params) false None)) (plain.block (at 1 14)
    (plain.stmt_and (plain.return (at 1 16) (Some (plain.binary (at 1 25) puncts.Minus
    (plain.word (at 1 23) (name 375)) (plain.int (at 1 27) (pos 1) false false)))) plain.no_stmts) (at 1 30)) ∷ []

run_2 : told (last_run file_2 24 ((value.Int (negsuc 2147483647)) ∷ []) ([]) 50) ≡ stops (at 1 25)
run_2 = refl

-- int f(int a) { return a - 1; }
run_3 : told (last_run file_2 24 ((value.Int (negsuc 2147483646)) ∷ []) ([]) 50)
    ≡ gives (Some (value.Int (negsuc 2147483647))) (at 1 16) ([])
run_3 = refl

-- int f(int a) { return a * 2; }
abbrev pub file_4 : List plain.Item
file_4 =
    plain.function_def (plain.head ([]) (plain.spec (at 1 1) (plain.words (keys.Int ∷ [])) 0) ([]) (name 374)
    (at 1 5) (plain.params (plain.param_and (plain.param_decl ([]) (plain.spec (at 1 7)
    (plain.words (keys.Int ∷ [])) 0) (plain.named (plain.declr ([]) (name 375) (at 1 11)
    (plain.sizes plain.no_sizes)))) plain.no_params) false None)) (plain.block (at 1 14)
    (plain.stmt_and (plain.return (at 1 16) (Some (plain.binary (at 1 25) puncts.Star
    (plain.word (at 1 23) (name 375)) (plain.int (at 1 27) (pos 2) false false)))) plain.no_stmts) (at 1 30)) ∷ []

run_4 : told (last_run file_4 24 ((value.Int (pos 1073741824)) ∷ []) ([]) 50) ≡ stops (at 1 25)
run_4 = refl

-- int f(int a) { return a * 2; }
run_5 : told (last_run file_4 24 ((value.Int (negsuc 1073741823)) ∷ []) ([]) 50)
    ≡ gives (Some (value.Int (negsuc 2147483647))) (at 1 16) ([])
run_5 = refl

-- int f(int a, int b) { return a / b; }
abbrev pub file_6 : List plain.Item
file_6 =
    plain.function_def (plain.head ([]) (plain.spec (at 1 1) (plain.words (keys.Int ∷ [])) 0) ([]) (name 374)
    (at 1 5) (plain.params (plain.param_and (plain.param_decl ([]) (plain.spec (at 1 7)
    (plain.words (keys.Int ∷ [])) 0) (plain.named (plain.declr ([]) (name 375) (at 1 11)
    (plain.sizes plain.no_sizes)))) (plain.param_and (plain.param_decl ([])
    (plain.spec (at 1 14) (plain.words (keys.Int ∷ [])) 0) (plain.named (plain.declr ([]) (name 376) (at 1 18)
    (plain.sizes plain.no_sizes)))) plain.no_params)) false None)) (plain.block (at 1 21)
    (plain.stmt_and (plain.return (at 1 23) (Some (plain.binary (at 1 32) puncts.Slash
    (plain.word (at 1 30) (name 375)) (plain.word (at 1 34) (name 376))))) plain.no_stmts) (at 1 37)) ∷ []

run_6 : told (last_run file_6 24 ((value.Int (negsuc 2147483647)) ∷ (value.Int (negsuc 0)) ∷ []) ([]) 50)
    ≡ stops (at 1 32)
run_6 = refl

-- int f(int a, int b) { return a / b; }
run_7 : told (last_run file_6 24 ((value.Int (pos 5)) ∷ (value.Int (pos 0)) ∷ []) ([]) 50) ≡ stops (at 1 32)
run_7 = refl

-- int f(int a, int b) { return a / b; }
run_8 : told (last_run file_6 24 ((value.Int (negsuc 6)) ∷ (value.Int (pos 2)) ∷ []) ([]) 50)
    ≡ gives (Some (value.Int (negsuc 2))) (at 1 23) ([])
run_8 = refl

-- int f(int a, int b) { return a / b; }
run_9 : told (last_run file_6 24 ((value.Int (pos 7)) ∷ (value.Int (negsuc 1)) ∷ []) ([]) 50)
    ≡ gives (Some (value.Int (negsuc 2))) (at 1 23) ([])
run_9 = refl

-- int f(int a, int b) { return a % b; }
abbrev pub file_10 : List plain.Item
file_10 =
    plain.function_def (plain.head ([]) (plain.spec (at 1 1) (plain.words (keys.Int ∷ [])) 0) ([]) (name 374)
    (at 1 5) (plain.params (plain.param_and (plain.param_decl ([]) (plain.spec (at 1 7)
    (plain.words (keys.Int ∷ [])) 0) (plain.named (plain.declr ([]) (name 375) (at 1 11)
    (plain.sizes plain.no_sizes)))) (plain.param_and (plain.param_decl ([])
    (plain.spec (at 1 14) (plain.words (keys.Int ∷ [])) 0) (plain.named (plain.declr ([]) (name 376) (at 1 18)
    (plain.sizes plain.no_sizes)))) plain.no_params)) false None)) (plain.block (at 1 21)
    (plain.stmt_and (plain.return (at 1 23) (Some (plain.binary (at 1 32) puncts.Percent
    (plain.word (at 1 30) (name 375)) (plain.word (at 1 34) (name 376))))) plain.no_stmts) (at 1 37)) ∷ []

run_10 : told (last_run file_10 24 ((value.Int (negsuc 6)) ∷ (value.Int (pos 2)) ∷ []) ([]) 50)
    ≡ gives (Some (value.Int (negsuc 0))) (at 1 23) ([])
run_10 = refl

-- int f(int a, int b) { return a % b; }
run_11 : told (last_run file_10 24 ((value.Int (pos 7)) ∷ (value.Int (negsuc 1)) ∷ []) ([]) 50)
    ≡ gives (Some (value.Int (pos 1))) (at 1 23) ([])
run_11 = refl

-- int f(int a, int b) { return a % b; }
run_12 : told (last_run file_10 24 ((value.Int (negsuc 2147483647)) ∷ (value.Int (negsuc 0)) ∷ []) ([]) 50)
    ≡ gives (Some (value.Int (pos 0))) (at 1 23) ([])
run_12 = refl

-- int f(int a, int b) { return a % b; }
run_13 : told (last_run file_10 24 ((value.Int (pos 5)) ∷ (value.Int (pos 0)) ∷ []) ([]) 50) ≡ stops (at 1 32)
run_13 = refl

-- long f(long a) { return a + 1; }
abbrev pub file_14 : List plain.Item
file_14 =
    plain.function_def (plain.head ([]) (plain.spec (at 1 1) (plain.words (keys.Long ∷ [])) 0) ([]) (name 374)
    (at 1 6) (plain.params (plain.param_and (plain.param_decl ([]) (plain.spec (at 1 8)
    (plain.words (keys.Long ∷ [])) 0) (plain.named (plain.declr ([]) (name 375) (at 1 13)
    (plain.sizes plain.no_sizes)))) plain.no_params) false None)) (plain.block (at 1 16)
    (plain.stmt_and (plain.return (at 1 18) (Some (plain.binary (at 1 27) puncts.Plus
    (plain.word (at 1 25) (name 375)) (plain.int (at 1 29) (pos 1) false false)))) plain.no_stmts) (at 1 32)) ∷ []

run_14 : told (last_run file_14 24 ((value.Int (pos 9223372036854775807)) ∷ []) ([]) 50) ≡ stops (at 1 27)
run_14 = refl

-- long f(int a) { return (long)a + 1; }
abbrev pub file_15 : List plain.Item
file_15 =
    plain.function_def (plain.head ([]) (plain.spec (at 1 1) (plain.words (keys.Long ∷ [])) 0) ([]) (name 374)
    (at 1 6) (plain.params (plain.param_and (plain.param_decl ([]) (plain.spec (at 1 8)
    (plain.words (keys.Int ∷ [])) 0) (plain.named (plain.declr ([]) (name 375) (at 1 12)
    (plain.sizes plain.no_sizes)))) plain.no_params) false None)) (plain.block (at 1 15)
    (plain.stmt_and (plain.return (at 1 17) (Some (plain.binary (at 1 32) puncts.Plus
    (plain.cast (at 1 24) (plain.type_name (plain.spec (at 1 25) (plain.words (keys.Long ∷ [])) 0) ([]))
    (plain.word (at 1 30) (name 375))) (plain.int (at 1 34) (pos 1) false false)))) plain.no_stmts) (at 1 37)) ∷ []

run_15 : told (last_run file_15 24 ((value.Int (pos 2147483647)) ∷ []) ([]) 50)
    ≡ gives (Some (value.Int (pos 2147483648))) (at 1 17) ([])
run_15 = refl

-- int f(int a) { return -a; }
abbrev pub file_16 : List plain.Item
file_16 =
    plain.function_def (plain.head ([]) (plain.spec (at 1 1) (plain.words (keys.Int ∷ [])) 0) ([]) (name 374)
    (at 1 5) (plain.params (plain.param_and (plain.param_decl ([]) (plain.spec (at 1 7)
    (plain.words (keys.Int ∷ [])) 0) (plain.named (plain.declr ([]) (name 375) (at 1 11)
    (plain.sizes plain.no_sizes)))) plain.no_params) false None)) (plain.block (at 1 14)
    (plain.stmt_and (plain.return (at 1 16) (Some (plain.unary (at 1 23) (tokens.Punct puncts.Minus)
    (plain.word (at 1 24) (name 375))))) plain.no_stmts) (at 1 27)) ∷ []

run_16 : told (last_run file_16 24 ((value.Int (negsuc 2147483647)) ∷ []) ([]) 50) ≡ stops (at 1 23)
run_16 = refl

-- int f(int a) { return +a; }
abbrev pub file_17 : List plain.Item
file_17 =
    plain.function_def (plain.head ([]) (plain.spec (at 1 1) (plain.words (keys.Int ∷ [])) 0) ([]) (name 374)
    (at 1 5) (plain.params (plain.param_and (plain.param_decl ([]) (plain.spec (at 1 7)
    (plain.words (keys.Int ∷ [])) 0) (plain.named (plain.declr ([]) (name 375) (at 1 11)
    (plain.sizes plain.no_sizes)))) plain.no_params) false None)) (plain.block (at 1 14)
    (plain.stmt_and (plain.return (at 1 16) (Some (plain.unary (at 1 23) (tokens.Punct puncts.Plus)
    (plain.word (at 1 24) (name 375))))) plain.no_stmts) (at 1 27)) ∷ []

run_17 : told (last_run file_17 24 ((value.Int (negsuc 4)) ∷ []) ([]) 50)
    ≡ gives (Some (value.Int (negsuc 4))) (at 1 16) ([])
run_17 = refl

-- long f(int a, long b) { return a * b; }
abbrev pub file_18 : List plain.Item
file_18 =
    plain.function_def (plain.head ([]) (plain.spec (at 1 1) (plain.words (keys.Long ∷ [])) 0) ([]) (name 374)
    (at 1 6) (plain.params (plain.param_and (plain.param_decl ([]) (plain.spec (at 1 8)
    (plain.words (keys.Int ∷ [])) 0) (plain.named (plain.declr ([]) (name 375) (at 1 12)
    (plain.sizes plain.no_sizes)))) (plain.param_and (plain.param_decl ([])
    (plain.spec (at 1 15) (plain.words (keys.Long ∷ [])) 0) (plain.named (plain.declr ([]) (name 376) (at 1 20)
    (plain.sizes plain.no_sizes)))) plain.no_params)) false None)) (plain.block (at 1 23)
    (plain.stmt_and (plain.return (at 1 25) (Some (plain.binary (at 1 34) puncts.Star
    (plain.word (at 1 32) (name 375)) (plain.word (at 1 36) (name 376))))) plain.no_stmts) (at 1 39)) ∷ []

run_18 : told (last_run file_18 24 ((value.Int (pos 2147483647)) ∷ (value.Int (pos 2)) ∷ []) ([]) 50)
    ≡ gives (Some (value.Int (pos 4294967294))) (at 1 25) ([])
run_18 = refl

-- long f(void) { return -9223372036854775807 - 1; }
abbrev pub file_19 : List plain.Item
file_19 =
    plain.function_def (plain.head ([]) (plain.spec (at 1 1) (plain.words (keys.Long ∷ [])) 0) ([]) (name 374)
    (at 1 6) (plain.params plain.no_params true None)) (plain.block (at 1 14)
    (plain.stmt_and (plain.return (at 1 16) (Some (plain.binary (at 1 44) puncts.Minus
    (plain.unary (at 1 23) (tokens.Punct puncts.Minus) (plain.int (at 1 24) (pos 9223372036854775807) true false))
    (plain.int (at 1 46) (pos 1) false false)))) plain.no_stmts) (at 1 49)) ∷ []

run_19 : told (last_run file_19 24 ([]) ([]) 50) ≡ gives (Some (value.Int (negsuc 9223372036854775807))) (at 1 16) ([])
run_19 = refl

-- int f(int a) { a += 1; return a; }
abbrev pub file_20 : List plain.Item
file_20 =
    plain.function_def (plain.head ([]) (plain.spec (at 1 1) (plain.words (keys.Int ∷ [])) 0) ([]) (name 374)
    (at 1 5) (plain.params (plain.param_and (plain.param_decl ([]) (plain.spec (at 1 7)
    (plain.words (keys.Int ∷ [])) 0) (plain.named (plain.declr ([]) (name 375) (at 1 11)
    (plain.sizes plain.no_sizes)))) plain.no_params) false None)) (plain.block (at 1 14)
    (plain.stmt_and (plain.do_expr (at 1 16) (Some (plain.assign (at 1 18) puncts.PlusAssign
    (plain.word (at 1 16) (name 375)) (plain.int (at 1 21) (pos 1) false false))))
    (plain.stmt_and (plain.return (at 1 24) (Some (plain.word (at 1 31) (name 375)))) plain.no_stmts)) (at 1 34))
    ∷ []

run_20 : told (last_run file_20 24 ((value.Int (pos 2147483647)) ∷ []) ([]) 50) ≡ stops (at 1 18)
run_20 = refl

-- int f(int a) { a++; return a; }
abbrev pub file_21 : List plain.Item
file_21 =
    plain.function_def (plain.head ([]) (plain.spec (at 1 1) (plain.words (keys.Int ∷ [])) 0) ([]) (name 374)
    (at 1 5) (plain.params (plain.param_and (plain.param_decl ([]) (plain.spec (at 1 7)
    (plain.words (keys.Int ∷ [])) 0) (plain.named (plain.declr ([]) (name 375) (at 1 11)
    (plain.sizes plain.no_sizes)))) plain.no_params) false None)) (plain.block (at 1 14)
    (plain.stmt_and (plain.do_expr (at 1 16) (Some (plain.post (at 1 17) puncts.PlusPlus
    (plain.word (at 1 16) (name 375))))) (plain.stmt_and (plain.return (at 1 21)
    (Some (plain.word (at 1 28) (name 375)))) plain.no_stmts)) (at 1 31)) ∷ []

run_21 : told (last_run file_21 24 ((value.Int (pos 2147483647)) ∷ []) ([]) 50) ≡ stops (at 1 17)
run_21 = refl

-- int f(int a) { --a; return a; }
abbrev pub file_22 : List plain.Item
file_22 =
    plain.function_def (plain.head ([]) (plain.spec (at 1 1) (plain.words (keys.Int ∷ [])) 0) ([]) (name 374)
    (at 1 5) (plain.params (plain.param_and (plain.param_decl ([]) (plain.spec (at 1 7)
    (plain.words (keys.Int ∷ [])) 0) (plain.named (plain.declr ([]) (name 375) (at 1 11)
    (plain.sizes plain.no_sizes)))) plain.no_params) false None)) (plain.block (at 1 14)
    (plain.stmt_and (plain.do_expr (at 1 16) (Some (plain.unary (at 1 16) (tokens.Punct puncts.MinusMinus)
    (plain.word (at 1 18) (name 375))))) (plain.stmt_and (plain.return (at 1 21)
    (Some (plain.word (at 1 28) (name 375)))) plain.no_stmts)) (at 1 31)) ∷ []

run_22 : told (last_run file_22 24 ((value.Int (negsuc 2147483647)) ∷ []) ([]) 50) ≡ stops (at 1 16)
run_22 = refl

-- int f(int a, int b) { a -= b; a *= b; a /= 4; a %= 5; return a; }
abbrev pub file_23 : List plain.Item
file_23 =
    plain.function_def (plain.head ([]) (plain.spec (at 1 1) (plain.words (keys.Int ∷ [])) 0) ([]) (name 374)
    (at 1 5) (plain.params (plain.param_and (plain.param_decl ([]) (plain.spec (at 1 7)
    (plain.words (keys.Int ∷ [])) 0) (plain.named (plain.declr ([]) (name 375) (at 1 11)
    (plain.sizes plain.no_sizes)))) (plain.param_and (plain.param_decl ([])
    (plain.spec (at 1 14) (plain.words (keys.Int ∷ [])) 0) (plain.named (plain.declr ([]) (name 376) (at 1 18)
    (plain.sizes plain.no_sizes)))) plain.no_params)) false None)) (plain.block (at 1 21)
    (plain.stmt_and (plain.do_expr (at 1 23) (Some (plain.assign (at 1 25) puncts.MinusAssign
    (plain.word (at 1 23) (name 375)) (plain.word (at 1 28) (name 376)))))
    (plain.stmt_and (plain.do_expr (at 1 31) (Some (plain.assign (at 1 33) puncts.StarAssign
    (plain.word (at 1 31) (name 375)) (plain.word (at 1 36) (name 376)))))
    (plain.stmt_and (plain.do_expr (at 1 39) (Some (plain.assign (at 1 41) puncts.SlashAssign
    (plain.word (at 1 39) (name 375)) (plain.int (at 1 44) (pos 4) false false))))
    (plain.stmt_and (plain.do_expr (at 1 47) (Some (plain.assign (at 1 49) puncts.PercentAssign
    (plain.word (at 1 47) (name 375)) (plain.int (at 1 52) (pos 5) false false))))
    (plain.stmt_and (plain.return (at 1 55) (Some (plain.word (at 1 62) (name 375)))) plain.no_stmts))))) (at 1 65))
    ∷ []

run_23 : told (last_run file_23 24 ((value.Int (pos 20)) ∷ (value.Int (pos 6)) ∷ []) ([]) 90)
    ≡ gives (Some (value.Int (pos 1))) (at 1 55) ([])
run_23 = refl

-- ---- Conversions

-- int f(long a) { return a; }
abbrev pub file_24 : List plain.Item
file_24 =
    plain.function_def (plain.head ([]) (plain.spec (at 1 1) (plain.words (keys.Int ∷ [])) 0) ([]) (name 374)
    (at 1 5) (plain.params (plain.param_and (plain.param_decl ([]) (plain.spec (at 1 7)
    (plain.words (keys.Long ∷ [])) 0) (plain.named (plain.declr ([]) (name 375) (at 1 12)
    (plain.sizes plain.no_sizes)))) plain.no_params) false None)) (plain.block (at 1 15)
    (plain.stmt_and (plain.return (at 1 17) (Some (plain.word (at 1 24) (name 375)))) plain.no_stmts) (at 1 27))
    ∷ []

run_24 : told (last_run file_24 24 ((value.Int (pos 2147483648)) ∷ []) ([]) 50) ≡ stops (at 1 17)
run_24 = refl

-- int f(long a) { return a; }
run_25 : told (last_run file_24 24 ((value.Int (negsuc 2147483647)) ∷ []) ([]) 50)
    ≡ gives (Some (value.Int (negsuc 2147483647))) (at 1 17) ([])
run_25 = refl

-- int f(long a) { int b = a; return b; }
abbrev pub file_26 : List plain.Item
file_26 =
    plain.function_def (plain.head ([]) (plain.spec (at 1 1) (plain.words (keys.Int ∷ [])) 0) ([]) (name 374)
    (at 1 5) (plain.params (plain.param_and (plain.param_decl ([]) (plain.spec (at 1 7)
    (plain.words (keys.Long ∷ [])) 0) (plain.named (plain.declr ([]) (name 375) (at 1 12)
    (plain.sizes plain.no_sizes)))) plain.no_params) false None)) (plain.block (at 1 15)
    (plain.stmt_and (plain.declare (at 1 17) (plain.decl ([]) (plain.spec (at 1 17) (plain.words (keys.Int ∷ [])) 0)
    ((plain.var_decl (plain.declr ([]) (name 376) (at 1 21) (plain.sizes plain.no_sizes))
    (Some (plain.value (plain.word (at 1 25) (name 375))))) ∷ []))) (plain.stmt_and
    (plain.return (at 1 28) (Some (plain.word (at 1 35) (name 376)))) plain.no_stmts)) (at 1 38)) ∷ []

run_26 : told (last_run file_26 24 ((value.Int (pos 2147483648)) ∷ []) ([]) 50) ≡ stops (at 1 21)
run_26 = refl

-- int f(long a) { int b; b = a; return b; }
abbrev pub file_27 : List plain.Item
file_27 =
    plain.function_def (plain.head ([]) (plain.spec (at 1 1) (plain.words (keys.Int ∷ [])) 0) ([]) (name 374)
    (at 1 5) (plain.params (plain.param_and (plain.param_decl ([]) (plain.spec (at 1 7)
    (plain.words (keys.Long ∷ [])) 0) (plain.named (plain.declr ([]) (name 375) (at 1 12)
    (plain.sizes plain.no_sizes)))) plain.no_params) false None)) (plain.block (at 1 15)
    (plain.stmt_and (plain.declare (at 1 17) (plain.decl ([]) (plain.spec (at 1 17) (plain.words (keys.Int ∷ [])) 0)
    ((plain.var_decl (plain.declr ([]) (name 376) (at 1 21) (plain.sizes plain.no_sizes)) None) ∷ [])))
    (plain.stmt_and (plain.do_expr (at 1 24) (Some (plain.assign (at 1 26) puncts.Assign
    (plain.word (at 1 24) (name 376)) (plain.word (at 1 28) (name 375)))))
    (plain.stmt_and (plain.return (at 1 31) (Some (plain.word (at 1 38) (name 376)))) plain.no_stmts))) (at 1 41))
    ∷ []

run_27 : told (last_run file_27 24 ((value.Int (negsuc 2147483648)) ∷ []) ([]) 50) ≡ stops (at 1 26)
run_27 = refl

-- int f(long a) { return (int)a; }
abbrev pub file_28 : List plain.Item
file_28 =
    plain.function_def (plain.head ([]) (plain.spec (at 1 1) (plain.words (keys.Int ∷ [])) 0) ([]) (name 374)
    (at 1 5) (plain.params (plain.param_and (plain.param_decl ([]) (plain.spec (at 1 7)
    (plain.words (keys.Long ∷ [])) 0) (plain.named (plain.declr ([]) (name 375) (at 1 12)
    (plain.sizes plain.no_sizes)))) plain.no_params) false None)) (plain.block (at 1 15)
    (plain.stmt_and (plain.return (at 1 17) (Some (plain.cast (at 1 24) (plain.type_name
    (plain.spec (at 1 25) (plain.words (keys.Int ∷ [])) 0) ([])) (plain.word (at 1 29) (name 375)))))
    plain.no_stmts) (at 1 32)) ∷ []

run_28 : told (last_run file_28 24 ((value.Int (pos 3000000000)) ∷ []) ([]) 50) ≡ stops (at 1 24)
run_28 = refl

-- Py_ssize_t f(long a) { return a; }
abbrev pub file_29 : List plain.Item
file_29 =
    plain.function_def (plain.head ([]) (plain.spec (at 1 1) (plain.alias (name 62)) 0) ([]) (name 374) (at 1 12)
    (plain.params (plain.param_and (plain.param_decl ([]) (plain.spec (at 1 14) (plain.words (keys.Long ∷ [])) 0)
    (plain.named (plain.declr ([]) (name 375) (at 1 19) (plain.sizes plain.no_sizes)))) plain.no_params) false
    None)) (plain.block (at 1 22) (plain.stmt_and (plain.return (at 1 24) (Some (plain.word (at 1 31) (name 375))))
    plain.no_stmts) (at 1 34)) ∷ []

run_29 : told (last_run file_29 24 ((value.Int (pos 9223372036854775807)) ∷ []) ([]) 50)
    ≡ gives (Some (value.Int (pos 9223372036854775807))) (at 1 24) ([])
run_29 = refl

-- int f(int a, long b) { a += b; return a; }
abbrev pub file_30 : List plain.Item
file_30 =
    plain.function_def (plain.head ([]) (plain.spec (at 1 1) (plain.words (keys.Int ∷ [])) 0) ([]) (name 374)
    (at 1 5) (plain.params (plain.param_and (plain.param_decl ([]) (plain.spec (at 1 7)
    (plain.words (keys.Int ∷ [])) 0) (plain.named (plain.declr ([]) (name 375) (at 1 11)
    (plain.sizes plain.no_sizes)))) (plain.param_and (plain.param_decl ([])
    (plain.spec (at 1 14) (plain.words (keys.Long ∷ [])) 0) (plain.named (plain.declr ([]) (name 376) (at 1 19)
    (plain.sizes plain.no_sizes)))) plain.no_params)) false None)) (plain.block (at 1 22)
    (plain.stmt_and (plain.do_expr (at 1 24) (Some (plain.assign (at 1 26) puncts.PlusAssign
    (plain.word (at 1 24) (name 375)) (plain.word (at 1 29) (name 376)))))
    (plain.stmt_and (plain.return (at 1 32) (Some (plain.word (at 1 39) (name 375)))) plain.no_stmts)) (at 1 42))
    ∷ []

run_30 : told (last_run file_30 24 ((value.Int (pos 1)) ∷ (value.Int (pos 2147483647)) ∷ []) ([]) 50) ≡ stops (at 1 26)
run_30 = refl

-- int f(char *t) { return (t == NULL) + !t * 10; }
abbrev pub file_31 : List plain.Item
file_31 =
    plain.function_def (plain.head ([]) (plain.spec (at 1 1) (plain.words (keys.Int ∷ [])) 0) ([]) (name 374)
    (at 1 5) (plain.params (plain.param_and (plain.param_decl ([]) (plain.spec (at 1 7)
    (plain.words (keys.Char ∷ [])) 0) (plain.named (plain.declr (0 ∷ []) (name 375) (at 1 13)
    (plain.sizes plain.no_sizes)))) plain.no_params) false None)) (plain.block (at 1 16)
    (plain.stmt_and (plain.return (at 1 18) (Some (plain.binary (at 1 37) puncts.Plus
    (plain.paren (at 1 25) (plain.binary (at 1 28) puncts.Equal (plain.word (at 1 26) (name 375))
    (plain.null (at 1 31)))) (plain.binary (at 1 42) puncts.Star (plain.unary (at 1 39) (tokens.Punct puncts.Not)
    (plain.word (at 1 40) (name 375))) (plain.int (at 1 44) (pos 10) false false))))) plain.no_stmts) (at 1 48))
    ∷ []

run_31 : told (last_run file_31 24 (value.Text ∷ []) ([]) 80) ≡ gives (Some (value.Int (pos 0))) (at 1 18) ([])
run_31 = refl

-- int f(char *t) { return (t == NULL) + !t * 10; }
run_32 : told (last_run file_31 24 (value.Null ∷ []) ([]) 80) ≡ gives (Some (value.Int (pos 11))) (at 1 18) ([])
run_32 = refl
