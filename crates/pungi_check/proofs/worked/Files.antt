-- Small files of one to six lines, and functions that call each other.
use Rattle.std.proofs.Common.{◌≡◌, refl, List, [], ◌∷◌, map, Some, None, true, false, pos}
use Rattle.pungi_base.specs.declared.key.Key.TheVariants as keys
use Rattle.pungi_base.specs.declared.punct.Punct.TheVariants as puncts
use Rattle.pungi_tree.specs.Syntax as plain
use Rattle.pungi_types.specs.Files.{definitions}
use Rattle.pungi_types.specs.Findings.{least}
use Rattle.pungi_check.specs.Duplicates.{faults}
use Rattle.pungi_types.specs.Functions.{refusal}
use Rattle.pungi_resolve.specs.Functions.{resolved}
use Rattle.pungi_resolve.specs.Sound.{is_sound_action}
use Rattle.pungi_check.proofs.worked.Words.{at, manual_file, name, passed, told}

-- int g(double d) { return 1; }
-- int f(void) { return g(1); }
abbrev file_0 : List plain.Item
file_0 =
    plain.function_def (plain.head ([]) (plain.spec (at 1 1) (plain.words (keys.Int ∷ [])) 0) ([]) (name 387)
    (at 1 5) (plain.params (plain.param_and (plain.param_decl ([]) (plain.spec (at 1 7)
    (plain.words (keys.Double ∷ [])) 0) (plain.named (plain.declr ([]) (name 388) (at 1 14)
    (plain.sizes plain.no_sizes)))) plain.no_params) false None)) (plain.block (at 1 17)
    (plain.stmt_and (plain.return (at 1 19) (Some (plain.int (at 1 26) (pos 1) false false))) plain.no_stmts)
    (at 1 29)) ∷ plain.function_def (plain.head ([]) (plain.spec (at 2 1) (plain.words (keys.Int ∷ [])) 0) ([])
    (name 389) (at 2 5) (plain.params plain.no_params true None)) (plain.block (at 2 13)
    (plain.stmt_and (plain.return (at 2 15) (Some (plain.call (at 2 22) (plain.word (at 2 22) (name 387))
    (plain.expr_and (plain.int (at 2 24) (pos 1) false false) plain.no_exprs)))) plain.no_stmts) (at 2 28)) ∷ []

no_fault_0 : least (faults (manual_file file_0)) ≡ None
no_fault_0 = refl

told_0 : map (refusal (manual_file file_0) (387 ∷ 389 ∷ [])) (definitions file_0)
    ≡ (told 1 7 1 ∷ told 2 22 9 ∷ [])
told_0 = refl

sound_0 : map (λ d. is_sound_action (resolved (manual_file file_0) (387 ∷ 389 ∷ []) d).body)
    (passed (refusal (manual_file file_0) (387 ∷ 389 ∷ [])) (definitions file_0)) ≡ ([])
sound_0 = refl

-- int f(int a) { goto in; { in: return a; } }
abbrev file_1 : List plain.Item
file_1 =
    plain.function_def (plain.head ([]) (plain.spec (at 1 1) (plain.words (keys.Int ∷ [])) 0) ([]) (name 389)
    (at 1 5) (plain.params (plain.param_and (plain.param_decl ([]) (plain.spec (at 1 7)
    (plain.words (keys.Int ∷ [])) 0) (plain.named (plain.declr ([]) (name 390) (at 1 11)
    (plain.sizes plain.no_sizes)))) plain.no_params) false None)) (plain.block (at 1 14)
    (plain.stmt_and (plain.goto (at 1 16) (name 391) (at 1 21)) (plain.stmt_and
    (plain.block (at 1 25) (plain.stmt_and (plain.label (at 1 27) (name 391)
    (plain.return (at 1 31) (Some (plain.word (at 1 38) (name 390))))) plain.no_stmts) (at 1 41)) plain.no_stmts))
    (at 1 43)) ∷ []

no_fault_1 : least (faults (manual_file file_1)) ≡ None
no_fault_1 = refl

told_1 : map (refusal (manual_file file_1) (389 ∷ [])) (definitions file_1) ≡ (told 1 21 6 ∷ [])
told_1 = refl

sound_1 : map (λ d. is_sound_action (resolved (manual_file file_1) (389 ∷ []) d).body)
    (passed (refusal (manual_file file_1) (389 ∷ [])) (definitions file_1)) ≡ ([])
sound_1 = refl

-- typedef A B;
-- typedef B A;
-- int f(A a) { return 1; }
-- typedef C D;
-- typedef long C;
-- long g(D d) { return d + 1; }
abbrev file_10 : List plain.Item
file_10 =
    plain.typedef (plain.spec (at 1 9) (plain.alias (name 486)) 0) ([]) (name 488) (at 1 11)
    ∷ plain.typedef (plain.spec (at 2 9) (plain.alias (name 488)) 0) ([]) (name 486) (at 2 11)
    ∷ plain.function_def (plain.head ([]) (plain.spec (at 3 1) (plain.words (keys.Int ∷ [])) 0) ([]) (name 389)
    (at 3 5) (plain.params (plain.param_and (plain.param_decl ([]) (plain.spec (at 3 7) (plain.alias (name 486)) 0)
    (plain.named (plain.declr ([]) (name 390) (at 3 9) (plain.sizes plain.no_sizes)))) plain.no_params) false None))
    (plain.block (at 3 12) (plain.stmt_and (plain.return (at 3 14) (Some (plain.int (at 3 21) (pos 1) false false)))
    plain.no_stmts) (at 3 24)) ∷ plain.typedef (plain.spec (at 4 9) (plain.alias (name 489)) 0) ([]) (name 490)
    (at 4 11) ∷ plain.typedef (plain.spec (at 5 9) (plain.words (keys.Long ∷ [])) 0) ([]) (name 489) (at 5 14)
    ∷ plain.function_def (plain.head ([]) (plain.spec (at 6 1) (plain.words (keys.Long ∷ [])) 0) ([]) (name 387)
    (at 6 6) (plain.params (plain.param_and (plain.param_decl ([]) (plain.spec (at 6 8) (plain.alias (name 490)) 0)
    (plain.named (plain.declr ([]) (name 388) (at 6 10) (plain.sizes plain.no_sizes)))) plain.no_params) false
    None)) (plain.block (at 6 13) (plain.stmt_and (plain.return (at 6 15) (Some
    (plain.binary (at 6 24) puncts.Plus (plain.word (at 6 22) (name 388)) (plain.int (at 6 26) (pos 1) false
    false)))) plain.no_stmts) (at 6 29)) ∷ []

no_fault_10 : least (faults (manual_file file_10)) ≡ None
no_fault_10 = refl

told_10 : map (refusal (manual_file file_10) (389 ∷ [])) (definitions file_10)
    ≡ (told 3 7 1 ∷ None ∷ [])
told_10 = refl

sound_10 : map (λ d. is_sound_action (resolved (manual_file file_10) (389 ∷ []) d).body)
    (passed (refusal (manual_file file_10) (389 ∷ [])) (definitions file_10)) ≡ (true ∷ [])
sound_10 = refl

-- typedef struct { PyObject_HEAD PyObject *first; } Box;
-- void f(struct Box *p) { Py_INCREF(p); }
-- PyObject *g(void) { return u ? 1 : 2; }
-- int h(PyObject *x) { return (Py_INCREF(x)); }
-- int k(void) { return (void)u; }
abbrev file_11 : List plain.Item
file_11 =
    plain.typedef (plain.spec (at 1 9) (plain.tagged_fields keys.Struct None
    (plain.field_and (plain.members ([]) (plain.spec (at 1 18) (plain.alias (name 48)) 0)
    (plain.declr_and (plain.declr ([]) (name 182) (at 1 18) (plain.sizes plain.no_sizes)) plain.no_declrs))
    (plain.field_and (plain.members ([]) (plain.spec (at 1 32) (plain.alias (name 48)) 0)
    (plain.declr_and (plain.declr (0 ∷ []) (name 392) (at 1 42) (plain.sizes plain.no_sizes)) plain.no_declrs))
    plain.no_fields))) 0) ([]) (name 394) (at 1 51) ∷ plain.function_def (plain.head ([])
    (plain.spec (at 2 1) (plain.words (keys.Void ∷ [])) 0) ([]) (name 389) (at 2 6)
    (plain.params (plain.param_and (plain.param_decl ([]) (plain.spec (at 2 8)
    (plain.tagged keys.Struct (Some (name 394, at 2 15))) 0) (plain.named (plain.declr (0 ∷ []) (name 432) (at 2 20)
    (plain.sizes plain.no_sizes)))) plain.no_params) false None)) (plain.block (at 2 23)
    (plain.stmt_and (plain.do_expr (at 2 25) (Some (plain.call (at 2 25) (plain.word (at 2 25) (name 167))
    (plain.expr_and (plain.word (at 2 35) (name 432)) plain.no_exprs)))) plain.no_stmts) (at 2 39))
    ∷ plain.function_def (plain.head ([]) (plain.spec (at 3 1) (plain.alias (name 48)) 0) (0 ∷ []) (name 387)
    (at 3 11) (plain.params plain.no_params true None)) (plain.block (at 3 19)
    (plain.stmt_and (plain.return (at 3 21) (Some (plain.conditional (at 3 30) (plain.word (at 3 28) (name 390))
    (plain.int (at 3 32) (pos 1) false false) (plain.int (at 3 36) (pos 2) false false)))) plain.no_stmts)
    (at 3 39)) ∷ plain.function_def (plain.head ([]) (plain.spec (at 4 1) (plain.words (keys.Int ∷ [])) 0) ([])
    (name 388) (at 4 5) (plain.params (plain.param_and (plain.param_decl ([])
    (plain.spec (at 4 7) (plain.alias (name 48)) 0) (plain.named (plain.declr (0 ∷ []) (name 432) (at 4 17)
    (plain.sizes plain.no_sizes)))) plain.no_params) false None)) (plain.block (at 4 20)
    (plain.stmt_and (plain.return (at 4 22) (Some (plain.paren (at 4 29) (plain.call (at 4 30)
    (plain.word (at 4 30) (name 167)) (plain.expr_and (plain.word (at 4 40) (name 432)) plain.no_exprs)))))
    plain.no_stmts) (at 4 45)) ∷ plain.function_def (plain.head ([]) (plain.spec (at 5 1)
    (plain.words (keys.Int ∷ [])) 0) ([]) (name 391) (at 5 5) (plain.params plain.no_params true None))
    (plain.block (at 5 13) (plain.stmt_and (plain.return (at 5 15) (Some (plain.cast (at 5 22)
    (plain.type_name (plain.spec (at 5 23) (plain.words (keys.Void ∷ [])) 0) ([]))
    (plain.word (at 5 28) (name 390))))) plain.no_stmts) (at 5 31)) ∷ []

no_fault_11 : least (faults (manual_file file_11)) ≡ None
no_fault_11 = refl

told_11 : map (refusal (manual_file file_11) (389 ∷ 387 ∷ 388 ∷ 391 ∷ [])) (definitions file_11)
    ≡ (told 2 8 1 ∷ told 3 28 9 ∷ told 4 30 10 ∷ told 5 28 9 ∷ [])
told_11 = refl
