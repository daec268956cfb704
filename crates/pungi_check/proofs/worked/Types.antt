-- Types of parameters, members of structs, and declared types.
use Rattle.std.proofs.Common.{◌≡◌, refl, List, [], ◌∷◌, map, Some, None, true, false, pos}
use Rattle.pungi_base.specs.declared.key.Key.TheVariants as keys
use Rattle.pungi_base.specs.declared.punct.Punct.TheVariants as puncts
use Rattle.pungi_tree.specs.Syntax as plain
use Rattle.pungi_types.specs.Files.{definitions}
use Rattle.pungi_types.specs.Findings.{least}
use Rattle.pungi_check.specs.Duplicates.{faults}
use Rattle.pungi_types.specs.Functions.{refusal}
use Rattle.pungi_resolve.specs.Functions.{resolved}
use Rattle.pungi_resolve.specs.Sound.{is_sound_action}
use Rattle.pungi_check.proofs.worked.Words.{at, manual_file, name, passed, told}

-- typedef struct { PyObject_HEAD PyObject *first; long hits; int a[3]; } Box;
-- typedef Box *BoxP;
-- typedef int word;
-- int n1a(word w) { return w; }
-- int n12a(Box *b) { return b->first; }
-- int ok1(BoxP b) { b->hits += 1; return b->first == NULL; }
-- int n12b(PyObject *b) { return b->hits; }
-- int n12c(Box *b) { return b->a; }
-- long ok2(BoxP b) { return b->hits; }
-- void n1b(void v) { }
-- int n1c(int a, ...) { return a; }
-- int n1d(int a) { static int b; return a; }
-- int n1e(int a) { int b[3]; return a; }
-- int n1f(int a) { return (short)a; }
abbrev file_3 : List plain.Item
file_3 =
    plain.typedef (plain.spec (at 1 9) (plain.tagged_fields keys.Struct None
    (plain.field_and (plain.members ([]) (plain.spec (at 1 18) (plain.alias (name 48)) 0)
    (plain.declr_and (plain.declr ([]) (name 182) (at 1 18) (plain.sizes plain.no_sizes)) plain.no_declrs))
    (plain.field_and (plain.members ([]) (plain.spec (at 1 32) (plain.alias (name 48)) 0)
    (plain.declr_and (plain.declr (0 ∷ []) (name 392) (at 1 42) (plain.sizes plain.no_sizes)) plain.no_declrs))
    (plain.field_and (plain.members ([]) (plain.spec (at 1 49) (plain.words (keys.Long ∷ [])) 0)
    (plain.declr_and (plain.declr ([]) (name 393) (at 1 54) (plain.sizes plain.no_sizes)) plain.no_declrs))
    (plain.field_and (plain.members ([]) (plain.spec (at 1 60) (plain.words (keys.Int ∷ [])) 0)
    (plain.declr_and (plain.declr ([]) (name 390) (at 1 64) (plain.sizes (plain.size_and
    (plain.int (at 1 66) (pos 3) false false) plain.no_sizes))) plain.no_declrs)) plain.no_fields))))) 0) ([])
    (name 394) (at 1 72) ∷ plain.typedef (plain.spec (at 2 9) (plain.alias (name 394)) 0) (0 ∷ []) (name 395)
    (at 2 14) ∷ plain.typedef (plain.spec (at 3 9) (plain.words (keys.Int ∷ [])) 0) ([]) (name 396) (at 3 13)
    ∷ plain.function_def (plain.head ([]) (plain.spec (at 4 1) (plain.words (keys.Int ∷ [])) 0) ([]) (name 397)
    (at 4 5) (plain.params (plain.param_and (plain.param_decl ([]) (plain.spec (at 4 9) (plain.alias (name 396)) 0)
    (plain.named (plain.declr ([]) (name 398) (at 4 14) (plain.sizes plain.no_sizes)))) plain.no_params) false
    None)) (plain.block (at 4 17) (plain.stmt_and (plain.return (at 4 19) (Some (plain.word (at 4 26) (name 398))))
    plain.no_stmts) (at 4 29)) ∷ plain.function_def (plain.head ([]) (plain.spec (at 5 1)
    (plain.words (keys.Int ∷ [])) 0) ([]) (name 399) (at 5 5) (plain.params
    (plain.param_and (plain.param_decl ([]) (plain.spec (at 5 10) (plain.alias (name 394)) 0)
    (plain.named (plain.declr (0 ∷ []) (name 400) (at 5 15) (plain.sizes plain.no_sizes)))) plain.no_params) false
    None)) (plain.block (at 5 18) (plain.stmt_and (plain.return (at 5 20) (Some
    (plain.arrow (at 5 28) (plain.word (at 5 27) (name 400)) (name 392)))) plain.no_stmts) (at 5 37))
    ∷ plain.function_def (plain.head ([]) (plain.spec (at 6 1) (plain.words (keys.Int ∷ [])) 0) ([]) (name 401)
    (at 6 5) (plain.params (plain.param_and (plain.param_decl ([]) (plain.spec (at 6 9) (plain.alias (name 395)) 0)
    (plain.named (plain.declr ([]) (name 400) (at 6 14) (plain.sizes plain.no_sizes)))) plain.no_params) false
    None)) (plain.block (at 6 17) (plain.stmt_and (plain.do_expr (at 6 19)
    (Some (plain.assign (at 6 27) puncts.PlusAssign (plain.arrow (at 6 20) (plain.word (at 6 19) (name 400))
    (name 393)) (plain.int (at 6 30) (pos 1) false false)))) (plain.stmt_and
    (plain.return (at 6 33) (Some (plain.binary (at 6 49) puncts.Equal (plain.arrow (at 6 41)
    (plain.word (at 6 40) (name 400)) (name 392)) (plain.null (at 6 52))))) plain.no_stmts)) (at 6 58))
    ∷ plain.function_def (plain.head ([]) (plain.spec (at 7 1) (plain.words (keys.Int ∷ [])) 0) ([]) (name 402)
    (at 7 5) (plain.params (plain.param_and (plain.param_decl ([]) (plain.spec (at 7 10) (plain.alias (name 48)) 0)
    (plain.named (plain.declr (0 ∷ []) (name 400) (at 7 20) (plain.sizes plain.no_sizes)))) plain.no_params) false
    None)) (plain.block (at 7 23) (plain.stmt_and (plain.return (at 7 25) (Some
    (plain.arrow (at 7 33) (plain.word (at 7 32) (name 400)) (name 393)))) plain.no_stmts) (at 7 41))
    ∷ plain.function_def (plain.head ([]) (plain.spec (at 8 1) (plain.words (keys.Int ∷ [])) 0) ([]) (name 403)
    (at 8 5) (plain.params (plain.param_and (plain.param_decl ([]) (plain.spec (at 8 10) (plain.alias (name 394)) 0)
    (plain.named (plain.declr (0 ∷ []) (name 400) (at 8 15) (plain.sizes plain.no_sizes)))) plain.no_params) false
    None)) (plain.block (at 8 18) (plain.stmt_and (plain.return (at 8 20) (Some
    (plain.arrow (at 8 28) (plain.word (at 8 27) (name 400)) (name 390)))) plain.no_stmts) (at 8 33))
    ∷ plain.function_def (plain.head ([]) (plain.spec (at 9 1) (plain.words (keys.Long ∷ [])) 0) ([]) (name 404)
    (at 9 6) (plain.params (plain.param_and (plain.param_decl ([]) (plain.spec (at 9 10) (plain.alias (name 395)) 0)
    (plain.named (plain.declr ([]) (name 400) (at 9 15) (plain.sizes plain.no_sizes)))) plain.no_params) false
    None)) (plain.block (at 9 18) (plain.stmt_and (plain.return (at 9 20) (Some
    (plain.arrow (at 9 28) (plain.word (at 9 27) (name 400)) (name 393)))) plain.no_stmts) (at 9 36))
    ∷ plain.function_def (plain.head ([]) (plain.spec (at 10 1) (plain.words (keys.Void ∷ [])) 0) ([]) (name 405)
    (at 10 6) (plain.params (plain.param_and (plain.param_decl ([]) (plain.spec (at 10 10)
    (plain.words (keys.Void ∷ [])) 0) (plain.named (plain.declr ([]) (name 406) (at 10 15)
    (plain.sizes plain.no_sizes)))) plain.no_params) false None)) (plain.block (at 10 18) plain.no_stmts (at 10 20))
    ∷ plain.function_def (plain.head ([]) (plain.spec (at 11 1) (plain.words (keys.Int ∷ [])) 0) ([]) (name 407)
    (at 11 5) (plain.params (plain.param_and (plain.param_decl ([]) (plain.spec (at 11 9)
    (plain.words (keys.Int ∷ [])) 0) (plain.named (plain.declr ([]) (name 390) (at 11 13)
    (plain.sizes plain.no_sizes)))) plain.no_params) false (Some (at 11 16))))
    (plain.block (at 11 21) (plain.stmt_and (plain.return (at 11 23) (Some (plain.word (at 11 30) (name 390))))
    plain.no_stmts) (at 11 33)) ∷ plain.function_def (plain.head ([]) (plain.spec (at 12 1)
    (plain.words (keys.Int ∷ [])) 0) ([]) (name 408) (at 12 5) (plain.params
    (plain.param_and (plain.param_decl ([]) (plain.spec (at 12 9) (plain.words (keys.Int ∷ [])) 0)
    (plain.named (plain.declr ([]) (name 390) (at 12 13) (plain.sizes plain.no_sizes)))) plain.no_params) false
    None)) (plain.block (at 12 16) (plain.stmt_and (plain.declare (at 12 18)
    (plain.decl (keys.Static ∷ []) (plain.spec (at 12 25) (plain.words (keys.Int ∷ [])) 0)
    ((plain.var_decl (plain.declr ([]) (name 400) (at 12 29) (plain.sizes plain.no_sizes)) None) ∷ [])))
    (plain.stmt_and (plain.return (at 12 32) (Some (plain.word (at 12 39) (name 390)))) plain.no_stmts)) (at 12 42))
    ∷ plain.function_def (plain.head ([]) (plain.spec (at 13 1) (plain.words (keys.Int ∷ [])) 0) ([]) (name 409)
    (at 13 5) (plain.params (plain.param_and (plain.param_decl ([]) (plain.spec (at 13 9)
    (plain.words (keys.Int ∷ [])) 0) (plain.named (plain.declr ([]) (name 390) (at 13 13)
    (plain.sizes plain.no_sizes)))) plain.no_params) false None)) (plain.block (at 13 16)
    (plain.stmt_and (plain.declare (at 13 18) (plain.decl ([]) (plain.spec (at 13 18) (plain.words (keys.Int ∷ []))
    0) ((plain.var_decl (plain.declr ([]) (name 400) (at 13 22) (plain.sizes
    (plain.size_and (plain.int (at 13 24) (pos 3) false false) plain.no_sizes))) None) ∷ [])))
    (plain.stmt_and (plain.return (at 13 28) (Some (plain.word (at 13 35) (name 390)))) plain.no_stmts)) (at 13 38))
    ∷ plain.function_def (plain.head ([]) (plain.spec (at 14 1) (plain.words (keys.Int ∷ [])) 0) ([]) (name 410)
    (at 14 5) (plain.params (plain.param_and (plain.param_decl ([]) (plain.spec (at 14 9)
    (plain.words (keys.Int ∷ [])) 0) (plain.named (plain.declr ([]) (name 390) (at 14 13)
    (plain.sizes plain.no_sizes)))) plain.no_params) false None)) (plain.block (at 14 16)
    (plain.stmt_and (plain.return (at 14 18) (Some (plain.cast (at 14 25) (plain.type_name
    (plain.spec (at 14 26) (plain.words (keys.Short ∷ [])) 0) ([])) (plain.word (at 14 32) (name 390)))))
    plain.no_stmts) (at 14 35)) ∷ []

no_fault_3 : least (faults (manual_file file_3)) ≡ None
no_fault_3 = refl

told_3 : map (refusal (manual_file file_3) (399 ∷ 402 ∷ 403 ∷ 405 ∷ 407 ∷ 408 ∷ 409 ∷ 410 ∷ []))
    (definitions file_3) ≡ (None ∷ told 5 20 10 ∷ None ∷ told 7 33 12 ∷ told 8 28 12 ∷ None ∷ told 10 10 1
    ∷ told 11 16 1 ∷ told 12 25 1 ∷ told 13 18 1 ∷ told 14 26 1 ∷ [])
told_3 = refl

sound_3 : map (λ d. is_sound_action (resolved (manual_file file_3)
    (399 ∷ 402 ∷ 403 ∷ 405 ∷ 407 ∷ 408 ∷ 409 ∷ 410 ∷ []) d).body) (passed (refusal
    (manual_file file_3) (399 ∷ 402 ∷ 403 ∷ 405 ∷ 407 ∷ 408 ∷ 409 ∷ 410 ∷ [])) (definitions file_3))
    ≡ (true ∷ true ∷ true ∷ [])
sound_3 = refl
