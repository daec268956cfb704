-- What may be declared of functions: the places of parameters for objects, and a result that is an object.
use Rattle.std.proofs.Common.{◌≡◌, refl, List, [], ◌∷◌, map, Some, None, true, false, pos}
use Rattle.pungi_base.specs.declared.key.Key.TheVariants as keys
use Rattle.pungi_tree.specs.Syntax as plain
use Rattle.pungi_api.specs.Rows.{builtin_rows}
use Rattle.pungi_api.specs.Terms.{FileTerms}
use Rattle.pungi_api.specs.declared.profile.Profile.TheVariants.{Python312}
use Rattle.pungi_types.specs.Files.{SourceFile, source_file, definitions}
use Rattle.pungi_types.specs.Findings.{least}
use Rattle.pungi_check.specs.Duplicates.{faults}
use Rattle.pungi_types.specs.Functions.{refusal}
use Rattle.pungi_resolve.specs.Functions.{resolved}
use Rattle.pungi_check.proofs.worked.Words.{at, manual_file, name, passed, told}

-- int past(int n, PyObject *o) { return n; }
-- int taken(PyObject *o, int n) { return n; }
-- int lent(PyObject *o) { return 0; }
-- PyObject *own(PyObject *o, PyObject *p) { return o; }
-- int both(double d) { return 1; }
-- int calls(int n) { return past(n, NULL); }
abbrev file_14 : List plain.Item
file_14 =
    plain.function_def (plain.head ([]) (plain.spec (at 1 1) (plain.words (keys.Int ∷ [])) 0) ([]) (name 387)
    (at 1 5) (plain.params (plain.param_and (plain.param_decl ([]) (plain.spec (at 1 10)
    (plain.words (keys.Int ∷ [])) 0) (plain.named (plain.declr ([]) (name 388) (at 1 14)
    (plain.sizes plain.no_sizes)))) (plain.param_and (plain.param_decl ([]) (plain.spec (at 1 17)
    (plain.alias (name 48)) 0) (plain.named (plain.declr (0 ∷ []) (name 389) (at 1 27)
    (plain.sizes plain.no_sizes)))) plain.no_params)) false None)) (plain.block (at 1 30)
    (plain.stmt_and (plain.return (at 1 32) (Some (plain.word (at 1 39) (name 388)))) plain.no_stmts) (at 1 42))
    ∷ plain.function_def (plain.head ([]) (plain.spec (at 2 1) (plain.words (keys.Int ∷ [])) 0) ([]) (name 390)
    (at 2 5) (plain.params (plain.param_and (plain.param_decl ([]) (plain.spec (at 2 11)
    (plain.alias (name 48)) 0) (plain.named (plain.declr (0 ∷ []) (name 389) (at 2 21)
    (plain.sizes plain.no_sizes)))) (plain.param_and (plain.param_decl ([]) (plain.spec (at 2 24)
    (plain.words (keys.Int ∷ [])) 0) (plain.named (plain.declr ([]) (name 388) (at 2 28)
    (plain.sizes plain.no_sizes)))) plain.no_params)) false None)) (plain.block (at 2 31)
    (plain.stmt_and (plain.return (at 2 33) (Some (plain.word (at 2 40) (name 388)))) plain.no_stmts) (at 2 43))
    ∷ plain.function_def (plain.head ([]) (plain.spec (at 3 1) (plain.words (keys.Int ∷ [])) 0) ([]) (name 391)
    (at 3 5) (plain.params (plain.param_and (plain.param_decl ([]) (plain.spec (at 3 10)
    (plain.alias (name 48)) 0) (plain.named (plain.declr (0 ∷ []) (name 389) (at 3 20)
    (plain.sizes plain.no_sizes)))) plain.no_params) false None)) (plain.block (at 3 23)
    (plain.stmt_and (plain.return (at 3 25) (Some (plain.int (at 3 32) (pos 0) false false))) plain.no_stmts)
    (at 3 35)) ∷ plain.function_def (plain.head ([]) (plain.spec (at 4 1) (plain.alias (name 48)) 0) (0 ∷ [])
    (name 392) (at 4 11) (plain.params (plain.param_and (plain.param_decl ([]) (plain.spec (at 4 15)
    (plain.alias (name 48)) 0) (plain.named (plain.declr (0 ∷ []) (name 389) (at 4 25)
    (plain.sizes plain.no_sizes)))) (plain.param_and (plain.param_decl ([]) (plain.spec (at 4 28)
    (plain.alias (name 48)) 0) (plain.named (plain.declr (0 ∷ []) (name 393) (at 4 38)
    (plain.sizes plain.no_sizes)))) plain.no_params)) false None)) (plain.block (at 4 41)
    (plain.stmt_and (plain.return (at 4 43) (Some (plain.word (at 4 50) (name 389)))) plain.no_stmts) (at 4 53))
    ∷ plain.function_def (plain.head ([]) (plain.spec (at 5 1) (plain.words (keys.Int ∷ [])) 0) ([]) (name 394)
    (at 5 5) (plain.params (plain.param_and (plain.param_decl ([]) (plain.spec (at 5 10)
    (plain.words (keys.Double ∷ [])) 0) (plain.named (plain.declr ([]) (name 395) (at 5 17)
    (plain.sizes plain.no_sizes)))) plain.no_params) false None)) (plain.block (at 5 20)
    (plain.stmt_and (plain.return (at 5 22) (Some (plain.int (at 5 29) (pos 1) false false))) plain.no_stmts)
    (at 5 32)) ∷ plain.function_def (plain.head ([]) (plain.spec (at 6 1) (plain.words (keys.Int ∷ [])) 0) ([])
    (name 396) (at 6 5) (plain.params (plain.param_and (plain.param_decl ([]) (plain.spec (at 6 11)
    (plain.words (keys.Int ∷ [])) 0) (plain.named (plain.declr ([]) (name 388) (at 6 15)
    (plain.sizes plain.no_sizes)))) plain.no_params) false None)) (plain.block (at 6 18)
    (plain.stmt_and (plain.return (at 6 20) (Some (plain.call (at 6 27) (plain.word (at 6 27) (name 387))
    (plain.expr_and (plain.word (at 6 32) (name 388)) (plain.expr_and (plain.null (at 6 35)) plain.no_exprs)))))
    plain.no_stmts) (at 6 42)) ∷ []

-- `past` takes over a third parameter, `taken` both of its own, `lent` lends its result, `own` lends it and takes over
-- the second parameter, `both` takes over the first
abbrev terms_14 : FileTerms
terms_14 = record {
  profile = Python312;
  conventions = (387, record { borrowed = false; taken = 2 ∷ [] })
      ∷ (390, record { borrowed = false; taken = 0 ∷ 1 ∷ [] }) ∷ (391, record { borrowed = true; taken = [] })
      ∷ (392, record { borrowed = true; taken = 1 ∷ [] }) ∷ (394, record { borrowed = false; taken = 0 ∷ [] }) ∷ [];
}

abbrev source_14 : SourceFile
source_14 = source_file [] file_14 builtin_rows terms_14

no_fault_14 : least (faults source_14) ≡ None
no_fault_14 = refl

told_14 : map (refusal source_14 (387 ∷ 390 ∷ 391 ∷ 394 ∷ 396 ∷ [])) (definitions file_14)
    ≡ (told 1 5 17 ∷ told 2 5 17 ∷ told 3 5 17 ∷ None ∷ told 5 10 1 ∷ told 6 27 9 ∷ [])
told_14 = refl

-- the terms of `own`
resolved_14 : map (λ d. (resolved source_14 (387 ∷ 390 ∷ 391 ∷ 394 ∷ 396 ∷ []) d).terms)
    (passed (refusal source_14 (387 ∷ 390 ∷ 391 ∷ 394 ∷ 396 ∷ [])) (definitions file_14))
    ≡ (record { profile = Python312; convention = record { borrowed = true; taken = 1 ∷ [] } } ∷ [])
resolved_14 = refl

-- where nothing is declared
told_alone_14 : map (refusal (manual_file file_14) (394 ∷ [])) (definitions file_14)
    ≡ (None ∷ None ∷ None ∷ None ∷ told 5 10 1 ∷ None ∷ [])
told_alone_14 = refl
