-- Files that are refused as a whole: something is declared twice.
use Rattle.std.proofs.Common.{◌≡◌, refl, List, [], ◌∷◌, Some, None, true, false, pos}
use Rattle.pungi_base.specs.declared.key.Key.TheVariants as keys
use Rattle.pungi_tree.specs.Syntax as plain
use Rattle.pungi_types.specs.Findings.{least}
use Rattle.pungi_check.specs.Duplicates.{faults}
use Rattle.pungi_check.proofs.worked.Words.{at, manual_file, name, told}

-- void f(void) { }
-- void f(void) { }
abbrev file_2 : List plain.Item
file_2 =
    plain.function_def (plain.head ([]) (plain.spec (at 1 1) (plain.words (keys.Void ∷ [])) 0) ([]) (name 389)
    (at 1 6) (plain.params plain.no_params true None)) (plain.block (at 1 14) plain.no_stmts (at 1 16))
    ∷ plain.function_def (plain.head ([]) (plain.spec (at 2 1) (plain.words (keys.Void ∷ [])) 0) ([]) (name 389)
    (at 2 6) (plain.params plain.no_params true None)) (plain.block (at 2 14) plain.no_stmts (at 2 16)) ∷ []

fault_2 : least (faults (manual_file file_2)) ≡ told 2 6 1
fault_2 = refl

-- int x;
-- PyObject *PyList_New;
-- int f(void) { return 1; }
abbrev file_6 : List plain.Item
file_6 =
    plain.variables (plain.decl ([]) (plain.spec (at 1 1) (plain.words (keys.Int ∷ [])) 0)
    ((plain.var_decl (plain.declr ([]) (name 432) (at 1 5) (plain.sizes plain.no_sizes)) None) ∷ []))
    ∷ plain.variables (plain.decl ([]) (plain.spec (at 2 1) (plain.alias (name 48)) 0)
    ((plain.var_decl (plain.declr (0 ∷ []) (name 106) (at 2 11) (plain.sizes plain.no_sizes)) None) ∷ []))
    ∷ plain.function_def (plain.head ([]) (plain.spec (at 3 1) (plain.words (keys.Int ∷ [])) 0) ([]) (name 389)
    (at 3 5) (plain.params plain.no_params true None)) (plain.block (at 3 13)
    (plain.stmt_and (plain.return (at 3 15) (Some (plain.int (at 3 22) (pos 1) false false))) plain.no_stmts)
    (at 3 25)) ∷ []

fault_6 : least (faults (manual_file file_6)) ≡ told 2 11 1
fault_6 = refl

-- int x(void);
-- static int x;
abbrev file_7 : List plain.Item
file_7 =
    plain.prototype (plain.head ([]) (plain.spec (at 1 1) (plain.words (keys.Int ∷ [])) 0) ([]) (name 432) (at 1 5)
    (plain.params plain.no_params true None)) ∷ plain.variables (plain.decl (keys.Static ∷ [])
    (plain.spec (at 2 8) (plain.words (keys.Int ∷ [])) 0) ((plain.var_decl
    (plain.declr ([]) (name 432) (at 2 12) (plain.sizes plain.no_sizes)) None) ∷ [])) ∷ []

fault_7 : least (faults (manual_file file_7)) ≡ told 2 12 1
fault_7 = refl

-- typedef struct { int a; } A;
-- typedef int A;
abbrev file_8 : List plain.Item
file_8 =
    plain.typedef (plain.spec (at 1 9) (plain.tagged_fields keys.Struct None
    (plain.field_and (plain.members ([]) (plain.spec (at 1 18) (plain.words (keys.Int ∷ [])) 0)
    (plain.declr_and (plain.declr ([]) (name 390) (at 1 22) (plain.sizes plain.no_sizes)) plain.no_declrs))
    plain.no_fields)) 0) ([]) (name 486) (at 1 27) ∷ plain.typedef (plain.spec (at 2 9)
    (plain.words (keys.Int ∷ [])) 0) ([]) (name 486) (at 2 13) ∷ []

fault_8 : least (faults (manual_file file_8)) ≡ told 2 13 1
fault_8 = refl

-- struct S { int a; };
-- union S { int a; };
-- struct S { int b; };
abbrev file_9 : List plain.Item
file_9 =
    plain.tag ([]) (plain.spec (at 1 1) (plain.tagged_fields keys.Struct (Some ((name 487), (at 1 8)))
    (plain.field_and (plain.members ([]) (plain.spec (at 1 12) (plain.words (keys.Int ∷ [])) 0)
    (plain.declr_and (plain.declr ([]) (name 390) (at 1 16) (plain.sizes plain.no_sizes)) plain.no_declrs))
    plain.no_fields)) 0) ∷ plain.tag ([]) (plain.spec (at 2 1) (plain.tagged_fields keys.Union
    (Some ((name 487), (at 2 7))) (plain.field_and (plain.members ([]) (plain.spec (at 2 11)
    (plain.words (keys.Int ∷ [])) 0) (plain.declr_and (plain.declr ([]) (name 390) (at 2 15)
    (plain.sizes plain.no_sizes)) plain.no_declrs)) plain.no_fields)) 0)
    ∷ plain.tag ([]) (plain.spec (at 3 1) (plain.tagged_fields keys.Struct (Some ((name 487), (at 3 8)))
    (plain.field_and (plain.members ([]) (plain.spec (at 3 12) (plain.words (keys.Int ∷ [])) 0)
    (plain.declr_and (plain.declr ([]) (name 400) (at 3 16) (plain.sizes plain.no_sizes)) plain.no_declrs))
    plain.no_fields)) 0) ∷ []

fault_9 : least (faults (manual_file file_9)) ≡ told 3 8 1
fault_9 = refl
