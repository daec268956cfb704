-- How each run of small functions ends, by computing from the definitions: where a place that is written stands, and
-- the world at the end. The expected ends come from a reading of the rules.
use Rattle.std.proofs.Common.{◌≡◌, refl, List, [], ◌∷◌, Some, None, true, false, pos, negsuc, ℤ}
use Rattle.pungi_base.specs.declared.choice.Choice.TheVariants as choice
use Rattle.pungi_base.specs.declared.key.Key.TheVariants as keys
use Rattle.pungi_base.specs.declared.kind.Kind.TheVariants as tokens
use Rattle.pungi_base.specs.declared.punct.Punct.TheVariants as puncts
use Rattle.pungi_base.specs.declared.value.Value.TheVariants as value
use Rattle.pungi_tree.specs.Syntax as plain
use Rattle.pungi_world.specs.declared.content.Content.TheVariants.{Holds}
use Rattle.pungi_world.specs.declared.slot.Slot.TheVariants.{Global, Field}
use Rattle.pungi_world.specs.declared.slot.SlotState.{SlotState}
use Rattle.pungi_lower.proofs.Worked.{at, name, gives, stops, wants, told, last_run}
use Rattle.pungi_lower.proofs.WorkedSlots.{slots_of, change_of, held_then}

-- ---- Where a place that is written stands

-- int f(void) { int a; a += 1; return a; }
abbrev pub file_34 : List plain.Item
file_34 =
    plain.function_def (plain.head ([]) (plain.spec (at 1 1) (plain.words (keys.Int ∷ [])) 0) ([]) (name 374)
    (at 1 5) (plain.params plain.no_params true None)) (plain.block (at 1 13)
    (plain.stmt_and (plain.declare (at 1 15) (plain.decl ([]) (plain.spec (at 1 15) (plain.words (keys.Int ∷ [])) 0)
    ((plain.var_decl (plain.declr ([]) (name 375) (at 1 19) (plain.sizes plain.no_sizes)) None) ∷ [])))
    (plain.stmt_and (plain.do_expr (at 1 22) (Some (plain.assign (at 1 24) puncts.PlusAssign
    (plain.word (at 1 22) (name 375)) (plain.int (at 1 27) (pos 1) false false))))
    (plain.stmt_and (plain.return (at 1 30) (Some (plain.word (at 1 37) (name 375)))) plain.no_stmts))) (at 1 40))
    ∷ []

run_34 : told (last_run file_34 24 ([]) ([]) 50) ≡ stops (at 1 22)
run_34 = refl

-- int f(void) { int a; a++; return a; }
abbrev pub file_35 : List plain.Item
file_35 =
    plain.function_def (plain.head ([]) (plain.spec (at 1 1) (plain.words (keys.Int ∷ [])) 0) ([]) (name 374)
    (at 1 5) (plain.params plain.no_params true None)) (plain.block (at 1 13)
    (plain.stmt_and (plain.declare (at 1 15) (plain.decl ([]) (plain.spec (at 1 15) (plain.words (keys.Int ∷ [])) 0)
    ((plain.var_decl (plain.declr ([]) (name 375) (at 1 19) (plain.sizes plain.no_sizes)) None) ∷ [])))
    (plain.stmt_and (plain.do_expr (at 1 22) (Some (plain.post (at 1 23) puncts.PlusPlus
    (plain.word (at 1 22) (name 375))))) (plain.stmt_and (plain.return (at 1 27)
    (Some (plain.word (at 1 34) (name 375)))) plain.no_stmts))) (at 1 37)) ∷ []

run_35 : told (last_run file_35 24 ([]) ([]) 50) ≡ stops (at 1 22)
run_35 = refl

-- int f(void) { int a; --a; return a; }
abbrev pub file_36 : List plain.Item
file_36 =
    plain.function_def (plain.head ([]) (plain.spec (at 1 1) (plain.words (keys.Int ∷ [])) 0) ([]) (name 374)
    (at 1 5) (plain.params plain.no_params true None)) (plain.block (at 1 13)
    (plain.stmt_and (plain.declare (at 1 15) (plain.decl ([]) (plain.spec (at 1 15) (plain.words (keys.Int ∷ [])) 0)
    ((plain.var_decl (plain.declr ([]) (name 375) (at 1 19) (plain.sizes plain.no_sizes)) None) ∷ [])))
    (plain.stmt_and (plain.do_expr (at 1 22) (Some (plain.unary (at 1 22) (tokens.Punct puncts.MinusMinus)
    (plain.word (at 1 24) (name 375))))) (plain.stmt_and (plain.return (at 1 27)
    (Some (plain.word (at 1 34) (name 375)))) plain.no_stmts))) (at 1 37)) ∷ []

run_36 : told (last_run file_36 24 ([]) ([]) 50) ≡ stops (at 1 24)
run_36 = refl

-- long g;
-- long f(void) { g = 5; return g; }
abbrev pub file_37 : List plain.Item
file_37 =
    plain.variables (plain.decl ([]) (plain.spec (at 1 1) (plain.words (keys.Long ∷ [])) 0)
    ((plain.var_decl (plain.declr ([]) (name 374) (at 1 6) (plain.sizes plain.no_sizes)) None) ∷ []))
    ∷ plain.function_def (plain.head ([]) (plain.spec (at 2 1) (plain.words (keys.Long ∷ [])) 0) ([]) (name 375)
    (at 2 6) (plain.params plain.no_params true None)) (plain.block (at 2 14)
    (plain.stmt_and (plain.do_expr (at 2 16) (Some (plain.assign (at 2 18) puncts.Assign
    (plain.word (at 2 16) (name 374)) (plain.int (at 2 20) (pos 5) false false))))
    (plain.stmt_and (plain.return (at 2 23) (Some (plain.word (at 2 30) (name 374)))) plain.no_stmts)) (at 2 33))
    ∷ []

run_37 : told (last_run file_37 24 ([]) ((choice.Int (pos 3)) ∷ []) 80)
    ≡ gives (Some (value.Int (pos 5))) (at 2 23) (at 2 16 ∷ [])
run_37 = refl

-- long g;
-- long f(void) { g = 5; return g; }
run_38 : told (last_run file_37 24 ([]) (choice.Null ∷ []) 80) ≡ wants
run_38 = refl

-- int h;
-- int f(void) { return h++ * 10 + h; }
abbrev pub file_39 : List plain.Item
file_39 =
    plain.variables (plain.decl ([]) (plain.spec (at 1 1) (plain.words (keys.Int ∷ [])) 0)
    ((plain.var_decl (plain.declr ([]) (name 374) (at 1 5) (plain.sizes plain.no_sizes)) None) ∷ []))
    ∷ plain.function_def (plain.head ([]) (plain.spec (at 2 1) (plain.words (keys.Int ∷ [])) 0) ([]) (name 375)
    (at 2 5) (plain.params plain.no_params true None)) (plain.block (at 2 13)
    (plain.stmt_and (plain.return (at 2 15) (Some (plain.binary (at 2 31) puncts.Plus
    (plain.binary (at 2 26) puncts.Star (plain.post (at 2 23) puncts.PlusPlus (plain.word (at 2 22) (name 374)))
    (plain.int (at 2 28) (pos 10) false false)) (plain.word (at 2 33) (name 374))))) plain.no_stmts) (at 2 36)) ∷ []

run_39 : told (last_run file_39 24 ([]) ((choice.Int (pos 3)) ∷ []) 80)
    ≡ gives (Some (value.Int (pos 34))) (at 2 15) (at 2 22 ∷ [])
run_39 = refl

-- PyObject *o;
-- void f(PyObject *x) { o = x; }
abbrev pub file_40 : List plain.Item
file_40 =
    plain.variables (plain.decl ([]) (plain.spec (at 1 1) (plain.alias (name 48)) 0)
    ((plain.var_decl (plain.declr (0 ∷ []) (name 374) (at 1 11) (plain.sizes plain.no_sizes)) None) ∷ []))
    ∷ plain.function_def (plain.head ([]) (plain.spec (at 2 1) (plain.words (keys.Void ∷ [])) 0) ([]) (name 375)
    (at 2 6) (plain.params (plain.param_and (plain.param_decl ([]) (plain.spec (at 2 8) (plain.alias (name 48)) 0)
    (plain.named (plain.declr (0 ∷ []) (name 376) (at 2 18) (plain.sizes plain.no_sizes)))) plain.no_params) false
    None)) (plain.block (at 2 21) (plain.stmt_and (plain.do_expr (at 2 23)
    (Some (plain.assign (at 2 25) puncts.Assign (plain.word (at 2 23) (name 374))
    (plain.word (at 2 27) (name 376))))) plain.no_stmts) (at 2 30)) ∷ []

run_40 : told (last_run file_40 24 ((value.Object 3) ∷ []) ((choice.Object 24) ∷ []) 80)
    ≡ gives None (at 2 30) (at 2 23 ∷ [])
run_40 = refl

-- typedef struct { PyObject_HEAD PyObject *first; long hits; int few; } Box;
-- long f(Box *b, long n) { b->hits = n; return 0; }
abbrev pub file_41 : List plain.Item
file_41 =
    plain.typedef (plain.spec (at 1 9) (plain.tagged_fields keys.Struct None
    (plain.field_and (plain.members ([]) (plain.spec (at 1 18) (plain.alias (name 48)) 0)
    (plain.declr_and (plain.declr ([]) (name 182) (at 1 18) (plain.sizes plain.no_sizes)) plain.no_declrs))
    (plain.field_and (plain.members ([]) (plain.spec (at 1 32) (plain.alias (name 48)) 0)
    (plain.declr_and (plain.declr (0 ∷ []) (name 374) (at 1 42) (plain.sizes plain.no_sizes)) plain.no_declrs))
    (plain.field_and (plain.members ([]) (plain.spec (at 1 49) (plain.words (keys.Long ∷ [])) 0)
    (plain.declr_and (plain.declr ([]) (name 375) (at 1 54) (plain.sizes plain.no_sizes)) plain.no_declrs))
    (plain.field_and (plain.members ([]) (plain.spec (at 1 60) (plain.words (keys.Int ∷ [])) 0)
    (plain.declr_and (plain.declr ([]) (name 376) (at 1 64) (plain.sizes plain.no_sizes)) plain.no_declrs))
    plain.no_fields))))) 0) ([]) (name 377) (at 1 71) ∷ plain.function_def
    (plain.head ([]) (plain.spec (at 2 1) (plain.words (keys.Long ∷ [])) 0) ([]) (name 378) (at 2 6)
    (plain.params (plain.param_and (plain.param_decl ([]) (plain.spec (at 2 8) (plain.alias (name 377)) 0)
    (plain.named (plain.declr (0 ∷ []) (name 379) (at 2 13) (plain.sizes plain.no_sizes))))
    (plain.param_and (plain.param_decl ([]) (plain.spec (at 2 16) (plain.words (keys.Long ∷ [])) 0)
    (plain.named (plain.declr ([]) (name 380) (at 2 21) (plain.sizes plain.no_sizes)))) plain.no_params)) false
    None)) (plain.block (at 2 24) (plain.stmt_and (plain.do_expr (at 2 26)
    (Some (plain.assign (at 2 34) puncts.Assign (plain.arrow (at 2 27) (plain.word (at 2 26) (name 379)) (name 375))
    (plain.word (at 2 36) (name 380))))) (plain.stmt_and (plain.return (at 2 39)
    (Some (plain.int (at 2 46) (pos 0) false false))) plain.no_stmts)) (at 2 49)) ∷ []

run_41 : told (last_run file_41 24 (value.Null ∷ (value.Int (pos 4)) ∷ []) ((choice.Int (pos 1)) ∷ []) 50)
    ≡ stops (at 2 27)
run_41 = refl

-- typedef struct { PyObject_HEAD PyObject *first; long hits; int few; } Box;
-- int f(Box *b, long n) { b->few = n; return 0; }
abbrev pub file_42 : List plain.Item
file_42 =
    plain.typedef (plain.spec (at 1 9) (plain.tagged_fields keys.Struct None
    (plain.field_and (plain.members ([]) (plain.spec (at 1 18) (plain.alias (name 48)) 0)
    (plain.declr_and (plain.declr ([]) (name 182) (at 1 18) (plain.sizes plain.no_sizes)) plain.no_declrs))
    (plain.field_and (plain.members ([]) (plain.spec (at 1 32) (plain.alias (name 48)) 0)
    (plain.declr_and (plain.declr (0 ∷ []) (name 374) (at 1 42) (plain.sizes plain.no_sizes)) plain.no_declrs))
    (plain.field_and (plain.members ([]) (plain.spec (at 1 49) (plain.words (keys.Long ∷ [])) 0)
    (plain.declr_and (plain.declr ([]) (name 375) (at 1 54) (plain.sizes plain.no_sizes)) plain.no_declrs))
    (plain.field_and (plain.members ([]) (plain.spec (at 1 60) (plain.words (keys.Int ∷ [])) 0)
    (plain.declr_and (plain.declr ([]) (name 376) (at 1 64) (plain.sizes plain.no_sizes)) plain.no_declrs))
    plain.no_fields))))) 0) ([]) (name 377) (at 1 71) ∷ plain.function_def
    (plain.head ([]) (plain.spec (at 2 1) (plain.words (keys.Int ∷ [])) 0) ([]) (name 378) (at 2 5)
    (plain.params (plain.param_and (plain.param_decl ([]) (plain.spec (at 2 7) (plain.alias (name 377)) 0)
    (plain.named (plain.declr (0 ∷ []) (name 379) (at 2 12) (plain.sizes plain.no_sizes))))
    (plain.param_and (plain.param_decl ([]) (plain.spec (at 2 15) (plain.words (keys.Long ∷ [])) 0)
    (plain.named (plain.declr ([]) (name 380) (at 2 20) (plain.sizes plain.no_sizes)))) plain.no_params)) false
    None)) (plain.block (at 2 23) (plain.stmt_and (plain.do_expr (at 2 25)
    (Some (plain.assign (at 2 32) puncts.Assign (plain.arrow (at 2 26) (plain.word (at 2 25) (name 379)) (name 376))
    (plain.word (at 2 34) (name 380))))) (plain.stmt_and (plain.return (at 2 37)
    (Some (plain.int (at 2 44) (pos 0) false false))) plain.no_stmts)) (at 2 47)) ∷ []

run_42 : told (last_run file_42 25 ((value.Object 24) ∷ (value.Int (pos 3000000000)) ∷ [])
    ((choice.Int (pos 1)) ∷ []) 50) ≡ stops (at 2 32)
run_42 = refl

-- int f(int a, long b) { a += b; return a; }
abbrev pub file_43 : List plain.Item
file_43 =
    plain.function_def (plain.head ([]) (plain.spec (at 1 1) (plain.words (keys.Int ∷ [])) 0) ([]) (name 374)
    (at 1 5) (plain.params (plain.param_and (plain.param_decl ([]) (plain.spec (at 1 7)
    (plain.words (keys.Int ∷ [])) 0) (plain.named (plain.declr ([]) (name 375) (at 1 11)
    (plain.sizes plain.no_sizes)))) (plain.param_and (plain.param_decl ([])
    (plain.spec (at 1 14) (plain.words (keys.Long ∷ [])) 0) (plain.named (plain.declr ([]) (name 376) (at 1 19)
    (plain.sizes plain.no_sizes)))) plain.no_params)) false None)) (plain.block (at 1 22)
    (plain.stmt_and (plain.do_expr (at 1 24) (Some (plain.assign (at 1 26) puncts.PlusAssign
    (plain.word (at 1 24) (name 375)) (plain.word (at 1 29) (name 376)))))
    (plain.stmt_and (plain.return (at 1 32) (Some (plain.word (at 1 39) (name 375)))) plain.no_stmts)) (at 1 42))
    ∷ []

run_43 : told (last_run file_43 24 ((value.Int (pos 5)) ∷ (value.Int (pos 9223372036854775807)) ∷ []) ([]) 50)
    ≡ stops (at 1 26)
run_43 = refl

-- int f(int a, long b) { a += b; return a; }
run_44 : told (last_run file_43 24 ((value.Int (pos 5)) ∷ (value.Int (negsuc 6)) ∷ []) ([]) 50)
    ≡ gives (Some (value.Int (negsuc 1))) (at 1 32) ([])
run_44 = refl

-- Py_ssize_t f(Py_ssize_t a) { a++; a += 1; return -a; }
abbrev pub file_45 : List plain.Item
file_45 =
    plain.function_def (plain.head ([]) (plain.spec (at 1 1) (plain.alias (name 62)) 0) ([]) (name 374) (at 1 12)
    (plain.params (plain.param_and (plain.param_decl ([]) (plain.spec (at 1 14) (plain.alias (name 62)) 0)
    (plain.named (plain.declr ([]) (name 375) (at 1 25) (plain.sizes plain.no_sizes)))) plain.no_params) false
    None)) (plain.block (at 1 28) (plain.stmt_and (plain.do_expr (at 1 30)
    (Some (plain.post (at 1 31) puncts.PlusPlus (plain.word (at 1 30) (name 375)))))
    (plain.stmt_and (plain.do_expr (at 1 35) (Some (plain.assign (at 1 37) puncts.PlusAssign
    (plain.word (at 1 35) (name 375)) (plain.int (at 1 40) (pos 1) false false))))
    (plain.stmt_and (plain.return (at 1 43) (Some (plain.unary (at 1 50) (tokens.Punct puncts.Minus)
    (plain.word (at 1 51) (name 375))))) plain.no_stmts))) (at 1 54)) ∷ []

run_45 : told (last_run file_45 24 ((value.Int (pos 5)) ∷ []) ([]) 50)
    ≡ gives (Some (value.Int (negsuc 6))) (at 1 43) ([])
run_45 = refl

-- ---- The world at the end: the slots that were touched, and the change of object 25

-- typedef struct { PyObject_HEAD PyObject *first; } Box;
-- void f(Box *self, PyObject *x) { PyObject *tmp = self->first; Py_INCREF(x); self->first = x; Py_XDECREF(tmp); }
abbrev pub file_46 : List plain.Item
file_46 =
    plain.typedef (plain.spec (at 1 9) (plain.tagged_fields keys.Struct None
    (plain.field_and (plain.members ([]) (plain.spec (at 1 18) (plain.alias (name 48)) 0)
    (plain.declr_and (plain.declr ([]) (name 182) (at 1 18) (plain.sizes plain.no_sizes)) plain.no_declrs))
    (plain.field_and (plain.members ([]) (plain.spec (at 1 32) (plain.alias (name 48)) 0)
    (plain.declr_and (plain.declr (0 ∷ []) (name 374) (at 1 42) (plain.sizes plain.no_sizes)) plain.no_declrs))
    plain.no_fields))) 0) ([]) (name 375) (at 1 51) ∷ plain.function_def (plain.head ([])
    (plain.spec (at 2 1) (plain.words (keys.Void ∷ [])) 0) ([]) (name 376) (at 2 6)
    (plain.params (plain.param_and (plain.param_decl ([]) (plain.spec (at 2 8) (plain.alias (name 375)) 0)
    (plain.named (plain.declr (0 ∷ []) (name 377) (at 2 13) (plain.sizes plain.no_sizes))))
    (plain.param_and (plain.param_decl ([]) (plain.spec (at 2 19) (plain.alias (name 48)) 0)
    (plain.named (plain.declr (0 ∷ []) (name 378) (at 2 29) (plain.sizes plain.no_sizes)))) plain.no_params)) false
    None)) (plain.block (at 2 32) (plain.stmt_and (plain.declare (at 2 34)
    (plain.decl ([]) (plain.spec (at 2 34) (plain.alias (name 48)) 0) ((plain.var_decl
    (plain.declr (0 ∷ []) (name 379) (at 2 44) (plain.sizes plain.no_sizes))
    (Some (plain.value (plain.arrow (at 2 54) (plain.word (at 2 50) (name 377)) (name 374))))) ∷ [])))
    (plain.stmt_and (plain.do_expr (at 2 63) (Some (plain.call (at 2 63) (plain.word (at 2 63) (name 167))
    (plain.expr_and (plain.word (at 2 73) (name 378)) plain.no_exprs)))) (plain.stmt_and
    (plain.do_expr (at 2 77) (Some (plain.assign (at 2 89) puncts.Assign (plain.arrow (at 2 81)
    (plain.word (at 2 77) (name 377)) (name 374)) (plain.word (at 2 91) (name 378)))))
    (plain.stmt_and (plain.do_expr (at 2 94) (Some (plain.call (at 2 94) (plain.word (at 2 94) (name 170))
    (plain.expr_and (plain.word (at 2 105) (name 379)) plain.no_exprs)))) plain.no_stmts)))) (at 2 111)) ∷ []

run_46 : ◌≡◌ {A = List SlotState × ℤ} (
  slots_of (last_run file_46 26 ((value.Object 24) ∷ (value.Object 25) ∷ [])
      (choice.Null ∷ []) 100),
  change_of 25 (last_run (plain.typedef (plain.spec (at 1 9)
      (plain.tagged_fields keys.Struct None (plain.field_and (plain.members ([])
      (plain.spec (at 1 18) (plain.alias (name 48)) 0) (plain.declr_and (plain.declr ([]) (name 182) (at 1 18)
      (plain.sizes plain.no_sizes)) plain.no_declrs)) (plain.field_and (plain.members ([])
      (plain.spec (at 1 32) (plain.alias (name 48)) 0) (plain.declr_and (plain.declr (0 ∷ []) (name 374) (at 1 42)
      (plain.sizes plain.no_sizes)) plain.no_declrs)) plain.no_fields))) 0) ([]) (name 375) (at 1 51)
      ∷ plain.function_def (plain.head ([]) (plain.spec (at 2 1) (plain.words (keys.Void ∷ [])) 0) ([]) (name 376)
      (at 2 6) (plain.params (plain.param_and (plain.param_decl ([]) (plain.spec (at 2 8) (plain.alias (name 375)) 0)
      (plain.named (plain.declr (0 ∷ []) (name 377) (at 2 13) (plain.sizes plain.no_sizes))))
      (plain.param_and (plain.param_decl ([]) (plain.spec (at 2 19) (plain.alias (name 48)) 0)
      (plain.named (plain.declr (0 ∷ []) (name 378) (at 2 29) (plain.sizes plain.no_sizes)))) plain.no_params)) false
      None)) (plain.block (at 2 32) (plain.stmt_and (plain.declare (at 2 34)
      (plain.decl ([]) (plain.spec (at 2 34) (plain.alias (name 48)) 0) ((plain.var_decl
      (plain.declr (0 ∷ []) (name 379) (at 2 44) (plain.sizes plain.no_sizes))
      (Some (plain.value (plain.arrow (at 2 54) (plain.word (at 2 50) (name 377)) (name 374))))) ∷ [])))
      (plain.stmt_and (plain.do_expr (at 2 63) (Some (plain.call (at 2 63) (plain.word (at 2 63) (name 167))
      (plain.expr_and (plain.word (at 2 73) (name 378)) plain.no_exprs)))) (plain.stmt_and
      (plain.do_expr (at 2 77) (Some (plain.assign (at 2 89) puncts.Assign (plain.arrow (at 2 81)
      (plain.word (at 2 77) (name 377)) (name 374)) (plain.word (at 2 91) (name 378)))))
      (plain.stmt_and (plain.do_expr (at 2 94) (Some (plain.call (at 2 94) (plain.word (at 2 94) (name 170))
      (plain.expr_and (plain.word (at 2 105) (name 379)) plain.no_exprs)))) plain.no_stmts)))) (at 2 111)) ∷ []) 26
      ((value.Object 24) ∷ (value.Object 25) ∷ []) (choice.Null ∷ []) 100),
) (
  held_then
      (Field 24 (name 375) (name 374)) (Holds value.Null) (Holds (value.Object 25)) ∷ [],
  pos 1,
)
run_46 = refl

-- long g;
-- void f(PyObject *x) { g = 5; Py_DECREF(x); }
abbrev pub file_47 : List plain.Item
file_47 =
    plain.variables (plain.decl ([]) (plain.spec (at 1 1) (plain.words (keys.Long ∷ [])) 0)
    ((plain.var_decl (plain.declr ([]) (name 374) (at 1 6) (plain.sizes plain.no_sizes)) None) ∷ []))
    ∷ plain.function_def (plain.head ([]) (plain.spec (at 2 1) (plain.words (keys.Void ∷ [])) 0) ([]) (name 375)
    (at 2 6) (plain.params (plain.param_and (plain.param_decl ([]) (plain.spec (at 2 8) (plain.alias (name 48)) 0)
    (plain.named (plain.declr (0 ∷ []) (name 376) (at 2 18) (plain.sizes plain.no_sizes)))) plain.no_params) false
    None)) (plain.block (at 2 21) (plain.stmt_and (plain.do_expr (at 2 23)
    (Some (plain.assign (at 2 25) puncts.Assign (plain.word (at 2 23) (name 374))
    (plain.int (at 2 27) (pos 5) false false)))) (plain.stmt_and (plain.do_expr (at 2 30)
    (Some (plain.call (at 2 30) (plain.word (at 2 30) (name 168)) (plain.expr_and (plain.word (at 2 40) (name 376))
    plain.no_exprs)))) plain.no_stmts)) (at 2 44)) ∷ []

run_47 : ◌≡◌ {A = List SlotState × ℤ} (
  slots_of (last_run file_47 26 ((value.Object 25) ∷ [])
      ((choice.Int (pos 3)) ∷ []) 100),
  change_of 25 (last_run (plain.variables
      (plain.decl ([]) (plain.spec (at 1 1) (plain.words (keys.Long ∷ [])) 0)
      ((plain.var_decl (plain.declr ([]) (name 374) (at 1 6) (plain.sizes plain.no_sizes)) None) ∷ []))
      ∷ plain.function_def (plain.head ([]) (plain.spec (at 2 1) (plain.words (keys.Void ∷ [])) 0) ([]) (name 375)
      (at 2 6) (plain.params (plain.param_and (plain.param_decl ([]) (plain.spec (at 2 8) (plain.alias (name 48)) 0)
      (plain.named (plain.declr (0 ∷ []) (name 376) (at 2 18) (plain.sizes plain.no_sizes)))) plain.no_params) false
      None)) (plain.block (at 2 21) (plain.stmt_and (plain.do_expr (at 2 23)
      (Some (plain.assign (at 2 25) puncts.Assign (plain.word (at 2 23) (name 374))
      (plain.int (at 2 27) (pos 5) false false)))) (plain.stmt_and (plain.do_expr (at 2 30)
      (Some (plain.call (at 2 30) (plain.word (at 2 30) (name 168)) (plain.expr_and (plain.word (at 2 40) (name 376))
      plain.no_exprs)))) plain.no_stmts)) (at 2 44)) ∷ []) 26 ((value.Object 25) ∷ []) ((choice.Int (pos 3)) ∷ [])
      100),
) (held_then (Global (name 374)) (Holds (value.Int (pos 3))) (Holds (value.Int (pos 5))) ∷ [], negsuc 0)
run_47 = refl
