-- How each run of small functions ends, by computing from the definitions: an object that is made. The expected ends
-- come from a reading of the manual (Python/C API Reference Manual 3.11, 'Allocating Objects on the Heap').
use Rattle.std.proofs.Common.{◌≡◌, refl, List, [], ◌∷◌, Bool, Some, None, true, false, pos, ℕ, ℤ}
use Rattle.pungi_base.specs.declared.choice.Choice.TheVariants as choice
use Rattle.pungi_base.specs.declared.key.Key.TheVariants as keys
use Rattle.pungi_base.specs.declared.kind.Kind.TheVariants as tokens
use Rattle.pungi_base.specs.declared.punct.Punct.TheVariants as puncts
use Rattle.pungi_base.specs.declared.value.Value.TheVariants as value
use Rattle.pungi_tree.specs.Syntax as plain
use Rattle.pungi_api.specs.Signatures.{made_signature}
use Rattle.pungi_types.specs.Names.{statics_in}
use Rattle.pungi_meaning.specs.Run.{End, Returned}
use Rattle.pungi_meaning.specs.Todo.{Called}
use Rattle.pungi_world.specs.Effects.{effect}
use Rattle.pungi_world.specs.World.{account_of}
use Rattle.pungi_world.specs.declared.content.Content.TheVariants.{Unset, Holds}
use Rattle.pungi_world.specs.declared.slot.Slot.{Slot}
use Rattle.pungi_world.specs.declared.slot.Slot.TheVariants.{Field}
use Rattle.pungi_world.specs.declared.slot.SlotState.{SlotState}
use Rattle.pungi_lower.proofs.Worked.{at, name, gives, stops, wants, told, last_run, last_operations}
use Rattle.pungi_lower.proofs.WorkedSlots.{slots_of, change_of, held_then}

abbrev pub made_of : ℕ → End → Bool
made_of object (Returned w v p used) = (account_of w object).made
made_of object e = false

-- typedef struct { PyObject_HEAD PyObject *first; long hits; } Box;
abbrev box : plain.Item
box =
    plain.typedef (plain.spec (at 1 9) (plain.tagged_fields keys.Struct None (plain.field_and (plain.members
    ([]) (plain.spec (at 1 18) (plain.alias (name 48)) 0) (plain.declr_and (plain.declr ([]) (name 182) (at 1
    18) (plain.sizes plain.no_sizes)) plain.no_declrs)) (plain.field_and (plain.members ([]) (plain.spec (at 1
    32) (plain.alias (name 48)) 0) (plain.declr_and (plain.declr (0 ∷ []) (name 374) (at 1 42) (plain.sizes
    plain.no_sizes)) plain.no_declrs)) (plain.field_and (plain.members ([]) (plain.spec (at 1 49) (plain.words
    (keys.Long ∷ [])) 0) (plain.declr_and (plain.declr ([]) (name 375) (at 1 54) (plain.sizes plain.no_sizes))
    plain.no_declrs)) plain.no_fields)))) 0) ([]) (name 376) (at 1 62)

-- ---- A field that was never written is not read

-- long f(PyTypeObject *t) { Box *b = PyObject_New(Box, t); if (!b) return 0; return b->hits; }
abbrev pub file_0 : List plain.Item
file_0 =
    box ∷ plain.function_def (plain.head ([]) (plain.spec (at 2 1) (plain.words (keys.Long ∷ [])) 0) ([]) (name
    377) (at 2 6) (plain.params (plain.param_and (plain.param_decl ([]) (plain.spec (at 2 8) (plain.alias (name
    50)) 0) (plain.named (plain.declr (0 ∷ []) (name 378) (at 2 22) (plain.sizes plain.no_sizes))))
    plain.no_params) false None)) (plain.block (at 2 25) (plain.stmt_and (plain.declare (at 2 27) (plain.decl
    ([]) (plain.spec (at 2 27) (plain.alias (name 376)) 0) ((plain.var_decl (plain.declr (0 ∷ []) (name 379) (at
    2 32) (plain.sizes plain.no_sizes)) (Some (plain.value (plain.new (at 2 36) (plain.type_name (plain.spec (at
    2 49) (plain.alias (name 376)) 0) ([])) (plain.word (at 2 54) (name 378)))))) ∷ []))) (plain.stmt_and
    (plain.if_only (at 2 58) (plain.unary (at 2 62) (tokens.Punct puncts.Not) (plain.word (at 2 63) (name 379)))
    (plain.return (at 2 66) (Some (plain.int (at 2 73) (pos 0) false false)))) (plain.stmt_and (plain.return (at
    2 76) (Some (plain.arrow (at 2 84) (plain.word (at 2 83) (name 379)) (name 375)))) plain.no_stmts))) (at 2
    92)) ∷ []

run_0 : told (last_run file_0 25 ((value.Object 24) ∷ []) (choice.Null ∷ []) 120)
    ≡ gives (Some (value.Int (pos 0))) (at 2 66) (at 2 36 ∷ [])
run_0 = refl

run_1 : told (last_run file_0 25 ((value.Object 24) ∷ []) (choice.Object 25 ∷ []) 120) ≡ stops (at 2 84)
run_1 = refl

-- the object is none of those that are there, but the next one
run_2 : told (last_run file_0 25 ((value.Object 24) ∷ []) (choice.Object 24 ∷ []) 120) ≡ wants
run_2 = refl

run_3 : told (last_run file_0 25 ((value.Object 24) ∷ []) (choice.Object 26 ∷ []) 120) ≡ wants
run_3 = refl

-- the type is not NULL
run_4 : told (last_run file_0 24 (value.Null ∷ []) (choice.Object 24 ∷ []) 120) ≡ stops (at 2 36)
run_4 = refl

-- ---- An object that is lost

-- void f(PyTypeObject *t) { PyObject_New(Box, t); }
abbrev pub file_5 : List plain.Item
file_5 =
    box ∷ plain.function_def (plain.head ([]) (plain.spec (at 2 1) (plain.words (keys.Void ∷ [])) 0) ([]) (name
    377) (at 2 6) (plain.params (plain.param_and (plain.param_decl ([]) (plain.spec (at 2 8) (plain.alias (name
    50)) 0) (plain.named (plain.declr (0 ∷ []) (name 378) (at 2 22) (plain.sizes plain.no_sizes))))
    plain.no_params) false None)) (plain.block (at 2 25) (plain.stmt_and (plain.do_expr (at 2 27) (Some
    (plain.new (at 2 27) (plain.type_name (plain.spec (at 2 40) (plain.alias (name 376)) 0) ([])) (plain.word
    (at 2 45) (name 378))))) plain.no_stmts) (at 2 49)) ∷ []

run_5 : told (last_run file_5 25 ((value.Object 24) ∷ []) (choice.Object 25 ∷ []) 120)
    ≡ gives None (at 2 49) (at 2 27 ∷ [])
run_5 = refl

change_5 : ◌≡◌ {A = ℤ × Bool} (
  change_of 25 (last_run file_5 25 ((value.Object 24) ∷ []) (choice.Object 25 ∷ []) 120),
  made_of 25 (last_run file_5 25 ((value.Object 24) ∷ []) (choice.Object 25 ∷ []) 120),
) (pos 1, true)
change_5 = refl

run_6 : told (last_run file_5 25 ((value.Object 24) ∷ []) (choice.Null ∷ []) 120) ≡ gives None (at 2 49) (at 2 27 ∷ [])
run_6 = refl

-- ---- An object that is returned, with a field that is written

-- PyObject *f(PyTypeObject *t, PyObject *x) { Box *b = PyObject_New(Box, t); if (!b) return NULL;
--     Py_INCREF(x); b->first = x; return (PyObject *)b; }
abbrev pub file_7 : List plain.Item
file_7 =
    box ∷ plain.function_def (plain.head ([]) (plain.spec (at 2 1) (plain.alias (name 48)) 0) (0 ∷ []) (name
    377) (at 2 11) (plain.params (plain.param_and (plain.param_decl ([]) (plain.spec (at 2 13) (plain.alias
    (name 50)) 0) (plain.named (plain.declr (0 ∷ []) (name 378) (at 2 27) (plain.sizes plain.no_sizes))))
    (plain.param_and (plain.param_decl ([]) (plain.spec (at 2 30) (plain.alias (name 48)) 0) (plain.named
    (plain.declr (0 ∷ []) (name 379) (at 2 40) (plain.sizes plain.no_sizes)))) plain.no_params)) false None))
    (plain.block (at 2 43) (plain.stmt_and (plain.declare (at 2 45) (plain.decl ([]) (plain.spec (at 2 45)
    (plain.alias (name 376)) 0) ((plain.var_decl (plain.declr (0 ∷ []) (name 380) (at 2 50) (plain.sizes
    plain.no_sizes)) (Some (plain.value (plain.new (at 2 54) (plain.type_name (plain.spec (at 2 67) (plain.alias
    (name 376)) 0) ([])) (plain.word (at 2 72) (name 378)))))) ∷ []))) (plain.stmt_and (plain.if_only (at 2 76)
    (plain.unary (at 2 80) (tokens.Punct puncts.Not) (plain.word (at 2 81) (name 380))) (plain.return (at 2 84)
    (Some (plain.null (at 2 91))))) (plain.stmt_and (plain.do_expr (at 3 5) (Some (plain.call (at 3 5)
    (plain.word (at 3 5) (name 167)) (plain.expr_and (plain.word (at 3 15) (name 379)) plain.no_exprs))))
    (plain.stmt_and (plain.do_expr (at 3 19) (Some (plain.assign (at 3 28) puncts.Assign (plain.arrow (at 3 20)
    (plain.word (at 3 19) (name 380)) (name 374)) (plain.word (at 3 30) (name 379))))) (plain.stmt_and
    (plain.return (at 3 33) (Some (plain.cast (at 3 40) (plain.type_name (plain.spec (at 3 41) (plain.alias
    (name 48)) 0) (0 ∷ [])) (plain.word (at 3 52) (name 380))))) plain.no_stmts))))) (at 3 55)) ∷ []

run_7 : told (last_run file_7 26 ((value.Object 24) ∷ (value.Object 25) ∷ []) (choice.Object 26 ∷ []) 120)
    ≡ gives (Some (value.Object 26)) (at 3 33) (at 2 54 ∷ [])
run_7 = refl

abbrev pub first_of_26 : Slot
first_of_26 = Field 26 (name 376) (name 374)

-- the field held nothing before
world_7 : ◌≡◌ {A = List SlotState × ℤ × ℤ} (
  slots_of (last_run file_7 26 ((value.Object 24) ∷ (value.Object 25) ∷ []) (choice.Object 26 ∷ []) 120),
  change_of 26 (last_run file_7 26 ((value.Object 24) ∷ (value.Object 25) ∷ []) (choice.Object 26 ∷ []) 120),
  change_of 25 (last_run file_7 26 ((value.Object 24) ∷ (value.Object 25) ∷ []) (choice.Object 26 ∷ []) 120),
) (held_then first_of_26 Unset (Holds (value.Object 25)) ∷ [], pos 1, pos 1)
world_7 = refl

run_8 : told (last_run file_7 26 ((value.Object 24) ∷ (value.Object 25) ∷ []) (choice.Null ∷ []) 120)
    ≡ gives (Some value.Null) (at 2 84) (at 2 54 ∷ [])
run_8 = refl

-- ---- The type is one of the file's own, which stands after those that are built in

-- PyTypeObject BoxType;
-- Box *f(void) { return PyObject_New(Box, &BoxType); }
abbrev pub file_9 : List plain.Item
file_9 =
    box ∷ plain.variables (plain.decl ([]) (plain.spec (at 2 1) (plain.alias (name 50)) 0) ((plain.var_decl
    (plain.declr ([]) (name 377) (at 2 14) (plain.sizes plain.no_sizes)) None) ∷ [])) ∷ plain.function_def
    (plain.head ([]) (plain.spec (at 3 1) (plain.alias (name 376)) 0) (0 ∷ []) (name 378) (at 3 6) (plain.params
    plain.no_params true None)) (plain.block (at 3 14) (plain.stmt_and (plain.return (at 3 16) (Some (plain.new
    (at 3 23) (plain.type_name (plain.spec (at 3 36) (plain.alias (name 376)) 0) ([])) (plain.unary (at 3 41)
    (tokens.Punct puncts.And) (plain.word (at 3 42) (name 377)))))) plain.no_stmts) (at 3 52)) ∷ []

statics_9 : statics_in file_9 ≡ 25
statics_9 = refl

run_9 : told (last_run file_9 25 ([]) (choice.Object 25 ∷ []) 120)
    ≡ gives (Some (value.Object 25)) (at 3 16) (at 3 23 ∷ [])
run_9 = refl

operations_9 : last_operations file_9 25 ([]) (choice.Object 25 ∷ []) 120
    ≡ Called (at 3 23) made_signature ((value.Object 24) ∷ []) (effect (Some (value.Object 25)) 1) ∷ []
operations_9 = refl
