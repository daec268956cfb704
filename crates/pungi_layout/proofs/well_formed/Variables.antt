-- Each variable of a function whose parts are of the kinds that they need holds what a slot may hold.
use Rattle.std.proofs.Common.{◌≡◌, ℕ, zero, suc, true, List, [], ◌∷◌, ◌++◌, map, Option, Some, None, refl}
use Rattle.std.specs.List.{list_all}
use Rattle.pungi_api.specs.declared.param.Param.{Param}
use Rattle.pungi_types.specs.declared.kind.ValueKind.{ValueKind}
use Rattle.pungi_types.specs.declared.kind.ValueKind.TheVariants as kinds
use Rattle.pungi_resolved.specs.Values as expr
use Rattle.pungi_resolved.specs.Actions as stmt
use Rattle.pungi_resolved.specs.Functions.{ResolvedFunction}
use Rattle.pungi_code.specs.WellFormed.{is_slot_kind}
use Rattle.pungi_layout.specs.code.CallKinds.{held_kind}
use Rattle.pungi_layout.specs.code.FunctionCode.{HasParams}
use Rattle.pungi_layout.specs.code.Levels.{stmt_levels}
use Rattle.pungi_layout.specs.code.VarKinds.{kind_held, stmt_declared, stmts_declared, temp_kinds, var_kinds}
use Rattle.pungi_layout.specs.kinds.Typed.{Known, is_kept, IsDeclaredTyped, AreDeclaredTyped, IsStmtTyped}
use Rattle.pungi_layout.specs.kinds.Typed.{AreStmtsTyped}
use Rattle.pungi_layout.proofs.well_formed.Both.{and_true, and_left, and_right}

abbrev AreSlots : List Param → Type 0
AreSlots ks = list_all is_slot_kind ks ≡ true

slots_append : (a b : List Param) → AreSlots a → AreSlots b → AreSlots (a ++ b)
slots_append [] b f g = g
slots_append (k ∷ a) b f g =
    and_true _ _ (and_left (is_slot_kind k) (list_all is_slot_kind a) f)
    (slots_append a b (and_right (is_slot_kind k) (list_all is_slot_kind a) f) g)

temps_slots : (n : ℕ) → AreSlots (temp_kinds n)
temps_slots zero = refl
temps_slots (suc n) = temps_slots n

kept_slot : (kind : ValueKind) → is_kept kind ≡ true → is_slot_kind (held_kind (Some kind)) ≡ true
kept_slot kinds.Int h = refl
kept_slot kinds.Long h = refl
kept_slot kinds.Size h = refl
kept_slot kinds.Text h = refl
kept_slot (kinds.Object tag) h = refl
kept_slot kinds.Null h = absurd (cc)
kept_slot kinds.Void h = absurd (cc)

-- .. of declared locals
abbrev DeclareSlots : List stmt.DeclaredLocal → Type 0
DeclareSlots rs = AreSlots (map kind_held rs)

both_declared : (rs qs : List stmt.DeclaredLocal) → DeclareSlots rs → DeclareSlots qs → DeclareSlots (rs ++ qs)
both_declared [] qs f g = g
both_declared (r ∷ rs) qs f g =
    and_true _ _ (and_left (is_slot_kind (kind_held r)) (list_all is_slot_kind (map kind_held rs)) f)
    (both_declared rs qs (and_right (is_slot_kind (kind_held r)) (list_all is_slot_kind (map kind_held rs)) f) g)

module _ (file : Known) (vars : List Param) where
  one_declared : (x : ℕ) (kind : Option ValueKind) (v : Option expr.Value) → IsDeclaredTyped file vars x kind v
      → is_slot_kind (held_kind kind) ≡ true
  one_declared x None v h = absurd h
  one_declared x (Some kind) v h = kept_slot kind h.0

  all_declared : (rs : List stmt.DeclaredLocal) → AreDeclaredTyped file vars rs → DeclareSlots rs
  all_declared [] h = refl
  all_declared (r ∷ rs) h = and_true _ _ (one_declared r.number r.kind r.value h.0) (all_declared rs h.1)

  mutual
    stmt_slots : (a : stmt.Action) → IsStmtTyped file vars a → DeclareSlots (stmt_declared a)
    stmt_slots (stmt.block p ss q) h = stmts_slots ss h
    stmt_slots (stmt.declare p rs) h = all_declared rs h
    stmt_slots (stmt.if_only p c a) h = stmt_slots a h.1
    stmt_slots (stmt.if_else p c a b) h =
        both_declared (stmt_declared a) (stmt_declared b) (stmt_slots a h.1) (stmt_slots b h.2)
    stmt_slots (stmt.while p c a) h = stmt_slots a h.1
    stmt_slots (stmt.do_while p a c) h = stmt_slots a h.1
    stmt_slots (stmt.for p rs u c w a) h =
        both_declared rs (stmt_declared a) (all_declared rs h.0) (stmt_slots a h.4)
    stmt_slots (stmt.switch p v a) h = stmt_slots a h.2
    stmt_slots (stmt.case p n a) h = stmt_slots a h.1
    stmt_slots (stmt.default p a) h = stmt_slots a h
    stmt_slots (stmt.label p l a) h = stmt_slots a h
    stmt_slots _ h = refl

    stmts_slots : (ss : stmt.Actions) → AreStmtsTyped file vars ss → DeclareSlots (stmts_declared ss)
    stmts_slots stmt.no_actions h = refl
    stmts_slots (stmt.action_and a ss) h =
        both_declared (stmt_declared a) (stmts_declared ss) (stmt_slots a h.0) (stmts_slots ss h.1)

-- parameters, declared locals and temporaries
pub var_slots : (file : Known) (f : ResolvedFunction) → HasParams f → IsStmtTyped file (var_kinds f) f.body
    → AreSlots (var_kinds f)
var_slots file f p t =
    slots_append (map held_kind f.params) _ p
    (slots_append (map kind_held (stmt_declared f.body)) (temp_kinds (stmt_levels f.body))
    (stmt_slots file (var_kinds f) f.body t) (temps_slots (stmt_levels f.body)))
