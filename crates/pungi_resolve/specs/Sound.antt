-- A resolved tree in which every name and operator has a meaning, and every case a constant that a `long` has.
--   is_long v    a `long` has the number
--   is_sound, are_sound, is_sound_place, is_sound_option, are_sound_locals    values, places and locals
--   is_sound_action, are_sound_actions    statements
use Rattle.std.specs.Prelude.{ℤ, pos, negsuc, nat_le, Bool, true, false, ◌&&◌, List, [], ◌∷◌, Option, Some, None}
use Rattle.pungi_resolved.specs.Values.{Value, constant, text_of, null_of, static_of, module_of, read, inner, signed}
use Rattle.pungi_resolved.specs.Values.{negated, stepped, emptied, computed, compared, joined_by, stored, updated}
use Rattle.pungi_resolved.specs.Values.{chosen, converted, cast_of, dropped, called, called_row, nonsense, Values}
use Rattle.pungi_resolved.specs.Values.{called_unless_null, called_with_outputs}
use Rattle.pungi_resolved.specs.Values.{no_values, value_and, Place, local_place, global_place, field_place, no_place}
use Rattle.pungi_resolved.specs.Actions.{DeclaredLocal, Action, block, declare, do_expr, if_only, if_else, while}
use Rattle.pungi_resolved.specs.Actions.{do_while, for, switch, case, default, label, goto, break, continue, return}
use Rattle.pungi_resolved.specs.Actions.{Actions, no_actions, action_and}

abbrev mutual
  pub is_sound : Value → Bool
  is_sound (constant p v) = true
  is_sound (text_of p ns) = true
  is_sound (null_of p) = true
  is_sound (static_of p n) = true
  is_sound (module_of p n) = true
  is_sound (read p k s) = is_sound_place s
  is_sound (inner p v) = is_sound v
  is_sound (signed p o k v) = is_sound v
  is_sound (negated p v) = is_sound v
  is_sound (stepped p b o k s) = is_sound_place s
  is_sound (emptied p k s) = is_sound_place s
  is_sound (computed p m k a b) = is_sound a && is_sound b
  is_sound (compared p m a b) = is_sound a && is_sound b
  is_sound (joined_by p m a b) = is_sound a && is_sound b
  is_sound (stored p k s v) = is_sound_place s && is_sound v
  is_sound (updated p m j k s v) = is_sound_place s && is_sound v
  is_sound (chosen p c a b) = is_sound c && (is_sound a && is_sound b)
  is_sound (converted p k v) = is_sound v
  is_sound (cast_of p v) = is_sound v
  is_sound (dropped p v) = is_sound v
  is_sound (called p n vs) = are_sound vs
  is_sound (called_row p n g vs) = are_sound vs
  is_sound (called_unless_null p n g vs) = are_sound vs
  is_sound (called_with_outputs p n g vs steps) = are_sound vs
  is_sound (nonsense p) = false

  pub are_sound : Values → Bool
  are_sound no_values = true
  are_sound (value_and v vs) = is_sound v && are_sound vs

  pub is_sound_place : Place → Bool
  is_sound_place (local_place p n) = true
  is_sound_place (global_place p n) = true
  is_sound_place (field_place p v s n) = is_sound v
  is_sound_place no_place = false

abbrev pub is_sound_option : Option Value → Bool
is_sound_option None = true
is_sound_option (Some v) = is_sound v

abbrev pub are_sound_locals : List DeclaredLocal → Bool
are_sound_locals [] = true
are_sound_locals (r ∷ rs) = is_sound_option r.value && are_sound_locals rs

abbrev pub is_long : ℤ → Bool
is_long (pos n) = nat_le n 9223372036854775807
is_long (negsuc n) = nat_le n 9223372036854775807

abbrev mutual
  pub is_sound_action : Action → Bool
  is_sound_action (block p ss q) = are_sound_actions ss
  is_sound_action (declare p rs) = are_sound_locals rs
  is_sound_action (do_expr p v) = is_sound_option v
  is_sound_action (if_only p v a) = is_sound v && is_sound_action a
  is_sound_action (if_else p v a b) = is_sound v && (is_sound_action a && is_sound_action b)
  is_sound_action (while p v a) = is_sound v && is_sound_action a
  is_sound_action (do_while p a v) = is_sound_action a && is_sound v
  is_sound_action (for p rs u v w a) = are_sound_locals rs
      && (is_sound_option u && (is_sound_option v && (is_sound_option w && is_sound_action a)))
  is_sound_action (switch p v a) = is_sound v && is_sound_action a
  is_sound_action (case p v a) = is_long v && is_sound_action a
  is_sound_action (default p a) = is_sound_action a
  is_sound_action (label p n a) = is_sound_action a
  is_sound_action (goto p n) = true
  is_sound_action (break p) = true
  is_sound_action (continue p) = true
  is_sound_action (return p k v) = is_sound_option v

  pub are_sound_actions : Actions → Bool
  are_sound_actions no_actions = true
  are_sound_actions (action_and a as') = is_sound_action a && are_sound_actions as'
