-- Actions in which every word and operator has a meaning, with a fact for each part.
--   AreSoundLocals rs     locals as they are reached
--   IsSoundAction a, AreSoundActions as    actions
use Rattle.std.specs.Prelude.{◌≡◌, true, List, [], ◌∷◌}
use Rattle.pungi_resolved.specs.Actions.{DeclaredLocal, Action, block, declare, do_expr, if_only, if_else, while}
use Rattle.pungi_resolved.specs.Actions.{do_while, for, switch, case, default, label, goto, break, continue, return}
use Rattle.pungi_resolved.specs.Actions.{Actions, no_actions, action_and}
use Rattle.pungi_resolve.specs.Sound.{is_long, is_sound, is_sound_option}

abbrev pub AreSoundLocals : List DeclaredLocal → Type 0
AreSoundLocals [] = Unit {0}
AreSoundLocals (r ∷ rs) = (is_sound_option r.value ≡ true) × AreSoundLocals rs

abbrev mutual
  pub IsSoundAction : Action → Type 0
  IsSoundAction (block p ss q) = AreSoundActions ss
  IsSoundAction (declare p rs) = AreSoundLocals rs
  IsSoundAction (do_expr p v) = is_sound_option v ≡ true
  IsSoundAction (if_only p v a) = (is_sound v ≡ true) × IsSoundAction a
  IsSoundAction (if_else p v a b) = (is_sound v ≡ true) × IsSoundAction a × IsSoundAction b
  IsSoundAction (while p v a) = (is_sound v ≡ true) × IsSoundAction a
  IsSoundAction (do_while p a v) = IsSoundAction a × (is_sound v ≡ true)
  IsSoundAction (for p rs u v w a) = AreSoundLocals rs × (is_sound_option u ≡ true) × (is_sound_option v ≡ true)
      × (is_sound_option w ≡ true) × IsSoundAction a
  IsSoundAction (switch p v a) = (is_sound v ≡ true) × IsSoundAction a
  IsSoundAction (case p v a) = (is_long v ≡ true) × IsSoundAction a
  IsSoundAction (default p a) = IsSoundAction a
  IsSoundAction (label p n a) = IsSoundAction a
  IsSoundAction (goto p n) = Unit {0}
  IsSoundAction (break p) = Unit {0}
  IsSoundAction (continue p) = Unit {0}
  IsSoundAction (return p k v) = is_sound_option v ≡ true

  pub AreSoundActions : Actions → Type 0
  AreSoundActions no_actions = Unit {0}
  AreSoundActions (action_and a as') = IsSoundAction a × AreSoundActions as'
