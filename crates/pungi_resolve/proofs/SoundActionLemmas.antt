-- What is sound by the test has the fact for each part.
use Rattle.std.proofs.Common.{◌≡◌, true, List, [], ◌∷◌}
use Rattle.pungi_resolved.specs.Actions.{DeclaredLocal, Action, block, declare, do_expr, if_only, if_else, while}
use Rattle.pungi_resolved.specs.Actions.{do_while, for, switch, case, default, label, goto, break, continue, return}
use Rattle.pungi_resolved.specs.Actions.{Actions, no_actions, action_and}
use Rattle.pungi_resolve.specs.Sound.{is_long, is_sound, is_sound_option, are_sound_locals, is_sound_action}
use Rattle.pungi_resolve.specs.Sound.{are_sound_actions}
use Rattle.pungi_resolve.specs.SoundActions.{AreSoundLocals, IsSoundAction, AreSoundActions}
use Rattle.pungi_resolve.proofs.Clean.{and_left, and_right}

locals-hold : (rs : List DeclaredLocal) → are_sound_locals rs ≡ true → AreSoundLocals rs
locals-hold [] h = tt
locals-hold (r ∷ rs) h = (and_left _ _ h, locals-hold rs (and_right (is_sound_option r.value) _ h))

mutual
  pub action-holds : (a : Action) → is_sound_action a ≡ true → IsSoundAction a
  action-holds (block p ss q) h = actions-hold ss h
  action-holds (declare p rs) h = locals-hold rs h
  action-holds (do_expr p v) h = h
  action-holds (if_only p v a) h = (and_left _ _ h, action-holds a (and_right (is_sound v) _ h))
  action-holds (if_else p v a b) h =
      let r = and_right (is_sound v) _ h in (
        and_left _ _ h,
        action-holds a (and_left (is_sound_action a) (is_sound_action b) r),
        action-holds b
            (and_right (is_sound_action a) _ r),
      )
  action-holds (while p v a) h = (and_left _ _ h, action-holds a (and_right (is_sound v) _ h))
  action-holds (do_while p a v) h = (
    action-holds a (and_left (is_sound_action a) (is_sound v) h),
    and_right
        (is_sound_action a) _ h,
  )
  action-holds (for p rs u v w a) h =
      let r1 = and_right (are_sound_locals rs) _ h in
      let r2 = and_right (is_sound_option u) _ r1 in
      let r3 = and_right (is_sound_option v) _ r2 in (
        locals-hold rs (and_left (are_sound_locals rs) _ h),
        and_left (is_sound_option u) _ r1,
        and_left (is_sound_option v) _ r2,
        and_left (is_sound_option w) _ r3,
        action-holds a (and_right (is_sound_option w) _ r3),
      )
  action-holds (switch p v a) h = (and_left _ _ h, action-holds a (and_right (is_sound v) _ h))
  action-holds (case p v a) h = (and_left _ _ h, action-holds a (and_right (is_long v) _ h))
  action-holds (default p a) h = action-holds a h
  action-holds (label p n a) h = action-holds a h
  action-holds (goto p n) h = tt
  action-holds (break p) h = tt
  action-holds (continue p) h = tt
  action-holds (return p k v) h = h

  actions-hold : (as' : Actions) → are_sound_actions as' ≡ true → AreSoundActions as'
  actions-hold no_actions h = tt
  actions-hold (action_and a as') h = (
    action-holds a (and_left (is_sound_action a) (are_sound_actions as') h),
    actions-hold as' (and_right (is_sound_action a) _ h),
  )
