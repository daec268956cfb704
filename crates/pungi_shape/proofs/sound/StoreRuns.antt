-- What a store did, and what it reads.
--   StoreRun        what a store did that went on
use Rattle.std.proofs.Common.{◌≡◌, ℕ, ◌+◌, true, ◌&&◌}
use Rattle.std.proofs.Common.{List, [], ◌∷◌, ◌++◌, refl, ap, ◌∙◌, subst}
use Rattle.std.proofs.Common.{Option, Some, None, Result, Ok, Err}
use Rattle.std.specs.Prelude.{replicate}
use Rattle.pungi_base.specs.declared.choice.Choice.{Choice}
use Rattle.pungi_base.specs.declared.pos.Pos.{Pos}
use Rattle.pungi_base.specs.declared.value.Value.{Value}
use Rattle.pungi_api.specs.declared.param.Param.{Param}
use Rattle.pungi_world.specs.declared.content.Content.TheVariants as content
use Rattle.pungi_world.specs.declared.effect.Effect.{Effect}
use Rattle.pungi_world.specs.declared.halt.Halt.{Halt}
use Rattle.pungi_world.specs.declared.halt.Halt.TheVariants as halt
use Rattle.pungi_world.specs.declared.slot.Slot.{Slot}
use Rattle.pungi_world.specs.declared.touch.Touch.{Touch}
use Rattle.pungi_world.specs.declared.world.World.{World}
use Rattle.pungi_world.specs.Effects.{◌>>=◌, effect}
use Rattle.pungi_world.specs.Slots.{touch, put_at}
use Rattle.pungi_meaning.specs.Run.{Run, Returned, with_operations}
use Rattle.pungi_meaning.specs.Todo.{Stored}
use Rattle.pungi_code.specs.declared.atom.Atom.{Atom}
use Rattle.pungi_code.specs.declared.instr.Instr.TheVariants.{Store}
use Rattle.pungi_code.specs.declared.place.Place.{Place}
use Rattle.pungi_code.specs.Perform.{slot_of, with_slot, store, perform}
use Rattle.pungi_code.specs.Registers.{Regs, Next, content_of, choices_left, after_effect}
use Rattle.pungi_code.specs.WellFormed.{place_kind}
use Rattle.pungi_shape.specs.Cases.{are_set, is_set}
use Rattle.pungi_code.specs.WellFormed.{atoms_in}
use Rattle.pungi_shape.specs.Parts.{vars_in, vars_in_place}
use Rattle.pungi_shape.specs.Scenes.{Scene}
use Rattle.pungi_shape.proofs.sound.Simple.{value_read}
use Rattle.pungi_shape.proofs.sound.Accesses.{IsAccess, moved}
use Rattle.pungi_shape.proofs.sound.Loads.{slot_kind_is}
use Rattle.pungi_shape.proofs.sound.worlds.Touches.{touches}
use Rattle.pungi_shape.proofs.sound.Members.{among_left, later_among}
use Rattle.pungi_shape.proofs.sound.Tests.{both_true}

-- ---- what the run did

pub record StoreRun (choices : List Choice) (place : Place) (a : Atom) (next : Next) (pc : ℕ) (m : Regs)
    (w : World) (v : Option Value) (q : Pos) (used : List Pos) : Type 0 where
  pub value_of : Value
  pub is_value : content_of a m.vars ≡ content.Holds value_of
  pub slot : Slot
  pub is_slot : slot_of place m.vars ≡ Some (slot, place_kind place)
  pub touch_of : Touch
  pub world : World
  pub touch_is : touch m.world slot (place_kind place) (choices_left choices m) ≡ touches touch_of world
  pub used_now : List Pos
  pub ends : (next (pc + 1) (moved m (put_at world touch_of.place value_of) used_now)).end ≡ Returned w v q used

module _ (choices : List Choice) (place : Place) (a : Atom) (p : Pos) (next : Next) (pc : ℕ) (m : Regs) (w : World)
    (v : Option Value) (q : Pos) (used : List Pos) where
  abbrev Ran : Type 0
  Ran = StoreRun choices place a next pc m w v q used

  abbrev goes : Slot → Value → Result (Effect × World) Halt → Run
  goes z y r = after_effect p r m (λ e r'. with_operations (Stored p z y ∷ []) (next (pc + 1) r'))

  ran_touched : (y : Value) (z : Slot) (r : Result (Touch × World) Halt) → content_of a m.vars ≡ content.Holds y
      → slot_of place m.vars ≡ Some (z, place_kind place)
      → touch m.world z (place_kind place) (choices_left choices m) ≡ r
      → (goes z y (r >>= λ t. Ok (effect None t.0.used, put_at t.1 t.0.place y))).end ≡ Returned w v q used → Ran
  ran_touched y z (Ok t) is_y is_z is_t e = record {
    value_of = y;
    is_value = is_y;
    slot = z;
    is_slot = is_z;
    touch_of = t.0;
    world = t.1;
    touch_is = is_t;
    used_now = m.used ++ replicate t.0.used p;
    ends = e;
  }
  ran_touched y z (Err halt.Stopped) is_y is_z is_t e = absurd cc
  ran_touched y z (Err halt.NeedsChoice) is_y is_z is_t e = absurd cc
  ran_touched y z (Err halt.Memory) is_y is_z is_t e = absurd cc

  ran_slot : (y : Value) (o : Option (Slot × Param)) → content_of a m.vars ≡ content.Holds y → slot_of place m.vars ≡ o
      → (with_slot o p (store choices p next pc m y)).end ≡ Returned w v q used → Ran
  ran_slot y None is_y is e = absurd cc
  ran_slot y (Some s) is_y is e =
      let kind = slot_kind_is place m.vars s.0 s.1 is in
      let same : slot_of place m.vars ≡ Some (s.0, place_kind place) = is ∙ ap (λ k. Some (s.0, k)) kind in
      ran_touched y s.0 (touch m.world s.0 (place_kind place) (choices_left choices m)) is_y same refl
      (subst (λ k. (store choices p next pc m y s.0 k).end ≡ Returned w v q used) kind e)

  pub store_ran : (perform choices (Store place a) p next pc m).end ≡ Returned w v q used → Ran
  store_ran e =
      let r = value_read (content_of a m.vars) p (λ y. with_slot (slot_of place m.vars) p (store choices p next pc m y))
      w v q used e in
      ran_slot r.0 (slot_of place m.vars) r.1 refl r.2

-- ---- what is read

pub set_left : (t : Scene) (xs ys : List ℕ) → are_set t (xs ++ ys) ≡ true → are_set t xs ≡ true
set_left t [] ys e = refl
set_left t (x ∷ xs) ys e =
    let two = both_true (is_set t x) (are_set t (xs ++ ys)) e in
    ap (λ b. b && are_set t xs) two.0 ∙ set_left t xs ys two.1

pub set_right : (t : Scene) (xs ys : List ℕ) → are_set t (xs ++ ys) ≡ true → are_set t ys ≡ true
set_right t [] ys e = e
set_right t (x ∷ xs) ys e = set_right t xs ys (both_true (is_set t x) (are_set t (xs ++ ys)) e).1

pub store_access : (place : Place) (a : Atom) → IsAccess (Store place a) place (vars_in_place place ++ vars_in a)
store_access place a = record {
  three = refl;
  place_is = refl;
  reads_first_part = refl;
  reads_second_part = refl;
  reads_third_part = refl;
  finding = λ pc t. refl;
  touching = λ pc t. refl;
  unwritten_first = refl;
  unwritten_second = refl;
  base_atoms = λ b h. later_among a (atoms_in place) b h;
  base_reads = λ x h. among_left (vars_in_place place) (vars_in a) x h;
  base_set = λ t h. set_left t (vars_in_place place) (vars_in a) h;
}
