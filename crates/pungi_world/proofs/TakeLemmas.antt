-- Arguments that are taken over, one after another.
use Rattle.std.proofs.Common.{◌≡◌, ℕ, zero, suc, ◌+◌, ◌<◌, ◌≤◌, Bool, true, false, List, [], ◌∷◌, length, get_or, drop}
use Rattle.std.proofs.Common.{refl, add-one, arith}
use Rattle.std.specs.Prelude.{if◌then◌else◌}
use Rattle.pungi_base.specs.declared.value.Value.{Value}
use Rattle.pungi_base.specs.declared.value.Value.TheVariants.{Null}
use Rattle.pungi_api.specs.declared.take.Take.{Take}
use Rattle.pungi_world.specs.declared.world.World.{World}
use Rattle.pungi_world.specs.Counts.{hand_over, AreWithin}
use Rattle.pungi_world.specs.Calls.{is_taken_at, take_over}
use Rattle.pungi_world.proofs.CountLemmas.{within_more, within_handed_over}
use Rattle.std.proofs.lemmas.List.{drop_all}

after_one : (w : World) (success : Bool) (takes : List Take) (args : List Value) (i : ℕ) → i < length args
    → take_over w success (drop i takes) (drop i args)
    ≡ take_over (if is_taken_at success takes i then hand_over w (get_or args i Null) else w) success
    (drop (suc i) takes) (drop (suc i) args)
after_one w success takes [] i lt = absurd (omega arith)
after_one w success [] (a ∷ args) zero lt = refl
after_one w success (t ∷ takes) (a ∷ args) zero lt = refl
after_one w success [] (a ∷ args) (suc i) lt = refl
after_one w success (t ∷ takes) (a ∷ args) (suc i) lt = after_one w success takes args i (omega arith)

-- what is left at a place is what is done there, and then what is left after it
pub take_over-turn : (w : World) (success : Bool) (takes : List Take) (args : List Value) (i : ℕ) → i < length args
    → take_over w success (drop i takes) (drop i args)
    ≡ take_over (if is_taken_at success takes i then hand_over w (get_or args i Null) else w) success
    (drop (i + 1) takes) (drop (i + 1) args)
take_over-turn w success takes args i lt = rw (add-one i) (after_one w success takes args i lt)

-- nothing is left where no argument is left
pub take_over-end : (w : World) (success : Bool) (takes : List Take) (args : List Value) (i : ℕ) → length args ≤ i
    → take_over w success (drop i takes) (drop i args) ≡ w
take_over-end w success takes args i le = rw (drop_all i args le) (none (drop i takes))
  where
    none : (ts : List Take) → take_over w success ts [] ≡ w
    none [] = refl
    none (t ∷ ts) = refl

pub within_taken : (b : Bool) (w : World) (x : Value) (most later : ℕ) → most + 1 ≤ later → AreWithin most w
    → AreWithin later (if b then hand_over w x else w)
within_taken true w x most later le within =
    within_more (hand_over w x) (most + 1) later le (within_handed_over w x most within)
within_taken false w x most later le within = within_more w most later (omega arith) within
