-- Arguments that are taken over, one after another.
--   after_taking b h s      the scene after an argument, which is taken over or isn't
use Rattle.std.proofs.Common.{◌≡◌, ℕ, zero, suc, ◌+◌, ◌<◌, ◌≤◌, negsuc, Bool, true, false, List, [], ◌∷◌}
use Rattle.std.proofs.Common.{length, get_or, drop, refl, add-one, arith}
use Rattle.std.specs.Prelude.{if◌then◌else◌}
use Rattle.std.proofs.lemmas.Int.{ints}
use Rattle.std.proofs.lemmas.List.{drop_all}
use Rattle.pungi_api.specs.declared.take.Take.{Take}
use Rattle.pungi_world.specs.Calls.{is_taken_at}
use Rattle.pungi_shape.specs.declared.holding.Holding.{Holding}
use Rattle.pungi_shape.specs.declared.holding.Holding.TheVariants.{Dead}
use Rattle.pungi_shape.specs.Bounds.{HasBalances, IsScene}
use Rattle.pungi_shape.specs.Calls.{take_over}
use Rattle.pungi_shape.specs.Scenes.{Scene, add_to_holding}
use Rattle.pungi_shape.proofs.BalanceLemmas.{add_to_holding-balances, add_to_holding-scene, loose_balances}

abbrev pub after_taking : Bool → Holding → Scene → Scene
after_taking b h s = if b then add_to_holding h (negsuc 0) s else s

after_one : (success : Bool) (takes : List Take) (hs : List Holding) (i : ℕ) (s : Scene) → i < length hs
    → take_over success (drop i takes) (drop i hs) s
    ≡ take_over success (drop (suc i) takes) (drop (suc i) hs)
    (after_taking (is_taken_at success takes i) (get_or hs i Dead) s)
after_one success takes [] i s lt = absurd (omega arith)
after_one success [] (h ∷ hs) zero s lt = refl
after_one success (t ∷ takes) (h ∷ hs) zero s lt = refl
after_one success [] (h ∷ hs) (suc i) s lt = refl
after_one success (t ∷ takes) (h ∷ hs) (suc i) s lt = after_one success takes hs i s (omega arith)

-- what is left at a place is what is done there, and then what is left after it
pub take_over-turn : (success : Bool) (takes : List Take) (hs : List Holding) (i : ℕ) (s : Scene) → i < length hs
    → take_over success (drop i takes) (drop i hs) s
    ≡ take_over success (drop (i + 1) takes) (drop (i + 1) hs)
    (after_taking (is_taken_at success takes i) (get_or hs i Dead) s)
take_over-turn success takes hs i s lt = rw (add-one i) (after_one success takes hs i s lt)

-- nothing is left where no argument is left
pub take_over-end : (success : Bool) (takes : List Take) (hs : List Holding) (i : ℕ) (s : Scene) → length hs ≤ i
    → take_over success (drop i takes) (drop i hs) s ≡ s
take_over-end success takes hs i s le = rw (drop_all i hs le) (none (drop i takes))
  where
    none : (ts : List Take) → take_over success ts [] s ≡ s
    none [] = refl
    none (t ∷ ts) = refl

pub taking-scene : (b : Bool) (h : Holding) (s : Scene) → IsScene s → IsScene (after_taking b h s)
taking-scene true h s k = add_to_holding-scene h (negsuc 0) s k
taking-scene false h s k = k

pub taking-balances : (b : Bool) (h : Holding) (j : ℕ) (s : Scene) → IsScene s → HasBalances j s
    → HasBalances (j + 1) (after_taking b h s)
taking-balances true h j s k hb =
    add_to_holding-balances h (negsuc 0) j s k (omega (arith, ints), omega (arith, ints)) hb
taking-balances false h j s k hb = loose_balances j s hb
