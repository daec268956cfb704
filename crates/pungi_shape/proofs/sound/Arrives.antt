-- Where a scene that shows a run becomes a shape, the shape shows the run.
--   AreHolders code p xs    these variables are holders at a point
--   IsSoleSlot names s place    a slot that is tracked and is the slot of this place is tracked by its very name
--   IsAloneSlot names s place    where the slot of this place is a field, each marked token stands for another object
--                           than its base, but the base itself
--   IsTrackedSlot s place   the slot of this place is tracked
--   Arrives                 what the shape is at which a scene arrives
use Rattle.std.proofs.Common.{◌≡◌, ◌≢◌, ℕ, Bool, true, false, List, length, get_or, map, sym, ap, ◌∙◌, subst, arith}
use Rattle.std.specs.Prelude.{Option, Some}
use Rattle.std.specs.List.{All}
use Rattle.pungi_base.specs.declared.names.Name.{Name}
use Rattle.pungi_domain.specs.Vectors.{Vector}
use Rattle.pungi_world.specs.declared.world.World.{World}
use Rattle.pungi_code.specs.declared.code.Code.{Code}
use Rattle.pungi_code.specs.declared.place.Place.{Place}
use Rattle.pungi_shape.specs.declared.holding.Holding.TheVariants.{Dead, Unset}
use Rattle.pungi_shape.specs.declared.point.Point.{Point}
use Rattle.pungi_shape.specs.declared.tracked.Spot.{Spot}
use Rattle.pungi_shape.specs.declared.tracked.Spot.TheVariants.{Field}
use Rattle.pungi_shape.specs.Shapes.{tokens_of, rename_holding}
use Rattle.pungi_shape.specs.Parts.{vars_in_place}
use Rattle.pungi_shape.specs.Liveness.{is_holder}
use Rattle.pungi_shape.specs.Scenes.{Scene, scene_of, is_made}
use Rattle.pungi_shape.specs.Arrivals.{arrive, kept_shape, place_in}
use Rattle.pungi_shape.specs.Slots.{spot_of, is_tracked}
use Rattle.pungi_shape.specs.Described.{Naming, slot_named}
use Rattle.pungi_shape.proofs.sound.Views.{View}
use Rattle.pungi_shape.proofs.sound.Shows.{IsScene, IsLive, Marks, Shows, spot_in}
use Rattle.pungi_shape.proofs.sound.Flow.{AreZero}
use Rattle.pungi_shape.proofs.sound.Stands.{renamed, sent}
use Rattle.pungi_shape.proofs.sound.Renames.{get_map, dead_before}
use Rattle.pungi_shape.proofs.sound.Kept.{trim_cases}
use Rattle.pungi_shape.proofs.sound.ArrivedScene.{arrived_scene}
use Rattle.pungi_shape.proofs.sound.ArrivedScene.{KeptTokens, IsBaseAmong, base_kept}
use Rattle.pungi_shape.proofs.sound.ArrivedShows.{arrived_shows, renamed_is}
use Rattle.pungi_shape.proofs.sound.ArrivedMarks.{spot_numbered, old_live, old_place, mark_before}
use Rattle.pungi_shape.proofs.sound.ArrivedSlots.{spot_arrived, sole_after, tracked_after}

abbrev pub names_after : Code → Point → Scene → Naming → Naming
names_after code p s names = renamed names (tokens_of (kept_shape code p s))

abbrev pub AreHolders : Code → Point → List ℕ → Type 0
AreHolders code p xs = All (λ x. is_holder code p x ≡ true) xs

abbrev pub IsSoleSlot : Naming → Scene → Place → Type 0
IsSoleSlot names s place =
    (p : Spot) → spot_of s place ≡ Some p
    → All (λ q. slot_named names q ≡ slot_named names p → q ≡ p) (map spot_in s.shape.slots)

abbrev pub IsAloneSlot : Naming → Scene → Place → Type 0
IsAloneSlot names s place =
    (b : ℕ) (tag field : Name) → spot_of s place ≡ Some (Field b tag field) → (t : ℕ) → IsLive s.balances t
    → is_made s.shape t ≡ true → t ≢ b → names t ≢ names b

abbrev pub IsTrackedSlot : Scene → Place → Type 0
IsTrackedSlot s place = (p : Spot) → spot_of s place ≡ Some p → is_tracked s.shape p ≡ true

pub record Arrives (code : Code) (ks : List ℕ) (p : Point) (s : Scene) (names : Naming) (v : Vector)
    (free : Option ℕ) (o : View) : Type 0 where
  pub scene : IsScene ks (length code.vars) (scene_of (arrive code p s).shape)
  pub deads : (x : ℕ) → get_or (arrive code p s).shape.vars x Unset ≡ Dead → is_holder code p x ≡ false
  pub shows : Shows (names_after code p s names) (sent (arrive code p s).rows v) free
      (scene_of (arrive code p s).shape) o

pub arrives : (code : Code) (ks : List ℕ) (p : Point) (s : Scene) (names : Naming) (v : Vector) (free : Option ℕ)
    (o : View) → IsScene ks (length code.vars) s → Shows names v free s o
    → ((x : ℕ) → get_or s.shape.vars x Unset ≡ Dead → is_holder code p x ≡ false) → AreZero (arrive code p s).drops v
    → Arrives code ks p s names v free o
arrives code ks p s names v free o is shows deads zeros = record {
  scene = arrived_scene code p s ks (length code.vars) is;
  deads = λ x e. trim_cases (λ h. h ≡ Dead → is_holder code p x ≡ false) code p 0 s.shape.vars x x (omega arith)
      (deads x) (λ out d. out) (dead_before (place_in (tokens_of (kept_shape code p s)))
      (get_or (kept_shape code p s).vars x Unset)
      (sym (get_map (rename_holding (place_in (tokens_of (kept_shape code p s)))) (kept_shape code p s).vars x Unset)
      ∙ e));
  shows = arrived_shows code ks (length code.vars) p s names v free o is shows zeros;
}

-- what loads and stores know of their slot between their parts
pub sole_arrives : (code : Code) (ks : List ℕ) (p : Point) (s : Scene) (names : Naming) (place : Place)
    → IsScene ks (length code.vars) s → AreHolders code p (vars_in_place place) → IsSoleSlot names s place
    → IsSoleSlot (names_after code p s names) (scene_of (arrive code p s).shape) place
sole_arrives code ks p s names place is live sole q e =
    sole_after code p s names place q (spot_arrived code p s place q live e) sole

pub alone_arrives : (code : Code) (ks : List ℕ) (p : Point) (s : Scene) (names : Naming) (place : Place)
    → IsScene ks (length code.vars) s → AreHolders code p (vars_in_place place) → (w : World)
    → (fields : Name → Name → Bool)
    → Marks names s.balances s.shape.made (map spot_in s.shape.slots) w fields → IsAloneSlot names s place
    → IsAloneSlot (names_after code p s names) (scene_of (arrive code p s).shape) place
alone_arrives code ks p s names place is live w fields marks alone b tag field e t live_t made ne same =
    let n = length code.vars in
    let q = spot_arrived code p s place (Field b tag field) live e in
    let d = spot_numbered (place_in (tokens_of (kept_shape code p s))) b tag field q.spot q.after in
    let among = subst (IsBaseAmong (KeptTokens code p s)) d.1.0 (base_kept code p s q.spot q.anchored) in
    alone d.0 tag field (q.before ∙ ap Some d.1.0) (get_or (KeptTokens code p s) t 0)
    (old_live code p s ks n is names w fields marks t live_t)
    (mark_before code p s ks n is names w fields marks t live_t made)
    (λ f. ne (sym (old_place code p s ks n is names w fields marks t live_t)
    ∙ ap (place_in (tokens_of (kept_shape code p s))) f ∙ sym d.1.1))
    (same ∙ ap (names_after code p s names) d.1.1 ∙ renamed_is names (KeptTokens code p s) d.0 among)

pub tracked_arrives : (code : Code) (ks : List ℕ) (p : Point) (s : Scene) (place : Place)
    → IsScene ks (length code.vars) s → AreHolders code p (vars_in_place place) → IsTrackedSlot s place
    → IsTrackedSlot (scene_of (arrive code p s).shape) place
tracked_arrives code ks p s place is live tracked q e =
    tracked_after code p s place q (spot_arrived code p s place q live e) tracked
