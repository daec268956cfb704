-- Marks of made objects, where a scene arrives.
use Rattle.std.proofs.Common.{◌≡◌, ℕ, ◌<◌, Bool, true, false, ◌&&◌, List, length, map, get_or, refl, sym, ap, ◌∙◌}
use Rattle.std.proofs.Common.{subst, arith, Some}
use Rattle.std.specs.List.{All, IsAmong, list_any}
use Rattle.std.proofs.lemmas.List.{length-map, get_or-map}
use Rattle.std.proofs.lemmas.List.Elements.{All-get_or, All-map}
use Rattle.std.proofs.lemmas.List.FromFn.{length-map-range_with_len}
use Rattle.pungi_base.specs.declared.names.Name.{Name}
use Rattle.pungi_world.specs.declared.world.World.{World}
use Rattle.pungi_code.specs.declared.code.Code.{Code}
use Rattle.pungi_shape.specs.declared.holding.Holding.TheVariants as held
use Rattle.pungi_shape.specs.declared.point.Point.{Point}
use Rattle.pungi_shape.specs.declared.shape.Shape.{Shape}
use Rattle.pungi_shape.specs.declared.tracked.Spot.{Spot}
use Rattle.pungi_shape.specs.declared.tracked.Spot.TheVariants.{Global, Field}
use Rattle.pungi_shape.specs.declared.tracked.Tracked.{Tracked}
use Rattle.pungi_shape.specs.Forms.{unit}
use Rattle.pungi_shape.specs.Shapes.{rename_spot, tokens_in, distinct, holders, before_slots}
use Rattle.pungi_shape.specs.Shapes.{width_of}
use Rattle.pungi_shape.specs.Liveness.{is_among}
use Rattle.pungi_shape.specs.Scenes.{Scene, scene_of, after_entry, is_made}
use Rattle.pungi_shape.specs.Arrivals.{trim, anchors, holds_token, place_in, renumber, kept_shape}
use Rattle.pungi_shape.specs.Slots.{is_spot}
use Rattle.pungi_shape.specs.Described.{Naming}
use Rattle.pungi_shape.proofs.sound.Shows.{IsScene, IsLive, Marks, spot_in}
use Rattle.pungi_shape.proofs.sound.Stands.{renamed}
use Rattle.pungi_shape.proofs.sound.SceneBalances.{is_in_range}
use Rattle.pungi_shape.proofs.sound.SceneMerges.{spots_of_renamed}
use Rattle.pungi_shape.proofs.sound.Distinct.{is_in, once_at, once_distinct}
use Rattle.pungi_shape.proofs.sound.Kept.{all_in_order}
use Rattle.pungi_shape.proofs.sound.ArrivedScene.{KeptTokens, tokens_live, IsBaseAmong, bases_kept, before_among}
use Rattle.pungi_shape.proofs.sound.Spots.{one_spot, spot_itself, still_tracked}
use Rattle.pungi_shape.proofs.sound.Apart.{any_at}
use Rattle.pungi_shape.proofs.sound.Members.{among_map, among_mapped, of_all, all_among, member, any_among}
use Rattle.pungi_shape.proofs.sound.Tests.{both_true}

-- a spot before tokens were numbered anew
pub spot_numbered : (g : ℕ → ℕ) (b : ℕ) (tag field : Name) (q : Spot) → Field b tag field ≡ rename_spot g q
    → (d : ℕ) × ((q ≡ Field d tag field) × (b ≡ g d))
spot_numbered g b tag field (Global n) e = absurd (let bad : Field b tag field ≡ Global n = e in cc)
spot_numbered g b tag field (Field d x y) e =
    let same : Field b tag field ≡ Field (g d) x y = e in
    let is_b : b ≡ g d = cc in
    let is_tag : tag ≡ x = cc in
    let is_field : field ≡ y = cc in
    (d, (ap (λ z. Field d z y) (sym is_tag) ∙ ap (λ z. Field d tag z) (sym is_field), is_b))

pub among_tracked : (rs : List Tracked) (p : Spot) → IsAmong (map spot_in rs) p
    → list_any (λ r. is_spot r.spot p) rs ≡ true
among_tracked rs p there =
    let q = among_mapped spot_in rs p there in
    any_among (λ (r : Tracked). is_spot r.spot p) rs q.0 q.1.0 (ap (λ z. is_spot z p) (sym q.1.1) ∙ spot_itself p)

-- a slot that is tracked is among the spots, and the other way
pub tracked_among : (rs : List Tracked) (p : Spot) → list_any (λ r. is_spot r.spot p) rs ≡ true
    → IsAmong (map spot_in rs) p
tracked_among rs p e =
    let d : Tracked = record { spot = p; held = held.Unset } in
    let f = any_at (λ (r : Tracked). is_spot r.spot p) rs d e in
    let same = one_spot (get_or rs f.0 d).spot p f.1.1 in
    subst (IsAmong (map spot_in rs)) same
    (among_map spot_in rs (get_or rs f.0 d) (member rs f.0 d f.1.0))

module _ (code : Code) (p : Point) (s : Scene) (ks : List ℕ) (n : ℕ) (is : IsScene ks n s) (names : Naming) (w : World)
    (fields : Name → Name → Bool)
    (marks : Marks names s.balances s.shape.made (map spot_in s.shape.slots) w fields) where
  abbrev kept : Shape
  kept = kept_shape code p s

  abbrev ts : List ℕ
  ts = KeptTokens code p s

  abbrev g : ℕ → ℕ
  g = place_in ts

  abbrev a : Shape
  a = renumber kept

  abbrev after : Naming
  after = renamed names ts

  abbrev old : ℕ → ℕ
  old t = get_or ts t 0

  in_tokens : (t : ℕ) → IsLive (scene_of a).balances t → t < length ts
  in_tokens t live =
      let lt = is_in_range (scene_of a).balances t live in
      let l : length (scene_of a).balances ≡ length a.made = length-map-range_with_len
      (λ i. Some (unit (width_of a) i)) (after_entry a) (length a.made) in
      let m : length a.made ≡ length ts = length-map ts (λ t. is_made kept t && holds_token (anchors kept) t) in
      omega (arith, lt, l, m)

  pub old_live : (t : ℕ) → IsLive (scene_of a).balances t → IsLive s.balances (old t)
  old_live t live = All-get_or (IsLive s.balances) ts t 0 (in_tokens t live) (tokens_live code p s ks n is)

  pub old_place : (t : ℕ) → IsLive (scene_of a).balances t → g (old t) ≡ t
  old_place t live = once_at ts t (once_distinct (tokens_in (holders kept))) (in_tokens t live)

  -- what was marked, and is held by an anchor
  old_marked : (t : ℕ) → IsLive (scene_of a).balances t → get_or a.made t false ≡ true
      → (get_or s.shape.made (old t) false ≡ true) × (holds_token (anchors kept) (old t) ≡ true)
  old_marked t live m = both_true (is_made kept (old t)) (holds_token (anchors kept) (old t))
      (sym (get_or-map (λ t. is_made kept t && holds_token (anchors kept) t) ts t 0 false (in_tokens t live)) ∙ m)

  pub mark_before : (t : ℕ) → IsLive (scene_of a).balances t → get_or a.made t false ≡ true
      → get_or s.shape.made (old t) false ≡ true
  mark_before t live m = (old_marked t live m).0

  -- a spot that is kept was there before
  spots_before : All (λ q. IsAmong (map spot_in s.shape.slots) q) (map spot_in kept.slots)
  spots_before = All-map (λ q. IsAmong (map spot_in s.shape.slots) q) spot_in kept.slots
      (all_in_order (λ r. IsAmong (map spot_in s.shape.slots) r.spot) (trim code p s.shape)
      (all_among (λ r. IsAmong (map spot_in s.shape.slots) r.spot) s.shape.slots
      (λ r there. among_map spot_in s.shape.slots r there)))

  -- a base, by its old number
  record Base (u : ℕ) (tag field : Name) : Type 0 where
    pub token : ℕ
    pub is_there : IsAmong (map spot_in s.shape.slots) (Field token tag field)
    pub number : u ≡ g token
    pub is_old : old u ≡ token

  base_before : (u : ℕ) (tag field : Name) → IsAmong (map spot_in a.slots) (Field u tag field) → Base u tag field
  base_before u tag field there =
      let q = among_mapped (rename_spot g) (map spot_in kept.slots) (Field u tag field)
      (subst (λ ps. IsAmong ps (Field u tag field)) (spots_of_renamed g kept.slots) there) in
      let d = spot_numbered g u tag field q.0 q.1.1 in
      let in_kept = subst (IsAmong (map spot_in kept.slots)) d.1.0 q.1.0 in
      let among : is_among ts d.0 ≡ true = of_all (IsBaseAmong ts) (map spot_in kept.slots) (Field d.0 tag field)
      (bases_kept code p s) in_kept in
      record {
        token = d.0;
        is_there = of_all (λ q. IsAmong (map spot_in s.shape.slots) q) (map spot_in kept.slots) (Field d.0 tag field)
            spots_before in_kept;
        number = d.1.1;
        is_old = ap old d.1.1 ∙ (is_in ts d.0 among).1;
      }

  pub arrived_marks : Marks after (scene_of a).balances a.made (map spot_in a.slots) w fields
  arrived_marks = record {
    made = λ t live m. marks.made (old t) (old_live t live) (mark_before t live m);
    two = λ t u l k ne m n. marks.two (old t) (old u) (old_live t l) (old_live u k)
        (λ e. ne (sym (old_place t l) ∙ ap g e ∙ old_place u k)) (mark_before t l m) (mark_before u k n);
    base = λ t u tag field live ne m there.
        let b = base_before u tag field there in
        let apart = marks.base (old t) b.token tag field (old_live t live)
        (λ e. ne (sym (old_place t live) ∙ ap g e ∙ sym b.number)) (mark_before t live m) b.is_there in
        λ e. apart (e ∙ ap names b.is_old);
    touched = λ t tag field i live m f at.
        let both = old_marked t live m in
        let q = Field (old t) tag field in
        let there = marks.touched (old t) tag field i (old_live t live) both.0 f at in
        let k = trim code p s.shape in
        let some = still_tracked k (distinct (tokens_in (before_slots k))) q refl (before_among k) both.1
        (among_tracked s.shape.slots q there) in
        subst (λ z. IsAmong (map spot_in a.slots) (Field z tag field)) (old_place t live)
        (subst (λ ps. IsAmong ps (rename_spot g q)) (sym (spots_of_renamed g kept.slots))
        (among_map (rename_spot g) (map spot_in kept.slots) q (tracked_among kept.slots q some)));
  }
