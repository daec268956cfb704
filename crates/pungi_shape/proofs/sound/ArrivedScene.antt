-- The scene of the shape at which a scene arrives is well-formed.
--   Kept code p s           what is kept, and its tokens
--   IsBaseAmong ts p        the token of a field's object is among these
use Rattle.std.proofs.Common.{◌≡◌, ℕ, ◌+◌, ◌<◌, List, [], ◌∷◌, ◌++◌, length, map, Bool, true}
use Rattle.std.proofs.Common.{false, refl, sym, ap, ◌∙◌, subst, arith}
use Rattle.std.specs.Prelude.{◌==◌, ◌||◌, ◌&&◌, Some, None}
use Rattle.std.specs.List.{All, range_with_len}
use Rattle.std.proofs.lemmas.List.{length-map, map-append}
use Rattle.std.proofs.lemmas.List.Elements.{All-cons, All-nil, All-head, All-tail, All-append, All-map}
use Rattle.std.proofs.lemmas.List.FromFn.{length-map-range_with_len, get_or-map-range_with_len}
use Rattle.pungi_code.specs.declared.code.Code.{Code}
use Rattle.pungi_shape.specs.declared.holding.Holding.{Holding}
use Rattle.pungi_shape.specs.declared.holding.Holding.TheVariants.{Dead, Unset, Null, Text, Known, Number, Token}
use Rattle.pungi_shape.specs.declared.point.Point.{Point}
use Rattle.pungi_shape.specs.declared.shape.Shape.{Shape}
use Rattle.pungi_shape.specs.declared.tracked.Spot.{Spot}
use Rattle.pungi_shape.specs.declared.tracked.Spot.TheVariants.{Global, Field}
use Rattle.pungi_shape.specs.Forms.{unit, one_if}
use Rattle.pungi_shape.specs.Shapes.{is_number, is_token, rename, rename_holding, rename_spot, rename_tracked}
use Rattle.pungi_shape.specs.Shapes.{tokens_in}
use Rattle.pungi_shape.specs.Shapes.{tokens_of, distinct, holders, holding_of_static, holding_of_slot, count_of_numbers}
use Rattle.pungi_shape.specs.Shapes.{width_of, before_slots}
use Rattle.pungi_shape.specs.Liveness.{is_among}
use Rattle.pungi_shape.specs.Scenes.{Scene, scene_of, is_made, token_forms, after_entry}
use Rattle.pungi_shape.specs.Arrivals.{trim, anchors, holds_token, is_kept_spot, place_in, renumber, kept_shape}
use Rattle.pungi_shape.specs.Arrivals.{slots_in_order}
use Rattle.pungi_shape.proofs.sound.Shows.{IsScene, HasWidthIf, IsLive, IsLiveIn, IsBaseIn, IsTokenHeld}
use Rattle.pungi_shape.proofs.sound.Shows.{spot_in, held_in, is_no_content}
use Rattle.pungi_shape.proofs.sound.Renames.{number_renamed}
use Rattle.pungi_shape.proofs.sound.FormValues.{length_unit}
use Rattle.pungi_shape.proofs.sound.Renames.{All_of_map, map_map}
use Rattle.pungi_shape.proofs.sound.SceneMerges.{renamed_holders, renamed_statics, renamed_helds, renamed_spots}
use Rattle.pungi_shape.proofs.sound.SceneMerges.{keys_of_renamed, token_stays, no_number_stays}
use Rattle.pungi_shape.proofs.sound.Distinct.{IsHeldAmong, is_in, one_place, held_once, All_tokens, All_distinct}
use Rattle.pungi_shape.proofs.sound.Distinct.{among_distinct, distinct_map, tokens_renamed}
use Rattle.pungi_shape.proofs.sound.Kept.{trim_length, trim_all, all_in_order, all_kept}
use Rattle.pungi_shape.proofs.sound.Coordinates.{count_renamed, length_forms}
use Rattle.pungi_shape.proofs.sound.Coordinates.{widths_forms, number_form_width}
use Rattle.pungi_shape.proofs.sound.Tests.{eqb_is}

-- ---- parts of a list

pub All_left : {X : Type 0} (P : X → Type 0) (xs ys : List X) → All P (xs ++ ys) → All P xs
All_left P [] ys all = All-nil P
All_left P (x ∷ xs) ys all =
    All-cons P x xs (All-head P x (xs ++ ys) all) (All_left P xs ys (All-tail P x (xs ++ ys) all))

pub All_right : {X : Type 0} (P : X → Type 0) (xs ys : List X) → All P (xs ++ ys) → All P ys
All_right P [] ys all = all
All_right P (x ∷ xs) ys all = All_right P xs ys (All-tail P x (xs ++ ys) all)

-- ---- what all holders of a shape are

pub record AllHolders (P : Holding → Type 0) (s : Shape) : Type 0 where
  pub entry : All P s.entry
  pub vars : All P s.vars
  pub statics : All P (map holding_of_static s.statics)
  pub returned : P s.returned
  pub slots : All P (map held_in s.slots)

pub all_holders : (P : Holding → Type 0) (s : Shape) → AllHolders P s → All P (holders s)
all_holders P s all = All-append P (before_slots s) (map held_in s.slots) (All-append P s.entry
    (s.vars ++ (map holding_of_static s.statics ++ s.returned ∷ [])) all.entry (All-append P s.vars
    (map holding_of_static s.statics ++ s.returned ∷ []) all.vars (All-append P (map holding_of_static s.statics)
    (s.returned ∷ []) all.statics (All-cons P s.returned [] all.returned (All-nil P))))) all.slots

pub each_holder : (P : Holding → Type 0) (s : Shape) → All P (holders s) → AllHolders P s
each_holder P s all =
    let before = All_left P (before_slots s) (map held_in s.slots) all in
    let after_entry = All_right P s.entry (s.vars ++ (map holding_of_static s.statics ++ s.returned ∷ [])) before in
    let after_vars = All_right P s.vars (map holding_of_static s.statics ++ s.returned ∷ []) after_entry in
    record {
      entry = All_left P s.entry (s.vars ++ (map holding_of_static s.statics ++ s.returned ∷ [])) before;
      vars = All_left P s.vars (map holding_of_static s.statics ++ s.returned ∷ []) after_entry;
      statics = All_left P (map holding_of_static s.statics) (s.returned ∷ []) after_vars;
      returned = All-head P s.returned [] (All_right P (map holding_of_static s.statics) (s.returned ∷ []) after_vars);
      slots = All_right P (before_slots s) (map held_in s.slots) all;
    }

-- ---- what is kept

abbrev pub KeptTokens : Code → Point → Scene → List ℕ
KeptTokens code p s = tokens_of (kept_shape code p s)

pub kept_held : (code : Code) (p : Point) (s : Scene)
    → AllHolders (IsHeldAmong (KeptTokens code p s)) (kept_shape code p s)
kept_held code p s = each_holder (IsHeldAmong (KeptTokens code p s)) (kept_shape code p s)
    (held_once (holders (kept_shape code p s)))

kept_live : (code : Code) (p : Point) (s : Scene) (ks : List ℕ) (n : ℕ) → IsScene ks n s
    → AllHolders (IsLiveIn s.balances) (kept_shape code p s)
kept_live code p s ks n is = record {
  entry = is.entry_live;
  vars = trim_all (IsLiveIn s.balances) code p 0 s.shape.vars tt is.vars_live;
  statics = is.statics_live;
  returned = is.returned_live;
  slots = All-map (IsLiveIn s.balances) held_in (slots_in_order (trim code p s.shape)) (all_in_order
      (λ r. IsLiveIn s.balances r.held) (trim code p s.shape)
      (All_of_map (IsLiveIn s.balances) held_in s.shape.slots is.slots_live));
}

pub tokens_live : (code : Code) (p : Point) (s : Scene) (ks : List ℕ) (n : ℕ) → IsScene ks n s
    → All (IsLive s.balances) (KeptTokens code p s)
tokens_live code p s ks n is = All_distinct (IsLive s.balances) (tokens_in (holders (kept_shape code p s)))
    (All_tokens (IsLive s.balances) (IsLiveIn s.balances) (λ t live. live) (holders (kept_shape code p s))
    (all_holders (IsLiveIn s.balances) (kept_shape code p s) (kept_live code p s ks n is)))

abbrev pub IsBaseAmong : List ℕ → Spot → Type 0
IsBaseAmong ts (Global n) = Unit {0}
IsBaseAmong ts (Field b tag field) = is_among ts b ≡ true

pub holds_among : (ts : List ℕ) (hs : List Holding) (b : ℕ) → All (IsHeldAmong ts) hs → holds_token hs b ≡ true
    → is_among ts b ≡ true
holds_among ts [] b all e = absurd (grind (arith, e))
holds_among ts (h ∷ hs) b all e = at h (All-head (IsHeldAmong ts) h hs all) e
    (holds_among ts hs b (All-tail (IsHeldAmong ts) h hs all))
  where
    this_one : (u : ℕ) (c : Bool) → (u == b) ≡ c → is_among ts u ≡ true → (c || holds_token hs b) ≡ true
        → (holds_token hs b ≡ true → is_among ts b ≡ true) → is_among ts b ≡ true
    this_one u true same held h rest = subst (λ z. is_among ts z ≡ true) (eqb_is u b same) held
    this_one u false same held h rest = rest h

    at : (k : Holding) → IsHeldAmong ts k → (is_token b k || holds_token hs b) ≡ true
        → (holds_token hs b ≡ true → is_among ts b ≡ true) → is_among ts b ≡ true
    at Dead held h rest = rest h
    at Unset held h rest = rest h
    at Null held h rest = rest h
    at Text held h rest = rest h
    at (Known n) held h rest = rest h
    at Number held h rest = rest h
    at (Token u) held h rest = this_one u (u == b) refl held h rest

pub anchors_held : (code : Code) (p : Point) (s : Scene)
    → All (IsHeldAmong (KeptTokens code p s)) (anchors (trim code p s.shape))
anchors_held code p s =
    let held = kept_held code p s in
    let P = IsHeldAmong (KeptTokens code p s) in
    let t = trim code p s.shape in
    All-append P t.entry (t.vars ++ map holding_of_static t.statics) held.entry
    (All-append P t.vars (map holding_of_static t.statics) held.vars held.statics)

pub base_kept : (code : Code) (p : Point) (s : Scene) (q : Spot) → is_kept_spot (anchors (trim code p s.shape)) q ≡ true
    → IsBaseAmong (KeptTokens code p s) q
base_kept code p s (Global n) e = tt
base_kept code p s (Field b tag field) e =
    holds_among (KeptTokens code p s) (anchors (trim code p s.shape)) b (anchors_held code p s) e

before_held : (t : Shape) → All (IsHeldAmong (distinct (tokens_in (before_slots t)))) (anchors t)
before_held t =
    let P = IsHeldAmong (distinct (tokens_in (before_slots t))) in
    let statics = map holding_of_static t.statics in
    let all = held_once (before_slots t) in
    let after_entry = All_right P t.entry (t.vars ++ (statics ++ t.returned ∷ [])) all in
    let after_vars = All_right P t.vars (statics ++ t.returned ∷ []) after_entry in
    All-append P t.entry (t.vars ++ statics) (All_left P t.entry (t.vars ++ (statics ++ t.returned ∷ [])) all)
    (All-append P t.vars statics (All_left P t.vars (statics ++ t.returned ∷ []) after_entry)
    (All_left P statics (t.returned ∷ []) after_vars))

pub before_among : (t : Shape) (q : Spot) → is_kept_spot (anchors t) q ≡ true
    → IsBaseAmong (distinct (tokens_in (before_slots t))) q
before_among t (Global n) e = tt
before_among t (Field b tag field) e =
    holds_among (distinct (tokens_in (before_slots t))) (anchors t) b (before_held t) e

pub bases_kept : (code : Code) (p : Point) (s : Scene)
    → All (IsBaseAmong (KeptTokens code p s)) (map spot_in (kept_shape code p s).slots)
bases_kept code p s = All-map (IsBaseAmong (KeptTokens code p s)) spot_in (kept_shape code p s).slots (all_kept
    (λ r. IsBaseAmong (KeptTokens code p s) r.spot) (trim code p s.shape) (λ r e. base_kept code p s r.spot e))

-- ---- numbered anew

pub holders_renamed : (g : ℕ → ℕ) (s : Shape) (made : List Bool)
    → holders (record (rename g s) { made = made }) ≡ map (rename_holding g) (holders s)
holders_renamed g s made =
    let r = rename_holding g in
    let statics : map holding_of_static (rename g s).statics ≡ map r (map holding_of_static s.statics) =
    map_map holding_of_static (λ k. (k.0, rename_holding g k.1)) s.statics
    ∙ sym (map_map r holding_of_static s.statics)
    in
    let slots : map holding_of_slot (rename g s).slots ≡ map r (map holding_of_slot s.slots) =
    map_map holding_of_slot (rename_tracked g) s.slots ∙ sym (map_map r holding_of_slot s.slots)
    in
    let last : map holding_of_static (rename g s).statics ++ r s.returned ∷ []
    ≡ map r (map holding_of_static s.statics ++ s.returned ∷ []) =
    ap (λ z. z ++ r s.returned ∷ []) statics
    ∙ sym (map-append r (map holding_of_static s.statics) (s.returned ∷ []))
    in
    let mid : map r s.vars ++ (map holding_of_static (rename g s).statics ++ r s.returned ∷ [])
    ≡ map r (s.vars ++ (map holding_of_static s.statics ++ s.returned ∷ [])) =
    ap (λ z. map r s.vars ++ z) last ∙ sym (map-append r s.vars (map holding_of_static s.statics ++ s.returned ∷ []))
    in
    let first : before_slots (rename g s) ≡ map r (before_slots s) =
    ap (λ z. map r s.entry ++ z) mid
    ∙ sym (map-append r s.entry (s.vars ++ (map holding_of_static s.statics ++ s.returned ∷ [])))
    in
    ap (λ z. z ++ map holding_of_slot (rename g s).slots) first ∙ ap (λ z. map r (before_slots s) ++ z) slots
    ∙ sym (map-append r (before_slots s) (map holding_of_slot s.slots))

pub arrived_tokens : (kept : Shape) → length (tokens_of (renumber kept)) ≡ length (tokens_of kept)
arrived_tokens kept =
    let ts = tokens_of kept in
    let g = place_in ts in
    let hs = holders kept in
    ap (λ ks. length (distinct (tokens_in ks))) (holders_renamed g kept (renumber kept).made)
    ∙ ap (λ us. length (distinct us)) (tokens_renamed g hs)
    ∙ ap length (distinct_map g (tokens_in hs) (λ t u a b e. one_place ts t u
    (is_in ts t (among_distinct (tokens_in hs) t ∙ a)) (is_in ts u (among_distinct (tokens_in hs) u ∙ b)) e))
    ∙ length-map ts g

-- how many coordinates there are
pub arrived_width : (code : Code) (p : Point) (s : Scene) → width_of (renumber (kept_shape code p s))
    ≡ 1 + (count_of_numbers (kept_shape code p s).vars + (one_if (is_number s.shape.returned)
    + (count_of_numbers s.shape.entry + length (KeptTokens code p s))))
arrived_width code p s =
    let kept = kept_shape code p s in
    let g = place_in (tokens_of kept) in
    let in_vars = count_renamed g kept.vars in
    let in_returned = ap one_if (number_renamed g s.shape.returned) in
    let in_entry = count_renamed g s.shape.entry in
    let tokens = arrived_tokens kept in
    omega (arith, in_vars, in_returned, in_entry, tokens)

-- ---- the scene

token_form_live : (w k n t : ℕ) → t < n → IsLive (token_forms w k n) t
token_form_live w k n t lt =
    (unit w (k + t), get_or-map-range_with_len (λ i. Some (unit w i)) k n t (k + t) None lt refl)

live_numbered : (w k : ℕ) (ts : List ℕ) (n : ℕ) → n ≡ length ts → (h : Holding) → IsHeldAmong ts h
    → IsLiveIn (token_forms w k n) (rename_holding (place_in ts) h)
live_numbered w k ts n e Dead is = tt
live_numbered w k ts n e Unset is = tt
live_numbered w k ts n e Null is = tt
live_numbered w k ts n e Text is = tt
live_numbered w k ts n e (Known m) is = tt
live_numbered w k ts n e Number is = tt
live_numbered w k ts n e (Token t) is =
    token_form_live w k n (place_in ts t) (let i = (is_in ts t is).0 in omega (arith, i, e))

base_numbered : (ts : List ℕ) (n : ℕ) → n ≡ length ts → (q : Spot) → IsBaseAmong ts q
    → IsBaseIn n (rename_spot (place_in ts) q)
base_numbered ts n e (Global m) is = tt
base_numbered ts n e (Field b tag field) is = let i = (is_in ts b is).0 in omega (arith, i, e)

pub arrived_scene : (code : Code) (p : Point) (s : Scene) (ks : List ℕ) (n : ℕ) → IsScene ks n s
    → IsScene ks n (scene_of (renumber (kept_shape code p s)))
arrived_scene code p s ks n is =
    let kept = kept_shape code p s in
    let ts = tokens_of kept in
    let g = place_in ts in
    let a = renumber kept in
    let w = width_of a in
    let k = after_entry a in
    let held = kept_held code p s in
    let count : length a.made ≡ length ts = length-map ts (λ t. is_made kept t && holds_token (anchors kept) t) in
    let step = live_numbered w k ts (length a.made) count in
    let P = IsHeldAmong ts in
    let Q = IsLiveIn (token_forms w k (length a.made)) in
    record {
      wide = let e = arrived_width code p s in omega (arith, e);
      vars = length-map kept.vars (rename_holding g) ∙ trim_length code p 0 s.shape.vars ∙ is.vars;
      forms = length_forms w 1 a.vars;
      widths = widths_forms w 1 a.vars;
      returned_width = number_form_width w _ a.returned;
      entry_forms = length_forms w _ a.entry;
      entry_widths = widths_forms w _ a.entry;
      balances = length-map-range_with_len (λ i. Some (unit w i)) k (length a.made);
      balance_widths = All-map (HasWidthIf w) (λ i. Some (unit w i)) (range_with_len k (length a.made))
          (λ i d lt. length_unit w _);
      entry_live = renamed_holders P Q g step kept.entry held.entry;
      vars_live = renamed_holders P Q g step kept.vars held.vars;
      statics_live = renamed_statics P Q g step kept.statics held.statics;
      returned_live = step kept.returned held.returned;
      slots_live = renamed_helds P Q g step kept.slots held.slots;
      bases = renamed_spots (IsBaseAmong ts) (IsBaseIn (length a.made)) g (base_numbered ts (length a.made) count)
          kept.slots (bases_kept code p s);
      no_numbers = renamed_helds (λ h. is_no_content h ≡ false) (λ h. is_no_content h ≡ false) g
          (no_number_stays g) kept.slots
          (All-map (λ h. is_no_content h ≡ false) held_in kept.slots (all_in_order (λ r. is_no_content r.held ≡ false)
          (trim code p s.shape) (All_of_map (λ h. is_no_content h ≡ false) held_in s.shape.slots is.no_numbers)));
      static_keys = keys_of_renamed g kept.statics ∙ is.static_keys;
      static_tokens = renamed_statics IsTokenHeld IsTokenHeld g (token_stays g) kept.statics is.static_tokens;
    }
