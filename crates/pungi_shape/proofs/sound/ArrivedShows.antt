-- The shape at which a scene arrives shows what the scene showed.
use Rattle.std.proofs.Common.{◌≡◌, ℕ, zero, suc, ◌+◌, ◌<◌, List, [], ◌∷◌, length, map, get_or}
use Rattle.std.proofs.Common.{true, refl, sym, ap, ◌∙◌, subst, arith, cond}
use Rattle.std.specs.Prelude.{Option, Some, ◌&&◌}
use Rattle.std.specs.List.{All, AllPairs, range_with_len}
use Rattle.std.proofs.lemmas.List.{length-map, get_or-map, get_or_default}
use Rattle.std.proofs.lemmas.List.Elements.{All-head, All-tail, All-map, All-get_or, All-weaker}
use Rattle.pungi_base.specs.declared.entry.Entry.{Entry}
use Rattle.pungi_base.specs.declared.value.Value.TheVariants as value
use Rattle.pungi_domain.specs.Vectors.{Vector, dot}
use Rattle.pungi_world.specs.declared.content.Content.{Content}
use Rattle.pungi_world.specs.declared.content.Content.TheVariants as content
use Rattle.pungi_meaning.specs.Work.{content_at}
use Rattle.pungi_code.specs.declared.code.Code.{Code}
use Rattle.pungi_shape.specs.declared.holding.Holding.{Holding}
use Rattle.pungi_shape.specs.declared.holding.Holding.TheVariants.{Dead, Unset, Token}
use Rattle.pungi_shape.specs.declared.point.Point.{Point}
use Rattle.pungi_shape.specs.declared.tracked.Spot.{Spot}
use Rattle.pungi_shape.specs.declared.tracked.Spot.TheVariants.{Global, Field}
use Rattle.pungi_shape.specs.Forms.{unit, zero_form, one_if}
use Rattle.pungi_shape.specs.Shapes.{is_number, rename_holding, rename_spot, rename_tracked, tokens_of, tokens_in}
use Rattle.pungi_shape.specs.Shapes.{holders, holding_of_static, width_of}
use Rattle.pungi_shape.specs.Liveness.{is_among}
use Rattle.pungi_shape.specs.Scenes.{Scene, scene_of, holding_at, form_at, after_entry, balance_at, is_made}
use Rattle.pungi_shape.specs.Scenes.{after_vars, after_returned, number_forms}
use Rattle.pungi_shape.specs.Arrivals.{trim, anchors, holds_token, place_in, renumber, kept_shape, numbers_kept}
use Rattle.pungi_shape.specs.Arrivals.{rows_under, drops_under}
use Rattle.pungi_shape.specs.Slots.{no_slot}
use Rattle.pungi_shape.specs.Described.{Naming, HoldsSo, SlotHoldsSo}
use Rattle.pungi_shape.proofs.sound.Views.{View}
use Rattle.pungi_shape.proofs.sound.Shows.{IsScene, Shows, IsLive, AreApart, IsOther, argument, total}
use Rattle.pungi_shape.proofs.sound.Shows.{spot_in, held_in}
use Rattle.pungi_shape.proofs.sound.Flow.{AreZero}
use Rattle.pungi_shape.proofs.sound.Stands.{renamed, sent}
use Rattle.pungi_shape.proofs.sound.FormValues.{dot_unit}
use Rattle.pungi_shape.proofs.sound.Renames.{All_of_map, AllPairs_map, get_map, SameBase, dead_before, holds_renamed}
use Rattle.pungi_shape.proofs.sound.Renames.{number_renamed}
use Rattle.pungi_shape.proofs.sound.Renames.{slot_renamed, tracked_renamed}
use Rattle.pungi_shape.proofs.sound.SceneVars.{NamesStatic}
use Rattle.pungi_shape.proofs.sound.SceneBalances.{is_in_range}
use Rattle.pungi_shape.proofs.sound.SceneMerges.{spots_of_renamed}
use Rattle.pungi_shape.proofs.sound.Distinct.{IsHeldAmong, is_in, once_distinct}
use Rattle.pungi_shape.proofs.sound.Kept.{trim_length, trim_cases, all_in_order, pairs_in_order}
use Rattle.pungi_shape.proofs.sound.Coordinates.{count_renamed, count_cons, forms_renamed, length_kept, number_at}
use Rattle.pungi_shape.proofs.sound.Coordinates.{row_in_first, row_in_second, row_in_third, row_in_last}
use Rattle.pungi_shape.proofs.sound.Coordinates.{length_forms, number_inside}
use Rattle.pungi_shape.proofs.sound.ArrivedScene.{KeptTokens, kept_held, tokens_live, IsBaseAmong, bases_kept}
use Rattle.pungi_shape.proofs.sound.ArrivedScene.{arrived_width, arrived_scene}
use Rattle.pungi_shape.proofs.sound.ArrivedMarks.{arrived_marks}
use Rattle.pungi_shape.proofs.sound.Gathered.{gathered, dropped, numbered, NumberedAnew}

pub AllPairs_of_map : {X Y : Type 0} (R : Y → Y → Type 0) (f : X → Y) (xs : List X) → AllPairs R (map f xs)
    → AllPairs (λ x y. R (f x) (f y)) xs
AllPairs_of_map R f xs all i j d lt in_j =
    let n = length-map xs f in
    subst (λ z. R z (f (get_or xs j d))) (get_or-map f xs i d (f d) (omega (arith, lt, in_j)))
    (subst (λ z. R (get_or (map f xs) i (f d)) z) (get_or-map f xs j d (f d) in_j)
    (all i j (f d) lt (omega (arith, n, in_j))))

-- ---- objects of tokens

pub renamed_is : (names : Naming) (ts : List ℕ) (t : ℕ) → is_among ts t ≡ true
    → renamed names ts (place_in ts t) ≡ names t
renamed_is names ts t is = ap names (is_in ts t is).1

held_is : (names : Naming) (ts : List ℕ) (h : Holding) → IsHeldAmong ts h → (t : ℕ) → h ≡ Token t
    → renamed names ts (place_in ts t) ≡ names t
held_is names ts h is t e = renamed_is names ts t (subst (IsHeldAmong ts) e is)

pub base_is : (names : Naming) (ts : List ℕ) (q : Spot) → IsBaseAmong ts q
    → SameBase names (renamed names ts) (place_in ts) q
base_is names ts (Global n) is = tt
base_is names ts (Field b tag field) is = renamed_is names ts b is

pub get_held : (ts : List ℕ) (hs : List Holding) (i : ℕ) → All (IsHeldAmong ts) hs → IsHeldAmong ts (get_or hs i Unset)
get_held ts [] i all = tt
get_held ts (h ∷ hs) zero all = All-head (IsHeldAmong ts) h hs all
get_held ts (h ∷ hs) (suc i) all = get_held ts hs i (All-tail (IsHeldAmong ts) h hs all)

-- ---- variables

dead_no_number : is_number Dead ≡ true → ⊥
dead_no_number e = absurd (grind (arith, e))

vars_shown : (code : Code) (p : Point) (s : Scene) (names : Naming) (o : View)
    → ((x : ℕ) → HoldsSo names (holding_at s x) (content_at o.vars x)) → (x : ℕ)
    → HoldsSo (renamed names (KeptTokens code p s)) (holding_at (scene_of (renumber (kept_shape code p s))) x)
    (content_at o.vars x)
vars_shown code p s names o vars x =
    let kept = kept_shape code p s in
    let ts = tokens_of kept in
    let c = content_at o.vars x in
    let h = get_or kept.vars x Unset in
    let before : HoldsSo names h c = trim_cases (λ k. HoldsSo names k c) code p 0 s.shape.vars x x (omega arith)
    (vars x)
    (λ e. tt) in
    subst (λ k. HoldsSo (renamed names ts) k c) (sym (get_map (rename_holding (place_in ts)) kept.vars x Unset))
    (holds_renamed names (renamed names ts) (place_in ts) h c
    (held_is names ts h (get_held ts kept.vars x (kept_held code p s).vars)) before)

numbers_shown : (code : Code) (p : Point) (s : Scene) (v : Vector) (free : Option ℕ) (o : View) (ks : List ℕ) (n : ℕ)
    → IsScene ks n s
    → ((x : ℕ) → is_number (holding_at s x) ≡ true → IsOther free x
    → content_at o.vars x ≡ content.Holds (value.Int (dot (form_at s x) v)))
    → (x : ℕ) → is_number (holding_at (scene_of (renumber (kept_shape code p s))) x) ≡ true → IsOther free x
    → content_at o.vars x ≡ content.Holds (value.Int (dot (form_at (scene_of (renumber (kept_shape code p s))) x)
    (sent (rows_under s (kept_shape code p s)) v)))
numbers_shown code p s v free o ks n is numbers x number other =
    let kept = kept_shape code p s in
    let ts = tokens_of kept in
    let g = place_in ts in
    let a = renumber kept in
    let w = width_of a in
    let u = sent (rows_under s kept) v in
    let h = get_or kept.vars x Unset in
    let is_so : is_number h ≡ true = sym (number_renamed g h)
    ∙ ap is_number (sym (get_map (rename_holding g) kept.vars x Unset)) ∙ number in
    let count : length s.vars ≡ length kept.vars = is.forms ∙ sym (trim_length code p 0 s.shape.vars) in
    let at = number_at w 1 kept.vars s.vars x (zero_form s.width) count is_so in
    let kept_count = length_kept kept.vars s.vars count in
    let width = arrived_width code p s in
    let in_kept = at.within in
    let form : form_at (scene_of a) x ≡ unit w (1 + at.place) =
    ap (λ fs. get_or fs x (zero_form w)) (forms_renamed g w 1 kept.vars) ∙ at.form
    in
    let row : get_or (rows_under s kept) (1 + at.place) [] ≡ form_at s x =
    row_in_first (unit s.width 0) (numbers_kept kept.vars s.vars) (numbers_kept (kept.returned ∷ []) (s.returned ∷ []))
    (numbers_kept kept.entry s.entry) (map (balance_at s) ts) at.place (omega (arith, kept_count, in_kept)) ∙ at.kept
    in
    let there : dot (form_at (scene_of a) x) u ≡ dot (form_at s x) v =
    ap (λ f. dot f u) form ∙ dot_unit w (1 + at.place) u (omega (arith, width, in_kept)) ∙ ap (λ f. dot f v) row
    in
    trim_cases (λ k. is_number k ≡ true → content_at o.vars x ≡ content.Holds
    (value.Int (dot (form_at s x) v))) code p 0
    s.shape.vars x x (omega arith) (λ e. numbers x e other) (λ e d. absurd (dead_no_number d)) is_so
    ∙ ap (λ z. content.Holds (value.Int z)) (sym there)

-- ---- the returned number

returned_shown : (code : Code) (p : Point) (s : Scene) (v : Vector) (c : Content) (ks : List ℕ) (n : ℕ)
    → IsScene ks n s
    → (is_number s.shape.returned ≡ true → c ≡ content.Holds (value.Int (dot s.returned v)))
    → is_number (renumber (kept_shape code p s)).returned ≡ true
    → c ≡ content.Holds (value.Int (dot (scene_of (renumber (kept_shape code p s))).returned
    (sent (rows_under s (kept_shape code p s)) v)))
returned_shown code p s v c ks n is known number =
    let kept = kept_shape code p s in
    let ts = tokens_of kept in
    let g = place_in ts in
    let a = renumber kept in
    let w = width_of a in
    let k = after_vars a in
    let u = sent (rows_under s kept) v in
    let is_so : is_number kept.returned ≡ true = sym (number_renamed g kept.returned) ∙ number in
    let at = number_at w k (kept.returned ∷ []) (s.returned ∷ []) 0 [] refl is_so in
    let in_kept = at.within in
    let count : length s.vars ≡ length kept.vars = is.forms ∙ sym (trim_length code p 0 s.shape.vars) in
    let in_vars = length_kept kept.vars s.vars count in
    let in_returned = length_kept (kept.returned ∷ []) (s.returned ∷ []) refl in
    let one = count_cons kept.returned [] in
    let vars_count = count_renamed g kept.vars in
    let width = arrived_width code p s in
    let form : (scene_of a).returned ≡ unit w (k + at.place) =
    ap (λ b. cond b (unit w k) (zero_form w)) (number_renamed g kept.returned) ∙ at.form
    in
    let row : get_or (rows_under s kept) (k + at.place) [] ≡ s.returned =
    row_in_second (unit s.width 0) (numbers_kept kept.vars s.vars) (numbers_kept (kept.returned ∷ [])
    (s.returned ∷ [])) (numbers_kept kept.entry s.entry) (map (balance_at s) ts) at.place (k + at.place)
    (omega (arith, in_vars, vars_count)) (omega (arith, in_returned, in_kept)) ∙ at.kept
    in
    let there : dot (scene_of a).returned u ≡ dot s.returned v =
    ap (λ f. dot f u) form ∙ dot_unit w (k + at.place) u (omega (arith, width, in_kept, one, vars_count))
    ∙ ap (λ f. dot f v) row
    in
    known is_so ∙ ap (λ z. content.Holds (value.Int z)) (sym there)

-- ---- values at entry

entry_shown : (code : Code) (p : Point) (s : Scene) (names : Naming) (e : Entry)
    → ((x : ℕ) → HoldsSo names (get_or s.shape.entry x Unset) (argument e x)) → (x : ℕ)
    → HoldsSo (renamed names (KeptTokens code p s)) (get_or (renumber (kept_shape code p s)).entry x Unset)
    (argument e x)
entry_shown code p s names e entry x =
    let ts = KeptTokens code p s in
    let h = get_or s.shape.entry x Unset in
    subst (λ k. HoldsSo (renamed names ts) k (argument e x)) (sym (get_map (rename_holding (place_in ts)) s.shape.entry
    x Unset)) (holds_renamed names (renamed names ts) (place_in ts) h (argument e x)
    (held_is names ts h (get_held ts s.shape.entry x (kept_held code p s).entry)) (entry x))

entry_numbers_shown : (code : Code) (p : Point) (s : Scene) (v : Vector) (e : Entry) (ks : List ℕ) (n : ℕ)
    → IsScene ks n s
    → ((x : ℕ) → is_number (get_or s.shape.entry x Unset) ≡ true
    → argument e x ≡ content.Holds (value.Int (dot (get_or s.entry x []) v)))
    → (x : ℕ) → is_number (get_or (renumber (kept_shape code p s)).entry x Unset) ≡ true
    → argument e x ≡ content.Holds (value.Int (dot (get_or (scene_of (renumber (kept_shape code p s))).entry x [])
    (sent (rows_under s (kept_shape code p s)) v)))
entry_numbers_shown code p s v e ks n is numbers x number =
    let kept = kept_shape code p s in
    let ts = tokens_of kept in
    let g = place_in ts in
    let a = renumber kept in
    let w = width_of a in
    let k = after_returned a in
    let u = sent (rows_under s kept) v in
    let is_so : is_number (get_or kept.entry x Unset) ≡ true = sym (number_renamed g (get_or kept.entry x Unset))
    ∙ ap is_number (sym (get_map (rename_holding g) kept.entry x Unset)) ∙ number in
    let at = number_at w k kept.entry s.entry x [] is.entry_forms is_so in
    let in_kept = at.within in
    let inside = number_inside kept.entry x is_so in
    let count : length s.vars ≡ length kept.vars = is.forms ∙ sym (trim_length code p 0 s.shape.vars) in
    let in_vars = length_kept kept.vars s.vars count in
    let in_returned = length_kept (kept.returned ∷ []) (s.returned ∷ []) refl in
    let one = count_cons kept.returned [] in
    let in_entry = length_kept kept.entry s.entry is.entry_forms in
    let vars_count = count_renamed g kept.vars in
    let returned_is : one_if (is_number a.returned) ≡ one_if (is_number kept.returned) =
    ap one_if (number_renamed g kept.returned)
    in
    let width = arrived_width code p s in
    let form : get_or (scene_of a).entry x [] ≡ unit w (k + at.place) =
    ap (λ fs. get_or fs x []) (forms_renamed g w k kept.entry)
    ∙ get_or_default (number_forms w k kept.entry) x [] (zero_form w)
    (let l = length_forms w k kept.entry in omega (arith, l, inside)) ∙ at.form
    in
    let row : get_or (rows_under s kept) (k + at.place) [] ≡ get_or s.entry x [] =
    row_in_third (unit s.width 0) (numbers_kept kept.vars s.vars) (numbers_kept (kept.returned ∷ []) (s.returned ∷ []))
    (numbers_kept kept.entry s.entry) (map (balance_at s) ts) at.place (k + at.place)
    (omega (arith, in_vars, in_returned, one, vars_count, returned_is)) (omega (arith, in_entry, in_kept)) ∙ at.kept
    in
    let there : dot (get_or (scene_of a).entry x []) u ≡ dot (get_or s.entry x []) v =
    ap (λ f. dot f u) form
    ∙ dot_unit w (k + at.place) u (omega (arith, width, in_kept, vars_count, returned_is))
    ∙ ap (λ f. dot f v) row
    in
    numbers x is_so ∙ ap (λ z. content.Holds (value.Int z)) (sym there)

-- ---- balances

balances_shown : (code : Code) (p : Point) (s : Scene) (names : Naming) (v : Vector) (ks : List ℕ) (n k : ℕ)
    → IsScene ks n s → AreZero (drops_under s (kept_shape code p s)) v
    → total names s.balances v k
    ≡ total (renamed names (KeptTokens code p s)) (scene_of (renumber (kept_shape code p s))).balances
    (sent (rows_under s (kept_shape code p s)) v) k
balances_shown code p s names v ks n k is zeros =
    let kept = kept_shape code p s in
    let ts = tokens_of kept in
    let g = place_in ts in
    let a = renumber kept in
    let w = width_of a in
    let u = sent (rows_under s kept) v in
    let live = tokens_live code p s ks n is in
    let first : total names s.balances v k ≡ _ = gathered names v k s.balances ts
    (once_distinct (tokens_in (holders kept)))
    (All-weaker (IsLive s.balances) (λ t. t < length s.balances) (is_in_range s.balances) ts live)
    (λ t out. dropped names v k 0 ts s.balances t t (omega arith) zeros out) in
    let width = arrived_width code p s in
    let count : length s.vars ≡ length kept.vars = is.forms ∙ sym (trim_length code p 0 s.shape.vars) in
    let in_vars = length_kept kept.vars s.vars count in
    let in_returned = length_kept (kept.returned ∷ []) (s.returned ∷ []) refl in
    let one = count_cons kept.returned [] in
    let in_entry = length_kept kept.entry s.entry is.entry_forms in
    let vars_count = count_renamed g kept.vars in
    let entry_count = count_renamed g kept.entry in
    let returned_is : one_if (is_number a.returned) ≡ one_if (is_number kept.returned) =
    ap one_if (number_renamed g kept.returned)
    in
    let new : NumberedAnew names (renamed names ts) v u s.balances s.width 0 (after_entry a) ts = record {
      objects = λ i lt. ap (renamed names ts) (omega arith);
      coordinates = λ i lt. ap (λ f. dot f v)
          (row_in_last (unit s.width 0) (numbers_kept kept.vars s.vars) (numbers_kept (kept.returned ∷ [])
          (s.returned ∷ [])) (numbers_kept kept.entry s.entry) (map (balance_at s) ts) i (after_entry a + i)
          (omega (arith, in_vars, in_returned, one, in_entry, vars_count, entry_count, returned_is))
          ∙ get_or-map (balance_at s) ts i 0 [] lt);
      live = live;
    } in
    let second = numbered names (renamed names ts) v u s.balances s.width k w 0 (after_entry a) ts
    (omega (arith, width, vars_count, entry_count, returned_is)) new in
    let made : length ts ≡ length a.made = sym (length-map ts (λ t. is_made kept t && holds_token (anchors kept) t)) in
    first ∙ sym second
    ∙ ap (λ m. total (renamed names ts) (map (λ i. Some (unit w i)) (range_with_len (after_entry a) m)) u k) made

-- ---- slots

slots_shown : (code : Code) (p : Point) (s : Scene) (names : Naming) (o : View)
    → All (SlotHoldsSo names o.world) s.shape.slots
    → All (SlotHoldsSo (renamed names (KeptTokens code p s)) o.world) (renumber (kept_shape code p s)).slots
slots_shown code p s names o slots =
    let kept = kept_shape code p s in
    let ts = tokens_of kept in
    let before = all_in_order (SlotHoldsSo names o.world) (trim code p s.shape) slots in
    let bases = All_of_map (IsBaseAmong ts) spot_in kept.slots (bases_kept code p s) in
    let helds = All_of_map (IsHeldAmong ts) held_in kept.slots (kept_held code p s).slots in
    All-map (SlotHoldsSo (renamed names ts) o.world) (rename_tracked (place_in ts)) kept.slots
    (λ k d lt. tracked_renamed names (renamed names ts) (place_in ts) o.world (get_or kept.slots k d)
    (base_is names ts (get_or kept.slots k d).spot (bases k d lt))
    (held_is names ts (get_or kept.slots k d).held (helds k d lt)) (before k d lt))

apart_numbered : (names : Naming) (ts : List ℕ) (q r : Spot) → IsBaseAmong ts q → IsBaseAmong ts r
    → AreApart names q r
    → AreApart (renamed names ts) (rename_spot (place_in ts) q) (rename_spot (place_in ts) r)
apart_numbered names ts q r in_q in_r apart same = apart
    (sym (slot_renamed names (renamed names ts) (place_in ts) q (base_is names ts q in_q)) ∙ same
    ∙ slot_renamed names (renamed names ts) (place_in ts) r (base_is names ts r in_r))

apart_shown : (code : Code) (p : Point) (s : Scene) (names : Naming)
    → AllPairs (AreApart names) (map spot_in s.shape.slots)
    → AllPairs (AreApart (renamed names (KeptTokens code p s))) (map spot_in (renumber (kept_shape code p s)).slots)
apart_shown code p s names apart =
    let kept = kept_shape code p s in
    let ts = tokens_of kept in
    let g = place_in ts in
    let in_kept = AllPairs_map (AreApart names) spot_in kept.slots no_slot (pairs_in_order
    (λ q r. AreApart names q.spot r.spot) (λ q r ne e. ne (sym e)) (trim code p s.shape)
    (AllPairs_of_map (AreApart names) spot_in s.shape.slots apart)) in
    let bases = bases_kept code p s in
    subst (AllPairs (AreApart (renamed names ts))) (sym (spots_of_renamed g kept.slots))
    (AllPairs_map (AreApart (renamed names ts)) (rename_spot g) (map spot_in kept.slots) no_slot.spot
    (λ i j d lt in_j. apart_numbered names ts (get_or (map spot_in kept.slots) i d)
    (get_or (map spot_in kept.slots) j d)
    (bases i d (omega (arith, lt, in_j))) (bases j d in_j) (in_kept i j d lt in_j)))

-- ---- the whole

pub arrived_shows : (code : Code) (ks : List ℕ) (n : ℕ) (p : Point) (s : Scene) (names : Naming) (v : Vector)
    (free : Option ℕ) (o : View) → IsScene ks n s → Shows names v free s o
    → AreZero (drops_under s (kept_shape code p s)) v
    → Shows (renamed names (KeptTokens code p s)) (sent (rows_under s (kept_shape code p s)) v) free
    (scene_of (renumber (kept_shape code p s))) o
arrived_shows code ks n p s names v free o is shows zeros =
    let kept = kept_shape code p s in
    let ts = tokens_of kept in
    let g = place_in ts in
    let a = renumber kept in
    let held = kept_held code p s in
    let statics = All_of_map (IsHeldAmong ts) holding_of_static kept.statics held.statics in
    let count : length a.made ≡ length ts = length-map ts (λ t. is_made kept t && holds_token (anchors kept) t) in
    let scene = arrived_scene code p s ks n is in
    let live = tokens_live code p s ks n is in
    record {
      leading = dot_unit s.width 0 v is.wide ∙ shows.leading;
      vars = vars_shown code p s names o shows.vars;
      numbers = numbers_shown code p s v free o ks n is shows.numbers;
      returned = holds_renamed names (renamed names ts) g kept.returned o.returned
          (held_is names ts kept.returned held.returned) shows.returned;
      returned_number = returned_shown code p s v o.returned ks n is shows.returned_number;
      statics = All-map (NamesStatic (renamed names ts)) (λ k. (k.0, rename_holding g k.1)) kept.statics
          (λ i d lt. holds_renamed names (renamed names ts) g (get_or kept.statics i d).1
          (content.Holds (value.Object (get_or kept.statics i d).0))
          (held_is names ts (get_or kept.statics i d).1 (statics i d lt)) (shows.statics i d lt));
      slots = slots_shown code p s names o shows.slots;
      apart = apart_shown code p s names shows.apart;
      objects = λ t is_live. shows.objects (get_or ts t 0) (All-get_or (IsLive s.balances) ts t 0
          (let i = is_in_range (scene_of a).balances t is_live in let b = scene.balances in omega (arith, i, b, count))
          live);
      entry = entry_shown code p s names o.entry shows.entry;
      entry_alive = λ x e. shows.entry_alive x (dead_before g (get_or s.shape.entry x Unset)
          (sym (get_map (rename_holding g) s.shape.entry x Unset) ∙ e));
      entry_count = length-map s.shape.entry (rename_holding g) ∙ shows.entry_count;
      entry_numbers = entry_numbers_shown code p s v o.entry ks n is shows.entry_numbers;
      balances = λ k. shows.balances k ∙ balances_shown code p s names v ks n k is zeros;
      marks = arrived_marks code p s ks n is names o.world o.fields shows.marks;
    }
