-- What a scene arrives at: a shape of its own, with one row a coordinate.
--   Entry, IsPut P e        a slot beside its numbers; this holds of the slot
--   AreAmong ts us          all of the latter are among the former
use Rattle.std.proofs.Common.{◌≡◌, ◌∙◌, ℕ, ◌+◌, ◌<◌, List, [], ◌∷◌, ◌++◌, length, map, Bool, true, false}
use Rattle.std.proofs.Common.{refl, sym, ap, subst, arith, cond}
use Rattle.std.specs.Prelude.{◌||◌, ◌&&◌, pos}
use Rattle.std.specs.FinMap.{put}
use Rattle.std.specs.FinMap.Entries.{by_order}
use Rattle.std.specs.Ordering.{nat_cmp}
use Rattle.std.specs.Cmp.Lexicographic.{slice_cmp}
use Rattle.std.specs.declared.cmp.Ordering.{Ordering}
use Rattle.std.specs.declared.cmp.Ordering.TheVariants.{Less, Equal, Greater}
use Rattle.std.specs.List.{All, enumerate_from, filter, list_any}
use Rattle.std.proofs.lemmas.List.{length-map, length-replicate, map-append}
use Rattle.std.proofs.lemmas.List.Elements.{All-cons, All-nil, All-head, All-tail, All-append, All-map, All-weaker}
use Rattle.std.proofs.lemmas.List.Folds.{list_any-append}
use Rattle.std.proofs.lemmas.List.FromFn.{length-enumerate_from}
use Rattle.pungi_code.specs.declared.code.Code.{Code}
use Rattle.pungi_domain.specs.Vectors.{IsWithin}
use Rattle.pungi_shape.specs.declared.holding.Holding.TheVariants.{Dead}
use Rattle.pungi_shape.specs.declared.point.Point.{Point}
use Rattle.pungi_shape.specs.declared.shape.Shape.{Shape}
use Rattle.pungi_shape.specs.declared.tracked.Spot.{Spot}
use Rattle.pungi_shape.specs.declared.tracked.Spot.TheVariants.{Global, Field}
use Rattle.pungi_shape.specs.declared.tracked.Tracked.{Tracked}
use Rattle.pungi_shape.specs.Arrivals.{anchors, arrive, holds_token, is_kept, is_kept_spot, kept_shape, numbers_kept}
use Rattle.pungi_shape.specs.Arrivals.{place_in, put_slots, renumber, slot_key, slots_in_order, trim}
use Rattle.pungi_shape.specs.Bounds.{HasBalances, HasWidth, IsScene, IsShape, base_in, bases_in}
use Rattle.pungi_shape.specs.Forms.{one_if, unit}
use Rattle.pungi_shape.specs.Liveness.{is_among, is_holder}
use Rattle.pungi_shape.specs.Scenes.{Scene, balance_at, is_made}
use Rattle.pungi_shape.specs.Shapes.{before_slots, count_of_numbers, distinct, holders, holding_of_slot}
use Rattle.pungi_shape.specs.Shapes.{holding_of_static, is_number, is_token, rename, rename_holding, rename_spot}
use Rattle.pungi_shape.specs.Shapes.{rename_tracked, tokens_in, tokens_of}
use Rattle.pungi_shape.proofs.DistinctLemmas.{all_among, among_distinct, distinct_map, holds_is, is_in, one_place}
use Rattle.pungi_shape.proofs.DistinctLemmas.{tokens_renamed}
use Rattle.pungi_shape.proofs.RowLemmas.{all_dropped, all_kept_forms, balance_is, count_cons, count_renamed}
use Rattle.pungi_shape.proofs.RowLemmas.{length_kept, length_rows, length_unit, number_renamed}

-- ---- variables

trimmed-vars : (code : Code) (p : Point) (s : Shape) → length (trim code p s).vars ≡ length s.vars
trimmed-vars code p s =
    length-map (enumerate_from 0 s.vars) (λ x. cond (is_holder code p x.0) x.1 Dead) ∙ length-enumerate_from 0 s.vars

pub arrive-vars : (code : Code) (p : Point) (s : Scene) → length (arrive code p s).shape.vars ≡ length s.shape.vars
arrive-vars code p s =
    length-map (kept_shape code p s).vars (rename_holding (place_in (tokens_of (kept_shape code p s))))
    ∙ trimmed-vars code p s.shape

pub arrive-entry : (code : Code) (p : Point) (s : Scene) → length (arrive code p s).shape.entry ≡ length s.shape.entry
arrive-entry code p s = length-map s.shape.entry (rename_holding (place_in (tokens_of (kept_shape code p s))))

-- ---- tokens

map_map : {X Y Z : Type 0} (f : Y → Z) (g : X → Y) (xs : List X) → map f (map g xs) ≡ map (λ x. f (g x)) xs
map_map f g [] = refl
map_map f g (x ∷ xs) = ap (λ z. f (g x) ∷ z) (map_map f g xs)

pub holders_renamed : (g : ℕ → ℕ) (s : Shape) (made : List Bool)
    → holders (record (rename g s) { made = made }) ≡ map (rename_holding g) (holders s)
holders_renamed g s made =
    let r = rename_holding g in
    let statics : map holding_of_static (rename g s).statics ≡ map r (map holding_of_static s.statics) =
    map_map holding_of_static (λ k. (k.0, rename_holding g k.1)) s.statics
    ∙ sym (map_map r holding_of_static s.statics)
    in
    let slots : map holding_of_slot (rename g s).slots ≡ map r (map holding_of_slot s.slots) =
    map_map holding_of_slot (rename_tracked g) s.slots ∙ sym (map_map r holding_of_slot s.slots)
    in
    let last : map holding_of_static (rename g s).statics ++ r s.returned ∷ []
    ≡ map r (map holding_of_static s.statics ++ s.returned ∷ []) =
    ap (λ z. z ++ r s.returned ∷ []) statics
    ∙ sym (map-append r (map holding_of_static s.statics) (s.returned ∷ []))
    in
    let mid : map r s.vars ++ (map holding_of_static (rename g s).statics ++ r s.returned ∷ [])
    ≡ map r (s.vars ++ (map holding_of_static s.statics ++ s.returned ∷ [])) =
    ap (λ z. map r s.vars ++ z) last ∙ sym (map-append r s.vars (map holding_of_static s.statics ++ s.returned ∷ []))
    in
    let first : before_slots (rename g s) ≡ map r (before_slots s) =
    ap (λ z. map r s.entry ++ z) mid
    ∙ sym (map-append r s.entry (s.vars ++ (map holding_of_static s.statics ++ s.returned ∷ [])))
    in
    ap (λ z. z ++ map holding_of_slot (rename g s).slots) first ∙ ap (λ z. map r (before_slots s) ++ z) slots
    ∙ sym (map-append r (before_slots s) (map holding_of_slot s.slots))

pub arrived_tokens : (kept : Shape) → length (tokens_of (renumber kept)) ≡ length (tokens_of kept)
arrived_tokens kept =
    let ts = tokens_of kept in
    let g = place_in ts in
    let hs = holders kept in
    ap (λ ks. length (distinct (tokens_in ks))) (holders_renamed g kept (renumber kept).made)
    ∙ ap (λ us. length (distinct us)) (tokens_renamed g hs)
    ∙ ap length (distinct_map g (tokens_in hs) (λ t u a b e. one_place ts t u
    (is_in ts t (among_distinct (tokens_in hs) t ∙ a)) (is_in ts u (among_distinct (tokens_in hs) u ∙ b)) e))
    ∙ length-map ts g

-- ---- slots

abbrev Entry : Type 0
Entry = List ℕ × Tracked

abbrev IsPut : (Tracked → Type 0) → Entry → Type 0
IsPut P e = P e.1

all_put : (P : Tracked → Type 0) (k : List ℕ) (r : Tracked) (es : List Entry) → P r → All (IsPut P) es
    → All (IsPut P) (put (slice_cmp nat_cmp) k r es)
all_put P k r [] is all = All-cons (IsPut P) (k, r) [] is all
all_put P k r (e ∷ es) is all =
    at (slice_cmp nat_cmp k e.0) (all_put P k r es is (All-tail (IsPut P) e es all))
  where
    at : (o : Ordering) → All (IsPut P) (put (slice_cmp nat_cmp) k r es)
        → All (IsPut P) (by_order o ((k, r) ∷ e ∷ es) ((e.0, r) ∷ es) (e ∷ put (slice_cmp nat_cmp) k r es))
    at Less rest = All-cons (IsPut P) (k, r) (e ∷ es) is all
    at Equal rest = All-cons (IsPut P) (e.0, r) es is (All-tail (IsPut P) e es all)
    at Greater rest = All-cons (IsPut P) e (put (slice_cmp nat_cmp) k r es) (All-head (IsPut P) e es all) rest

all_put_slots : (P : Tracked → Type 0) (s : Shape) (rs : List Tracked) → All P rs → All (IsPut P) (put_slots s rs)
all_put_slots P s [] all = All-nil (IsPut P)
all_put_slots P s (r ∷ rs) all = all_put P (slot_key s r) r (put_slots s rs) (All-head P r rs all)
    (all_put_slots P s rs (All-tail P r rs all))

all_passes : {X : Type 0} (P : X → Type 0) (p : X → Bool) (xs : List X) → ((x : X) → p x ≡ true → P x)
    → All P (filter p xs)
all_passes P p [] step = All-nil P
all_passes {X} P p (x ∷ xs) step = at (p x) refl (all_passes P p xs step)
  where
    at : (b : Bool) → p x ≡ b → All P (filter p xs) → All P (cond (p x) (x ∷ filter p xs) (filter p xs))
    at true is rest = subst (λ b. All P (cond b (x ∷ filter p xs) (filter p xs))) (sym is)
        (All-cons P x (filter p xs) (step x is) rest)
    at false is rest = subst (λ b. All P (cond b (x ∷ filter p xs) (filter p xs))) (sym is) rest

-- what holds of each slot that would be kept holds of those that are
pub all_kept : (P : Tracked → Type 0) (s : Shape) → ((r : Tracked) → is_kept s r ≡ true → P r)
    → All P (slots_in_order s)
all_kept P s step = All-map P (λ e. e.1) (put_slots s (filter (is_kept s) s.slots))
    (all_put_slots P s (filter (is_kept s) s.slots) (all_passes P (is_kept s) s.slots step))

or_more : (e v s r l : Bool) → (e || (v || s)) ≡ true → ((e || (v || (s || r))) || l) ≡ true
or_more true v s r l is = refl
or_more false true s r l is = refl
or_more false false true r l is = refl
or_more false false false r l is = absurd (let bad : false ≡ true = is in cc)

-- an anchor is a holder
anchor_holds : (s : Shape) (t : ℕ) → holds_token (anchors s) t ≡ true → holds_token (holders s) t ≡ true
anchor_holds s t is =
    let p = is_token t in
    let statics = map holding_of_static s.statics in
    let slots = map holding_of_slot s.slots in
    let one : holds_token (anchors s) t
    ≡ (list_any p s.entry || (list_any p s.vars || list_any p statics)) =
    list_any-append p s.entry (s.vars ++ statics)
    ∙ ap (λ b. list_any p s.entry || b) (list_any-append p s.vars statics)
    in
    let all : holds_token (holders s) t
    ≡ ((list_any p s.entry || (list_any p s.vars || (list_any p statics || list_any p (s.returned ∷ []))))
    || list_any p slots) =
    list_any-append p (before_slots s) slots
    ∙ ap (λ b. b || list_any p slots) (list_any-append p s.entry (s.vars ++ (statics ++ s.returned ∷ []))
    ∙ ap (λ b. list_any p s.entry || b) (list_any-append p s.vars (statics ++ s.returned ∷ [])
    ∙ ap (λ b. list_any p s.vars || b) (list_any-append p statics (s.returned ∷ []))))
    in
    all ∙ or_more (list_any p s.entry) (list_any p s.vars) (list_any p statics) (list_any p (s.returned ∷ []))
    (list_any p slots) (sym one ∙ is)

abbrev AreAmong : List ℕ → List ℕ → Type 0
AreAmong ts us = All (λ t. is_among ts t ≡ true) us

base_kept : (s t : Shape) → anchors t ≡ anchors s → (q : Spot) → is_kept_spot (anchors s) q ≡ true
    → AreAmong (tokens_of t) (base_in q)
base_kept s t same (Global n) is = All-nil (λ u. is_among (tokens_of t) u ≡ true)
base_kept s t same (Field b tag field) is =
    All-cons (λ u. is_among (tokens_of t) u ≡ true) b []
    (among_distinct (tokens_in (holders t)) b ∙ sym (holds_is b (holders t))
    ∙ anchor_holds t b (ap (λ hs. holds_token hs b) same ∙ is))
    (All-nil (λ u. is_among (tokens_of t) u ≡ true))

all_bases : (ts : List ℕ) (rs : List Tracked) → All (λ r. AreAmong ts (base_in r.spot)) rs → AreAmong ts (bases_in rs)
all_bases ts [] all = All-nil (λ u. is_among ts u ≡ true)
all_bases ts (r ∷ rs) all =
    All-append (λ u. is_among ts u ≡ true) (base_in r.spot) (bases_in rs)
    (All-head (λ x. AreAmong ts (base_in x.spot)) r rs all)
    (all_bases ts rs (All-tail (λ x. AreAmong ts (base_in x.spot)) r rs all))

bases_kept : (code : Code) (p : Point) (s : Scene)
    → AreAmong (tokens_of (kept_shape code p s)) (bases_in (kept_shape code p s).slots)
bases_kept code p s =
    let kept = kept_shape code p s in
    all_bases (tokens_of kept) kept.slots (all_kept (λ r. AreAmong (tokens_of kept) (base_in r.spot))
    (trim code p s.shape) (λ r is. base_kept (trim code p s.shape) kept refl r.spot is))

base_renamed : (g : ℕ → ℕ) (q : Spot) (us : List ℕ)
    → base_in (rename_spot g q) ++ map g us ≡ map g (base_in q ++ us)
base_renamed g (Global n) us = refl
base_renamed g (Field b tag field) us = refl

bases_renamed : (g : ℕ → ℕ) (rs : List Tracked) → bases_in (map (rename_tracked g) rs) ≡ map g (bases_in rs)
bases_renamed g [] = refl
bases_renamed g (r ∷ rs) =
    ap (λ us. base_in (rename_spot g r.spot) ++ us) (bases_renamed g rs) ∙ base_renamed g r.spot (bases_in rs)

-- ---- the shape

numbered : (ts us : List ℕ) (n : ℕ) → n ≡ length ts → AreAmong ts us → All (λ t. t < n) (map (place_in ts) us)
numbered ts us n e all = All-map (λ t. t < n) (place_in ts) us (All-weaker (λ t. is_among ts t ≡ true)
    (λ t. place_in ts t < n) (λ t is. let lt = (is_in ts t is).0 in omega (arith, e, lt)) us all)

holders_among : (s : Shape) → AreAmong (tokens_of s) (tokens_in (holders s))
holders_among s = All-weaker (λ t. is_among (tokens_in (holders s)) t ≡ true) (λ t. is_among (tokens_of s) t ≡ true)
    (λ t is. among_distinct (tokens_in (holders s)) t ∙ is) (tokens_in (holders s)) (all_among (tokens_in (holders s)))

pub arrive-shape : (code : Code) (p : Point) (s : Scene) → IsScene s → IsShape (arrive code p s).shape
arrive-shape code p s h =
    let kept = kept_shape code p s in
    let ts = tokens_of kept in
    let g = place_in ts in
    let a = renumber kept in
    let count : length a.made ≡ length ts = length-map ts (λ t. is_made kept t && holds_token (anchors kept) t) in
    let P : ℕ → Type 0 = λ t. t < length a.made in
    record {
      tokens = All-append P (tokens_in (holders a)) (bases_in a.slots)
          (subst (All P) (sym (ap tokens_in (holders_renamed g kept a.made) ∙ tokens_renamed g (holders kept)))
          (numbered ts (tokens_in (holders kept)) (length a.made) count (holders_among kept)))
          (subst (All P) (sym (bases_renamed g kept.slots))
          (numbered ts (bases_in kept.slots) (length a.made) count (bases_kept code p s)));
      made = count ∙ sym (arrived_tokens kept);
    }

-- ---- rows

-- one row for each coordinate: width_of, as a sum
pub arrive-rows : (code : Code) (p : Point) (s : Scene) → IsScene s
    → length (arrive code p s).rows
    ≡ 1 + count_of_numbers (arrive code p s).shape.vars + one_if (is_number (arrive code p s).shape.returned)
    + count_of_numbers (arrive code p s).shape.entry + length (tokens_of (arrive code p s).shape)
arrive-rows code p s h =
    let kept = kept_shape code p s in
    let ts = tokens_of kept in
    let g = place_in ts in
    let vars = numbers_kept kept.vars s.vars in
    let returned = numbers_kept (kept.returned ∷ []) (s.returned ∷ []) in
    let entry = numbers_kept kept.entry s.entry in
    let all = length_rows (unit s.width 0) vars returned entry (map (balance_at s) ts) in
    let in_vars = length_kept kept.vars s.vars (h.vars ∙ sym (trimmed-vars code p s.shape)) in
    let in_returned = length_kept (kept.returned ∷ []) (s.returned ∷ []) refl in
    let one = count_cons kept.returned [] in
    let in_entry = length_kept kept.entry s.entry h.entry in
    let balances = length-map ts (balance_at s) in
    let of_vars = count_renamed g kept.vars in
    let of_returned : one_if (is_number (renumber kept).returned) ≡ one_if (is_number kept.returned) =
    ap one_if (number_renamed g kept.returned)
    in
    let of_entry = count_renamed g kept.entry in
    let of_tokens = arrived_tokens kept in
    omega (arith, all, in_vars, in_returned, one, in_entry, balances, of_vars, of_returned, of_entry, of_tokens)

pub arrive-widths : (code : Code) (p : Point) (s : Scene) → IsScene s → All (HasWidth s.width) (arrive code p s).rows
arrive-widths code p s h =
    let kept = kept_shape code p s in
    let ts = tokens_of kept in
    let P = HasWidth s.width in
    let vars = numbers_kept kept.vars s.vars in
    let returned = numbers_kept (kept.returned ∷ []) (s.returned ∷ []) in
    let entry = numbers_kept kept.entry s.entry in
    let balances = map (balance_at s) ts in
    All-cons P (unit s.width 0) (vars ++ (returned ++ (entry ++ balances))) (length_unit s.width 0)
    (All-append P vars (returned ++ (entry ++ balances)) (all_kept_forms P kept.vars s.vars h.var_widths)
    (All-append P returned (entry ++ balances) (all_kept_forms P (kept.returned ∷ []) (s.returned ∷ [])
    (All-cons P s.returned [] h.returned_width (All-nil P)))
    (All-append P entry balances (all_kept_forms P kept.entry s.entry h.entry_widths)
    (All-map P (balance_at s) ts
    (λ k d lt. balance_is P s.width s.balances _ (length-replicate s.width (pos 0)) h.balance_widths)))))

-- ---- balances that are dropped

pub arrive-drop_widths : (code : Code) (p : Point) (s : Scene) → IsScene s
    → All (HasWidth s.width) (arrive code p s).drops
arrive-drop_widths code p s h =
    all_dropped (HasWidth s.width) s.width (tokens_of (kept_shape code p s)) 0 s.balances h.balance_widths

pub arrive-drops : (code : Code) (p : Point) (s : Scene) (n : ℕ) → HasBalances n s
    → All (λ f. All (IsWithin n) f) (arrive code p s).drops
arrive-drops code p s n h =
    all_dropped (λ f. All (IsWithin n) f) s.width (tokens_of (kept_shape code p s)) 0 s.balances h
