-- What is kept of a scene at a point, before tokens are numbered anew.
--   Trimmed code p n hs     variables, of which those from number n on stand here, without those that are no holders
--   Passes p x, IsPut P es  an entry of slots that were put in order is as it should be
use Rattle.std.proofs.Common.{◌≡◌, ℕ, zero, suc, ◌+◌, List, [], ◌∷◌, length, map, get_or, Bool, true}
use Rattle.std.proofs.Common.{false, refl, sym, ap, ◌∙◌, subst, arith, cond}
use Rattle.std.specs.List.{All, AllPairs, enumerate_from, filter}
use Rattle.std.specs.FinMap.{put}
use Rattle.std.specs.FinMap.Entries.{by_order}
use Rattle.std.specs.Ordering.{nat_cmp}
use Rattle.std.specs.Cmp.Lexicographic.{slice_cmp}
use Rattle.std.specs.declared.cmp.Ordering.{Ordering}
use Rattle.std.specs.declared.cmp.Ordering.TheVariants.{Less, Equal, Greater}
use Rattle.std.proofs.lemmas.List.{length-map}
use Rattle.std.proofs.lemmas.List.Elements.{All-cons, All-nil, All-head, All-tail, All-map}
use Rattle.std.proofs.lemmas.List.FromFn.{length-enumerate_from}
use Rattle.std.proofs.lemmas.List.Kept.{AllPairs-cons, AllPairs-filter}
use Rattle.pungi_code.specs.declared.code.Code.{Code}
use Rattle.pungi_shape.specs.declared.holding.Holding.{Holding}
use Rattle.pungi_shape.specs.declared.holding.Holding.TheVariants.{Dead, Unset}
use Rattle.pungi_shape.specs.declared.point.Point.{Point}
use Rattle.pungi_shape.specs.declared.shape.Shape.{Shape}
use Rattle.pungi_shape.specs.declared.tracked.Tracked.{Tracked}
use Rattle.pungi_shape.specs.Liveness.{is_holder}
use Rattle.pungi_shape.specs.Arrivals.{is_kept, put_slots, slots_in_order, slot_key}

-- ---- variables

abbrev pub Trimmed : Code → Point → ℕ → List Holding → List Holding
Trimmed code p n hs = map (λ x. cond (is_holder code p x.0) x.1 Dead) (enumerate_from n hs)

pub trim_length : (code : Code) (p : Point) (n : ℕ) (hs : List Holding) → length (Trimmed code p n hs) ≡ length hs
trim_length code p n hs =
    length-map (enumerate_from n hs) (λ x. cond (is_holder code p x.0) x.1 Dead) ∙ length-enumerate_from n hs

pub trim_cases : (P : Holding → Type 0) (code : Code) (p : Point) (n : ℕ) (hs : List Holding) (x m : ℕ) → n + x ≡ m
    → P (get_or hs x Unset) → (is_holder code p m ≡ false → P Dead) → P (get_or (Trimmed code p n hs) x Unset)
trim_cases P code p n [] x m e is dead = is
trim_cases P code p n (h ∷ hs) zero m e is dead = at (is_holder code p n) refl
  where
    at : (b : Bool) → is_holder code p n ≡ b → P (cond (is_holder code p n) h Dead)
    at true t = subst (λ b. P (cond b h Dead)) (sym t) is
    at false t = subst (λ b. P (cond b h Dead)) (sym t)
        (dead (ap (is_holder code p) (let z : m ≡ n = omega (arith, e) in z) ∙ t))
trim_cases P code p n (h ∷ hs) (suc x) m e is dead =
    trim_cases P code p (n + 1) hs x m (omega (arith, e)) is dead

pub trim_kept : (code : Code) (p : Point) (n : ℕ) (hs : List Holding) (x m : ℕ) → n + x ≡ m
    → is_holder code p m ≡ true → get_or (Trimmed code p n hs) x Unset ≡ get_or hs x Unset
trim_kept code p n [] x m e is = refl
trim_kept code p n (h ∷ hs) zero m e is =
    ap (λ b. cond b h Dead) (ap (is_holder code p) (let z : n ≡ m = omega (arith, e) in z) ∙ is)
trim_kept code p n (h ∷ hs) (suc x) m e is = trim_kept code p (n + 1) hs x m (omega (arith, e)) is

pub trim_all : (P : Holding → Type 0) (code : Code) (p : Point) (n : ℕ) (hs : List Holding) → P Dead → All P hs
    → All P (Trimmed code p n hs)
trim_all P code p n [] dead all = All-nil P
trim_all P code p n (h ∷ hs) dead all = All-cons P (cond (is_holder code p n) h Dead) (Trimmed code p (n + 1) hs)
    (at (is_holder code p n)) (trim_all P code p (n + 1) hs dead (All-tail P h hs all))
  where
    at : (b : Bool) → P (cond b h Dead)
    at true = All-head P h hs all
    at false = dead

-- ---- slots

pub All_passes : {X : Type 0} (P : X → Type 0) (p : X → Bool) (xs : List X) → ((x : X) → p x ≡ true → P x)
    → All P (filter p xs)
All_passes P p [] step = All-nil P
All_passes {X} P p (x ∷ xs) step = at (p x) refl (All_passes P p xs step)
  where
    at : (b : Bool) → p x ≡ b → All P (filter p xs) → All P (cond (p x) (x ∷ filter p xs) (filter p xs))
    at true is rest = subst (λ b. All P (cond b (x ∷ filter p xs) (filter p xs))) (sym is)
        (All-cons P x (filter p xs) (step x is) rest)
    at false is rest = subst (λ b. All P (cond b (x ∷ filter p xs) (filter p xs))) (sym is) rest

pub All_filtered : {X : Type 0} (P : X → Type 0) (p : X → Bool) (xs : List X) → All P xs → All P (filter p xs)
All_filtered P p [] all = All-nil P
All_filtered {X} P p (x ∷ xs) all = at (p x) (All_filtered P p xs (All-tail P x xs all))
  where
    at : (b : Bool) → All P (filter p xs) → All P (cond b (x ∷ filter p xs) (filter p xs))
    at true rest = All-cons P x (filter p xs) (All-head P x xs all) rest
    at false rest = rest

abbrev pub Entry : Type 0
Entry = List ℕ × Tracked

abbrev pub IsPut : (Tracked → Type 0) → Entry → Type 0
IsPut P e = P e.1

all_put : (P : Tracked → Type 0) (k : List ℕ) (r : Tracked) (es : List Entry) → P r → All (IsPut P) es
    → All (IsPut P) (put (slice_cmp nat_cmp) k r es)
all_put P k r [] is all = All-cons (IsPut P) (k, r) [] is all
all_put P k r (e ∷ es) is all =
    at (slice_cmp nat_cmp k e.0) (all_put P k r es is (All-tail (IsPut P) e es all))
  where
    at : (o : Ordering) → All (IsPut P) (put (slice_cmp nat_cmp) k r es)
        → All (IsPut P) (by_order o ((k, r) ∷ e ∷ es) ((e.0, r) ∷ es) (e ∷ put (slice_cmp nat_cmp) k r es))
    at Less rest = All-cons (IsPut P) (k, r) (e ∷ es) is all
    at Equal rest = All-cons (IsPut P) (e.0, r) es is (All-tail (IsPut P) e es all)
    at Greater rest = All-cons (IsPut P) e (put (slice_cmp nat_cmp) k r es) (All-head (IsPut P) e es all) rest

all_put_slots : (P : Tracked → Type 0) (s : Shape) (rs : List Tracked) → All P rs → All (IsPut P) (put_slots s rs)
all_put_slots P s [] all = All-nil (IsPut P)
all_put_slots P s (r ∷ rs) all = all_put P (slot_key s r) r (put_slots s rs) (All-head P r rs all)
    (all_put_slots P s rs (All-tail P r rs all))

-- what holds of each slot that is tracked, and kept, holds of each one that is kept
pub all_in_order : (P : Tracked → Type 0) (s : Shape) → All P s.slots → All P (slots_in_order s)
all_in_order P s all = All-map P (λ e. e.1) (put_slots s (filter (is_kept s) s.slots))
    (all_put_slots P s (filter (is_kept s) s.slots) (All_filtered P (is_kept s) s.slots all))

pub all_kept : (P : Tracked → Type 0) (s : Shape) → ((r : Tracked) → is_kept s r ≡ true → P r)
    → All P (slots_in_order s)
all_kept P s step = All-map P (λ e. e.1) (put_slots s (filter (is_kept s) s.slots))
    (all_put_slots P s (filter (is_kept s) s.slots) (All_passes P (is_kept s) s.slots step))

-- ---- pairs of slots

abbrev pub Pairs : {X : Type 0} → (X → X → Type 0) → List X → Type 0
Pairs R [] = Unit {0}
Pairs R (x ∷ xs) = All (R x) xs × Pairs R xs

pub pairs_of : {X : Type 0} (R : X → X → Type 0) (xs : List X) → AllPairs R xs → Pairs R xs
pairs_of R [] all = tt
pairs_of R (x ∷ xs) all = (
  λ k d lt. all 0 (suc k) d (omega arith) (omega (arith, lt)),
  pairs_of R xs (λ i j d lt in_j. all (suc i) (suc j) d (omega (arith, lt)) (omega (arith, in_j))),
)

pub all_pairs : {X : Type 0} (R : X → X → Type 0) (xs : List X) → Pairs R xs → AllPairs R xs
all_pairs R [] pairs = λ i j d lt in_j. absurd (omega (arith, in_j))
all_pairs R (x ∷ xs) pairs = AllPairs-cons R x xs pairs.0 (all_pairs R xs pairs.1)

abbrev EntriesAre : (Tracked → Tracked → Type 0) → Entry → Entry → Type 0
EntriesAre R e f = R e.1 f.1

pairs_put : (R : Tracked → Tracked → Type 0) → ((q r : Tracked) → R q r → R r q) → (k : List ℕ) (r : Tracked)
    (es : List Entry) → All (IsPut (R r)) es → Pairs (EntriesAre R) es
    → Pairs (EntriesAre R) (put (slice_cmp nat_cmp) k r es)
pairs_put R symmetric k r [] all pairs = (all, tt)
pairs_put R symmetric k r (e ∷ es) all pairs = at (slice_cmp nat_cmp k e.0)
    (pairs_put R symmetric k r es (All-tail (IsPut (R r)) e es all) pairs.1)
  where
    at : (o : Ordering) → Pairs (EntriesAre R) (put (slice_cmp nat_cmp) k r es)
        → Pairs (EntriesAre R) (by_order o ((k, r) ∷ e ∷ es) ((e.0, r) ∷ es) (e ∷ put (slice_cmp nat_cmp) k r es))
    at Less rest = (all, pairs)
    at Equal rest = (All-tail (IsPut (R r)) e es all, pairs.1)
    at Greater rest = (all_put (R e.1) k r es (symmetric r e.1 (All-head (IsPut (R r)) e es all)) pairs.0, rest)

pairs_put_slots : (R : Tracked → Tracked → Type 0) → ((q r : Tracked) → R q r → R r q) → (s : Shape)
    (rs : List Tracked) → Pairs R rs → Pairs (EntriesAre R) (put_slots s rs)
pairs_put_slots R symmetric s [] pairs = tt
pairs_put_slots R symmetric s (r ∷ rs) pairs = pairs_put R symmetric (slot_key s r) r (put_slots s rs)
    (all_put_slots (R r) s rs pairs.0) (pairs_put_slots R symmetric s rs pairs.1)

pairs_map : {X Y : Type 0} (R : Y → Y → Type 0) (f : X → Y) (xs : List X) → Pairs (λ x y. R (f x) (f y)) xs
    → Pairs R (map f xs)
pairs_map R f [] pairs = tt
pairs_map R f (x ∷ xs) pairs = (All-map (R (f x)) f xs pairs.0, pairs_map R f xs pairs.1)

pub pairs_in_order : (R : Tracked → Tracked → Type 0) → ((q r : Tracked) → R q r → R r q) → (s : Shape)
    → AllPairs R s.slots → AllPairs R (slots_in_order s)
pairs_in_order R symmetric s all =
    let kept = filter (is_kept s) s.slots in
    all_pairs R (slots_in_order s) (pairs_map R (λ e. e.1) (put_slots s kept) (pairs_put_slots R symmetric s kept
    (pairs_of R kept (AllPairs-filter R (is_kept s) s.slots all))))
