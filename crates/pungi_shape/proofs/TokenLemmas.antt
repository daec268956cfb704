-- Tokens below a number.
--   IsSpotBelow n p         the base of a slot is below n
--   IsTrackedBelow n r      so is the token that it holds
--   HasTokens n s           so are all tokens of a shape, holder by holder
use Rattle.std.proofs.Common.{ℕ, ◌<◌, List, [], ◌∷◌, ◌++◌, length, map}
use Rattle.std.proofs.Common.{◌==◌, Bool, true, false, ℤ, pos, negsuc, Option, Some, if◌then◌else◌, subst, sym, inl}
use Rattle.std.proofs.Common.{inr}
use Rattle.std.specs.List.{All}
use Rattle.std.specs.Map.{lookup}
use Rattle.pungi_world.specs.Choices.{is_between}
use Rattle.pungi_code.specs.declared.atom.Atom.{Atom}
use Rattle.pungi_code.specs.declared.atom.Atom.TheVariants as atom
use Rattle.std.proofs.lemmas.Bool.{cases_lt}
use Rattle.std.proofs.lemmas.List.Elements.{All-append, All-cons, All-get_or, All-head, All-nil, All-tail}
use Rattle.std.proofs.Math.ListN.{get_or-eq_default}
use Rattle.pungi_shape.specs.declared.holding.Holding.{Holding}
use Rattle.pungi_shape.specs.declared.holding.Holding.TheVariants.{Dead, Unset, Null, Text, Known, Number, Token}
use Rattle.pungi_shape.specs.declared.shape.Shape.{Shape}
use Rattle.pungi_shape.specs.declared.tracked.Spot.{Spot}
use Rattle.pungi_shape.specs.declared.tracked.Spot.TheVariants.{Global, Field}
use Rattle.pungi_shape.specs.declared.tracked.Tracked.{Tracked}
use Rattle.pungi_shape.specs.Bounds.{AreTokens, IsBelow, IsHeld, IsScene, base_in, bases_in}
use Rattle.pungi_shape.specs.Scenes.{Scene, holding_at, holding_of, or_unset}
use Rattle.pungi_shape.specs.Shapes.{before_slots, holders, holding_of_slot, holding_of_static, token_in, tokens_in}

-- ---- parts of lists

pub all-left : {X : Type 0} (P : X → Type 0) (xs ys : List X) → All P (xs ++ ys) → All P xs
all-left P [] ys h = All-nil P
all-left P (x ∷ xs) ys h =
    All-cons P x xs (All-head P x (xs ++ ys) h) (all-left P xs ys (All-tail P x (xs ++ ys) h))

pub all-right : {X : Type 0} (P : X → Type 0) (xs ys : List X) → All P (xs ++ ys) → All P ys
all-right P [] ys h = h
all-right P (x ∷ xs) ys h = all-right P xs ys (All-tail P x (xs ++ ys) h)

-- ---- holdings

pub below-token : (n : ℕ) (h : Holding) → All (λ t. t < n) (token_in h) → IsBelow n h
below-token n (Token t) k = All-head (λ t. t < n) t [] k
below-token n Dead k = tt
below-token n Unset k = tt
below-token n Null k = tt
below-token n Text k = tt
below-token n (Known m) k = tt
below-token n Number k = tt

pub token-below : (n : ℕ) (h : Holding) → IsBelow n h → All (λ t. t < n) (token_in h)
token-below n (Token t) k = All-cons (λ t. t < n) t [] k (All-nil (λ t. t < n))
token-below n Dead k = All-nil (λ t. t < n)
token-below n Unset k = All-nil (λ t. t < n)
token-below n Null k = All-nil (λ t. t < n)
token-below n Text k = All-nil (λ t. t < n)
token-below n (Known m) k = All-nil (λ t. t < n)
token-below n Number k = All-nil (λ t. t < n)

pub below-tokens : (n : ℕ) (hs : List Holding) → All (λ t. t < n) (tokens_in hs) → All (IsBelow n) hs
below-tokens n [] k = All-nil (IsBelow n)
below-tokens n (h ∷ hs) k =
    All-cons (IsBelow n) h hs (below-token n h (all-left (λ t. t < n) (token_in h) (tokens_in hs) k))
    (below-tokens n hs (all-right (λ t. t < n) (token_in h) (tokens_in hs) k))

pub tokens-below : (n : ℕ) (hs : List Holding) → All (IsBelow n) hs → All (λ t. t < n) (tokens_in hs)
tokens-below n [] k = All-nil (λ t. t < n)
tokens-below n (h ∷ hs) k =
    All-append (λ t. t < n) (token_in h) (tokens_in hs) (token-below n h (All-head (IsBelow n) h hs k))
    (tokens-below n hs (All-tail (IsBelow n) h hs k))

-- ---- shapes

abbrev pub IsSpotBelow : ℕ → Spot → Type 0
IsSpotBelow n (Global name) = Unit {0}
IsSpotBelow n (Field b tag field) = b < n

pub record IsTrackedBelow (n : ℕ) (r : Tracked) : Type 0 where
  pub held : IsBelow n r.held
  pub base : IsSpotBelow n r.spot

pub record HasTokens (n : ℕ) (s : Shape) : Type 0 where
  pub entry : All (IsBelow n) s.entry
  pub vars : All (IsBelow n) s.vars
  pub statics : All (λ k. IsBelow n k.1) s.statics
  pub returned : IsBelow n s.returned
  pub slots : All (IsTrackedBelow n) s.slots

spot_below : (n : ℕ) (p : Spot) → All (λ t. t < n) (base_in p) → IsSpotBelow n p
spot_below n (Global name) k = tt
spot_below n (Field b tag field) k = All-head (λ t. t < n) b [] k

base_below : (n : ℕ) (p : Spot) → IsSpotBelow n p → All (λ t. t < n) (base_in p)
base_below n (Global name) k = All-nil (λ t. t < n)
base_below n (Field b tag field) k = All-cons (λ t. t < n) b [] k (All-nil (λ t. t < n))

statics_below : (n : ℕ) (ks : List (ℕ × Holding)) → All (IsBelow n) (map holding_of_static ks)
    → All (λ k. IsBelow n k.1) ks
statics_below n [] h = All-nil (λ k. IsBelow n k.1)
statics_below n (k ∷ ks) h =
    All-cons (λ k. IsBelow n k.1) k ks (All-head (IsBelow n) k.1 (map holding_of_static ks) h)
    (statics_below n ks (All-tail (IsBelow n) k.1 (map holding_of_static ks) h))

below_statics : (n : ℕ) (ks : List (ℕ × Holding)) → All (λ k. IsBelow n k.1) ks
    → All (IsBelow n) (map holding_of_static ks)
below_statics n [] h = All-nil (IsBelow n)
below_statics n (k ∷ ks) h =
    All-cons (IsBelow n) k.1 (map holding_of_static ks) (All-head (λ k. IsBelow n k.1) k ks h)
    (below_statics n ks (All-tail (λ k. IsBelow n k.1) k ks h))

slots_below : (n : ℕ) (rs : List Tracked) → All (IsBelow n) (map holding_of_slot rs)
    → All (λ t. t < n) (bases_in rs) → All (IsTrackedBelow n) rs
slots_below n [] h k = All-nil (IsTrackedBelow n)
slots_below n (r ∷ rs) h k =
    All-cons (IsTrackedBelow n) r rs (record {
      held = All-head (IsBelow n) r.held (map holding_of_slot rs) h;
      base = spot_below n r.spot (all-left (λ t. t < n) (base_in r.spot) (bases_in rs) k);
    })
    (slots_below n rs (All-tail (IsBelow n) r.held (map holding_of_slot rs) h)
    (all-right (λ t. t < n) (base_in r.spot) (bases_in rs) k))

below_held : (n : ℕ) (rs : List Tracked) → All (IsTrackedBelow n) rs → All (IsBelow n) (map holding_of_slot rs)
below_held n [] h = All-nil (IsBelow n)
below_held n (r ∷ rs) h =
    All-cons (IsBelow n) r.held (map holding_of_slot rs) (All-head (IsTrackedBelow n) r rs h).held
    (below_held n rs (All-tail (IsTrackedBelow n) r rs h))

below_bases : (n : ℕ) (rs : List Tracked) → All (IsTrackedBelow n) rs → All (λ t. t < n) (bases_in rs)
below_bases n [] h = All-nil (λ t. t < n)
below_bases n (r ∷ rs) h =
    All-append (λ t. t < n) (base_in r.spot) (bases_in rs)
    (base_below n r.spot (All-head (IsTrackedBelow n) r rs h).base)
    (below_bases n rs (All-tail (IsTrackedBelow n) r rs h))

pub tokens-apart : (n : ℕ) (s : Shape) → AreTokens n s → HasTokens n s
tokens-apart n s h =
    let P : ℕ → Type 0 = λ t. t < n in
    let held : All (IsBelow n) (holders s) =
    below-tokens n (holders s) (all-left P (tokens_in (holders s)) (bases_in s.slots) h) in
    let bases : All P (bases_in s.slots) = all-right P (tokens_in (holders s)) (bases_in s.slots) h in
    let Q : Holding → Type 0 = IsBelow n in
    let before : All Q (before_slots s) = all-left Q (before_slots s) (map holding_of_slot s.slots) held in
    let slots : All Q (map holding_of_slot s.slots) = all-right Q (before_slots s) (map holding_of_slot s.slots) held in
    let after_entry : All Q (s.vars ++ (map holding_of_static s.statics ++ s.returned ∷ [])) =
    all-right Q s.entry (s.vars ++ (map holding_of_static s.statics ++ s.returned ∷ [])) before in
    let after_vars : All Q (map holding_of_static s.statics ++ s.returned ∷ []) =
    all-right Q s.vars (map holding_of_static s.statics ++ s.returned ∷ []) after_entry in
    record {
      entry = all-left Q s.entry (s.vars ++ (map holding_of_static s.statics ++ s.returned ∷ [])) before;
      vars = all-left Q s.vars (map holding_of_static s.statics ++ s.returned ∷ []) after_entry;
      statics = statics_below n s.statics
          (all-left Q (map holding_of_static s.statics) (s.returned ∷ []) after_vars);
      returned = All-head Q s.returned []
          (all-right Q (map holding_of_static s.statics) (s.returned ∷ []) after_vars);
      slots = slots_below n s.slots slots bases;
    }

pub tokens-together : (n : ℕ) (s : Shape) → HasTokens n s → AreTokens n s
tokens-together n s h =
    let P : ℕ → Type 0 = λ t. t < n in
    let Q : Holding → Type 0 = IsBelow n in
    All-append P (tokens_in (holders s)) (bases_in s.slots)
    (tokens-below n (holders s) (All-append Q (before_slots s) (map holding_of_slot s.slots)
    (All-append Q s.entry (s.vars ++ (map holding_of_static s.statics ++ s.returned ∷ [])) h.entry
    (All-append Q s.vars (map holding_of_static s.statics ++ s.returned ∷ []) h.vars
    (All-append Q (map holding_of_static s.statics) (s.returned ∷ []) (below_statics n s.statics h.statics)
    (All-cons Q s.returned [] h.returned (All-nil Q)))))
    (below_held n s.slots h.slots)))
    (below_bases n s.slots h.slots)

-- ---- what an atom is

chosen_below : (n : ℕ) (b : Bool) (h : Holding) (o : Option Holding) → IsBelow n h → IsBelow n (or_unset o)
    → IsBelow n (or_unset (if b then Some h else o))
chosen_below n true h o k l = k
chosen_below n false h o k l = l

or_unset-below : (n : ℕ) (ks : List (ℕ × Holding)) (k : ℕ) → All (λ e. IsBelow n e.1) ks
    → IsBelow n (or_unset (lookup (λ j. j == k) ks))
or_unset-below n [] k h = tt
or_unset-below n (e ∷ ks) k h =
    chosen_below n (e.0 == k) e.1 (lookup (λ j. j == k) ks) (All-head (λ e. IsBelow n e.1) e ks h)
    (or_unset-below n ks k (All-tail (λ e. IsBelow n e.1) e ks h))

pub holding_at-held : (s : Scene) (x : ℕ) → IsScene s → IsHeld s (holding_at s x)
holding_at-held s x h =
    let n = length s.shape.made in
    let P : Holding → Type 0 = IsBelow n in
    elim (cases_lt x (length s.shape.vars)) [
      | inl lt ↦ All-get_or P s.shape.vars x Unset lt (tokens-apart n s.shape h.tokens).vars
      | inr le ↦ subst P (sym (get_or-eq_default s.shape.vars Unset le)) tt
    ]

number_held : (n : ℕ) (b : Bool) (m : ℤ) → IsBelow n (if b then Known m else Number)
number_held n true m = tt
number_held n false m = tt

pub holding_of-held : (s : Scene) (a : Atom) → IsScene s → IsHeld s (holding_of s a)
holding_of-held s (atom.Var x) h = holding_at-held s x.0 h
holding_of-held s (atom.Int m) h =
    number_held (length s.shape.made) (is_between (negsuc 0) (pos 1) m) m
holding_of-held s atom.Null h = tt
holding_of-held s atom.Text h = tt
holding_of-held s (atom.Static k) h =
    or_unset-below (length s.shape.made) s.shape.statics k
    (tokens-apart (length s.shape.made) s.shape h.tokens).statics
