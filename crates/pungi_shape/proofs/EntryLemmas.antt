-- The shapes at entries, and the scene at one.
--   AreValues t ps hs       what parameters of these kinds may hold: as many values, with the tokens from t on
use Rattle.std.proofs.Common.{◌≡◌, ◌∙◌, ℕ, suc, ◌+◌, ◌-◌, ◌<◌, ◌≤◌, Bool, true, false, List, [], ◌∷◌, ◌++◌, length, map}
use Rattle.std.proofs.Common.{replicate, take, get_or, refl, sym, ap, subst, arith, cond, inl, inr, Some}
use Rattle.std.specs.List.{All, enumerate_from, range_with_len}
use Rattle.std.proofs.lemmas.Bool.{cases_lt}
use Rattle.std.proofs.lemmas.List.{length-append, length-map, length-replicate, length-take}
use Rattle.std.proofs.lemmas.List.Elements.{All-append, All-cons, All-map, All-nil, All-replicate, All-weaker}
use Rattle.std.proofs.lemmas.List.FromFn.{length-enumerate_from}
use Rattle.pungi_api.specs.declared.param.Param.{Param}
use Rattle.pungi_domain.specs.Vectors.{IsWithin}
use Rattle.pungi_code.specs.declared.code.Code.{Code}
use Rattle.pungi_code.specs.WellFormed.{is_integer, is_object}
use Rattle.pungi_shape.specs.declared.holding.Holding.{Holding}
use Rattle.pungi_shape.specs.declared.holding.Holding.TheVariants.{Dead, Unset, Null, Text, Number, Token}
use Rattle.pungi_shape.specs.declared.shape.Shape.{Shape}
use Rattle.pungi_shape.specs.Bounds.{AreTokens, HasBalances, HasWidth, IsBelow, IsCodeOfFile, IsScene, IsShape}
use Rattle.pungi_shape.specs.Bounds.{bases_in}
use Rattle.pungi_shape.specs.Edges.{entry_scene}
use Rattle.pungi_shape.specs.Forms.{zero_form}
use Rattle.pungi_shape.specs.Liveness.{is_among, is_holder}
use Rattle.pungi_shape.specs.Places.{entry_shape, entry_shapes, entry_width, first_point, tokens_from, values_at_entry}
use Rattle.pungi_shape.specs.Places.{with_first}
use Rattle.pungi_shape.specs.Reached.{IsShapeOf, names_in}
use Rattle.pungi_shape.specs.Scenes.{form_or, number_forms}
use Rattle.pungi_shape.specs.Shapes.{holders, holding_of_static, token_in, tokens_in}
use Rattle.pungi_shape.proofs.BalanceLemmas.{zero_within}
use Rattle.pungi_shape.proofs.NextLemmas.{trim-all}
use Rattle.pungi_shape.proofs.NumberedLemmas.{tokens_in-append}
use Rattle.pungi_shape.proofs.OnceLemmas.{among_left, among_range, among_right, distinct-count, range_below}
use Rattle.pungi_shape.proofs.SceneLemmas.{numbers_length, numbers_width, zero_width}
use Rattle.pungi_shape.proofs.TokenLemmas.{HasTokens, IsTrackedBelow, all-left, below-tokens, tokens-together}

pub entry_scene-scene : (code : Code) (s : Shape) → IsCodeOfFile code → IsShapeOf code s → IsScene (entry_scene s)
entry_scene-scene code s h is =
    let w = entry_width s in
    let rest = length s.vars - length s.entry in
    let all = length-append (number_forms w 1 s.entry) (replicate rest (zero_form w)) in
    let first = numbers_length w 1 s.entry in
    let last = length-replicate rest (zero_form w) in
    record {
      vars = omega (arith, all, first, last, is.entry, is.vars, h.well_formed.among, h.well_formed.locals);
      entry = first;
      balances = length-replicate (length s.made) (Some (zero_form w));
      var_widths = All-append (HasWidth w) (number_forms w 1 s.entry) (replicate rest (zero_form w))
          (numbers_width w 1 s.entry) (All-replicate (HasWidth w) rest (zero_form w) (zero_width w));
      returned_width = zero_width w;
      entry_widths = numbers_width w 1 s.entry;
      balance_widths = All-replicate (λ o. HasWidth w (form_or w o)) (length s.made) (Some (zero_form w))
          (zero_width w);
      tokens = is.shape.tokens;
    }

pub entry_scene-balances : (n : ℕ) (s : Shape) → HasBalances n (entry_scene s)
entry_scene-balances n s =
    let w = entry_width s in
    All-replicate (λ o. All (IsWithin n) (form_or w o)) (length s.made) (Some (zero_form w)) (zero_within w n)

-- ---- values

pub record AreValues (t : ℕ) (ps : List Param) (hs : List Holding) : Type 0 where
  pub long : length hs ≡ length ps
  pub tokens : tokens_in hs ≡ range_with_len t (length (tokens_in hs))

all_first : (t : ℕ) (p : Param) (ps : List Param) (h : Holding) (ls : List (List Holding)) → token_in h ≡ []
    → All (AreValues t ps) ls → All (AreValues t (p ∷ ps)) (with_first h ls)
all_first t p ps h ls none all = All-map (AreValues t (p ∷ ps)) (λ hs. h ∷ hs) ls (λ i d lt.
    let v = all i d lt in
    let same = ap (λ ts. ts ++ tokens_in (get_or ls i d)) none in
    record {
      long = ap suc v.long;
      tokens = same ∙ v.tokens ∙ ap (λ ts. range_with_len t (length ts)) (sym same);
    })

all_token : (t : ℕ) (p : Param) (ps : List Param) (ls : List (List Holding)) → All (AreValues (t + 1) ps) ls
    → All (AreValues t (p ∷ ps)) (with_first (Token t) ls)
all_token t p ps ls all = All-map (AreValues t (p ∷ ps)) (λ hs. Token t ∷ hs) ls (λ i d lt.
    let v = all i d lt in
    record { long = ap suc v.long; tokens = ap (λ ts. t ∷ ts) v.tokens })

values-by : (t : ℕ) (p : Param) (ps : List Param) (object integer : Bool) → All (AreValues t ps) (values_at_entry t ps)
    → All (AreValues (t + 1) ps) (values_at_entry (t + 1) ps)
    → All (AreValues t (p ∷ ps)) (cond integer (with_first Number (values_at_entry t ps))
    (cond object (with_first Null (values_at_entry t ps) ++ with_first (Token t) (values_at_entry (t + 1) ps))
    (with_first Null (values_at_entry t ps) ++ with_first Text (values_at_entry t ps))))
values-by t p ps object true here later = all_first t p ps Number (values_at_entry t ps) refl here
values-by t p ps true false here later =
    All-append (AreValues t (p ∷ ps)) (with_first Null (values_at_entry t ps))
    (with_first (Token t) (values_at_entry (t + 1) ps)) (all_first t p ps Null (values_at_entry t ps) refl here)
    (all_token t p ps (values_at_entry (t + 1) ps) later)
values-by t p ps false false here later =
    All-append (AreValues t (p ∷ ps)) (with_first Null (values_at_entry t ps)) (with_first Text (values_at_entry t ps))
    (all_first t p ps Null (values_at_entry t ps) refl here) (all_first t p ps Text (values_at_entry t ps) refl here)

values-fit : (t : ℕ) (ps : List Param) → All (AreValues t ps) (values_at_entry t ps)
values-fit t [] = All-cons (AreValues t []) [] [] (record { long = refl; tokens = refl }) (All-nil (AreValues t []))
values-fit t (p ∷ ps) =
    values-by t p ps (is_object p) (is_integer p) (values-fit t ps) (values-fit (t + 1) ps)

tokens_few : (hs : List Holding) → length (tokens_in hs) ≤ length hs
tokens_few [] = omega arith
tokens_few (h ∷ hs) =
    let all = length-append (token_in h) (tokens_in hs) in
    let one = token_few h in
    let rest = tokens_few hs in
    omega (arith, all, one, rest)
  where
    token_few : (k : Holding) → length (token_in k) ≤ 1
    token_few (Token t) = omega arith
    token_few k = omega arith

-- ---- static objects

statics_names : (t : ℕ) (ks : List ℕ) → map (λ (k : ℕ × Holding). k.0) (tokens_from t ks) ≡ ks
statics_names t [] = refl
statics_names t (k ∷ ks) = ap (λ (l : List ℕ). k ∷ l) (statics_names (t + 1) ks)

statics_tokens : (t : ℕ) (ks : List ℕ)
    → tokens_in (map holding_of_static (tokens_from t ks)) ≡ range_with_len t (length ks)
statics_tokens t [] = refl
statics_tokens t (k ∷ ks) = ap (λ (l : List ℕ). t ∷ l) (statics_tokens (t + 1) ks)

statics_fit : (n t : ℕ) (ks : List ℕ) → t + length ks ≤ n → All (λ k. IsBelow n k.1) (tokens_from t ks)
statics_fit n t [] le = All-nil (λ k. IsBelow n k.1)
statics_fit n t (k ∷ ks) le =
    All-cons (λ k. IsBelow n k.1) (k, Token t) (tokens_from (t + 1) ks) (omega (arith, le))
    (statics_fit n (t + 1) ks (omega (arith, le)))

-- ---- the shape at an entry

module _ (ks : List ℕ) (code : Code) (hs : List Holding)
    (fits : AreValues 0 (take code.params code.vars) hs) where
  abbrev shape : Shape
  shape = entry_shape ks code hs

  abbrev own : ℕ
  own = length (tokens_in hs)

  abbrev all : ℕ
  all = own + length ks

  abbrev unset : List Holding
  unset = replicate (length code.vars - length hs) Unset

  made_long : length shape.made ≡ all
  made_long = length-replicate all false

  values_below : All (IsBelow all) hs
  values_below = below-tokens all hs (subst (λ ts. All (λ t. t < all) ts) (sym fits.tokens)
      (range_below 0 own all (omega arith)))

  has_tokens : HasTokens all shape
  has_tokens = record {
    entry = values_below;
    vars = trim-all (IsBelow all) code first_point 0 (hs ++ unset) tt
        (All-append (IsBelow all) hs unset values_below
        (All-replicate (IsBelow all) (length code.vars - length hs) Unset tt));
    statics = statics_fit all own ks (omega arith);
    returned = tt;
    slots = All-nil (IsTrackedBelow all);
  }

  are_tokens : AreTokens all shape
  are_tokens = tokens-together all shape has_tokens

  abbrev statics : List Holding
  statics = map holding_of_static shape.statics

  abbrev late : List Holding
  late = shape.vars ++ (statics ++ Dead ∷ [])

  among_own : (k : ℕ) → k < own → is_among (tokens_in (hs ++ late)) k ≡ true
  among_own k lt =
      ap (λ ts. is_among ts k) (tokens_in-append hs late)
      ∙ among_left (tokens_in hs) (tokens_in late) k
      (subst (λ ts. is_among ts k ≡ true) (sym fits.tokens) (among_range 0 own k (omega arith) (omega (arith, lt))))

  among_statics : (k : ℕ) → own ≤ k → k < all → is_among (tokens_in (hs ++ late)) k ≡ true
  among_statics k le lt =
      ap (λ ts. is_among ts k) (tokens_in-append hs late
      ∙ ap (λ ts. tokens_in hs ++ ts) (tokens_in-append shape.vars (statics ++ Dead ∷ [])
      ∙ ap (λ ts. tokens_in shape.vars ++ ts) (tokens_in-append statics (Dead ∷ []))))
      ∙ among_right (tokens_in hs) (tokens_in shape.vars ++ (tokens_in statics ++ tokens_in (Dead ∷ []))) k
      (among_right (tokens_in shape.vars) (tokens_in statics ++ tokens_in (Dead ∷ [])) k
      (among_left (tokens_in statics) (tokens_in (Dead ∷ [])) k
      (subst (λ ts. is_among ts k ≡ true) (sym (statics_tokens own ks)) (among_range own (length ks) k le lt))))

  among_all : (k : ℕ) → k < all → is_among (tokens_in (holders shape)) k ≡ true
  among_all k lt =
      ap (λ ts. is_among ts k) (tokens_in-append (hs ++ late) [])
      ∙ among_left (tokens_in (hs ++ late)) [] k (elim (cases_lt k own) [
        | inl l ↦ among_own k l
        | inr g ↦ among_statics k g lt
      ])

  entry_is_shape : IsShape shape
  entry_is_shape = record {
    tokens = subst (λ n. AreTokens n shape) (sym made_long) are_tokens;
    made = made_long ∙ sym (distinct-count all (tokens_in (holders shape))
        (all-left (λ t. t < all) (tokens_in (holders shape)) [] are_tokens) among_all);
  }

  pub entry-found : IsCodeOfFile code → IsShapeOf code shape
  entry-found h =
      let long = fits.long in
      let params = length-take code.params code.vars in
      let put = length-append hs unset in
      let rest = length-replicate (length code.vars - length hs) Unset in
      let kept = length-map (enumerate_from 0 (hs ++ unset)) (λ x. cond (is_holder code first_point x.0) x.1 Dead) in
      let each = length-enumerate_from 0 (hs ++ unset) in
      record {
        shape = entry_is_shape;
        entry = omega (arith, long, params, h.well_formed.among, h.well_formed.locals);
        vars = omega (arith, long, params, put, rest, kept, each, h.well_formed.among, h.well_formed.locals);
      }

  pub entry-names : names_in shape ≡ ks
  entry-names = statics_names own ks

  -- each token is that of a parameter or of a static object
  entry-tokens : (n : ℕ) → IsCodeOfFile code → code.params + length ks ≤ n → AreTokens n shape
  entry-tokens n h le =
      let some = tokens_few hs in
      let long = fits.long in
      let params = length-take code.params code.vars in
      All-weaker (λ t. t < all) (λ t. t < n) (λ t lt.
      omega (arith, lt, some, long, params, h.well_formed.among, h.well_formed.locals, le))
      (tokens_in (holders shape) ++ bases_in shape.slots) are_tokens

-- entries fit
pub entries-fit : (code : Code) (ks : List ℕ) → IsCodeOfFile code
    → All (λ s. IsShapeOf code s × (names_in s ≡ ks)) (entry_shapes ks code)
entries-fit code ks h =
    let kinds = take code.params code.vars in
    All-map (λ s. IsShapeOf code s × (names_in s ≡ ks)) (entry_shape ks code) (values_at_entry 0 kinds) (λ i d lt.
    let v = values-fit 0 kinds i d lt in
    let hs = get_or (values_at_entry 0 kinds) i d in
    (entry-found ks code hs v h, entry-names ks code hs v))

pub entries-tokens : (code : Code) (ks : List ℕ) (n : ℕ) → IsCodeOfFile code → code.params + length ks ≤ n
    → All (AreTokens n) (entry_shapes ks code)
entries-tokens code ks n h le =
    let kinds = take code.params code.vars in
    All-map (AreTokens n) (entry_shape ks code) (values_at_entry 0 kinds) (λ i d lt.
    entry-tokens ks code (get_or (values_at_entry 0 kinds) i d) (values-fit 0 kinds i d lt) n h le)
