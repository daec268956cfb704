-- Exit classes: their tokens, and what stands for these; scenes that are fresh, or bare.
use Rattle.std.proofs.Common.{◌≡◌, ◌∙◌, ℕ, ◌+◌, ◌^◌, ◌<◌, ◌≤◌, ℤ, List, [], ◌∷◌, ◌++◌, length, map}
use Rattle.std.proofs.Common.{get_or, Option, Some, refl, sym, ap, subst, arith, append-nil}
use Rattle.std.specs.Prelude.{unsigned_abs}
use Rattle.std.specs.List.{All, slice_index_or, zip}
use Rattle.std.proofs.lemmas.Int.{ints}
use Rattle.std.proofs.lemmas.List.{length-replicate}
use Rattle.std.proofs.lemmas.List.Elements.{All-append, All-cons, All-head, All-map, All-nil, All-replicate, All-tail}
use Rattle.std.proofs.lemmas.List.Folds.{sum_by-replicate}
use Rattle.std.proofs.lemmas.List.Sums.{sum_by-le}
use Rattle.std.proofs.lemmas.Nat.{mul-le}
use Rattle.pungi_code.specs.declared.atom.Atom.{Atom}
use Rattle.pungi_domain.specs.Vectors.{IsWithin}
use Rattle.pungi_shape.specs.declared.holding.Holding.{Holding}
use Rattle.pungi_shape.specs.declared.shape.Shape.{Shape}
use Rattle.pungi_shape.specs.declared.tracked.Tracked.{Tracked}
use Rattle.pungi_shape.specs.Bounds.{AreTokens, HasWidth, IsBelow, IsFresh, IsScene, bases_in}
use Rattle.pungi_shape.specs.Exits.{arguments_of, with_static}
use Rattle.pungi_shape.specs.Forms.{Form, zero_form}
use Rattle.pungi_shape.specs.Leaving.{IsExitClass, bare_scene, size, weight}
use Rattle.pungi_shape.specs.Limits.{most_coordinates}
use Rattle.pungi_shape.specs.Numbered.{no_numbers, number_tokens}
use Rattle.pungi_shape.specs.Scenes.{Scene, form_or}
use Rattle.pungi_shape.specs.Shapes.{before_slots, distinct, holders, holding_of_slot, holding_of_static, tokens_in}
use Rattle.pungi_shape.specs.Shapes.{tokens_of}
use Rattle.pungi_shape.proofs.NumberedLemmas.{numbering_of}
use Rattle.pungi_shape.proofs.OnceLemmas.{all_distinct}
use Rattle.pungi_shape.proofs.TokenLemmas.{all-left, tokens-apart, tokens-below}
use Rattle.pungi_shape.proofs.WeightLemmas.{weigh}

-- ---- tokens

held_before : (e : Shape) → IsExitClass e → tokens_in (holders e) ≡ tokens_in (before_slots e)
held_before e is =
    ap (λ (rs : List Tracked). tokens_in (before_slots e ++ map holding_of_slot rs)) is.slots
    ∙ ap tokens_in (append-nil (before_slots e))

tokens_before : (e : Shape) → IsExitClass e → All (λ t. t < most_coordinates) (tokens_in (before_slots e))
tokens_before e is =
    subst (λ ts. All (λ t. t < most_coordinates) ts) (held_before e is)
    (all-left (λ t. t < most_coordinates) (tokens_in (holders e)) (bases_in e.slots) is.tokens)

-- the numbering of an exit class lists its tokens
pub exit-numbered : (e : Shape) → IsExitClass e
    → (number_tokens (tokens_in (before_slots e)) (no_numbers most_coordinates)).tokens ≡ tokens_of e
exit-numbered e is =
    (numbering_of most_coordinates (tokens_in (before_slots e)) (tokens_before e is)).tokens
    ∙ sym (ap distinct (held_before e is))

pub exit-tokens : (e : Shape) → IsExitClass e → All (λ t. t < most_coordinates) (tokens_of e)
exit-tokens e is =
    all_distinct (λ t. t < most_coordinates) (tokens_in (holders e))
    (all-left (λ t. t < most_coordinates) (tokens_in (holders e)) (bases_in e.slots) is.tokens)

pub exit-returned : (e : Shape) → IsExitClass e → IsBelow most_coordinates e.returned
exit-returned e is = (tokens-apart most_coordinates e is.tokens).returned

-- ---- pairs

zip_all : (P : Holding → Type 0) (hs : List Holding) (as' : List Atom) → All P hs → All (λ p. P p.0) (zip hs as')
zip_all P [] as' all = All-nil (λ p. P p.0)
zip_all P (h ∷ hs) [] all = All-nil (λ p. P p.0)
zip_all P (h ∷ hs) (a ∷ as') all =
    All-cons (λ p. P p.0) (h, a) (zip hs as') (All-head P h hs all) (zip_all P hs as' (All-tail P h hs all))

pub exit-pairs : (e : Shape) (as' : List Atom) → IsExitClass e
    → All (λ p. IsBelow most_coordinates p.0) (arguments_of e as')
exit-pairs e as' is =
    let P : Holding × Atom → Type 0 = λ p. IsBelow most_coordinates p.0 in
    let ts = tokens-apart most_coordinates e is.tokens in
    All-append P (zip e.entry as') (map with_static e.statics)
    (zip_all (IsBelow most_coordinates) e.entry as' ts.entry)
    (All-map P with_static e.statics ts.statics)

-- ---- fresh scenes

abs_within : (z : ℤ) → IsWithin 1 z → unsigned_abs z ≤ 1
abs_within z h = (let a = h.0 in let b = h.1 in omega (arith, ints, a, b))

size_within : (w : ℕ) (f : Form) → HasWidth w f → All (IsWithin 1) f → size f ≤ w
size_within w f wide all =
    let h = sum_by-le unsigned_abs 1 f (λ i d lt. abs_within (get_or f i d) (all i d lt)) in
    omega (arith, h, wide)

pub fresh-light : (s : Scene) → IsScene s → IsFresh s → s.width < 2 ^ 32 → weight s < 2 ^ 61
fresh-light s is fresh narrow =
    let few : length s.balances ≤ 256 = omega (arith, is.balances, fresh.few) in
    let h = sum_by-le (weigh s.width) s.width s.balances
    (λ i d lt. size_within s.width (form_or s.width (slice_index_or s.balances i d)) (is.balance_widths i d lt)
    (fresh.balances i d lt)) in
    let m = mul-le (length s.balances) s.width 256 (2 ^ 32) few (omega (arith, narrow)) in
    omega (arith, h, m)

-- ---- bare scenes

pub bare-scene : (s : Shape) → AreTokens (length s.made) s → IsScene (bare_scene s)
bare-scene s tokens = record {
  vars = length-replicate (length s.vars) (zero_form 0);
  entry = length-replicate (length s.entry) (zero_form 0);
  balances = length-replicate (length s.made) (Some (zero_form 0));
  var_widths = All-replicate (λ (f : Form). HasWidth 0 f) (length s.vars) (zero_form 0) refl;
  returned_width = refl;
  entry_widths = All-replicate (λ (f : Form). HasWidth 0 f) (length s.entry) (zero_form 0) refl;
  balance_widths = All-replicate (λ (o : Option Form). HasWidth 0 (form_or 0 o)) (length s.made) (Some (zero_form 0))
      refl;
  tokens = tokens;
}

pub bare-light : (s : Shape) → weight (bare_scene s) ≡ 0
bare-light s = (let h = sum_by-replicate (weigh 0) (length s.made) (Some (zero_form 0)) in omega (arith, h))

-- ---- static objects

-- the numbering of the static objects lists their tokens
pub statics-numbered : (s : Shape) → AreTokens (length s.made) s
    → (number_tokens (tokens_in (map holding_of_static s.statics)) (no_numbers (length s.made))).tokens
    ≡ distinct (tokens_in (map holding_of_static s.statics))
statics-numbered s tokens =
    let n = length s.made in
    let hs = map holding_of_static s.statics in
    (numbering_of n (tokens_in hs) (tokens-below n hs
    (All-map (IsBelow n) holding_of_static s.statics (tokens-apart n s tokens).statics))).tokens
