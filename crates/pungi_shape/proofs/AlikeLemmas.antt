-- Lists side by side: values at entry and arguments.
use Rattle.std.proofs.Common.{◌≡◌, ◌≢◌, ◌∙◌, ℕ, ◌+◌, ◌<◌, ◌≤◌, Bool, true, false, ◌&&◌, List, [], ◌∷◌, length, map}
use Rattle.std.proofs.Common.{get_or, drop, refl, sym, ap, arith}
use Rattle.std.specs.List.{zip}
use Rattle.std.proofs.lemmas.List.{drop_all, drop_more, get_or-map, length-map}
use Rattle.pungi_code.specs.declared.atom.Atom.{Atom}
use Rattle.pungi_shape.specs.declared.holding.Holding.{Holding}
use Rattle.pungi_shape.specs.declared.holding.Holding.TheVariants.{Unset}
use Rattle.pungi_shape.specs.Exits.{are_alike, is_alike}
use Rattle.pungi_shape.specs.Scenes.{Scene, holding_of}

-- ---- pairs

pub zip_turn : {X Y : Type 0} (xs : List X) (ys : List Y) (i : ℕ) (c : X) (d : Y) → i < length xs → i < length ys
    → zip (drop i xs) (drop i ys) ≡ (get_or xs i c, get_or ys i d) ∷ zip (drop (i + 1) xs) (drop (i + 1) ys)
zip_turn xs ys i c d lt lu = rw (drop_more xs i c lt, drop_more ys i d lu) refl

zip_none : {X Y : Type 0} (xs : List X) → zip {K = X} {X = Y} xs [] ≡ []
zip_none [] = refl
zip_none (x ∷ xs) = refl

-- the second list has ended
pub zip_end : {X Y : Type 0} (xs : List X) (ys : List Y) (i : ℕ) → length ys ≤ i → zip (drop i xs) (drop i ys) ≡ []
zip_end xs ys i le = rw (drop_all i ys le) (zip_none (drop i xs))

-- ---- whether they are alike

pub alike_turn : (hs ks : List Holding) (i : ℕ) (c d : Holding) → i < length hs → i < length ks
    → are_alike (drop i hs) (drop i ks)
    ≡ (is_alike (get_or hs i c) (get_or ks i d) && are_alike (drop (i + 1) hs) (drop (i + 1) ks))
alike_turn hs ks i c d lt lu = rw (drop_more hs i c lt, drop_more ks i d lu) refl

and_false : (b : Bool) → (b && false) ≡ false
and_false true = refl
and_false false = refl

-- lists of two lengths aren't
pub unlike_lengths : (hs ks : List Holding) → length hs ≢ length ks → are_alike hs ks ≡ false
unlike_lengths [] [] ne = absurd (ne refl)
unlike_lengths [] (k ∷ ks) ne = refl
unlike_lengths (h ∷ hs) [] ne = refl
unlike_lengths (h ∷ hs) (k ∷ ks) ne =
    ap (λ b. is_alike h k && b) (unlike_lengths hs ks (λ e. ne (omega (arith, e)))) ∙ and_false (is_alike h k)

pub alike_step : (b : Bool) (s : Scene) (hs : List Holding) (as' : List Atom) (i : ℕ) (c : Holding) (d : Atom)
    → i < length hs → length hs ≡ length as' → b ≡ is_alike (get_or hs i c) (holding_of s (get_or as' i d))
    → are_alike (drop i hs) (drop i (map (holding_of s) as'))
    ≡ (b && are_alike (drop (i + 1) hs) (drop (i + 1) (map (holding_of s) as')))
alike_step b s hs as' i c d lt same e =
    let ks = map (holding_of s) as' in
    let long = length-map as' (holding_of s) in
    let at = get_or-map (holding_of s) as' i d Unset (omega (arith, lt, same)) in
    alike_turn hs ks i c Unset lt (omega (arith, lt, same, long))
    ∙ ap (λ (k : Holding). is_alike (get_or hs i c) k && are_alike (drop (i + 1) hs) (drop (i + 1) ks)) at
    ∙ ap (λ (z : Bool). z && are_alike (drop (i + 1) hs) (drop (i + 1) ks)) (sym e)

pub alike_end : (s : Scene) (hs : List Holding) (as' : List Atom) (i : ℕ) → length hs ≤ i → length hs ≡ length as'
    → are_alike (drop i hs) (drop i (map (holding_of s) as')) ≡ true
alike_end s hs as' i le same =
    let ks = map (holding_of s) as' in
    let long = length-map as' (holding_of s) in
    let short : length ks ≤ i = omega (arith, le, same, long) in
    rw (drop_all i hs le, drop_all i ks short) refl
