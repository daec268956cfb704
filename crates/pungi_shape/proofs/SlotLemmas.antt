-- The cases of finding a slot.
use Rattle.std.proofs.Common.{◌≡◌, ◌∙◌, ℕ, zero, suc, ◌+◌, Bool, true, false, List, [], ◌∷◌, ◌++◌, map, refl, ap}
use Rattle.std.proofs.Common.{if◌then◌else◌, arith, add-one, add-zero, zero-add}
use Rattle.std.specs.List.{filter, range_with_len}
use Rattle.std.proofs.lemmas.List.{map-append}
use Rattle.std.proofs.lemmas.List.Elements.{filter-append}
use Rattle.std.proofs.lemmas.Simd.{map-map}
use Rattle.pungi_base.specs.declared.names.Name.{Name}
use Rattle.pungi_shape.specs.declared.holding.Holding.TheVariants.{Token}
use Rattle.pungi_shape.specs.Cases.{passes_on}
use Rattle.pungi_shape.specs.Scenes.{Scene, merge}
use Rattle.pungi_shape.specs.Slots.{find_field, same_objects}

range_more : (a n : ℕ) → range_with_len a (suc n) ≡ range_with_len a n ++ (a + n) ∷ []
range_more a zero = rw (add-zero a) refl
range_more a (suc n) = (
    let e : a + 1 + n ≡ a + suc n = omega arith in
    ap (λ (l : List ℕ). a ∷ l) (range_more (a + 1) n ∙ ap (λ k. range_with_len (a + 1) n ++ k ∷ []) e)
    )

map_one : {Y : Type 0} (f : ℕ → Y) (n : ℕ) (b : Bool)
    → map f (if b then n ∷ [] else []) ≡ (if b then f n ∷ [] else [])
map_one f n true = refl
map_one f n false = refl

range_to : (n : ℕ) → range_with_len 0 (n + 1) ≡ range_with_len 0 n ++ n ∷ []
range_to n =
    ap (λ k. range_with_len 0 k) (add-one n) ∙ range_more 0 n ∙ ap (λ k. range_with_len 0 n ++ k ∷ []) (zero-add n)

pub filtered-more : {Y : Type 0} (f : ℕ → Y) (p : ℕ → Bool) (n : ℕ)
    → map f (filter p (range_with_len 0 (n + 1)))
    ≡ map f (filter p (range_with_len 0 n)) ++ (if p n then f n ∷ [] else [])
filtered-more f p n =
    ap (λ (l : List ℕ). map f (filter p l)) (range_to n)
    ∙ ap (λ (l : List ℕ). map f l) (filter-append p (range_with_len 0 n) (n ∷ []))
    ∙ map-append f (filter p (range_with_len 0 n)) (filter p (n ∷ []))
    ∙ ap (λ l. map f (filter p (range_with_len 0 n)) ++ l) (map_one f n (p n))

pub find_field-cases : (b : ℕ) (tag field : Name) (s : Scene)
    → map (passes_on 0) (find_field (Token b) tag field s)
    ≡ map (λ c. passes_on 0 (merge b c s)) (same_objects s.shape b tag field) ++ passes_on 0 s ∷ []
find_field-cases b tag field s =
    map-append (passes_on 0) (map (λ c. merge b c s) (same_objects s.shape b tag field)) (s ∷ [])
    ∙ ap (λ l. l ++ passes_on 0 s ∷ []) (map-map (passes_on 0) (λ c. merge b c s) (same_objects s.shape b tag field))
