-- The keys of a set of vectors, seen as texts.
use Rattle.std.proofs.Common.{◌≡◌, ℕ, ◌<◌, Bool, true, false, ◌||◌, List, [], ◌∷◌, ◌++◌, length, get_or, Option, Some}
use Rattle.std.proofs.Common.{map, Vec, refl, sym, ap, subst, length-append, ◌+◌, ◌-◌, ◌^◌, ◌≤◌, ◌∙◌, arith}
use Rattle.std.specs.Prelude.{slice_get, position, if◌then◌else◌}
use Rattle.std.specs.List.{list_any, AllByRecursion, IsDistinct}
use Rattle.std.specs.Option.{option_map}
use Rattle.std.specs.Str.{bytes_eq}
use Rattle.std.specs.declared.alloc.Global.{Global}
use Rattle.std.proofs.lemmas.Slice.Eq.{bytes_eq-Decides}
use Rattle.std.proofs.lemmas.Option.{slice_get-get_or, slice_get-map}
use Rattle.std.proofs.lemmas.List.{map_push}
use Rattle.std.proofs.lemmas.List.Quantifiers.{position-Some}
use Rattle.pungi_base.specs.Names.{has_text, with_text, AreDistinct, AreNames}

abbrev pub Key : Type 0
Key = Vec ℕ Global

abbrev pub texts_of : List Key → List (List ℕ)
texts_of keys = map (λ t. t.items) keys

pub has_text-keys : (text : List ℕ) (keys : List Key)
    → has_text (texts_of keys) text ≡ list_any (λ k. bytes_eq text k.items) keys
has_text-keys text [] = refl
has_text-keys text (k ∷ keys) = ap (λ b. bytes_eq text k.items || b) (has_text-keys text keys)

-- what is found at a place
found_at : (text : List ℕ) (keys : List Key) (i : ℕ) (d : Key)
    → position (λ (k : Key). bytes_eq text k.items) keys ≡ Some i → slice_get (texts_of keys) i ≡ Some text
found_at text keys i d e =
    let at = position-Some (λ (k : Key). bytes_eq text k.items) keys i d e in
    slice_get-map (λ (t : Key). t.items) keys i
    ∙ ap (λ (o : Option Key). option_map (λ t. t.items) o) (slice_get-get_or keys i d at.0)
    ∙ ap Some (sym ((bytes_eq-Decides text (get_or keys i d).items).0 at.1))

pub found_text : (text : List ℕ) (keys : List Key) (i : ℕ)
    → position (λ (k : Key). bytes_eq text k.items) keys ≡ Some i → slice_get (texts_of keys) i ≡ Some text
found_text text [] i e = absurd cc
found_text text (k ∷ keys) i e = found_at text (k ∷ keys) i k e

pub stored_text : (text : List ℕ) (keys : List Key) (i : ℕ) (k : Key) → slice_get keys i ≡ Some k
    → bytes_eq text k.items ≡ true → slice_get (texts_of keys) i ≡ Some text
stored_text text keys i k e same =
    slice_get-map (λ (t : Key). t.items) keys i
    ∙ ap (λ (o : Option Key). option_map (λ t. t.items) o) e
    ∙ ap Some (sym ((bytes_eq-Decides text k.items).0 same))

choose_texts : (b : Bool) (keys : List Key) (k : Key)
    → texts_of (if b then keys else keys ++ k ∷ []) ≡ (if b then texts_of keys else texts_of keys ++ k.items ∷ [])
choose_texts true keys k = refl
choose_texts false keys k = map_push (λ (t : Key). t.items) keys k

pub with_text-keys : (keys : List Key) (k : Key)
    → texts_of (if list_any (λ (x : Key). bytes_eq k.items x.items) keys then keys else keys ++ k ∷ [])
    ≡ with_text (texts_of keys) k.items
with_text-keys keys k =
    choose_texts (list_any (λ (x : Key). bytes_eq k.items x.items) keys) keys k
    ∙ ap (λ (b : Bool). if b then texts_of keys else texts_of keys ++ k.items ∷ []) (sym (has_text-keys k.items keys))

all_texts : (k : Key) (keys : List Key) → AllByRecursion (λ (y : Key). bytes_eq k.items y.items ≡ false) keys
    → AllByRecursion (λ y. bytes_eq k.items y ≡ false) (texts_of keys)
all_texts k [] h = tt
all_texts k (x ∷ keys) h = (h.0, all_texts k keys h.1)

pub distinct_texts : (keys : List Key) → IsDistinct (λ (x y : Key). bytes_eq x.items y.items) keys
    → AreDistinct (texts_of keys)
unfolding IsDistinct
distinct_texts [] h = tt
distinct_texts (k ∷ keys) h = (all_texts k keys h.0, distinct_texts keys h.1)

pub distinct_none : AreNames []
unfolding IsDistinct
distinct_none = record { distinct = tt; few = omega arith }

-- the names once a text is among them
pub names_with : (keys new : List Key) (k : Key) → AreNames (texts_of keys)
    → new ≡ (if list_any (λ (x : Key). bytes_eq k.items x.items) keys then keys else keys ++ k ∷ [])
    → IsDistinct (λ (x y : Key). bytes_eq x.items y.items) new → length (texts_of keys) < 2 ^ 32 - 1
    → AreNames (texts_of new)
names_with keys new k old is distinct few = record {
  distinct = distinct_texts new distinct;
  few = few_with (list_any (λ (x : Key). bytes_eq k.items x.items) keys) is;
}
  where
    few_with : (b : Bool) → new ≡ (if b then keys else keys ++ k ∷ []) → length (texts_of new) + 1 ≤ 2 ^ 32
    few_with true e = subst (λ (ks : List Key). length (texts_of ks) + 1 ≤ 2 ^ 32) (sym e) old.few
    few_with false e = omega (
      arith,
      ap length (ap texts_of e ∙ map_push (λ (t : Key). t.items) keys k),
      length-append (texts_of keys) (k.items ∷ []),
    )
