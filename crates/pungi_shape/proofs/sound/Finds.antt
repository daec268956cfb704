-- The first part of a load and a store: which slot it is.
--   Sole            some case shows what is held, and no other tracked slot is the slot of the place
use Rattle.std.proofs.Common.{◌≡◌, ◌≢◌, ℕ, ◌+◌, ◌<◌, Bool, true, false, cond, List, []}
use Rattle.std.proofs.Common.{◌∷◌, length, map, get_or, refl, sym, ap, ◌∙◌, subst, arith, ◌⊎◌, inl, inr}
use Rattle.std.specs.List.{IsAmong, filter, range_with_len}
use Rattle.std.proofs.lemmas.Bool.{cases_eq}
use Rattle.std.proofs.lemmas.List.{get_or-map}
use Rattle.std.proofs.lemmas.List.FromFn.{length-range_with_len, get_or-range_with_len}
use Rattle.std.proofs.lemmas.List.Folds.{list_any_at}
use Rattle.pungi_base.specs.declared.names.Name.{Name}
use Rattle.pungi_world.specs.declared.slot.Slot.{Slot}
use Rattle.pungi_world.specs.declared.slot.Slot.TheVariants as slots
use Rattle.pungi_code.specs.declared.atom.Atom.{Atom}
use Rattle.pungi_code.specs.declared.atom.Atom.TheVariants as atom
use Rattle.pungi_shape.specs.declared.holding.Holding.TheVariants.{Unset, Known, Number}
use Rattle.pungi_shape.specs.declared.shape.Shape.{Shape}
use Rattle.pungi_shape.specs.declared.tracked.Spot.{Spot}
use Rattle.pungi_shape.specs.declared.tracked.Spot.TheVariants.{Global}
use Rattle.pungi_shape.specs.declared.tracked.Tracked.{Tracked}
use Rattle.pungi_shape.specs.Scenes.{Scene, holding_of, redirect, merge}
use Rattle.pungi_shape.specs.Shapes.{rename_holding}
use Rattle.pungi_shape.specs.Slots.{is_spot, is_tracked}
use Rattle.pungi_shape.specs.Described.{Naming}
use Rattle.pungi_shape.proofs.sound.Shows.{spot_in}
use Rattle.pungi_shape.proofs.sound.Renames.{get_map}
use Rattle.pungi_shape.proofs.sound.Apart.{any_at}
use Rattle.pungi_shape.proofs.sound.Members.{nothing_in, first_among, later_among, one_of}
use Rattle.pungi_shape.proofs.sound.Tests.{no_way}
use Rattle.pungi_shape.proofs.sound.Spots.{one_spot, spot_itself}
use Rattle.pungi_shape.proofs.sound.ArrivedSlots.{static_renamed}

-- ---- atoms after a merge

number_same : (g : ℕ → ℕ) (b : Bool) (n : _) → rename_holding g (cond b (Known n) Number) ≡ cond b (Known n) Number
number_same g true n = refl
number_same g false n = refl

pub merged_atom : (t u : ℕ) (s : Scene) (a : Atom)
    → holding_of (merge t u s) a ≡ rename_holding (redirect t u) (holding_of s a)
merged_atom t u s (atom.Var x) = get_map (rename_holding (redirect t u)) s.shape.vars x.0 Unset
merged_atom t u s (atom.Int n) = sym (number_same (redirect t u) _ n)
merged_atom t u s atom.Null = refl
merged_atom t u s atom.Text = refl
merged_atom t u s (atom.Static k) = static_renamed (redirect t u) k s.shape.statics

-- ---- which of these is it

pub some_same : (names : Naming) (o : ℕ) (cs : List ℕ)
    → ((c : ℕ) × (IsAmong cs c × (names c ≡ o))) ⊎ ((c : ℕ) → IsAmong cs c → names c ≢ o)
some_same names o [] = inr (λ c there. absurd (nothing_in c there))
some_same names o (c ∷ cs) = elim (cases_eq (names c) o) [
  | inl e ↦ inl (c, (first_among c cs, e))
  | inr ne ↦ elim (some_same names o cs) [
    | inl found ↦ inl (found.0, (later_among c cs found.0 found.1.0, found.1.1))
    | inr none ↦ inr (λ d there. elim (one_of c cs d there) [
      | inl e ↦ λ f. ne (ap names (sym e) ∙ f)
      | inr rest ↦ none d rest
    ])
  ]
]

-- members of a filtered list
pub among_filter : (p : ℕ → Bool) (xs : List ℕ) (x : ℕ) → IsAmong xs x → p x ≡ true → IsAmong (filter p xs) x
among_filter p [] x there e = absurd (nothing_in x there)
among_filter p (y ∷ xs) x there e =
    by (one_of y xs x there) (p y) refl (λ rest. among_filter p xs x rest e)
  where
    by : (x ≡ y) ⊎ IsAmong xs x → (b : Bool) → p y ≡ b → (IsAmong xs x → IsAmong (filter p xs) x)
        → IsAmong (cond b (y ∷ filter p xs) (filter p xs)) x
    by (inl f) true g rec = (0, (omega arith, f))
    by (inl f) false g rec = no_way (sym g ∙ ap p (sym f) ∙ e)
    by (inr rest) true g rec = later_among y (filter p xs) x (rec rest)
    by (inr rest) false g rec = rec rest

pub filter_among : (p : ℕ → Bool) (xs : List ℕ) (x : ℕ) → IsAmong (filter p xs) x → IsAmong xs x × (p x ≡ true)
filter_among p [] x there = absurd (nothing_in x there)
filter_among p (y ∷ xs) x there = by (p y) refl there (filter_among p xs x)
  where
    by : (b : Bool) → p y ≡ b → IsAmong (cond b (y ∷ filter p xs) (filter p xs)) x
        → (IsAmong (filter p xs) x → IsAmong xs x × (p x ≡ true)) → IsAmong (y ∷ xs) x × (p x ≡ true)
    by true e here rec = elim (one_of y (filter p xs) x here) [
      | inl f ↦ ((0, (omega arith, f)), ap p f ∙ e)
      | inr rest ↦ let r = rec rest in (later_among y xs x r.0, r.1)
    ]
    by false e here rec = let r = rec here in (later_among y xs x r.0, r.1)

pub in_range : (n x : ℕ) → x < n → IsAmong (range_with_len 0 n) x
in_range n x lt =
    let l = length-range_with_len 0 n in
    (x, (omega (arith, l, lt), sym (get_or-range_with_len 0 n x x lt ∙ (omega arith))))

pub range_below : (n x : ℕ) → IsAmong (range_with_len 0 n) x → x < n
range_below n x there =
    let l = length-range_with_len 0 n in
    let lt : there.0 < n = let h = there.1.0 in omega (arith, l, h) in
    let e : x ≡ 0 + there.0 = there.1.1 ∙ get_or-range_with_len 0 n there.0 x lt in
    omega (arith, e, lt)

-- ---- spots

abbrev pub no_tracked : Tracked
no_tracked = record { spot = Global (record { 0 = 0 }); held = Unset }

-- a tracked spot stands somewhere
pub tracked_at_place : (s : Shape) (p : Spot) → is_tracked s p ≡ true
    → (i : ℕ) × ((i < length s.slots) × ((get_or s.slots i no_tracked).spot ≡ p))
tracked_at_place s p e =
    let f = any_at (λ (r : Tracked). is_spot r.spot p) s.slots no_tracked e in
    (f.0, (f.1.0, one_spot (get_or s.slots f.0 no_tracked).spot p f.1.1))

pub tracked_by : (s : Shape) (p : Spot) (i : ℕ) (d : Spot) → i < length s.slots → get_or (map spot_in s.slots) i d ≡ p
    → is_tracked s p ≡ true
tracked_by s p i d lt e =
    list_any_at (λ (r : Tracked). is_spot r.spot p) s.slots i no_tracked lt
    (ap (λ q. is_spot q p) (sym (get_or-map spot_in s.slots i no_tracked d lt) ∙ e) ∙ spot_itself p)

abbrev pub tag_in : Slot → Name
tag_in (slots.Field o tag field) = tag
tag_in (slots.Global n) = n

abbrev pub field_in : Slot → Name
field_in (slots.Field o tag field) = field
field_in (slots.Global n) = n

abbrev pub object_in : Slot → ℕ
object_in (slots.Field o tag field) = o
object_in (slots.Global n) = 0

abbrev pub name_in : Slot → Name
name_in (slots.Global n) = n
name_in (slots.Field o tag field) = tag

abbrev IsGlobal : Slot → Type 0
IsGlobal (slots.Global n) = Unit {0}
IsGlobal (slots.Field o tag field) = ⊥

pub not_both : (n : Name) (o : ℕ) (tag field : Name) → slots.Global n ≡ slots.Field o tag field → ⊥
not_both n o tag field e = subst IsGlobal e tt
