-- Words of which a test holds, and findings in a part of the text.
use Rattle.std.proofs.Common.{◌≡◌, ℕ, Bool, true, false, List, [], ◌∷◌, ◌++◌, Option, Some, None, refl, ◌∙◌, sym}
use Rattle.std.specs.Prelude.{◌==◌, ◌&&◌, ◌||◌, not, is_some, if◌then◌else◌}
use Rattle.std.specs.List.{list_any}
use Rattle.pungi_types.specs.Files.{definitions, definition_in}
use Rattle.pungi_types.specs.Names.{is_some_definition}
use Rattle.pungi_check.proofs.Places.{World, refused_call}
use Rattle.pungi_types.specs.Findings.{Findings, nothing_found, one_found, ◌and◌, least_from, earlier, is_before}
use Rattle.pungi_types.specs.declared.finding.Finding.{Finding}

-- two sets of refused functions say the same of each word of a list that is called
abbrev pub Agree : World → List ℕ → List ℕ → List ℕ → Type 0
Agree x s t [] = Unit {0}
Agree x s t (w ∷ ws) = (refused_call x s w ≡ refused_call x t w) × Agree x s t ws

pub left : (x : World) (s t xs ys : List ℕ) → Agree x s t (xs ++ ys) → Agree x s t xs
left x s t [] ys h = tt
left x s t (w ∷ xs) ys h = (h.0, left x s t xs ys h.1)

pub right : (x : World) (s t xs ys : List ℕ) → Agree x s t (xs ++ ys) → Agree x s t ys
right x s t [] ys h = h
right x s t (w ∷ xs) ys h = right x s t xs ys h.1

ands-false : (a b : Bool) → (a && (b && false)) ≡ false
ands-false true true = refl
ands-false true false = refl
ands-false false b = refl

no_refused_call : (x : World) (w : ℕ) → refused_call x [] w ≡ false
no_refused_call x w = ands-false (is_some_definition (definition_in (definitions x.file.items) w)) (not (w == x.self))

-- a set that holds no called word says the same as the empty one
pub none_agree : (x : World) (t ws : List ℕ) → list_any (refused_call x t) ws ≡ false → Agree x [] t ws
none_agree x t [] h = tt
none_agree x t (w ∷ ws) h =
    elim (refused_call x t w) as (λ b. (refused_call x t w ≡ b) → (b || list_any (refused_call x t) ws) ≡ false
    → Agree x [] t (w ∷ ws)) [
      | true ↦ λ e k. absurd (cc)
      | false ↦ λ e k. (no_refused_call x w ∙ sym e, none_agree x t ws k)
    ] refl h

abbrev pub is_found : Findings → Bool
is_found nothing_found = false
is_found (one_found f) = true
is_found (f and g) = is_found f || is_found g

is_some-earlier : (first : Option Finding) (f : Finding) → is_some (earlier first f) ≡ true
is_some-earlier None f = refl
is_some-earlier (Some a) f =
    elim (is_before f a) as (λ b. is_some (if b then Some f else Some a) ≡ true) [ true ↦ refl | false ↦ refl ]

pub kept : (fs : Findings) (first : Option Finding) → is_some first ≡ true → is_some (least_from first fs) ≡ true
kept nothing_found first h = h
kept (one_found f) first h = is_some-earlier first f
kept (f and g) first h = kept g (least_from first f) (kept f first h)

pub told : (fs : Findings) (first : Option Finding) → is_found fs ≡ true → is_some (least_from first fs) ≡ true
told nothing_found first h = absurd (cc)
told (one_found f) first h = is_some-earlier first f
told (f and g) first h =
    elim (is_found f) as (λ b. (is_found f ≡ b) → (b || is_found g) ≡ true
    → is_some (least_from first (f and g)) ≡ true) [
      | true ↦ λ e k. kept g (least_from first f) (told f first e)
      | false ↦ λ e k. told g (least_from first f) k
    ] refl h

-- where the test holds of one of these words, a rule holds in the part
pub record Finds (p : ℕ → Bool) (ws : List ℕ) (fs : Findings) : Type 0 where
  pub found : list_any p ws ≡ true → is_found fs ≡ true

pub none : (p : ℕ → Bool) (fs : Findings) → Finds p [] fs
none p fs = record { found = λ h. absurd (cc) }

pub or-left : (a b : Bool) → a ≡ true → (a || b) ≡ true
or-left true b h = refl
or-left false b h = absurd (cc)

pub or-right : (a b : Bool) → b ≡ true → (a || b) ≡ true
or-right true b h = refl
or-right false b h = h

pub first : (p : ℕ → Bool) (ws : List ℕ) (f g : Findings) → Finds p ws f → Finds p ws (f and g)
first p ws f g h = record { found = λ k. or-left (is_found f) (is_found g) (h.found k) }

pub second : (p : ℕ → Bool) (ws : List ℕ) (f g : Findings) → Finds p ws g → Finds p ws (f and g)
second p ws f g h = record { found = λ k. or-right (is_found f) (is_found g) (h.found k) }

pub either : (p : ℕ → Bool) (xs ys : List ℕ) (f : Findings) → Finds p xs f → Finds p ys f → Finds p (xs ++ ys) f
either p [] ys f h k = k
either p (x ∷ xs) ys f h k = elim (p x) as (λ b. (p x ≡ b) → Finds p (x ∷ xs ++ ys) f) [
  | true ↦ λ e. record { found = λ m. h.found (or-left (p x) (list_any p xs) e) }
  | false ↦ λ e. record {
    found = λ m. (either p xs ys f (record {
      found = λ n. h.found
          (or-right (p x) (list_any p xs) n);
    }) k).found (rw e at m);
  }
] refl

-- the same, where each part finds its own
pub both : (p : ℕ → Bool) (xs ys : List ℕ) (f g : Findings) → Finds p xs f → Finds p ys g → Finds p (xs ++ ys) (f and g)
both p xs ys f g h k = either p xs ys (f and g) (first p xs f g h) (second p ys f g k)
