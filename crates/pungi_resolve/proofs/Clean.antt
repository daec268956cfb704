-- Parts of the text in which no rule holds.
use Rattle.std.proofs.Common.{◌≡◌, ℕ, Bool, true, false, Option, Some, None, refl, ap}
use Rattle.std.specs.Prelude.{◌&&◌, ◌||◌, not, is_some, is_none, if◌then◌else◌}
use Rattle.pungi_base.specs.declared.pos.Pos.{Pos}
use Rattle.pungi_types.specs.Findings.{Findings, nothing_found, one_found, ◌and◌, when, least_from, earlier, is_before}
use Rattle.pungi_types.specs.declared.finding.Finding.{Finding}

abbrev pub is_found : Findings → Bool
is_found nothing_found = false
is_found (one_found f) = true
is_found (f and g) = is_found f || is_found g

-- no rule holds in a part of the text
pub record Clean (fs : Findings) : Type 0 where
  pub none : is_found fs ≡ false

is_some-earlier : (first : Option Finding) (f : Finding) → is_some (earlier first f) ≡ true
is_some-earlier None f = refl
is_some-earlier (Some a) f =
    elim (is_before f a) as (λ b. is_some (if b then Some f else Some a) ≡ true) [ true ↦ refl | false ↦ refl ]

kept : (fs : Findings) (first : Option Finding) → is_some first ≡ true → is_some (least_from first fs) ≡ true
kept nothing_found first h = h
kept (one_found f) first h = is_some-earlier first f
kept (f and g) first h = kept g (least_from first f) (kept f first h)

told : (fs : Findings) (first : Option Finding) → is_found fs ≡ true → is_some (least_from first fs) ≡ true
told nothing_found first h = absurd (cc)
told (one_found f) first h = is_some-earlier first f
told (f and g) first h =
    elim (is_found f) as (λ b. (is_found f ≡ b) → (b || is_found g) ≡ true
    → is_some (least_from first (f and g)) ≡ true) [
      | true ↦ λ e k. kept g (least_from first f) (told f first e)
      | false ↦ λ e k. told g (least_from first f) k
    ] refl h

-- where no rule is reported, none holds
pub clean : (fs : Findings) → least_from None fs ≡ None → Clean fs
clean fs h = elim (is_found fs) as (λ b. (is_found fs ≡ b) → Clean fs) [
  | true ↦ λ e. let t = told fs None e in let k = ap is_some h in absurd (cc)
  | false ↦ λ e. record { none = e }
] refl

pub or_left : (a b : Bool) → (a || b) ≡ false → a ≡ false
or_left false b h = refl
or_left true b h = absurd (cc)

pub or_right : (a b : Bool) → (a || b) ≡ false → b ≡ false
or_right false b h = h
or_right true b h = absurd (cc)

pub and_true : (a b : Bool) → a ≡ true → b ≡ true → (a && b) ≡ true
and_true true b e h = h
and_true false b e h = absurd (cc)

pub and_left : (a b : Bool) → (a && b) ≡ true → a ≡ true
and_left true b h = refl
and_left false b h = absurd (cc)

pub and_right : (a b : Bool) → (a && b) ≡ true → b ≡ true
and_right true b h = h
and_right false b h = absurd (cc)

pub not_false : (a : Bool) → not a ≡ false → a ≡ true
not_false true h = refl
not_false false h = absurd (cc)

pub is_there : {A : Type 0} (o : Option A) → is_none o ≡ false → is_some o ≡ true
is_there None h = absurd (cc)
is_there (Some x) h = refl

pub left : (f g : Findings) → Clean (f and g) → Clean f
left f g h = record { none = or_left (is_found f) (is_found g) h.none }

pub right : (f g : Findings) → Clean (f and g) → Clean g
right f g h = record { none = or_right (is_found f) (is_found g) h.none }

pub not_when : (c : Bool) (p : Pos) (n : ℕ) → Clean (when c p n) → c ≡ false
not_when false p n h = refl
not_when true p n h = let k = h.none in absurd (cc)
