-- Shapes without the temporaries that aren't live.
use Rattle.std.proofs.Common.{◌≡◌, ◌∙◌, ℕ, ◌+◌, ◌<◌, false, length, get_or, ap, arith, if◌then◌else◌, refl}
use Rattle.std.proofs.Math.ListN.{set}
use Rattle.pungi_code.specs.declared.code.Code.{Code}
use Rattle.pungi_shape.specs.declared.holding.Holding.{Holding}
use Rattle.pungi_shape.specs.declared.holding.Holding.TheVariants.{Dead}
use Rattle.pungi_shape.specs.declared.point.Point.{Point}
use Rattle.pungi_shape.specs.declared.shape.Shape.{Shape}
use Rattle.pungi_shape.specs.Arrivals.{trim}
use Rattle.pungi_shape.specs.Liveness.{is_holder}
use Rattle.pungi_shape.proofs.ListLemmas.{length-numbered, numbered, numbered_at, numbered_end, numbered_kept}
use Rattle.pungi_shape.proofs.ListLemmas.{numbered_more}

abbrev pub holder_or_dead : Code → Point → ℕ × Holding → Holding
holder_or_dead code p x = if is_holder code p x.0 then x.1 else Dead

abbrev pub trimmed : Code → Point → ℕ → Shape → Shape
trimmed code p i s = record s { vars = numbered (holder_or_dead code p) 0 i s.vars }

pub trim_dead : (code : Code) (p : Point) (i : ℕ) (s t : Shape) → t ≡ trimmed code p i s → i < length s.vars
    → is_holder code p i ≡ false → record t { vars = set t.vars i Dead } ≡ trimmed code p (i + 1) s
trim_dead code p i s t e lt h =
    let z : 0 + i ≡ i = omega arith in
    let d : holder_or_dead code p (0 + i, get_or s.vars i Dead) ≡ Dead = rw (z, h) refl in
    let m = rw d at (numbered_more (holder_or_dead code p) 0 i s.vars Dead lt) in
    rw e (ap (λ vs. record s { vars = vs }) m)

pub trim_kept : (code : Code) (p : Point) (i : ℕ) (s t : Shape) → t ≡ trimmed code p i s → i < length s.vars
    → (if is_holder code p i then get_or t.vars i Dead else Dead) ≡ get_or t.vars i Dead → t ≡ trimmed code p (i + 1) s
trim_kept code p i s t e lt same =
    let z : 0 + i ≡ i = omega arith in
    let v : get_or t.vars i Dead ≡ get_or s.vars i Dead =
    ap (λ (r : Shape). get_or r.vars i Dead) e ∙ numbered_at (holder_or_dead code p) 0 i s.vars Dead lt in
    let d : holder_or_dead code p (0 + i, get_or s.vars i Dead) ≡ get_or s.vars i Dead = rw z (rw v at same) in
    e ∙ ap (λ vs. record s { vars = vs }) (numbered_kept (holder_or_dead code p) 0 i s.vars Dead lt d)

pub trim_end : (code : Code) (p : Point) (i : ℕ) (s t : Shape) → t ≡ trimmed code p i s → length s.vars ≡ i
    → t ≡ trim code p s
trim_end code p i s t e l = e ∙ ap (λ vs. record s { vars = vs }) (numbered_end (holder_or_dead code p) 0 i s.vars l)

pub trimmed_length : (code : Code) (p : Point) (i : ℕ) (s t : Shape) → t ≡ trimmed code p i s
    → length t.vars ≡ length s.vars
trimmed_length code p i s t e = rw e (length-numbered (holder_or_dead code p) 0 i s.vars)
