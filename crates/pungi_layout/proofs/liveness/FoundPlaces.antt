-- A place that was found, by which of two it was.
use Rattle.std.proofs.Common.{◌≡◌, ◌⊎◌, inl, inr, ℕ, Option, Some, None, Bool, true, false, if◌then◌else◌}
use Rattle.pungi_meaning.specs.Work.{or_else}

pub or_found : (x y : Option ℕ) (q : ℕ) → or_else x y ≡ Some q → (x ≡ Some q) ⊎ (y ≡ Some q)
or_found None y q e = inr e
or_found (Some z) y q e = inl e

pub if_found : (b : Bool) (pc q : ℕ) (o : Option ℕ) → (if b then Some pc else o) ≡ Some q → (pc ≡ q) ⊎ (o ≡ Some q)
if_found true pc q o e = inl (cc)
if_found false pc q o e = inr e
