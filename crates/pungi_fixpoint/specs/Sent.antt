-- What an edge makes of the value at its source, before its target takes it in.
--   IsSent least member p exit e s t       t is what the edge makes of s: it meets the guard, and the action is done
--   LargeSent least member p exit e s r    making it is large
use Rattle.std.specs.Prelude.{◌⊎◌, ℕ, ℤ, Bool, List, Option}
use Rattle.pungi_domain.specs.Builds.{Acts, IsMet, LargeAct, LargeMet}
use Rattle.pungi_domain.specs.Programs.{width_at, width_to}
use Rattle.pungi_domain.specs.Vectors.{Vectors}
use Rattle.pungi_domain.specs.declared.affine_edge.AffineEdge.{AffineEdge}
use Rattle.pungi_domain.specs.declared.affine_program.AffineProgram.{AffineProgram}

pub record IsSent {S : Type 0} (least : Bool) (member : S → Vectors) (p : AffineProgram) (exit : ℕ → ℕ → Option S)
    (e : AffineEdge) (s t : S) : Type 0 where
  pub met : S
  pub guard : IsMet least member (width_at p e.from) e.guard s met
  pub action : Acts least member exit (width_at p e.from) (width_to p e.to) e.action met t

abbrev pub LargeSent : {S : Type 0} → Bool → (S → Vectors) → AffineProgram → (ℕ → ℕ → Option S) → AffineEdge → S
    → List ℤ → Type 0
LargeSent {S} least member p exit e s r =
    LargeMet least member (width_at p e.from) e.guard s r
    ⊎ ((met : S) × IsMet least member (width_at p e.from) e.guard s met
    × LargeAct least member exit (width_at p e.from) (width_to p e.to) e.action met r)
