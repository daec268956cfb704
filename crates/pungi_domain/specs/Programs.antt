-- Affine programs.
--   width_at p k        how many coordinates the vectors of place k have
--   IsTarget p t        the target names a place or an exit class of p
--   width_to p t        how many coordinates its vectors have
--   FitsAction w z a    the action takes vectors of w coordinates to vectors of z
--   FitsEdge p e        the edge names places, exits and coordinates in range, and the widths on it fit
--   IsWellFormed p      fewer than 2^31 places, none over 256 wide, and all edges and entries fit
use Rattle.std.specs.Prelude.{◌≡◌, ℕ, ◌+◌, ◌-◌, ◌<◌, ◌≤◌, ◌^◌, length}
use Rattle.std.specs.List.{All, slice_index_or}
use Rattle.pungi_domain.specs.Vectors.{IsEquation, IsMatrix}
use Rattle.pungi_domain.specs.declared.action.Action.{Action}
use Rattle.pungi_domain.specs.declared.action.Action.TheVariants.{Map, Free, Call}
use Rattle.pungi_domain.specs.declared.target.Target.{Target}
use Rattle.pungi_domain.specs.declared.target.Target.TheVariants.{Place, Exit}
use Rattle.pungi_domain.specs.declared.affine_edge.AffineEdge.{AffineEdge}
use Rattle.pungi_domain.specs.declared.affine_program.AffineProgram.{AffineProgram}

abbrev pub width_at : AffineProgram → ℕ → ℕ
width_at p k = slice_index_or p.widths k 0

abbrev pub IsTarget : AffineProgram → Target → Type 0
IsTarget p (Place k) = k < length p.widths
IsTarget p (Exit k) = k < length p.exits

abbrev pub width_to : AffineProgram → Target → ℕ
width_to p (Place k) = width_at p k
width_to p (Exit k) = slice_index_or p.exits k 0

-- a call lists the target's coordinates from the source's width up, which take those of the exit
abbrev pub FitsAction : ℕ → ℕ → Action → Type 0
FitsAction w z (Map m) = (length m.rows ≡ z) × IsMatrix w m.rows
FitsAction w z (Free c) = (z ≡ w) × (0 < c) × (c < w)
FitsAction w z (Call callee class onto) =
    (w ≤ z) × (length onto ≡ z - w) × ((i : ℕ) → i < z - w → slice_index_or onto i 0 ≡ w + i)

pub record FitsEdge (p : AffineProgram) (e : AffineEdge) : Type 0 where
  pub from : e.from < length p.widths
  pub to : IsTarget p e.to
  pub guard : All (λ g. IsEquation (width_at p e.from) g.coefficients) e.guard
  pub action : FitsAction (width_at p e.from) (width_to p e.to) e.action
  pub duties : All (λ g. IsEquation (width_at p e.from) g.coefficients) e.duties

pub record IsWellFormed (p : AffineProgram) : Type 0 where
  pub few : length p.widths < 2 ^ 31
  pub places : length p.at ≡ length p.widths
  pub narrow : All (λ w. w ≤ 256) p.widths
  pub narrow_exits : All (λ w. w ≤ 256) p.exits
  pub edges : All (FitsEdge p) p.edges
  pub entries : All (λ k. k < length p.widths) p.entries
