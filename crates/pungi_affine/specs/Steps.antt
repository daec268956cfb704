-- Adding a vector to a form.
--   residual d ls v i        what is left of the d-fold of v without the rows
--   Steps w d ls v d' ls'    the rows after v was added: u is the residual but for a factor h, q the first coordinate
--                            at which it isn't 0; g is taken out of all; the new row and the old ones have each their
--                            place
--   HasOutside w ls          an entry of a row is over 2^31 in absolute value
use Rattle.std.specs.Prelude.{◌≡◌, ◌⊎◌, ℕ, ◌<◌, ℤ, pos, ◌-ℤ◌, ◌*ℤ◌, ◌<ℤ◌, List, length}
use Rattle.pungi_domain.specs.Vectors.{at}
use Rattle.pungi_domain.specs.Spans.{IsOutside}
use Rattle.pungi_affine.specs.Forms.{Line, line, fill}

abbrev pub residual : ℤ → List Line → (ℕ → ℤ) → ℕ → ℤ
residual d ls v i = (d *ℤ v i) -ℤ fill v ls i

pub record Steps (w : ℕ) (d : ℤ) (ls : List Line) (v : ℕ → ℤ) (d' : ℤ) (ls' : List Line) : Type 0 where
  pub u : ℕ → ℤ
  pub h : ℤ
  pub h_not : h ≡ pos 0 → ⊥
  pub u_is : (i : ℕ) → i < w → residual d ls v i ≡ h *ℤ u i
  pub q : ℕ
  pub q_within : q < w
  pub q_entry : pos 0 <ℤ u q
  pub q_first : (i : ℕ) → i < q → u i ≡ pos 0
  pub g : ℤ
  pub g_positive : pos 0 <ℤ g
  pub d_is : g *ℤ d' ≡ d *ℤ u q
  -- the place of the new row, and those of the old ones
  pub new : ℕ
  pub new_in : new < length ls'
  pub place : ℕ → ℕ
  pub place_in : (k : ℕ) → k < length ls → place k < length ls'
  pub covers : (j : ℕ) → j < length ls' → (j ≡ new) ⊎ ((k : ℕ) × (k < length ls) × (place k ≡ j))
  pub new_pivot : (line ls' new).pivot ≡ q
  pub new_row : (i : ℕ) → i < w → g *ℤ at (line ls' new).entries i ≡ d *ℤ u i
  pub old_pivot : (k : ℕ) → k < length ls → (line ls' (place k)).pivot ≡ (line ls k).pivot
  pub old_row : (k i : ℕ) → k < length ls → i < w → g *ℤ at (line ls' (place k)).entries i
      ≡ (u q *ℤ at (line ls k).entries i) -ℤ (at (line ls k).entries q *ℤ u i)

pub record HasOutside (w : ℕ) (ls : List Line) : Type 0 where
  pub k : ℕ
  pub k_in : k < length ls
  pub i : ℕ
  pub i_in : i < w
  pub outside : IsOutside (at (line ls k).entries i)
