-- What is taken over from an exit class, as it is computed.
--   IsExitClass e           only the values at entry, the static objects and the returned value are kept; tokens are
--                           small numbers, and coordinates are few
--   size f, weight s        the absolute values of a form's coefficients, summed up; the sizes of all balances
--   IsLight s               the coefficients of all balances together are small
--   bare_scene s            a scene of this shape, over no coordinates
--   comes_back code x as pc s e    the edge that takes over what the called function left
--   AreAtoms ps atoms       by token, of the first ones: what stands for it, if anything does
use Rattle.std.specs.Prelude.{◌≡◌, ℕ, ◌+◌, ◌<◌, ◌≤◌, ◌^◌, List, [], length, get_or, replicate, Option, Some}
use Rattle.std.specs.Prelude.{None, unsigned_abs}
use Rattle.std.specs.List.{sum_by}
use Rattle.pungi_code.specs.declared.atom.Atom.{Atom}
use Rattle.pungi_code.specs.declared.atom.Var.{Var}
use Rattle.pungi_code.specs.declared.code.Code.{Code}
use Rattle.pungi_shape.specs.declared.holding.Holding.{Holding}
use Rattle.pungi_shape.specs.declared.shape.Shape.{Shape}
use Rattle.pungi_shape.specs.Bounds.{AreTokens}
use Rattle.pungi_shape.specs.Exits.{after_leaving, agreement, atom_of}
use Rattle.pungi_shape.specs.Edges.{Edge, both_shapes, goes_to, point_of}
use Rattle.pungi_shape.specs.Forms.{Form, zero_form}
use Rattle.pungi_shape.specs.Limits.{most_coordinates}
use Rattle.pungi_shape.specs.Scenes.{Scene, form_or}
use Rattle.pungi_shape.specs.Shapes.{width_of}

pub record IsExitClass (e : Shape) : Type 0 where
  pub vars : e.vars ≡ []
  pub slots : e.slots ≡ []
  pub tokens : AreTokens most_coordinates e
  pub narrow : width_of e ≤ most_coordinates

-- ---- balances

abbrev pub size : Form → ℕ
size f = sum_by unsigned_abs f

abbrev pub weight : Scene → ℕ
weight s = sum_by (λ o. size (form_or s.width o)) s.balances

abbrev pub IsLight : Scene → Type 0
IsLight s = weight s < 2 ^ 62

-- ---- what stands for a token

pub record AreAtoms (ps : List (Holding × Atom)) (atoms : List (Option Atom)) : Type 0 where
  pub count : length atoms ≡ most_coordinates
  pub each : (u : ℕ) → u < most_coordinates → get_or atoms u None ≡ atom_of u ps

-- ---- a shape without numbers

abbrev pub bare_scene : Shape → Scene
bare_scene s = record {
  width = 0;
  shape = s;
  vars = replicate (length s.vars) (zero_form 0);
  returned = zero_form 0;
  entry = replicate (length s.entry) (zero_form 0);
  balances = replicate (length s.made) (Some (zero_form 0));
}

-- ---- the edge that comes back

abbrev pub comes_back : Code → Option Var → List Atom → ℕ → Shape → Shape → Edge
comes_back code x as' pc s e =
    goes_to code (point_of (pc + 1) 0 0) (agreement (width_of s) e as' (both_shapes s e))
    (after_leaving (width_of s) e x as' (both_shapes s e))
