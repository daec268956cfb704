-- What the calls of an affine program are.
--   IsClassCall codes others f g n onto    a call of a function that f calls, which leaves by the exit class of this
--                           number; each coordinate of that is taken
--   CallsFitPrograms        such an exit class is one of each program of the called function, with as many coordinates
--   IsCallOf codes others f a    where an action of the program of f is a call, it is such a one
use Rattle.std.specs.Prelude.{◌≡◌, ℕ, ◌<◌, List, length, Some, slice_get}
use Rattle.std.specs.List.{IsAmong, slice_index_or}
use Rattle.pungi_domain.specs.declared.action.Action.{Action}
use Rattle.pungi_domain.specs.declared.action.Action.TheVariants.{Map, Free, Call}
use Rattle.pungi_domain.specs.declared.affine_program.AffineProgram.{AffineProgram}
use Rattle.pungi_code.specs.declared.code.Codes.{Codes}
use Rattle.pungi_shape.specs.declared.shape.Shape.{Shape}
use Rattle.pungi_shape.specs.Named.{callees_of}
use Rattle.pungi_shape.specs.Programs.{AreExits, IsProgram}
use Rattle.pungi_shape.specs.Shapes.{width_of}

pub record IsClassCall (codes : Codes) (others : ℕ → List Shape) (f g n : ℕ) (onto : List ℕ) : Type 0 where
  pub called : IsAmong (callees_of codes f) g
  pub function : g < length codes.codes
  pub exit : Shape
  pub is_exit : slice_get (others g) n ≡ Some exit
  pub width : length onto ≡ width_of exit

abbrev pub IsCallOf : Codes → (ℕ → List Shape) → ℕ → Action → Type 0
IsCallOf codes others f (Map m) = Unit {0}
IsCallOf codes others f (Free c) = Unit {0}
IsCallOf codes others f (Call g n onto) = IsClassCall codes others f g n onto

abbrev pub CallsFitPrograms : Type 0
CallsFitPrograms =
    (codes : Codes) (others : ℕ → List Shape) (f g n : ℕ) (onto : List ℕ) (p : AffineProgram)
    → IsClassCall codes others f g n onto → AreExits codes g (others g) → IsProgram codes g p
    → (n < length p.exits) × (slice_index_or p.exits n 0 ≡ length onto)
