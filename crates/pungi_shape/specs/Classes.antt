-- The exit classes of the functions of a file, as far as they are known.
--   ClassLists              for each function its exit classes, if any are known
--   list_of o               those that are known
--   has_list o              there is a list of them
--   classes_of cs g         the exit classes of a function that are known
--   IsClassOf codes g x     an exit class has a value for each parameter of the function, and its static objects
--   AreClassesOf codes g xs so have these, which are in order, each once, and few
--   AreClasses codes others    so it is with the exit classes of all functions
--   IsClassList g xs, AreClassLists others    exit classes are in order, each once, with few coordinates, and few; the
--                           number of a function that has some is small; so it is with those of all functions
--   IsClassAt code others pc e    an instruction calls a function that has this exit class
--   IsOfCall code others q  where a called function has left, it left by one of its exit classes
--   IsOfCalls code others g so it is with a goal
use Rattle.std.specs.Prelude.{◌≡◌, ℕ, ◌<◌, ◌≤◌, ◌^◌, Bool, true, false, List, [], ◌∷◌, length, Option, Some, None}
use Rattle.std.specs.Prelude.{slice_get}
use Rattle.std.specs.List.{All, IsAmong}
use Rattle.pungi_code.specs.declared.code.Code.{Code}
use Rattle.pungi_code.specs.declared.code.Codes.{Codes}
use Rattle.pungi_code.specs.Run.{code_at}
use Rattle.pungi_shape.specs.declared.shape.Shape.{Shape}
use Rattle.pungi_shape.specs.Edges.{Goal, to_place, to_exit}
use Rattle.pungi_shape.specs.Leaving.{IsExitClass}
use Rattle.pungi_shape.specs.Limits.{most_places}
use Rattle.pungi_shape.specs.Liveness.{instr_at}
use Rattle.pungi_shape.specs.Named.{callee_of, statics_of}
use Rattle.pungi_shape.specs.Places.{Place, at_entry, at_point, after_call}
use Rattle.pungi_shape.specs.Programs.{Rises, exit_cmp}
use Rattle.pungi_shape.specs.Reached.{IsExit, names_in}

-- ---- lists

abbrev pub ClassLists : Type 0
ClassLists = List (Option (List Shape))

abbrev pub list_of : Option (Option (List Shape)) → List Shape
list_of None = []
list_of (Some None) = []
list_of (Some (Some xs)) = xs

abbrev pub has_list : Option (Option (List Shape)) → Bool
has_list (Some (Some xs)) = true
has_list o = false

abbrev pub classes_of : ClassLists → ℕ → List Shape
classes_of cs g = list_of (slice_get cs g)

-- ---- what holds of them

pub record IsClassOf (codes : Codes) (g : ℕ) (x : Shape) : Type 0 where
  pub code : Code
  pub is_code : code_at codes g ≡ Some code
  pub exit : IsExit code x
  pub names : names_in x ≡ statics_of codes g

pub record AreClassesOf (codes : Codes) (g : ℕ) (xs : List Shape) : Type 0 where
  pub rise : Rises exit_cmp xs
  pub each : All (IsClassOf codes g) xs
  pub few : length xs ≤ most_places

abbrev pub AreClasses : Codes → (ℕ → List Shape) → Type 0
AreClasses codes others = (g : ℕ) → AreClassesOf codes g (others g)

pub record IsClassList (g : ℕ) (xs : List Shape) : Type 0 where
  pub rise : Rises exit_cmp xs
  pub each : All IsExitClass xs
  pub few : length xs ≤ most_places
  pub small : (x : Shape) → IsAmong xs x → g < 2 ^ 32

abbrev pub AreClassLists : (ℕ → List Shape) → Type 0
AreClassLists others = (g : ℕ) → IsClassList g (others g)

-- ---- where they were left

pub record IsClassAt (code : Code) (others : ℕ → List Shape) (pc : ℕ) (e : Shape) : Type 0 where
  pub callee : ℕ
  pub calls : callee_of (instr_at code pc) ≡ callee ∷ []
  pub is_there : IsAmong (others callee) e

abbrev pub IsOfCall : Code → (ℕ → List Shape) → Place → Type 0
IsOfCall code others (at_entry s) = Unit {0}
IsOfCall code others (at_point p s) = Unit {0}
IsOfCall code others (after_call p s e) = IsClassAt code others p.instr e

abbrev pub IsOfCalls : Code → (ℕ → List Shape) → Goal → Type 0
IsOfCalls code others (to_place q) = IsOfCall code others q
IsOfCalls code others (to_exit x) = Unit {0}
