-- What holds of each place and exit class that is found, and of the edges of such places.
--   IsShapeOf code s        a shape names the tokens that its holders hold, and has as many values as the code has
--                           parameters and variables
--   shape_at q, names_in s, names_at q    the shape of a place; the static objects that a shape names
--   Unheld h                a holding that is no number and no token
--   IsLeft s                no variable holds a number or an object, and no slot is tracked: so it is once a return
--                           forgot them
--   FreesNumber i s         an instruction's last part puts any number where a variable holds one, and the next
--                           instruction follows
--   IsPart i n s            where so many parts of an instruction are done: at most all; a number is put last; and a
--                           return leaves in its second
--   IsReached code q        so it is with a place that is found
--   IsExit code x           so it is with an exit class that is found
--   IsGoal code ks g        a goal is such a place or exit class, whose shape names these static objects
--   width_to g              how many coordinates vectors have there
--   IsWideGoal g            a place with more than 256
--   HasWideGoal es          an edge leads to one
--   FitsChange w z c, FitsFrom w e    what an edge does takes vectors of w coordinates to vectors of z; so it is with
--                           its guard and duties
--   IsArrival w a           what is arrived at fits w coordinates
--   place_or q o            this place, unless there is another point and shape
use Rattle.std.specs.Prelude.{◌≡◌, ℕ, ◌+◌, ◌<◌, ◌≤◌, true, false, List, [], length, map, get_or}
use Rattle.std.specs.Prelude.{Option, Some, None}
use Rattle.std.specs.List.{All, IsAmong, range_with_len}
use Rattle.pungi_domain.specs.Vectors.{IsEquation}
use Rattle.pungi_code.specs.declared.code.Code.{Code}
use Rattle.pungi_code.specs.declared.instr.Instr.{Instr}
use Rattle.pungi_code.specs.declared.instr.Instr.TheVariants.{Return}
use Rattle.pungi_code.specs.WellFormed.{leads_on}
use Rattle.pungi_shape.specs.declared.holding.Holding.{Holding}
use Rattle.pungi_shape.specs.declared.holding.Holding.TheVariants.{Dead}
use Rattle.pungi_shape.specs.declared.point.Point.{Point}
use Rattle.pungi_shape.specs.declared.shape.Shape.{Shape}
use Rattle.pungi_shape.specs.Arrivals.{Arrival}
use Rattle.pungi_shape.specs.Bounds.{AreTokens, HasWidth, IsShape}
use Rattle.pungi_shape.specs.Leaving.{IsExitClass}
use Rattle.pungi_shape.specs.Liveness.{instr_at}
use Rattle.pungi_shape.specs.Parts.{maps}
use Rattle.pungi_shape.specs.Shapes.{is_number, token_in, width_of}
use Rattle.pungi_shape.specs.Places.{Place, at_entry, at_point, after_call, width_at}
use Rattle.pungi_shape.specs.Edges.{Goal, to_place, to_exit, Change, by_map, by_any, by_exit, Edge, free_var}
use Rattle.pungi_shape.specs.Limits.{most_coordinates}

-- ---- places

pub record IsShapeOf (code : Code) (s : Shape) : Type 0 where
  pub shape : IsShape s
  pub entry : length s.entry ≡ code.params
  pub vars : length s.vars ≡ length code.vars

abbrev pub shape_at : Place → Shape
shape_at (at_entry s) = s
shape_at (at_point p s) = s
shape_at (after_call p s e) = s

abbrev pub names_in : Shape → List ℕ
names_in s = map (λ k. k.0) s.statics

abbrev pub names_at : Place → List ℕ
names_at q = names_in (shape_at q)

pub record Unheld (h : Holding) : Type 0 where
  pub number : is_number h ≡ false
  pub token : token_in h ≡ []

pub record IsLeft (s : Shape) : Type 0 where
  pub vars : All Unheld s.vars
  pub slots : s.slots ≡ []

pub record FreesNumber (i : Instr) (s : Shape) : Type 0 where
  pub number : is_number (get_or s.vars (free_var i) Dead) ≡ true
  pub leads_on : leads_on i ≡ true

pub record IsPart (i : Instr) (n : ℕ) (s : Shape) : Type 0 where
  pub part : n ≤ maps i
  pub frees : n ≡ maps i → FreesNumber i s
  pub left : (a : _) → i ≡ Return a → 0 < n → IsLeft s

abbrev pub IsReached : Code → Place → Type 0
IsReached code (at_entry s) = IsShapeOf code s
IsReached code (at_point p s) = IsShapeOf code s × IsPart (instr_at code p.instr) p.done s
IsReached code (after_call p s e) = IsShapeOf code s × (IsExitClass e × (e.made ≡ []))

-- ---- exit classes, goals

pub record IsExit (code : Code) (x : Shape) : Type 0 where
  pub entry : length x.entry ≡ code.params
  pub vars : x.vars ≡ []
  pub slots : x.slots ≡ []
  pub made : x.made ≡ []
  pub tokens : AreTokens most_coordinates x
  pub narrow : width_of x ≤ most_coordinates

abbrev pub IsGoal : Code → List ℕ → Goal → Type 0
IsGoal code ks (to_place q) = IsReached code q × (names_at q ≡ ks)
IsGoal code ks (to_exit x) = IsExit code x × (names_in x ≡ ks)

abbrev pub width_to : Goal → ℕ
width_to (to_place q) = width_at q
width_to (to_exit x) = width_of x

abbrev pub IsWideGoal : Goal → Type 0
IsWideGoal (to_place q) = most_coordinates < width_at q
IsWideGoal (to_exit x) = ⊥

pub record HasWideGoal (es : List Edge) : Type 0 where
  pub edge : Edge
  pub is_there : IsAmong es edge
  pub wide : IsWideGoal edge.goal

-- ---- edges

abbrev pub FitsChange : ℕ → ℕ → Change → Type 0
FitsChange w z (by_map rows) = (length rows ≡ z) × All (HasWidth w) rows
FitsChange w z (by_any c) = (z ≡ w) × (0 < c) × (c < w)
FitsChange w z (by_exit f x onto) = (z ≡ w + width_of x) × (onto ≡ range_with_len w (width_of x))

pub record FitsFrom (w : ℕ) (e : Edge) : Type 0 where
  pub guard : All (IsEquation w) e.guard
  pub change : FitsChange w (width_to e.goal) e.change
  pub duties : All (IsEquation w) e.duties

-- ---- arrivals

pub record IsArrival (w : ℕ) (a : Arrival) : Type 0 where
  pub shape : IsShape a.shape
  pub rows : length a.rows ≡ width_of a.shape
  pub widths : All (HasWidth w) a.rows

abbrev pub place_or : Place → Option (Point × Shape) → Place
place_or q None = q
place_or q (Some r) = at_point r.0 r.1
