-- The functions that a function reaches by calls, as a walk over them finds them.
--   IsMarked marks g        a function is marked
--   marked_count marks      how many are marked
--   IsAdded gs marks marks' list list'    these functions were marked, and those that weren't before were put
--                           last, each once
--   AreFrom codes f list    the functions that a function reaches are those of a list
--   CalleesAreCalled        the functions that a function calls are those that its instructions call
--   ReachesByCalls codes f h    h is f, or a function that f calls reaches it so
--   FunctionsAreReached     the functions that a function reaches by calls are those
use Rattle.std.specs.Prelude.{◌≡◌, ◌⊎◌, ◌↔◌, ℕ, ◌+◌, Bool, true, cond, List, ◌++◌, length, Some, slice_get}
use Rattle.std.specs.List.{IsAmong, flat_map, sum_by}
use Rattle.pungi_code.specs.declared.code.Codes.{Codes}
use Rattle.pungi_code.specs.Run.{code_at}
use Rattle.pungi_links.specs.Ring.{Stands}
use Rattle.pungi_shape.specs.Named.{callees_in, callees_of, functions_from, lines_of}

abbrev pub IsMarked : List Bool → ℕ → Type 0
IsMarked marks g = slice_get marks g ≡ Some true

abbrev pub marked_count : List Bool → ℕ
marked_count marks = sum_by (λ b. cond b 1 0) marks

pub record IsAdded (gs : List ℕ) (marks marks' : List Bool) (list list' : List ℕ) : Type 0 where
  pub count : length marks' ≡ length marks
  pub kept : (g : ℕ) → IsMarked marks g → IsMarked marks' g
  pub there : (g : ℕ) → IsAmong gs g → IsMarked marks' g
  pub only : (g : ℕ) → IsMarked marks' g → IsMarked marks g ⊎ IsAmong gs g
  pub new : List ℕ
  pub added : list' ≡ list ++ new
  pub each : (g : ℕ) → Stands g new → (IsMarked marks g → ⊥) × IsMarked marks' g
  pub all : (g : ℕ) → IsMarked marks' g → IsMarked marks g ⊎ Stands g new
  pub once : length list' + marked_count marks ≡ length list + marked_count marks'

pub record AreFrom (codes : Codes) (f : ℕ) (list : List ℕ) : Type 0 where
  pub there : (g : ℕ) → IsAmong (functions_from codes f) g → IsAmong list g
  pub only : (g : ℕ) → IsAmong list g → IsAmong (functions_from codes f) g

-- ---- what is reached

abbrev pub CalleesAreCalled : Type 0
CalleesAreCalled =
    (codes : Codes) (f g : ℕ)
    → IsAmong (callees_of codes f) g ↔ IsAmong (flat_map callees_in (lines_of (code_at codes f))) g

pub data ReachesByCalls (codes : Codes) : ℕ → ℕ → Type 0 where
  itself : (f : ℕ) → ReachesByCalls codes f f
  by_call : (f g h : ℕ) → IsAmong (callees_of codes f) g → ReachesByCalls codes g h → ReachesByCalls codes f h

abbrev pub FunctionsAreReached : Type 0
FunctionsAreReached = (codes : Codes) (f h : ℕ) → IsAmong (functions_from codes f) h ↔ ReachesByCalls codes f h
