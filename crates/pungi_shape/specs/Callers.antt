-- Which functions of a file call a function.
--   callers_of lists g      a function's list of those that call it
--   AreNoted f gs old new   a function was put into the lists of all these
--   AreCallers codes lists  for each function these are those that call it
use Rattle.std.specs.Prelude.{◌≡◌, ◌⊎◌, ℕ, ◌<◌, List, [], length}
use Rattle.std.specs.List.{IsAmong, slice_index_or}
use Rattle.pungi_code.specs.declared.code.Codes.{Codes}
use Rattle.pungi_links.specs.Ring.{Stands}
use Rattle.pungi_shape.specs.Named.{callees_of}

abbrev pub callers_of : List (List ℕ) → ℕ → List ℕ
callers_of lists g = slice_index_or lists g []

pub record AreNoted (f : ℕ) (gs : List ℕ) (old new : List (List ℕ)) : Type 0 where
  pub count : length new ≡ length old
  pub kept : (h g : ℕ) → Stands h (callers_of old g) → Stands h (callers_of new g)
  pub there : (g : ℕ) → IsAmong gs g → Stands f (callers_of new g)
  pub only : (h g : ℕ) → Stands h (callers_of new g) → Stands h (callers_of old g) ⊎ (h ≡ f)

pub record AreCallers (codes : Codes) (lists : List (List ℕ)) : Type 0 where
  pub count : length lists ≡ length codes.codes
  pub there : (f g : ℕ) → IsAmong (callees_of codes f) g → Stands f (callers_of lists g)
  pub below : (f g : ℕ) → Stands f (callers_of lists g) → f < length codes.codes
