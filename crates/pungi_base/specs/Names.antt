-- Distinct texts, each of which has its place in the list as its number.
--   has_text texts text    whether a text is among these
--   with_text texts text   these texts, with one more at the end where it wasn't among them
--   AreDistinct texts      no text stands twice
--   AreNames texts         distinct texts whose numbers fit a `u32`
--   Extends old new        the new texts begin with the old ones, so each text keeps its number
use Rattle.std.specs.Prelude.{◌≡◌, ℕ, ◌+◌, ◌≤◌, ◌^◌, Bool, List, [], ◌∷◌, ◌++◌, length, if◌then◌else◌}
use Rattle.std.specs.List.{list_any, IsDistinct}
use Rattle.std.specs.Str.{bytes_eq}

-- whether a text is among these
abbrev pub has_text : List (List ℕ) → List ℕ → Bool
has_text texts text = list_any (bytes_eq text) texts

-- the texts once this one is among them
abbrev pub with_text : List (List ℕ) → List ℕ → List (List ℕ)
with_text texts text = if has_text texts text then texts else texts ++ text ∷ []

-- no text stands twice
abbrev pub AreDistinct : List (List ℕ) → Type 0
AreDistinct texts = IsDistinct bytes_eq texts

-- distinct texts whose numbers fit a `u32`
pub record AreNames (texts : List (List ℕ)) : Type 0 where
  pub distinct : AreDistinct texts
  pub few : length texts + 1 ≤ 2 ^ 32

-- each text keeps its number
abbrev pub Extends : List (List ℕ) → List (List ℕ) → Type 0
Extends old new = (more : List (List ℕ)) × (new ≡ old ++ more)
