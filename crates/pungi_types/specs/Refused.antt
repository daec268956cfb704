-- The refused functions of a file: the least set that holds each function in which a rule holds, N9 being read with
-- that set.
--   CheckedFile             a file with the names of its refused functions
--   Holds file set          the set, as the names of functions, holds each function in which a rule holds
--   IsRefusedSet file set   it is the least such set
use Rattle.std.specs.Prelude.{◌≡◌, ℕ, IsTrue, List, Some, slice_get, is_some}
use Rattle.pungi_types.specs.Files.{SourceFile, Definition, definitions}
use Rattle.pungi_types.specs.Names.{is_among}
use Rattle.pungi_types.specs.Functions.{refusal}

pub record CheckedFile : Type 0 where
  pub file : SourceFile
  pub refused : List ℕ

-- the set, as the names of functions, holds each function in which a rule holds
abbrev pub Holds : SourceFile → List ℕ → Type 0
Holds file set = (i : ℕ) (d : Definition) → slice_get (definitions file.items) i ≡ Some d
    → IsTrue (is_some (refusal file set d)) → IsTrue (is_among set d.name.0)

pub record IsRefusedSet (file : SourceFile) (set : List ℕ) : Type 0 where
  pub holds : Holds file set
  pub least : (other : List ℕ) → Holds file other → (w : ℕ) → IsTrue (is_among set w) → IsTrue (is_among other w)
