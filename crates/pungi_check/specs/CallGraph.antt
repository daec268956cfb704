-- The call graph of a file, and the functions from which a call leads to a refused one.
--   alone_in o, callees_in o    the parts of a function that may be missing
--   is_alone fs i           a rule holds in function i where no other is refused
--   is_call fs i j          function i calls function j
--   Reaches fs i            from function i calls lead to one in which a rule holds alone, or it is one
--   IsReached fs marks      the marks are those of the functions that reach one
--   IsCallGraph file fs    the functions are those of the file
--   refused_names ds marks  the names of the marked definitions
use Rattle.std.specs.Prelude.{◌≡◌, ℕ, Bool, true, false, IsTrue, List, [], ◌∷◌, length, get_or, slice_get, Option, Some}
use Rattle.std.specs.Prelude.{None, is_some}
use Rattle.pungi_types.specs.Files.{SourceFile, Definition, definitions}
use Rattle.pungi_types.specs.Names.{is_among}
use Rattle.pungi_types.specs.Functions.{refusal}
use Rattle.pungi_check.specs.Calls.{called_words}
use Rattle.pungi_check.specs.declared.call_node.CallNode.{CallNode}

abbrev pub alone_in : Option CallNode → Bool
alone_in None = false
alone_in (Some f) = is_some f.alone

abbrev pub callees_in : Option CallNode → List ℕ
callees_in None = []
callees_in (Some f) = f.callees.items

abbrev pub is_alone : List CallNode → ℕ → Bool
is_alone fs i = alone_in (slice_get fs i)

abbrev pub is_call : List CallNode → ℕ → ℕ → Bool
is_call fs i j = is_among (callees_in (slice_get fs i)) j

pub data Reaches (fs : List CallNode) : ℕ → Type 0 where
  alone : (i : ℕ) → IsTrue (is_alone fs i) → Reaches fs i
  by_call : (i j : ℕ) → IsTrue (is_call fs i j) → Reaches fs j → Reaches fs i

pub record IsReached (fs : List CallNode) (marks : List Bool) : Type 0 where
  pub count : length marks ≡ length fs
  pub sound : (i : ℕ) → IsTrue (get_or marks i false) → Reaches fs i
  pub complete : (i : ℕ) → Reaches fs i → IsTrue (get_or marks i false)

-- a function is refused alone as the rules say of the empty set, and calls another by its name
pub record IsCallGraph (file : SourceFile) (fs : List CallNode) : Type 0 where
  pub count : length fs ≡ length (definitions file.items)
  pub alone : (i : ℕ) (d : Definition) → slice_get (definitions file.items) i ≡ Some d
      → is_alone fs i ≡ is_some (refusal file [] d)
  pub calls : (i j : ℕ) (d e : Definition) → slice_get (definitions file.items) i ≡ Some d
      → slice_get (definitions file.items) j ≡ Some e
      → is_call fs i j ≡ is_among (called_words d) e.name.0

abbrev pub refused_names : List Definition → List Bool → List ℕ
refused_names [] marks = []
refused_names (d ∷ ds) [] = []
refused_names (d ∷ ds) (true ∷ marks) = d.name.0 ∷ refused_names ds marks
refused_names (d ∷ ds) (false ∷ marks) = refused_names ds marks
