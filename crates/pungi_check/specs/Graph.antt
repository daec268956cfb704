-- The call graph of a file's functions, by their numbers.
--   as_list o           what is found, as a list
--   callees find ws     the numbers of those words that have one
--   Node, node_view     a function of the graph: its finding where no other is refused, and what it calls
--   node_of file find d that of a definition
--   graph_of file       that of each function of a file
--   with_marked ws ds marks    these words, with the names of the marked definitions
use Rattle.std.specs.Prelude.{ℕ, Bool, true, false, List, [], ◌∷◌, ◌++◌, map, Option, Some, None}
use Rattle.pungi_types.specs.Files.{SourceFile, Definition, definitions, number_in}
use Rattle.pungi_types.specs.Names.{with_word}
use Rattle.pungi_types.specs.Functions.{refusal}
use Rattle.pungi_types.specs.declared.finding.Finding.{Finding}
use Rattle.pungi_check.specs.Calls.{called_words}
use Rattle.pungi_check.specs.declared.call_node.CallNode.{CallNode}

abbrev pub as_list : Option ℕ → List ℕ
as_list None = []
as_list (Some j) = j ∷ []

abbrev pub callees : (ℕ → Option ℕ) → List ℕ → List ℕ
callees find [] = []
callees find (w ∷ ws) = as_list (find w) ++ callees find ws

pub record Node : Type 0 where
  pub alone : Option Finding
  pub calls : List ℕ

abbrev pub node_view : CallNode → Node
node_view f = record { alone = f.alone; calls = f.callees.items }

abbrev pub node_of : SourceFile → (ℕ → Option ℕ) → Definition → Node
node_of file find d = record { alone = refusal file [] d; calls = callees find (called_words d) }

abbrev pub graph_of : SourceFile → List Node
graph_of file = map (node_of file (number_in 0 (definitions file.items))) (definitions file.items)

abbrev pub with_marked : List ℕ → List Definition → List Bool → List ℕ
with_marked ws [] marks = ws
with_marked ws (d ∷ ds) [] = ws
with_marked ws (d ∷ ds) (true ∷ marks) = with_marked (with_word ws d.name.0) ds marks
with_marked ws (d ∷ ds) (false ∷ marks) = with_marked ws ds marks
