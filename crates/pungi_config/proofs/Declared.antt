-- The convention that a table of keys declares.
use Rattle.std.proofs.Common.{◌≡◌, ℕ, false, List, [], ◌∷◌, length, Some, String, Global, IsTrue, refl, subst}
use Rattle.std.proofs.Common.{true≢false, sym}
use Rattle.toml.specs.Data.{Data, string, integer, float, boolean, datetime, array, table, as_table}
use Rattle.toml.specs.View.{members_view}
use Rattle.toml.specs.declared.value.Value.{Value}
use Rattle.pungi_api.specs.Terms.{nothing_declared}
use Rattle.pungi_config.specs.Conventions.{read_convention_keys}
use Rattle.pungi_config.specs.Configuration.{convention_path, read_declared, under}
use Rattle.pungi_config.proofs.Parts.{some_same}

abbrev IsDeclaredBy : List ℕ → List (String Global × Value) → Data → Type 0
IsDeclaredBy name es d =
    read_declared name d ≡ under (convention_path name) (read_convention_keys nothing_declared (members_view es))

of_entries : (name : List ℕ) (es : List (String Global × Value)) → (length es ≡ 0 → IsTrue false)
    → IsDeclaredBy name es (table (members_view es))
of_entries name [] some = absurd (true≢false (sym (some refl)))
of_entries name (e ∷ es) some = refl

-- a value that is a table with entries
pub declared_by : (name : List ℕ) (es : List (String Global × Value)) (d : Data) → (length es ≡ 0 → IsTrue false)
    → Some (members_view es) ≡ as_table d → IsDeclaredBy name es d
declared_by name es (table ms) some e =
    subst (λ t. IsDeclaredBy name es (table t)) (some_same (members_view es) ms e) (of_entries name es some)
declared_by name es (string s) some e = absurd cc
declared_by name es (integer z) some e = absurd cc
declared_by name es (float x) some e = absurd cc
declared_by name es (boolean b) some e = absurd cc
declared_by name es (datetime t) some e = absurd cc
declared_by name es (array ds) some e = absurd cc
