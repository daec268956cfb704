-- The API that is known before a C file is read.
--   Api                        the names that have a number, in the order of their numbers, the rows of the API calls,
--                              and the terms under which functions are judged
--   builtin_api                that of the manual
--   IsConfigured text api      the rows of a configuration stand after those of the manual, the names of its functions
--                              after the words that are known anyway, and its terms hold
--   IsNoConfiguration text     nothing can be read from a text
--   wrong_text reason          the line of a configuration that is refused
--   long_reason, text_reason   that it is over the limit, that it is no text of TOML
--   fault_reason fault         what is said of a fault, unless it is want of memory
--   IsWrong text reason        why a text within the limit is no configuration: it is no text of TOML, or a key is
--                              wrong, of which the first is named
use Rattle.std.specs.Prelude.{◌≡◌, ◌⊎◌, ℕ, List, ◌++◌, Option, Some, None, Ok, Err, codes}
use Rattle.std.specs.Prelude.{string_bytes}
use Rattle.pungi_base.specs.Witness.{line_end}
use Rattle.pungi_base.specs.Words.{builtin_words}
use Rattle.pungi_api.specs.declared.row.Row.{Row}
use Rattle.pungi_api.specs.Rows.{builtin_rows}
use Rattle.pungi_api.specs.Terms.{FileTerms, manual_terms}
use Rattle.pungi_config.specs.Configuration.{read_text, reading, names_after}
use Rattle.pungi_config.specs.declared.config_fault.ConfigFault.{ConfigFault}
use Rattle.pungi_config.specs.declared.config_fault.ConfigFault.TheVariants.{Text, Shape, Memory}

pub record Api : Type 0 where
  pub names : List (List ℕ)
  pub rows : List (ℕ × Row)
  pub terms : FileTerms

abbrev pub builtin_api : Api
builtin_api = record { names = builtin_words; rows = builtin_rows; terms = manual_terms }

abbrev pub IsConfigured : List ℕ → Api → Type 0
IsConfigured text api =
    (more : List (ℕ × Row)) × (terms : FileTerms)
    × (reading builtin_rows builtin_words text ≡ Some (Ok (more, terms)))
    × (api ≡ record { names = names_after builtin_words text; rows = builtin_rows ++ more; terms = terms })

abbrev pub IsNoConfiguration : List ℕ → Type 0
IsNoConfiguration text = (api : Api) → IsConfigured text api → ⊥

abbrev pub wrong_text : List ℕ → List ℕ
wrong_text reason = codes "configuration refused: " ++ reason ++ line_end

abbrev pub long_reason : List ℕ
long_reason = codes "over 65536 bytes"

abbrev pub text_reason : List ℕ
text_reason = codes "not TOML"

abbrev pub fault_reason : ConfigFault → Option (List ℕ)
fault_reason Text = Some text_reason
fault_reason (Shape key) = Some (string_bytes key)
fault_reason Memory = None

abbrev pub IsWrong : List ℕ → List ℕ → Type 0
IsWrong text reason =
    ((read_text text ≡ None) × (reason ≡ text_reason))
    ⊎ (reading builtin_rows builtin_words text ≡ Some (Err reason))
