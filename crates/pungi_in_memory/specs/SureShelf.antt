-- A shelf in memory that never fails, as its callers see it.
--   SureState               its texts, the names given, what is left to read, and the texts that were opened
--   sure_text texts name    each name has a text: its own, or the empty one
use Rattle.std.specs.Prelude.{ℕ, List, [], Option, Some, unwrap_or}
use Rattle.pungi_io.specs.OpenedText.{Opened}
use Rattle.pungi_in_memory.specs.MemShelf.{text_named}

pub record SureState : Type 0 where
  pub texts : List (List ℕ × List ℕ)
  pub names_opened : List (List ℕ)
  pub rest : List ℕ
  pub opened : List Opened

abbrev pub sure_text : List (List ℕ × List ℕ) → List ℕ → Option (List ℕ)
sure_text texts name = Some (unwrap_or (text_named texts name) [])
