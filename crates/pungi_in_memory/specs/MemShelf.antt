-- A shelf in memory, as its callers see it.
--   text_named texts name     the text of a name among pairs of names and texts
--   pair_of t, pairs_of texts such pairs, as contracts read them
--   left_at texts i from      what is left of the text at a place, and nothing past the last text
--   ShelfState                its texts, the calls that fail, how many calls and faults came, the names given, what is
--                             left to read, and the texts that were opened
--   open_fails s name         an open fails at its call, or where the name isn't there
--   shelf_asked s name        the name counts as given
--   shelf_failed s            after a call that failed
--   shelf_opened s name rest  after an open of this name that leaves this to read
--   shelf_read s count buf rest    after a read that gave so many bytes, the first of a buffer, and leaves this to read
use Rattle.std.specs.Prelude.{ℕ, Bool, ◌||◌, List, [], ◌∷◌, ◌++◌, drop, map, slice_get, Option, None, Some, is_none}
use Rattle.std.specs.Prelude.{if◌then◌else◌, String, Vec, string_bytes}
use Rattle.std.specs.Option.{option_map_or}
use Rattle.std.specs.declared.alloc.Global.{Global}
use Rattle.std.specs.Str.{bytes_eq}
use Rattle.pungi_io.specs.OpenedText.{Opened, just_opened, on_last, with_read}
use Rattle.pungi_in_memory.specs.Calls.{next_call, is_failing}

abbrev pub text_named : List (List ℕ × List ℕ) → List ℕ → Option (List ℕ)
text_named [] name = None
text_named (t ∷ texts) name = if bytes_eq t.0 name then Some t.1 else text_named texts name

abbrev pub pair_of : String Global × Vec ℕ Global → List ℕ × List ℕ
pair_of t = (string_bytes t.0, t.1.items)

abbrev pub pairs_of : List (String Global × Vec ℕ Global) → List (List ℕ × List ℕ)
pairs_of texts = map pair_of texts

abbrev pub left_at : List (String Global × Vec ℕ Global) → ℕ → ℕ → List ℕ
left_at texts i from = drop from (option_map_or (λ t. t.1.items) (slice_get texts i) [])

pub record ShelfState : Type 0 where
  pub texts : List (List ℕ × List ℕ)
  pub failing : List ℕ
  pub calls : ℕ
  pub faults : ℕ
  pub names_opened : List (List ℕ)
  pub rest : List ℕ
  pub opened : List Opened

abbrev pub open_fails : ShelfState → List ℕ → Bool
open_fails s name = is_failing s.failing s.calls || is_none (text_named s.texts name)

abbrev pub shelf_asked : ShelfState → List ℕ → ShelfState
shelf_asked s name = record s { names_opened = s.names_opened ++ name ∷ [] }

abbrev pub shelf_failed : ShelfState → ShelfState
shelf_failed s = record s { calls = next_call s.calls; faults = next_call s.faults }

abbrev pub shelf_opened : ShelfState → List ℕ → List ℕ → ShelfState
shelf_opened s name rest = record s {
  calls = next_call s.calls;
  rest = rest;
  opened = s.opened ++ just_opened name ∷ [];
}

abbrev pub shelf_read : ShelfState → ℕ → List ℕ → List ℕ → ShelfState
shelf_read s count buf rest = record s {
  calls = next_call s.calls;
  rest = rest;
  opened = on_last (with_read count buf) s.opened;
}
