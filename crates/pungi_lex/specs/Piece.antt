-- The longest spelling at a place (C11 6.4), and what it is.
--   length_at start text           how long the piece at the front of a text is where this begins, if it is there
--   NamesWord names kind piece, NamesText names kind text, IsMark kind piece    a keyword or a word; a string literal;
--   a punctuator
--   IsKind names start kind piece   the kind of this piece under these names; None for blanks and comments
--   spells start piece              what a piece adds to the names: a word its spelling, a string literal its content
--   with_texts names texts          these names, and after them those of the texts that are new, in order
--   IsPieceAt names start text kind n   the piece at the front of a text has this kind and n bytes
use Rattle.std.specs.Prelude.{◌≡◌, ◌≤◌, ◌<◌, ◌==◌, ℕ, false, List, [], ◌∷◌, length, take, drop, fold, Option, Some}
use Rattle.std.specs.Prelude.{None, is_some, option_map, slice_get, if◌then◌else◌}
use Rattle.std.specs.List.{prefix_len}
use Rattle.pungi_base.specs.declared.kind.Kind.{Kind}
use Rattle.pungi_base.specs.declared.kind.Kind.TheVariants as kind
use Rattle.pungi_base.specs.Numbers.{keyword_count}
use Rattle.pungi_base.specs.Names.{with_text}
use Rattle.pungi_base.specs.Token.{key_number, punct_text}
use Rattle.pungi_lex.specs.declared.start.Start.{Start}
use Rattle.pungi_lex.specs.declared.start.Start.TheVariants as start
use Rattle.pungi_lex.specs.Bytes.{is_blank, is_in_line, is_word_byte}
use Rattle.pungi_lex.specs.Character.{char_after, char_length, char_value}
use Rattle.pungi_lex.specs.Comment.{close_count}
use Rattle.pungi_lex.specs.Lengths.{add_to}
use Rattle.pungi_lex.specs.Mark.{mark_len}
use Rattle.pungi_lex.specs.Number.{number_kind, number_count}
use Rattle.pungi_lex.specs.Quote.{quote_count, content}

abbrev pub length_at : Start → List ℕ → Option ℕ
length_at start.Header text = Some (prefix_len is_in_line text)
length_at start.Blank text = Some (prefix_len is_blank text)
length_at start.LineComment text = Some (prefix_len is_in_line text)
length_at start.Comment text = add_to 2 (close_count (drop 2 text))
length_at start.Word text = Some (prefix_len is_word_byte text)
length_at start.Number text =
    if is_some (number_kind (take (number_count text) text)) then Some (number_count text) else None
length_at start.Char text = char_length (char_after (drop 1 text))
length_at start.Text text = add_to 1 (quote_count false (drop 1 text))
length_at start.Mark text = if mark_len text == 0 then None else Some (mark_len text)
length_at start.Nothing text = None

-- a keyword, or another word
abbrev pub NamesWord : List (List ℕ) → Option Kind → List ℕ → Type 0
NamesWord names None word = ⊥
NamesWord names (Some (kind.Key key)) word = slice_get names (key_number key) ≡ Some word
NamesWord names (Some (kind.Word name)) word = (slice_get names name.0 ≡ Some word) × (keyword_count ≤ name.0)
NamesWord names (Some (kind.Int value long unsigned)) word = ⊥
NamesWord names (Some kind.Float) word = ⊥
NamesWord names (Some (kind.Char b)) word = ⊥
NamesWord names (Some (kind.Text name)) word = ⊥
NamesWord names (Some (kind.Punct punct)) word = ⊥
NamesWord names (Some kind.Header) word = ⊥

-- a string literal of this content
abbrev pub NamesText : List (List ℕ) → Option Kind → List ℕ → Type 0
NamesText names None text = ⊥
NamesText names (Some (kind.Key key)) text = ⊥
NamesText names (Some (kind.Word name)) text = ⊥
NamesText names (Some (kind.Int value long unsigned)) text = ⊥
NamesText names (Some kind.Float) text = ⊥
NamesText names (Some (kind.Char b)) text = ⊥
NamesText names (Some (kind.Text name)) text = slice_get names name.0 ≡ Some text
NamesText names (Some (kind.Punct punct)) text = ⊥
NamesText names (Some kind.Header) text = ⊥

-- a punctuator
abbrev pub IsMark : Option Kind → List ℕ → Type 0
IsMark None piece = ⊥
IsMark (Some (kind.Key key)) piece = ⊥
IsMark (Some (kind.Word name)) piece = ⊥
IsMark (Some (kind.Int value long unsigned)) piece = ⊥
IsMark (Some kind.Float) piece = ⊥
IsMark (Some (kind.Char b)) piece = ⊥
IsMark (Some (kind.Text name)) piece = ⊥
IsMark (Some (kind.Punct punct)) piece = punct_text punct ≡ piece
IsMark (Some kind.Header) piece = ⊥

abbrev pub IsKind : List (List ℕ) → Start → Option Kind → List ℕ → Type 0
IsKind names start.Header found piece = found ≡ Some kind.Header
IsKind names start.Blank found piece = found ≡ None
IsKind names start.LineComment found piece = found ≡ None
IsKind names start.Comment found piece = found ≡ None
IsKind names start.Word found piece = NamesWord names found piece
IsKind names start.Number found piece = found ≡ number_kind piece
IsKind names start.Char found piece = found ≡ option_map kind.Char (char_value (char_after (drop 1 piece)))
IsKind names start.Text found piece = NamesText names found (content piece)
IsKind names start.Mark found piece = IsMark found piece
IsKind names start.Nothing found piece = ⊥

abbrev pub spells : Start → List ℕ → List (List ℕ)
spells start.Header piece = []
spells start.Blank piece = []
spells start.LineComment piece = []
spells start.Comment piece = []
spells start.Word piece = piece ∷ []
spells start.Number piece = []
spells start.Char piece = []
spells start.Text piece = content piece ∷ []
spells start.Mark piece = []
spells start.Nothing piece = []

abbrev pub with_texts : List (List ℕ) → List (List ℕ) → List (List ℕ)
with_texts names texts = fold with_text names texts

pub record IsPieceAt (names : List (List ℕ)) (start : Start) (text : List ℕ) (found : Option Kind) (count : ℕ) :
    Type 0 where
  pub measured : length_at start text ≡ Some count
  pub some : 0 < count
  pub within : count ≤ length text
  pub named : IsKind names start found (take count text)
