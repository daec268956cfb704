-- How a text is cut into tokens (C11 6.4), once its line joins are taken out.
--   Piece                     blanks, a comment or a token: what begins there, its kind if it is a token, its bytes
--   text_of pieces            the bytes of these pieces
--   IsCut names line ps rest  a text is these pieces and then rest, each piece the longest at its place
--   line_after line pieces    how far the line has come after these pieces
--   token_of, tokens_of       the token of a kind; those among pieces, each with its place, whether it is the first on
--                             its line, and whether it touches the token before
--   spelled pieces            the words and the contents of string literals among pieces, in order
--   AreTokens before after bytes place tokens   the tokens of bytes with their places
--   AreTokensOf before after text tokens   the tokens of a text, under the names before it and those after it
--   fault_at start at         what a place is refused as where nothing of its sort is whole
--   IsStuck bytes place fault, IsRefused bytes place fault    the bytes are cut as far as a place and no piece is whole
--                                                             there; so
--                             they are, but for want of memory
--   HasFault text fault       the text is cut as far as a place, and nothing of what begins there is whole
--   HasNoTokens before text   the text has no tokens under these names
--   is_memory fault           the text was refused for want of memory
use Rattle.std.specs.Prelude.{◌≡◌, ◌≢◌, ℕ, ◌+◌, Bool, true, false, List, [], ◌∷◌, ◌++◌, length, Option, Some, None}
use Rattle.pungi_base.specs.declared.pos.Pos.{Pos}
use Rattle.pungi_base.specs.declared.kind.Kind.{Kind}
use Rattle.pungi_base.specs.declared.token.Token.{Token}
use Rattle.pungi_lex.specs.declared.line.Line.{Line}
use Rattle.pungi_lex.specs.declared.line.Line.TheVariants as lines
use Rattle.pungi_lex.specs.declared.start.Start.{Start}
use Rattle.pungi_lex.specs.declared.start.Start.TheVariants as start
use Rattle.pungi_lex.specs.declared.lex_fault.LexFault.{LexFault}
use Rattle.pungi_lex.specs.declared.lex_fault.LexFault.TheVariants as fault
use Rattle.pungi_lex.specs.Join.{joined, plain, places_of, place_in}
use Rattle.pungi_lex.specs.Line.{next_line, is_fresh}
use Rattle.pungi_lex.specs.Piece.{length_at, IsKind, spells, with_texts}
use Rattle.pungi_lex.specs.Start.{start_of, is_token}

pub record Piece : Type 0 where
  pub start : Start
  pub found : Option Kind
  pub bytes : List ℕ

abbrev pub text_of : List Piece → List ℕ
text_of [] = []
text_of (p ∷ pieces) = p.bytes ++ text_of pieces

abbrev pub IsCut : List (List ℕ) → Line → List Piece → List ℕ → Type 0
IsCut names line [] rest = Unit {0}
IsCut names line (p ∷ pieces) rest =
    (p.start ≡ start_of line (p.bytes ++ (text_of pieces ++ rest)))
    × (length_at p.start (p.bytes ++ (text_of pieces ++ rest)) ≡ Some (length p.bytes))
    × IsKind names p.start p.found p.bytes
    × IsCut names (next_line line p.start p.bytes) pieces rest

abbrev pub line_after : Line → List Piece → Line
line_after line [] = line
line_after line (p ∷ pieces) = line_after (next_line line p.start p.bytes) pieces

abbrev pub token_of : Option Kind → Pos → Bool → Bool → List Token
token_of None at first touching = []
token_of (Some k) at first touching = (record { kind = k; pos = at; first = first; touching = touching }) ∷ []

-- the pieces begin at the n-th byte, and `place` gives the place of each byte
abbrev pub tokens_of : (ℕ → Pos) → ℕ → Line → Bool → List Piece → List Token
tokens_of place n line touching [] = []
tokens_of place n line touching (p ∷ pieces) =
    token_of p.found (place n) (is_fresh line) touching
    ++ tokens_of place (n + length p.bytes) (next_line line p.start p.bytes) (is_token p.start) pieces

abbrev pub spelled : List Piece → List (List ℕ)
spelled [] = []
spelled (p ∷ pieces) = spells p.start p.bytes ++ spelled pieces

-- the tokens of bytes with their places
pub record AreTokens (before after : List (List ℕ)) (bytes : List ℕ) (place : ℕ → Pos) (tokens : List Token) : Type
    0 where
  pub pieces : List Piece
  pub whole : bytes ≡ text_of pieces ++ []
  pub cut : IsCut after lines.Fresh pieces []
  pub names_are : after ≡ with_texts before (spelled pieces)
  pub tokens_are : tokens ≡ tokens_of place 0 lines.Fresh false pieces

abbrev pub AreTokensOf : List (List ℕ) → List (List ℕ) → List ℕ → List Token → Type 0
AreTokensOf before after text tokens = AreTokens before after (plain text) (place_in (places_of (joined text))) tokens

-- what a place is refused as where nothing of its sort is whole
abbrev pub fault_at : Start → Pos → LexFault
fault_at start.Comment at = fault.OpenComment at
fault_at start.Text at = fault.OpenText at
fault_at start.Number at = fault.Number at
fault_at start.Char at = fault.Number at
fault_at start.Header at = fault.Byte at
fault_at start.Blank at = fault.Byte at
fault_at start.LineComment at = fault.Byte at
fault_at start.Word at = fault.Byte at
fault_at start.Mark at = fault.Byte at
fault_at start.Nothing at = fault.Byte at

-- the bytes are cut as far as a place that isn't their end, and no piece is whole there
pub record IsStuck (bytes : List ℕ) (place : ℕ → Pos) (found : LexFault) : Type 0 where
  pub names : List (List ℕ)
  pub pieces : List Piece
  pub rest : List ℕ
  pub whole : bytes ≡ text_of pieces ++ rest
  pub cut : IsCut names lines.Fresh pieces rest
  pub more : rest ≢ []
  pub stuck : length_at (start_of (line_after lines.Fresh pieces) rest) rest ≡ None
  pub told : found ≡ fault_at (start_of (line_after lines.Fresh pieces) rest) (place (length (text_of pieces)))

abbrev pub HasFault : List ℕ → LexFault → Type 0
HasFault text found = IsStuck (plain text) (place_in (places_of (joined text))) found

abbrev pub HasNoTokens : List (List ℕ) → List ℕ → Type 0
HasNoTokens before text = (after : List (List ℕ)) → (tokens : List Token) → AreTokensOf before after text tokens → ⊥

abbrev pub is_memory : LexFault → Bool
is_memory fault.Memory = true
is_memory (fault.Byte at) = false
is_memory (fault.OpenComment at) = false
is_memory (fault.OpenText at) = false
is_memory (fault.Number at) = false

-- why bytes are refused, but for want of memory
abbrev pub IsRefused : List ℕ → (ℕ → Pos) → LexFault → Type 0
IsRefused bytes place found = is_memory found ≡ false → IsStuck bytes place found
