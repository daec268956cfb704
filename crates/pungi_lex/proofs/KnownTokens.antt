-- Each name in the tokens of a text is known.
use Rattle.std.proofs.Common.{◌≡◌, ◌+◌, ℕ, Bool, true, false, cond, List, [], ◌∷◌, ◌++◌, length, get_or, drop, Option}
use Rattle.std.proofs.Common.{Some, None, refl, subst, sym, ap, ◌∙◌}
use Rattle.std.specs.Prelude.{option_map, slice_get, Result, Ok, Err, IfOk, pos, not, ◌&&◌, ◌||◌, ◌^◌, nat_le, codes}
use Rattle.std.specs.Prelude.{if◌then◌else◌}
use Rattle.std.proofs.lemmas.List.Elements.{All-nil, All-cons, All-append}
use Rattle.std.proofs.lemmas.Option.{slice_get_within, slice_get-get_or}
use Rattle.pungi_base.specs.declared.pos.Pos.{Pos}
use Rattle.pungi_base.specs.declared.kind.Kind.{Kind}
use Rattle.pungi_base.specs.declared.kind.Kind.TheVariants as kind
use Rattle.pungi_base.specs.CWords.{is_c_word}
use Rattle.pungi_base.specs.declared.token.Token.{Token}
use Rattle.pungi_lex.specs.declared.line.Line.{Line}
use Rattle.pungi_lex.specs.declared.line.Line.TheVariants as lines
use Rattle.pungi_lex.specs.declared.start.Start.{Start}
use Rattle.pungi_lex.specs.declared.start.Start.TheVariants as start
use Rattle.pungi_lex.specs.declared.lex_fault.LexFault.{LexFault}
use Rattle.pungi_lex.specs.Bytes.{is_digit, is_octal_digit, is_hex_digit, begins, begins_with, front_of, after_front}
use Rattle.pungi_lex.specs.Character.{char_after, char_value}
use Rattle.pungi_lex.specs.Known.{IsKnown, AreKnown}
use Rattle.pungi_lex.specs.Line.{next_line, is_fresh}
use Rattle.pungi_lex.specs.Number.{number_kind, int_of, int_kind, hex_of, is_float, value_in, begins_hex, is_suffix}
use Rattle.pungi_lex.specs.Number.{suffix_long, suffix_unsigned, is_past_int, is_in_unsigned}
use Rattle.pungi_lex.specs.Piece.{length_at, IsKind, NamesWord, NamesText, IsMark}
use Rattle.pungi_lex.specs.Quote.{content}
use Rattle.pungi_lex.specs.Start.{is_token, start_of}
use Rattle.pungi_lex.specs.Tokens.{Piece, text_of, IsCut, token_of, tokens_of, AreTokensOf}
use Rattle.pungi_lex.proofs.WordPieces.{word_piece}

abbrev IsKnownIfAny : List (List ℕ) → Option Kind → Type 0
IsKnownIfAny names None = Unit {0}
IsKnownIfAny names (Some k) = IsKnown names k

record KnownIfAny (names : List (List ℕ)) (found : Option Kind) : Type 0 where
  pub is : IsKnownIfAny names found

choose : (names : List (List ℕ)) (b : Bool) (x y : Option Kind) → KnownIfAny names x → KnownIfAny names y
    → KnownIfAny names (cond b x y)
choose names true x y here there = here
choose names false x y here there = there

nothing_known : (names : List (List ℕ)) → KnownIfAny names None
nothing_known names = record { is = tt }

int_known : (names : List (List ℕ)) (decimal : Bool) (value : ℕ) (suffix : List ℕ)
    → KnownIfAny names (int_kind decimal value suffix)
int_known names decimal value suffix =
    let found : Option Kind = Some (kind.Int (pos value) (suffix_long suffix || is_past_int value)
    (suffix_unsigned suffix || (not decimal && not (suffix_long suffix) && is_in_unsigned value))) in
    choose names (is_suffix suffix && nat_le (value + 1) (2 ^ 127)) found None (record { is = tt })
    (nothing_known names)

abbrev hex_kind : List ℕ → Option Kind
hex_kind piece = int_kind false (value_in 16 (front_of is_hex_digit piece)) (after_front is_hex_digit piece)

abbrev octal_kind : List ℕ → Option Kind
octal_kind piece = int_kind false (value_in 8 (front_of is_octal_digit piece)) (after_front is_octal_digit piece)

abbrev decimal_kind : List ℕ → Option Kind
decimal_kind piece = int_kind true (value_in 10 (front_of is_digit piece)) (after_front is_digit piece)

hex_known : (names : List (List ℕ)) (piece : List ℕ) → KnownIfAny names (hex_of piece)
hex_known names piece =
    choose names (begins is_hex_digit piece) (hex_kind piece) None (int_known names false
    (value_in 16 (front_of is_hex_digit piece)) (after_front is_hex_digit piece)) (nothing_known names)

decimal_known : (names : List (List ℕ)) (piece : List ℕ)
    → KnownIfAny names (if begins is_digit piece then decimal_kind piece else None)
decimal_known names piece =
    choose names (begins is_digit piece) (decimal_kind piece) None (int_known names true
    (value_in 10 (front_of is_digit piece)) (after_front is_digit piece)) (nothing_known names)

octal_known : (names : List (List ℕ)) (piece : List ℕ)
    → KnownIfAny names (if begins_with (codes "0") piece then octal_kind piece else if begins is_digit piece then
    decimal_kind piece else None)
octal_known names piece =
    choose names (begins_with (codes "0") piece) (octal_kind piece) (if begins is_digit piece then decimal_kind
    piece else None) (int_known names false (value_in 8 (front_of is_octal_digit piece))
    (after_front is_octal_digit piece)) (decimal_known names piece)

int_of_known : (names : List (List ℕ)) (piece : List ℕ) → KnownIfAny names (int_of piece)
int_of_known names piece =
    choose names (begins_hex piece) (hex_of (drop 2 piece)) (if begins_with (codes "0") piece then octal_kind piece
    else if begins is_digit piece then decimal_kind piece else None) (hex_known names (drop 2 piece))
    (octal_known names piece)

number_known : (names : List (List ℕ)) (piece : List ℕ) → KnownIfAny names (number_kind piece)
number_known names piece =
    choose names (is_float piece) (Some kind.Float) (int_of piece) (record { is = tt }) (int_of_known names piece)

char_known : (names : List (List ℕ)) (value : Option ℕ) → IsKnownIfAny names (option_map kind.Char value)
char_known names None = tt
char_known names (Some b) = tt

abbrev text_or : List ℕ → Option (List ℕ) → List ℕ
text_or d None = d
text_or d (Some w) = w

text_at : (names : List (List ℕ)) (n : ℕ) (word : List ℕ) → slice_get names n ≡ Some word → get_or names n [] ≡ word
text_at names n word e = ap (text_or []) (sym (slice_get-get_or names n [] (slice_get_within names n word e)) ∙ e)

word_known : (names : List (List ℕ)) (found : Option Kind) (word : List ℕ) → is_c_word word ≡ true
    → NamesWord names found word → IsKnownIfAny names found
word_known names None word c s = tt
word_known names (Some (kind.Key key)) word c s = tt
word_known names (Some (kind.Word name)) word c s =
    (slice_get_within names name.0 word s.0, ap is_c_word (text_at names name.0 word s.0) ∙ c)
word_known names (Some (kind.Int value long unsigned)) word c s = tt
word_known names (Some kind.Float) word c s = tt
word_known names (Some (kind.Char b)) word c s = tt
word_known names (Some (kind.Text name)) word c s = absurd s
word_known names (Some (kind.Punct punct)) word c s = tt
word_known names (Some kind.Header) word c s = tt

text_known : (names : List (List ℕ)) (found : Option Kind) (text : List ℕ) → NamesText names found text
    → IsKnownIfAny names found
text_known names None text s = tt
text_known names (Some (kind.Key key)) text s = tt
text_known names (Some (kind.Word name)) text s = absurd s
text_known names (Some (kind.Int value long unsigned)) text s = tt
text_known names (Some kind.Float) text s = tt
text_known names (Some (kind.Char b)) text s = tt
text_known names (Some (kind.Text name)) text s = slice_get_within names name.0 text s
text_known names (Some (kind.Punct punct)) text s = tt
text_known names (Some kind.Header) text s = tt

mark_known : (names : List (List ℕ)) (found : Option Kind) (piece : List ℕ) → IsMark found piece
    → IsKnownIfAny names found
mark_known names None piece s = tt
mark_known names (Some (kind.Key key)) piece s = tt
mark_known names (Some (kind.Word name)) piece s = absurd s
mark_known names (Some (kind.Int value long unsigned)) piece s = tt
mark_known names (Some kind.Float) piece s = tt
mark_known names (Some (kind.Char b)) piece s = tt
mark_known names (Some (kind.Text name)) piece s = absurd s
mark_known names (Some (kind.Punct punct)) piece s = tt
mark_known names (Some kind.Header) piece s = tt

kind_known : (names : List (List ℕ)) (st : Start) (found : Option Kind) (piece : List ℕ)
    → (start.Word ≡ st → is_c_word piece ≡ true) → IsKind names st found piece → IsKnownIfAny names found
kind_known names start.Header found piece w s = subst (IsKnownIfAny names) (sym s) tt
kind_known names start.Blank found piece w s = subst (IsKnownIfAny names) (sym s) tt
kind_known names start.LineComment found piece w s = subst (IsKnownIfAny names) (sym s) tt
kind_known names start.Comment found piece w s = subst (IsKnownIfAny names) (sym s) tt
kind_known names start.Word found piece w s = word_known names found piece (w refl) s
kind_known names start.Number found piece w s = subst (IsKnownIfAny names) (sym s) (number_known names piece).is
kind_known names start.Char found piece w s =
    subst (IsKnownIfAny names) (sym s) (char_known names (char_value (char_after (drop 1 piece))))
kind_known names start.Text found piece w s = text_known names found (content piece) s
kind_known names start.Mark found piece w s = mark_known names found piece s
kind_known names start.Nothing found piece w s = absurd s

token_known : (names : List (List ℕ)) (found : Option Kind) (at : Pos) (first touching : Bool)
    → IsKnownIfAny names found → AreKnown names (token_of found at first touching)
token_known names None at first touching h = All-nil (λ (t : Token). IsKnown names t.kind)
token_known names (Some k) at first touching h =
    All-cons (λ (t : Token). IsKnown names t.kind) (record {
      kind = k;
      pos = at;
      first = first;
      touching = touching;
    }) [] h (All-nil (λ (t : Token). IsKnown names t.kind))

word_of : (line : Line) (st : Start) (bytes rest : List ℕ) → st ≡ start_of line (bytes ++ rest)
    → length_at st (bytes ++ rest) ≡ Some (length bytes) → start.Word ≡ st → is_c_word bytes ≡ true
word_of line st bytes rest begun measured is =
    word_piece line bytes rest (is ∙ begun) (subst (λ (s : Start). length_at s (bytes ++ rest)
    ≡ Some (length bytes)) (sym is) measured)

cut_known : (names : List (List ℕ)) (place : ℕ → Pos) (n : ℕ) (line : Line) (touching : Bool) (pieces : List Piece)
    (rest : List ℕ) → IsCut names line pieces rest → AreKnown names (tokens_of place n line touching pieces)
cut_known names place n line touching [] rest cut = All-nil (λ (t : Token). IsKnown names t.kind)
cut_known names place n line touching (p ∷ pieces) rest cut =
    All-append (λ (t : Token). IsKnown names t.kind) (token_of p.found (place n) (is_fresh line) touching)
    (tokens_of place (n + length p.bytes) (next_line line p.start p.bytes) (is_token p.start) pieces)
    (token_known names p.found (place n) (is_fresh line) touching (kind_known names p.start p.found p.bytes
    (word_of line p.start p.bytes (text_of pieces ++ rest) cut.0 cut.1) cut.2))
    (cut_known names place (n + length p.bytes) (next_line line p.start p.bytes) (is_token p.start) pieces rest cut.3)

pub tokens_known : {A : Type 0} (items : A → List Token) (before after : List (List ℕ)) (text : List ℕ)
    (r : Result A LexFault) → IfOk r (λ found. AreTokensOf before after text (items found))
    → IfOk r (λ found. AreKnown after (items found))
tokens_known items before after text (Ok found) x =
    subst (AreKnown after) (sym x.tokens_are) (cut_known after _ 0 lines.Fresh false x.pieces [] x.cut)
tokens_known items before after text (Err f) x = tt
