-- Each integer constant in the tokens of a text has its size.
use Rattle.std.proofs.Common.{◌≡◌, ◌<◌, ◌+◌, ℕ, Bool, true, false, cond, List, [], ◌∷◌, length, drop, Option, Some}
use Rattle.std.proofs.Common.{None, refl, subst, sym, arith, true≢false}
use Rattle.std.specs.Prelude.{option_map, Result, Ok, Err, IfOk, pos, not, ◌&&◌, ◌||◌, ◌^◌, nat_le, codes}
use Rattle.std.specs.Prelude.{if◌then◌else◌}
use Rattle.std.proofs.lemmas.List.Elements.{All-nil, All-cons, All-append}
use Rattle.std.proofs.lemmas.Bool.Decides.{nat_tests}
use Rattle.pungi_base.specs.declared.pos.Pos.{Pos}
use Rattle.pungi_base.specs.declared.kind.Kind.{Kind}
use Rattle.pungi_base.specs.declared.kind.Kind.TheVariants as kind
use Rattle.pungi_base.specs.declared.token.Token.{Token}
use Rattle.pungi_lex.specs.declared.line.Line.{Line}
use Rattle.pungi_lex.specs.declared.line.Line.TheVariants as lines
use Rattle.pungi_lex.specs.declared.start.Start.{Start}
use Rattle.pungi_lex.specs.declared.start.Start.TheVariants as start
use Rattle.pungi_lex.specs.declared.lex_fault.LexFault.{LexFault}
use Rattle.pungi_lex.specs.Bytes.{is_digit, is_octal_digit, is_hex_digit, begins, begins_with, front_of, after_front}
use Rattle.pungi_lex.specs.Character.{char_after, char_value}
use Rattle.pungi_lex.specs.Size.{IsSized, AreSized}
use Rattle.pungi_lex.specs.Line.{next_line, is_fresh}
use Rattle.pungi_lex.specs.Number.{number_kind, int_of, int_kind, hex_of, is_float, value_in, begins_hex, is_suffix}
use Rattle.pungi_lex.specs.Number.{suffix_long, suffix_unsigned, is_past_int, is_in_unsigned}
use Rattle.pungi_lex.specs.Piece.{IsKind, NamesWord, NamesText, IsMark}
use Rattle.pungi_lex.specs.Quote.{content}
use Rattle.pungi_lex.specs.Start.{is_token}
use Rattle.pungi_lex.specs.Tokens.{Piece, IsCut, token_of, tokens_of, AreTokensOf}

abbrev IsSizedIfAny : Option Kind → Type 0
IsSizedIfAny None = Unit {0}
IsSizedIfAny (Some k) = IsSized k

record SizedIfAny (found : Option Kind) : Type 0 where
  pub is : IsSizedIfAny found

choose : (b : Bool) (x y : Option Kind) → SizedIfAny x → SizedIfAny y → SizedIfAny (cond b x y)
choose true x y here there = here
choose false x y here there = there

nothing_sized : SizedIfAny None
nothing_sized = record { is = tt }

not_long : (value : ℕ) (suffixed : Bool) → (suffixed || is_past_int value) ≡ false → value < 2 ^ 31
not_long value true h = absurd (true≢false h)
not_long value false h = grind (arith, nat_tests, h)

int_sized : (decimal : Bool) (value : ℕ) (suffix : List ℕ) → SizedIfAny (int_kind decimal value suffix)
int_sized decimal value suffix =
    let found : Option Kind = Some (kind.Int (pos value) (suffix_long suffix || is_past_int value)
    (suffix_unsigned suffix || (not decimal && not (suffix_long suffix) && is_in_unsigned value))) in
    choose (is_suffix suffix && nat_le (value + 1) (2 ^ 127)) found None (record
    { is = (value, refl, λ h. not_long value (suffix_long suffix) h) }) nothing_sized

abbrev hex_kind : List ℕ → Option Kind
hex_kind piece = int_kind false (value_in 16 (front_of is_hex_digit piece)) (after_front is_hex_digit piece)

abbrev octal_kind : List ℕ → Option Kind
octal_kind piece = int_kind false (value_in 8 (front_of is_octal_digit piece)) (after_front is_octal_digit piece)

abbrev decimal_kind : List ℕ → Option Kind
decimal_kind piece = int_kind true (value_in 10 (front_of is_digit piece)) (after_front is_digit piece)

hex_sized : (piece : List ℕ) → SizedIfAny (hex_of piece)
hex_sized piece =
    choose (begins is_hex_digit piece) (hex_kind piece) None (int_sized false
    (value_in 16 (front_of is_hex_digit piece)) (after_front is_hex_digit piece)) (nothing_sized)

decimal_sized : (piece : List ℕ) → SizedIfAny (if begins is_digit piece then decimal_kind piece else None)
decimal_sized piece =
    choose (begins is_digit piece) (decimal_kind piece) None (int_sized true (value_in 10 (front_of is_digit piece))
    (after_front is_digit piece)) (nothing_sized)

octal_sized : (piece : List ℕ) → SizedIfAny (if begins_with (codes "0") piece then octal_kind piece else if begins
    is_digit piece then decimal_kind piece else None)
octal_sized piece =
    choose (begins_with (codes "0") piece) (octal_kind piece) (if begins is_digit piece then decimal_kind piece else
    None) (int_sized false (value_in 8 (front_of is_octal_digit piece)) (after_front is_octal_digit piece))
    (decimal_sized piece)

int_of_sized : (piece : List ℕ) → SizedIfAny (int_of piece)
int_of_sized piece =
    choose (begins_hex piece) (hex_of (drop 2 piece)) (if begins_with (codes "0") piece then octal_kind piece else
    if begins is_digit piece then decimal_kind piece else None) (hex_sized (drop 2 piece)) (octal_sized piece)

number_sized : (piece : List ℕ) → SizedIfAny (number_kind piece)
number_sized piece = choose (is_float piece) (Some kind.Float) (int_of piece) (record { is = tt }) (int_of_sized piece)

char_sized : (value : Option ℕ) → IsSizedIfAny (option_map kind.Char value)
char_sized None = tt
char_sized (Some b) = tt

word_sized : (names : List (List ℕ)) (found : Option Kind) (word : List ℕ) → NamesWord names found word
    → IsSizedIfAny found
word_sized names None word s = tt
word_sized names (Some (kind.Key key)) word s = tt
word_sized names (Some (kind.Word name)) word s = tt
word_sized names (Some (kind.Int value long unsigned)) word s = absurd s
word_sized names (Some kind.Float) word s = tt
word_sized names (Some (kind.Char b)) word s = tt
word_sized names (Some (kind.Text name)) word s = tt
word_sized names (Some (kind.Punct punct)) word s = tt
word_sized names (Some kind.Header) word s = tt

text_sized : (names : List (List ℕ)) (found : Option Kind) (text : List ℕ) → NamesText names found text
    → IsSizedIfAny found
text_sized names None text s = tt
text_sized names (Some (kind.Key key)) text s = tt
text_sized names (Some (kind.Word name)) text s = tt
text_sized names (Some (kind.Int value long unsigned)) text s = absurd s
text_sized names (Some kind.Float) text s = tt
text_sized names (Some (kind.Char b)) text s = tt
text_sized names (Some (kind.Text name)) text s = tt
text_sized names (Some (kind.Punct punct)) text s = tt
text_sized names (Some kind.Header) text s = tt

mark_sized : (found : Option Kind) (piece : List ℕ) → IsMark found piece → IsSizedIfAny found
mark_sized None piece s = tt
mark_sized (Some (kind.Key key)) piece s = tt
mark_sized (Some (kind.Word name)) piece s = tt
mark_sized (Some (kind.Int value long unsigned)) piece s = absurd s
mark_sized (Some kind.Float) piece s = tt
mark_sized (Some (kind.Char b)) piece s = tt
mark_sized (Some (kind.Text name)) piece s = tt
mark_sized (Some (kind.Punct punct)) piece s = tt
mark_sized (Some kind.Header) piece s = tt

kind_sized : (names : List (List ℕ)) (st : Start) (found : Option Kind) (piece : List ℕ)
    → IsKind names st found piece → IsSizedIfAny found
kind_sized names start.Header found piece s = subst IsSizedIfAny (sym s) tt
kind_sized names start.Blank found piece s = subst IsSizedIfAny (sym s) tt
kind_sized names start.LineComment found piece s = subst IsSizedIfAny (sym s) tt
kind_sized names start.Comment found piece s = subst IsSizedIfAny (sym s) tt
kind_sized names start.Word found piece s = word_sized names found piece s
kind_sized names start.Number found piece s = subst IsSizedIfAny (sym s) (number_sized piece).is
kind_sized names start.Char found piece s =
    subst IsSizedIfAny (sym s) (char_sized (char_value (char_after (drop 1 piece))))
kind_sized names start.Text found piece s = text_sized names found (content piece) s
kind_sized names start.Mark found piece s = mark_sized found piece s
kind_sized names start.Nothing found piece s = absurd s

token_sized : (found : Option Kind) (at : Pos) (first touching : Bool) → IsSizedIfAny found
    → AreSized (token_of found at first touching)
token_sized None at first touching h = All-nil (λ (t : Token). IsSized t.kind)
token_sized (Some k) at first touching h =
    All-cons (λ (t : Token). IsSized t.kind) (record { kind = k; pos = at; first = first; touching = touching }) []
    h (All-nil (λ (t : Token). IsSized t.kind))

cut_sized : (names : List (List ℕ)) (place : ℕ → Pos) (n : ℕ) (line : Line) (touching : Bool) (pieces : List Piece)
    (rest : List ℕ) → IsCut names line pieces rest → AreSized (tokens_of place n line touching pieces)
cut_sized names place n line touching [] rest cut = All-nil (λ (t : Token). IsSized t.kind)
cut_sized names place n line touching (p ∷ pieces) rest cut =
    All-append (λ (t : Token). IsSized t.kind) (token_of p.found (place n) (is_fresh line) touching)
    (tokens_of place (n + length p.bytes) (next_line line p.start p.bytes) (is_token p.start) pieces)
    (token_sized p.found (place n) (is_fresh line) touching (kind_sized names p.start p.found p.bytes cut.2))
    (cut_sized names place (n + length p.bytes) (next_line line p.start p.bytes) (is_token p.start) pieces rest cut.3)

pub tokens_sized : {A : Type 0} (items : A → List Token) (before after : List (List ℕ)) (text : List ℕ)
    (r : Result A LexFault) → IfOk r (λ found. AreTokensOf before after text (items found))
    → IfOk r (λ found. AreSized (items found))
tokens_sized items before after text (Ok found) x =
    subst AreSized (sym x.tokens_are) (cut_sized after _ 0 lines.Fresh false x.pieces [] x.cut)
tokens_sized items before after text (Err f) x = tt
