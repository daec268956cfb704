-- A piece where a word begins is a word of C.
use Rattle.std.proofs.Common.{◌≡◌, ◌+◌, ℕ, suc, Bool, true, false, cond, ◌&&◌, ◌||◌, List, [], ◌∷◌, ◌++◌, length}
use Rattle.std.proofs.Common.{Option, Some, None, refl, sym, ap, subst, ◌∙◌, arith, true≢false, codes}
use Rattle.std.specs.List.{prefix_len, list_all}
use Rattle.pungi_base.specs.CWords.{is_c_word, is_letter, is_digit, is_word_byte, is_one_of}
use Rattle.pungi_lex.specs.declared.line.Line.{Line}
use Rattle.pungi_lex.specs.declared.start.Start.{Start}
use Rattle.pungi_lex.specs.declared.start.Start.TheVariants as start
use Rattle.pungi_lex.specs.Bytes.{is_blank, is_in_line, begins, begins_with}
use Rattle.pungi_lex.specs.Piece.{length_at}
use Rattle.pungi_lex.specs.Start.{start_of, starts_bare, is_after_include, begins_number, is_mark}

abbrev is_word : Start → Bool
is_word start.Header = false
is_word start.Blank = false
is_word start.LineComment = false
is_word start.Comment = false
is_word start.Word = true
is_word start.Number = false
is_word start.Char = false
is_word start.Text = false
is_word start.Mark = false
is_word start.Nothing = false

skip : (b : Bool) (x y : Start) → is_word x ≡ false → start.Word ≡ cond b x y → start.Word ≡ y
skip true x y is e = absurd (true≢false (ap is_word e ∙ is))
skip false x y is e = e

nothing : start.Word ≡ start.Nothing → ⊥
nothing e = true≢false (ap is_word e)

-- a word begins only with a letter
word_begins : (line : Line) (text : List ℕ) → start.Word ≡ start_of line text → begins is_letter text ≡ true
word_begins line text e =
    let a = skip (is_after_include line && begins is_in_line text) start.Header (starts_bare text) refl e in
    let b = skip (begins is_blank text) start.Blank _ refl a in
    let c = skip (begins_with (codes "//") text) start.LineComment _ refl b in
    let d = skip (begins_with (codes "/*") text) start.Comment _ refl c in
    letter (begins is_letter text) refl d
  where
    letter : (b : Bool) → begins is_letter text ≡ b
        → start.Word ≡ cond b start.Word (cond (begins_number text) start.Number
        (cond (begins_with (codes "'") text) start.Char (cond (begins_with (codes "\"") text) start.Text
        (cond (begins is_mark text) start.Mark start.Nothing))))
        → begins is_letter text ≡ true
    letter true is h = is
    letter false is h =
        let i = skip (begins_number text) start.Number _ refl h in
        let j = skip (begins_with (codes "'") text) start.Char _ refl i in
        let k = skip (begins_with (codes "\"") text) start.Text _ refl j in
        absurd (nothing (skip (begins is_mark text) start.Mark start.Nothing refl k))

-- as many bytes as pass a test in a row pass it
all_front : (p : ℕ → Bool) (bytes rest : List ℕ) → prefix_len p (bytes ++ rest) ≡ length bytes → list_all p bytes ≡ true
all_front p [] rest e = refl
all_front p (b ∷ bytes) rest e = split (p b) e (λ h. all_front p bytes rest h)
  where
    split : (x : Bool) → cond x (1 + prefix_len p (bytes ++ rest)) 0 ≡ length (b ∷ bytes)
        → (prefix_len p (bytes ++ rest) ≡ length bytes → list_all p bytes ≡ true) → (x && list_all p bytes) ≡ true
    split true h more = more (omega (arith, h))
    split false h more = absurd (omega (arith, h))

and_front : (a b : Bool) → a ≡ true → b ≡ true → (a && b) ≡ true
and_front true b x y = y
and_front false b x y = absurd (true≢false (sym x))

and_left : (a b : Bool) → (a && b) ≡ true → b ≡ true
and_left true b h = h
and_left false b h = absurd (true≢false (sym h))

letter_first : (bytes rest : List ℕ) → begins is_letter (bytes ++ rest) ≡ true
    → prefix_len is_word_byte (bytes ++ rest) ≡ length bytes → is_c_word bytes ≡ true
letter_first [] [] h e = absurd (true≢false (sym h))
letter_first [] (c ∷ rest) h e = absurd (split (is_letter c) h e)
  where
    split : (x : Bool) → x ≡ true → cond (x || is_digit c) (1 + prefix_len is_word_byte rest) 0 ≡ 0 → ⊥
    split true k f = omega (arith, f)
    split false k f = true≢false (sym k)
letter_first (b ∷ bytes) rest h e =
    and_front (is_letter b) (list_all is_word_byte bytes) h (and_left (is_word_byte b) (list_all is_word_byte bytes)
    (all_front is_word_byte (b ∷ bytes) rest e))

abbrev count : Option ℕ → ℕ
count None = 0
count (Some n) = n

pub word_piece : (line : Line) (bytes rest : List ℕ) → start.Word ≡ start_of line (bytes ++ rest)
    → length_at start.Word (bytes ++ rest) ≡ Some (length bytes) → is_c_word bytes ≡ true
word_piece line bytes rest begun measured =
    letter_first bytes rest (word_begins line (bytes ++ rest) begun) (ap count measured)
