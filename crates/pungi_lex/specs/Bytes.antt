-- Bytes by what they may stand for (C11 5.2.1), and tests on the front of a text.
--   is_one_of, is_from_to, is_digit, is_letter, is_word_byte   as in words of C
--   is_blank, is_octal_digit, is_hex_digit, is_in_line   what one byte may stand for
--   begins test text        a byte that passes the test comes next
--   begins_with front text  the text begins with these bytes
--   front_of, after_front   the bytes at the front that pass a test, and what follows them
use Rattle.std.specs.Prelude.{ℕ, ◌==◌, Bool, true, false, not, ◌&&◌, ◌||◌, List, [], ◌∷◌, take, drop, codes}
use Rattle.std.specs.List.{prefix_len}
pub use Rattle.pungi_base.specs.CWords.{is_one_of, is_from_to, is_digit, is_letter, is_word_byte}

-- space, horizontal tab, line feed, vertical tab, form feed and carriage return
abbrev pub is_blank : ℕ → Bool
is_blank b = is_one_of (codes " ") b || is_from_to (codes "\t\r") b

abbrev pub is_octal_digit : ℕ → Bool
is_octal_digit b = is_from_to (codes "07") b

abbrev pub is_hex_digit : ℕ → Bool
is_hex_digit b = is_digit b || is_from_to (codes "AF") b || is_from_to (codes "af") b

-- any byte of a line but its end
abbrev pub is_in_line : ℕ → Bool
is_in_line b = not (is_one_of (codes "\n") b)

abbrev pub begins : (ℕ → Bool) → List ℕ → Bool
begins test [] = false
begins test (b ∷ text) = test b

abbrev pub begins_with : List ℕ → List ℕ → Bool
begins_with [] text = true
begins_with (a ∷ front) [] = false
begins_with (a ∷ front) (b ∷ text) = a == b && begins_with front text

abbrev pub front_of : (ℕ → Bool) → List ℕ → List ℕ
front_of test text = take (prefix_len test text) text

abbrev pub after_front : (ℕ → Bool) → List ℕ → List ℕ
after_front test text = drop (prefix_len test text) text
