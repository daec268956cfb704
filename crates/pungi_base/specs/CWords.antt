-- Words of C (C11 6.4.2.1), of the characters of C11 5.2.1.
--   is_one_of bytes b     b is one of these bytes
--   is_from_to ends b     b is from the first to the last of two bytes
--   is_digit, is_letter   a decimal digit; a letter of the Latin alphabet, or an underscore
--   is_word_byte          either
--   is_c_word text        a letter, and then letters and digits
--   IsCWord names n       the name of this number has a text, and it is a word of C
use Rattle.std.specs.Prelude.{◌≡◌, ◌<◌, ℕ, ◌==◌, Bool, true, false, ◌&&◌, ◌||◌, List, [], ◌∷◌, length, get_or, nat_le}
use Rattle.std.specs.Prelude.{codes}
use Rattle.std.specs.List.{list_all}

abbrev pub is_one_of : List ℕ → ℕ → Bool
is_one_of [] b = false
is_one_of (a ∷ []) b = b == a
is_one_of (a ∷ c ∷ bytes) b = b == a || is_one_of (c ∷ bytes) b

abbrev pub is_from_to : List ℕ → ℕ → Bool
is_from_to [] b = false
is_from_to (first ∷ []) b = false
is_from_to (first ∷ last ∷ bytes) b = nat_le first b && nat_le b last

abbrev pub is_digit : ℕ → Bool
is_digit b = is_from_to (codes "09") b

abbrev pub is_letter : ℕ → Bool
is_letter b = is_from_to (codes "AZ") b || is_from_to (codes "az") b || is_one_of (codes "_") b

abbrev pub is_word_byte : ℕ → Bool
is_word_byte b = is_letter b || is_digit b

abbrev pub is_c_word : List ℕ → Bool
is_c_word [] = false
is_c_word (b ∷ text) = is_letter b && list_all is_word_byte text

abbrev pub IsCWord : List (List ℕ) → ℕ → Type 0
IsCWord names n = (n < length names) × (is_c_word (get_or names n []) ≡ true)
