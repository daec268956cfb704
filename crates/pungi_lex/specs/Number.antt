-- Numbers (C11 6.4.4.1, 6.4.4.2, 6.4.8). A spelling is first taken whole, as a preprocessing number is, and then read.
--   is_exponent_letter, is_sign    one of e E; one of + -
--   goes_on prev b       b goes on a number's spelling after the byte prev
--   spelling_len prev text, number_count text  how long the spelling is that goes on, and that begins a text
--   zero_byte, upper_a, lower_a    the bytes of 0, A and a
--   digit_value b, value_in base digits    the value of a digit, and of digits
--   is_u, is_l, is_unsigned_suffix, is_long_suffix, is_mixed_suffix    parts of a suffix: one of u U, one of l L, the
--                                                                      one, l L ll LL, and both in either order
--   is_suffix suffix     nothing, or at most one u or U and at most one of l L ll LL, in either order
--   suffix_unsigned, suffix_long    what a suffix says
--   is_past_int, is_in_unsigned value    an `int` doesn't hold it; an `unsigned int` does then (at 32 bits)
--   int_kind decimal value suffix    the integer constant of a value and a suffix
--   begins_hex piece, hex_of piece    0x or 0X comes first; the constant of what follows it
--   int_of piece         the integer constant of this spelling: hexadecimal, octal or decimal
--   is_float_suffix suffix, after_sign text, ends_in_exponent text, ends_in_fraction some text     ends of a floating
--                                                                                                  constant
--   is_float piece       digits with one point or an exponent or both, and at most one of f F l L after
--   number_kind piece    what a whole spelling is: a floating constant, an integer constant, or neither
use Rattle.std.specs.Prelude.{ℕ, ◌+◌, ◌*◌, ◌-◌, ◌^◌, ◌==◌, pos, Bool, true, false, not, ◌&&◌, ◌||◌, List, [], ◌∷◌, fold}
use Rattle.std.specs.Prelude.{drop, nat_le, Option, Some, None, codes, if◌then◌else◌}
use Rattle.pungi_base.specs.declared.kind.Kind.{Kind}
use Rattle.pungi_base.specs.declared.kind.Kind.TheVariants as kind
use Rattle.pungi_lex.specs.Bytes.{is_one_of, is_digit, is_octal_digit, is_hex_digit, is_word_byte, begins, begins_with}
use Rattle.pungi_lex.specs.Bytes.{front_of, after_front}

-- ---- the spelling

abbrev pub is_exponent_letter : ℕ → Bool
is_exponent_letter b = is_one_of (codes "Ee") b

abbrev pub is_sign : ℕ → Bool
is_sign b = is_one_of (codes "+-") b

-- a letter, a digit, _ or ., or a sign directly after e, E, p or P
abbrev pub goes_on : ℕ → ℕ → Bool
goes_on prev b = is_word_byte b || is_one_of (codes ".") b || (is_sign b && is_one_of (codes "EePp") prev)

abbrev pub spelling_len : ℕ → List ℕ → ℕ
spelling_len prev [] = 0
spelling_len prev (b ∷ text) = if goes_on prev b then 1 + spelling_len b text else 0

abbrev pub number_count : List ℕ → ℕ
number_count [] = 0
number_count (b ∷ text) = 1 + spelling_len b text

-- ---- integer constants

abbrev pub zero_byte : ℕ
zero_byte = 48

abbrev pub upper_a : ℕ
upper_a = 65

abbrev pub lower_a : ℕ
lower_a = 97

-- the value of a digit, also of a hexadecimal one
abbrev pub digit_value : ℕ → ℕ
digit_value b =
    if is_digit b then b - zero_byte else if nat_le lower_a b then 10 + (b - lower_a) else 10 + (b - upper_a)

abbrev pub value_in : ℕ → List ℕ → ℕ
value_in base digits = fold (λ value b. base * value + digit_value b) 0 digits

abbrev pub is_u : ℕ → Bool
is_u b = is_one_of (codes "uU") b

abbrev pub is_l : ℕ → Bool
is_l b = is_one_of (codes "lL") b

abbrev pub is_unsigned_suffix : List ℕ → Bool
is_unsigned_suffix [] = false
is_unsigned_suffix (a ∷ []) = is_u a
is_unsigned_suffix (a ∷ b ∷ rest) = false

abbrev pub is_long_suffix : List ℕ → Bool
is_long_suffix [] = false
is_long_suffix (a ∷ []) = is_l a
is_long_suffix (a ∷ b ∷ []) = is_l a && a == b
is_long_suffix (a ∷ b ∷ c ∷ rest) = false

-- both, in either order
abbrev pub is_mixed_suffix : List ℕ → Bool
is_mixed_suffix [] = false
is_mixed_suffix (a ∷ []) = false
is_mixed_suffix (a ∷ b ∷ []) = (is_u a && is_l b) || (is_l a && is_u b)
is_mixed_suffix (a ∷ b ∷ c ∷ []) = (is_u a && is_l b && b == c) || (is_l a && a == b && is_u c)
is_mixed_suffix (a ∷ b ∷ c ∷ d ∷ rest) = false

abbrev pub is_suffix : List ℕ → Bool
is_suffix [] = true
is_suffix (a ∷ rest) = is_unsigned_suffix (a ∷ rest) || is_long_suffix (a ∷ rest) || is_mixed_suffix (a ∷ rest)

abbrev pub suffix_unsigned : List ℕ → Bool
suffix_unsigned suffix = is_unsigned_suffix suffix || is_mixed_suffix suffix

abbrev pub suffix_long : List ℕ → Bool
suffix_long suffix = is_long_suffix suffix || is_mixed_suffix suffix

-- more than an `int` holds, and what an `unsigned int` holds then (C11 6.4.4.1, 5.2.4.2.1, at 32 bits)
abbrev pub is_past_int : ℕ → Bool
is_past_int value = nat_le (2 ^ 31) value

abbrev pub is_in_unsigned : ℕ → Bool
is_in_unsigned value = is_past_int value && nat_le (value + 1) (2 ^ 32)

-- the integer constant of this value, where what follows its digits is a suffix
abbrev pub int_kind : Bool → ℕ → List ℕ → Option Kind
int_kind decimal value suffix =
    if is_suffix suffix && nat_le (value + 1) (2 ^ 127)
    then Some (kind.Int (pos value) (suffix_long suffix || is_past_int value)
    (suffix_unsigned suffix || (not decimal && not (suffix_long suffix) && is_in_unsigned value)))
    else None

abbrev pub begins_hex : List ℕ → Bool
begins_hex piece = begins_with (codes "0x") piece || begins_with (codes "0X") piece

-- what follows 0x
abbrev pub hex_of : List ℕ → Option Kind
hex_of piece =
    if begins is_hex_digit piece then int_kind false (value_in 16 (front_of is_hex_digit piece))
    (after_front is_hex_digit piece) else None

abbrev pub int_of : List ℕ → Option Kind
int_of piece =
    if begins_hex piece then hex_of (drop 2 piece)
    else if begins_with (codes "0") piece then int_kind false (value_in 8 (front_of is_octal_digit piece))
    (after_front is_octal_digit piece)
    else if begins is_digit piece then int_kind true (value_in 10 (front_of is_digit piece))
    (after_front is_digit piece)
    else None

-- ---- floating constants

-- nothing, or one of f F l L
abbrev pub is_float_suffix : List ℕ → Bool
is_float_suffix [] = true
is_float_suffix (a ∷ []) = is_one_of (codes "fFlL") a
is_float_suffix (a ∷ b ∷ rest) = false

abbrev pub after_sign : List ℕ → List ℕ
after_sign [] = []
after_sign (b ∷ rest) = if is_sign b then rest else b ∷ rest

-- e or E, maybe a sign, at least one digit, and a suffix
abbrev pub ends_in_exponent : List ℕ → Bool
ends_in_exponent [] = false
ends_in_exponent (b ∷ rest) =
    is_exponent_letter b && begins is_digit (after_sign rest)
    && is_float_suffix (after_front is_digit (after_sign rest))

-- a point, digits, maybe an exponent, and a suffix; at least one digit before the point, as `some` says, or after it
abbrev pub ends_in_fraction : Bool → List ℕ → Bool
ends_in_fraction some [] = false
ends_in_fraction some (b ∷ rest) =
    is_one_of (codes ".") b && (some || begins is_digit rest)
    && (is_float_suffix (after_front is_digit rest) || ends_in_exponent (after_front is_digit rest))

abbrev pub is_float : List ℕ → Bool
is_float piece =
    ends_in_fraction (begins is_digit piece) (after_front is_digit piece)
    || (begins is_digit piece && ends_in_exponent (after_front is_digit piece))

abbrev pub number_kind : List ℕ → Option Kind
number_kind piece = if is_float piece then Some kind.Float else int_of piece
