-- Two texts with the same bytes begin with the same piece, where neither goes on with a byte of the piece's class.
use Rattle.std.proofs.Common.{◌≡◌, ℕ, suc, ◌^◌, ◌<◌, ◌≤◌, Bool, true, false, ◌&&◌, ◌||◌, List, [], ◌∷◌, ◌++◌, length}
use Rattle.std.proofs.Common.{get_or, drop, ℤ, pos, negsuc, refl, sym, ap, subst, ◌∙◌, append_assoc, arith, true≢false}
use Rattle.std.proofs.Common.{codes}
use Rattle.std.specs.List.{AllByRecursion, list_all}
use Rattle.std.specs.Char.{digit_value}
use Rattle.std.specs.Fmt.{decimal, signed_decimal}
use Rattle.std.specs.Str.Parse.{AllDigits}
use Rattle.std.proofs.lemmas.Fmt.{decimal_is_IsNumeral, decimal_injective}
use Rattle.std.proofs.lemmas.Str.Parse.{digit_from_value}
use Rattle.pungi_base.specs.declared.pos.Pos.{Pos}
use Rattle.pungi_base.specs.CWords.{is_c_word, is_word_byte, is_letter, is_digit}
use Rattle.pungi_base.specs.Witness.{place_text, line_end}
use Rattle.pungi_report.specs.Fits.{Fits, FitsInt, FitsPlace}

-- the first byte, or 0
abbrev pub first : List ℕ → ℕ
first l = get_or l 0 0

-- the text doesn't begin with a byte of the class
abbrev pub Ends : (ℕ → Type 0) → List ℕ → Type 0
Ends P [] = Unit {0}
Ends P (c ∷ r) = P c → ⊥

pub same_front : (P : ℕ → Type 0) (a b r s : List ℕ) → AllByRecursion P a → AllByRecursion P b → Ends P r → Ends P s
    → a ++ r ≡ b ++ s → (a ≡ b) × (r ≡ s)
same_front P [] [] r s x y f g e = (refl, e)
same_front P [] (c ∷ b) [] s x y f g e = absurd (omega (arith, ap length e))
same_front P [] (c ∷ b) (d ∷ r) s x y f g e = absurd (f (subst P (sym (ap first e)) y.0))
same_front P (c ∷ a) [] r [] x y f g e = absurd (omega (arith, ap length e))
same_front P (c ∷ a) [] r (d ∷ s) x y f g e = absurd (g (subst P (ap first e) x.0))
same_front P (c ∷ a) (d ∷ b) r s x y f g e =
    let one : c ≡ d = ap first e in
    let more = same_front P a b r s x.1 y.1 f g (ap (drop 1) e) in
    (λ i. one i ∷ more.0 i, more.1)

-- a text in two parts, and what follows
pub parts : (a b c d r s : List ℕ) → (a ++ b) ++ r ≡ (c ++ d) ++ s → a ++ (b ++ r) ≡ c ++ (d ++ s)
parts a b c d r s e = sym (append_assoc a b r) ∙ e ∙ append_assoc c d s

pub parts3 : (a b c x y z r s : List ℕ) → ((a ++ b) ++ c) ++ r ≡ ((x ++ y) ++ z) ++ s
    → a ++ (b ++ (c ++ r)) ≡ x ++ (y ++ (z ++ s))
parts3 a b c x y z r s e = parts a b x y (c ++ r) (z ++ s) (parts (a ++ b) c (x ++ y) z r s e)

pub parts4 : (a b c d x y z w r s : List ℕ) → (((a ++ b) ++ c) ++ d) ++ r ≡ (((x ++ y) ++ z) ++ w) ++ s
    → a ++ (b ++ (c ++ (d ++ r))) ≡ x ++ (y ++ (z ++ (w ++ s)))
parts4 a b c d x y z w r s e = parts3 a b c x y z (d ++ r) (w ++ s) (parts ((a ++ b) ++ c) d ((x ++ y) ++ z) w r s e)

-- ---- decimals

abbrev pub IsDigit : ℕ → Type 0
IsDigit c = digit_value c < 10

pub below_digits : (c : ℕ) → c < 48 → IsDigit c → ⊥
below_digits c small h = omega (arith, digit_from_value c h)

pub above_digits : (c : ℕ) → 57 < c → IsDigit c → ⊥
above_digits c large h = omega (arith, digit_from_value c h)

all_digits : (ds : List ℕ) → AllDigits 10 ds → AllByRecursion IsDigit ds
all_digits [] d = tt
all_digits (c ∷ ds) d = (d.0, all_digits ds d.1)

abbrev pub BeginsWithDigit : List ℕ → Type 0
BeginsWithDigit [] = ⊥
BeginsWithDigit (c ∷ ds) = IsDigit c

pub begins_before : (ds r : List ℕ) → BeginsWithDigit ds → BeginsWithDigit (ds ++ r)
begins_before [] r h = absurd h
begins_before (c ∷ ds) r h = h

begins_digits : (ds : List ℕ) → 0 < length ds → AllDigits 10 ds → BeginsWithDigit ds
begins_digits [] some d = absurd (omega arith)
begins_digits (c ∷ ds) some d = d.0

pub decimal_begins : (n : ℕ) → Fits n → BeginsWithDigit (decimal n)
decimal_begins n h = let k = (decimal_is_IsNumeral n h).0 in begins_digits (decimal n) k.0 k.1

pub same_decimal : (m n : ℕ) (r s : List ℕ) → Fits m → Fits n → Ends IsDigit r → Ends IsDigit s
    → decimal m ++ r ≡ decimal n ++ s → (m ≡ n) × (r ≡ s)
same_decimal m n r s p q f g e =
    let h = same_front IsDigit (decimal m) (decimal n) r s (all_digits (decimal m) (decimal_is_IsNumeral m p).0.1)
    (all_digits (decimal n) (decimal_is_IsNumeral n q).0.1) f g e in
    (decimal_injective m n p q h.0, h.1)

no_minus : (n : ℕ) (r t : List ℕ) → Fits n → decimal n ++ r ≡ 45 ∷ t → ⊥
no_minus n r t h e =
    below_digits 45 (omega arith) (subst BeginsWithDigit e (begins_before (decimal n) r (decimal_begins n h)))

pub same_signed : (y z : ℤ) (r s : List ℕ) → FitsInt y → FitsInt z → Ends IsDigit r → Ends IsDigit s
    → signed_decimal y ++ r ≡ signed_decimal z ++ s → (y ≡ z) × (r ≡ s)
same_signed (pos m) (pos n) r s p q f g e = let h = same_decimal m n r s p q f g e in (ap pos h.0, h.1)
same_signed (pos m) (negsuc n) r s p q f g e = absurd (no_minus m r (decimal (suc n) ++ s) p e)
same_signed (negsuc m) (pos n) r s p q f g e = absurd (no_minus n s (decimal (suc m) ++ r) q (sym e))
same_signed (negsuc m) (negsuc n) r s p q f g e =
    let h = same_decimal (suc m) (suc n) r s p q f g (ap (drop 1) e) in
    let same : m ≡ n = omega (arith, h.0) in
    (ap negsuc same, h.1)

-- ---- places

pub same_place : (at by : Pos) (r s : List ℕ) → FitsPlace at → FitsPlace by → Ends IsDigit r → Ends IsDigit s
    → place_text at ++ r ≡ place_text by ++ s → (at ≡ by) × (r ≡ s)
same_place at by r s p q f g e =
    let colon = above_digits 58 (omega arith) in
    let line = same_decimal at.line by.line (58 ∷ (decimal at.col ++ r)) (58 ∷ (decimal by.col ++ s)) p.0 q.0 colon
    colon
    (parts3 (decimal at.line) (codes ":") (decimal at.col) (decimal by.line) (codes ":") (decimal by.col) r s e) in
    let col = same_decimal at.col by.col r s p.1 q.1 f g (ap (drop 1) line.1) in
    (λ i. record { line = line.0 i; col = col.0 i }, col.1)

pub place_begins : (at : Pos) → FitsPlace at → BeginsWithDigit (place_text at)
place_begins at h =
    begins_before (decimal at.line ++ codes ":") (decimal at.col) (begins_before (decimal at.line) (codes ":")
    (decimal_begins at.line h.0))

-- ---- words

abbrev pub IsWordByte : ℕ → Type 0
IsWordByte c = is_word_byte c ≡ true

pub no_word_byte : (c : ℕ) → is_word_byte c ≡ false → IsWordByte c → ⊥
no_word_byte c e h = true≢false (sym h ∙ e)

bytes_of : (w : List ℕ) → list_all is_word_byte w ≡ true → AllByRecursion IsWordByte w
bytes_of [] h = tt
bytes_of (c ∷ w) h = split (is_word_byte c) refl h (λ k. bytes_of w k)
  where
    split : (b : Bool) → is_word_byte c ≡ b → (b && list_all is_word_byte w) ≡ true
        → (list_all is_word_byte w ≡ true → AllByRecursion IsWordByte w) → AllByRecursion IsWordByte (c ∷ w)
    split true e k more = (e, more k)
    split false e k more = absurd (true≢false (sym k))

word_bytes : (w : List ℕ) → is_c_word w ≡ true → AllByRecursion IsWordByte w
word_bytes [] h = tt
word_bytes (c ∷ w) h = split (is_letter c) refl h
  where
    split : (b : Bool) → is_letter c ≡ b → (b && list_all is_word_byte w) ≡ true → AllByRecursion IsWordByte (c ∷ w)
    split true e k = (ap (λ (x : Bool). x || is_digit c) e, bytes_of w k)
    split false e k = absurd (true≢false (sym k))

pub same_word : (a b r s : List ℕ) → is_c_word a ≡ true → is_c_word b ≡ true → Ends IsWordByte r → Ends IsWordByte s
    → a ++ r ≡ b ++ s → (a ≡ b) × (r ≡ s)
same_word a b r s p q f g e = same_front IsWordByte a b r s (word_bytes a p) (word_bytes b q) f g e

-- ---- what follows a piece: a blank or the end of a line

pub blank : IsDigit 32 → ⊥
blank = below_digits 32 (omega arith)

pub line : IsDigit 10 → ⊥
line = below_digits 10 (omega arith)

pub word_blank : IsWordByte 32 → ⊥
word_blank = no_word_byte 32 refl

pub word_line : IsWordByte 10 → ⊥
word_line = no_word_byte 10 refl
