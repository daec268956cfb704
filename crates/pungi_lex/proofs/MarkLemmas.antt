-- The punctuator that is looked up is the longest that begins the text.
use Rattle.std.proofs.Common.{◌≡◌, ℕ, ◌<◌, ◌≤◌, Bool, true, false, ◌==◌, ◌&&◌, cond, List, [], ◌∷◌, ◌++◌, length, take}
use Rattle.std.proofs.Common.{Option, Some, None, zero, suc, eq-eqb, refl, sym, ap, ◌∙◌, arith}
use Rattle.std.specs.Prelude.{IfSome, MatchOption, slice_get}
use Rattle.std.proofs.lemmas.Bool.Decides.{nat_tests}
use Rattle.pungi_base.specs.declared.punct.Punct.{Punct}
use Rattle.pungi_base.specs.declared.punct.Punct.TheVariants as punct
use Rattle.pungi_base.specs.Token.{punct_text, puncts}
use Rattle.pungi_lex.specs.Bytes.{begins_with}
use Rattle.pungi_lex.specs.Mark.{begun, longest_among, mark_len}
use Rattle.pungi_lex.specs.MarkTable.{mark_one, mark_two, mark_three, mark_at, or_else}

-- the punctuator of this spelling
abbrev pub mark_of : List ℕ → Option Punct
mark_of [] = None
mark_of (a ∷ []) = mark_one a
mark_of (a ∷ b ∷ []) = mark_two a b
mark_of (a ∷ b ∷ c ∷ []) = mark_three a b c
mark_of (a ∷ b ∷ c ∷ d ∷ rest) = None

pub spelled : (p : Punct) → mark_of (punct_text p) ≡ Some p
spelled punct.LeftParen = refl
spelled punct.RightParen = refl
spelled punct.LeftBracket = refl
spelled punct.RightBracket = refl
spelled punct.LeftBrace = refl
spelled punct.RightBrace = refl
spelled punct.Semicolon = refl
spelled punct.Comma = refl
spelled punct.Dot = refl
spelled punct.Arrow = refl
spelled punct.PlusPlus = refl
spelled punct.MinusMinus = refl
spelled punct.And = refl
spelled punct.Star = refl
spelled punct.Plus = refl
spelled punct.Minus = refl
spelled punct.Tilde = refl
spelled punct.Not = refl
spelled punct.Slash = refl
spelled punct.Percent = refl
spelled punct.ShiftLeft = refl
spelled punct.ShiftRight = refl
spelled punct.Less = refl
spelled punct.Greater = refl
spelled punct.LessEqual = refl
spelled punct.GreaterEqual = refl
spelled punct.Equal = refl
spelled punct.NotEqual = refl
spelled punct.Caret = refl
spelled punct.Or = refl
spelled punct.AndAnd = refl
spelled punct.OrOr = refl
spelled punct.Question = refl
spelled punct.Colon = refl
spelled punct.Assign = refl
spelled punct.PlusAssign = refl
spelled punct.MinusAssign = refl
spelled punct.StarAssign = refl
spelled punct.SlashAssign = refl
spelled punct.PercentAssign = refl
spelled punct.ShiftLeftAssign = refl
spelled punct.ShiftRightAssign = refl
spelled punct.AndAssign = refl
spelled punct.CaretAssign = refl
spelled punct.OrAssign = refl
spelled punct.Ellipsis = refl
spelled punct.Hash = refl
spelled punct.HashHash = refl

and_left : (a b : Bool) → (a && b) ≡ true → a ≡ true
and_left true b h = refl
and_left false b h = h

and_right : (a b : Bool) → (a && b) ≡ true → b ≡ true
and_right true b h = h
and_right false b h = absurd cc

same_byte : (a b : ℕ) → (a == b) ≡ true → a ≡ b
same_byte a b h = grind (arith, nat_tests)

pub front : (s text : List ℕ) → begins_with s text ≡ true → (rest : List ℕ) × (text ≡ s ++ rest)
front [] text h = (text, refl)
front (a ∷ s) [] h = absurd cc
front (a ∷ s) (b ∷ text) h =
    let head = same_byte a b (and_left (a == b) (begins_with s text) h) in
    let r = front s text (and_right (a == b) (begins_with s text) h) in
    (r.0, λ i. sym head i ∷ r.1 i)

three_of : (t u v : Bool) (p : Punct) → cond t (Some punct.ShiftLeftAssign)
    (cond u (Some punct.ShiftRightAssign) (cond v (Some punct.Ellipsis) None)) ≡ Some p → length (punct_text p) ≡ 3
three_of true u v p e = let is : punct.ShiftLeftAssign ≡ p = cc in sym (ap (λ (x : Punct). length (punct_text x)) is)
three_of false true v p e =
    let is : punct.ShiftRightAssign ≡ p = cc in sym (ap (λ (x : Punct). length (punct_text x)) is)
three_of false false true p e = let is : punct.Ellipsis ≡ p = cc in sym (ap (λ (x : Punct). length (punct_text x)) is)
three_of false false false p e = absurd cc

three_long : (a b c : ℕ) (p : Punct) → mark_three a b c ≡ Some p → length (punct_text p) ≡ 3
three_long a b c p e =
    three_of (a == 60 && b == 60 && c == 61) (a == 62 && b == 62 && c == 61) (a == 46 && b == 46 && c == 46) p e

-- what is taken where a punctuator of two bytes is there
two_or : (three : Option Punct) (q p : Punct) (one : Option Punct) → or_else three (or_else (Some q) one) ≡ Some p
    → length (punct_text q) ≡ 2 → ((x : Punct) → three ≡ Some x → length (punct_text x) ≡ 3)
    → 2 ≤ length (punct_text p)
two_or None q p one e two long = let is : q ≡ p = cc in omega (arith, two, ap (λ (x : Punct). length (punct_text x)) is)
two_or (Some x) q p one e two long =
    let is : x ≡ p = cc in omega (arith, long x refl, ap (λ (x : Punct). length (punct_text x)) is)

taken : (s rest : List ℕ) (q p : Punct) → mark_of s ≡ Some q → punct_text q ≡ s → mark_at (s ++ rest) ≡ Some p
    → 0 < length (punct_text p) → length s ≤ length (punct_text p)
taken [] rest q p is spelling e some = omega arith
taken (a ∷ []) rest q p is spelling e some = omega arith
taken (a ∷ b ∷ []) [] q p is spelling e some =
    let both : Some q ≡ Some p = sym (ap (λ (x : Option Punct). or_else x (mark_one a)) is) ∙ e in
    let same : q ≡ p = cc in
    omega (arith, ap length spelling, ap (λ (x : Punct). length (punct_text x)) same)
taken (a ∷ b ∷ []) (c ∷ rest) q p is spelling e some =
    two_or (mark_three a b c) q p (mark_one a) (sym (ap (λ (x : Option Punct). or_else (mark_three a b c)
    (or_else x (mark_one a))) is) ∙ e) (ap length spelling) (λ x h. three_long a b c x h)
taken (a ∷ b ∷ c ∷ []) rest q p is spelling e some =
    let both : Some q ≡ Some p = sym (ap (λ (x : Option Punct). or_else x (or_else (mark_two a b) (mark_one a))) is)
    ∙ e in
    let same : q ≡ p = cc in
    omega (arith, ap length spelling, ap (λ (x : Punct). length (punct_text x)) same)
taken (a ∷ b ∷ c ∷ d ∷ s) rest q p is spelling e some = absurd cc

longest : (q p : Punct) (text : List ℕ) → begins_with (punct_text q) text ≡ true → mark_at text ≡ Some p
    → 0 < length (punct_text p) → length (punct_text q) ≤ length (punct_text p)
longest q p text begins e some =
    let r = front (punct_text q) text begins in
    taken (punct_text q) r.0 q p (spelled q) refl (ap mark_at (sym r.1) ∙ e) some

-- ---- that is the greatest length among all punctuators

abbrev index : Punct → ℕ
index punct.LeftParen = 0
index punct.RightParen = 1
index punct.LeftBracket = 2
index punct.RightBracket = 3
index punct.LeftBrace = 4
index punct.RightBrace = 5
index punct.Semicolon = 6
index punct.Comma = 7
index punct.Dot = 8
index punct.Arrow = 9
index punct.PlusPlus = 10
index punct.MinusMinus = 11
index punct.And = 12
index punct.Star = 13
index punct.Plus = 14
index punct.Minus = 15
index punct.Tilde = 16
index punct.Not = 17
index punct.Slash = 18
index punct.Percent = 19
index punct.ShiftLeft = 20
index punct.ShiftRight = 21
index punct.Less = 22
index punct.Greater = 23
index punct.LessEqual = 24
index punct.GreaterEqual = 25
index punct.Equal = 26
index punct.NotEqual = 27
index punct.Caret = 28
index punct.Or = 29
index punct.AndAnd = 30
index punct.OrOr = 31
index punct.Question = 32
index punct.Colon = 33
index punct.Assign = 34
index punct.PlusAssign = 35
index punct.MinusAssign = 36
index punct.StarAssign = 37
index punct.SlashAssign = 38
index punct.PercentAssign = 39
index punct.ShiftLeftAssign = 40
index punct.ShiftRightAssign = 41
index punct.AndAssign = 42
index punct.CaretAssign = 43
index punct.OrAssign = 44
index punct.Ellipsis = 45
index punct.Hash = 46
index punct.HashHash = 47

indexed : (p : Punct) → slice_get puncts (index p) ≡ Some p
indexed punct.LeftParen = refl
indexed punct.RightParen = refl
indexed punct.LeftBracket = refl
indexed punct.RightBracket = refl
indexed punct.LeftBrace = refl
indexed punct.RightBrace = refl
indexed punct.Semicolon = refl
indexed punct.Comma = refl
indexed punct.Dot = refl
indexed punct.Arrow = refl
indexed punct.PlusPlus = refl
indexed punct.MinusMinus = refl
indexed punct.And = refl
indexed punct.Star = refl
indexed punct.Plus = refl
indexed punct.Minus = refl
indexed punct.Tilde = refl
indexed punct.Not = refl
indexed punct.Slash = refl
indexed punct.Percent = refl
indexed punct.ShiftLeft = refl
indexed punct.ShiftRight = refl
indexed punct.Less = refl
indexed punct.Greater = refl
indexed punct.LessEqual = refl
indexed punct.GreaterEqual = refl
indexed punct.Equal = refl
indexed punct.NotEqual = refl
indexed punct.Caret = refl
indexed punct.Or = refl
indexed punct.AndAnd = refl
indexed punct.OrOr = refl
indexed punct.Question = refl
indexed punct.Colon = refl
indexed punct.Assign = refl
indexed punct.PlusAssign = refl
indexed punct.MinusAssign = refl
indexed punct.StarAssign = refl
indexed punct.SlashAssign = refl
indexed punct.PercentAssign = refl
indexed punct.ShiftLeftAssign = refl
indexed punct.ShiftRightAssign = refl
indexed punct.AndAssign = refl
indexed punct.CaretAssign = refl
indexed punct.OrAssign = refl
indexed punct.Ellipsis = refl
indexed punct.Hash = refl
indexed punct.HashHash = refl

at_most : (among : List Punct) (text : List ℕ) (n : ℕ) (p : Punct) → slice_get among n ≡ Some p
    → begun text p ≤ longest_among among text
at_most [] text n p e = absurd cc
at_most (q ∷ among) text zero p e = let is : q ≡ p = cc in omega (arith, ap (begun text) is)
at_most (q ∷ among) text (suc n) p e = let rest = at_most among text n p e in omega arith

bounded : (among : List Punct) (text : List ℕ) (n : ℕ) → ((q : Punct) → begun text q ≤ n) → longest_among among text ≤ n
bounded [] text n each = omega arith
bounded (q ∷ among) text n each = omega (arith, each q, bounded among text n each)

-- what begins with a punctuator, or doesn't
begun_within : (text : List ℕ) (q : Punct) (n : ℕ) (b : Bool) → begins_with (punct_text q) text ≡ b
    → (b ≡ true → length (punct_text q) ≤ n) → begun text q ≤ n
begun_within text q n true e h = rw e (h refl)
begun_within text q n false e h = rw e (omega arith)

begins_taken : (s text : List ℕ) → s ≡ take (length s) text → begins_with s text ≡ true
begins_taken [] text e = refl
begins_taken (a ∷ s) [] e = absurd cc
begins_taken (a ∷ s) (b ∷ text) e =
    let head : a ≡ b = cc in
    let tail : s ≡ take (length s) text = cc in
    both (a == b) (begins_with s text) (eq-eqb a b head) (begins_taken s text tail)
  where
    both : (x y : Bool) → x ≡ true → y ≡ true → (x && y) ≡ true
    both x y h k = (λ i. h i && k i)

or_none_left : (x y : Option Punct) → or_else x y ≡ None → x ≡ None
or_none_left None y e = refl
or_none_left (Some p) y e = absurd cc

or_none_right : (x y : Option Punct) → or_else x y ≡ None → y ≡ None
or_none_right None y e = e
or_none_right (Some p) y e = absurd cc

none_taken : (s rest : List ℕ) (q : Punct) → mark_of s ≡ Some q → mark_at (s ++ rest) ≡ None → ⊥
none_taken [] rest q is e = absurd cc
none_taken (a ∷ []) [] q is e = let both : Some q ≡ None = sym is ∙ e in cc
none_taken (a ∷ []) (b ∷ []) q is e =
    let both : Some q ≡ None = sym is ∙ or_none_right (mark_two a b) (mark_one a) e in cc
none_taken (a ∷ []) (b ∷ c ∷ rest) q is e =
    let both : Some q ≡ None = sym is ∙ or_none_right (mark_two a b) (mark_one a)
    (or_none_right (mark_three a b c) (or_else (mark_two a b) (mark_one a)) e) in cc
none_taken (a ∷ b ∷ []) [] q is e = let both : Some q ≡ None = sym is ∙ or_none_left (mark_two a b) (mark_one a) e in cc
none_taken (a ∷ b ∷ []) (c ∷ rest) q is e =
    let both : Some q ≡ None = sym is ∙ or_none_left (mark_two a b) (mark_one a)
    (or_none_right (mark_three a b c) (or_else (mark_two a b) (mark_one a)) e) in cc
none_taken (a ∷ b ∷ c ∷ []) rest q is e =
    let both : Some q ≡ None = sym is ∙ or_none_left (mark_three a b c) (or_else (mark_two a b) (mark_one a)) e in
    cc
none_taken (a ∷ b ∷ c ∷ d ∷ s) rest q is e = absurd cc

none_begins : (q : Punct) (text : List ℕ) → mark_at text ≡ None → begins_with (punct_text q) text ≡ true → ⊥
none_begins q text none begins =
    let r = front (punct_text q) text begins in
    none_taken (punct_text q) r.0 q (spelled q) (ap mark_at (sym r.1) ∙ none)

pub mark_is : (found : Option Punct) (text : List ℕ) → found ≡ mark_at text
    → IfSome found (λ p. punct_text p ≡ take (length (punct_text p)) text)
    → IfSome found (λ p. 0 < length (punct_text p))
    → MatchOption found (mark_len text ≡ 0) (λ p. length (punct_text p) ≡ mark_len text)
unfolding mark_len
mark_is None text is spelling some =
    omega (
      arith,
      bounded puncts text 0 (λ q. begun_within text q 0 (begins_with (punct_text q) text) refl
          (λ begins. absurd (none_begins q text (sym is) begins))),
    )
mark_is (Some p) text is spelling some =
    let n = length (punct_text p) in
    let here : begun text p ≡ n = rw (begins_taken (punct_text p) text spelling) refl in
    let least : begun text p ≤ longest_among puncts text = at_most puncts text (index p) p (indexed p) in
    let most : longest_among puncts text ≤ n = bounded puncts text n (λ q. begun_within text q n
    (begins_with (punct_text q) text) refl (λ begins. longest q p text begins (sym is) some)) in
    omega (arith, here, least, most)
