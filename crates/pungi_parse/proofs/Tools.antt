-- Steps through options, tests and numbers, for any reader.
--   bind_some, on_some_cases, when_some, unless_some, guard_some, guard_none    what an option that was read says of
--   the options it was read from
--   some_same         one value only is read
--   le_true, le_false, le_from, lt_true, lt_false, lt_from, eq_from    tests on numbers
--   and_true, and_join, or_true, not_true    tests of tests
--   IfOk-both         what follows from two facts about a value that may have been returned
--   same_mark, same_key    a punctuator, or a keyword, is known by its number
use Rattle.std.proofs.Common.{◌≡◌, ℕ, zero, suc, ◌<◌, ◌≤◌, Bool, true, false, cond, not, ◌&&◌, ◌||◌, List, [], ◌∷◌}
use Rattle.std.proofs.Common.{Option, Some, None, ◌⊎◌, inl, inr, refl, sym, ◌∙◌, ap, arith}
use Rattle.std.specs.Prelude.{nat_le, nat_lt, ◌==◌, Result, Ok, Err, IfOk}
use Rattle.std.proofs.lemmas.Bool.Decides.{nat_tests}
use Rattle.pungi_base.specs.declared.key.Key.{Key}
use Rattle.pungi_base.specs.declared.key.Key.TheVariants as keys
use Rattle.pungi_base.specs.declared.punct.Punct.{Punct}
use Rattle.pungi_base.specs.declared.punct.Punct.TheVariants as puncts
use Rattle.pungi_parse.specs.tokens.OneToken.{punct_number, key_number}
use Rattle.pungi_parse.specs.Reading.{◌>>=◌, chain, on_some, when, unless}

pub IfOk-both : {X E : Type 0} (r : Result X E) (P Q R : X → Type 0) → ((x : X) → P x → Q x → R x) → IfOk r P
    → IfOk r Q → IfOk r R
IfOk-both (Ok x) P Q R f p q = f x p q
IfOk-both (Err e) P Q R f p q = tt

pub bind_some : {A B : Type 0} (o : Option A) (f : A → Option B) (y : B) → (o >>= f) ≡ Some y
    → (x : A) × (o ≡ Some x) × (f x ≡ Some y)
unfolding chain
bind_some (Some x) f y h = (x, refl, h)
bind_some None f y h = absurd (cc)

pub on_some_cases : {A B : Type 0} (o : Option A) (f : A → B) (b y : B) → on_some o f b ≡ y
    → ((x : A) × (o ≡ Some x) × (f x ≡ y)) ⊎ ((o ≡ None) × (b ≡ y))
unfolding on_some
on_some_cases (Some x) f b y h = inl (x, refl, h)
on_some_cases None f b y h = inr (refl, h)

pub guard_some : {A : Type 0} (b : Bool) (o : Option A) (y : A) → cond b o None ≡ Some y → (b ≡ true) × (o ≡ Some y)
guard_some true o y h = (refl, h)
guard_some false o y h = absurd (cc)

pub guard_none : {A : Type 0} (b : Bool) (x : A) → cond b (Some x) None ≡ None → b ≡ false
guard_none true x h = absurd (cc)
guard_none false x h = refl

pub some_same : {A : Type 0} (x y : A) → Some x ≡ Some y → x ≡ y
some_same x y h = cc

pub when_some : {A : Type 0} (b : Bool) (o : Option A) (y : A) → when b o ≡ Some y → (b ≡ true) × (o ≡ Some y)
unfolding when
when_some true o y h = (refl, h)
when_some false o y h = absurd (cc)

pub unless_some : {A : Type 0} (b : Bool) (o : Option A) (y : A) → unless b o ≡ Some y → (b ≡ false) × (o ≡ Some y)
unfolding unless
unless_some true o y h = absurd (cc)
unless_some false o y h = (refl, h)

pub le_true : (m n : ℕ) → m ≤ n → nat_le m n ≡ true
le_true m n h = grind (arith, nat_tests)

pub le_false : (m n : ℕ) → n < m → nat_le m n ≡ false
le_false m n h = grind (arith, nat_tests)

pub le_from : (m n : ℕ) → nat_le m n ≡ true → m ≤ n
le_from m n h = grind (arith, nat_tests)

pub not_le : (m n : ℕ) → nat_le m n ≡ false → n < m
not_le m n h = grind (arith, nat_tests)

pub lt_true : (m n : ℕ) → m < n → nat_lt m n ≡ true
lt_true m n h = grind (arith, nat_tests)

pub lt_false : (m n : ℕ) → n ≤ m → nat_lt m n ≡ false
lt_false m n h = grind (arith, nat_tests)

pub lt_from : (m n : ℕ) → nat_lt m n ≡ true → m < n
lt_from m n h = grind (arith, nat_tests)

pub eq_from : (m n : ℕ) → (m == n) ≡ true → m ≡ n
eq_from m n h = grind (arith, nat_tests)

pub eq_true : (n : ℕ) → (n == n) ≡ true
eq_true n = grind (arith, nat_tests)

pub and_true : (a b : Bool) → (a && b) ≡ true → (a ≡ true) × (b ≡ true)
and_true true true h = (refl, refl)
and_true true false h = absurd (cc)
and_true false b h = absurd (cc)

pub and_join : (a b : Bool) → a ≡ true → b ≡ true → (a && b) ≡ true
and_join true true h k = refl
and_join true false h k = absurd (cc)
and_join false b h k = absurd (cc)

pub and_false : (a : Bool) → (a && false) ≡ false
and_false true = refl
and_false false = refl

pub or_false : (a b : Bool) → (a || b) ≡ false → (a ≡ false) × (b ≡ false)
or_false false false h = (refl, refl)
or_false false true h = absurd (cc)
or_false true b h = absurd (cc)

pub not_true : (a : Bool) → not a ≡ true → a ≡ false
not_true true h = absurd (cc)
not_true false h = refl

pub not_false : (a : Bool) → a ≡ false → not a ≡ true
not_false true h = absurd (cc)
not_false false h = refl

punct_in : Punct → List Punct → ℕ → Punct
punct_in m [] n = m
punct_in m (q ∷ qs) zero = q
punct_in m (q ∷ qs) (suc n) = punct_in m qs n

punct_at : ℕ → Punct
unfolding punct_in
punct_at n =
    punct_in puncts.LeftParen
    (puncts.LeftParen ∷ puncts.RightParen ∷ puncts.LeftBracket ∷ puncts.RightBracket ∷ puncts.LeftBrace
    ∷ puncts.RightBrace ∷ puncts.Semicolon ∷ puncts.Comma ∷ puncts.Dot ∷ puncts.Arrow ∷ puncts.PlusPlus
    ∷ puncts.MinusMinus ∷ puncts.And ∷ puncts.Star ∷ puncts.Plus ∷ puncts.Minus ∷ puncts.Tilde ∷ puncts.Not
    ∷ puncts.Slash ∷ puncts.Percent ∷ puncts.ShiftLeft ∷ puncts.ShiftRight ∷ puncts.Less ∷ puncts.Greater
    ∷ puncts.LessEqual ∷ puncts.GreaterEqual ∷ puncts.Equal ∷ puncts.NotEqual ∷ puncts.Caret ∷ puncts.Or
    ∷ puncts.AndAnd ∷ puncts.OrOr ∷ puncts.Question ∷ puncts.Colon ∷ puncts.Assign ∷ puncts.PlusAssign
    ∷ puncts.MinusAssign ∷ puncts.StarAssign ∷ puncts.SlashAssign ∷ puncts.PercentAssign ∷ puncts.ShiftLeftAssign
    ∷ puncts.ShiftRightAssign ∷ puncts.AndAssign ∷ puncts.CaretAssign ∷ puncts.OrAssign ∷ puncts.Ellipsis
    ∷ puncts.Hash ∷ puncts.HashHash ∷ []) n

punct_again : (m : Punct) → punct_at (punct_number m) ≡ m
unfolding punct_in punct_at
punct_again puncts.LeftParen = refl
punct_again puncts.RightParen = refl
punct_again puncts.LeftBracket = refl
punct_again puncts.RightBracket = refl
punct_again puncts.LeftBrace = refl
punct_again puncts.RightBrace = refl
punct_again puncts.Semicolon = refl
punct_again puncts.Comma = refl
punct_again puncts.Dot = refl
punct_again puncts.Arrow = refl
punct_again puncts.PlusPlus = refl
punct_again puncts.MinusMinus = refl
punct_again puncts.And = refl
punct_again puncts.Star = refl
punct_again puncts.Plus = refl
punct_again puncts.Minus = refl
punct_again puncts.Tilde = refl
punct_again puncts.Not = refl
punct_again puncts.Slash = refl
punct_again puncts.Percent = refl
punct_again puncts.ShiftLeft = refl
punct_again puncts.ShiftRight = refl
punct_again puncts.Less = refl
punct_again puncts.Greater = refl
punct_again puncts.LessEqual = refl
punct_again puncts.GreaterEqual = refl
punct_again puncts.Equal = refl
punct_again puncts.NotEqual = refl
punct_again puncts.Caret = refl
punct_again puncts.Or = refl
punct_again puncts.AndAnd = refl
punct_again puncts.OrOr = refl
punct_again puncts.Question = refl
punct_again puncts.Colon = refl
punct_again puncts.Assign = refl
punct_again puncts.PlusAssign = refl
punct_again puncts.MinusAssign = refl
punct_again puncts.StarAssign = refl
punct_again puncts.SlashAssign = refl
punct_again puncts.PercentAssign = refl
punct_again puncts.ShiftLeftAssign = refl
punct_again puncts.ShiftRightAssign = refl
punct_again puncts.AndAssign = refl
punct_again puncts.CaretAssign = refl
punct_again puncts.OrAssign = refl
punct_again puncts.Ellipsis = refl
punct_again puncts.Hash = refl
punct_again puncts.HashHash = refl

pub same_mark : (m q : Punct) → punct_number m ≡ punct_number q → m ≡ q
same_mark m q h = sym (punct_again m) ∙ ap punct_at h ∙ punct_again q

key_in : Key → List Key → ℕ → Key
key_in m [] n = m
key_in m (q ∷ qs) zero = q
key_in m (q ∷ qs) (suc n) = key_in m qs n

key_at : ℕ → Key
unfolding key_in
key_at n =
    key_in keys.Int
    (keys.Int ∷ keys.Long ∷ keys.Short ∷ keys.Char ∷ keys.Unsigned ∷ keys.Signed ∷ keys.Float ∷ keys.Double
    ∷ keys.Void ∷ keys.Bool ∷ keys.Struct ∷ keys.Union ∷ keys.Enum ∷ keys.Typedef ∷ keys.Static ∷ keys.Extern
    ∷ keys.Inline ∷ keys.Const ∷ keys.Volatile ∷ keys.Register ∷ keys.If ∷ keys.Else ∷ keys.While ∷ keys.Do
    ∷ keys.For ∷ keys.Switch ∷ keys.Case ∷ keys.Default ∷ keys.Break ∷ keys.Continue ∷ keys.Return ∷ keys.Goto
    ∷ keys.Sizeof ∷ keys.Null ∷ []) n

key_again : (m : Key) → key_at (key_number m) ≡ m
unfolding key_in key_at
key_again keys.Int = refl
key_again keys.Long = refl
key_again keys.Short = refl
key_again keys.Char = refl
key_again keys.Unsigned = refl
key_again keys.Signed = refl
key_again keys.Float = refl
key_again keys.Double = refl
key_again keys.Void = refl
key_again keys.Bool = refl
key_again keys.Struct = refl
key_again keys.Union = refl
key_again keys.Enum = refl
key_again keys.Typedef = refl
key_again keys.Static = refl
key_again keys.Extern = refl
key_again keys.Inline = refl
key_again keys.Const = refl
key_again keys.Volatile = refl
key_again keys.Register = refl
key_again keys.If = refl
key_again keys.Else = refl
key_again keys.While = refl
key_again keys.Do = refl
key_again keys.For = refl
key_again keys.Switch = refl
key_again keys.Case = refl
key_again keys.Default = refl
key_again keys.Break = refl
key_again keys.Continue = refl
key_again keys.Return = refl
key_again keys.Goto = refl
key_again keys.Sizeof = refl
key_again keys.Null = refl

pub same_key : (k q : Key) → key_number k ≡ key_number q → k ≡ q
same_key k q h = sym (key_again k) ∙ ap key_at h ∙ key_again q
