-- A piece has one kind under names that are distinct.
use Rattle.std.proofs.Common.{◌≡◌, ◌<◌, ℕ, zero, suc, true, false, List, [], ◌∷◌, Option, Some, None, refl, sym, ap}
use Rattle.std.proofs.Common.{subst, ◌∙◌, arith, lit<}
use Rattle.std.specs.Prelude.{slice_get}
use Rattle.std.specs.List.{AllByRecursion, IsDistinct}
use Rattle.std.specs.Str.{bytes_eq}
use Rattle.std.proofs.lemmas.Slice.Eq.{bytes_eq-Decides}
use Rattle.pungi_base.specs.declared.key.Key.{Key}
use Rattle.pungi_base.specs.declared.key.Key.TheVariants as key
use Rattle.pungi_base.specs.declared.kind.Kind.{Kind}
use Rattle.pungi_base.specs.declared.kind.Kind.TheVariants as kind
use Rattle.pungi_base.specs.declared.names.Name.{Name}
use Rattle.pungi_base.specs.declared.punct.Punct.{Punct}
use Rattle.pungi_base.specs.Numbers.{keyword_count}
use Rattle.pungi_base.specs.Names.{AreDistinct, AreNames}
use Rattle.pungi_base.specs.Token.{key_number, punct_text}
use Rattle.pungi_lex.specs.declared.start.Start.{Start}
use Rattle.pungi_lex.specs.declared.start.Start.TheVariants as start
use Rattle.pungi_lex.specs.Piece.{IsKind, NamesWord, NamesText, IsMark}
use Rattle.pungi_lex.specs.Quote.{content}
use Rattle.pungi_lex.proofs.MarkLemmas.{mark_of, spelled}

-- ---- a text has one number among distinct names

differs_at : (texts : List (List ℕ)) (n : ℕ) (text other : List ℕ)
    → AllByRecursion (λ y. bytes_eq text y ≡ false) texts → slice_get texts n ≡ Some other
    → bytes_eq text other ≡ false
differs_at [] n text other all e = absurd cc
differs_at (t ∷ texts) zero text other all e =
    let is : t ≡ other = cc in subst (λ (x : List ℕ). bytes_eq text x ≡ false) is all.0
differs_at (t ∷ texts) (suc n) text other all e = differs_at texts n text other all.1 e

never_later : (texts : List (List ℕ)) (n : ℕ) (text other : List ℕ)
    → AllByRecursion (λ y. bytes_eq text y ≡ false) texts → slice_get texts n ≡ Some other → text ≡ other → ⊥
never_later texts n text other all e same =
    let differs : bytes_eq text other ≡ false = differs_at texts n text other all e in
    let equals : bytes_eq text other ≡ true = (bytes_eq-Decides text other).1 same in
    cc

number_once : (names : List (List ℕ)) (n m : ℕ) (text : List ℕ) → AreDistinct names → slice_get names n ≡ Some text
    → slice_get names m ≡ Some text → n ≡ m
unfolding IsDistinct
number_once [] n m text distinct one other = absurd cc
number_once (t ∷ names) zero zero text distinct one other = refl
number_once (t ∷ names) zero (suc m) text distinct one other =
    let is : t ≡ text = cc in absurd (never_later names m t text distinct.0 other is)
number_once (t ∷ names) (suc n) zero text distinct one other =
    let is : t ≡ text = cc in absurd (never_later names n t text distinct.0 one is)
number_once (t ∷ names) (suc n) (suc m) text distinct one other =
    ap suc (number_once names n m text distinct.1 one other)

-- ---- keywords and punctuators differ in their numbers and spellings

abbrev keys : List Key
keys =
    key.Int ∷ key.Long ∷ key.Short ∷ key.Char ∷ key.Unsigned ∷ key.Signed ∷ key.Float ∷ key.Double ∷ key.Void
    ∷ key.Bool ∷ key.Struct ∷ key.Union ∷ key.Enum ∷ key.Typedef ∷ key.Static ∷ key.Extern ∷ key.Inline
    ∷ key.Const ∷ key.Volatile ∷ key.Register ∷ key.If ∷ key.Else ∷ key.While ∷ key.Do ∷ key.For ∷ key.Switch
    ∷ key.Case ∷ key.Default ∷ key.Break ∷ key.Continue ∷ key.Return ∷ key.Goto ∷ key.Sizeof ∷ key.Null ∷ []

key_back : (k : Key) → slice_get keys (key_number k) ≡ Some k
key_back key.Int = refl
key_back key.Long = refl
key_back key.Short = refl
key_back key.Char = refl
key_back key.Unsigned = refl
key_back key.Signed = refl
key_back key.Float = refl
key_back key.Double = refl
key_back key.Void = refl
key_back key.Bool = refl
key_back key.Struct = refl
key_back key.Union = refl
key_back key.Enum = refl
key_back key.Typedef = refl
key_back key.Static = refl
key_back key.Extern = refl
key_back key.Inline = refl
key_back key.Const = refl
key_back key.Volatile = refl
key_back key.Register = refl
key_back key.If = refl
key_back key.Else = refl
key_back key.While = refl
key_back key.Do = refl
key_back key.For = refl
key_back key.Switch = refl
key_back key.Case = refl
key_back key.Default = refl
key_back key.Break = refl
key_back key.Continue = refl
key_back key.Return = refl
key_back key.Goto = refl
key_back key.Sizeof = refl
key_back key.Null = refl

key_once : (a b : Key) → key_number a ≡ key_number b → a ≡ b
key_once a b e = let same : Some a ≡ Some b = sym (key_back a) ∙ ap (slice_get keys) e ∙ key_back b in cc

key_below : (k : Key) → key_number k < keyword_count
key_below key.Int = lit< tt
key_below key.Long = lit< tt
key_below key.Short = lit< tt
key_below key.Char = lit< tt
key_below key.Unsigned = lit< tt
key_below key.Signed = lit< tt
key_below key.Float = lit< tt
key_below key.Double = lit< tt
key_below key.Void = lit< tt
key_below key.Bool = lit< tt
key_below key.Struct = lit< tt
key_below key.Union = lit< tt
key_below key.Enum = lit< tt
key_below key.Typedef = lit< tt
key_below key.Static = lit< tt
key_below key.Extern = lit< tt
key_below key.Inline = lit< tt
key_below key.Const = lit< tt
key_below key.Volatile = lit< tt
key_below key.Register = lit< tt
key_below key.If = lit< tt
key_below key.Else = lit< tt
key_below key.While = lit< tt
key_below key.Do = lit< tt
key_below key.For = lit< tt
key_below key.Switch = lit< tt
key_below key.Case = lit< tt
key_below key.Default = lit< tt
key_below key.Break = lit< tt
key_below key.Continue = lit< tt
key_below key.Return = lit< tt
key_below key.Goto = lit< tt
key_below key.Sizeof = lit< tt
key_below key.Null = lit< tt

punct_once : (a b : Punct) → punct_text a ≡ punct_text b → a ≡ b
punct_once a b e = let same : Some a ≡ Some b = sym (spelled a) ∙ ap mark_of e ∙ spelled b in cc

name_once : (a b : Name) → a.0 ≡ b.0 → a ≡ b
name_once a b e = λ i. record { 0 = e i }

-- ---- one kind

word_once : (names : List (List ℕ)) (a b : Option Kind) (word : List ℕ) → AreDistinct names → NamesWord names a word
    → NamesWord names b word → a ≡ b
word_once names None b word distinct s t = absurd s
word_once names (Some (kind.Key x)) None word distinct s t = absurd t
word_once names (Some (kind.Key x)) (Some (kind.Key y)) word distinct s t =
    ap (λ (k : Key). Some (kind.Key k)) (key_once x y (number_once names (key_number x) (key_number y) word distinct
    s t))
word_once names (Some (kind.Key x)) (Some (kind.Word y)) word distinct s t =
    absurd (omega (arith, key_below x, t.1, number_once names (key_number x) y.0 word distinct s t.0))
word_once names (Some (kind.Key x)) (Some (kind.Int y y2 y3)) word distinct s t = absurd t
word_once names (Some (kind.Key x)) (Some kind.Float) word distinct s t = absurd t
word_once names (Some (kind.Key x)) (Some (kind.Char y)) word distinct s t = absurd t
word_once names (Some (kind.Key x)) (Some (kind.Text y)) word distinct s t = absurd t
word_once names (Some (kind.Key x)) (Some (kind.Punct y)) word distinct s t = absurd t
word_once names (Some (kind.Key x)) (Some kind.Header) word distinct s t = absurd t
word_once names (Some (kind.Word x)) None word distinct s t = absurd t
word_once names (Some (kind.Word x)) (Some (kind.Key y)) word distinct s t =
    absurd (omega (arith, key_below y, s.1, number_once names (key_number y) x.0 word distinct t s.0))
word_once names (Some (kind.Word x)) (Some (kind.Word y)) word distinct s t =
    ap (λ (n : Name). Some (kind.Word n)) (name_once x y (number_once names x.0 y.0 word distinct s.0 t.0))
word_once names (Some (kind.Word x)) (Some (kind.Int y y2 y3)) word distinct s t = absurd t
word_once names (Some (kind.Word x)) (Some kind.Float) word distinct s t = absurd t
word_once names (Some (kind.Word x)) (Some (kind.Char y)) word distinct s t = absurd t
word_once names (Some (kind.Word x)) (Some (kind.Text y)) word distinct s t = absurd t
word_once names (Some (kind.Word x)) (Some (kind.Punct y)) word distinct s t = absurd t
word_once names (Some (kind.Word x)) (Some kind.Header) word distinct s t = absurd t
word_once names (Some (kind.Int x x2 x3)) b word distinct s t = absurd s
word_once names (Some kind.Float) b word distinct s t = absurd s
word_once names (Some (kind.Char x)) b word distinct s t = absurd s
word_once names (Some (kind.Text x)) b word distinct s t = absurd s
word_once names (Some (kind.Punct x)) b word distinct s t = absurd s
word_once names (Some kind.Header) b word distinct s t = absurd s

text_once : (names : List (List ℕ)) (a b : Option Kind) (text : List ℕ) → AreDistinct names → NamesText names a text
    → NamesText names b text → a ≡ b
text_once names None b text distinct s t = absurd s
text_once names (Some (kind.Key x)) b text distinct s t = absurd s
text_once names (Some (kind.Word x)) b text distinct s t = absurd s
text_once names (Some (kind.Int x x2 x3)) b text distinct s t = absurd s
text_once names (Some kind.Float) b text distinct s t = absurd s
text_once names (Some (kind.Char x)) b text distinct s t = absurd s
text_once names (Some (kind.Text x)) None text distinct s t = absurd t
text_once names (Some (kind.Text x)) (Some (kind.Key y)) text distinct s t = absurd t
text_once names (Some (kind.Text x)) (Some (kind.Word y)) text distinct s t = absurd t
text_once names (Some (kind.Text x)) (Some (kind.Int y y2 y3)) text distinct s t = absurd t
text_once names (Some (kind.Text x)) (Some kind.Float) text distinct s t = absurd t
text_once names (Some (kind.Text x)) (Some (kind.Char y)) text distinct s t = absurd t
text_once names (Some (kind.Text x)) (Some (kind.Text y)) text distinct s t =
    ap (λ (n : Name). Some (kind.Text n)) (name_once x y (number_once names x.0 y.0 text distinct s t))
text_once names (Some (kind.Text x)) (Some (kind.Punct y)) text distinct s t = absurd t
text_once names (Some (kind.Text x)) (Some kind.Header) text distinct s t = absurd t
text_once names (Some (kind.Punct x)) b text distinct s t = absurd s
text_once names (Some kind.Header) b text distinct s t = absurd s

mark_once : (a b : Option Kind) (piece : List ℕ) → IsMark a piece → IsMark b piece → a ≡ b
mark_once None b piece s t = absurd s
mark_once (Some (kind.Key x)) b piece s t = absurd s
mark_once (Some (kind.Word x)) b piece s t = absurd s
mark_once (Some (kind.Int x x2 x3)) b piece s t = absurd s
mark_once (Some kind.Float) b piece s t = absurd s
mark_once (Some (kind.Char x)) b piece s t = absurd s
mark_once (Some (kind.Text x)) b piece s t = absurd s
mark_once (Some (kind.Punct x)) None piece s t = absurd t
mark_once (Some (kind.Punct x)) (Some (kind.Key y)) piece s t = absurd t
mark_once (Some (kind.Punct x)) (Some (kind.Word y)) piece s t = absurd t
mark_once (Some (kind.Punct x)) (Some (kind.Int y y2 y3)) piece s t = absurd t
mark_once (Some (kind.Punct x)) (Some kind.Float) piece s t = absurd t
mark_once (Some (kind.Punct x)) (Some (kind.Char y)) piece s t = absurd t
mark_once (Some (kind.Punct x)) (Some (kind.Text y)) piece s t = absurd t
mark_once (Some (kind.Punct x)) (Some (kind.Punct y)) piece s t =
    ap (λ (p : Punct). Some (kind.Punct p)) (punct_once x y (s ∙ sym t))
mark_once (Some (kind.Punct x)) (Some kind.Header) piece s t = absurd t
mark_once (Some kind.Header) b piece s t = absurd s

pub kind_once : (names : List (List ℕ)) (st : Start) (a b : Option Kind) (piece : List ℕ) → AreNames names
    → IsKind names st a piece → IsKind names st b piece → a ≡ b
kind_once names start.Header a b piece are s t = s ∙ sym t
kind_once names start.Blank a b piece are s t = s ∙ sym t
kind_once names start.LineComment a b piece are s t = s ∙ sym t
kind_once names start.Comment a b piece are s t = s ∙ sym t
kind_once names start.Word a b piece are s t = word_once names a b piece are.distinct s t
kind_once names start.Number a b piece are s t = s ∙ sym t
kind_once names start.Char a b piece are s t = s ∙ sym t
kind_once names start.Text a b piece are s t = text_once names a b (content piece) are.distinct s t
kind_once names start.Mark a b piece are s t = mark_once a b piece s t
kind_once names start.Nothing a b piece are s t = absurd s
