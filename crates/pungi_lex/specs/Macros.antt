-- Object macros, and what they make of the kinds of tokens (C11 6.10.3). A word that is a macro is replaced by its
-- body, and the body is scanned again (C11 6.10.3.4). A name isn't replaced inside its own expansion: a body is
-- expanded under the macros without its own name.
--   Macros                for each name, by its number, its body, if it is a macro now
--   word_number kind      the number of a word
--   body_of macros n, body_at macros o    the body of this name, and of one that may be missing
--   replacement macros k  what this kind is replaced by, if it is
--   Expands macros kinds out n   the kinds become these, with n tokens and replacements together
--   placed token kinds    what a token of the text becomes: the same token under each of these kinds
use Rattle.std.specs.Prelude.{◌≡◌, ℕ, ◌+◌, List, [], ◌∷◌, ◌++◌, map, get_or, set, Option, Some, None}
use Rattle.pungi_base.specs.declared.kind.Kind.{Kind}
use Rattle.pungi_base.specs.declared.kind.Kind.TheVariants as kind
use Rattle.pungi_base.specs.declared.token.Token.{Token}

abbrev pub Macros : Type 0
Macros = List (Option (List Kind))

abbrev pub word_number : Kind → Option ℕ
word_number (kind.Word name) = Some name.0
word_number (kind.Key key) = None
word_number (kind.Int value long unsigned) = None
word_number kind.Float = None
word_number (kind.Char b) = None
word_number (kind.Text name) = None
word_number (kind.Punct punct) = None
word_number kind.Header = None

abbrev pub body_of : Macros → ℕ → Option (List Kind)
body_of macros n = get_or macros n None

abbrev pub body_at : Macros → Option ℕ → Option (List Kind)
body_at macros None = None
body_at macros (Some n) = body_of macros n

abbrev pub replacement : Macros → Kind → Option (List Kind)
replacement macros k = body_at macros (word_number k)

pub data Expands : Macros → List Kind → List Kind → ℕ → Type 0 where
  Nothing : (macros : Macros) → Expands macros [] [] 0
  Kept : (macros : Macros) (k : Kind) (ks out : List Kind) (n : ℕ) → replacement macros k ≡ None
      → Expands macros ks out n → Expands macros (k ∷ ks) (k ∷ out) (1 + n)
  Replaced : (macros : Macros) (k : Kind) (name : ℕ) (body ks inner out : List Kind) (m n : ℕ)
      → word_number k ≡ Some name → body_of macros name ≡ Some body
      → Expands (set macros name None) body inner m → Expands macros ks out n
      → Expands macros (k ∷ ks) (inner ++ out) (1 + (m + n))

abbrev pub placed : Token → List Kind → List Token
placed token kinds = map (λ k. record token { kind = k }) kinds
