-- What the object macros make of the tokens of a text (C11 6.10.3), and how their directives go.
--   Part                  a directive, to the last token before the next that is first on its line; or another token
--   tokens_of_part p, tokens_in parts    the tokens of a part, and of parts
--   starts_first tokens   the next token, if there is one, is first on its line
--   ArePartsBefore parts rest   tokens are these parts and then rest
--   Runs macros n parts out last m   the parts become the tokens out; the macros and the count of tokens and
--                         replacements are macros and n before them, last and m after them
--   IsExpanded names tokens out     the tokens become out, where there are so many names
--   Refuses macros n part fault     this part is refused
--   HasMacroFault names tokens fault   the parts run as far as one that is refused
--   HasNoExpansion names tokens     nothing is what the tokens become
use Rattle.std.specs.Prelude.{◌≡◌, ◌≤◌, ◌<◌, ℕ, ◌+◌, Bool, true, not, IsTrue, List, [], ◌∷◌, ◌++◌, Ok, Err}
use Rattle.std.specs.List.{list_all}
use Rattle.pungi_base.specs.declared.kind.Kind.{Kind}
use Rattle.pungi_base.specs.declared.token.Token.{Token}
use Rattle.pungi_lex.specs.Limits.{token_limit}
use Rattle.pungi_lex.specs.declared.macro_fault.MacroFault.{MacroFault}
use Rattle.pungi_lex.specs.declared.macro_fault.MacroFault.TheVariants as fault
use Rattle.pungi_lex.specs.Directive.{IsHash, Obeys}
use Rattle.pungi_lex.specs.Macros.{Macros, Expands, placed}
use Rattle.pungi_lex.specs.Predefined.{predefined}

pub data Part : Type 0 where
  Directed : (hash : Token) (words : List Token) → Part
  Plain : (token : Token) → Part

abbrev pub tokens_of_part : Part → List Token
tokens_of_part (Directed hash words) = hash ∷ words
tokens_of_part (Plain token) = token ∷ []

abbrev pub tokens_in : List Part → List Token
tokens_in [] = []
tokens_in (part ∷ parts) = tokens_of_part part ++ tokens_in parts

-- the next token, if there is one, is first on its line
abbrev pub starts_first : List Token → Bool
starts_first [] = true
starts_first (t ∷ tokens) = t.first

abbrev pub ArePartsBefore : List Part → List Token → Type 0
ArePartsBefore [] rest = Unit {0}
ArePartsBefore (Directed hash words ∷ parts) rest =
    IsHash hash × IsTrue (list_all (λ (t : Token). not t.first) words)
    × IsTrue (starts_first (tokens_in parts ++ rest)) × ArePartsBefore parts rest
ArePartsBefore (Plain token ∷ parts) rest = (IsHash token → ⊥) × ArePartsBefore parts rest

pub data Runs : Macros → ℕ → List Part → List Token → Macros → ℕ → Type 0 where
  Ends : (macros : Macros) (n : ℕ) → Runs macros n [] [] macros n
  Directs : (macros next last : Macros) (n m : ℕ) (hash : Token) (words : List Token) (parts : List Part)
      (out : List Token) → Obeys macros hash words (Ok next) → Runs next n parts out last m
      → Runs macros n (Directed hash words ∷ parts) out last m
  Expanded : (macros last : Macros) (n k m : ℕ) (t : Token) (kinds : List Kind) (parts : List Part)
      (out : List Token) → Expands macros (t.kind ∷ []) kinds k → n + k ≤ token_limit
      → Runs macros (n + k) parts out last m
      → Runs macros n (Plain t ∷ parts) (placed t kinds ++ out) last m

pub record IsExpanded (names : ℕ) (tokens out : List Token) : Type 0 where
  pub parts : List Part
  pub whole : tokens ≡ tokens_in parts ++ []
  pub are : ArePartsBefore parts []
  pub last : Macros
  pub count : ℕ
  pub runs : Runs (predefined names) 0 parts out last count

pub data Refuses (macros : Macros) (n : ℕ) : Part → MacroFault → Type 0 where
  OfDirective : (hash : Token) (words : List Token) (found : MacroFault) → Obeys macros hash words (Err found)
      → Refuses macros n (Directed hash words) found
  OfCount : (t : Token) (kinds : List Kind) (k : ℕ) → Expands macros (t.kind ∷ []) kinds k → token_limit < n + k
      → Refuses macros n (Plain t) (fault.TooManyTokens t.pos)

pub record HasMacroFault (names : ℕ) (tokens : List Token) (found : MacroFault) : Type 0 where
  pub parts : List Part
  pub part : Part
  pub rest : List Token
  pub whole : tokens ≡ tokens_in (parts ++ part ∷ []) ++ rest
  pub are : ArePartsBefore (parts ++ part ∷ []) rest
  pub out : List Token
  pub macros : Macros
  pub count : ℕ
  pub runs : Runs (predefined names) 0 parts out macros count
  pub refused : Refuses macros count part found

abbrev pub HasNoExpansion : ℕ → List Token → Type 0
HasNoExpansion names tokens = (out : List Token) → IsExpanded names tokens out → ⊥
