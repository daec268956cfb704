-- Directives (C11 6.10): an inclusion, or the definition of an object macro (C11 6.10.3). All others are refused.
--   IsHash token          a # that is first on its line
--   IsWord n token        the word of this number
--   IsInclusion words     `include` comes next
--   IsDefinition words    `define` and a word come next
--   IsDefinitionOf name at words   they define this name, which stands at this place
--   kinds_in tokens       the kinds of tokens
--   IsFunctionLike body   a ( that touches the defined word comes next (C11 6.10.3, 10)
--   Redefines macros name body   the name is predefined, or has another body already (C11 6.10.3, 2)
--   HasNoJointBelow body n   none of the first n tokens is ##
--   IsJointAt body n      the n-th token is the first ##
--   Defines macros name at body r   what this definition makes of the macros, or what it is refused for
--   Obeys macros hash words r       what a directive makes of the macros, or what it is refused for
use Rattle.std.specs.Prelude.{◌≡◌, ◌≢◌, ◌⊎◌, ◌<◌, ℕ, true, List, [], ◌∷◌, length, drop, map, get_or, set, Some, Result}
use Rattle.std.specs.Prelude.{Ok, Err}
use Rattle.pungi_base.specs.declared.pos.Pos.{Pos}
use Rattle.pungi_base.specs.declared.kind.Kind.{Kind}
use Rattle.pungi_base.specs.declared.kind.Kind.TheVariants as kind
use Rattle.pungi_base.specs.declared.punct.Punct.TheVariants as punct
use Rattle.pungi_base.specs.declared.token.Token.{Token}
use Rattle.pungi_base.specs.Numbers.{include_word, define_word}
use Rattle.pungi_lex.specs.declared.macro_fault.MacroFault.{MacroFault}
use Rattle.pungi_lex.specs.declared.macro_fault.MacroFault.TheVariants as fault
use Rattle.pungi_lex.specs.Macros.{Macros, word_number, body_of}
use Rattle.pungi_lex.specs.Predefined.{is_predefined}

abbrev pub IsHash : Token → Type 0
IsHash token = (token.kind ≡ kind.Punct punct.Hash) × (token.first ≡ true)

abbrev pub IsWord : ℕ → Token → Type 0
IsWord n token = word_number token.kind ≡ Some n

abbrev pub IsInclusion : List Token → Type 0
IsInclusion [] = ⊥
IsInclusion (word ∷ words) = IsWord include_word word

abbrev pub IsDefinition : List Token → Type 0
IsDefinition [] = ⊥
IsDefinition (word ∷ []) = ⊥
IsDefinition (word ∷ defined ∷ body) = IsWord define_word word × ((name : ℕ) × IsWord name defined)

abbrev pub IsDefinitionOf : ℕ → Pos → List Token → Type 0
IsDefinitionOf name at [] = ⊥
IsDefinitionOf name at (word ∷ []) = ⊥
IsDefinitionOf name at (word ∷ defined ∷ body) = IsWord define_word word × IsWord name defined × (at ≡ defined.pos)

abbrev pub kinds_in : List Token → List Kind
kinds_in tokens = map (λ t. t.kind) tokens

abbrev pub IsFunctionLike : List Token → Type 0
IsFunctionLike [] = ⊥
IsFunctionLike (t ∷ body) = (t.kind ≡ kind.Punct punct.LeftParen) × (t.touching ≡ true)

abbrev pub Redefines : Macros → ℕ → List Kind → Type 0
Redefines macros name body =
    (is_predefined name ≡ true) ⊎ ((old : List Kind) × (body_of macros name ≡ Some old) × (old ≢ body))

abbrev pub HasNoJointBelow : List Token → ℕ → Type 0
HasNoJointBelow body n = (i : ℕ) → i < n → (t : Token) → t ≡ get_or body i t → t.kind ≢ kind.Punct punct.HashHash

abbrev pub IsJointAt : List Token → ℕ → Type 0
IsJointAt body n =
    (n < length body) × HasNoJointBelow body n
    × ((t : Token) → t ≡ get_or body n t → t.kind ≡ kind.Punct punct.HashHash)

pub data Defines (macros : Macros) (name : ℕ) (at : Pos) : List Token → Result Macros MacroFault → Type 0 where
  Define : (body : List Token) → (IsFunctionLike body → ⊥) → (Redefines macros name (kinds_in body) → ⊥)
      → HasNoJointBelow body (length body) → Defines macros name at body (Ok (set macros name (Some (kinds_in body))))
  OfFunction : (body : List Token) → IsFunctionLike body → Defines macros name at body (Err (fault.FunctionMacro at))
  Again : (body : List Token) → (IsFunctionLike body → ⊥) → Redefines macros name (kinds_in body)
      → Defines macros name at body (Err (fault.Redefined at))
  Joint : (body : List Token) (i : ℕ) (t : Token) → (IsFunctionLike body → ⊥)
      → (Redefines macros name (kinds_in body) → ⊥) → IsJointAt body i → t ≡ get_or body i t
      → Defines macros name at body (Err (fault.Directive t.pos))

pub data Obeys (macros : Macros) (hash : Token) : List Token → Result Macros MacroFault → Type 0 where
  Inclusion : (words : List Token) → IsInclusion words → Obeys macros hash words (Ok macros)
  Definition : (words : List Token) (name : ℕ) (at : Pos) (r : Result Macros MacroFault) → (IsInclusion words → ⊥)
      → IsDefinitionOf name at words → Defines macros name at (drop 2 words) r → Obeys macros hash words r
  Other : (words : List Token) → (IsInclusion words → ⊥) → (IsDefinition words → ⊥)
      → Obeys macros hash words (Err (fault.Directive hash.pos))
