-- What becomes of one token of the text, body by body.
--   Emits opened token k ..   a kind is written out, or its body is opened and taken out of the macros
--   Stays macros token    it begins no directive, and nothing replaces it
--   IsReplaced macros used token before after count   the token becomes these, within the limit
--   IsOverLimit macros used token fault   it would pass the limit
use Rattle.std.specs.Prelude.{◌≡◌, ◌<◌, ℕ, ◌+◌, Bool, true, false, List, [], ◌∷◌, ◌++◌, length, set, Some, None}
use Rattle.pungi_base.specs.declared.kind.Kind.{Kind}
use Rattle.pungi_base.specs.declared.token.Token.{Token}
use Rattle.pungi_lex.specs.declared.frames.Frame.{Frame}
use Rattle.pungi_lex.specs.Limits.{token_limit}
use Rattle.pungi_lex.specs.declared.macro_fault.MacroFault.{MacroFault}
use Rattle.pungi_lex.specs.declared.macro_fault.MacroFault.TheVariants as fault
use Rattle.pungi_lex.specs.Directive.{IsHash}
use Rattle.pungi_lex.specs.Macros.{Macros, Expands, word_number, body_of, replacement, placed}

abbrev pub Emits : Bool → Token → Kind → Macros → Macros → List Token → List Token → List Frame → List Frame → Type 0
Emits false t k m after ts later fs frames =
    (replacement m k ≡ None) × (after ≡ m) × (later ≡ ts ++ placed t (k ∷ [])) × (frames ≡ fs)
Emits true t k m after ts later fs frames =
    (name : ℕ) × (body : List Kind) × (word_number k ≡ Some name) × (body_of m name ≡ Some body) × (name < length m)
    × (after ≡ set m name None) × (later ≡ ts)
    × (frames ≡ fs ++ (record { name = name; body = body; next = 0 }) ∷ [])

abbrev pub Stays : Macros → Token → Type 0
Stays macros t = (IsHash t → ⊥) × (replacement macros t.kind ≡ None)

abbrev pub IsReplaced : Macros → ℕ → Token → List Token → List Token → ℕ → Type 0
IsReplaced macros used t before after count =
    (kinds : List Kind) × (k : ℕ) × Expands macros (t.kind ∷ []) kinds k × (after ≡ before ++ placed t kinds)
    × (count ≡ used + k)

abbrev pub IsOverLimit : Macros → ℕ → Token → MacroFault → Type 0
IsOverLimit macros used t found =
    (kinds : List Kind) × (k : ℕ) × Expands macros (t.kind ∷ []) kinds k × (token_limit < used + k)
    × (found ≡ fault.TooManyTokens t.pos)
