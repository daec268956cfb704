-- The front end: from the text of a file to what the file consists of, or to why the text is refused.
--   IsUnitOf words text names items    after these words the text spells these items, and these are the names then:
--                             its tokens, their macros replaced, are the unit
--   IsNoUnit words text       it spells none
--   IsFile api text names items    a file over an API that is known: a text that spells these items, in which no name
--                             is used twice and no function is one too many
--   IsNoFile api text         it is no file
--   IsParseFault ts fault     why tokens have no tree
--   IsUnitFault file fault    why what is known of a text is no file
--   IsFaultOf api text fault  why a text is refused, by its tokens, by its macros, by its grammar, or by its names
--   AreKnownKinds names ks    the words of tokens are words of C, and their string literals have texts
--   lex_reason, macro_reason, parse_reason, unit_reason, reason_of      the place of a fault and its reason, unless it
--                                                                       is want of memory
--   refused_text at reason    the line of a refusal
--   IsRefusedAs api text answer    the text is no file, and this line says why
use Rattle.std.specs.Prelude.{◌≡◌, ℕ, List, ◌++◌, length, Option, Some, None, codes}
use Rattle.std.specs.List.{All}
use Rattle.pungi_base.specs.declared.kind.Kind.{Kind}
use Rattle.pungi_base.specs.declared.pos.Pos.{Pos}
use Rattle.pungi_base.specs.declared.token.Token.{Token}
use Rattle.pungi_base.specs.Witness.{place_text, line_end}
use Rattle.pungi_check.specs.Faults.{finding_at}
use Rattle.pungi_check.specs.declared.fault.UnitFault.{UnitFault}
use Rattle.pungi_check.specs.declared.fault.UnitFault.TheVariants as unit
use Rattle.pungi_lex.specs.declared.lex_fault.LexFault.{LexFault}
use Rattle.pungi_lex.specs.declared.lex_fault.LexFault.TheVariants as lex
use Rattle.pungi_lex.specs.declared.macro_fault.MacroFault.{MacroFault}
use Rattle.pungi_lex.specs.declared.macro_fault.MacroFault.TheVariants as macro
use Rattle.pungi_lex.specs.Expander.{IsExpanded, HasMacroFault}
use Rattle.pungi_lex.specs.Known.{IsKnown}
use Rattle.pungi_lex.specs.Tokens.{AreTokensOf, HasFault}
use Rattle.pungi_parse.specs.declared.fault.ParseFault.{ParseFault}
use Rattle.pungi_parse.specs.declared.fault.ParseFault.TheVariants as parse
use Rattle.pungi_parse.specs.Units.{IsUnit, StopsAt, too_deep}
use Rattle.pungi_tree.specs.Placed.{Placed, placed}
use Rattle.pungi_tree.specs.Syntax.{Item}
use Rattle.pungi_check.specs.Duplicates.{faults}
use Rattle.pungi_types.specs.Files.{SourceFile, source_file}
use Rattle.pungi_types.specs.Findings.{least}
use Rattle.pungi.specs.Api.{Api}
use Rattle.pungi.specs.declared.file_fault.FileFault.{FileFault}
use Rattle.pungi.specs.declared.file_fault.FileFault.TheVariants as fault

pub record IsUnitOf (words : List (List ℕ)) (text : List ℕ) (names : List (List ℕ)) (items : List Item) : Type 0
  where
    pub tokens : List Token
    pub expanded : List Token
    pub cut : AreTokensOf words names text tokens
    pub replaced : IsExpanded (length names) tokens expanded
    pub shallow : too_deep 0 (placed expanded) ≡ None
    pub unit : IsUnit items (placed expanded)

abbrev pub IsNoUnit : List (List ℕ) → List ℕ → Type 0
IsNoUnit words text = (names : List (List ℕ)) → (items : List Item) → IsUnitOf words text names items → ⊥

pub record IsFile (api : Api) (text : List ℕ) (names : List (List ℕ)) (items : List Item) : Type 0 where
  pub spelled : IsUnitOf api.names text names items
  pub distinct : least (faults (source_file names items api.rows api.terms)) ≡ None

abbrev pub IsNoFile : Api → List ℕ → Type 0
IsNoFile api text = (names : List (List ℕ)) → (items : List Item) → IsFile api text names items → ⊥

abbrev pub IsParseFault : List Placed → ParseFault → Type 0
IsParseFault ts parse.Memory = ⊥
IsParseFault ts (parse.Deep at) = too_deep 0 ts ≡ Some at
IsParseFault ts (parse.NotAUnit at) = (too_deep 0 ts ≡ None) × StopsAt ts at

abbrev pub IsUnitFault : SourceFile → UnitFault → Type 0
IsUnitFault file unit.Memory = ⊥
IsUnitFault file (unit.DuplicateName at) = least (faults file) ≡ finding_at at 1
IsUnitFault file (unit.TooManyFunctions at) = least (faults file) ≡ finding_at at 2

abbrev pub IsFaultOf : Api → List ℕ → FileFault → Type 0
IsFaultOf api text (fault.Lex found) = HasFault text found
IsFaultOf api text (fault.Macro found) =
    (names : List (List ℕ)) × (tokens : List Token) × AreTokensOf api.names names text tokens
    × HasMacroFault (length names) tokens found
IsFaultOf api text (fault.Parse found) =
    (names : List (List ℕ)) × (tokens expanded : List Token) × AreTokensOf api.names names text tokens
    × IsExpanded (length names) tokens expanded × IsParseFault (placed expanded) found
IsFaultOf api text (fault.Unit found) =
    (names : List (List ℕ)) × (items : List Item) × IsUnitOf api.names text names items
    × IsUnitFault (source_file names items api.rows api.terms) found
IsFaultOf api text fault.Memory = ⊥

abbrev pub AreKnownKinds : List (List ℕ) → List Kind → Type 0
AreKnownKinds names ks = All (λ k. IsKnown names k) ks

abbrev pub lex_reason : LexFault → Option (Pos × List ℕ)
lex_reason lex.Memory = None
lex_reason (lex.Byte at) = Some (at, codes "byte")
lex_reason (lex.OpenComment at) = Some (at, codes "open comment")
lex_reason (lex.OpenText at) = Some (at, codes "open text")
lex_reason (lex.Number at) = Some (at, codes "number")

abbrev pub macro_reason : MacroFault → Option (Pos × List ℕ)
macro_reason macro.Memory = None
macro_reason (macro.Directive at) = Some (at, codes "directive")
macro_reason (macro.FunctionMacro at) = Some (at, codes "function macro")
macro_reason (macro.Redefined at) = Some (at, codes "redefined")
macro_reason (macro.TooManyTokens at) = Some (at, codes "too many tokens")

abbrev pub parse_reason : ParseFault → Option (Pos × List ℕ)
parse_reason parse.Memory = None
parse_reason (parse.Deep at) = Some (at, codes "nested over 64")
parse_reason (parse.NotAUnit at) = Some (at, codes "not a unit")

abbrev pub unit_reason : UnitFault → Option (Pos × List ℕ)
unit_reason unit.Memory = None
unit_reason (unit.DuplicateName at) = Some (at, codes "duplicate name")
unit_reason (unit.TooManyFunctions at) = Some (at, codes "too many functions")

abbrev pub reason_of : FileFault → Option (Pos × List ℕ)
reason_of (fault.Lex found) = lex_reason found
reason_of (fault.Macro found) = macro_reason found
reason_of (fault.Parse found) = parse_reason found
reason_of (fault.Unit found) = unit_reason found
reason_of fault.Memory = None

abbrev pub refused_text : Pos → List ℕ → List ℕ
refused_text at reason = (codes "file refused " ++ place_text at ++ codes " ") ++ (reason ++ line_end)

-- a text that is no file, and the line that says why
pub record IsRefusedAs (api : Api) (text answer : List ℕ) : Type 0 where
  pub none : IsNoFile api text
  pub cause : FileFault
  pub holds : IsFaultOf api text cause
  pub at : Pos
  pub reason : List ℕ
  pub told : reason_of cause ≡ Some (at, reason)
  pub printed : answer ≡ refused_text at reason
