-- Why a text is refused by each part of the front end, and that it is no file then.
use Rattle.std.proofs.Common.{◌≡◌, ◌⊎◌, ⊎_elim, ℕ, suc, false, List, [], ◌∷◌, length, Option, Some, None, Result, Ok}
use Rattle.std.proofs.Common.{Err, refl, sym, subst, arith}
use Rattle.std.specs.List.{AllZip}
use Rattle.std.proofs.lemmas.List.Elements.{All-cons, All-nil}
use Rattle.pungi_base.specs.declared.kind.Kind.{Kind}
use Rattle.pungi_base.specs.declared.pos.Pos.{Pos}
use Rattle.pungi_base.specs.declared.token.Token.{Token}
use Rattle.pungi_api.specs.declared.row.Row.{Row}
use Rattle.pungi_api.specs.Terms.{FileTerms}
use Rattle.pungi_base.specs.declared.names.Name.{Name}
use Rattle.pungi_base.specs.declared.verdict.Verdict.{Verdict}
use Rattle.pungi_lex.specs.declared.lex_fault.LexFault.{LexFault}
use Rattle.pungi_lex.specs.declared.lex_fault.LexFault.TheVariants as lex
use Rattle.pungi_lex.specs.declared.macro_fault.MacroFault.{MacroFault}
use Rattle.pungi_lex.specs.declared.macro_fault.MacroFault.TheVariants as macro
use Rattle.pungi_lex.specs.Expander.{IsExpanded, HasMacroFault, HasNoExpansion}
use Rattle.pungi_lex.specs.Known.{IsKnown, AreKnown}
use Rattle.pungi_lex.specs.MacroFault.{is_want_of_memory}
use Rattle.pungi_lex.specs.Tokens.{AreTokensOf, HasFault, HasNoTokens, is_memory}
use Rattle.pungi_check.specs.Faults.{IsFaultOf as IsFaultOfUnit}
use Rattle.pungi_check.specs.declared.fault.UnitFault.{UnitFault}
use Rattle.pungi_check.specs.declared.fault.UnitFault.TheVariants as unit
use Rattle.pungi_parse.specs.declared.fault.ParseFault.{ParseFault}
use Rattle.pungi_parse.specs.declared.fault.ParseFault.TheVariants as parse
use Rattle.pungi_parse.specs.Units.{IsUnit, StopsAt, too_deep}
use Rattle.pungi_tree.specs.Placed.{Placed, placed, kinds}
use Rattle.pungi_tree.specs.Syntax.{Item}
use Rattle.pungi_check.specs.Duplicates.{faults}
use Rattle.pungi_check.specs.Found.{checked_view, IsChecked}
use Rattle.pungi_check.specs.declared.checked.Checked.{Checked}
use Rattle.pungi_types.specs.Files.{SourceFile, definitions, source_file}
use Rattle.pungi_types.specs.Findings.{least}
use Rattle.pungi_types.specs.Refused.{IsRefusedSet}
use Rattle.pungi_verdict.specs.Verdicts.{IsJudged}
use Rattle.pungi.specs.declared.file_fault.FileFault.{FileFault}
use Rattle.pungi.specs.declared.file_fault.FileFault.TheVariants as fault
use Rattle.pungi.specs.Api.{Api}
use Rattle.pungi.specs.Examine.{AreVerdicts}
use Rattle.pungi.specs.Front.{IsUnitOf, IsNoUnit, IsNoFile, IsRefusedAs, refused_text, IsUnitFault}
use Rattle.pungi.specs.Front.{IsParseFault, IsFaultOf, AreKnownKinds, lex_reason, macro_reason, parse_reason}
use Rattle.pungi.specs.Front.{unit_reason, reason_of}

lex_known : (found : LexFault) (told : Pos × List ℕ) → lex_reason found ≡ Some told → is_memory found ≡ false
lex_known lex.Memory told h = absurd (cc)
lex_known (lex.Byte at) told h = refl
lex_known (lex.OpenComment at) told h = refl
lex_known (lex.OpenText at) told h = refl
lex_known (lex.Number at) told h = refl

pub lex_refused : (old : List (List ℕ)) (rows : List (ℕ × Row)) (terms : FileTerms) (bytes : List ℕ)
    (found : LexFault)
    → (is_memory found ≡ false → HasFault bytes found) → (is_memory found ≡ false → HasNoTokens old bytes)
    → (told : Pos × List ℕ) → reason_of (fault.Lex found) ≡ Some told
    → IsFaultOf (record { names = old; rows = rows; terms = terms }) bytes (fault.Lex found) × IsNoUnit old bytes
lex_refused old rows terms bytes found holds none told h =
    let m = lex_known found told h in (holds m, λ names items file. none m names file.tokens file.cut)

macro_known : (found : MacroFault) (told : Pos × List ℕ) → macro_reason found ≡ Some told
    → is_want_of_memory found ≡ false
macro_known macro.Memory told h = absurd (cc)
macro_known (macro.Directive at) told h = refl
macro_known (macro.FunctionMacro at) told h = refl
macro_known (macro.Redefined at) told h = refl
macro_known (macro.TooManyTokens at) told h = refl

-- the tokens of a text, under the names after it, and no others
pub record IsLexed (old new : List (List ℕ)) (text : List ℕ) (tokens : List Token) : Type 0 where
  pub cut : AreTokensOf old new text tokens
  pub only : (after : List (List ℕ)) (others : List Token) → AreTokensOf old after text others
      → (after ≡ new) × (others ≡ tokens)

pub lexed : (old new : List (List ℕ)) (text : List ℕ) (shown tokens : List Token) → shown ≡ tokens
    → AreTokensOf old new text tokens
    → ((after : List (List ℕ)) (others : List Token) → AreTokensOf old after text others
    → (after ≡ new) × (others ≡ tokens)) → IsLexed old new text shown
lexed old new text shown tokens same cut only =
    subst (λ (ts : List Token). IsLexed old new text ts) (sym same) (record { cut = cut; only = only })

-- a file's tokens are these, and so are its names
same_lexed : (old new : List (List ℕ)) (text : List ℕ) (tokens : List Token) → IsLexed old new text tokens
    → (names : List (List ℕ)) (items : List Item) (file : IsUnitOf old text names items)
    → (names ≡ new) × (file.tokens ≡ tokens)
same_lexed old new text tokens l names items file =
    l.only names file.tokens file.cut

-- its expansion is one of these tokens
expansion_of : (old new : List (List ℕ)) (text : List ℕ) (tokens : List Token) → IsLexed old new text tokens
    → (names : List (List ℕ)) (items : List Item) (file : IsUnitOf old text names items)
    → IsExpanded (length new) tokens file.expanded
expansion_of old new text tokens l names items file =
    let s = same_lexed old new text tokens l names items file in
    subst (λ (ts : List Token). IsExpanded (length new) ts file.expanded) s.1
    (subst (λ (ns : List (List ℕ)). IsExpanded (length ns) file.tokens file.expanded) s.0 file.replaced)

pub macro_refused : (old new : List (List ℕ)) (rows : List (ℕ × Row)) (terms : FileTerms) (text : List ℕ)
    (tokens : List Token) (found : MacroFault)
    → IsLexed old new text tokens
    → (is_want_of_memory found ≡ false → HasMacroFault (length new) tokens found)
    → (is_want_of_memory found ≡ false → HasNoExpansion (length new) tokens)
    → (told : Pos × List ℕ) → reason_of (fault.Macro found) ≡ Some told
    → IsFaultOf (record { names = old; rows = rows; terms = terms }) text (fault.Macro found) × IsNoUnit old text
macro_refused old new rows terms text tokens found l holds none told h =
    let m = macro_known found told h in (
      (new, tokens, l.cut, holds m),
      λ names items file. none m file.expanded
          (expansion_of old new text tokens l names items file),
    )

-- the tokens with their macros replaced, and no others
pub record IsReady (old new : List (List ℕ)) (text : List ℕ) (tokens expanded : List Token) : Type 0 where
  pub lexed : IsLexed old new text tokens
  pub replaced : IsExpanded (length new) tokens expanded
  pub only : (other : List Token) → IsExpanded (length new) tokens other → other ≡ expanded

pub ready : (old new : List (List ℕ)) (text : List ℕ) (tokens shown expanded : List Token)
    → IsLexed old new text tokens → shown ≡ expanded → IsExpanded (length new) tokens expanded
    → ((other : List Token) → IsExpanded (length new) tokens other → other ≡ expanded)
    → IsReady old new text tokens shown
ready old new text tokens shown expanded l same replaced only =
    subst (λ (ts : List Token). IsReady old new text tokens ts) (sym same)
    (record { lexed = l; replaced = replaced; only = only })

same_expansion : (old new : List (List ℕ)) (text : List ℕ) (tokens expanded : List Token)
    → IsReady old new text tokens expanded → (names : List (List ℕ)) (items : List Item)
    (file : IsUnitOf old text names items)
    → file.expanded ≡ expanded
same_expansion old new text tokens expanded r names items file =
    r.only file.expanded (expansion_of old new text tokens r.lexed names items file)

file_unit : (old new : List (List ℕ)) (text : List ℕ) (tokens expanded : List Token)
    → IsReady old new text tokens expanded → (names : List (List ℕ)) (items : List Item)
    (file : IsUnitOf old text names items)
    → (too_deep 0 (placed expanded) ≡ None) × IsUnit items (placed expanded)
file_unit old new text tokens expanded r names items file =
    let e = same_expansion old new text tokens expanded r names items file in (
      subst (λ (ts : List Token). too_deep 0 (placed ts) ≡ None) e file.shallow,
      subst
          (λ (ts : List Token). IsUnit items (placed ts)) e file.unit,
    )

pub err_same : {T : Type 0} (x y : ParseFault) → ◌≡◌ {A = Result T ParseFault} (Err x) (Err y) → x ≡ y
err_same x y h = cc

pub ok_is_no_err : {T : Type 0} (x : T) (e : ParseFault) → ◌≡◌ {A = Result T ParseFault} (Ok x) (Err e) → ⊥
ok_is_no_err x e h = cc

-- what the parser says of a fault
pub record IsParsed (ts : List Placed) (found : ParseFault) : Type 0 where
  pub deep : (p : Pos) → found ≡ parse.Deep p → too_deep 0 ts ≡ Some p
  pub not_a_unit : (p : Pos) → found ≡ parse.NotAUnit p → StopsAt ts p
  pub first : (p : Pos) → too_deep 0 ts ≡ Some p → (found ≡ parse.Deep p) ⊎ (found ≡ parse.Memory)
  pub only : (items : List Item) → too_deep 0 ts ≡ None → IsUnit items ts → found ≡ parse.Memory

no_depth : (ts : List Placed) (p : Pos) (o : Option Pos) → too_deep 0 ts ≡ o → IsParsed ts (parse.NotAUnit p)
    → too_deep 0 ts ≡ None
no_depth ts p None h a = h
no_depth ts p (Some q) h a =
    ⊎_elim (λ (e : parse.NotAUnit p ≡ parse.Deep q). absurd (cc)) (λ (e : parse.NotAUnit p ≡ parse.Memory). absurd
    (cc)) (a.first q h)

parse_fault : (ts : List Placed) (found : ParseFault) (told : Pos × List ℕ) → parse_reason found ≡ Some told
    → IsParsed ts found
    → IsParseFault ts found × ((items : List Item) → too_deep 0 ts ≡ None → IsUnit items ts → ⊥)
parse_fault ts parse.Memory told h a = absurd (cc)
parse_fault ts (parse.Deep p) told h a = (a.deep p refl, λ items n u. let d = a.deep p refl in cc)
parse_fault ts (parse.NotAUnit p) told h a =
    ((no_depth ts p (too_deep 0 ts) refl a, a.not_a_unit p refl), λ items n u. let m = a.only items n u in cc)

pub parse_refused : (old new : List (List ℕ)) (rows : List (ℕ × Row)) (terms : FileTerms) (text : List ℕ)
    (tokens expanded : List Token) (found : ParseFault)
    → IsReady old new text tokens expanded → IsParsed (placed expanded) found
    → (told : Pos × List ℕ) → reason_of (fault.Parse found) ≡ Some told
    → IsFaultOf (record { names = old; rows = rows; terms = terms }) text (fault.Parse found) × IsNoUnit old text
parse_refused old new rows terms text tokens expanded found r a told h =
    let f = parse_fault (placed expanded) found told h a in (
      (new, tokens, expanded, r.lexed.cut, r.replaced, f.0),
      λ names items file. let u = file_unit old new text tokens expanded r names items file in f.1 items u.0 u.1,
    )

not_deep : (ts : List Placed) (o : Option Pos) → too_deep 0 ts ≡ o → ((p : Pos) → too_deep 0 ts ≡ Some p → ⊥)
    → too_deep 0 ts ≡ None
not_deep ts None h a = h
not_deep ts (Some p) h a = absurd (a p h)

pub is_unit : (old new : List (List ℕ)) (text : List ℕ) (tokens expanded : List Token) (items : List Item)
    → IsReady old new text tokens expanded
    → ((p : Pos) → too_deep 0 (placed expanded) ≡ Some p → ⊥) → IsUnit items (placed expanded)
    → IsUnitOf old text new items
is_unit old new text tokens expanded items r shallow unit = record {
  tokens = tokens;
  expanded = expanded;
  cut = r.lexed.cut;
  replaced = r.replaced;
  shallow = not_deep (placed expanded) (too_deep 0 (placed expanded)) refl shallow;
  unit = unit;
}

pub known_kinds : (names : List (List ℕ)) (tokens : List Token) → AreKnown names tokens
    → AreKnownKinds names (kinds (placed tokens))
known_kinds names [] a = All-nil (λ (k : Kind). IsKnown names k)
known_kinds names (t ∷ tokens) a =
    All-cons (λ (k : Kind). IsKnown names k) t.kind (kinds (placed tokens)) (a 0 t (omega arith))
    (known_kinds names tokens (λ k d lt. a (suc k) d (omega (arith, lt))))

pub kinds_length : (tokens : List Token) → length (kinds (placed tokens)) ≡ length tokens
kinds_length [] = refl
kinds_length (t ∷ tokens) = rw (kinds_length tokens) refl

-- the items of a text are these alone
pub only_items : (old new : List (List ℕ)) (text : List ℕ) (tokens expanded : List Token) (items : List Item)
    → IsReady old new text tokens expanded
    → ((others : List Item) → too_deep 0 (placed expanded) ≡ None → IsUnit others (placed expanded) → items ≡ others)
    → (names : List (List ℕ)) (others : List Item) → IsUnitOf old text names others → others ≡ items
only_items old new text tokens expanded items r only names others file =
    let u = file_unit old new text tokens expanded r names others file in sym (only others u.0 u.1)

no_unit_no_file : (api : Api) (text : List ℕ) → IsNoUnit api.names text → IsNoFile api text
no_unit_no_file api text none names items file = none names items file.spelled

-- a text that spells nothing is no file
pub no_file : (api : Api) (text : List ℕ) (found : FileFault)
    → ((told : Pos × List ℕ) → reason_of found ≡ Some told → IsFaultOf api text found × IsNoUnit api.names text)
    → (told : Pos × List ℕ) → reason_of found ≡ Some told → IsFaultOf api text found × IsNoFile api text
no_file api text found none told h = let n = none told h in (n.0, no_unit_no_file api text n.1)

-- want of memory says nothing of a text
pub no_memory : (api : Api) (text : List ℕ) (found : FileFault) → found ≡ fault.Memory
    → (told : Pos × List ℕ) → reason_of found ≡ Some told → IsFaultOf api text found × IsNoFile api text
no_memory api text found is told h =
    let none : ◌≡◌ {A = Option (Pos × List ℕ)} None (Some told) =
    subst (λ (f : FileFault). reason_of f ≡ Some told) is h in absurd (cc)

unit_fault : (file : SourceFile) (found : UnitFault) (told : Pos × List ℕ) → unit_reason found ≡ Some told
    → IsFaultOfUnit file found
    → IsUnitFault file found × (least (faults file) ≡ None → ⊥)
unit_fault file unit.Memory told h a = absurd (cc)
unit_fault file (unit.DuplicateName at) told h a = (a, λ n. let b = a in cc)
unit_fault file (unit.TooManyFunctions at) told h a = (a, λ n. let b = a in cc)

-- the texts of names say nothing of a fault
no_fault : (rows : List (ℕ × Row)) (terms : FileTerms) (names others : List (List ℕ)) (items more : List Item)
    → more ≡ items → least (faults (source_file others more rows terms)) ≡ None
    → least (faults (source_file names items rows terms)) ≡ None
no_fault rows terms names others items more same h =
    subst (λ (is : List Item). least (faults (source_file names is rows terms)) ≡ None) same h

pub unit_refused : (api : Api) (text : List ℕ) (names : List (List ℕ)) (items : List Item) (found : UnitFault)
    → IsUnitOf api.names text names items
    → ((others : List (List ℕ)) (more : List Item) → IsUnitOf api.names text others more → more ≡ items)
    → IsFaultOfUnit (source_file names items api.rows api.terms) found
    → (told : Pos × List ℕ) → reason_of (fault.Unit found) ≡ Some told
    → IsFaultOf api text (fault.Unit found) × IsNoFile api text
unit_refused api text names items found spelled only holds told h =
    let f = unit_fault (source_file names items api.rows api.terms) found told h holds in (
      (names, items, spelled, f.0),
      λ others more file. f.1 (no_fault api.rows api.terms names others items more (only others more file.spelled)
          file.distinct),
    )

-- the verdicts on a file that is accepted
pub verdicts_on : (api : Api) (text : List ℕ) (names : List (List ℕ)) (items : List Item) (x : Checked)
    (lines : List (Name × Verdict)) → IsUnitOf api.names text names items
    → (checked_view x).file ≡ source_file names items api.rows api.terms → IsChecked x
    → AllZip (IsJudged (checked_view x)) (definitions (checked_view x).file.items) lines
    → AreVerdicts IsJudged api text names lines
verdicts_on api text names items x lines spelled same found is = record {
  items = items;
  file = record { spelled = spelled; distinct = subst (λ (f : SourceFile). least (faults f) ≡ None) same found.none };
  refused = x.refused.keys;
  least = subst (λ (f : SourceFile). IsRefusedSet f x.refused.keys) same found.set;
  judged = subst (λ (f : SourceFile). AllZip (IsJudged (record { file = f; refused = x.refused.keys }))
      (definitions f.items) lines) same is;
}

-- a text that is refused for this fault
pub refused_as : (api : Api) (text : List ℕ) (found : FileFault) (answer : List ℕ)
    → ((told : Pos × List ℕ) → reason_of found ≡ Some told → IsFaultOf api text found × IsNoFile api text)
    → (at : Pos) × (reason : List ℕ) × (reason_of found ≡ Some (at, reason)) × (answer ≡ refused_text at reason)
    → IsRefusedAs api text answer
refused_as api text found answer is said =
    let f = is (said.0, said.1) said.2 in
    record { none = f.1; cause = found; holds = f.0; at = said.0; reason = said.1; told = said.2; printed = said.3 }
