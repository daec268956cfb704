-- The names of functions are words of their tokens, and so words of C.
use Rattle.std.proofs.Common.{ℕ, suc, List, [], ◌∷◌, ◌++◌, length, arith, subst, sym}
use Rattle.std.specs.List.{All, AllZip}
use Rattle.std.proofs.lemmas.List.Elements.{All-cons, All-get_or, All-nil}
use Rattle.std.proofs.lemmas.Option.{get_or_from_slice_get, slice_get_within}
use Rattle.pungi_base.specs.CWords.{IsCWord}
use Rattle.pungi_base.specs.declared.kind.Kind.{Kind}
use Rattle.pungi_base.specs.declared.names.Name.{Name}
use Rattle.pungi_base.specs.declared.why.Why.{Why}
use Rattle.pungi_base.specs.declared.why.Why.TheVariants as why
use Rattle.pungi_base.specs.declared.verdict.Verdict.{Verdict}
use Rattle.pungi_base.specs.declared.verdict.Verdict.TheVariants as verdict
use Rattle.pungi_lex.specs.Known.{IsKnown}
use Rattle.pungi_tree.specs.ExprFlat.{spec_flat}
use Rattle.pungi_tree.specs.StmtFlat.{stmt_flat}
use Rattle.pungi_tree.specs.Syntax.{head, Item, nothing, doc, typedef, tag, variables, prototype, function_def}
use Rattle.pungi_tree.specs.Tokens.{keys_flat, stars_flat}
use Rattle.pungi_tree.specs.UnitFlat.{signature_flat, item_flat, items_flat}
use Rattle.pungi_report.specs.Text.{IsNamedWhy, IsLine, IsPrintable}
use Rattle.pungi_types.specs.Files.{Definition, definitions}
use Rattle.pungi_types.specs.Refused.{CheckedFile}
use Rattle.pungi_verdict.specs.Sound.{IsSound}
use Rattle.pungi_verdict.specs.Verdicts.{IsFunctionName, IsReason, IsReportable}
use Rattle.pungi.specs.Front.{AreKnownKinds}

-- the words of tokens, one after another
abbrev Known : List (List ℕ) → List Kind → Type 0
Known names [] = Unit {0}
Known names (k ∷ ks) = IsKnown names k × Known names ks

known_of : (names : List (List ℕ)) (ks : List Kind) → AreKnownKinds names ks → Known names ks
known_of names [] a = tt
known_of names (k ∷ ks) a = (a 0 k (omega arith), known_of names ks (λ i d lt. a (suc i) d (omega (arith, lt))))

known_behind : (names : List (List ℕ)) (front ks : List Kind) → Known names (front ++ ks) → Known names ks
known_behind names [] ks a = a
known_behind names (k ∷ front) ks a = known_behind names front ks a.1

known_front : (names : List (List ℕ)) (front ks : List Kind) → Known names (front ++ ks) → Known names front
known_front names [] ks a = tt
known_front names (k ∷ front) ks a = (a.0, known_front names front ks a.1)

abbrev IsNamed : List (List ℕ) → Definition → Type 0
IsNamed names d = IsCWord names d.name.0

all_named : (names : List (List ℕ)) (items : List Item) → Known names (items_flat items)
    → All (IsNamed names) (definitions items)
all_named names [] a = All-nil (IsNamed names)
all_named names (nothing p ∷ items) a =
    all_named names items (known_behind names (item_flat (nothing p)) (items_flat items) a)
all_named names (doc p m ts ∷ items) a =
    all_named names items (known_behind names (item_flat (doc p m ts)) (items_flat items) a)
all_named names (typedef s stars m p ∷ items) a =
    all_named names items (known_behind names (item_flat (typedef s stars m p)) (items_flat items) a)
all_named names (tag qs s ∷ items) a =
    all_named names items (known_behind names (item_flat (tag qs s)) (items_flat items) a)
all_named names (variables d ∷ items) a =
    all_named names items (known_behind names (item_flat (variables d)) (items_flat items) a)
all_named names (prototype h ∷ items) a =
    all_named names items (known_behind names (item_flat (prototype h)) (items_flat items) a)
all_named names (function_def (head qs s stars m p ps) b ∷ items) a =
    let f = function_def (head qs s stars m p ps) b in
    let signature = known_front names (signature_flat qs s stars m ps) (stmt_flat b)
    (known_front names (item_flat f) (items_flat items) a) in
    let named = (known_behind names (stars_flat stars) _ (known_behind names (spec_flat s) _
    (known_behind names (keys_flat qs) _ signature))).0 in
    All-cons (IsNamed names) (record { name = m; pos = p; result = s; stars = length stars; params = ps; body = b })
    (definitions items) named
    (all_named names items (known_behind names (item_flat f) (items_flat items) a))

-- the lines of judged functions may be printed
module _ (names : List (List ℕ)) (c : CheckedFile) (all : All (IsNamed names) (definitions c.file.items)) where
  name_known : (name : Name) → IsFunctionName c name → IsCWord names name.0
  name_known name h =
      let d = h.1.0 in
      let within = slice_get_within (definitions c.file.items) h.0 d h.1.1.0 in
      let is = get_or_from_slice_get (definitions c.file.items) h.0 d d h.1.1.0 in
      subst (λ (m : Name). IsCWord names m.0) h.1.1.1 (subst (IsNamed names) is
      (All-get_or (IsNamed names) (definitions c.file.items) h.0 d within all))

  reason_named : (because : Why) → IsReason c because → IsNamedWhy names because
  reason_named why.Traces h = tt
  reason_named why.Shapes h = tt
  reason_named (why.Range at vector) h = tt
  reason_named (why.Number at) h = tt
  reason_named (why.Loop at) h = tt
  reason_named (why.Call at name) h = name_known name h

  verdict_printable : (v : Verdict) → IsReportable c v → IsPrintable names v
  verdict_printable verdict.Clean h = tt
  verdict_printable (verdict.Faulty fault) h = h
  verdict_printable (verdict.Unknown because) h = reason_named because h
  verdict_printable (verdict.Refused at rule) h = tt

  printable : (d : Definition) (line : Name × Verdict) → IsCWord names d.name.0 → IsSound c d line
      → IsReportable c line.1 → IsLine names line
  printable d line known judged h =
      (subst (λ (m : Name). IsCWord names m.0) (sym judged.0) known, verdict_printable line.1 h)

  lines_printable : (ds : List Definition) (lines : List (Name × Verdict)) → All (IsNamed names) ds
      → AllZip (IsSound c) ds lines → All (λ (line : Name × Verdict). IsReportable c line.1) lines
      → All (IsLine names) lines
  lines_printable [] [] known judged h = All-nil (IsLine names)
  lines_printable [] (line ∷ lines) known judged h = absurd judged
  lines_printable (d ∷ ds) [] known judged h = absurd judged
  lines_printable (d ∷ ds) (line ∷ lines) known judged h =
      All-cons (IsLine names) line lines (printable d line (known 0 d (omega arith)) judged.0 (h 0 line (omega arith)))
      (lines_printable ds lines (λ k e lt. known (suc k) e (omega (arith, lt))) judged.1
      (λ k e lt. h (suc k) e (omega (arith, lt))))

pub all_printable : (names : List (List ℕ)) (c : CheckedFile) (lines : List (Name × Verdict))
    → AreKnownKinds names (items_flat c.file.items)
    → AllZip (IsSound c) (definitions c.file.items) lines
    → All (λ (line : Name × Verdict). IsReportable c line.1) lines → All (IsLine names) lines
all_printable names c lines known judged h =
    let all = all_named names c.file.items (known_of names (items_flat c.file.items) known) in
    lines_printable names c all (definitions c.file.items) lines all judged h
