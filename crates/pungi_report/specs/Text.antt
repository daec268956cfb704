-- The text of the report: one block for each function, in their order.
--   name_text names n             the text of a name
--   why_text names why            the reason of a verdict that is unknown
--   object_text, counts_text      the place of a faulty return and an object, its change and escapes
--   fault_text fault              what follows the name of a faulty function: these, and the lines of the run
--   refusal_text at rule          what follows the name of a refused function
--   verdict_text names n v        the block of a function of this name with this verdict
--   report_text names lines       all blocks
--   IsNamedWhy names why          the function that the reason names has a word of C as its text
--   IsPrintable names v           so it has, and a fault has a place for each of its choices
--   IsLine names line             a name whose text is a word of C, and a verdict that may be printed
use Rattle.std.specs.Prelude.{◌≡◌, ℕ, List, [], ◌∷◌, ◌++◌, length, get_or, codes}
use Rattle.std.specs.List.{flat_map}
use Rattle.std.specs.Fmt.{decimal, signed_decimal}
use Rattle.pungi_base.specs.declared.names.Name.{Name}
use Rattle.pungi_base.specs.declared.fault.Fault.{Fault}
use Rattle.pungi_base.specs.declared.pos.Pos.{Pos}
use Rattle.pungi_base.specs.declared.rule.Rule.{Rule}
use Rattle.pungi_base.specs.declared.why.Why.{Why}
use Rattle.pungi_base.specs.declared.why.Why.TheVariants as why
use Rattle.pungi_base.specs.declared.verdict.Verdict.{Verdict}
use Rattle.pungi_base.specs.declared.verdict.Verdict.TheVariants as verdict
use Rattle.pungi_base.specs.CWords.{IsCWord}
use Rattle.pungi_base.specs.Witness.{place_text, witness_text, line_end}

abbrev pub name_text : List (List ℕ) → Name → List ℕ
name_text names n = get_or names n.0 []

abbrev pub why_text : List (List ℕ) → Why → List ℕ
why_text names why.Traces = codes "traces"
why_text names why.Shapes = codes "shapes"
why_text names (why.Range at vector) = codes "range " ++ place_text at
why_text names (why.Number at) = codes "number " ++ place_text at
why_text names (why.Loop at) = codes "loop " ++ place_text at
why_text names (why.Call at n) = codes "call " ++ place_text at ++ codes " " ++ name_text names n

abbrev pub object_text : Fault → List ℕ
object_text fault = codes " " ++ place_text fault.pos ++ codes " object " ++ decimal fault.object

abbrev pub counts_text : Fault → List ℕ
counts_text fault =
    codes " change " ++ signed_decimal fault.change ++ codes " escaped " ++ signed_decimal fault.escaped ++ line_end

abbrev pub fault_text : Fault → List ℕ
fault_text fault = object_text fault ++ counts_text fault ++ witness_text fault.witness fault.used

abbrev pub refusal_text : Pos → Rule → List ℕ
refusal_text at rule = codes " " ++ place_text at ++ codes " N" ++ decimal rule.0 ++ line_end

abbrev pub verdict_text : List (List ℕ) → Name → Verdict → List ℕ
verdict_text names n verdict.Clean = codes "clean " ++ name_text names n ++ line_end
verdict_text names n (verdict.Faulty fault) = codes "faulty " ++ name_text names n ++ fault_text fault
verdict_text names n (verdict.Unknown reason) =
    codes "unknown " ++ name_text names n ++ codes " " ++ why_text names reason ++ line_end
verdict_text names n (verdict.Refused at rule) = codes "refused " ++ name_text names n ++ refusal_text at rule

abbrev pub report_text : List (List ℕ) → List (Name × Verdict) → List ℕ
report_text names lines = flat_map (λ line. verdict_text names line.0 line.1) lines

abbrev pub IsNamedWhy : List (List ℕ) → Why → Type 0
IsNamedWhy names why.Traces = Unit {0}
IsNamedWhy names why.Shapes = Unit {0}
IsNamedWhy names (why.Range at vector) = Unit {0}
IsNamedWhy names (why.Number at) = Unit {0}
IsNamedWhy names (why.Loop at) = Unit {0}
IsNamedWhy names (why.Call at n) = IsCWord names n.0

abbrev pub IsPrintable : List (List ℕ) → Verdict → Type 0
IsPrintable names verdict.Clean = Unit {0}
IsPrintable names (verdict.Faulty fault) = length fault.used ≡ length fault.witness.choices
IsPrintable names (verdict.Unknown reason) = IsNamedWhy names reason
IsPrintable names (verdict.Refused at rule) = Unit {0}

abbrev pub IsLine : List (List ℕ) → Name × Verdict → Type 0
IsLine names line = IsCWord names line.0.0 × IsPrintable names line.1
