-- Lines of two reports that say the same, each under names of its own.
--   IsSameWhy names others why why'      the same reason. The function that it names has the same text; the relation
--                                        between numbers, which isn't printed, is left aside
--   IsSameVerdict names others v w       the same verdict, whose reason is the same
--   IsSameLine names others line other   the same text of the name, and the same verdict
use Rattle.std.specs.Prelude.{◌≡◌, ℕ, ℤ, List}
use Rattle.pungi_base.specs.declared.names.Name.{Name}
use Rattle.pungi_base.specs.declared.verdict.Verdict.{Verdict}
use Rattle.pungi_base.specs.declared.verdict.Verdict.TheVariants as verdict
use Rattle.pungi_base.specs.declared.why.Why.{Why}
use Rattle.pungi_base.specs.declared.why.Why.TheVariants as why
use Rattle.pungi_report.specs.Text.{name_text}

abbrev pub IsSameWhy : List (List ℕ) → List (List ℕ) → Why → Why → Type 0
IsSameWhy names others why.Traces w = w ≡ why.Traces
IsSameWhy names others why.Shapes w = w ≡ why.Shapes
IsSameWhy names others (why.Range at vector) w = (other : List ℤ) × (w ≡ why.Range at other)
IsSameWhy names others (why.Number at) w = w ≡ why.Number at
IsSameWhy names others (why.Loop at) w = w ≡ why.Loop at
IsSameWhy names others (why.Call at n) w = (m : Name) × (w ≡ why.Call at m) × (name_text names n ≡ name_text others m)

abbrev pub IsSameVerdict : List (List ℕ) → List (List ℕ) → Verdict → Verdict → Type 0
IsSameVerdict names others verdict.Clean w = w ≡ verdict.Clean
IsSameVerdict names others (verdict.Faulty fault) w = w ≡ verdict.Faulty fault
IsSameVerdict names others (verdict.Unknown reason) w =
    (other : Why) × (w ≡ verdict.Unknown other) × IsSameWhy names others reason other
IsSameVerdict names others (verdict.Refused at rule) w = w ≡ verdict.Refused at rule

abbrev pub IsSameLine : List (List ℕ) → List (List ℕ) → Name × Verdict → Name × Verdict → Type 0
IsSameLine names others line other =
    (name_text names line.0 ≡ name_text others other.0) × IsSameVerdict names others line.1 other.1
