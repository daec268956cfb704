-- The numbers that a report prints, each of at most 64 bits.
--   Fits n, FitsInt z           a number of 64 bits; an integer whose absolute value is one
--   FitsPlace, FitsValue, FitsChoice, FitsWitness, FitsFault, FitsWhy, FitsVerdict    so are the numbers that are
--   printed of these
--   FitsLine line               so are those of a line
use Rattle.std.specs.Prelude.{ℕ, ◌<◌, ◌^◌, ℤ, unsigned_abs}
use Rattle.std.specs.List.{All}
use Rattle.pungi_base.specs.declared.choice.Choice.{Choice}
use Rattle.pungi_base.specs.declared.choice.Choice.TheVariants as choice
use Rattle.pungi_base.specs.declared.fault.Fault.{Fault}
use Rattle.pungi_base.specs.declared.names.Name.{Name}
use Rattle.pungi_base.specs.declared.pos.Pos.{Pos}
use Rattle.pungi_base.specs.declared.value.Value.{Value}
use Rattle.pungi_base.specs.declared.value.Value.TheVariants as value
use Rattle.pungi_base.specs.declared.verdict.Verdict.{Verdict}
use Rattle.pungi_base.specs.declared.verdict.Verdict.TheVariants as verdict
use Rattle.pungi_base.specs.declared.why.Why.{Why}
use Rattle.pungi_base.specs.declared.why.Why.TheVariants as why
use Rattle.pungi_base.specs.declared.witness.Witness.{Witness}

abbrev pub Fits : ℕ → Type 0
Fits n = n < 2 ^ 64

abbrev pub FitsInt : ℤ → Type 0
FitsInt z = Fits (unsigned_abs z)

abbrev pub FitsPlace : Pos → Type 0
FitsPlace at = Fits at.line × Fits at.col

abbrev pub FitsValue : Value → Type 0
FitsValue value.Null = Unit {0}
FitsValue (value.Object k) = Fits k
FitsValue (value.Int n) = FitsInt n
FitsValue value.Text = Unit {0}

abbrev pub FitsChoice : Choice → Type 0
FitsChoice choice.Null = Unit {0}
FitsChoice (choice.Object k) = Fits k
FitsChoice (choice.Int n) = FitsInt n
FitsChoice choice.Text = Unit {0}
FitsChoice (choice.Given k) = Fits k
FitsChoice (choice.Failed k) = Fits k

abbrev pub FitsWitness : Witness → Type 0
FitsWitness w = Fits w.input.objects × All FitsValue w.input.args × All FitsChoice w.choices

abbrev pub FitsFault : Fault → Type 0
FitsFault fault =
    FitsPlace fault.pos × Fits fault.object × FitsInt fault.change × FitsInt fault.escaped
    × FitsWitness fault.witness × All FitsPlace fault.used

abbrev pub FitsWhy : Why → Type 0
FitsWhy why.Traces = Unit {0}
FitsWhy why.Shapes = Unit {0}
FitsWhy (why.Range at vector) = FitsPlace at
FitsWhy (why.Number at) = FitsPlace at
FitsWhy (why.Loop at) = FitsPlace at
FitsWhy (why.Call at n) = FitsPlace at

abbrev pub FitsVerdict : Verdict → Type 0
FitsVerdict verdict.Clean = Unit {0}
FitsVerdict (verdict.Faulty fault) = FitsFault fault
FitsVerdict (verdict.Unknown reason) = FitsWhy reason
FitsVerdict (verdict.Refused at rule) = FitsPlace at × Fits rule.0

abbrev pub FitsLine : Name × Verdict → Type 0
FitsLine line = FitsVerdict line.1
