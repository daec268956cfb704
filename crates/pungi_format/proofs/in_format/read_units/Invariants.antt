use Rattle.pungi_format.proofs.InFormatLemmas.{ReadAsFar}
use Rattle.pungi_format.proofs.in_format.read_units.Given as goal

abbrev pub invariant-loop-place : goal.invariant-loop-place
invariant-loop-place l = ReadAsFar l.text l.units l.required l.place
