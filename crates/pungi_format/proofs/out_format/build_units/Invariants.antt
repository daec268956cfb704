use Rattle.pungi_format.proofs.OutFormatLemmas.{BuiltAsFar}
use Rattle.pungi_format.proofs.out_format.build_units.Given as goal

abbrev pub invariant-loop-place : goal.invariant-loop-place
invariant-loop-place l = BuiltAsFar l.text l.units.items l.groups.items l.place
