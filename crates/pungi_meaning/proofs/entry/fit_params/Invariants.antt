use Rattle.std.proofs.Common.{◌≡◌, drop}
use Rattle.pungi_meaning.specs.Entries.{fit_params}
use Rattle.pungi_meaning.proofs.entry.fit_params.Given as goal

abbrev pub invariant-loop-i : goal.invariant-loop-i
invariant-loop-i l = fit_params l.objects (drop l.i l.params) (drop l.i l.args) ≡ fit_params l.objects l.params l.args
