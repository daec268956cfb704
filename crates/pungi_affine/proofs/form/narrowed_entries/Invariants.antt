use Rattle.std.proofs.Common.{◌≡◌, take}
use Rattle.pungi_affine.proofs.form.narrowed_entries.Given as goal

abbrev pub invariant-loop-entry : goal.invariant-loop-entry
invariant-loop-entry l = l.entries.items ≡ take l.entry-index l.wide
