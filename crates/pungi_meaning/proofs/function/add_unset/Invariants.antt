use Rattle.std.proofs.Common.{◌≡◌, ◌++◌, ◌-◌, replicate}
use Rattle.pungi_world.specs.declared.content.Content.TheVariants.{Unset}
use Rattle.pungi_meaning.proofs.function.add_unset.Given as goal

abbrev pub invariant-loop-i : goal.invariant-loop-i
invariant-loop-i l =
    l.locals.items ++ replicate (l.count - l.i) Unset ≡ l.initial.locals.items ++ replicate l.count Unset
