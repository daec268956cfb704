use Rattle.std.proofs.Common.{◌≡◌, ◌++◌, drop, map}
use Rattle.pungi_world.specs.declared.content.Content.TheVariants.{Holds}
use Rattle.pungi_meaning.proofs.function.argument_locals.Given as goal

abbrev pub invariant-loop-arg : goal.invariant-loop-arg
invariant-loop-arg l = l.locals.items ++ map Holds (drop l.arg-index l.args) ≡ map Holds l.args
