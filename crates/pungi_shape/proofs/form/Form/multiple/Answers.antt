use Rattle.std.proofs.lemmas.Int.{to_z-of_z}
use Rattle.pungi_shape.proofs.FormLemmas.{multiple_past, multiple_there}
use Rattle.pungi_shape.proofs.form.Form.multiple.Goals as goal
use mir.Syntax.{w64}

pub returns-then-width-k : goal.returns-then-width-k
returns-then-width-k c = rw c.zero.ensures (multiple_past c.args.width c.args.k c.args.n c.if-width-k.true)

pub returns : goal.returns
returns c =
    rw (
      c.in_ok-push_factor.ensures,
      c.new-factors.ensures,
      c.new.ensures.items,
      to_z-of_z w64 c.args.n c.ranges.n,
    ) (multiple_there c.args.width c.args.k c.args.n)
