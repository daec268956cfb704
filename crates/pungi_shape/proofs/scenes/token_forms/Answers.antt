use Rattle.std.proofs.Common.{◌≡◌, ◌+◌, ◌-◌, Some, sym, arith}
use Rattle.std.proofs.lemmas.List.FromFn.{map-range_with_len_more}
use Rattle.pungi_shape.specs.Forms.{unit}
use Rattle.pungi_shape.proofs.scenes.token_forms.Goals as goal

pub loop-k-preserved : goal.loop-k-preserved
loop-k-preserved c =
    let e : (c.loop-k.k + 1) - c.args.from ≡ (c.loop-k.k - c.args.from) + 1 = omega arith in
    rw (c.in_ok-push.ensures.ok, c.loop-k.invariant, c.in_ok-unit.ensures, e) (sym (map-range_with_len_more
    (λ i. Some (unit c.args.width i)) c.args.from (c.loop-k.k - c.args.from) c.loop-k.k (omega arith)))
