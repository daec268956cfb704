use Rattle.std.proofs.Common.{◌≡◌, ◌+◌, ◌-◌, ◌<◌, drop, length, get_or, ap, arith}
use Rattle.std.proofs.lemmas.List.{drop_more}
use Rattle.std.specs.List.{flat_map}
use Rattle.pungi_shape.specs.Named.{put_numbers, statics_from}
use Rattle.pungi_shape.proofs.NamedLemmas.{put_numbers_append}
use Rattle.pungi_shape.proofs.statics.put_codes.Goals as goal

pub loop-i-preserved : goal.loop-i-preserved
loop-i-preserved c =
    let codes = c.args.codes.now in
    let fs = c.args.functions.now in
    let i = c.loop-i.i in
    let f = get_or fs (i - 1) 0 in
    let lt : i - 1 < length fs = omega (arith, c.loop-i-test.true, c.loop-i.invariant.i_in) in
    let e : (i - 1) + 1 ≡ i = omega (arith, c.loop-i-test.true) in
    let d = rw e at (drop_more fs (i - 1) 0 lt) in
    record {
      i_in = omega (arith, c.loop-i.invariant.i_in);
      puts = rw (
        c.in_ok-put_code.ensures,
        d,
        put_numbers_append (statics_from codes f) (flat_map (statics_from codes) (drop i fs)) c.args.ns.now.items,
      ) (ap (put_numbers (statics_from codes f)) c.loop-i.invariant.puts);
    }
