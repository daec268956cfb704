use Rattle.std.proofs.Common.{◌≡◌, ◌+◌, ◌-◌, ◌<◌, drop, length, ap, arith}
use Rattle.std.proofs.lemmas.List.{drop_more}
use Rattle.std.specs.List.{flat_map}
use Rattle.pungi_shape.specs.Named.{put_numbers, statics_in}
use Rattle.pungi_shape.proofs.NamedLemmas.{put_numbers_append}
use Rattle.pungi_shape.proofs.named.put_lines.Goals as goal

pub loop-i-preserved : goal.loop-i-preserved
loop-i-preserved c =
    let lines = c.args.lines.now in
    let line = c.index-lines-i.result in
    let lt : c.loop-i.i - 1 < length lines = omega (arith, c.loop-i-test.true, c.loop-i.invariant.i_in) in
    let e : (c.loop-i.i - 1) + 1 ≡ c.loop-i.i = omega (arith, c.loop-i-test.true) in
    let d = rw (e, ← c.index-lines-i.is) at (drop_more lines (c.loop-i.i - 1) line lt) in
    record {
      i_in = omega (arith, c.loop-i.invariant.i_in);
      puts = rw (
        c.in_ok-put_line.ensures,
        d,
        put_numbers_append (statics_in line)
            (flat_map statics_in (drop c.loop-i.i lines)) c.args.ns.now.items,
      ) (ap (put_numbers (statics_in line))
          c.loop-i.invariant.puts);
    }
