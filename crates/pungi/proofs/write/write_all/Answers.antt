use Rattle.std.proofs.Common.{◌++◌, take, ◌∙◌}
use Rattle.pungi.proofs.LeftToRead.{taken_on, split_on}
use Rattle.pungi.proofs.write.write_all.Goals as goal

pub pieces-preserved : goal.pieces-preserved
pieces-preserved g c =
    let so_far = c.pieces.invariant.bytes_written in
    let piece = take c.in_ok-count.count c.pieces.rest.now in
    record {
      bytes_written = (
        so_far.0 ++ piece,
        split_on c.args.text.now so_far.0 c.pieces.rest.now c.split_at.result.0.now c.split_at.result.1.now
            c.in_ok-count.count so_far.1 c.split_at.ensures.front c.split_at.ensures.back,
        taken_on (g.O.Sink.bytes_written c.args.out.now) (g.O.Sink.bytes_written c.pieces.out) (g.O.Sink.bytes_written c.write.new.self)
            so_far.0 piece so_far.2 c.in_ok-count.ensures.bytes,
      );
      steady = c.in_ok-count.ensures.steady ∙ c.pieces.invariant.steady;
    }
