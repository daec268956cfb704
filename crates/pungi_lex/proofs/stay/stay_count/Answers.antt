use Rattle.std.proofs.Common.{arith}
use Rattle.std.proofs.lemmas.List.Elements.{All-more}
use Rattle.pungi_lex.specs.Frames.{Stays}
use Rattle.pungi_lex.proofs.stay.stay_count.Goals as goal

pub tokens-preserved : goal.tokens-preserved
tokens-preserved c =
    let h = c.stays.ensures.yes c.if-stays.true in
    record {
      stay = All-more (Stays c.args.table.now.items) c.args.tokens.now c.tokens.count _ c.if-count-tokens.true
          c.tokens.invariant.stay h;
      within = omega arith;
      few = omega arith;
    }
