use Rattle.std.proofs.Common.{◌≡◌, length, min, sym, arith}
use Rattle.pungi_symbol.proofs.questions.Arguments.{needing_end}
use Rattle.pungi_symbol.proofs.states.known.Known.asks_params.Goals as goal

pub loop-i-init : goal.loop-i-init
loop-i-init c =
    let e : c.smaller_length-i.result ≡ min (length c.args.params.now) (length c.args.atoms.now) = omega arith in
    record {
      within = omega (arith, e);
      short = omega (arith, e);
      asks = sym (needing_end c.args.self.now c.args.atoms.now c.args.last c.args.params.now
          c.smaller_length-i.result e);
    }
