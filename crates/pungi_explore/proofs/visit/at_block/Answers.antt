use Rattle.pungi_explore.proofs.Places.{blocked_ended, blocked_stands, blocked_off}
use Rattle.pungi_explore.proofs.visit.at_block.Goals as goal

pub returns-then-there : goal.returns-then-there
returns-then-there c = record {
  over = blocked_ended c.args.state.now c.args.obstacle c.args.pos c.requires.at;
  at = λ code is. blocked_stands code c.args.state.now c.args.obstacle c.args.pos c.requires.at;
  run = c.in_ok-there.ensures.run c.if-there.true c.args.codes.now;
  at_zero = λ off. absurd (blocked_off off.0 c.args.state.now c.args.state.now.known.status off.1.1.0 c.args.obstacle
      c.args.pos c.requires.at off.1.1.1);
  place = c.requires.place;
}

pub returns : goal.returns
returns c = c.in_ok-there.ensures.none c.if-there.false
