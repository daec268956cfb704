use Rattle.std.proofs.Common.{inr, sym, ◌∙◌}
use Rattle.pungi_explore.proofs.Places.{off_ended, off_in, place_none, none_at_all}
use Rattle.pungi_explore.proofs.visit.at_doubt.Goals as goal

pub returns-in-Some : goal.returns-in-Some
returns-in-Some c =
    let off = c.requires.off in
    record {
      over = off_ended off.0 c.args.state.now off.1.1.0 off.1.1.1;
      at = λ code is. inr (
        off_in c.args.codes.now c.args.state.now off code is,
        sym c.number_place.ensures ∙ c.in-Some.is,
      );
      run = c.requires.run;
      at_zero = λ _. c.requires.none;
      place = c.requires.place;
    }

pub returns-in-None : goal.returns-in-None
returns-in-None c =
    let s = c.args.state.now in
    none_at_all s (place_none s.known.computed s.known (sym c.number_place.ensures ∙ c.in-None.is)) c.requires.none
