use Rattle.std.proofs.Common.{sym, ap, ◌∙◌}
use Rattle.std.specs.Prelude.{position}
use Rattle.pungi_symbol.specs.states.Known.{is_global, at_place, find}
use Rattle.pungi_symbol.proofs.states.known.Known.seek.Goals as goal

pub returns-in-Global : goal.returns-in-Global
returns-in-Global c =
    c.at_place.ensures
    ∙ ap at_place (c.first_global.ensures ∙ ap (position (λ s. is_global c.in-Global.name s.spot)) c.as_slice.ensures)
    ∙ sym (ap (find c.args.self.now) c.in-Global.is)
