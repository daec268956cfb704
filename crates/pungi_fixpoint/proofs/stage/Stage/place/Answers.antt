use Rattle.std.proofs.Common.{length, refl}
use Rattle.std.proofs.lemmas.Option.{slice_get_read}
use Rattle.pungi_fixpoint.proofs.stage.Stage.place.Goals as goal

pub returns : goal.returns
returns g c =
    let lt = rw (← c.self.view_is) at c.requires in
    rw (← c.self.view_is) (slice_get_read c.self.inside.at.items (length c.self.inside.at.items) c.args.k
    c.index.result.now refl lt c.index.ensures)
