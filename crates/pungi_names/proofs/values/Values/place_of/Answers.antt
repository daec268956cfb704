use Rattle.std.proofs.Common.{◌∙◌, ap}
use Rattle.pungi_types.specs.Names.{place_among}
use Rattle.pungi_names.proofs.PlaceLemmas.{place-some, place-none}
use Rattle.pungi_names.proofs.values.Values.place_of.Goals as goal

pub returns-in-Some-clause-place : goal.returns-in-Some-clause-place
returns-in-Some-clause-place c =
    let n = c.args.self.now in
    place-some n.type_objects.keys c.args.word.0 c.in-Some.place c.in-Some.ensures.index
    ∙ ap (λ xs. place_among xs c.args.word.0) n.type_objects_found

pub returns-in-None-clause-place : goal.returns-in-None-clause-place
returns-in-None-clause-place c =
    let n = c.args.self.now in
    c.len.ensures.len ∙ place-none n.type_objects.keys c.args.word.0 c.in-None.ensures.index
    ∙ ap (λ xs. place_among xs c.args.word.0) n.type_objects_found
