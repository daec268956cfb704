use Rattle.std.proofs.Common.{refl, arith, subst}
use Rattle.std.specs.List.{IsAmong, flat_map}
use Rattle.pungi_shape.specs.Named.{callees_in}
use Rattle.pungi_shape.proofs.CalleeLemmas.{callee-below}
use Rattle.pungi_shape.proofs.ClassLemmas.{CallsLacking, CallsListed, all-classes}
use Rattle.pungi_shape.proofs.SearchedLemmas.{searched-lacking, searched-large, searched-now}
use Rattle.pungi_shape.proofs.all_classes.search_classes.Goals as goal

pub exits_by-requires-clause-classes : goal.exits_by-requires-clause-classes
exits_by-requires-clause-classes c = all-classes c.args.codes.now c.args.classes.now c.requires.known

pub calls_large-requires : goal.calls_large-requires
calls_large-requires c = λ g there.
    let lt = callee-below c.args.codes.now c.args.f g c.args.code.now c.requires.well_formed c.requires.code
    (subst (λ ls. IsAmong (flat_map callees_in ls) g) c.as_slice.ensures there) in
    let few = c.requires.well_formed.few in
    omega (arith, lt, few)

pub returns-then-calls_large : goal.returns-then-calls_large
returns-then-calls_large c =
    searched-lacking c.args.codes.now c.args.classes.now c.args.f c.args.code.now c.requires.well_formed
    c.requires.code c.requires.count c.requires.known c.requires.large
    (subst (λ ls. CallsLacking c.args.classes.now (flat_map callees_in ls)) c.as_slice.ensures
    c.if-calls_large.ensures)

pub returns-in-Ok : goal.returns-in-Ok
returns-in-Ok c =
    searched-now c.args.codes.now c.args.classes.now c.args.f c.args.code.now c.requires.well_formed
    c.requires.code c.requires.count c.requires.known c.requires.large
    (subst (λ ls. CallsListed c.args.classes.now (flat_map callees_in ls)) c.as_slice.ensures
    c.if-calls_large.ensures) c.in-Ok.list c.in-Ok.ensures.classes c.in-Ok.ensures.exits

pub returns-in-Err-Shapes : goal.returns-in-Err-Shapes
returns-in-Err-Shapes c =
    searched-large c.args.codes.now c.args.classes.now c.args.f c.args.code.now c.requires.well_formed
    c.requires.code c.requires.count c.requires.known c.requires.large
    (subst (λ ls. CallsListed c.args.classes.now (flat_map callees_in ls)) c.as_slice.ensures
    c.if-calls_large.ensures) (c.exits_by.ensures.large cc)
