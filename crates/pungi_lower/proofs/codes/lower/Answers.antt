use Rattle.std.proofs.Common.{map, get_or}
use Rattle.std.proofs.lemmas.Option.{slice_get-get_or}
use Rattle.pungi_resolve.specs.Resolutions.{resolution_view}
use Rattle.pungi_lower.proofs.Lowered.{made-lowered, made-well-formed}
use Rattle.pungi_lower.proofs.Within.{within-read}
use Rattle.pungi_lower.proofs.codes.lower.Goals as goal

pub lower_functions-requires : goal.lower_functions-requires
lower_functions-requires c = λ k d lt.
    let fs = c.args.functions.now in
    within-read c.requires.file fs k (get_or fs k d) c.requires.resolved (slice_get-get_or fs k d lt)

pub returns-clause-lowered : goal.returns-clause-lowered
returns-clause-lowered c =
    λ file is. made-lowered file (map resolution_view c.args.functions.now) c.in_ok-codes.codes
    c.in_ok-codes.ensures is

pub returns-clause-well_formed : goal.returns-clause-well_formed
returns-clause-well_formed c = λ file is names counted statics.
    made-well-formed file (map resolution_view c.args.functions.now) (record
    { codes = c.in_ok-codes.codes; statics = c.args.statics; names = c.args.names }) c.in_ok-codes.ensures is
    names counted statics
