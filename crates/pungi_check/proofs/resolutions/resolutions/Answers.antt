use Rattle.pungi_names.specs.NamesView.{file_of}
use Rattle.pungi_types.specs.Functions.{refusal}
use Rattle.pungi_check.proofs.FindingAt.{finding-of}
use Rattle.pungi_check.proofs.resolutions.resolutions.Goals as goal

pub resolution-requires-clause-found : goal.resolution-requires-clause-found
resolution-requires-clause-found c =
    finding-of c.args.list.now (refusal (file_of c.args.names.now) c.args.refused.now.keys) c.args.refusals.now
    c.loop-i.i c.index-list-i.result c.requires.found
    c.loop-i-test.true c.index-list-i.is
