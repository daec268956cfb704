use Rattle.std.proofs.Common.{◌∙◌, ap}
use Rattle.pungi_types.specs.Calls.{callee_of}
use Rattle.pungi_types.specs.Functions.{file_env}
use Rattle.pungi_names.specs.NamesView.{file_of}
use Rattle.pungi_names.specs.SeenCalls.{row_of_seen}
use Rattle.pungi_names.proofs.SeenLemmas.{row-seen}
use Rattle.pungi_names.proofs.file_names.FileNamesLookup.row.Goals as goal

pub returns : goal.returns
returns c =
    let n = c.args.self.now in
    let env = file_env (file_of n.names.now) n.refused.now.keys n.own.0 in
    c.row.ensures ∙ ap row_of_seen c.called.ensures ∙ row-seen env (callee_of env c.args.word.0)
