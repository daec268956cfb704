use Rattle.std.proofs.Common.{◌∙◌, ap}
use Rattle.pungi_types.specs.Calls.{callee_of}
use Rattle.pungi_types.specs.Functions.{file_env}
use Rattle.pungi_names.specs.NamesView.{file_of}
use Rattle.pungi_names.specs.SeenCalls.{is_unknown_seen}
use Rattle.pungi_names.proofs.SeenLemmas.{unknown-seen}
use Rattle.pungi_names.proofs.file_names.FileNamesLookup.is_unknown_call.Goals as goal

pub returns : goal.returns
returns c =
    let n = c.args.self.now in
    let env = file_env (file_of n.names.now) n.refused.now.keys n.own.0 in
    c.is_unknown.ensures ∙ ap (is_unknown_seen n.own.0 n.refused.now.keys) c.called.ensures
    ∙ unknown-seen env (callee_of env c.args.word.0)
