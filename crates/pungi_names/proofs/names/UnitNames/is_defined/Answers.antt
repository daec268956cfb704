use Rattle.std.proofs.Common.{◌∙◌, nat_eq}
use Rattle.indexmap.specs.IndexMap.{get}
use Rattle.pungi_types.specs.Files.{definitions, definition_in}
use Rattle.pungi_names.specs.CallsView.{signature_view, function_signature}
use Rattle.pungi_names.specs.NamesView.{file_of}
use Rattle.pungi_names.proofs.SeenLemmas.{none-seen}
use Rattle.pungi_names.proofs.names.UnitNames.is_defined.Goals as goal

pub returns : goal.returns
returns c =
    let n = c.args.self.now in
    c.contains_key.ensures
    ∙ none-seen signature_view (function_signature (file_of n).items) (get nat_eq n.signatures c.args.word.0)
    (definition_in (definitions (file_of n).items) c.args.word.0) (n.signatures_found c.args.word.0)
