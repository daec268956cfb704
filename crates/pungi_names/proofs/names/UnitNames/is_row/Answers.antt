use Rattle.std.proofs.Common.{◌∙◌, nat_eq}
use Rattle.indexmap.specs.IndexMap.{get}
use Rattle.pungi_api.specs.Rows.{row_in}
use Rattle.pungi_names.specs.NamesView.{file_of}
use Rattle.pungi_names.specs.RowsView.{call_view, row_seen}
use Rattle.pungi_names.proofs.SeenLemmas.{none-seen}
use Rattle.pungi_names.proofs.names.UnitNames.is_row.Goals as goal

pub returns : goal.returns
returns c =
    let n = c.args.self.now in
    c.contains_key.ensures ∙ none-seen call_view row_seen (get nat_eq n.calls c.args.word.0)
    (row_in (file_of n).rows c.args.word.0) (n.calls_found c.args.word.0)
