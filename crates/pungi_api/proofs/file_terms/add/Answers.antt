use Rattle.std.proofs.Common.{◌∙◌, nat_eq}
use Rattle.indexmap.proofs.CallerLemmas.{insert_entry-new}
use Rattle.pungi_api.proofs.RowLemmas.{none_from_is_none}
use Rattle.pungi_api.proofs.file_terms.add.Goals as goal

pub returns : goal.returns
returns c =
    c.in_ok-insert.ensures.entries ∙ insert_entry-new nat_eq c.args.conventions.now c.args.name c.args.convention
    (none_from_is_none _ c.requires)
