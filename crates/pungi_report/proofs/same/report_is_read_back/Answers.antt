use Rattle.std.proofs.lemmas.List.Elements.{recursion_from_All}
use Rattle.pungi_report.specs.Fits.{FitsLine}
use Rattle.pungi_report.specs.Text.{IsLine}
use Rattle.pungi_report.proofs.Blocks.{same_report}
use Rattle.pungi_report.proofs.same.report_is_read_back.Goals as goal

pub returns : goal.returns
returns c names others lines more p q x y e =
    same_report names others lines more (recursion_from_All (IsLine names) lines p)
    (recursion_from_All (IsLine others) more q)
    (recursion_from_All FitsLine lines x) (recursion_from_All FitsLine more y) e
