use Rattle.pungi_meaning.proofs.SegmentLemmas.{are_segments}
use Rattle.pungi_meaning.proofs.segments.runs_are_segments.Goals as goal

pub returns : goal.returns
returns c = are_segments
