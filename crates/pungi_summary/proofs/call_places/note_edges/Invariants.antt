use Rattle.pungi_summary.proofs.Noted.{AreNotedBelow}
use Rattle.pungi_summary.proofs.call_places.note_edges.Given as goal

abbrev pub invariant-loop-edge : goal.invariant-loop-edge
invariant-loop-edge l = AreNotedBelow l.caller l.program l.edge-index l.fn.firsts.items l.firsts.items
