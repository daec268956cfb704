use Rattle.pungi_summary.proofs.call_places.note_program.Goals as goal

pub note_edges-requires-clause-within : goal.note_edges-requires-clause-within
note_edges-requires-clause-within c = c.requires.within c.in-Some.program c.in-Some.is
