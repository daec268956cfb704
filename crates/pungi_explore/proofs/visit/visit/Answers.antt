use Rattle.std.proofs.Common.{refl, sym, ◌∙◌}
use Rattle.pungi_explore.proofs.Endings.{blocked_status, going_status, returned_over, stopped_over, blocked_over}
use Rattle.pungi_explore.proofs.Endings.{returned_followed, stopped_followed, ended_visit, blocked_visit}
use Rattle.pungi_explore.proofs.visit.visit.Goals as goal

pub at_block-requires-clause-at : goal.at_block-requires-clause-at
at_block-requires-clause-at c = blocked_status c.args.state.known.status c.in-Blocked.obstacle c.in-Blocked.pos
    (sym c.end.ensures.is ∙ c.in-Blocked.is)

pub at_block-requires-clause-place : goal.at_block-requires-clause-place
at_block-requires-clause-place c = c.end.ensures.place c.args.codes.now

pub at_end-requires : goal.at_end-requires
at_end-requires c = c.end.ensures.place c.args.codes.now

pub at_end-requires-in-Stopped : goal.at_end-requires-in-Stopped
at_end-requires-in-Stopped c = c.end.ensures.place c.args.codes.now

pub returns-in_ok-put_next-in-Going : goal.returns-in_ok-put_next-in-Going
returns-in_ok-put_next-in-Going c = (
  going_status c.args.state.known.status (sym c.end.ensures.is ∙ c.in-Going.is),
  c.in_ok-put_next-in-Going.ensures {u = tt},
)

pub returns-in_ok-seen-in-Returned : goal.returns-in_ok-seen-in-Returned
returns-in_ok-seen-in-Returned c = ended_visit c.args.codes.now c.args.state c.args.pending.now c.args.pending.now
    c.in_ok-seen-in-Returned.seen (returned_over c.args.state.known.status c.in-Returned.field-0
    (sym c.end.ensures.is ∙ c.in-Returned.is)) (returned_followed c.args.state.known.status c.in-Returned.field-0
    (sym c.end.ensures.is ∙ c.in-Returned.is)) refl c.in_ok-seen-in-Returned.ensures

pub returns-in_ok-seen-in-Stopped : goal.returns-in_ok-seen-in-Stopped
returns-in_ok-seen-in-Stopped c = ended_visit c.args.codes.now c.args.state c.args.pending.now c.args.pending.now
    c.in_ok-seen-in-Stopped.seen (stopped_over c.args.state.known.status c.in-Stopped.field-0
    (sym c.end.ensures.is ∙ c.in-Stopped.is)) (stopped_followed c.args.state.known.status c.in-Stopped.field-0
    (sym c.end.ensures.is ∙ c.in-Stopped.is)) refl c.in_ok-seen-in-Stopped.ensures

pub returns-in_ok-seen-in-Blocked : goal.returns-in_ok-seen-in-Blocked
returns-in_ok-seen-in-Blocked c = blocked_visit c.args.codes.now c.args.state c.args.pending.now c.args.pending.now
    c.in_ok-seen-in-Blocked.seen (blocked_over c.args.state.known.status c.in-Blocked.obstacle c.in-Blocked.pos
    (sym c.end.ensures.is ∙ c.in-Blocked.is)) refl c.in_ok-seen-in-Blocked.ensures
