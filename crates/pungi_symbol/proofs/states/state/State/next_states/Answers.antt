use Rattle.std.proofs.Common.{◌++◌, slice_get, ap, ◌∙◌}
use Rattle.std.specs.List.{flat_map}
use Rattle.pungi_symbol.specs.answers.SymbolicState.{after_if, answers_of}
use Rattle.pungi_symbol.proofs.states.state.State.next_states.Goals as goal

pub returns : goal.returns
returns c =
    let line = slice_get c.args.code.now c.args.self.known.pc in
    c.in_ok-put_left.ensures {u = tt} ∙ c.in_ok-left.ensures
    ∙ ap (λ xs. xs ++ flat_map (after_if line c.question-q.result c.args.self) (answers_of c.question-q.result))
    c.new-next.ensures.items
    ∙ ap (λ q. flat_map (after_if line q c.args.self) (answers_of q)) c.question-q.ensures
