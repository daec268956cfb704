use Rattle.std.proofs.Common.{◌≡◌, ◌∙◌, ◌++◌, List, [], OnOk, subst, ap, sym}
use Rattle.std.specs.List.{list_all}
use Rattle.pungi_shape.specs.Bounds.{has_opposite, have_opposites}
use Rattle.pungi_shape.specs.Edges.{Edge}
use Rattle.pungi_shape.specs.Leaving.{comes_back}
use Rattle.pungi_shape.specs.Liveness.{instr_at}
use Rattle.pungi_shape.specs.Reached.{HasWideGoal}
use Rattle.pungi_shape.proofs.CallEdgeLemmas.{comes_back-call}
use Rattle.pungi_shape.proofs.FileCodes.{sound-here}
use Rattle.pungi_shape.proofs.Opposites.{sound_opposites}
use Rattle.pungi_shape.proofs.SkipLemmas.{wide_first}
use Rattle.pungi_shape.proofs.call_edges.comes_back_by.Goals as goal

pub push_comes_back-requires-clause-opposites : goal.push_comes_back-requires-clause-opposites
push_comes_back-requires-clause-opposites c =
    let code = c.args.code.now in
    let i = c.in-Some.instr.now in
    ap (list_all has_opposite) c.as_slice-atoms.ensures ∙ sym (ap (λ j. have_opposites j) c.in-Call.is)
    ∙ sound_opposites code i (sound-here code c.args.pc i c.requires.well_formed c.in-Some.ensures.0)

pub returns-in-Call-clause-edges : goal.returns-in-Call-clause-edges
returns-in-Call-clause-edges c =
    let list = comes_back-call c.args.code.now (instr_at c.args.code.now c.args.pc) c.in-Some.instr.now c.in-Call.x
    c.in-Call.field-1 c.in-Call.atoms c.as_slice-atoms.result.now c.args.pc c.args.shape.now c.args.exit.now
    c.in-Some.ensures.0 c.in-Call.is c.as_slice-atoms.ensures in
    subst (λ (es : List Edge). OnOk c.push_comes_back.result (c.push_comes_back.new.out ≡ c.args.out.now ++ es))
    (sym list) c.push_comes_back.ensures.edge

pub returns-in-Call-clause-wide : goal.returns-in-Call-clause-wide
returns-in-Call-clause-wide c = λ fault. (
    let list = comes_back-call c.args.code.now (instr_at c.args.code.now c.args.pc) c.in-Some.instr.now c.in-Call.x
    c.in-Call.field-1 c.in-Call.atoms c.as_slice-atoms.result.now c.args.pc c.args.shape.now c.args.exit.now
    c.in-Some.ensures.0 c.in-Call.is c.as_slice-atoms.ensures in
    subst HasWideGoal (sym list) (wide_first (comes_back c.args.code.now c.in-Call.x c.as_slice-atoms.result.now
    c.args.pc c.args.shape.now c.args.exit.now) [] (c.push_comes_back.ensures.wide fault))
    )
