use Rattle.std.proofs.Common.{◌∙◌, List, Option, Some, length, map, ap, arith, sym}
use Rattle.pungi_domain.specs.declared.affine_program.AffineProgram.{AffineProgram}
use Rattle.pungi_verdict.specs.Across.{position_of}
use Rattle.pungi_verdict.specs.Relations.{clamped}
use Rattle.pungi_verdict.proofs.Asked.{has-code}
use Rattle.pungi_verdict.proofs.Reached.{read-program}
use Rattle.pungi_verdict.proofs.across.Across.tried.Goals as goal

pub overflow_cast-f : goal.overflow_cast-f
overflow_cast-f c =
    let has = has-code c.args.codes.now c.args.f c.requires.code in
    let few = c.requires.few in
    let lt = has.1.1 in
    omega (arith, few, lt)

pub state-requires : goal.state-requires
state-requires c =
    let has = has-code c.args.codes.now c.args.f c.requires.code in
    let count = c.requires.summaries.count in
    let lt = has.1.1 in
    omega (arith, count, lt)

pub offset_bounds-as_slice-f : goal.offset_bounds-as_slice-f
offset_bounds-as_slice-f c =
    let has = has-code c.args.codes.now c.args.f c.requires.code in
    let few = c.requires.few in
    let lt = has.1.1 in
    omega (arith, few, lt)

pub bounds-as_slice-f : goal.bounds-as_slice-f
bounds-as_slice-f c =
    let has = has-code c.args.codes.now c.args.f c.requires.code in
    let count = c.requires.summaries.are_programs.count in
    let same = ap (λ (l : List (Option AffineProgram)). length l) c.as_slice-in-Range.ensures in
    let lt = has.1.1 in
    omega (arith, count, same, lt)

pub returns-in-Safe : goal.returns-in-Safe
returns-in-Safe c =
    let has = has-code c.args.codes.now c.args.f c.requires.code in
    c.requires.summaries.states c.args.f has.0 _ has.1.0 (c.state.ensures ∙ ap Some c.in-Safe.is)

pub returns-in-NotSafe : goal.returns-in-NotSafe
returns-in-NotSafe c =
    let has = has-code c.args.codes.now c.args.f c.requires.code in
    c.requires.summaries.states c.args.f has.0 _ has.1.0 (c.state.ensures ∙ ap Some c.in-NotSafe.is)

pub returns-in-Shapes : goal.returns-in-Shapes
returns-in-Shapes c =
    let has = has-code c.args.codes.now c.args.f c.requires.code in
    c.requires.summaries.states c.args.f has.0 _ has.1.0 (c.state.ensures ∙ ap Some c.in-Shapes.is)

pub returns-in_ok-numbers-in-Range : goal.returns-in_ok-numbers-in-Range
returns-in_ok-numbers-in-Range c =
    let has = has-code c.args.codes.now c.args.f c.requires.code in
    let a = c.args.self.now in
    let within = has.1.1 in
    let count = c.requires.summaries.are_programs.count in
    let same = ap (λ (l : List (Option AffineProgram)). length l) c.as_slice-in-Range.ensures in
    let read = read-program a.programs c.as_slice-in-Range.result.now c.args.f c.index-as_slice-f.result
    c.as_slice-in-Range.ensures (omega (arith, within, count, same)) c.index-as_slice-f.is in
    record {
      file = record {
        programs = a.programs;
        callees = a.callees;
        are_programs = c.requires.summaries.are_programs;
        are_callees = c.requires.summaries.are_callees;
      };
      place = c.in-Range.place;
      row = c.in-Range.row;
      large = c.requires.summaries.states c.args.f has.0 _ has.1.0 (c.state.ensures ∙ ap Some c.in-Range.is);
      is = c.position_of-pos.ensures ∙ ap (λ (o : Option AffineProgram). position_of o c.in-Range.place) (sym read);
      are = c.in_ok-numbers-in-Range.ensures ∙ ap (map clamped) c.as_slice.ensures;
    }
