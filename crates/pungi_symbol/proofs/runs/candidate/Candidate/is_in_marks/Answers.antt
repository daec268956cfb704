use Rattle.std.proofs.Common.{◌<◌, pos, length, get_or, subst, rules, arith}
use borrow.Author.Count.{below_more}
use Rattle.std.proofs.lemmas.List.{get_or_default}
use Rattle.pungi_symbol.specs.declared.states.mark.Mark.TheVariants.{IsNull, Pointer}
use Rattle.pungi_symbol.specs.runs.Paths.{IsInMark}
use Rattle.pungi_symbol.proofs.runs.candidate.Candidate.is_in_marks.Goals as goal

pub loop-t-preserved : goal.loop-t-preserved
loop-t-preserved c =
    let ms = c.args.marks.now in
    let ns = c.args.self.now.tokens.items in
    let t = c.loop-t.t in
    let lt : t < length ms = omega arith in
    let given : IsInMark (get_or ms t Pointer) (get_or ns t (pos 0)) =
    search rules in
    let here : IsInMark (get_or ms t IsNull) (get_or ns t (pos 0)) =
    subst (λ m. IsInMark m (get_or ns t (pos 0))) (get_or_default ms t Pointer IsNull lt) given in
    below_more (λ t. IsInMark (get_or ms t IsNull) (get_or ns t (pos 0))) t c.loop-t.invariant here
