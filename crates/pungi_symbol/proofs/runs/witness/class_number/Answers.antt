use Rattle.std.proofs.Common.{◌≡◌, ◌<◌, length, get_or, ap, ◌∙◌, subst, arith}
use Rattle.std.specs.Prelude.{IfOk}
use Rattle.std.proofs.lemmas.List.FromFn.{get_or-map-range_with_len, length-map-range_with_len}
use Rattle.pungi_symbol.specs.runs.Paths.{object_number}
use Rattle.pungi_symbol.proofs.runs.witness.class_number.Goals as goal

pub returns-then-class-numbers : goal.returns-then-class-numbers
returns-then-class-numbers c =
    let n = c.args.others in
    let made = c.args.made.now in
    let x = c.args.«class» in
    let long : length c.args.numbers.now ≡ n = ap length c.requires.numbers
    ∙ length-map-range_with_len (object_number n made) 0 n in
    let lt : x < n = omega (arith, long, c.if-class-numbers.true) in
    let read : get_or c.args.numbers.now x 0 ≡ object_number n made x = ap (λ l. get_or l x 0) c.requires.numbers
    ∙ get_or-map-range_with_len (object_number n made) 0 n x x 0 lt (omega arith) in
    subst (λ v. IfOk c.small_number.result (λ k. k ≡ v)) read c.small_number.ensures
