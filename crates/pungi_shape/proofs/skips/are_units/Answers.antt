use Rattle.std.proofs.Common.{◌≡◌, ◌∙◌, [], length, get_or, sym, ap, arith}
use Rattle.std.proofs.lemmas.Bool.{false≢true}
use Rattle.std.proofs.lemmas.List.{get_or_read}
use Rattle.pungi_shape.specs.Forms.{unit}
use Rattle.pungi_shape.proofs.ShapeLemmas.{all_units, wrong_length, wrong_row}
use Rattle.pungi_shape.proofs.skips.are_units.Goals as goal

pub returns-then-rows-width : goal.returns-then-rows-width
returns-then-rows-width c =
    sym (wrong_length c.args.width c.args.rows.now (λ e. omega (arith, e, c.if-rows-width.true)))

pub returns-then-not-is_unit : goal.returns-then-not-is_unit
returns-then-not-is_unit c =
    let rows = c.args.rows.now in
    let w = c.args.width in
    let k = c.loop-k.k in
    let row = c.index-rows-k.result in
    let lt = c.loop-k-test.true in
    let here : row ≡ get_or rows k [] = get_or_read rows k row lt c.index-rows-k.is [] in
    let wide : length row ≡ w = ap length here ∙ c.requires.widths k [] lt in
    sym (wrong_row w k rows (omega (arith, lt, c.if-rows-width.false))
    (λ e. false≢true (sym c.if-not-is_unit.true ∙ c.is_unit.ensures.no (here ∙ e ∙ ap (λ n. unit n k) (sym wide)))))

pub returns : goal.returns
returns c =
    sym (all_units c.args.width c.args.rows.now (omega (arith, c.if-rows-width.false))
    (λ i lt. c.loop-k.invariant i (omega (arith, lt, c.loop-k-test.false, c.if-rows-width.false))))
