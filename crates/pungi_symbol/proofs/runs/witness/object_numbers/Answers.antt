use Rattle.std.proofs.Common.{◌≡◌, ◌-◌, ◌+◌, ◌<◌, length, get_or, ap, ◌∙◌, arith}
use Rattle.std.specs.Prelude.{slice_set}
use Rattle.std.proofs.lemmas.List.FromFn.{length-map-range_with_len}
use Rattle.pungi_symbol.proofs.runs.ObjectNumbers.{number_from, number_kept, number_set, numbers_from, numbers_none}
use Rattle.pungi_symbol.proofs.runs.witness.object_numbers.Goals as goal
use Rattle.pungi_symbol.proofs.runs.witness.object_numbers.Goals.{then-made-i, else-made-i}

pub loop-later-init : goal.loop-later-init
loop-later-init c =
    c.in_ok-numbers.ensures ∙ numbers_none c.args.others c.args.made.now (length c.args.made.now - 0) (omega arith)

pub index_mut-requires : goal.index_mut-requires
index_mut-requires c =
    let made = c.args.made.now in
    let long : length c.loop-later.numbers.items ≡ c.args.others = ap length c.loop-later.invariant
    ∙ length-map-range_with_len (number_from c.args.others made (length made - c.loop-later.later)) 0 c.args.others in
    omega (arith, c.loop-later.numbers.ok.0, long, c.if-made-i.true)

pub loop-later-preserved : goal.loop-later-preserved
loop-later-preserved c =
    let n = c.args.others in
    let made = c.args.made.now in
    let i = length made - 1 - c.loop-later.later in
    let before = c.loop-later-test.true in
    let lt : i < length made = omega (arith, before) in
    let was : length made - c.loop-later.later ≡ i + 1 = omega (arith, before) in
    let now : i ≡ length made - (c.loop-later.later + 1) = omega (arith, before) in
    let so_far : c.loop-later.numbers.items ≡ numbers_from n made (i + 1) = c.loop-later.invariant
    ∙ ap (numbers_from n made) was in
    elim c.if-made-i.branch [
      | then-made-i w ↦
          rw w.numbers-is (ap (λ l. slice_set l (get_or made i 0) (n + i)) so_far
          ∙ number_set n made i lt w.if-made-i.true ∙ ap (numbers_from n made) now)
      | else-made-i w ↦
          let past = w.if-made-i.false in
          rw w.numbers-is (so_far ∙ number_kept n made i lt (omega (arith, past)) ∙ ap (numbers_from n made) now)
    ]
