use Rattle.std.proofs.Common.{ℕ, ◌+◌, ◌*◌, ap, arith}
use Rattle.std.proofs.lemmas.List.Sums.{fold_more}
use Rattle.pungi_lex.specs.Number.{digit_value}
use Rattle.pungi_lex.proofs.NumberLemmas.{value_front, past_quotient}
use Rattle.pungi_lex.proofs.number.value_of.Goals as goal

pub returns-then-value-base : goal.returns-then-value-base
returns-then-value-base c =
    let base = c.args.base in
    let digits = c.args.digits.now in
    let i = c.loop-b.b-index in
    let past = past_quotient base c.loop-b.value 170141183460469231731687303715884105727 c.requires.some
    c.if-value-base.true in
    omega (
      arith,
      past,
      ap (λ (v : ℕ). base * v) c.loop-b.invariant.value,
      value_front base (i + 1) digits
          c.requires.some,
      fold_more (λ (m : ℕ) (b : ℕ). base * m + digit_value b) 0 digits i 0 c.loop-b-test.true,
    )

pub returns-then-value-gt-MOST : goal.returns-then-value-gt-MOST
returns-then-value-gt-MOST c =
    let base = c.args.base in
    let digits = c.args.digits.now in
    let i = c.loop-b.b-index in
    omega (
      arith,
      c.if-value-gt-MOST.true,
      c.digit_value.ensures,
      ap (λ (v : ℕ). base * v) c.loop-b.invariant.value,
      value_front base (i + 1) digits c.requires.some,
      fold_more (λ (m : ℕ) (b : ℕ). base * m + digit_value b) 0
          digits i 0 c.loop-b-test.true,
    )
