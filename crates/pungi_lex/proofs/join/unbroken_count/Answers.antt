use Rattle.std.proofs.Common.{◌≡◌, Bool, true, false, not, length, refl, sym, ap, arith}
use Rattle.std.proofs.lemmas.List.Sums.{prefix_len_is}
use Rattle.pungi_lex.specs.Stretch.{is_unbroken}
use Rattle.pungi_lex.proofs.join.unbroken_count.Goals as goal

passes_not : (b : Bool) → (b ≡ true → ⊥) → not b ≡ true
passes_not true other = absurd (other refl)
passes_not false other = refl

pub returns-in-None-clause-count : goal.returns-in-None-clause-count
returns-in-None-clause-count c =
    sym (prefix_len_is is_unbroken c.args.text.now (length c.args.text.now) 0 (omega arith)
    (λ k below. passes_not _ (c.in-None.ensures k (omega arith) below)) (λ past. absurd (omega arith)))

pub returns-in-Some-clause-count : goal.returns-in-Some-clause-count
returns-in-Some-clause-count c =
    let first = c.in-Some.ensures.0 in
    sym (prefix_len_is is_unbroken c.args.text.now c.in-Some.index 0 (omega arith)
    (λ k below. passes_not _ (first.before k (omega arith) below)) (λ within. ap not c.in-Some.ensures.1))
