use Rattle.std.proofs.Common.{◌≡◌, ◌∙◌, inl, inr, refl, length, arith, subst, sym}
use Rattle.std.specs.List.{IsAmong}
use Rattle.std.proofs.lemmas.Bool.{cases_lt}
use Rattle.pungi_links.specs.Ring.{Stands}
use Rattle.pungi_shape.specs.Callers.{callers_of}
use Rattle.pungi_shape.specs.Named.{callees_of}
use Rattle.pungi_shape.proofs.CalleeLemmas.{none-called}
use Rattle.pungi_shape.proofs.NamedLemmas.{code_past}
use Rattle.pungi_shape.proofs.callers.callers.Goals as goal

pub loop-f-preserved : goal.loop-f-preserved
loop-f-preserved c =
    let codes = c.args.codes.now in
    let i = c.loop-f.f in
    let before = c.loop-f.invariant in
    let noted = c.in_ok-note_code.ensures in
    record {
      count = noted.count ∙ before.count;
      there = λ h g lt called. elim (cases_lt h i) [
        | inl less ↦ noted.kept h g (before.there h g less called)
        | inr from ↦
            let here : h ≡ i = omega (arith, lt, from) in
            subst (λ n. Stands n (callers_of c.note_code.new.lists.items g)) (sym here)
            (noted.there g (subst (λ n. IsAmong (callees_of codes n) g) here called))
      ];
      below = λ h g s. elim (noted.only h g s) [
        | inl old ↦ let lt = before.below h g old in omega (arith, lt)
        | inr here ↦ omega (arith, here)
      ];
    }

pub returns : goal.returns
returns c =
    let codes = c.args.codes.now in
    let all = c.loop-f.invariant in
    let past = c.loop-f-test.false in
    let end = c.len-f-end.ensures in
    record {
      count = all.count;
      there = λ h g called. elim (cases_lt h (length codes.codes)) [
        | inl less ↦ all.there h g (omega (arith, less, past, end)) called
        | inr le ↦ absurd (none-called codes h g (code_past codes h (length codes.codes) refl le) called)
      ];
      below = λ h g s.
          let lt = all.below h g s in
          let most = c.loop-f.auto.f-end in
          omega (arith, lt, most, end);
    }
