use Rattle.std.proofs.Common.{◌≡◌, ◌+◌, ◌<◌, ◌++◌, ◌∷◌, [], ℕ, suc, List, length, take, get_or, sym, ◌∙◌, arith, subst}
use Rattle.std.proofs.Math.Seq.{take-suc}
use Rattle.std.proofs.lemmas.List.{length-map}
use Rattle.pungi_base.specs.declared.kind.Kind.{Kind}
use Rattle.pungi_lex.specs.Directive.{kinds_in}
use Rattle.pungi_lex.proofs.directive.same_kinds.Goals as goal

take_more : (a b : List Kind) (i : ℕ) (k : Kind) → take i a ≡ take i b → i < length a → i < length b
    → k ≡ get_or a i k → k ≡ get_or b i k → take (i + 1) a ≡ take (i + 1) b
take_more a b i k e ha hb ka kb =
    let next : suc i ≡ i + 1 = omega arith in
    subst (λ (n : ℕ). take n a ≡ take n b) next (take-suc a i k ha ∙ (λ j. e j ++ (sym ka ∙ kb) j ∷ [])
    ∙ sym (take-suc b i k hb))

pub loop-i-preserved : goal.loop-i-preserved
loop-i-preserved c =
    let same = c.is_same.ensures.yes c.if-not-is_same.false in
    let long : length (kinds_in c.args.tokens.now) ≡ length c.args.tokens.now = length-map c.args.tokens.now
    (λ t. t.kind) in
    take_more c.args.kinds.now (kinds_in c.args.tokens.now) c.loop-i.i c.kind_at.result c.loop-i.invariant
    c.loop-i-test.true (omega (arith, long, c.if-kinds-tokens.false, c.loop-i-test.true))
    c.kind_at.ensures (same ∙ subst (λ (k : Kind). c.kind_of.result
    ≡ get_or (kinds_in c.args.tokens.now) c.loop-i.i k) (sym same) c.kind_of.ensures)
