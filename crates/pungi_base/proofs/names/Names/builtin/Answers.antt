use Rattle.std.proofs.Common.{◌≡◌, List, ℕ, get_or, ap, ◌∙◌, []}
use Rattle.pungi_base.specs.Names.{with_text}
use Rattle.pungi_base.specs.Words.{builtin_words}
use Rattle.pungi_base.proofs.BuiltinLemmas.{next_word}
use Rattle.pungi_base.proofs.names.Names.builtin.Goals as goal

pub loop-i-preserved : goal.loop-i-preserved
loop-i-preserved c =
    let bytes : c.as_bytes.result.now ≡ get_or builtin_words c.loop-i.i [] = c.as_bytes.ensures.value
    ∙ c.word_of.ensures in
    c.in_ok-number.ensures.ok ∙ ap (λ (t : List ℕ). with_text c.loop-i.names t) bytes
    ∙ ap (λ (n : List (List ℕ)). with_text n (get_or builtin_words c.loop-i.i [])) c.loop-i.invariant
    ∙ next_word c.loop-i.i c.loop-i-test.true
