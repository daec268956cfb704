use Rattle.std.proofs.Common.{◌≡◌, List, ℕ, Result, IfOk, IfErr, false, sym, ap, subst, ◌∙◌}
use Rattle.pungi_base.specs.declared.pos.Pos.{Pos}
use Rattle.pungi_base.specs.declared.token.Token.{Token}
use Rattle.pungi_lex.specs.declared.lex_fault.LexFault.{LexFault}
use Rattle.pungi_lex.specs.Join.{joined, places_of, place_in, plain}
use Rattle.pungi_lex.specs.Stretch.{places_along}
use Rattle.pungi_lex.specs.Tokens.{AreTokens, AreTokensOf, IsRefused, HasFault, is_memory}
use Rattle.pungi_lex.proofs.JoinLemmas.{whole_text}
use Rattle.pungi_lex.proofs.tokens.cut_text.Goals as goal

-- of a text without joins
tokens_whole : {T : Type 0} (items : T → List Token) (before after : List (List ℕ)) (text : List ℕ)
    (places : List Pos) (r : Result T LexFault) → plain text ≡ text → places ≡ places_of (joined text)
    → IfOk r (λ t. AreTokens before after text (place_in places) (items t))
    → IfOk r (λ t. AreTokensOf before after text (items t))
tokens_whole {T} items before after text places r whole is told =
    let P : List Pos → Type 0 = λ ps. IfOk r (λ (t : T). AreTokens before after text (place_in ps) (items t)) in
    let Q : List ℕ → Type 0 = λ l. IfOk r (λ (t : T). AreTokens before after l (place_in (places_of (joined text)))
    (items t)) in
    subst Q (sym whole) (subst P is told)

fault_whole : {T : Type 0} (text : List ℕ) (places : List Pos) (r : Result T LexFault) → plain text ≡ text
    → places ≡ places_of (joined text)
    → IfErr r (λ fault. IsRefused text (place_in places) fault)
    → IfErr r (λ fault. is_memory fault ≡ false → HasFault text fault)
fault_whole {T} text places r whole is told =
    let P : List Pos → Type 0 = λ ps. IfErr r (λ (fault : LexFault). IsRefused text (place_in ps) fault) in
    let Q : List ℕ → Type 0 = λ l. IfErr r (λ (fault : LexFault). IsRefused l (place_in (places_of (joined text)))
    fault) in
    subst Q (sym whole) (subst P is told)

pub returns-then-standing-text-clause-tokens : goal.returns-then-standing-text-clause-tokens
returns-then-standing-text-clause-tokens c =
    let whole : plain c.args.text.now ≡ c.args.text.now = whole_text c.args.text.now
    (sym c.in_ok-standing.ensures.count ∙ c.if-standing-text.true) in
    tokens_whole (λ tokens. tokens.items) c.args.names.now c.cut.new.names c.args.text.now _ c.cut.result whole
    (ap places_along c.deref.ensures.value ∙ c.in_ok-standing.ensures.places) c.cut.ensures.tokens

pub returns-then-standing-text-clause-fault : goal.returns-then-standing-text-clause-fault
returns-then-standing-text-clause-fault c =
    let whole : plain c.args.text.now ≡ c.args.text.now = whole_text c.args.text.now
    (sym c.in_ok-standing.ensures.count ∙ c.if-standing-text.true) in
    fault_whole c.args.text.now _ c.cut.result whole (ap places_along c.deref.ensures.value
    ∙ c.in_ok-standing.ensures.places) c.cut.ensures.refused
