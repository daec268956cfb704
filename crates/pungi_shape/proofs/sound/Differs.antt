-- No two static objects are one.
use Rattle.std.proofs.Common.{◌≡◌, ◌≢◌, ℕ, suc, true, false, cond, List, [], ◌∷◌, ◌++◌, length, map}
use Rattle.std.proofs.Common.{refl, sym, ap, ◌∙◌, subst, arith, None, eq-eqb}
use Rattle.std.specs.Prelude.{◌==◌, ◌||◌, not}
use Rattle.std.specs.List.{All, AllPairs, IsAmong, filter}
use Rattle.std.proofs.lemmas.List.Elements.{All-head, All-tail}
use Rattle.pungi_base.specs.declared.value.Value.TheVariants as value
use Rattle.pungi_domain.specs.Vectors.{Vector}
use Rattle.pungi_world.specs.declared.content.Content.TheVariants as content
use Rattle.pungi_shape.specs.declared.holding.Holding.{Holding}
use Rattle.pungi_shape.specs.declared.holding.Holding.TheVariants.{Token}
use Rattle.pungi_shape.specs.Shapes.{distinct, token_in, tokens_in, holding_of_static}
use Rattle.pungi_shape.specs.Scenes.{Scene}
use Rattle.pungi_shape.specs.Exits.{statics_differ}
use Rattle.pungi_shape.specs.Liveness.{is_among}
use Rattle.pungi_shape.specs.Described.{Naming, HoldsSo}
use Rattle.pungi_shape.proofs.sound.Views.{View}
use Rattle.pungi_shape.proofs.sound.Shows.{IsScene, Shows, IsTokenHeld, key_of}
use Rattle.pungi_shape.proofs.sound.Distinct.{Once}
use Rattle.pungi_shape.proofs.sound.SceneVars.{NamesStatic}
use Rattle.pungi_shape.proofs.sound.Joins.{object_is}
use Rattle.pungi_shape.proofs.sound.Members.{first_among, later_among}
use Rattle.pungi_shape.proofs.sound.Tests.{eqb_not, or_false}

-- ---- numbers that stand once

unfiltered : (x : ℕ) (xs : List ℕ) → is_among xs x ≡ false → filter (λ u. not (u == x)) xs ≡ xs
unfiltered x [] e = refl
unfiltered x (u ∷ xs) e =
    let both = or_false (u == x) (is_among xs x) e in
    ap (λ b. cond (not b) (u ∷ filter (λ w. not (w == x)) xs) (filter (λ w. not (w == x)) xs)) both.0
    ∙ ap (λ z. u ∷ z) (unfiltered x xs both.1)

once_stays : (xs : List ℕ) → Once xs → distinct xs ≡ xs
once_stays [] once = refl
once_stays (x ∷ xs) once =
    ap (λ z. x ∷ filter (λ u. not (u == x)) z) (once_stays xs once.1) ∙ ap (λ z. x ∷ z) (unfiltered x xs once.0)

-- ---- the tokens of static objects

abbrev tokens_of_statics : List (ℕ × Holding) → List ℕ
tokens_of_statics es = tokens_in (map holding_of_static es)

pairs_tail : (k : ℕ) (ks : List ℕ) → AllPairs (λ a b. a ≢ b) (k ∷ ks) → AllPairs (λ a b. a ≢ b) ks
pairs_tail k ks all i j d lt in_j = all (suc i) (suc j) d (omega (arith, lt)) (omega (arith, in_j))

pairs_head : (k : ℕ) (ks : List ℕ) (l : ℕ) → AllPairs (λ a b. a ≢ b) (k ∷ ks) → IsAmong ks l → k ≢ l
pairs_head k ks l all there e =
    all 0 (suc there.0) l (omega arith) (let lt = there.1.0 in omega (arith, lt)) (e ∙ there.1.1)

named_key : (names : Naming) (x : ℕ × Holding) (t : ℕ) → NamesStatic names x → x.1 ≡ Token t → x.0 ≡ names t
named_key names x t is e =
    object_is x.0 (names t) (subst (λ h. HoldsSo names h (content.Holds (value.Object x.0))) e is)

not_there : (names : Naming) (t : ℕ) (es : List (ℕ × Holding)) → All IsTokenHeld (map holding_of_static es)
    → All (NamesStatic names) es → ((k : ℕ) → IsAmong (map key_of es) k → names t ≢ k)
    → is_among (tokens_of_statics es) t ≡ false
not_there names t [] tokens named apart = refl
not_there names t (x ∷ es) tokens named apart =
    let token = All-head IsTokenHeld x.1 (map holding_of_static es) tokens in
    let rest = not_there names t es (All-tail IsTokenHeld x.1 (map holding_of_static es) tokens)
    (All-tail (NamesStatic names) x es named) (λ k at. apart k (later_among x.0 (map key_of es) k at)) in
    let key = named_key names x token.0 (All-head (NamesStatic names) x es named) token.1 in
    ap (λ h. is_among (token_in h ++ tokens_of_statics es) t) token.1
    ∙ ap (λ b. b || is_among (tokens_of_statics es) t) (eqb_not token.0 t (λ e. apart x.0
    (first_among x.0 (map key_of es)) (sym (key ∙ ap names e)))) ∙ rest

tokens_once : (names : Naming) (es : List (ℕ × Holding)) → All IsTokenHeld (map holding_of_static es)
    → All (NamesStatic names) es → AllPairs (λ a b. a ≢ b) (map key_of es)
    → Once (tokens_of_statics es) × (length (tokens_of_statics es) ≡ length es)
tokens_once names [] tokens named apart = (tt, refl)
tokens_once names (x ∷ es) tokens named apart =
    let keys = map key_of es in
    let token = All-head IsTokenHeld x.1 (map holding_of_static es) tokens in
    let others = All-tail IsTokenHeld x.1 (map holding_of_static es) tokens in
    let later = All-tail (NamesStatic names) x es named in
    let rest = tokens_once names es others later (pairs_tail x.0 keys apart) in
    let key = named_key names x token.0 (All-head (NamesStatic names) x es named) token.1 in
    let none = not_there names token.0 es others later
    (λ k at e. pairs_head x.0 keys k apart at (key ∙ e)) in
    let together : token.0 ∷ tokens_of_statics es ≡ tokens_of_statics (x ∷ es) =
    ap (λ h. token_in h ++ tokens_of_statics es) (sym token.1)
    in
    (subst Once together (none, rest.0), ap length (sym together) ∙ ap suc rest.1)

pub statics_apart : (ks : List ℕ) (n : ℕ) (names : Naming) (z : Vector) (s : Scene) (o : View)
    → AllPairs (λ a b. a ≢ b) ks → IsScene ks n s → Shows names z None s o → statics_differ s.shape ≡ true
statics_apart ks n names z s o apart is shows =
    let es = s.shape.statics in
    let once = tokens_once names es is.static_tokens shows.statics
    (subst (AllPairs (λ a b. a ≢ b)) (sym is.static_keys) apart) in
    eq-eqb (length (distinct (tokens_of_statics es))) (length es)
    (ap length (once_stays (tokens_of_statics es) once.0) ∙ once.1)
