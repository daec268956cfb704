-- A lone `void` between the parentheses of a function.
--   lone_param        what a parameter that is a lone `void` is
--   lone_front        its tokens are a `void` and a closing parenthesis
use Rattle.std.proofs.Common.{◌≡◌, true, false, List, [], ◌∷◌, Some, refl, ◌∙◌, ap, ap₂, subst}
use Rattle.std.specs.Prelude.{◌==◌}
use Rattle.pungi_base.specs.declared.key.Key.{Key}
use Rattle.pungi_base.specs.declared.key.Key.TheVariants as keys
use Rattle.pungi_base.specs.declared.pos.Pos.{Pos}
use Rattle.pungi_base.specs.declared.punct.Punct.TheVariants as puncts
use Rattle.pungi_parse.specs.Reading.{chain}
use Rattle.pungi_parse.specs.types.TypeReader.{void_front}
use Rattle.pungi_parse.proofs.Tools.{and_true, eq_from}
use Rattle.pungi_tree.specs.ExprLevels.{is_void, is_void_base, is_void_spec, is_nothing, is_void_param}
use Rattle.pungi_tree.specs.ExprSpells.{SpellsParamDecl}
use Rattle.pungi_tree.specs.Placed.{Placed, mark_at, key_at}
use Rattle.pungi_tree.specs.Syntax.{Spec, spec, Base, words, alias, tagged, tagged_fields, ParamDecl, param_decl}
use Rattle.pungi_tree.specs.Syntax.{ParamDeclr, named, bare, unused}

void_key : (k : Key) → is_void k ≡ true → k ≡ keys.Void
void_key keys.Void h = refl
void_key _ h = absurd (cc)

void_base : (b : Base) → is_void_base b ≡ true → b ≡ words (keys.Void ∷ [])
void_base (words []) h = absurd (cc)
void_base (words (k ∷ [])) h = ap (λ z. words (z ∷ [])) (void_key k (and_true (is_void k) true h).0)
void_base (words (k ∷ l ∷ ks)) h = let a = (and_true (is_void k) false h).1 in absurd (cc)
void_base (alias n) h = absurd (cc)
void_base (tagged of tag) h = absurd (cc)
void_base (tagged_fields of tag fs) h = absurd (cc)

nothing_is : (d : ParamDeclr) → is_nothing d ≡ true → d ≡ bare []
nothing_is (named d) h = absurd (cc)
nothing_is (bare []) h = refl
nothing_is (bare (n ∷ ns)) h = absurd (cc)
nothing_is (unused ss n p) h = absurd (cc)

void_spec : (s : Spec) → is_void_spec s ≡ true → (p : Pos) × (s ≡ spec p (words (keys.Void ∷ [])) 0)
void_spec (spec p b n) h =
    let a = and_true (is_void_base b) (n == 0) h in
    (p, ap₂ (λ c m. spec p c m) (void_base b a.0) (eq_from n 0 a.1))

pub lone_param : (d : ParamDecl) → is_void_param d ≡ true
    → (p : Pos) × (d ≡ param_decl [] (spec p (words (keys.Void ∷ [])) 0) (bare []))
lone_param (param_decl [] s d) h =
    let a = and_true (is_void_spec s) (is_nothing d) h in
    let e = void_spec s a.0 in
    (e.0, ap₂ (λ t c. param_decl [] t c) e.1 (nothing_is d a.1))
lone_param (param_decl (q ∷ qs) s d) h = absurd (cc)

void_tokens : (q : Pos) (ts rest : List Placed) (p : Pos)
    → SpellsParamDecl (param_decl [] (spec p (words (keys.Void ∷ [])) 0) (bare [])) ts
    (mark_at puncts.RightParen q ∷ rest) → (r : Pos)
    × (ts ≡ key_at keys.Void r ∷ mark_at puncts.RightParen q ∷ rest)
void_tokens q ts rest p s =
    let b = s.3 in
    let k = b.2 in
    (k.1, s.2 ∙ k.2 ∙ ap (λ z. key_at keys.Void k.1 ∷ z) (k.3 ∙ b.3 ∙ s.4))

-- where a lone `void` stands before the closing parenthesis, the reader sees it
pub lone_front : (d : ParamDecl) (q : Pos) (ts rest : List Placed) → is_void_param d ≡ true
    → SpellsParamDecl d ts (mark_at puncts.RightParen q ∷ rest) → void_front ts ≡ Some (q, rest)
unfolding void_front chain
lone_front d q ts rest h s =
    let e = lone_param d h in
    let t = void_tokens q ts rest e.0 (subst (λ z. SpellsParamDecl z ts (mark_at puncts.RightParen q ∷ rest)) e.1 s) in
    rw t.1 refl
