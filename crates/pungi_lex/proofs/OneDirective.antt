-- A directive has one answer: it defines one macro, or has one fault.
use Rattle.std.proofs.Common.{◌≡◌, ◌<◌, ℕ, zero, suc, List, [], ◌∷◌, length, drop, get_or, Ok, Err, refl, sym, ap}
use Rattle.std.proofs.Common.{subst, ◌∙◌, arith}
use Rattle.std.specs.Prelude.{Result}
use Rattle.std.proofs.lemmas.Option.{same_Some}
use Rattle.pungi_base.specs.declared.pos.Pos.{Pos}
use Rattle.pungi_base.specs.declared.token.Token.{Token}
use Rattle.pungi_lex.specs.declared.macro_fault.MacroFault.{MacroFault}
use Rattle.pungi_lex.specs.declared.macro_fault.MacroFault.TheVariants as fault
use Rattle.pungi_lex.specs.Directive.{Defines, Define, OfFunction, Again, Joint, Obeys, Inclusion, Definition, Other}
use Rattle.pungi_lex.specs.Directive.{IsDefinition, IsDefinitionOf, HasNoJointBelow, IsJointAt}
use Rattle.pungi_lex.specs.Macros.{Macros}

defined_once : (words : List Token) (name other : ℕ) (at place : Pos) → IsDefinitionOf name at words
    → IsDefinitionOf other place words → (other ≡ name) × (place ≡ at)
defined_once [] name other at place x y = absurd x
defined_once (word ∷ []) name other at place x y = absurd x
defined_once (word ∷ defined ∷ body) name other at place x y = (same_Some other name (sym y.1 ∙ x.1), y.2 ∙ sym x.2)

is_definition : (words : List Token) (name : ℕ) (at : Pos) → IsDefinitionOf name at words → IsDefinition words
is_definition [] name at x = x
is_definition (word ∷ []) name at x = x
is_definition (word ∷ defined ∷ body) name at x = (x.0, (name, x.1))

item_once : (tokens : List Token) (n : ℕ) (t u : Token) → n < length tokens → t ≡ get_or tokens n t
    → u ≡ get_or tokens n u → u ≡ t
item_once [] n t u h x y = absurd (omega arith)
item_once (a ∷ tokens) zero t u h x y = y ∙ sym x
item_once (a ∷ tokens) (suc n) t u h x y = item_once tokens n t u (omega arith) x y

joint_within : (body : List Token) (i : ℕ) (t : Token) → IsJointAt body i → t ≡ get_or body i t
    → HasNoJointBelow body (length body) → ⊥
joint_within body i t joint is none = none i joint.0 t is (joint.2 t is)

joint_once : (body : List Token) (i j : ℕ) (t u : Token) → IsJointAt body i → t ≡ get_or body i t → IsJointAt body j
    → u ≡ get_or body j u → u ≡ t
joint_once body i j t u x t-is y u-is =
    let before : i < j → ⊥ = λ h. y.1 i h t t-is (x.2 t t-is) in
    let behind : j < i → ⊥ = λ h. x.1 j h u u-is (y.2 u u-is) in
    let same : j ≡ i = omega (arith, before, behind) in
    item_once body i t u x.0 t-is (subst (λ (n : ℕ). u ≡ get_or body n u) same u-is)

defines_once : (macros : Macros) (name : ℕ) (at : Pos) (body : List Token) (r s : Result Macros MacroFault)
    → Defines macros name at body r → Defines macros name at body s → s ≡ r
defines_once macros name at body r s (Define _ f d n) (Define _ g e m) = refl
defines_once macros name at body r s (Define _ f d n) (OfFunction _ g) = absurd (f g)
defines_once macros name at body r s (Define _ f d n) (Again _ g e) = absurd (d e)
defines_once macros name at body r s (Define _ f d n) (Joint _ i t g e j is) = absurd (joint_within body i t j is n)
defines_once macros name at body r s (OfFunction _ f) (Define _ g e m) = absurd (g f)
defines_once macros name at body r s (OfFunction _ f) (OfFunction _ g) = refl
defines_once macros name at body r s (OfFunction _ f) (Again _ g e) = absurd (g f)
defines_once macros name at body r s (OfFunction _ f) (Joint _ i t g e j is) = absurd (g f)
defines_once macros name at body r s (Again _ f d) (Define _ g e m) = absurd (e d)
defines_once macros name at body r s (Again _ f d) (OfFunction _ g) = absurd (f g)
defines_once macros name at body r s (Again _ f d) (Again _ g e) = refl
defines_once macros name at body r s (Again _ f d) (Joint _ i t g e j is) = absurd (e d)
defines_once macros name at body r s (Joint _ i t f d j is) (Define _ g e m) = absurd (joint_within body i t j is m)
defines_once macros name at body r s (Joint _ i t f d j is) (OfFunction _ g) = absurd (f g)
defines_once macros name at body r s (Joint _ i t f d j is) (Again _ g e) = absurd (d e)
defines_once macros name at body r s (Joint _ i t f d j is) (Joint _ n u g e k u-is) =
    ap (λ (x : Token). Err (fault.Directive x.pos)) (joint_once body i n t u j is k u-is)

pub obeys_once : (macros : Macros) (hash : Token) (words : List Token) (r s : Result Macros MacroFault)
    → Obeys macros hash words r → Obeys macros hash words s → s ≡ r
obeys_once macros hash words r s (Inclusion _ i) (Inclusion _ j) = refl
obeys_once macros hash words r s (Inclusion _ i) (Definition _ name at _ j d y) = absurd (j i)
obeys_once macros hash words r s (Inclusion _ i) (Other _ j d) = absurd (j i)
obeys_once macros hash words r s (Definition _ name at _ i d x) (Inclusion _ j) = absurd (i j)
obeys_once macros hash words r s (Definition _ name at _ i d x) (Definition _ other place _ j e y) =
    let same = defined_once words name other at place d e in
    defines_once macros name at (drop 2 words) r s x (subst (λ (n : ℕ). Defines macros n at (drop 2 words) s) same.0
    (subst (λ (p : Pos). Defines macros other p (drop 2 words) s) same.1 y))
obeys_once macros hash words r s (Definition _ name at _ i d x) (Other _ j e) =
    absurd (e (is_definition words name at d))
obeys_once macros hash words r s (Other _ i d) (Inclusion _ j) = absurd (i j)
obeys_once macros hash words r s (Other _ i d) (Definition _ name at _ j e y) =
    absurd (d (is_definition words name at e))
obeys_once macros hash words r s (Other _ i d) (Other _ j e) = refl

pub ok_once : (macros next other : Macros) (hash : Token) (words : List Token) → Obeys macros hash words (Ok next)
    → Obeys macros hash words (Ok other) → other ≡ next
ok_once macros next other hash words x y = let same = obeys_once macros hash words (Ok next) (Ok other) x y in cc
