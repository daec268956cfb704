-- What a word is, where typedefs are followed any number of times.
use Rattle.std.proofs.Common.{◌≡◌, ℕ, zero, suc, Bool, true, false, refl, sym, ap, ◌∙◌, cond, arith, zero-add, Option}
use Rattle.std.proofs.Common.{None, Some, is_some, List}
use Rattle.std.specs.Prelude.{nat_le}
use Rattle.std.proofs.lemmas.Bool.Decides.{nat_tests}
use Rattle.pungi_base.specs.declared.names.Name.{Name}
use Rattle.pungi_tree.specs.Syntax.{Base, words, alias, tagged, tagged_fields, Item}
use Rattle.pungi_types.specs.Files.{Typedef, typedefs}
use Rattle.pungi_types.specs.Kinds.{Core, builtin, no_core, Followed, core_alone, core_at, more_stars, named_core}
use Rattle.pungi_types.specs.Kinds.{typedef_core, typedef_in, tagged_in, written_tag, core_here, spec_base}
use Rattle.pungi_types.specs.Kinds.{is_listed_type}
use Rattle.pungi_types.specs.Tags.{tags}
use Rattle.pungi_names.specs.Depth.{nowhere, with_stars, known, known_at, Reaches, Leads, alias_of, struct_word}
use Rattle.pungi_names.specs.Depth.{own_core}
use Rattle.pungi_names.proofs.DepthLemmas.{behind-known}

zero_within : (n : ℕ) → nat_le 0 n ≡ true
zero_within n = grind (arith, nat_tests)

one_within : (n : ℕ) → nat_le 1 (suc n) ≡ true
one_within n = grind (arith, nat_tests)

none_within : nat_le 1 zero ≡ false
none_within = grind (arith, nat_tests)

either : (b : Bool) → cond b nowhere nowhere ≡ nowhere
either true = refl
either false = refl

abbrev followed : List Item → ℕ → Option Typedef → Followed
followed file n o = known (typedef_core (core_at n file) file o)

pub listed : (file : List Item) (w : ℕ) → is_listed_type w ≡ true
    → Reaches (known_at file) w (record { depth = 0; at = core_alone (builtin (record { 0 = w })) })
listed file w h zero =
    ap (λ b. known (core_alone (cond b (builtin (record { 0 = w })) no_core))) h
    ∙ sym (ap (λ b. cond b (core_alone (builtin (record { 0 = w }))) nowhere) (zero_within zero))
listed file w h (suc n) =
    ap (λ b. known (cond b (core_alone (builtin (record { 0 = w }))) (typedef_core (core_at n file) file
    (typedef_in (typedefs file) w)))) h
    ∙ sym (ap (λ b. cond b (core_alone (builtin (record { 0 = w }))) nowhere) (zero_within (suc n)))

unlisted-first : (file : List Item) (w : ℕ) → is_listed_type w ≡ false → known_at file zero w ≡ nowhere
unlisted-first file w h = ap (λ b. known (core_alone (cond b (builtin (record { 0 = w })) no_core))) h

unlisted-later : (file : List Item) (w : ℕ) → is_listed_type w ≡ false → (n : ℕ)
    → known_at file (suc n) w ≡ followed file n (typedef_in (typedefs file) w)
unlisted-later file w h n =
    ap (λ b. known (cond b (core_alone (builtin (record { 0 = w }))) (typedef_core (core_at n file) file
    (typedef_in (typedefs file) w)))) h

-- a word that is no typedef
pub missing : (file : List Item) (w : ℕ) → is_listed_type w ≡ false → typedef_in (typedefs file) w ≡ None
    → Reaches (known_at file) w (record { depth = 0; at = nowhere })
missing file w h none zero = unlisted-first file w h ∙ sym (either (nat_le 0 zero))
missing file w h none (suc n) = unlisted-later file w h n ∙ ap (followed file n) none ∙ sym (either (nat_le 0 (suc n)))

named-own : (file : List Item) (n : ℕ) (name : Name) (b : Base) → alias_of b ≡ None
    → named_core (core_at n file) file name b ≡ core_alone (own_core (is_some
    (tagged_in (tags file) (struct_word name (written_tag b)).0)) name b)
named-own file zero name (words ks) e = refl
named-own file (suc n) name (words ks) e = refl
named-own file n name (alias w) e = absurd cc
named-own file zero name (tagged of None) e = refl
named-own file (suc n) name (tagged of None) e = refl
named-own file zero name (tagged of (Some t)) e = refl
named-own file (suc n) name (tagged of (Some t)) e = refl
named-own file n name (tagged_fields of None fs) e = refl
named-own file zero name (tagged_fields of (Some t) fs) e = refl
named-own file (suc n) name (tagged_fields of (Some t) fs) e = refl

-- a type that is no word of a typedef
pub written-itself : (file : List Item) (n : ℕ) (b : Base) → alias_of b ≡ None
    → core_at n file b ≡ core_alone (core_here file b)
written-itself file zero b e = refl
written-itself file (suc n) (words ks) e = refl
written-itself file (suc n) (alias w) e = absurd cc
written-itself file (suc n) (tagged of t) e = refl
written-itself file (suc n) (tagged_fields of t fs) e = refl

-- a typedef that writes its type itself
pub ends : (file : List Item) (w : ℕ) (t : Typedef) (c : Core) → is_listed_type w ≡ false
    → typedef_in (typedefs file) w ≡ Some t
    → alias_of (spec_base t.spec) ≡ None → c ≡ own_core (is_some (tagged_in (tags file)
    (struct_word t.name (written_tag (spec_base t.spec))).0)) t.name (spec_base t.spec)
    → Reaches (known_at file) w (record { depth = 1; at = record { core = c; stars = t.stars } })
ends file w t c h some own is zero =
    unlisted-first file w h ∙ sym (ap (λ b. cond b (with_stars c t.stars) nowhere) none_within)
ends file w t c h some own is (suc n) =
    unlisted-later file w h n ∙ ap (followed file n) some
    ∙ ap (λ f. known (more_stars t.stars f)) (named-own file n t.name (spec_base t.spec) own ∙ ap core_alone (sym is))
    ∙ ap (with_stars c) (zero-add t.stars)
    ∙ sym (ap (λ b. cond b (with_stars c t.stars) nowhere) (one_within n))

is-alias : (b : Base) (v : Name) → alias_of b ≡ Some v → b ≡ alias v
is-alias (words ks) v e = absurd cc
is-alias (alias n) v e = let same : n ≡ v = cc in ap alias same
is-alias (tagged of t) v e = absurd cc
is-alias (tagged_fields of t fs) v e = absurd cc

-- a typedef of another word
pub leads : (file : List Item) (w : ℕ) (t : Typedef) (v : Name) → is_listed_type w ≡ false
    → typedef_in (typedefs file) w ≡ Some t
    → alias_of (spec_base t.spec) ≡ Some v → Leads (known_at file) w t.stars v.0
leads file w t v h some to = record {
  first = unlisted-first file w h;
  later = λ n.
      unlisted-later file w h n ∙ ap (followed file n) some
      ∙ ap (λ b. known (more_stars t.stars (named_core (core_at n file) file t.name b)))
      (is-alias (spec_base t.spec) v to)
      ∙ behind-known t.stars (core_at n file (alias v));
}
