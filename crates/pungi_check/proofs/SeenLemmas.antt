-- What is found by the words that were seen is what is found by the names themselves.
use Rattle.std.proofs.Common.{◌≡◌, ℕ, Bool, true, false, List, [], ◌∷◌, ◌++◌, Option, Some, None, refl, ◌∙◌, ap, arith}
use Rattle.std.specs.Prelude.{◌==◌, ◌&&◌, ◌||◌, not, if◌then◌else◌}
use Rattle.std.proofs.lemmas.Bool.Decides.{nat_tests}
use Rattle.std.proofs.lemmas.List.Folds.{list_any-append}
use Rattle.std.proofs.lemmas.Option.{slice_get-map}
use Rattle.pungi_base.specs.declared.key.Key.{Key}
use Rattle.pungi_base.specs.declared.names.Name.{Name}
use Rattle.pungi_base.specs.declared.pos.Pos.{Pos}
use Rattle.pungi_check.specs.Duplicates.{Use, as_function, as_variable, as_table, NameUse, is_same_use, used_otherwise}
use Rattle.pungi_check.specs.Duplicates.{use_faults, is_same_of, has_tag, tag_seen, one_tag_fault, tag_faults}
use Rattle.pungi_types.specs.Findings.{Findings, ◌and◌, when}
use Rattle.pungi_types.specs.Kinds.{is_struct}
use Rattle.pungi_types.specs.Names.{is_among, with_word}
use Rattle.pungi_types.specs.Tags.{Tag}
use Rattle.pungi_check.specs.SeenNames.{SeenWords, no_words, used_in, with_use, use_faults_by, SeenTags, no_tags}
use Rattle.pungi_check.specs.SeenNames.{tags_of, with_some_tag, some_tag_fault, tag_faults_by}

is_word : (x w : ℕ) → (w == x) ≡ true → x ≡ w
is_word x w h = grind (arith, nat_tests)

same_test : (x w : ℕ) → (x == w) ≡ (w == x)
same_test x w = grind (arith, nat_tests)

or_last : (a b : Bool) → (a || (b || false)) ≡ (b || a)
or_last true true = refl
or_last true false = refl
or_last false true = refl
or_last false false = refl

among_there : (ws : List ℕ) (w x : ℕ) → is_among ws w ≡ true → is_among ws x ≡ ((w == x) || is_among ws x)
among_there ws w x h = elim (w == x) as (λ b. ((w == x) ≡ b) → is_among ws x ≡ (b || is_among ws x)) [
  | true ↦ λ e. ap (is_among ws) (is_word x w e) ∙ h
  | false ↦ λ e. refl
] refl

among_more : (ws : List ℕ) (w x : ℕ) → is_among (ws ++ w ∷ []) x ≡ ((w == x) || is_among ws x)
among_more ws w x =
    list_any-append (λ y. x == y) ws (w ∷ []) ∙ or_last (is_among ws x) (x == w)
    ∙ ap (λ b. b || is_among ws x) (same_test x w)

-- the words with one more
is_among-with_word : (ws : List ℕ) (w x : ℕ) → is_among (with_word ws w) x ≡ ((w == x) || is_among ws x)
is_among-with_word ws w x =
    elim (is_among ws w) as (λ b. (is_among ws w ≡ b)
    → is_among (if b then ws else ws ++ w ∷ []) x ≡ ((w == x) || is_among ws x)) [
      | true ↦ λ e. among_there ws w x e
      | false ↦ λ e. among_more ws w x
    ] refl

-- .. names of functions, variables and tables
and_nothing : (a b : Bool) → b ≡ ((a && false) || b)
and_nothing true b = refl
and_nothing false b = refl

and_first : (a b c d : Bool) → a ≡ (d || b) → (a || c) ≡ ((d && true) || (b || c))
and_first a b c true h = ap (λ x. x || c) h
and_first a b c false h = ap (λ x. x || c) h

and_second : (a b c d : Bool) → a ≡ (d || c) → (b || a) ≡ ((d && true) || (b || c))
and_second a true c true h = refl
and_second a true c false h = refl
and_second a false c true h = h
and_second a false c false h = h

used-more : (s : SeenWords) (w : ℕ) (k : Use) (x : ℕ) (j : Use)
    → used_in (with_use s w k) x j ≡ (((w == x) && not (is_same_use k j)) || used_in s x j)
used-more s w as_function x as_function = and_nothing (w == x) _
used-more s w as_function x as_variable =
    and_first _ (is_among s.functions x) (is_among s.tables x) (w == x) (is_among-with_word s.functions w x)
used-more s w as_function x as_table =
    and_first _ (is_among s.functions x) (is_among s.variables x) (w == x) (is_among-with_word s.functions w x)
used-more s w as_variable x as_function =
    and_first _ (is_among s.variables x) (is_among s.tables x) (w == x) (is_among-with_word s.variables w x)
used-more s w as_variable x as_variable = and_nothing (w == x) _
used-more s w as_variable x as_table =
    and_second _ (is_among s.functions x) (is_among s.variables x) (w == x) (is_among-with_word s.variables w x)
used-more s w as_table x as_function =
    and_second _ (is_among s.variables x) (is_among s.tables x) (w == x) (is_among-with_word s.tables w x)
used-more s w as_table x as_variable =
    and_second _ (is_among s.functions x) (is_among s.tables x) (w == x) (is_among-with_word s.tables w x)
used-more s w as_table x as_table = and_nothing (w == x) _

-- the kept words are those of these names
record SeesUses (s : SeenWords) (seen : List NameUse) : Type 0 where
  otherwise : (u : NameUse) → used_in s u.name.0 u.as_what ≡ used_otherwise seen u

sees-more : (s : SeenWords) (seen : List NameUse) (v : NameUse) → SeesUses s seen
    → SeesUses (with_use s v.name.0 v.as_what) (v ∷ seen)
sees-more s seen v h = record {
  otherwise = λ u. used-more s v.name.0 v.as_what u.name.0 u.as_what
      ∙ ap (λ b. ((v.name.0 == u.name.0) && not (is_same_use v.as_what u.as_what)) || b) (h.otherwise u);
}

sees-none : (w : ℕ) (k : Use) → used_in no_words w k ≡ false
sees-none w as_function = refl
sees-none w as_variable = refl
sees-none w as_table = refl

both-same : (a b c d : Findings) → a ≡ b → c ≡ d → (a and c) ≡ (b and d)
both-same a b c d h k = cc

uses-by : (s : SeenWords) (seen us : List NameUse) → SeesUses s seen → use_faults_by s us ≡ use_faults seen us
uses-by s seen [] h = refl
uses-by s seen (u ∷ us) h =
    both-same _ _ _ _ (ap (λ b. when b u.pos 1) (h.otherwise u)) (uses-by (with_use s u.name.0 u.as_what) (u ∷ seen)
    us (sees-more s seen u h))

-- a name for two of function, variable and table
pub use_faults-by : (us : List NameUse) → use_faults_by no_words us ≡ use_faults [] us
use_faults-by us = uses-by no_words [] us (record { otherwise = λ u. sees-none u.name.0 u.as_what })

-- .. tags of structs and unions
tag-more : (s : SeenTags) (b c : Bool) (n : Option (Name × Pos)) (w : ℕ)
    → is_among (tags_of (with_some_tag s b n) c) w ≡ ((is_same_of b c && has_tag n w) || is_among (tags_of s c) w)
tag-more s true true None w = refl
tag-more s true true (Some n) w = is_among-with_word s.structs n.0.0 w
tag-more s true false None w = refl
tag-more s true false (Some n) w = refl
tag-more s false true None w = refl
tag-more s false true (Some n) w = refl
tag-more s false false None w = refl
tag-more s false false (Some n) w = is_among-with_word s.unions n.0.0 w

-- the kept tags are those of these structs and unions
record SeesTags (s : SeenTags) (seen : List Tag) : Type 0 where
  tags : (of : Key) (w : ℕ) → is_among (tags_of s (is_struct of)) w ≡ tag_seen seen of w

sees-more-tags : (s : SeenTags) (seen : List Tag) (t : Tag) → SeesTags s seen
    → SeesTags (with_some_tag s (is_struct t.of) t.tag) (t ∷ seen)
sees-more-tags s seen t h = record {
  tags = λ of w. tag-more s (is_struct t.of) (is_struct of) t.tag w
      ∙ ap (λ b. (is_same_of (is_struct t.of) (is_struct of) && has_tag t.tag w) || b) (h.tags of w);
}

one-by : (s : SeenTags) (seen : List Tag) (t : Tag) (n : Option (Name × Pos)) → SeesTags s seen
    → some_tag_fault s (is_struct t.of) n ≡ one_tag_fault seen t n
one-by s seen t None h = refl
one-by s seen t (Some n) h = ap (λ b. when b n.1 1) (h.tags t.of n.0.0)

sees-no-tags : (b : Bool) (w : ℕ) → is_among (tags_of no_tags b) w ≡ false
sees-no-tags true w = refl
sees-no-tags false w = refl

tags-by : (s : SeenTags) (seen ts : List Tag) → SeesTags s seen → tag_faults_by s ts ≡ tag_faults seen ts
tags-by s seen [] h = refl
tags-by s seen (t ∷ ts) h =
    both-same _ _ _ _ (one-by s seen t t.tag h) (tags-by (with_some_tag s (is_struct t.of) t.tag) (t ∷ seen) ts
    (sees-more-tags s seen t h))

-- a struct's or union's tag defined twice
pub tag_faults-by : (ts : List Tag) → tag_faults_by no_tags ts ≡ tag_faults [] ts
tag_faults-by ts = tags-by no_tags [] ts (record { tags = λ of w. sees-no-tags (is_struct of) w })

pub ruleset by_names = (use_faults-by, tag_faults-by)

pub ruleset by_number = (slice_get-map)
