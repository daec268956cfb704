-- Where no fault is found, functions have distinct names, and there are 4,096 at most.
use Rattle.std.proofs.Common.{◌≡◌, ℕ, zero, suc, Bool, true, false, List, [], ◌∷◌, ◌++◌, Option, Some, None, refl, sym}
use Rattle.std.proofs.Common.{ap, subst, ◌∙◌, arith}
use Rattle.std.specs.Prelude.{◌==◌, ◌≤◌, ◌&&◌, ◌||◌, not, length, slice_get, if◌then◌else◌}
use Rattle.std.specs.List.{list_any}
use Rattle.std.proofs.lemmas.Bool.Decides.{nat_tests}
use Rattle.pungi_base.specs.declared.pos.Pos.{Pos}
use Rattle.pungi_types.specs.Limits.{most_functions}
use Rattle.pungi_types.specs.Files.{SourceFile, Definition, definitions, typedefs}
use Rattle.pungi_types.specs.Tags.{tags}
use Rattle.pungi_types.specs.Findings.{Findings, nothing_found, one_found, ◌and◌, when, is_before, earlier, least_from}
use Rattle.pungi_types.specs.Findings.{least}
use Rattle.pungi_types.specs.Names.{is_among, with_word}
use Rattle.pungi_check.specs.Duplicates.{is_taken, uses, use_faults, variable_faults, definition_faults, typedef_faults}
use Rattle.pungi_check.specs.Duplicates.{tag_faults, count_faults, faults}
use Rattle.pungi_types.specs.declared.finding.Finding.{Finding}
use Rattle.pungi_check.specs.Distinct.{are_new}
use Rattle.pungi_check.specs.Graph.{with_marked}
use Rattle.pungi_check.specs.CallGraph.{refused_names}

earlier-some : (a f : Finding) → earlier (Some a) f ≡ None → ⊥
earlier-some a f h =
    elim (is_before f a) as (λ b. (if b then Some f else Some a) ≡ None → ⊥) [ true ↦ λ e. cc | false ↦ λ e. cc ] h

-- what was found stays found
stays : (o : Option Finding) (fs : Findings) → least_from o fs ≡ None → o ≡ None
stays o nothing_found h = h
stays None (one_found f) h = refl
stays (Some a) (one_found f) h = absurd (earlier-some a f h)
stays o (a and b) h = stays o a (stays (least_from o a) b h)

left-none : (a b : Findings) → least (a and b) ≡ None → least a ≡ None
left-none a b h = stays (least a) b h

right-none : (a b : Findings) → least (a and b) ≡ None → least b ≡ None
right-none a b h = ap (λ o. least_from o b) (sym (left-none a b h)) ∙ h

when-none : (b : Bool) (p : Pos) (n : ℕ) → least (when b p n) ≡ None → b ≡ false
when-none true p n h = absurd (cc)
when-none false p n h = refl

or-none : (a b : Bool) → (a || b) ≡ false → a ≡ false
or-none true b h = absurd (cc)
or-none false b h = refl

new-and : (a b : Bool) → a ≡ false → b ≡ true → (not a && b) ≡ true
new-and true b h k = absurd (cc)
new-and false b h k = k

definitions-new : (file : SourceFile) (seen : List ℕ) (ds : List Definition)
    → least (definition_faults file seen ds) ≡ None → are_new seen ds ≡ true
definitions-new file seen [] h = refl
definitions-new file seen (d ∷ ds) h =
    let here = when (is_among seen d.name.0 || is_taken file.rows d.name.0) d.pos 1 in
    let rest = definition_faults file (with_word seen d.name.0) ds in
    new-and (is_among seen d.name.0) (are_new (with_word seen d.name.0) ds)
    (or-none (is_among seen d.name.0) (is_taken file.rows d.name.0) (when-none _ d.pos 1 (left-none here rest h)))
    (definitions-new file (with_word seen d.name.0) ds (right-none here rest h))

-- a file without faults defines functions of distinct names
pub file-new : (file : SourceFile) → least (faults file) ≡ None → are_new [] (definitions file.items) ≡ true
file-new file h =
    let others = use_faults [] (uses file.items file.items) and (variable_faults file (uses file.items file.items)
    and (typedef_faults [] (typedefs file.items)
    and (tag_faults [] (tags file.items) and count_faults (slice_get (definitions file.items) most_functions))))
    in
    definitions-new file [] (definitions file.items) (left-none (definition_faults file [] (definitions file.items))
    others h)

behind-the-end : {X : Type 0} (xs : List X) (i : ℕ) → slice_get xs i ≡ None → length xs ≤ i
behind-the-end [] i h = omega (arith)
behind-the-end (x ∷ xs) zero h = absurd (cc)
behind-the-end (x ∷ xs) (suc i) h = omega (arith, behind-the-end xs i h)

count-none : (o : Option Definition) → least (count_faults o) ≡ None → o ≡ None
count-none None h = refl
count-none (Some d) h = absurd (cc)

-- .. and 4,096 at most
pub file-few : (file : SourceFile) → least (faults file) ≡ None → length (definitions file.items) ≤ most_functions
file-few file h =
    let counted = count_faults (slice_get (definitions file.items) most_functions) in
    let by-tags = tag_faults [] (tags file.items) and counted in
    let by-words = typedef_faults [] (typedefs file.items) and by-tags in
    let by-variables = variable_faults file (uses file.items file.items) and by-words in
    let by-uses = use_faults [] (uses file.items file.items) and by-variables in
    let none = right-none (tag_faults [] (tags file.items)) counted
    (right-none (typedef_faults [] (typedefs file.items)) by-tags
    (right-none (variable_faults file (uses file.items file.items)) by-words
    (right-none (use_faults [] (uses file.items file.items)) by-variables
    (right-none (definition_faults file [] (definitions file.items)) by-uses h)))) in
    behind-the-end (definitions file.items) most_functions (count-none (slice_get (definitions file.items)
    most_functions) none)

pub and-left : (a b : Bool) → (not a && b) ≡ true → a ≡ false
and-left true b h = absurd (cc)
and-left false b h = refl

pub and-right : (a b : Bool) → (not a && b) ≡ true → b ≡ true
and-right true b h = absurd (cc)
and-right false b h = h

pub same_word : (w : ℕ) → (w == w) ≡ true
same_word w = grind (arith, nat_tests)

-- .. words kept once
pub any-append : (p : ℕ → Bool) (ws vs : List ℕ) → list_any p (ws ++ vs) ≡ (list_any p ws || list_any p vs)
any-append p [] vs = refl
any-append p (w ∷ ws) vs = elim (p w) as (λ b. (b || list_any p (ws ++ vs)) ≡ ((b || list_any p ws) || list_any p vs)) [
  | true ↦ refl
  | false ↦ any-append p ws vs
]

or-right : (a : Bool) → (a || true) ≡ true
or-right true = refl
or-right false = refl

or-left : (a b : Bool) → a ≡ true → (a || b) ≡ true
or-left true b h = refl
or-left false b h = absurd (cc)

-- a word is among those to which it was added
pub kept : (ws : List ℕ) (w : ℕ) → is_among (with_word ws w) w ≡ true
kept ws w = elim (is_among ws w) as (λ b. (is_among ws w ≡ b) → is_among (if b then ws else ws ++ w ∷ []) w ≡ true) [
  | true ↦ λ e. e
  | false ↦ λ e. any-append (λ x. w == x) ws (w ∷ []) ∙ ap (λ b. (is_among ws w || (b || false))) (same_word w)
      ∙ or-right (is_among ws w)
] refl

-- and so are those that were there
pub keeps : (ws : List ℕ) (v w : ℕ) → is_among ws w ≡ true → is_among (with_word ws v) w ≡ true
keeps ws v w h = elim (is_among ws v) as (λ b. is_among (if b then ws else ws ++ v ∷ []) w ≡ true) [
  | true ↦ h
  | false ↦ any-append (λ x. w == x) ws (v ∷ []) ∙ or-left (is_among ws w) (is_among (v ∷ []) w) h
]

pub not-both : (b : Bool) → b ≡ true → b ≡ false → ⊥
not-both true h k = cc
not-both false h k = cc

pub is-false : (b : Bool) → (b ≡ true → ⊥) → b ≡ false
is-false true h = absurd (h refl)
is-false false h = refl

-- a later function has none of the names that were seen
pub later-new : (ws : List ℕ) (ds : List Definition) (j : ℕ) (e : Definition) → are_new ws ds ≡ true
    → slice_get ds j ≡ Some e → is_among ws e.name.0 ≡ false
later-new ws [] j e n s = absurd (cc)
later-new ws (d ∷ ds) zero e n s =
    let same : d ≡ e = cc in
    subst (λ (x : Definition). is_among ws x.name.0 ≡ false) same (and-left (is_among ws d.name.0)
    (are_new (with_word ws d.name.0) ds) n)
later-new ws (d ∷ ds) (suc j) e n s =
    let later = later-new (with_word ws d.name.0) ds j e (and-right (is_among ws d.name.0)
    (are_new (with_word ws d.name.0) ds) n) s in
    is-false (is_among ws e.name.0) (λ h. not-both (is_among (with_word ws d.name.0) e.name.0)
    (keeps ws d.name.0 e.name.0 h) later)

with_new : (ws : List ℕ) (w : ℕ) → is_among ws w ≡ false → with_word ws w ≡ ws ++ w ∷ []
with_new ws w h = ap (λ b. if b then ws else ws ++ w ∷ []) h

append-list : (us vs ws : List ℕ) → (us ++ vs) ++ ws ≡ us ++ (vs ++ ws)
append-list [] vs ws = refl
append-list (u ∷ us) vs ws = ap (λ xs. u ∷ xs) (append-list us vs ws)

append-none : (ws : List ℕ) → ws ++ [] ≡ ws
append-none [] = refl
append-none (w ∷ ws) = ap (λ xs. w ∷ xs) (append-none ws)

-- every word of the first is among the second
pub record Within (ws seen : List ℕ) : Type 0 where
  pub within : (w : ℕ) → is_among ws w ≡ true → is_among seen w ≡ true

within-new : (ws seen : List ℕ) (w : ℕ) → Within ws seen → is_among seen w ≡ false → is_among ws w ≡ false
within-new ws seen w i h = is-false (is_among ws w) (λ k. not-both (is_among seen w) (i.within w k) h)

within-later : (ws seen : List ℕ) (v : ℕ) → Within ws seen → Within ws (with_word seen v)
within-later ws seen v i = record { within = λ w h. keeps seen v w (i.within w h) }

or-cases : (a b c : Bool) → (a ≡ true → c ≡ true) → (b ≡ true → c ≡ true) → (a || b) ≡ true → c ≡ true
or-cases true b c f g h = f refl
or-cases false b c f g h = g h

pub or-false : (b : Bool) → (b || false) ≡ b
or-false true = refl
or-false false = refl

pub is_word : (v w : ℕ) → (v == w) ≡ true → v ≡ w
is_word v w h = grind (arith, nat_tests)

within-added : (ws seen : List ℕ) (v : ℕ) → Within ws seen → Within (ws ++ v ∷ []) (with_word seen v)
within-added ws seen v i = record {
  within = λ w h. or-cases (is_among ws w) (w == v) (is_among (with_word seen v) w)
      (λ k. keeps seen v w (i.within w k))
      (λ k. subst (λ (x : ℕ). is_among (with_word seen v) x ≡ true) (sym (is_word w v k)) (kept seen v))
      (sym (any-append (λ x. w == x) ws (v ∷ []) ∙ ap (λ b. is_among ws w || b) (or-false (w == v))) ∙ h);
}

-- the names of marked functions are gathered one after another
pub gather : (ws seen : List ℕ) (ds : List Definition) (marks : List Bool) → Within ws seen → are_new seen ds ≡ true
    → with_marked ws ds marks ≡ ws ++ refused_names ds marks
gather ws seen [] marks i n = sym (append-none ws)
gather ws seen (d ∷ ds) [] i n = sym (append-none ws)
gather ws seen (d ∷ ds) (false ∷ marks) i n =
    gather ws (with_word seen d.name.0) ds marks (within-later ws seen d.name.0 i)
    (and-right (is_among seen d.name.0) (are_new (with_word seen d.name.0) ds) n)
gather ws seen (d ∷ ds) (true ∷ marks) i n =
    ap (λ vs. with_marked vs ds marks) (with_new ws d.name.0 (within-new ws seen d.name.0 i
    (and-left (is_among seen d.name.0) (are_new (with_word seen d.name.0) ds) n)))
    ∙ gather (ws ++ d.name.0 ∷ []) (with_word seen d.name.0) ds marks (within-added ws seen d.name.0 i)
    (and-right (is_among seen d.name.0) (are_new (with_word seen d.name.0) ds) n)
    ∙ append-list ws (d.name.0 ∷ []) (refused_names ds marks)

pub refused-gathered : (ds : List Definition) (marks : List Bool) → are_new [] ds ≡ true
    → with_marked [] ds marks ≡ refused_names ds marks
refused-gathered ds marks n = gather [] [] ds marks (record { within = λ w h. h }) n
