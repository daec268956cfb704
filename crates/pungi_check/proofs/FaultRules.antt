-- The findings of a file's faults are of rule 1 or 2.
use Rattle.std.proofs.Common.{◌≡◌, ◌⊎◌, ⊎_elim, ℕ, Bool, true, false, List, [], ◌∷◌, Option, Some, None, refl, sym, ap}
use Rattle.std.proofs.Common.{subst, ◌∙◌, arith}
use Rattle.std.specs.Prelude.{◌==◌, ◌&&◌, ◌||◌, slice_get, if◌then◌else◌}
use Rattle.std.proofs.lemmas.Bool.Decides.{nat_tests}
use Rattle.pungi_base.specs.declared.names.Name.{Name}
use Rattle.pungi_base.specs.declared.pos.Pos.{Pos}
use Rattle.pungi_types.specs.Limits.{most_functions}
use Rattle.pungi_types.specs.Files.{SourceFile, Definition, definitions, Typedef, typedefs}
use Rattle.pungi_types.specs.Findings.{Findings, nothing_found, one_found, ◌and◌, when, is_before, earlier, least_from}
use Rattle.pungi_types.specs.Findings.{least}
use Rattle.pungi_types.specs.Names.{is_among, with_word}
use Rattle.pungi_types.specs.Tags.{Tag, tags}
use Rattle.pungi_check.specs.Duplicates.{NameUse, uses, used_otherwise, use_faults, is_variable_use, is_taken}
use Rattle.pungi_check.specs.Duplicates.{variable_faults, definition_faults, typedef_faults, tag_seen, one_tag_fault}
use Rattle.pungi_check.specs.Duplicates.{tag_faults, count_faults, faults}
use Rattle.pungi_types.specs.declared.finding.Finding.{Finding}
use Rattle.pungi_check.specs.Faults.{finding_at, IsFaultOf}
use Rattle.pungi_check.specs.declared.fault.UnitFault.{UnitFault}
use Rattle.pungi_check.specs.declared.fault.UnitFault.TheVariants as why

abbrev is_fault_rule : ℕ → Bool
is_fault_rule n = n == 1 || n == 2

abbrev only_faults : Findings → Bool
only_faults nothing_found = true
only_faults (one_found f) = is_fault_rule f.rule.0
only_faults (a and b) = only_faults a && only_faults b

abbrev IsFault : Option Finding → Type 0
IsFault None = Unit {0}
IsFault (Some f) = is_fault_rule f.rule.0 ≡ true

both : (a b : Bool) → a ≡ true → b ≡ true → (a && b) ≡ true
both true b h k = k
both false b h k = absurd (cc)

left-of : (a b : Bool) → (a && b) ≡ true → a ≡ true
left-of true b h = refl
left-of false b h = absurd (cc)

right-of : (a b : Bool) → (a && b) ≡ true → b ≡ true
right-of true b h = h
right-of false b h = absurd (cc)

earlier-fault : (first : Option Finding) (f : Finding) → IsFault first → is_fault_rule f.rule.0 ≡ true
    → IsFault (earlier first f)
earlier-fault None f i h = h
earlier-fault (Some a) f i h =
    elim (is_before f a) as (λ b. IsFault (if b then Some f else Some a)) [ true ↦ h | false ↦ i ]

least-fault : (first : Option Finding) (fs : Findings) → IsFault first → only_faults fs ≡ true
    → IsFault (least_from first fs)
least-fault first nothing_found i h = i
least-fault first (one_found f) i h = earlier-fault first f i h
least-fault first (a and b) i h =
    least-fault (least_from first a) b (least-fault first a i (left-of (only_faults a) (only_faults b) h))
    (right-of (only_faults a) (only_faults b) h)

when-one : (b : Bool) (p : Pos) → only_faults (when b p 1) ≡ true
when-one true p = refl
when-one false p = refl

of-definitions : (file : SourceFile) (seen : List ℕ) (ds : List Definition)
    → only_faults (definition_faults file seen ds) ≡ true
of-definitions file seen [] = refl
of-definitions file seen (d ∷ ds) =
    both _ _ (when-one (is_among seen d.name.0 || is_taken file.rows d.name.0) d.pos)
    (of-definitions file (with_word seen d.name.0) ds)

of-uses : (seen us : List NameUse) → only_faults (use_faults seen us) ≡ true
of-uses seen [] = refl
of-uses seen (u ∷ us) = both _ _ (when-one (used_otherwise seen u) u.pos) (of-uses (u ∷ seen) us)

of-variables : (file : SourceFile) (us : List NameUse) → only_faults (variable_faults file us) ≡ true
of-variables file [] = refl
of-variables file (u ∷ us) =
    both _ _ (when-one (is_variable_use u.as_what && is_taken file.rows u.name.0) u.pos) (of-variables file us)

of-typedefs : (seen : List ℕ) (ts : List Typedef) → only_faults (typedef_faults seen ts) ≡ true
of-typedefs seen [] = refl
of-typedefs seen (t ∷ ts) = both _ _ (when-one _ t.pos) (of-typedefs (with_word seen t.name.0) ts)

of-tag : (seen : List Tag) (t : Tag) (n : Option (Name × Pos)) → only_faults (one_tag_fault seen t n) ≡ true
of-tag seen t None = refl
of-tag seen t (Some n) = when-one (tag_seen seen t.of n.0.0) n.1

of-tags : (seen ts : List Tag) → only_faults (tag_faults seen ts) ≡ true
of-tags seen [] = refl
of-tags seen (t ∷ ts) = both _ _ (of-tag seen t t.tag) (of-tags (t ∷ seen) ts)

of-count : (o : Option Definition) → only_faults (count_faults o) ≡ true
of-count None = refl
of-count (Some d) = refl

of-file : (file : SourceFile) → only_faults (faults file) ≡ true
of-file file =
    both _ _ (of-definitions file [] (definitions file.items))
    (both _ _ (of-uses [] (uses file.items file.items))
    (both _ _ (of-variables file (uses file.items file.items))
    (both _ _ (of-typedefs [] (typedefs file.items))
    (both _ _ (of-tags [] (tags file.items)) (of-count (slice_get (definitions file.items) most_functions))))))

one-or-two : (n : ℕ) → is_fault_rule n ≡ true → (n ≡ 1) ⊎ (n ≡ 2)
one-or-two n h = grind (arith, nat_tests)

-- the fault that is reported of a file is of rule 1 or 2
pub fault-rule : (file : SourceFile) (f : Finding) → least (faults file) ≡ Some f → (f.rule.0 ≡ 1) ⊎ (f.rule.0 ≡ 2)
fault-rule file f e = one-or-two f.rule.0 (subst IsFault e (least-fault None (faults file) tt (of-file file)))

-- the fault that is reported for the first finding of a file
pub fault-of : (file : SourceFile) (f : Finding) (u : UnitFault) → Some f ≡ least (faults file)
    → (f.rule.0 ≡ 1 → u ≡ why.DuplicateName f.pos) → (f.rule.0 ≡ 2 → u ≡ why.TooManyFunctions f.pos) → IsFaultOf file u
fault-of file f u is one two = ⊎_elim
    (λ (e : f.rule.0 ≡ 1). subst (λ (v : UnitFault). IsFaultOf file v) (sym (one e))
    (sym is ∙ ap (λ (n : ℕ). finding_at f.pos n) e))
    (λ (e : f.rule.0 ≡ 2). subst (λ (v : UnitFault). IsFaultOf file v) (sym (two e))
    (sym is ∙ ap (λ (n : ℕ). finding_at f.pos n) e))
    (fault-rule file f (sym is))
