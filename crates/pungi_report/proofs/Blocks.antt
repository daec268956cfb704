-- Two reports with the same bytes say the same.
use Rattle.std.proofs.Common.{◌≡◌, ℕ, List, [], ◌∷◌, ◌++◌, length, get_or, drop, refl, sym, ap, arith, true, codes}
use Rattle.std.specs.List.{AllByRecursion, AllZip, flat_map}
use Rattle.std.specs.Fmt.{decimal, signed_decimal}
use Rattle.std.proofs.lemmas.List.Elements.{recursion_from_All}
use Rattle.pungi_base.specs.declared.fault.Fault.{Fault}
use Rattle.pungi_base.specs.declared.names.Name.{Name}
use Rattle.pungi_base.specs.declared.pos.Pos.{Pos}
use Rattle.pungi_base.specs.declared.rule.Rule.{Rule}
use Rattle.pungi_base.specs.declared.verdict.Verdict.{Verdict}
use Rattle.pungi_base.specs.declared.verdict.Verdict.TheVariants as verdict
use Rattle.pungi_base.specs.declared.why.Why.{Why}
use Rattle.pungi_base.specs.declared.why.Why.TheVariants as why
use Rattle.pungi_base.specs.CWords.{is_c_word}
use Rattle.pungi_base.specs.Witness.{place_text, witness_text, line_end}
use Rattle.pungi_report.specs.Fits.{FitsPlace, FitsFault, FitsWhy, FitsVerdict, FitsLine, Fits}
use Rattle.pungi_report.specs.Same.{IsSameWhy, IsSameVerdict, IsSameLine}
use Rattle.pungi_report.specs.Text.{name_text, why_text, object_text, counts_text, fault_text, refusal_text}
use Rattle.pungi_report.specs.Text.{verdict_text, report_text, IsNamedWhy, IsPrintable, IsLine}
use Rattle.pungi_report.proofs.Pieces.{first, parts, parts3, parts4, same_decimal, same_signed, same_place, same_word}
use Rattle.pungi_report.proofs.Pieces.{blank, line, word_blank, word_line}
use Rattle.pungi_report.proofs.Runs.{third, same_witness}

-- no line of a run follows
abbrev NoRun : List ℕ → Type 0
NoRun r = (first r ≡ 32 → ⊥) × (third r ≡ 97 → ⊥)

same_object : (f g : Fault) (r s : List ℕ) → FitsFault f → FitsFault g
    → object_text f ++ (32 ∷ r) ≡ object_text g ++ (32 ∷ s) → (f.pos ≡ g.pos) × (f.object ≡ g.object) × (r ≡ s)
same_object f g r s p q e =
    let at = same_place f.pos g.pos (codes " object " ++ (decimal f.object ++ (32 ∷ r)))
    (codes " object " ++ (decimal g.object ++ (32 ∷ s))) p.0 q.0 blank blank
    (parts3 (place_text f.pos) (codes " object ") (decimal f.object) (place_text g.pos) (codes " object ")
    (decimal g.object) (32 ∷ r) (32 ∷ s) (ap (drop 1) e)) in
    let object = same_decimal f.object g.object (32 ∷ r) (32 ∷ s) p.1 q.1 blank blank (ap (drop 8) at.1) in
    (at.0, object.0, ap (drop 1) object.1)

same_counts : (f g : Fault) (r s : List ℕ) → FitsFault f → FitsFault g → counts_text f ++ r ≡ counts_text g ++ s
    → (f.change ≡ g.change) × (f.escaped ≡ g.escaped) × (r ≡ s)
same_counts f g r s p q e =
    let change = same_signed f.change g.change (codes " escaped " ++ (signed_decimal f.escaped ++ (10 ∷ r)))
    (codes " escaped " ++ (signed_decimal g.escaped ++ (10 ∷ s))) p.2 q.2 blank blank
    (parts4 (signed_decimal f.change) (codes " escaped ") (signed_decimal f.escaped) line_end
    (signed_decimal g.change) (codes " escaped ") (signed_decimal g.escaped) line_end r s (ap (drop 8) e)) in
    let escaped = same_signed f.escaped g.escaped (10 ∷ r) (10 ∷ s) p.3 q.3 line line (ap (drop 9) change.1) in
    (change.0, escaped.0, ap (drop 1) escaped.1)

same_fault : (f g : Fault) (r s : List ℕ) → length f.used ≡ length f.witness.choices
    → length g.used ≡ length g.witness.choices → FitsFault f → FitsFault g → NoRun r → NoRun s
    → fault_text f ++ r ≡ fault_text g ++ s → (f ≡ g) × (r ≡ s)
same_fault f g r s lf lg p q front back e =
    let fw = witness_text f.witness f.used in
    let gw = witness_text g.witness g.used in
    let object = same_object f g (drop 1 (counts_text f ++ (fw ++ r))) (drop 1 (counts_text g ++ (gw ++ s))) p q
    (parts3 (object_text f) (counts_text f) fw (object_text g) (counts_text g) gw r s e) in
    let counts = same_counts f g (fw ++ r) (gw ++ s) p q (ap (λ (l : List ℕ). 32 ∷ l) object.2) in
    let run = same_witness f.witness g.witness f.used g.used r s lf lg p.4 q.4
    (recursion_from_All FitsPlace f.used p.5) (recursion_from_All FitsPlace g.used q.5) front.0 front.1 back.0
    back.1 counts.2 in (
      λ i. record {
        pos = object.0 i;
        object = object.1 i;
        change = counts.0 i;
        escaped = counts.1 i;
        witness = run.0
            i;
        used = run.1 i;
      },
      run.2,
    )

same_refusal : (at by : Pos) (m n : Rule) (r s : List ℕ) → FitsPlace at → FitsPlace by → Fits m.0 → Fits n.0
    → refusal_text at m ++ r ≡ refusal_text by n ++ s → (at ≡ by) × (m ≡ n) × (r ≡ s)
same_refusal at by m n r s p q x y e =
    let place = same_place at by (codes " N" ++ (decimal m.0 ++ (10 ∷ r))) (codes " N" ++ (decimal n.0 ++ (10 ∷ s)))
    p q blank blank
    (parts4 (place_text at) (codes " N") (decimal m.0) line_end (place_text by) (codes " N") (decimal n.0)
    line_end r s (ap (drop 1) e)) in
    let rule = same_decimal m.0 n.0 (10 ∷ r) (10 ∷ s) x y line line (ap (drop 2) place.1) in
    (place.0, (λ i. record { 0 = rule.0 i }), ap (drop 1) rule.1)

same_why : (names others : List (List ℕ)) (v w : Why) (r s : List ℕ) → IsNamedWhy names v → IsNamedWhy others w
    → FitsWhy v → FitsWhy w → why_text names v ++ (10 ∷ r) ≡ why_text others w ++ (10 ∷ s)
    → IsSameWhy names others v w × (r ≡ s)
same_why names others why.Traces why.Traces r s p q x y e = (refl, ap (drop 7) e)
same_why names others why.Shapes why.Shapes r s p q x y e = (refl, ap (drop 7) e)
same_why names others (why.Range at vector) (why.Range by other) r s p q x y e =
    let h = same_place at by (10 ∷ r) (10 ∷ s) x y line line (ap (drop 6) e) in
    ((other, (λ i. why.Range (sym h.0 i) other)), ap (drop 1) h.1)
same_why names others (why.Number at) (why.Number by) r s p q x y e =
    let h = same_place at by (10 ∷ r) (10 ∷ s) x y line line (ap (drop 7) e) in
    (ap why.Number (sym h.0), ap (drop 1) h.1)
same_why names others (why.Loop at) (why.Loop by) r s p q x y e =
    let h = same_place at by (10 ∷ r) (10 ∷ s) x y line line (ap (drop 5) e) in
    (ap why.Loop (sym h.0), ap (drop 1) h.1)
same_why names others (why.Call at n) (why.Call by m) r s p q x y e =
    let place = same_place at by (32 ∷ (name_text names n ++ (10 ∷ r))) (32 ∷ (name_text others m ++ (10 ∷ s))) x y
    blank blank
    (parts3 (place_text at) (codes " ") (name_text names n) (place_text by) (codes " ") (name_text others m)
    (10 ∷ r) (10 ∷ s) (ap (drop 5) e)) in
    let name = same_word (name_text names n) (name_text others m) (10 ∷ r) (10 ∷ s) p.1 q.1 word_line word_line
    (ap (drop 1) place.1) in
    ((m, (λ i. why.Call (sym place.0 i) m), name.0), ap (drop 1) name.1)
same_why names others v w r s p q x y e = absurd (omega (arith, ap first e))

-- ---- blocks

same_clean : (a b r s : List ℕ) → is_c_word a ≡ true → is_c_word b ≡ true
    → (a ++ line_end) ++ r ≡ (b ++ line_end) ++ s → (a ≡ b) × (r ≡ s)
same_clean a b r s p q e =
    let h = same_word a b (10 ∷ r) (10 ∷ s) p q word_line word_line (parts a line_end b line_end r s e) in
    (h.0, ap (drop 1) h.1)

same_block : (names others : List (List ℕ)) (n m : Name) (v w : Verdict) (r s : List ℕ)
    → is_c_word (name_text names n) ≡ true → is_c_word (name_text others m) ≡ true
    → IsPrintable names v → IsPrintable others w → FitsVerdict v → FitsVerdict w → NoRun r → NoRun s
    → verdict_text names n v ++ r ≡ verdict_text others m w ++ s
    → (name_text names n ≡ name_text others m) × IsSameVerdict names others v w × (r ≡ s)
same_block names others n m verdict.Clean verdict.Clean r s a b p q x y front back e =
    let h = same_clean (name_text names n) (name_text others m) r s a b (ap (drop 6) e) in
    (h.0, refl, h.1)
same_block names others n m (verdict.Faulty f) (verdict.Faulty g) r s a b p q x y front back e =
    let h = same_word (name_text names n) (name_text others m) (fault_text f ++ r) (fault_text g ++ s) a b
    word_blank word_blank
    (parts (name_text names n) (fault_text f) (name_text others m) (fault_text g) r s (ap (drop 7) e)) in
    let h2 = same_fault f g r s p q x y front back h.1 in
    (h.0, ap verdict.Faulty (sym h2.0), h2.1)
same_block names others n m (verdict.Unknown v) (verdict.Unknown w) r s a b p q x y front back e =
    let h = same_word (name_text names n) (name_text others m) (32 ∷ (why_text names v ++ (10 ∷ r)))
    (32 ∷ (why_text others w ++ (10 ∷ s))) a b word_blank word_blank
    (parts4 (name_text names n) (codes " ") (why_text names v) line_end (name_text others m) (codes " ")
    (why_text others w) line_end r s (ap (drop 8) e)) in
    let h2 = same_why names others v w r s p q x y (ap (drop 1) h.1) in
    (h.0, (w, refl, h2.0), h2.1)
same_block names others n m (verdict.Refused at k) (verdict.Refused by l) r s a b p q x y front back e =
    let h = same_word (name_text names n) (name_text others m) (refusal_text at k ++ r) (refusal_text by l ++ s) a b
    word_blank word_blank
    (parts (name_text names n) (refusal_text at k) (name_text others m) (refusal_text by l) r s (ap (drop 8) e)) in
    let h2 = same_refusal at by k l r s x.0 y.0 x.1 y.1 h.1 in
    (h.0, (λ i. verdict.Refused (sym h2.0 i) (sym h2.1 i)), h2.2)
same_block names others n m v w r s a b p q x y front back e = absurd (omega (arith, ap first e))

block_begins : (names : List (List ℕ)) (n : Name) (v : Verdict) (r : List ℕ)
    → NoRun (verdict_text names n v ++ r) × (first (verdict_text names n v ++ r) ≡ 0 → ⊥)
block_begins names n verdict.Clean r = (((λ e. omega (arith, e)), (λ e. omega (arith, e))), (λ e. omega (arith, e)))
block_begins names n (verdict.Faulty f) r =
    (((λ e. omega (arith, e)), (λ e. omega (arith, e))), (λ e. omega (arith, e)))
block_begins names n (verdict.Unknown w) r =
    (((λ e. omega (arith, e)), (λ e. omega (arith, e))), (λ e. omega (arith, e)))
block_begins names n (verdict.Refused at rule) r =
    (((λ e. omega (arith, e)), (λ e. omega (arith, e))), (λ e. omega (arith, e)))

report_begins : (names : List (List ℕ)) (lines : List (Name × Verdict)) → NoRun (report_text names lines)
report_begins names [] = ((λ e. omega (arith, e)), (λ e. omega (arith, e)))
report_begins names (l ∷ lines) = (block_begins names l.0 l.1 (report_text names lines)).0

pub same_report : (names others : List (List ℕ)) (lines more : List (Name × Verdict))
    → AllByRecursion (IsLine names) lines → AllByRecursion (IsLine others) more
    → AllByRecursion FitsLine lines → AllByRecursion FitsLine more
    → report_text names lines ≡ report_text others more → AllZip (IsSameLine names others) lines more
same_report names others [] [] p q x y e = tt
same_report names others [] (m ∷ more) p q x y e =
    absurd ((block_begins others m.0 m.1 (report_text others more)).1 (sym (ap first e)))
same_report names others (l ∷ lines) [] p q x y e =
    absurd ((block_begins names l.0 l.1 (report_text names lines)).1 (ap first e))
same_report names others (l ∷ lines) (m ∷ more) p q x y e =
    let one = same_block names others l.0 m.0 l.1 m.1 (report_text names lines) (report_text others more) p.0.0.1
    q.0.0.1 p.0.1 q.0.1 x.0 y.0
    (report_begins names lines) (report_begins others more) e in
    ((one.0, one.1), same_report names others lines more p.1 q.1 x.1 y.1 one.2)
