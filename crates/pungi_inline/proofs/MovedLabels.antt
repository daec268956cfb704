-- Labels stay in a code where they move, and those that lead back lead to loop heads there.
use Rattle.std.proofs.Common.{◌≡◌, ℕ, zero, suc, ◌+◌, ◌≤◌, true, ◌||◌, List, [], ◌∷◌, ◌++◌}
use Rattle.std.proofs.Common.{length, take, map, Option, Some, None, refl, sym, ap, ◌∙◌, subst, arith}
use Rattle.std.proofs.Common.{ltb-true, lt-ltb, leb-true, le-leb}
use Rattle.std.specs.Prelude.{slice_get, nat_lt, nat_le}
use Rattle.std.proofs.lemmas.Bool.{and_parts, and_from}
use Rattle.pungi_code.specs.declared.code.Code.{Code}
use Rattle.pungi_code.specs.declared.code.Head.{Head}
use Rattle.pungi_code.specs.declared.code.Line.{Line}
use Rattle.pungi_code.specs.declared.instr.Instr.{Instr}
use Rattle.pungi_code.specs.declared.instr.Instr.TheVariants.{Jump, Branch, Return}
use Rattle.pungi_code.specs.declared.instr.Label.{Label}
use Rattle.pungi_code.specs.WellFormed.{CallKinds, is_sound_among, is_label, is_head, goes_back, leads_on}
use Rattle.pungi_inline.specs.Moved.{moved_label, moved_instr, moved_head}
use Rattle.pungi_inline.specs.Inlined.{site_heads, all_heads}
use Rattle.pungi_inline.specs.Sites.{Site, site_at, copied_size, line_size, line_sizes, total, place_from}
use Rattle.pungi_inline.proofs.MovedKinds.{LabelsIn}
use Rattle.pungi_inline.proofs.PartPlaces.{start_within, start_before}
use Rattle.pungi_inline.proofs.TrueTests.{and_both, or_both, or_right}

-- ---- instructions

-- a moved instruction leads on where the instruction does
pub leads_same : (w : ℕ) (to : ℕ → ℕ) (i : Instr) → leads_on (moved_instr w to i) ≡ leads_on i
leads_same w to (Return a) = refl
leads_same w to i = refl

-- its labels that lead back are loop heads, if each label moves so
pub back_moved : (callees : ℕ → CallKinds) (c : Code) (heads : List Head) (w : ℕ) (to : ℕ → ℕ) (place q : ℕ)
    → ((m : Label) → is_label c m ≡ true → (nat_lt place m.0 || is_head c.heads m) ≡ true
    → (nat_lt q (to m.0) || is_head heads (moved_label to m)) ≡ true)
    → (i : Instr) → is_sound_among callees c i ≡ true → goes_back c.heads place i ≡ true
    → goes_back heads q (moved_instr w to i) ≡ true
back_moved callees c heads w to place q f (Jump m) s h = and_both _ _ _ _ (f m s) (λ e. e) h
back_moved callees c heads w to place q f (Branch a this other) s h =
    let t = and_parts _ _ (and_parts _ _ s).1 in
    and_both _ _ _ _ (f this t.0) (and_both _ _ _ _ (f other t.1) (λ e. e)) h
back_moved callees c heads w to place q f (Return a) s h = refl
back_moved callees c heads w to place q f i s h = refl

-- ---- loop heads

-- a moved head is a head of the moved label
pub head_moved : (to : ℕ → ℕ) (hs : List Head) (m : Label) → is_head hs m ≡ true
    → is_head (map (moved_head to) hs) (moved_label to m) ≡ true
head_moved to [] m h = absurd (cc)
head_moved to (x ∷ hs) m h =
    or_both _ _ _ _ (λ k.
    let b = and_parts (nat_le x.label.0 m.0) (nat_le m.0 x.label.0) k in
    let le = leb-true x.label.0 m.0 b.0 in
    let ge = leb-true m.0 x.label.0 b.1 in
    let same : x.label.0 ≡ m.0 = omega (arith, le, ge) in
    let e : to x.label.0 ≡ to m.0 = ap to same in
    and_from _ _ (le-leb (to x.label.0) (to m.0) (omega (arith, e)))
    (le-leb (to m.0) (to x.label.0) (omega (arith, e))))
    (head_moved to hs m) h

-- a head is one of more heads
pub head_front : (a b : List Head) (m : Label) → is_head a m ≡ true → is_head (a ++ b) m ≡ true
head_front [] b m h = absurd (cc)
head_front (x ∷ a) b m h = or_both _ _ _ _ (λ e. e) (head_front a b m) h

pub head_later : (a b : List Head) (m : Label) → is_head b m ≡ true → is_head (a ++ b) m ≡ true
head_later [] b m h = h
head_later (x ∷ a) b m h = or_right _ _ (head_later a b m h)

-- the heads of a copy are heads of the code
pub head_of_copy : (cs : List (Option Code)) (ls : List Line) (at i : ℕ) (l : Line) (s : Site)
    → slice_get ls i ≡ Some l → site_at cs l ≡ Some s → (m : Label)
    → is_head (site_heads (at + total (take i (line_sizes cs ls))) (Some s)) m ≡ true
    → is_head (all_heads cs at ls) m ≡ true
head_of_copy cs [] at i l s e f m h = absurd (cc)
head_of_copy cs (x ∷ ls) at zero l s e f m h =
    let same : x ≡ l = cc in
    let o : site_at cs x ≡ Some s = ap (site_at cs) same ∙ f in
    let g : at + 0 ≡ at = omega arith in
    let k : is_head (site_heads at (Some s)) m ≡ true =
    subst (λ (n : ℕ). is_head (site_heads n (Some s)) m ≡ true) g h in
    head_front (site_heads at (site_at cs x)) (all_heads cs (at + line_size (site_at cs x)) ls) m
    (subst (λ (y : Option Site). is_head (site_heads at y) m ≡ true) (sym o) k)
head_of_copy cs (x ∷ ls) at (suc i) l s e f m h =
    let n = line_size (site_at cs x) in
    let g : at + (n + total (take i (line_sizes cs ls))) ≡ at + n + total (take i (line_sizes cs ls)) = omega arith in
    head_later (site_heads at (site_at cs x)) (all_heads cs (at + n) ls) m
    (head_of_copy cs ls (at + n) i l s e f m
    (subst (λ (y : ℕ). is_head (site_heads y (Some s)) m ≡ true) g h))

-- ---- places

-- each part takes a place
pub some_copied : (i : Instr) → 1 ≤ copied_size i
some_copied (Return (Some a)) = omega arith
some_copied (Return None) = omega arith
some_copied i = omega arith

pub some_line : (s : Option Site) → 1 ≤ line_size s
some_line None = omega arith
some_line (Some s) = omega arith

module _ (c d : Code) (size : Line → ℕ) (some : (l : Line) → 1 ≤ size l) (base : ℕ) where
  -- labels of a code whose parts have these sizes, and which begins here, are places of the other code
  pub labels_in : base + total (map size c.instrs) ≤ length d.instrs
      → LabelsIn c d (place_from base (map size c.instrs))
  labels_in le l lt = let f = start_within size some c.instrs l lt in omega (arith, f, le)

  -- a label that leads on leads on there, and one that leads back is a loop head there
  pub back_to : ((m : Label) → is_head c.heads m ≡ true
      → is_head d.heads (moved_label (place_from base (map size c.instrs)) m) ≡ true)
      → (i : ℕ) (m : Label) → is_label c m ≡ true → (nat_lt i m.0 || is_head c.heads m) ≡ true
      → (nat_lt (place_from base (map size c.instrs) i) (place_from base (map size c.instrs) m.0)
      || is_head d.heads (moved_label (place_from base (map size c.instrs)) m)) ≡ true
  back_to f i m there h =
      or_both _ _ _ _ (λ k.
      let lt = ltb-true i m.0 k in
      let within = ltb-true m.0 (length c.instrs) there in
      let g = start_before size some c.instrs i m.0 lt (omega (arith, within)) in
      lt-ltb (place_from base (map size c.instrs) i) (place_from base (map size c.instrs) m.0) (omega (arith, g)))
      (f m) h
