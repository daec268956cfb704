-- What holds of each line of a code at its place.
--   Each p at ls        it holds of these lines, the first of which is at this place
use Rattle.std.proofs.Common.{◌≡◌, ℕ, zero, suc, ◌+◌, ◌≤◌, ◌<◌, List, [], ◌∷◌, ◌++◌, length, take, map, Option, Some}
use Rattle.std.proofs.Common.{refl, sym, subst, arith}
use Rattle.std.specs.Prelude.{slice_get}
use Rattle.std.specs.List.{flat_map}
use Rattle.pungi_code.specs.declared.code.Code.{Code}
use Rattle.pungi_code.specs.declared.code.Line.{Line}
use Rattle.pungi_inline.specs.Inlined.{lines_of, all_lines}
use Rattle.pungi_inline.specs.Sites.{total, site_at, line_size, line_sizes, window_size, window_sizes}

abbrev pub Each : (ℕ → Line → Type 0) → ℕ → List Line → Type 0
Each p at [] = Unit {0}
Each p at (l ∷ ls) = p at l × Each p (at + 1) ls

-- of two lists of lines, one after the other
pub each_append : (p : ℕ → Line → Type 0) (a b : List Line) (at : ℕ) → Each p at a → Each p (at + length a) b
    → Each p at (a ++ b)
each_append p [] b at h k =
    let e : at + 0 ≡ at = omega arith in subst (λ (n : ℕ). Each p n b) e k
each_append p (l ∷ a) b at h k =
    let e : at + suc (length a) ≡ at + 1 + length a = omega arith in
    (h.0, each_append p a b (at + 1) h.1 (subst (λ (n : ℕ). Each p n b) e k))

-- of the line at a place
pub each_at : (p : ℕ → Line → Type 0) (ls : List Line) (at i : ℕ) (l : Line) → Each p at ls
    → slice_get ls i ≡ Some l → p (at + i) l
each_at p [] at i l h e = absurd (cc)
each_at p (x ∷ ls) at zero l h e =
    let same : x ≡ l = cc in
    let f : at ≡ at + 0 = omega arith in
    subst (λ (n : ℕ). p n l) f (subst (λ (y : Line). p at y) same h.0)
each_at p (x ∷ ls) at (suc i) l h e =
    let f : at + 1 + i ≡ at + suc i = omega arith in
    subst (λ (n : ℕ). p n l) f (each_at p ls (at + 1) i l h.1 e)

-- where another thing holds of each line, and this follows before an end
pub each_from : (p q : ℕ → Line → Type 0) (end : ℕ) → ((n : ℕ) (l : Line) → n < end → q n l → p n l)
    → (ls : List Line) (at : ℕ) → at + length ls ≤ end → Each q at ls → Each p at ls
each_from p q end f [] at le h = tt
each_from p q end f (l ∷ ls) at le h =
    let g : at + suc (length ls) ≤ end = le in
    (f at l (omega (arith, g)) h.0, each_from p q end f ls (at + 1) (omega (arith, g)) h.1)

-- each line stands as lines of this size
pub each_flat : (p : ℕ → Line → Type 0) (f : Line → List Line) (size : Line → ℕ)
    → ((l : Line) → length (f l) ≡ size l) → (ls : List Line) (at : ℕ)
    → ((i : ℕ) (l : Line) → slice_get ls i ≡ Some l → Each p (at + total (take i (map size ls))) (f l))
    → Each p at (flat_map f ls)
each_flat p f size long [] at h = tt
each_flat p f size long (l ∷ ls) at h =
    let e : at + 0 ≡ at = omega arith in
    let g = long l in
    let first : Each p at (f l) = subst (λ (n : ℕ). Each p n (f l)) e (h 0 l refl) in
    let rest : Each p (at + size l) (flat_map f ls) = each_flat p f size long ls (at + size l)
    (λ i m k.
    let d : at + (size l + total (take i (map size ls))) ≡ at + size l + total (take i (map size ls)) = omega arith in
    subst (λ (n : ℕ). Each p n (f m)) d (h (suc i) m k)) in
    each_append p (f l) (flat_map f ls) at first
    (subst (λ (n : ℕ). Each p (at + n) (flat_map f ls)) (sym g) rest)

module _ (p : ℕ → Line → Type 0) (cs : List (Option Code)) (to : ℕ → ℕ) where
  EachOf : ℕ → ℕ → Line → Type 0
  EachOf w at l = Each p at (lines_of to w at l (site_at cs l))

  -- so it is in a code with copies, where it is so of what stands in the place of each line
  pub each_line : ((w at : ℕ) (l : Line) → length (lines_of to w at l (site_at cs l)) ≡ line_size (site_at cs l))
      → (ls : List Line) (w at : ℕ)
      → ((i : ℕ) (l : Line) → slice_get ls i ≡ Some l
      → Each p (at + total (take i (line_sizes cs ls))) (lines_of to (w + total (take i (window_sizes cs ls)))
      (at + total (take i (line_sizes cs ls))) l (site_at cs l)))
      → Each p at (all_lines cs to w at ls)
  unfolding EachOf
  each_line long [] w at h = tt
  each_line long (l ∷ ls) w at h =
      let s = site_at cs l in
      let v : w + 0 ≡ w = omega arith in
      let e : at + 0 ≡ at = omega arith in
      let first : Each p at (lines_of to w at l s) =
      subst (λ (n : ℕ). EachOf w n l) e (subst (λ (n : ℕ). EachOf n (at + 0) l) v (h 0 l refl)) in
      let rest : Each p (at + line_size s) (all_lines cs to (w + window_size s) (at + line_size s) ls) =
      each_line long ls (w + window_size s) (at + line_size s) (λ i m k.
      let a : at + (line_size s + total (take i (line_sizes cs ls)))
      ≡ at + line_size s + total (take i (line_sizes cs ls)) = omega arith in
      let b : w + (window_size s + total (take i (window_sizes cs ls)))
      ≡ w + window_size s + total (take i (window_sizes cs ls)) = omega arith in
      subst (λ (n : ℕ). EachOf (w + window_size s + total (take i (window_sizes cs ls))) n m) a
      (subst (λ (n : ℕ). EachOf n (at + (line_size s + total (take i (line_sizes cs ls)))) m) b (h (suc i) m k))) in
      each_append p (lines_of to w at l s) (all_lines cs to (w + window_size s) (at + line_size s) ls) at first
      (subst (λ (n : ℕ). Each p (at + n) (all_lines cs to (w + window_size s) (at + line_size s) ls))
      (sym (long w at l)) rest)
