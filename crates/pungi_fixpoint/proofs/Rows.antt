-- The maps of a call, and what they make.
--   source_more, exit_more        one more row
--   source_fits, exit_fits        their rows name coordinates of the source and of the exit
--   covers_image, image_covers, covers_union    what a domain's calls give, as covers
--   large_call                    a call that is large
use Rattle.std.proofs.Common.{◌≡◌, inl, inr, ℕ, ◌+◌, ◌-◌, ◌<◌, ◌≤◌, ℤ, pos, Bool, true, false, List, [], ◌∷◌, ◌++◌}
use Rattle.std.proofs.Common.{length, get_or, eqb, refl, sym, subst, arith, cond, Option, Some, Result, Ok, Err}
use Rattle.std.specs.Prelude.{nat_lt, IfOk}
use Rattle.std.specs.List.{IsDistinct, range_with_len}
use Rattle.std.proofs.lemmas.Bool.Decides.{nat_tests}
use Rattle.std.proofs.lemmas.List.Elements.{All-nil, All-cons, All-map}
use Rattle.std.proofs.lemmas.List.FromFn.{map-range_with_len_more, get_or-range_with_len, length-range_with_len}
use Rattle.std.proofs.lemmas.List.FromFn.{length-map-range_with_len}
use Rattle.pungi_domain.specs.Builds.{Covers, LargeAct, source_rows, exit_rows}
use Rattle.pungi_domain.specs.Spans.{LargeMap}
use Rattle.pungi_domain.specs.declared.action.Action.TheVariants.{Call}
use Rattle.pungi_domain.specs.Vectors.{Vector, Vectors, Either, Follows, Image, IsMatrix, IsMatrixRow, image}
use Rattle.pungi_domain.specs.declared.domain_fault.DomainFault.{DomainFault}
use Rattle.pungi_fixpoint.specs.Calls.{LargeBeside, source_row, exit_row}

pub source_more : (w i : ℕ) → source_rows w (i + 1) ≡ source_rows w i ++ source_row w i ∷ []
source_more w i = map-range_with_len_more (source_row w) 0 i i (omega arith)

pub exit_more : (w i : ℕ) → exit_rows w (i + 1) ≡ exit_rows w i ++ exit_row w i ∷ []
exit_more w i = map-range_with_len_more (exit_row w) 0 i i (omega arith)

pub source_count : (w z : ℕ) → length (source_rows w z) ≡ z
source_count w z = length-map-range_with_len (source_row w) 0 z

pub exit_count : (w z : ℕ) → length (exit_rows w z) ≡ z
exit_count w z = length-map-range_with_len (exit_row w) 0 z

none_distinct : IsDistinct eqb []
unfolding IsDistinct
none_distinct = tt

one_distinct : (i : ℕ) → IsDistinct eqb (i ∷ [])
unfolding IsDistinct
one_distinct i = (tt, tt)

no_row : (w : ℕ) → IsMatrixRow w []
no_row w = record { within = All-nil (λ (p : ℕ × ℤ). p.0 < w); once = none_distinct }

one_row : (w i : ℕ) → i < w → IsMatrixRow w ((i, pos 1) ∷ [])
one_row w i lt = record {
  within = All-cons (λ (p : ℕ × ℤ). p.0 < w) (i, pos 1) [] lt (All-nil (λ (p : ℕ × ℤ). p.0 < w));
  once = one_distinct i;
}

below : (i w : ℕ) → nat_lt i w ≡ true → i < w
below i w e = grind (arith, nat_tests)

above : (i w : ℕ) → nat_lt i w ≡ false → w ≤ i
above i w e = grind (arith, nat_tests)

source_row_fits : (w i : ℕ) (b : Bool) → nat_lt i w ≡ b → IsMatrixRow w (cond b ((i, pos 1) ∷ []) [])
source_row_fits w i true e = one_row w i (below i w e)
source_row_fits w i false e = no_row w

exit_row_fits : (w z i : ℕ) (b : Bool) → i < z → nat_lt i w ≡ b
    → IsMatrixRow (z - w) (cond b [] ((i - w, pos 1) ∷ []))
exit_row_fits w z i true lt e = no_row (z - w)
exit_row_fits w z i false lt e = let h = above i w e in one_row (z - w) (i - w) (omega arith)

pub source_fits : (w z : ℕ) → IsMatrix w (source_rows w z)
source_fits w z = All-map (IsMatrixRow w) (source_row w) (range_with_len 0 z)
    (λ k d lt. source_row_fits w (get_or (range_with_len 0 z) k d) (nat_lt (get_or (range_with_len 0 z) k d) w) refl)

in_range : (z k d : ℕ) → k < length (range_with_len 0 z) → get_or (range_with_len 0 z) k d < z
in_range z k d lt =
    let n = length-range_with_len 0 z in
    let h : k < z = omega arith in
    let e = get_or-range_with_len 0 z k d h in
    omega arith

pub exit_fits : (w z : ℕ) → IsMatrix (z - w) (exit_rows w z)
exit_fits w z = All-map (IsMatrixRow (z - w)) (exit_row w) (range_with_len 0 z)
    (λ k d lt. exit_row_fits w z (get_or (range_with_len 0 z) k d) (nat_lt (get_or (range_with_len 0 z) k d) w)
    (in_range z k d lt) refl)

pub covers_image : (least : Bool) (rows : List (List (ℕ × ℤ))) (z : ℕ) (S T : Vectors) → length rows ≡ z
    → ((v : Vector) → S v → T (image rows v)) → (least ≡ true → Follows (length rows) (Image rows S) T)
    → Covers least z (Image rows S) T
covers_image least rows z S T e h k =
    (λ u m. subst T (sym m.2) (h m.0 m.1), subst (λ n. least ≡ true → Follows n (Image rows S) T) e k)

pub covers_union : (least : Bool) (w z : ℕ) (A B T : Vectors) → w ≡ z → ((v : Vector) → A v → T v)
    → ((v : Vector) → B v → T v) → (least ≡ true → Follows w (Either A B) T) → Covers least z (Either A B) T
covers_union least w z A B T e a b k = (
  λ v m. elim m [ inl x ↦ a v x | inr x ↦ b v x ],
  subst (λ n. least ≡ true → Follows n (Either A B) T) e k,
)

-- the same of what a domain's map returns, where the matrix has the rows of a call's map
pub image_covers : {D : Type 0} (least : Bool) (member : D → Vectors) (rows named : List (List (ℕ × ℤ))) (z : ℕ)
    (S : Vectors) (r : Result D DomainFault) → rows ≡ named → length rows ≡ z
    → IfOk r (λ t. (v : Vector) → S v → member t (image rows v))
    → (least ≡ true → IfOk r (λ t. Follows (length rows) (Image rows S) (member t)))
    → IfOk r (λ t. Covers least z (Image named S) (member t))
image_covers least member rows named z S (Ok t) e n m l =
    subst (λ q. Covers least z (Image q S) (member t)) e (covers_image least rows z S (member t) n m l)
image_covers least member rows named z S (Err f) e n m l = tt

-- a call that is large beside its source
pub large_call : {S : Type 0} (least : Bool) (member : S → Vectors) (exit : ℕ → ℕ → Option S) (w z f class : ℕ)
    (onto : List ℕ) (s x : S) (r : List ℤ) → exit f class ≡ Some x → length onto ≡ z - w
    → LargeBeside least member w z s x r → LargeAct least member exit w z (Call f class onto) s r
large_call least member exit w z f class onto s x r is count (inl a) = (x, is, inl a)
large_call least member exit w z f class onto s x r is count (inr (inl b)) =
    (x, is, inr (inl (subst (λ n. LargeMap n (exit_rows w z) (member x) r) (sym count) b)))
large_call least member exit w z f class onto s x r is count (inr (inr c)) = (x, is, inr (inr c))
