-- Walks along constraints.
use Rattle.std.proofs.Common.{◌≡◌, ◌∙◌, ℕ, ◌<◌, inl, inr, ℤ, pos, ◌+ℤ◌, ◌≤ℤ◌, ◌<ℤ◌, List, [], ◌∷◌, ◌++◌, length, refl}
use Rattle.std.proofs.Common.{sym, ap, arith, slice_index_or, slice_index, length-append}
use Rattle.std.specs.List.{All, Contains}
use Rattle.std.proofs.lemmas.Int.{ints}
use Rattle.std.proofs.lemmas.List.Elements.{All-drop, All-contains, All-push, Contains-append_left, Contains-push}
use Rattle.pungi_diff.specs.declared.constraint.Constraint.{Constraint}
use Rattle.pungi_diff.specs.Constraint.{at, Meets, Solves}
use Rattle.pungi_diff.specs.Round.{Path, total, GoesRound, Walked}
use Rattle.pungi_diff.specs.Search.{Searching, HasVia}

pub Path-push : (u w : ℕ) (ks : List Constraint) (k : Constraint) → Path u ks w → k.x ≡ w → Path u (ks ++ k ∷ []) k.y
Path-push u w [] k p e = (e ∙ sym p, refl)
Path-push u w (j ∷ ks) k p e = (p.0, Path-push j.y w ks k p.1 e)

pub total-push : (ks : List Constraint) (k : Constraint) → total (ks ++ k ∷ []) ≡ total ks +ℤ k.c
total-push [] k = omega (arith, ints)
total-push (j ∷ ks) k = let h = total-push ks k in omega (arith, ints, h)

-- values that meet the constraints of a walk differ at most by its sum
pub walk_sum : (v : ℕ → ℤ) (u w : ℕ) (ks : List Constraint) → Path u ks w → All (Meets v) ks → v u ≤ℤ (v w +ℤ total ks)
walk_sum v u w [] p h = let e : v u ≡ v w = ap v p in omega (arith, ints, e)
walk_sum v u w (k ∷ ks) p h =
    let a : Meets v k = h 0 k (omega arith) in
    let e : v k.x ≡ v u = ap v p.0 in
    let b = walk_sum v k.y w ks p.1 (All-drop (Meets v) 1 (k ∷ ks) h) in
    omega (arith, ints, a, e, b)

-- so no round of them has a sum below 0
pub no_round : (v : ℕ → ℤ) (held : List Constraint) (new : Constraint) → Solves v (held ++ new ∷ [])
    → (ks : List Constraint) → GoesRound held new ks → ⊥
no_round v held new h ks g =
    let all : All (Meets v) ks = λ k d lt. All-contains (Meets v) (held ++ new ∷ []) (slice_index_or ks k d) h
    (g.among k d lt) in
    let s = walk_sum v new.y new.y ks g.round all in
    let b = g.below in
    absurd (omega (arith, ints, s, b))

-- the walk begins at y
pub walk_starts : (held : List Constraint) (value : List ℤ) (rank : List ℕ) (gap : List ℤ) (new : Constraint)
    → new.y < length value → at gap new.y <ℤ pos 0 → Walked held value rank gap new [] new.y
walk_starts held value rank gap new lt b = record {
  path = refl;
  among = λ k d lt'. absurd (omega arith);
  sum = omega (arith, ints);
  within = lt;
  below = b;
  short = inl refl;
}

-- one step of the walk
pub walk_goes : (held : List Constraint) (value : List ℤ) (rank : List ℕ) (gap : List ℤ) (new : Constraint)
    (ks : List Constraint) (u : ℕ) (by : Constraint)
    → length rank ≡ length value → Walked held value rank gap new ks u → HasVia held value rank gap by u
    → Walked held value rank gap new (ks ++ by ∷ []) by.y
walk_goes held value rank gap new ks u by ranks w h = record {
  path = Path-push new.y u ks by w.path h.to;
  among = All-push (Contains held) ks by w.among h.held_by;
  sum = (let a = w.sum in let b = h.exact in let e = total-push ks by in omega (arith, ints, a, b, e));
  within = h.within;
  below = h.lower_there;
  short = inr (
      let a = h.rank_less in
      let b : slice_index rank by.y < length rank = h.comes in
      rw (length-append ks (by ∷ [])) (elim w.short [
        | inl z ↦ omega (arith, z, b, ranks)
        | inr s ↦ omega
            (arith, s, a)
      ])
      );
}

-- the walk ends at x, and the new constraint closes it
pub walk_ends : (held : List Constraint) (value : List ℤ) (rank : List ℕ) (gap : List ℤ) (via : List Constraint)
    (new : Constraint) (ks : List Constraint) (u t : ℕ)
    → Searching held value rank gap via new t → at gap new.y <ℤ pos 0 → Walked held value rank gap new ks u
    → u ≡ new.x → GoesRound held new (ks ++ new ∷ [])
walk_ends held value rank gap via new ks u t r below w e = record {
  round = Path-push new.y u ks new w.path (sym e);
  among = All-push (Contains (held ++ new ∷ [])) ks new
      (λ k d lt. Contains-append_left held (new ∷ []) (slice_index_or ks k d) (w.among k d lt))
      (Contains-push held new);
  with_new = Contains-push ks new;
  below = (
      let a = w.sum in
      let b = r.first in
      let g : at gap u ≡ at gap new.x = ap (at gap) e in
      let v : at value u ≡ at value new.x = ap (at value) e in
      let s = total-push ks new in
      omega (arith, ints, a, b, g, v, s, below)
      );
}
