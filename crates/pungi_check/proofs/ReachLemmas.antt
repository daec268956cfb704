-- The functions that are marked when none waits any more are those that reach a refused one.
use Rattle.std.proofs.Common.{◌≡◌, ℕ, zero, suc, ◌+◌, ◌<◌, Bool, true, false, List, [], ◌∷◌, ◌++◌, length, get_or}
use Rattle.std.proofs.Common.{replicate, Option, Some, None, Vec, refl, ◌∙◌, sym, arith}
use Rattle.std.specs.Prelude.{◌==◌, nat_lt, ◌&&◌, ◌||◌, not, MatchOption}
use Rattle.std.specs.declared.alloc.Global.{Global}
use Rattle.std.proofs.lemmas.Option.{slice_get_read}
use Rattle.std.proofs.lemmas.List.{length-replicate}
use Rattle.std.proofs.lemmas.List.Folds.{list_any-append}
use Rattle.pungi_types.specs.Names.{is_among}
use Rattle.pungi_check.specs.CallGraph.{is_alone, is_call, Reaches, alone, by_call, IsReached}
use Rattle.pungi_check.specs.Worklist.{callers_at, AreCallers, is_marked, Visited}
use Rattle.pungi_check.specs.declared.call_node.CallNode.{CallNode}
use Rattle.pungi_check.proofs.Agreement.{or-left, or-right}
use Rattle.pungi_check.proofs.Monotone.{same_word}
use Rattle.pungi_check.proofs.Least.{is_word, marked_within}
use Rattle.pungi_check.proofs.MarkLemmas.{is_below}

-- what holds between two functions that are visited
pub record Reaching (fs : List CallNode) (cs : List (Vec ℕ Global)) (marks : List Bool) (w : List ℕ) : Type 0 where
  pub callers : AreCallers fs cs
  pub count : length marks ≡ length fs
  pub sound : (i : ℕ) → is_marked marks i ≡ true → Reaches fs i
  pub alone : (i : ℕ) → is_alone fs i ≡ true → is_marked marks i ≡ true
  pub waits : (i : ℕ) → is_among w i ≡ true → is_marked marks i ≡ true
  pub closed : (i j : ℕ) → is_call fs i j ≡ true → is_marked marks j ≡ true → (is_marked marks i || is_among w j) ≡ true

and_left : (a b : Bool) → (a && b) ≡ true → a ≡ true
and_left true b h = refl
and_left false b h = h

pub alone_within : (fs : List CallNode) (i : ℕ) → is_alone fs i ≡ true → i < length fs
alone_within [] i h = absurd (cc)
alone_within (f ∷ fs) zero h = omega arith
alone_within (f ∷ fs) (suc i) h = let k = alone_within fs i h in omega arith

pub call_within : (fs : List CallNode) (i j : ℕ) → is_call fs i j ≡ true → i < length fs
call_within [] i j h = absurd (cc)
call_within (f ∷ fs) zero j h = omega arith
call_within (f ∷ fs) (suc i) j h = let k = call_within fs i j h in omega arith

unmarked_at : (n i : ℕ) → get_or (replicate n false) i false ≡ false
unmarked_at zero i = refl
unmarked_at (suc n) zero = refl
unmarked_at (suc n) (suc i) = unmarked_at n i

-- a mark is of before, or of now
marked_by : (a m : Bool) → (a || m) ≡ true → (P : Type 0) → (a ≡ true → P) → (m ≡ true → P) → P
marked_by true m h P f g = f refl
marked_by false m h P f g = g h

and_marked : (a b : Bool) → a ≡ true → b ≡ true → (a && b) ≡ true
and_marked true true h k = refl
and_marked true false h k = k
and_marked false b h k = h

-- at the start those wait in which a rule holds alone
pub reaching_start : (fs : List CallNode) (cs : List (Vec ℕ Global)) (n : ℕ) (marks : List Bool) (w al : List ℕ)
    → n ≡ length fs → AreCallers fs cs → ((i : ℕ) → is_among al i ≡ is_alone fs i)
    → Visited (replicate n false) marks [] w al → length (replicate n false) ≡ n → Reaching fs cs marks w
reaching_start fs cs n marks w al s c a v l =
    let seen : (i : ℕ) → is_marked marks i ≡ (is_among al i && nat_lt i (length (replicate n false))) = λ i. rw
    (v.marks i, unmarked_at n i) refl in
    record {
      callers = c;
      count = v.count ∙ l ∙ s;
      sound = λ i h. alone i (sym (a i) ∙ and_left (is_among al i) (nat_lt i (length (replicate n false)))
          (sym (seen i) ∙ h));
      alone = λ i h.
          let k = alone_within fs i h in
          let below : i < length (replicate n false) = omega arith in
          seen i ∙ and_marked (is_among al i) (nat_lt i (length (replicate n false))) (a i ∙ h)
          (is_below i (length (replicate n false)) below);
      waits = λ i h. and_left (is_marked marks i) (not (get_or (replicate n false) i false)) (sym (v.waits i) ∙ h);
      closed = λ i j h k. or-right (is_marked marks i) (is_among w j) (v.waits j ∙ rw (k, unmarked_at n j) refl);
    }

-- a function that waited is visited: its callers are marked
pub reaching_step : (fs : List CallNode) (cs : List (Vec ℕ Global)) (marks marks' : List Bool) (w w' : List ℕ)
    (j : ℕ) → Reaching fs cs marks (w ++ j ∷ []) → Visited marks marks' w w' (callers_at cs j)
    → Reaching fs cs marks' w'
reaching_step fs cs marks marks' w w' j r v =
    let waited : (i : ℕ) → is_among (w ++ j ∷ []) i ≡ (is_among w i || (i == j || false)) = λ i. list_any-append
    (λ x. i == x) w (j ∷ []) in
    let last : is_among (w ++ j ∷ []) j ≡ true = waited j
    ∙ or-right (is_among w j) (j == j || false) (or-left (j == j) false (same_word j)) in
    let mine : is_marked marks j ≡ true = r.waits j last in
    let within : j < length marks = marked_within marks j mine in
    let still : (i : ℕ) → is_marked marks i ≡ true
    → is_marked marks' i ≡ true = λ i h. v.marks i ∙ or-left (is_marked marks i)
    (is_among (callers_at cs j) i && nat_lt i (length marks)) h in
    let size = r.count in
    let below : j < length fs = omega arith in
    let called : (i k : ℕ) → is_call fs i k ≡ true → j ≡ k → is_marked marks' i ≡ true = λ i k h q.
    let c : is_call fs i j ≡ true = rw q h in
    let p = call_within fs i j c in
    let l : i < length marks = omega arith in
    v.marks i ∙ or-right (is_marked marks i) (is_among (callers_at cs j) i && nat_lt i (length marks))
    (and_marked (is_among (callers_at cs j) i) (nat_lt i (length marks)) (r.callers.calls i j below ∙ c)
    (is_below i (length marks) l)) in
    record {
      callers = r.callers;
      count = v.count ∙ r.count;
      sound = λ i h. marked_by (is_marked marks i) (is_among (callers_at cs j) i && nat_lt i (length marks))
          (sym (v.marks i) ∙ h) (Reaches fs i) (r.sound i)
          (λ k. by_call i j (sym (r.callers.calls i j below)
          ∙ and_left (is_among (callers_at cs j) i) (nat_lt i (length marks)) k) (r.sound j mine));
      alone = λ i h. still i (r.alone i h);
      waits = λ i h. marked_by (is_among w i) (is_marked marks' i && not (is_marked marks i)) (sym (v.waits i) ∙ h)
          (is_marked marks' i ≡ true)
          (λ k. still i (r.waits i (waited i ∙ or-left (is_among w i) (i == j || false) k)))
          (λ k. and_left (is_marked marks' i) (not (is_marked marks i)) k);
      closed = λ i k h m. elim (is_marked marks k) as (λ b. (is_marked marks k ≡ b)
          → (is_marked marks' i || is_among w' k) ≡ true) [
            | true ↦ λ e. marked_by (is_marked marks i) (is_among (w ++ j ∷ []) k) (r.closed i k h e)
                ((is_marked marks' i || is_among w' k) ≡ true)
                (λ q. or-left (is_marked marks' i) (is_among w' k) (still i q))
                (λ q. marked_by (is_among w k) (k == j || false) (sym (waited k)
                ∙ q) ((is_marked marks' i || is_among w' k) ≡ true)
                (λ p. or-right (is_marked marks' i) (is_among w' k) (v.waits k
                ∙ or-left (is_among w k) (is_marked marks' k && not (is_marked marks k)) p))
                (λ p. or-left (is_marked marks' i) (is_among w' k) (called i k h (marked_by (k == j) false p (j ≡ k)
                (is_word k j) (λ z. absurd (cc))))))
            | false ↦ λ e. or-right (is_marked marks' i) (is_among w' k) (v.waits k
                ∙ or-right (is_among w k) (is_marked marks' k && not (is_marked marks k)) (rw (m, e) refl))
          ] refl;
    }

reached_marked : (fs : List CallNode) (cs : List (Vec ℕ Global)) (marks : List Bool) → Reaching fs cs marks []
    → (i : ℕ) → Reaches fs i → is_marked marks i ≡ true
reached_marked fs cs marks r _ (alone i a) = r.alone i a
reached_marked fs cs marks r _ (by_call i j c h) =
    marked_by (is_marked marks i) false (r.closed i j c (reached_marked fs cs marks r j h))
    (is_marked marks i ≡ true) (λ k. k) (λ k. absurd (cc))

pub reaching_end : (fs : List CallNode) (cs : List (Vec ℕ Global)) (marks : List Bool) → Reaching fs cs marks []
    → IsReached fs marks
reaching_end fs cs marks r =
    record { count = r.count; sound = r.sound; complete = λ i h. reached_marked fs cs marks r i h }

-- .. the same, as the loop has it
pub reaching_begun : (fs : List CallNode) (cs : List (Vec ℕ Global)) (old marks : List Bool) (none w al : List ℕ)
    → old ≡ replicate (length fs) false → none ≡ [] → AreCallers fs cs → ((i : ℕ) → is_among al i ≡ is_alone fs i)
    → Visited old marks none w al → Reaching fs cs marks w
reaching_begun fs cs old marks none w al e f c a v =
    let u : Visited (replicate (length fs) false) marks [] w al = rw (← e, ← f) v in
    reaching_start fs cs (length fs) marks w al refl c a u (length-replicate (length fs) false)

pub waiting_within : (fs : List CallNode) (cs : List (Vec ℕ Global)) (marks : List Bool) (old w : List ℕ) (j : ℕ)
    → old ≡ w ++ j ∷ [] → Reaching fs cs marks old → j < length cs
waiting_within fs cs marks old w j e r =
    let last : is_among old j ≡ true = rw e (list_any-append (λ x. j == x) w (j ∷ [])
    ∙ or-right (is_among w j) (j == j || false) (or-left (j == j) false (same_word j))) in
    let l = marked_within marks j (r.waits j last) in
    let c = r.count in
    let d = r.callers.count in
    omega arith

pub reaching_visited : (fs : List CallNode) (cs : List (Vec ℕ Global)) (marks marks' : List Bool)
    (old w w' : List ℕ) (j : ℕ) (v : Vec ℕ Global) → old ≡ w ++ j ∷ [] → v ≡ get_or cs j v
    → Reaching fs cs marks old → Visited marks marks' w w' v.items → Reaching fs cs marks' w'
reaching_visited fs cs marks marks' old w w' j v e g r h =
    let o = slice_get_read cs (length cs) j v refl (waiting_within fs cs marks old w j e r) g in
    let u : Visited marks marks' w w' (callers_at cs j) = rw o h in
    reaching_step fs cs marks marks' w w' j (rw (← e) r) u

pub reaching_done : (fs : List CallNode) (cs : List (Vec ℕ Global)) (marks : List Bool) (w : List ℕ) → length w ≡ 0
    → Reaching fs cs marks w → IsReached fs marks
reaching_done fs cs marks [] e r = reaching_end fs cs marks r
reaching_done fs cs marks (j ∷ w) e r = absurd (omega arith)

-- nothing is popped where nothing waits
pub nothing_waits : (popped : Option ℕ) (old new : ℕ) → ((x : ℕ) → popped ≡ Some x → ⊥)
    → MatchOption popped ((old ≡ 0) × (new ≡ 0)) (λ x. new + 1 ≡ old) → old ≡ 0
nothing_waits None old new k h = h.0
nothing_waits (Some x) old new k h = absurd (k x refl)
