-- The trees below states: each has the states after it as branches, and those that have ended as leaves. Those that no
-- run is in are left out. Leaves of two lists together, and of the parts of a list.
use Rattle.std.proofs.Common.{◌≡◌, ℕ, suc, ◌+◌, List, [], ◌∷◌, ◌++◌, subst, arith}
use Rattle.pungi_code.specs.declared.code.Line.{Line}
use Rattle.pungi_symbol.specs.declared.states.known.Status.TheVariants as status
use Rattle.pungi_symbol.specs.declared.answers.decision.Decision.{Decision}
use Rattle.pungi_symbol.specs.declared.states.state.State.{State}
use Rattle.pungi_symbol.specs.runs.Paths.{Path, HasNoTable}
use Rattle.pungi_explore.specs.Traces.{HasEnded, states_after}

-- no run is in a state, nor in one that its paths lead to
abbrev pub IsGone : List Line → State → Type 0
IsGone code s = (ds : List Decision) (last : State) → Path code s ds last → HasNoTable last

-- These states have exactly so many leaves, without those that no run is in.
pub data HaveTraces (code : List Line) : List State → ℕ → Type 0 where
  no_state : HaveTraces code [] 0
  has_ended : (s : State) (ss : List State) (n : ℕ) → HasEnded s → HaveTraces code ss n
      → HaveTraces code (s ∷ ss) (suc n)
  goes_on : (s : State) (ss : List State) (m n : ℕ) → s.known.status ≡ status.Going
      → HaveTraces code (states_after code s) m → HaveTraces code ss n → HaveTraces code (s ∷ ss) (m + n)
  has_gone : (s : State) (ss : List State) (n : ℕ) → IsGone code s → HaveTraces code ss n → HaveTraces code (s ∷ ss) n

-- They have so many leaves or more, of each of which something holds. Leaves may be left out.
pub data HaveAtLeast (code : List Line) (P : State → Type 0) : List State → ℕ → Type 0 where
  none_left : HaveAtLeast code P [] 0
  left_out : (s : State) (ss : List State) (n : ℕ) → HaveAtLeast code P ss n → HaveAtLeast code P (s ∷ ss) n
  one_ended : (s : State) (ss : List State) (n : ℕ) → HasEnded s → P s → HaveAtLeast code P ss n
      → HaveAtLeast code P (s ∷ ss) (suc n)
  one_goes_on : (s : State) (ss : List State) (m n : ℕ) → s.known.status ≡ status.Going
      → HaveAtLeast code P (states_after code s) m → HaveAtLeast code P ss n → HaveAtLeast code P (s ∷ ss) (m + n)

module _ (code : List Line) where
  -- ---- exactly so many

  pub joined : (xs ys : List State) (m n : ℕ) → HaveTraces code xs m → HaveTraces code ys n
      → HaveTraces code (xs ++ ys) (m + n)
  joined _ ys _ n no_state h = subst (HaveTraces code ys) (omega arith) h
  joined _ ys _ n (has_ended s ss m e t) h = subst (HaveTraces code (s ∷ (ss ++ ys))) (omega arith)
      (has_ended s (ss ++ ys) (m + n) e (joined ss ys m n t h))
  joined _ ys _ n (goes_on s ss k m g a t) h = subst (HaveTraces code (s ∷ (ss ++ ys))) (omega arith)
      (goes_on s (ss ++ ys) k (m + n) g a (joined ss ys m n t h))
  joined _ ys _ n (has_gone s ss m g t) h = has_gone s (ss ++ ys) (m + n) g (joined ss ys m n t h)

  -- what the parts of a list have
  pub record HaveApart (xs ys : List State) (m : ℕ) : Type 0 where
    pub left : ℕ
    pub right : ℕ
    pub of_left : HaveTraces code xs left
    pub of_right : HaveTraces code ys right
    pub sum : left + right ≡ m

  pub parted : (xs ys : List State) (m : ℕ) → HaveTraces code (xs ++ ys) m → HaveApart xs ys m
  parted [] ys m h = record { left = 0; right = m; of_left = no_state; of_right = h; sum = omega arith }
  parted (x ∷ xs) ys _ (has_ended s ss n e t) =
      let r = parted xs ys n t in
      record {
        left = suc r.left;
        right = r.right;
        of_left = has_ended x xs r.left e r.of_left;
        of_right
            = r.of_right;
        sum = omega (arith, r.sum);
      }
  parted (x ∷ xs) ys _ (goes_on s ss k n g a t) =
      let r = parted xs ys n t in
      record {
        left = k + r.left;
        right = r.right;
        of_left = goes_on x xs k r.left g a r.of_left;
        of_right
            = r.of_right;
        sum = omega (arith, r.sum);
      }
  parted (x ∷ xs) ys _ (has_gone s ss n g t) =
      let r = parted xs ys n t in
      record {
        left = r.left;
        right = r.right;
        of_left = has_gone x xs r.left g r.of_left;
        of_right = r.of_right;
        sum = r.sum;
      }

module _ (code : List Line) (P : State → Type 0) where
  -- ---- at least so many

  pub at_least_joined : (xs ys : List State) (m n : ℕ) → HaveAtLeast code P xs m → HaveAtLeast code P ys n
      → HaveAtLeast code P (xs ++ ys) (m + n)
  at_least_joined _ ys _ n none_left h = subst (HaveAtLeast code P ys) (omega arith) h
  at_least_joined _ ys _ n (left_out s ss m t) h = left_out s (ss ++ ys) (m + n) (at_least_joined ss ys m n t h)
  at_least_joined _ ys _ n (one_ended s ss m e w t) h = subst (HaveAtLeast code P (s ∷ (ss ++ ys))) (omega arith)
      (one_ended s (ss ++ ys) (m + n) e w (at_least_joined ss ys m n t h))
  at_least_joined _ ys _ n (one_goes_on s ss k m g a t) h = subst (HaveAtLeast code P (s ∷ (ss ++ ys)))
      (omega arith) (one_goes_on s (ss ++ ys) k (m + n) g a (at_least_joined ss ys m n t h))

  pub record HaveAtLeastApart (xs ys : List State) (m : ℕ) : Type 0 where
    pub left : ℕ
    pub right : ℕ
    pub of_left : HaveAtLeast code P xs left
    pub of_right : HaveAtLeast code P ys right
    pub sum : left + right ≡ m

  pub at_least_parted : (xs ys : List State) (m : ℕ) → HaveAtLeast code P (xs ++ ys) m → HaveAtLeastApart xs ys m
  at_least_parted [] ys m h = record { left = 0; right = m; of_left = none_left; of_right = h; sum = omega arith }
  at_least_parted (x ∷ xs) ys _ (left_out s ss n t) =
      let r = at_least_parted xs ys n t in
      record {
        left = r.left;
        right = r.right;
        of_left = left_out x xs r.left r.of_left;
        of_right = r.of_right;
        sum
            = r.sum;
      }
  at_least_parted (x ∷ xs) ys _ (one_ended s ss n e w t) =
      let r = at_least_parted xs ys n t in
      record {
        left = suc r.left;
        right = r.right;
        of_left = one_ended x xs r.left e w r.of_left;
        of_right
            = r.of_right;
        sum = omega (arith, r.sum);
      }
  at_least_parted (x ∷ xs) ys _ (one_goes_on s ss k n g a t) =
      let r = at_least_parted xs ys n t in
      record {
        left = k + r.left;
        right = r.right;
        of_left = one_goes_on x xs k r.left g a r.of_left;
        of_right
            = r.of_right;
        sum = omega (arith, r.sum);
      }

  -- all may be left out
  pub all_left_out : (ss : List State) → HaveAtLeast code P ss 0
  all_left_out [] = none_left
  all_left_out (s ∷ ss) = left_out s ss 0 (all_left_out ss)
