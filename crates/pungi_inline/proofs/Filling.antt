-- Instructions that fill a window, one variable after another.
--   Filled w f n count k k'    from the n-th on so many variables of a window hold these, and nothing else changed
use Rattle.std.proofs.Common.{◌≡◌, ◌⊎◌, inl, inr, ℕ, zero, suc, ◌+◌, ◌<◌, ◌≤◌, List, [], length, Option, refl, sym}
use Rattle.std.proofs.Common.{◌∙◌, subst, arith, ⊎_elim, get_or-set_other, length-set}
use Rattle.std.proofs.lemmas.Bool.{cases_lt}
use Rattle.std.proofs.lemmas.Grind.{get_or-set_at}
use Rattle.std.proofs.Math.Nat.{min-eq_left}
use Rattle.pungi_base.specs.declared.choice.Choice.{Choice}
use Rattle.pungi_world.specs.declared.content.Content.{Content}
use Rattle.pungi_world.specs.declared.content.Content.TheVariants.{Unset}
use Rattle.pungi_meaning.specs.Work.{content_at}
use Rattle.pungi_code.specs.declared.code.Code.{Code}
use Rattle.pungi_code.specs.declared.code.Line.{Line}
use Rattle.pungi_code.specs.Limits.{most_variables}
use Rattle.pungi_code.specs.Registers.{Regs, put}
use Rattle.pungi_inline.specs.Moved.{var_in}
use Rattle.pungi_inline.proofs.Steps.{config, OneStep, Steps, here, more}

-- ---- one variable

module _ (w n : ℕ) (c : Content) (k : Regs) (lt : w + n < length k.vars) (few : length k.vars ≤ most_variables) where
  -- the number of the variable
  var_is : (var_in w n).0 ≡ w + n
  var_is = min-eq_left (omega arith)

  -- a variable of a window that was set holds this
  pub put_there : content_at (put (var_in w n) c k).vars (w + n) ≡ c
  put_there = get_or-set_at k.vars (var_in w n).0 (w + n) c Unset (sym var_is) (omega (arith, lt, var_is))

  -- and all others hold what they held
  pub put_elsewhere : (x : ℕ) → (x ≡ w + n → ⊥) → content_at (put (var_in w n) c k).vars x ≡ content_at k.vars x
  put_elsewhere x not = get_or-set_other k.vars (var_in w n).0 x c Unset (λ e. not (e ∙ var_is))

-- ---- many

pub record Filled (w : ℕ) (f : ℕ → Content) (n count : ℕ) (k k' : Regs) : Type 0 where
  pub world : k'.world ≡ k.world
  pub used : k'.used ≡ k.used
  pub long : length k'.vars ≡ length k.vars
  pub inside : (i : ℕ) → n ≤ i → i < n + count → content_at k'.vars (w + i) ≡ f i
  pub outside : (x : ℕ) → (x < w + n) ⊎ (w + (n + count) ≤ x) → content_at k'.vars x ≡ content_at k.vars x

-- the same holds below a window
abbrev pub SameBelow : ℕ → Regs → Regs → Type 0
SameBelow w k k' = (x : ℕ) → x < w → content_at k'.vars x ≡ content_at k.vars x

module _ (cs : List (Option Code)) (choices : List Choice) (ls : List Line) (at w : ℕ) (f : ℕ → Content) where
  -- the i-th instruction from here on fills the i-th variable, whatever the window holds
  abbrev pub Fills : ℕ → Regs → Type 0
  Fills i k =
      (k' : Regs) → SameBelow w k k'
      → OneStep cs choices (config [] ls (at + i) k') (config [] ls (at + (i + 1)) (put (var_in w i) (f i) k'))

  -- one variable was set, and then those after it
  filled_more : (count n : ℕ) (k k' : Regs) → w + (n + suc count) ≤ length k.vars → length k.vars ≤ most_variables
      → Filled w f (n + 1) count (put (var_in w n) (f n) k) k' → Filled w f n (suc count) k k'
  filled_more count n k k' room few h =
      let lt : w + n < length k.vars = omega (arith, room) in record {
        world = h.world;
        used = h.used;
        long = h.long ∙ length-set k.vars (var_in w n).0 (f n);
        inside = λ i le more.
            ⊎_elim
            (λ lt'. h.inside i (omega arith) (omega (arith, more)))
            (λ ge.
            let e : i ≡ n = omega (arith, ge, le) in
            subst (λ x. content_at k'.vars (w + x) ≡ f x) (sym e)
            (h.outside (w + n) (inl (omega arith)) ∙ put_there w n (f n) k lt few))
            (cases_lt n i);
        outside = λ x h'.
            ⊎_elim
            (λ below. h.outside x (inl (omega (arith, below)))
            ∙ put_elsewhere w n (f n) k lt few x (λ e. omega (arith, e, below)))
            (λ over. h.outside x (inr (omega (arith, over)))
            ∙ put_elsewhere w n (f n) k lt few x (λ e. omega (arith, e, over)))
            h';
      }

  -- instructions that each fill one variable fill many
  pub fill : (count n : ℕ) (k : Regs) → w + (n + count) ≤ length k.vars → length k.vars ≤ most_variables
      → ((i : ℕ) → n ≤ i → i < n + count → Fills i k)
      → (k' : Regs) × Steps cs choices count (config [] ls (at + n) k) (config [] ls (at + (n + count)) k')
      × Filled w f n count k k'
  fill zero n k room few fills =
      let e : n ≡ n + 0 = omega arith in (
        k,
        subst (λ x. Steps cs choices 0 (config [] ls (at + n) k) (config [] ls (at + x) k)) e
            (here (config [] ls (at + n) k)),
        record {
          world = refl;
          used = refl;
          long = refl;
          inside = λ i le lt. absurd (omega (arith, le, lt));
          outside = λ x h. refl;
        },
      )
  fill (suc count) n k room few fills =
      let k1 = put (var_in w n) (f n) k in
      let long : length k1.vars ≡ length k.vars = length-set k.vars (var_in w n).0 (f n) in
      let lt : w + n < length k.vars = omega (arith, room) in
      let below : SameBelow w k k1 =
      λ x less. put_elsewhere w n (f n) k lt few x (λ e. omega (arith, e, less)) in
      let r = fill count (n + 1) k1 (omega (arith, room, long)) (omega (arith, few, long))
      (λ i le less k' same. fills i (omega (arith, le)) (omega (arith, less)) k'
      (λ x less'. same x less' ∙ below x less')) in
      let e : n + 1 + count ≡ n + suc count = omega arith in (
        r.0,
        subst (λ x. Steps cs choices (suc count) (config [] ls (at + n) k) (config [] ls (at + x) r.0)) e
            (more count (config [] ls (at + n) k) (config [] ls (at + (n + 1)) k1)
            (config [] ls (at + (n + 1 + count)) r.0)
            (fills n (omega arith) (omega arith) k (λ x less. refl)) r.1),
        filled_more count n k r.0 room few r.2,
      )
