-- Questions about numbers that aren't known: the run's own numbers answer them.
use Rattle.std.proofs.Common.{◌≡◌, ℕ, ◌+◌, ◌≤◌, ℤ, pos, List, length, Bool, true, false, refl, sym, ap, ◌∙◌, subst}
use Rattle.std.proofs.Common.{◌<◌, ◌+ℤ◌, Option, None, Some, arith, inr, cond}
use Rattle.std.specs.Prelude.{int_lt, nat_lt, ◌==◌, ◌^◌, ◌||◌}
use Rattle.std.specs.Ordering.{int_cmp}
use Rattle.std.proofs.lemmas.Bool.Decides.{nat_tests}
use Rattle.std.proofs.lemmas.Int.{ints}
use Rattle.pungi_base.specs.declared.choice.Choice.{Choice}
use Rattle.pungi_base.specs.declared.pos.Pos.{Pos}
use Rattle.pungi_base.specs.declared.value.Value.TheVariants as value
use Rattle.pungi_types.specs.declared.kind.ValueKind.{ValueKind}
use Rattle.pungi_types.specs.declared.kind.ValueKind.TheVariants as kinds
use Rattle.pungi_world.specs.declared.content.Content.TheVariants as content
use Rattle.pungi_meaning.specs.declared.op.Op.{Op}
use Rattle.pungi_meaning.specs.Values.{fits, arithmetic, in_range, result_of, is_undefined}
use Rattle.pungi_code.specs.declared.atom.Var.{Var}
use Rattle.pungi_code.specs.declared.code.Line.{Line}
use Rattle.pungi_code.specs.declared.instr.Instr.{Instr}
use Rattle.pungi_code.specs.declared.registers.After.TheVariants as after
use Rattle.pungi_code.specs.Registers.{Regs, put}
use Rattle.pungi_symbol.specs.declared.questions.question.Question.{Question}
use Rattle.pungi_symbol.specs.declared.questions.question.Question.TheVariants.{Orders, Range, Computes, Unplain}
use Rattle.pungi_symbol.specs.declared.states.computation.Computation.{Computation}
use Rattle.pungi_symbol.specs.declared.states.known.Known.{Known}
use Rattle.pungi_symbol.specs.declared.states.known.Status.TheVariants as status
use Rattle.pungi_symbol.specs.declared.states.limit.Limit.{Limit}
use Rattle.pungi_symbol.specs.declared.states.number_places.NumberPlaces.{NumberPlaces}
use Rattle.pungi_symbol.specs.declared.states.obstacle.Obstacle.TheVariants as obstacle
use Rattle.pungi_symbol.specs.declared.states.state.State.{State}
use Rattle.pungi_symbol.specs.declared.states.sum.Sum.{Sum as SumOf}
use Rattle.pungi_symbol.specs.declared.states.term.Term.TheVariants.{Sum}
use Rattle.pungi_symbol.specs.states.NumberPlaces.{with_compared}
use Rattle.pungi_symbol.specs.states.Terms.{Table, sum_value, computed_at, is_computed}
use Rattle.pungi_symbol.specs.states.Turns.{stepped}
use Rattle.pungi_symbol.specs.answers.KnownAfter.{go_on, computed, ordered, next_computed, with_computation}
use Rattle.pungi_symbol.specs.answers.KnownAfter.{put as put_term}
use Rattle.pungi_symbol.specs.answers.SymbolicState.{limited, order_limits, range_limits, range_place}
use Rattle.pungi_symbol.specs.runs.Fits.{AreMet, IsSound}
use Rattle.pungi_symbol.specs.runs.RunInState.{Lies}
use Rattle.pungi_symbol.specs.runs.OneInstruction.{Led, goes, leads, on_number}
use Rattle.pungi_symbol.proofs.answers.LimitsMet.{more_met, order_met, order_can, range_met, range_can, place_few}
use Rattle.pungi_symbol.proofs.steps.RunInState.{Moved, blocks, goes_on, halts, as_many, Result, IsLine, led_is, effort}
use Rattle.pungi_symbol.proofs.steps.RunInState.{put_lies}

-- the number by which a table notes a result; where there is none it is out of every range
abbrev pub result_number : Option ℤ → ℤ
result_number (Some n) = n
result_number None = pos (2 ^ 64)

-- a table notes the run's own result of the computation that a question is about
abbrev pub RealFor : Table → Known → Question → Type 0
RealFor table k (Computes kind o a b) =
    computed_at table (length k.computed) ≡ result_number (arithmetic o kind (sum_value table a) (sum_value table b))
RealFor table k q = Unit {0}

add_none : (n : ℤ) → n +ℤ pos 0 ≡ n
add_none n = omega (arith, ints)

nat_few : (k : ℕ) → k < 3 → nat_lt k 3 ≡ true
nat_few k lt = grind (arith, nat_tests)

-- a result is within the range of its kind
range_by : (b : Bool) (kind : ValueKind) (n v : ℤ) → fits kind n ≡ b → cond b (Some n) None ≡ Some v
    → fits kind v ≡ true
range_by true kind n v f e = let same : n ≡ v = cc in subst (λ z. fits kind z ≡ true) same f
range_by false kind n v f e = absurd (let bad : None ≡ Some v = e in cc)

defined_by : (b : Bool) (kind : ValueKind) (n v : ℤ) → cond b None (in_range kind n) ≡ Some v → fits kind v ≡ true
defined_by true kind n v e = absurd (let bad : None ≡ Some v = e in cc)
defined_by false kind n v e = range_by (fits kind n) kind n v refl e

arithmetic_fits : (o : Op) (kind : ValueKind) (a b v : ℤ) → arithmetic o kind a b ≡ Some v → fits kind v ≡ true
arithmetic_fits o kind a b v e = defined_by (is_undefined o b) kind (result_of o a b) v e

too_large : (kind : ValueKind) → fits kind (pos (2 ^ 64)) ≡ false
too_large kinds.Int = refl
too_large kinds.Long = refl
too_large kinds.Size = refl
too_large kinds.Text = refl
too_large (kinds.Object n) = refl
too_large kinds.Null = refl
too_large kinds.Void = refl

-- where an arithmetic leads, by the number that stands for its result
real_led : (x : Var) (p : Pos) (m : Regs) (pc : ℕ) (kind : ValueKind) (r : Option ℤ)
    → ((v : ℤ) → r ≡ Some v → fits kind v ≡ true)
    → on_number r p m (λ n. goes pc (put x (content.Holds (value.Int n)) m))
    ≡ cond (fits kind (result_number r)) (goes pc (put x (content.Holds (value.Int (result_number r))) m))
    (after.Stops p, m)
real_led x p m pc kind None fit = sym (ap (λ b. cond b (goes pc (put x (content.Holds (value.Int (pos (2 ^ 64)))) m))
    (after.Stops p, m)) (too_large kind))
real_led x p m pc kind (Some v) fit = sym (ap (λ b. cond b (goes pc (put x (content.Holds (value.Int v)) m))
    (after.Stops p, m)) (fit v refl))

-- a comparison changes no more than the places that are noted
compared_places : (b : Bool) (k : Known) (p : Pos)
    → cond b (record k { places = with_compared k.places p }) k
    ≡ record k { places = cond b (with_compared k.places p) k.places }
compared_places true k p = refl
compared_places false k p = refl

module _ (choices : List Choice) (code : List Line) (table : Table) (base : ℕ) (m : Regs) (s : State)
    (going : s.known.status ≡ status.Going) (w : IsSound s) (l : Lies code table base m s) (p : Pos) where
  -- a state that notes more of numbers
  limited_lies : (ls : List Limit) (m' : Regs) (k' : Known) → AreMet table ls
      → Lies code table base m' (record s { known = k' })
      → Lies code table base m' (record (limited ls s) { known = k' })
  limited_lies ls m' k' met h = record {
    fits = record { notes = h.fits.notes; limits = more_met table s.limits ls h.fits.limits met; new = h.fits.new };
    vars = h.vars;
    slots = h.slots;
    used = h.used;
    claims = h.claims;
    below = h.below;
    made = h.made;
    walked = h.walked;
  }

  -- a number that isn't followed: the run stands before the instruction
  pub unplain_result : (i : Instr) → Result choices code table base m s going w l p i Unplain
  unplain_result i = inr (
    refl,
    blocks obstacle.Number p refl refl refl (record {
      fits = record { notes = l.fits.notes; limits = l.fits.limits; new = l.fits.new };
      vars = l.vars;
      slots = l.slots;
      used = l.used;
      claims = l.claims;
      below = l.below;
      made = l.made;
      walked = l.walked;
    }),
  )

  -- computations and their places are only noted
  noted_lies : (cs : List Computation) (ps : NumberPlaces) (m' : Regs) (k' : Known)
      → Lies code table base m' (record s { known = k' })
      → Lies code table base m' (record s { known = record k' { computed = cs; places = ps } })
  noted_lies cs ps m' k' h = record {
    fits = record { notes = h.fits.notes; limits = h.fits.limits; new = h.fits.new };
    vars = h.vars;
    slots = h.slots;
    used = h.used;
    claims = h.claims;
    below = h.below;
    made = h.made;
    walked = h.walked;
  }

  -- two numbers compare as those of the run do
  pub orders_result : (i : Instr) (a b : SumOf) (m' : Regs) (k' : Known)
      → ((ps : NumberPlaces) → ordered i (int_cmp (sum_value table a) (sum_value table b))
      (record s.known { places = ps }) ≡ record k' { places = ps })
      → IsLine choices code table base m s going w l p i → m'.world ≡ m.world
      → leads choices i p s.known.pc m ≡ goes k'.pc m' → k'.status ≡ status.Going
      → k'.turns ≡ stepped s.known.turns → Lies code table base m' (record s { known = k' })
      → Result choices code table base m s going w l p i (Orders a b)
  orders_result i a b m' k' ek is ew e st et h =
      let o = int_cmp (sum_value table a) (sum_value table b) in
      let places = cond (is_computed a.node || is_computed b.node) (with_compared s.known.places p) s.known.places in
      let after' : Known = record k' { places = places } in
      let there : State = record (limited (order_limits a b o) s) { known = after' } in
      let moved : Moved choices code table base s.known.pc s.known.turns (effort s.known) m there = goes_on m'
      (subst (λ z. length m.world.accounts ≤ length z.accounts) (sym ew) (as_many m))
      (led_is choices code table base m s going w l p i is ∙ e) st et
      (limited_lies (order_limits a b o) m' after' (order_met table a b o refl)
      (noted_lies k'.computed places m' k' h)) in
      inr (
        order_can table a b,
        subst (λ z. Moved choices code table base s.known.pc s.known.turns (effort s.known) m
            (record (limited (order_limits a b o) s) { known = z }))
            (sym (ap (ordered i o) (compared_places (is_computed a.node || is_computed b.node) s.known p)
            ∙ ek places)) moved,
      )

  -- the result of an instruction is within a range, or it has none
  module _ (i : Instr) (kind : ValueKind) (a : SumOf) (x : Var) (cs : List Computation) (ps : NumberPlaces) (n : ℤ)
      (is_n : sum_value table a ≡ n) where
    abbrev Noted : Known
    Noted = record s.known { computed = cs; places = ps }

    abbrev At : ℕ → State
    At j = record (limited (range_limits kind a j) s) {
      known = cond (j == 1) (computed i a Noted) (record Noted { status = status.Stopped p });
    }

    abbrev There : Bool → Led
    There b = cond b (goes (s.known.pc + 1) (put x (content.Holds (value.Int n)) m)) (after.Stops p, m)

    off_moved : (j : ℕ) → (j == 1) ≡ false → AreMet table (range_limits kind a j)
        → IsLine choices code table base m s going w l p i → leads choices i p s.known.pc m ≡ (after.Stops p, m)
        → Moved choices code table base s.known.pc s.known.turns (effort s.known) m (At j)
    off_moved j off met is e =
        let k' : Known = record Noted { status = status.Stopped p } in
        let moved : Moved choices code table base s.known.pc s.known.turns (effort s.known) m (record
        (limited (range_limits kind a j) s) { known = k' }) = halts p refl refl
        (led_is choices code table base m s going w l p i is ∙ e) (limited_lies (range_limits kind a j) m k' met
        (record {
          fits = record { notes = l.fits.notes; limits = l.fits.limits; new = l.fits.new };
          vars = l.vars;
          slots = l.slots;
          used = l.used;
          claims = l.claims;
          below = l.below;
          made = l.made;
          walked = l.walked;
        })) in
        subst (λ b. Moved choices code table base s.known.pc s.known.turns (effort s.known) m (record
        (limited (range_limits kind a j) s) { known = cond b (computed i a Noted) k' })) (sym off) moved

    range_moved : (b c : Bool) → AreMet table (range_limits kind a (cond b 1 (cond c 0 2)))
        → computed i a Noted ≡ go_on (put_term x.0 (Sum a) Noted)
        → IsLine choices code table base m s going w l p i → leads choices i p s.known.pc m ≡ There b
        → Moved choices code table base s.known.pc s.known.turns (effort s.known) m (At (cond b 1 (cond c 0 2)))
    range_moved true c met ek is e =
        let k' : Known = go_on (put_term x.0 (Sum a) s.known) in
        let new : Known = go_on (put_term x.0 (Sum a) Noted) in
        let m' : Regs = put x (content.Holds (value.Int n)) m in
        subst (λ z. Moved choices code table base s.known.pc s.known.turns (effort s.known) m
        (record (limited (range_limits kind a 1) s) { known = z })) (sym ek)
        (goes_on m' (as_many m)
        (led_is choices code table base m s going w l p i is ∙ e) going refl
        (limited_lies (range_limits kind a 1) m' new met (noted_lies cs ps m' k'
        (put_lies choices code table base m s going w l p x (Sum a) (content.Holds (value.Int n)) (s.known.pc + 1)
        (ap (λ z. content.Holds (value.Int z)) is_n)))))
    range_moved false true met ek is e = off_moved 0 refl met is e
    range_moved false false met ek is e = off_moved 2 refl met is e

    ranged_moved : computed i a Noted ≡ go_on (put_term x.0 (Sum a) Noted)
        → IsLine choices code table base m s going w l p i → leads choices i p s.known.pc m ≡ There (fits kind n)
        → Moved choices code table base s.known.pc s.known.turns (effort s.known) m (At (range_place kind n))
    ranged_moved ek is e = range_moved (fits kind n) (int_lt n (pos 0)) (range_met table kind a (range_place kind n)
        (ap (range_place kind) is_n)) ek is e

  -- the result of an instruction is a sum
  pub range_result : (i : Instr) (kind : ValueKind) (a : SumOf) (x : Var)
      → computed i a s.known ≡ go_on (put_term x.0 (Sum a) s.known)
      → IsLine choices code table base m s going w l p i
      → leads choices i p s.known.pc m ≡ cond (fits kind (sum_value table a)) (goes (s.known.pc + 1)
      (put x (content.Holds (value.Int (sum_value table a))) m)) (after.Stops p, m)
      → Result choices code table base m s going w l p i (Range kind a)
  range_result i kind a x ek is e = inr (
    range_can table kind a,
    ranged_moved i kind a x s.known.computed s.known.places (sum_value table a) refl ek is e,
  )

  -- it is no sum: the table notes the run's own result
  module _ (i : Instr) (kind : ValueKind) (o : Op) (a b : SumOf) (x : Var) where
    abbrev Real : Option ℤ
    Real = arithmetic o kind (sum_value table a) (sum_value table b)

    abbrev New : Known
    New = with_computation p (record { kind = kind; op = o; a = a; b = b }) s.known

    pub computes_result : RealFor table s.known (Computes kind o a b)
        → computed i (next_computed s.known) New ≡ go_on (put_term x.0 (Sum (next_computed s.known)) New)
        → IsLine choices code table base m s going w l p i
        → leads choices i p s.known.pc m ≡ on_number (arithmetic o kind (sum_value table a) (sum_value table b)) p m
        (λ n. goes (s.known.pc + 1) (put x (content.Holds (value.Int n)) m))
        → Result choices code table base m s going w l p i (Computes kind o a b)
    computes_result real ek is e =
        let n = computed_at table (length s.known.computed) in
        let lt = place_few kind n in
        inr (
          nat_few (range_place kind n) lt,
          ranged_moved i kind (next_computed s.known) x New.computed New.places n (add_none n) ek is (e
              ∙ real_led x p m (s.known.pc + 1) kind Real (λ v h. arithmetic_fits o kind (sum_value table a)
              (sum_value table b) v h)
              ∙ ap (λ z. cond (fits kind z) (goes (s.known.pc + 1) (put x (content.Holds (value.Int z)) m))
              (after.Stops p, m)) (sym real)),
        )
