-- A run of a well-formed code keeps to the kinds, from each entry that fits.
use Rattle.std.proofs.Common.{◌≡◌, ℕ, zero, suc, ◌+◌, ◌≤◌, ◌⊎◌, ◌&&◌, Bool, true, List, [], ◌∷◌, Option, Some}
use Rattle.std.proofs.Common.{None, ◌∙◌, length, map, take, replicate, refl, sym, subst, inl, inr, arith, leb-true}
use Rattle.std.specs.Prelude.{◌-◌, ◌^◌, nat_le, nat_lt, slice_get}
use Rattle.std.specs.List.{list_all}
use Rattle.std.proofs.lemmas.List.{length-replicate}
use Rattle.pungi_base.specs.declared.choice.Choice.{Choice}
use Rattle.pungi_base.specs.declared.entry.Entry.{Entry}
use Rattle.pungi_api.specs.declared.param.Param.{Param}
use Rattle.pungi_world.specs.declared.content.Content.TheVariants as content
use Rattle.pungi_world.specs.World.{fresh_account}
use Rattle.pungi_meaning.specs.Run.{Run, nowhere}
use Rattle.pungi_code.specs.declared.code.Code.{Code}
use Rattle.pungi_code.specs.declared.code.Codes.{Codes}
use Rattle.pungi_code.specs.declared.code.Line.{Line}
use Rattle.pungi_code.specs.Entries.{code_fits, hold_values}
use Rattle.pungi_code.specs.Frames.{Rest}
use Rattle.pungi_code.specs.Run.{among, code_at, execute, fetch_in, run_of_code}
use Rattle.pungi_code.specs.WellFormed.{AreWellFormed, atoms_of, is_there, kinds_of}
use Rattle.pungi_layout.proofs.well_formed.Both.{and_left, and_right}
use Rattle.pungi_kinds.specs.Contents.{contents_hold}
use Rattle.pungi_kinds.specs.Laws.{ValuesHold, RunHolds, RunsHold, begin, most_objects}
use Rattle.pungi_kinds.specs.Runs.{Point, objects_at, HasKinds, Ends, GoesOn, IsTaken, KeepsKinds, does, go_on}
use Rattle.pungi_kinds.proofs.ValueLemmas.{params_held, values_held}
use Rattle.pungi_kinds.proofs.OperationLemmas.{more_operations, then_operations}
use Rattle.pungi_kinds.proofs.Performed.{performs}
use Rattle.pungi_kinds.proofs.Steps.{Done, in_list, stopped}
use Rattle.pungi_kinds.proofs.TakenLemmas.{takes}

one_of_all : {A : Type 0} (P : A → Bool) (xs : List A) (i : ℕ) (x : A) → list_all P xs ≡ true
    → slice_get xs i ≡ Some x → P x ≡ true
one_of_all P [] i x h e = absurd (cc)
one_of_all P (y ∷ xs) zero x h e =
    let same : y ≡ x = cc in subst (λ z. P z ≡ true) same (and_left (P y) (list_all P xs) h)
one_of_all P (y ∷ xs) (suc i) x h e = one_of_all P xs i x (and_right (P y) (list_all P xs) h) e

module _ (codes : Codes) (w : AreWellFormed codes) (result : Option Param)
    (choices : List Choice) (first : ℕ) where
  -- ---- one instruction

  module _ (s : Point) (has : HasKinds codes result choices first s) where
    at_line : (line : Line) → slice_get s.instrs s.place ≡ Some line
        → IsTaken codes s has.runs.code (Some line)
        × Done codes result choices first s has
        (λ go. fetch_in (among codes.codes choices s.frames) go s.instrs (Some line) s.place s.regs)
    at_line line e =
        let code = has.runs.code in
        let f = has.runs.number in
        let there = in_list (slice_get codes.codes f) code has.runs.there in
        let at = subst (λ lines. slice_get lines s.place ≡ Some line) has.runs.instrs e in
        let sound = (w.each f code there).sound s.place line at in
        let atoms = one_of_all (λ (l : Line). list_all (is_there codes.statics) (atoms_of l.instr)) code.instrs
        s.place line (w.there f code there) at in
        let taken = takes (kinds_of codes) code codes.statics (objects_at s) has.statics s.regs.vars has.runs.vars
        line.instr sound atoms (w.returns f code s.place line there at) in (
          taken,
          performs codes w result choices first s has line.instr line.pos sound taken
              (λ place is. record {
                function = f;
                code = code;
                number = s.place;
                line = line;
                there = there;
                at = at;
                is = is;
              }),
        )

    here : (o : Option Line) → slice_get s.instrs s.place ≡ o
        → IsTaken codes s has.runs.code o
        × Done codes result choices first s has
        (λ go. fetch_in (among codes.codes choices s.frames) go s.instrs o s.place s.regs)
    here None e = (
      tt,
      stopped codes result choices first s has
          (λ go. fetch_in (among codes.codes choices s.frames) go s.instrs None s.place s.regs) nowhere (λ go. refl),
    )
    here (Some line) e = at_line line e

  -- ---- a run

  later : (told : Rest → Run) (P Q : Point → Type 0) → ((s : Point) → P s → Q s)
      → Ends told result ⊎ GoesOn codes told P → Ends told result ⊎ GoesOn codes told Q
  later told P Q f (inl e) = inl e
  later told P Q f (inr g) =
      inr (record { ops = g.ops; next = g.next; by = g.by; holds = g.holds; then = f g.next g.then })

  keeps : (fuel : ℕ) (s : Point) → HasKinds codes result choices first s → KeepsKinds codes result choices first fuel s
  keeps zero s has = has
  keeps (suc fuel) s has =
      let done = here s has (slice_get s.instrs s.place) refl in
      record {
        has = has;
        takes = done.0;
        step = later (does codes choices s) (HasKinds codes result choices first)
            (KeepsKinds codes result choices first fuel) (keeps fuel) done.1;
      }

  -- ---- its operations

  kept : (fuel : ℕ) (s : Point) → KeepsKinds codes result choices first fuel s → HasKinds codes result choices first s
  kept zero s h = h
  kept (suc fuel) s h = h.has

  few_there : (s : Point) → HasKinds codes result choices first s → objects_at s ≤ first + length choices
  few_there s has = omega (arith, has.objects, has.used)

  abbrev Holds : Run → Type 0
  Holds r = RunHolds codes result (first + length choices) r

  holds : (fuel : ℕ) (s : Point) → KeepsKinds codes result choices first fuel s
      → Holds (go_on (execute codes.codes choices fuel) s)
  holds zero s h = record { ops = tt; end = refl }
  holds (suc fuel) s h = by (holds fuel) h.step
    where
      by : ((t : Point) → KeepsKinds codes result choices first fuel t
          → Holds (go_on (execute codes.codes choices fuel) t))
          → Ends (does codes choices s) result
          ⊎ GoesOn codes (does codes choices s) (KeepsKinds codes result choices first fuel)
          → Holds (does codes choices s (execute codes.codes choices fuel))
      by after (inl e) =
          subst Holds (sym (e.by (execute codes.codes choices fuel))) (record { ops = tt; end = e.holds })
      by after (inr g) =
          let rest = after g.next g.then in
          subst Holds (sym (g.by (execute codes.codes choices fuel))) (record {
            ops = then_operations codes (first + length choices) g.ops
                (go_on (execute codes.codes choices fuel) g.next).ops
                (more_operations codes (objects_at g.next) (first + length choices)
                (few_there g.next (kept fuel g.next g.then)) g.ops g.holds) rest.ops;
            end = rest.end;
          })

-- ---- where a run begins

begins : (codes : Codes) (choices : List Choice) (f : ℕ) (code : Code) (entry : Entry) → code_at codes f ≡ Some code
    → code_fits codes.statics code entry ≡ true
    → HasKinds codes code.result choices entry.objects (begin code entry)
begins codes choices f code entry there h =
    let count : length (replicate entry.objects fresh_account) ≡ entry.objects
    = length-replicate entry.objects fresh_account in
    let held = hold_values entry.objects (take code.params code.vars) entry.args in
    let rest = nat_lt entry.objects (2 ^ 31) && held in
    let statics = leb-true codes.statics entry.objects (and_left (nat_le codes.statics entry.objects) rest h) in
    let args = and_right (nat_lt entry.objects (2 ^ 31)) held
    (and_right (nat_le codes.statics entry.objects) rest h) in
    record {
      runs = record {
        number = f;
        code = code;
        there = there;
        instrs = refl;
        vars = params_held (length (replicate entry.objects fresh_account)) code.params code.vars entry.args
            (length code.vars - length entry.args) refl
            (subst (λ n. contents_hold n (take code.params code.vars) (map content.Holds entry.args) ≡ true) (sym count)
            (sym (values_held entry.objects (take code.params code.vars) entry.args) ∙ args));
      };
      waiting = tt;
      outer = refl;
      slots = tt;
      statics = omega arith;
      objects = omega arith;
      used = omega arith;
    }

pub values_hold : (codes : Codes) → AreWellFormed codes → ValuesHold codes
values_hold codes w f code entry choices fuel there h =
    keeps codes w code.result choices entry.objects fuel (begin code entry) (begins codes choices f code entry there h)

pub runs_hold : (codes : Codes) → AreWellFormed codes → RunsHold codes
runs_hold codes w f code entry choices fuel there h =
    subst (λ o. RunHolds codes code.result (most_objects entry choices) (run_of_code codes.codes o entry choices fuel))
    (sym there) (holds codes w code.result choices entry.objects fuel (begin code entry)
    (values_hold codes w f code entry choices fuel there h))
