-- A function and its code with copies of the codes that it calls return alike.
use Rattle.std.proofs.Common.{◌≡◌, ℕ, zero, suc, ◌+◌, ◌<◌, ◌≤◌, arith, true, false, List, [], ◌∷◌, length, take}
use Rattle.std.proofs.Common.{Option, Some, None, refl, sym, ap, ◌∙◌, subst}
use Rattle.std.specs.Prelude.{◌&&◌, nat_le, nat_lt, ◌^◌, slice_get, option_map, MatchOption, IfOk, Result, Ok, Err}
use Rattle.std.proofs.lemmas.List.{length-take}
use Rattle.pungi_base.specs.declared.choice.Choice.{Choice}
use Rattle.pungi_base.specs.declared.entry.Entry.{Entry}
use Rattle.pungi_base.specs.declared.names.Name.{Name}
use Rattle.pungi_base.specs.declared.pos.Pos.{Pos}
use Rattle.pungi_base.specs.declared.value.Value.{Value}
use Rattle.pungi_base.specs.declared.verdict.Verdict.{Verdict}
use Rattle.pungi_api.specs.declared.param.Param.{Param}
use Rattle.pungi_resolved.specs.Functions.{ResolvedFunction}
use Rattle.pungi_meaning.specs.Entries.{entry_fits}
use Rattle.pungi_meaning.specs.Run.{Run}
use Rattle.pungi_code.specs.declared.code.Code.{Code}
use Rattle.pungi_code.specs.declared.code.Codes.{Codes}
use Rattle.pungi_code.specs.declared.code.Line.{Line}
use Rattle.pungi_code.specs.declared.instr.Instr.{Instr}
use Rattle.pungi_code.specs.declared.instr.Instr.TheVariants.{Call}
use Rattle.pungi_code.specs.Alike.{IsOver}
use Rattle.pungi_code.specs.Entries.{hold_values, holds_value, code_fits}
use Rattle.pungi_code.specs.Frames.{code_numbered}
use Rattle.pungi_code.specs.Limits.{steps_an_instruction}
use Rattle.pungi_code.specs.Alone.{CallsNone}
use Rattle.pungi_code.specs.Run.{code_at}
use Rattle.pungi_code.specs.WellFormed.{AreWellFormed, IsAlone, IsWellFormedAmong, fits_call, is_sound_among, kinds_of}
use Rattle.pungi_inline.specs.FirstCall.{called_by, first_call, first_of}
use Rattle.pungi_inline.specs.Inlined.{inlined}
use Rattle.pungi_inline.specs.Laws.{RunsAlike, IsAlikeInlined, IsFormed, one_code}
use Rattle.pungi_layout.specs.alike.Correct.{Behaves, target}
use Rattle.pungi_lower.specs.Lowered.{IsLowered}
use Rattle.pungi_resolve.specs.Sound.{is_sound_action}
use Rattle.pungi_symbol.specs.Promises.{HasImmortals}
use Rattle.pungi_verdict.specs.Causes.{IsDecidedAt}
use Rattle.pungi_verdict.specs.Replays.{IsGiven, IsTrueAlike, ReturnsAlike}
use Rattle.pungi_verdict.specs.Sound.{IsTrueOf}
use Rattle.pungi_verdict.proofs.Files.{given}
use Rattle.pungi_verdict.proofs.Forms.{and-right}
use Rattle.pungi_verdict.proofs.Transport.{returned-over}

-- ---- entries

hold-few : (n : ℕ) (ks : List Param) (vs : List Value) → hold_values n ks vs ≡ true → length vs ≤ length ks
hold-few n [] [] e = omega arith
hold-few n [] (v ∷ vs) e = absurd (cc)
hold-few n (k ∷ ks) [] e = omega arith
hold-few n (k ∷ ks) (v ∷ vs) e =
    let rest = hold-few n ks vs (and-right (holds_value n k v) (hold_values n ks vs) e) in omega (arith, rest)

-- an entry of a code has values for at most its variables
pub few-args : (n : ℕ) (code : Code) (entry : Entry) → code_fits n code entry ≡ true
    → length entry.args ≤ length code.vars
few-args n code entry e =
    let held = and-right (nat_lt entry.objects (2 ^ 31))
    (hold_values entry.objects (take code.params code.vars) entry.args)
    (and-right (nat_le n entry.objects) (nat_lt entry.objects (2 ^ 31)
    && hold_values entry.objects (take code.params code.vars) entry.args) e) in
    let few = hold-few entry.objects (take code.params code.vars) entry.args held in
    let less = length-take code.params code.vars in
    omega (arith, few, less)

-- ---- runs

pub returns-alike : (fs : List (Option ResolvedFunction)) (codes : Codes) (f : ResolvedFunction) (code : Code)
    → ((entry : Entry) → code_fits codes.statics code entry ≡ entry_fits f.params codes.statics entry)
    → ((entry : Entry) → entry_fits f.params codes.statics entry ≡ true → length entry.args ≤ f.locals)
    → Behaves fs codes.codes f code steps_an_instruction
    → ((entry : Entry) (choices : List Choice) → length entry.args ≤ length code.vars
    → RunsAlike codes code entry choices)
    → ReturnsAlike fs codes.statics f (inlined codes.codes code)
returns-alike fs codes f code fits within behaves law = record {
  only = λ entry choices fit m w v p used r.
      let same = law entry choices (few-args codes.statics code entry (fits entry ∙ fit)) in
      let run = same.only m w v p used r in
      let alike = behaves.alike entry choices (within entry fit) in
      let over : IsOver (target codes.codes code entry choices m).end = returned-over _ w v p used run in
      ap (λ (x : Run). x.end) (alike.ends_only m over) ∙ run;
  all = λ none entry choices fit m w v p used r.
      let same = law entry choices (few-args codes.statics code entry (fits entry ∙ fit)) in
      let alike = behaves.alike entry choices (within entry fit) in
      let run = alike.ends m (returned-over _ w v p used r) in
      same.all none run.0 w v p used (ap (λ (x : Run). x.end) run.1 ∙ r);
}

-- ---- calls that are left

-- the line of the first call
record CallAt (lines : List Line) (at : Pos) (g : ℕ) : Type 0 where
  place : ℕ
  line : Line
  is : slice_get lines place ≡ Some line
  call : called_by line.pos line.instr ≡ Some (at, g)

call-by : (l : Line) (ls : List Line) (at : Pos) (g : ℕ) (o : Option (Pos × ℕ)) → called_by l.pos l.instr ≡ o
    → (first_call ls ≡ Some (at, g) → CallAt ls at g) → first_of o (first_call ls) ≡ Some (at, g)
    → CallAt (l ∷ ls) at g
call-by l ls at g None is later rest =
    let found = later rest in
    record { place = suc found.place; line = found.line; is = found.is; call = found.call }
call-by l ls at g (Some c) is later here = record { place = 0; line = l; is = refl; call = is ∙ here }

call-at : (lines : List Line) (at : Pos) (g : ℕ) → first_call lines ≡ Some (at, g) → CallAt lines at g
call-at [] at g e = absurd (cc)
call-at (l ∷ ls) at g e = call-by l ls at g (called_by l.pos l.instr) refl (λ r. call-at ls at g r) e

abbrev number-in : Option (Pos × ℕ) → ℕ
number-in None = 0
number-in (Some c) = c.1

pub same-number : (c d : Pos × ℕ) → Some c ≡ Some d → c.1 ≡ d.1
same-number c d e = ap number-in e

pub called-there : (codes : Codes) (code : Code) (p at : Pos) (i : Instr) (g : ℕ)
    → is_sound_among (kinds_of codes) code i ≡ true → called_by p i ≡ Some (at, g) → g < length codes.codes
called-there codes code p at (Call x f as') g sound e =
    let same : f ≡ g = same-number (p, f) (at, g) e in
    subst (λ n. n < length codes.codes) same
    (numbered codes.codes f (has-code (code_numbered codes.codes f) refl sound))
  where
    has-code : (o : Option Code) → code_numbered codes.codes f ≡ o
        → fits_call code.vars (option_map (λ (c : Code). (take c.params c.vars, c.result)) o) x as' ≡ true
        → (c : Code) × (code_numbered codes.codes f ≡ Some c)
    has-code None is s = absurd (let bad : false ≡ true = s in cc)
    has-code (Some c) is s = (c, is)

    numbered : (cs : List (Option Code)) (n : ℕ) → (c : Code) × (code_numbered cs n ≡ Some c) → n < length cs
    numbered [] n h = absurd (let e = h.1 in cc)
    numbered (o ∷ cs) zero h = omega arith
    numbered (o ∷ cs) (suc n) h = let rest = numbered cs n h in omega (arith, rest)
called-there codes code p at i g sound e = absurd (cc)

-- the function of the first call that is left has a name
pub call-named : (codes : Codes) (code : Code) → AreWellFormed codes → IsWellFormedAmong (kinds_of codes) code
    → (at : Pos) (g : ℕ) → first_call code.instrs ≡ Some (at, g) → g < length codes.names
call-named codes code all formed at g e =
    let found = call-at code.instrs at g e in
    let lt = called-there codes code found.line.pos at found.line.instr g (formed.sound found.place found.line found.is)
    found.call in
    subst (λ n. g < n) (sym all.names) lt

-- ---- a function by a code that is its code with copies

module _ (codes : Codes) (i : ℕ) (f : ResolvedFunction) (code w : Code) (all : AreWellFormed codes)
    (there : code_at codes i ≡ Some code) (gs : List (Option ResolvedFunction)) (nodes : ℕ)
    (low : IsLowered gs codes.codes f nodes code) (law : IsAlikeInlined codes i code) (formed : IsFormed codes code)
    (is : w ≡ inlined codes.codes code) where
  pub whole-returns : (fs : List (Option ResolvedFunction)) → Behaves fs codes.codes f code steps_an_instruction
      → ReturnsAlike fs codes.statics f w
  whole-returns fs behaves =
      subst (ReturnsAlike fs codes.statics f) (sym is) (returns-alike fs codes f code (λ e. low.fits codes.statics e)
      (λ e. low.within codes.statics e) behaves (law all there))

  pub whole-given : code.terms ≡ f.terms → is_sound_action f.body ≡ true → codes.statics ≤ 2 ^ 30 + 24
      → HasImmortals codes i → IsGiven codes.statics f w
  whole-given terms words few immortals =
      subst (IsGiven codes.statics f) (sym is)
      (given codes f code terms (λ e. low.fits codes.statics e) formed words few (immortals code there))

  pub whole-alone : (name : Name) → CallsNone w.instrs → IsAlone (one_code codes.statics name w) 0
  whole-alone name none =
      subst (λ (x : Code). IsAlone (one_code codes.statics name x) 0) (sym is)
      (formed.whole (subst (λ (x : Code). CallsNone x.instrs) is none) name)

  pub whole-named : (at : Pos) (g : ℕ) → first_call w.instrs ≡ Some (at, g) → g < length codes.names
  whole-named at g e =
      call-named codes (inlined codes.codes code) all formed.among at g
      (subst (λ (x : Code). first_call x.instrs ≡ Some (at, g)) is e)

  pub whole-sound : {E : Type 0} (r : Result Verdict E) → IfOk r (λ v. IsTrueAlike codes.statics f w v)
      → IfOk r (λ v. (fs : List (Option ResolvedFunction)) → Behaves fs codes.codes f code steps_an_instruction
      → IsTrueOf fs codes.statics f v)
  whole-sound (Ok v) h = λ fs behave. h fs (whole-returns fs behave)
  whole-sound (Err e) h = tt

  pub whole-caused : {E : Type 0} (names : List Name) → names ≡ codes.names → (r : Result Verdict E)
      → IfOk r (λ v. IsDecidedAt names codes.statics w v)
      → IfOk r (λ v. IsDecidedAt codes.names codes.statics (inlined codes.codes code) v)
  whole-caused names same r h =
      subst (λ (x : Code). IfOk r (λ v. IsDecidedAt codes.names codes.statics x v)) is
      (subst (λ (ns : List Name). IfOk r (λ v. IsDecidedAt ns codes.statics w v)) same h)

-- the code with copies, where it is another one, and where it is the code itself
pub matched-some : (o : Option Code) (w : Code) (P : Type 0) (Q : Code → Type 0) → o ≡ Some w → MatchOption o P Q → Q w
matched-some o w P Q e h = subst (λ (x : Option Code). MatchOption x P Q) e h

pub matched-none : (o : Option Code) (P : Type 0) (Q : Code → Type 0) → o ≡ None → MatchOption o P Q → P
matched-none o P Q e h = subst (λ (x : Option Code). MatchOption x P Q) e h
