-- A code that calls no function of its file runs alone, and is well-formed alone.
use Rattle.std.proofs.Common.{◌≡◌, ℕ, zero, suc, true, List, [], Option, Some, None, refl, sym, ap, ◌∙◌}
use Rattle.std.proofs.Math.Path.{fun_ext}
use Rattle.std.specs.Prelude.{slice_get}
use Rattle.pungi_base.specs.declared.choice.Choice.{Choice}
use Rattle.pungi_code.specs.declared.code.Code.{Code}
use Rattle.pungi_code.specs.declared.code.Codes.{Codes}
use Rattle.pungi_code.specs.declared.code.Line.{Line}
use Rattle.pungi_code.specs.declared.instr.Instr.{Instr}
use Rattle.pungi_code.specs.declared.instr.Instr.TheVariants.{Set, Arith, Fit, Compare, Load, Store, Api, Call, Unset}
use Rattle.pungi_code.specs.declared.instr.Instr.TheVariants.{Jump, Branch, Return, Fall}
use Rattle.pungi_code.specs.Frames.{flatten, Rest}
use Rattle.pungi_code.specs.Perform.{perform}
use Rattle.pungi_code.specs.Registers.{Regs, Next}
use Rattle.pungi_code.specs.Run.{among, perform_in, fetch_in, fetch, exec, execute}
use Rattle.pungi_code.specs.WellFormed.{CallKinds, IsWellFormed, IsWellFormedAmong, is_sound, is_sound_among, kinds_of}
use Rattle.pungi_code.specs.Alone.{calls_none, CallsNone, RunsAlone, StandsAlone}

-- ---- runs

performs_alone : (codes : List (Option Code)) (choices : List Choice) (go : Rest) (code : List Line) (i : Instr)
    → calls_none i ≡ true → (next : Next) → go [] code ≡ next → perform_in (among codes choices []) go code i
    ≡ (λ p. perform choices i p next)
performs_alone codes choices go code (Call x f as') none next e = absurd (cc)
performs_alone codes choices go code (Return None) none next e = refl
performs_alone codes choices go code (Return (Some v)) none next e = refl
performs_alone codes choices go code (Set x b) none next e =
    ap (λ f. λ p. perform choices (Set x b) p f) e
performs_alone codes choices go code (Arith x kind op b c) none next e =
    ap (λ f. λ p. perform choices (Arith x kind op b c) p f) e
performs_alone codes choices go code (Fit x kind b) none next e =
    ap (λ f. λ p. perform choices (Fit x kind b) p f) e
performs_alone codes choices go code (Compare x c b d) none next e =
    ap (λ f. λ p. perform choices (Compare x c b d) p f) e
performs_alone codes choices go code (Load x place) none next e =
    ap (λ f. λ p. perform choices (Load x place) p f) e
performs_alone codes choices go code (Store place b) none next e =
    ap (λ f. λ p. perform choices (Store place b) p f) e
performs_alone codes choices go code (Api x s as') none next e =
    ap (λ f. λ p. perform choices (Api x s as') p f) e
performs_alone codes choices go code (Unset x) none next e =
    ap (λ f. λ p. perform choices (Unset x) p f) e
performs_alone codes choices go code (Jump to) none next e =
    ap (λ f. λ p. perform choices (Jump to) p f) e
performs_alone codes choices go code (Branch b this other) none next e =
    ap (λ f. λ p. perform choices (Branch b this other) p f) e
performs_alone codes choices go code Fall none next e =
    ap (λ f. λ p. perform choices Fall p f) e

module _ (codes : List (Option Code)) (code : List Line) (none : CallsNone code) (choices : List Choice) where
  fetches_alone : (fuel pc : ℕ) (m : Regs) (l : Option Line) → slice_get code pc ≡ l
      → execute codes choices fuel [] code ≡ exec choices code fuel
      → execute codes choices (suc fuel) [] code pc m ≡ exec choices code (suc fuel) pc m
  fetches_alone fuel pc m None at next =
      ap (λ l. fetch_in (among codes choices []) (execute codes choices fuel) code l pc m) at
      ∙ sym (ap (λ l. fetch choices l (exec choices code fuel) pc m) at)
  fetches_alone fuel pc m (Some line) at next =
      ap (λ l. fetch_in (among codes choices []) (execute codes choices fuel) code l pc m) at
      ∙ ap (λ f. f line.pos pc m) (performs_alone codes choices (execute codes choices fuel) code line.instr
      (none pc line at) (exec choices code fuel) next)
      ∙ sym (ap (λ l. fetch choices l (exec choices code fuel) pc m) at)

  runs_so : (fuel pc : ℕ) (m : Regs) → execute codes choices fuel [] code pc m ≡ exec choices code fuel pc m
  runs_so zero pc m = refl
  runs_so (suc fuel) pc m =
      fetches_alone fuel pc m (slice_get code pc) refl
      (fun_ext (λ place. fun_ext (λ r. runs_so fuel place r)))

pub runs_alone : (codes : List (Option Code)) (code : List Line) → RunsAlone codes code
runs_alone codes code none choices fuel pc m = runs_so codes code none choices fuel pc m

-- ---- well-formed codes

sound_alone : (callees : ℕ → CallKinds) (code : Code) (i : Instr) → calls_none i ≡ true
    → is_sound_among callees code i ≡ is_sound code i
sound_alone callees code (Call x f as') none = absurd (cc)
sound_alone callees code (Return None) none = refl
sound_alone callees code (Return (Some v)) none = refl
sound_alone callees code (Set x b) none = refl
sound_alone callees code (Arith x kind op b c) none = refl
sound_alone callees code (Fit x kind b) none = refl
sound_alone callees code (Compare x c b d) none = refl
sound_alone callees code (Load x place) none = refl
sound_alone callees code (Store place b) none = refl
sound_alone callees code (Api x s as') none = refl
sound_alone callees code (Unset x) none = refl
sound_alone callees code (Jump to) none = refl
sound_alone callees code (Branch b this other) none = refl
sound_alone callees code Fall none = refl

pub well_formed_alone : (callees : ℕ → CallKinds) (code : Code) → CallsNone code.instrs
    → IsWellFormedAmong callees code → IsWellFormed code
well_formed_alone callees code none h = record {
  params = h.params;
  among = h.among;
  locals = h.locals;
  vars = h.vars;
  few = h.few;
  kinds = h.kinds;
  sound = λ place line at. sym (sound_alone callees code line.instr (none place line at)) ∙ h.sound place line at;
  last = h.last;
  back = h.back;
}

pub stands_alone : (codes : Codes) (f : ℕ) → StandsAlone codes f
stands_alone codes f h none = record {
  each = λ code at. well_formed_alone (kinds_of codes) code (none code (ap flatten at)) (h.each f code at);
  kinds = λ a b at_a at_b. h.kinds f f a b at_a at_b;
  there = λ code at. h.there f code at;
  names = h.names;
  few = h.few;
  statics = h.statics;
}
