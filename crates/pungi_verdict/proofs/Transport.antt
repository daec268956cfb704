-- What is shown of the runs of a code holds of the runs of its function.
use Rattle.std.proofs.Common.{◌≡◌, ℕ, suc, ◌+◌, ◌*◌, ◌≤◌, arith, true, List, length, Option, refl, sym, ap, ◌∙◌}
use Rattle.std.proofs.Common.{subst, ⊎_elim}
use Rattle.pungi_base.specs.declared.choice.Choice.{Choice}
use Rattle.pungi_base.specs.declared.pos.Pos.{Pos}
use Rattle.pungi_base.specs.declared.value.Value.{Value}
use Rattle.pungi_base.specs.declared.witness.Witness.{Witness}
use Rattle.pungi_api.specs.declared.terms.Terms.{Terms}
use Rattle.pungi_resolved.specs.Functions.{ResolvedFunction}
use Rattle.pungi_world.specs.declared.world.World.{World}
use Rattle.pungi_world.specs.Escapes.{IsBalanced}
use Rattle.pungi_meaning.specs.Entries.{entry_fits}
use Rattle.pungi_meaning.specs.Run.{Run, End, Returned, run_of}
use Rattle.pungi_code.specs.declared.code.Code.{Code}
use Rattle.pungi_code.specs.Alike.{IsOver}
use Rattle.pungi_code.specs.Alone.{CallsNone}
use Rattle.pungi_code.specs.Run.{start}
use Rattle.pungi_code.specs.WellFormed.{CallKinds, IsWellFormedAmong}
use Rattle.pungi_code.proofs.Longer.{longer_alone, one_end_alone}
use Rattle.pungi_explore.specs.Explored.{AreBalanced, IsFaultRun}
use Rattle.pungi_verdict.specs.Replays.{IsGiven, IsUneven, ReturnsAlike, alone_run}
use Rattle.pungi_verdict.specs.Sound.{IsClean}
use Rattle.pungi_verdict.proofs.Forward.{leads-on, run-over}

pub returned-over : (e : End) (world : World) (value : Option Value) (p : Pos) (used : List Pos)
    → e ≡ Returned world value p used → IsOver e
returned-over e world value p used is = subst IsOver (sym is) tt

-- ---- clean functions

-- each run of the function that returns is one of its code
pub clean : (fs : List (Option ResolvedFunction)) (n : ℕ) (f : ResolvedFunction) (code : Code) → IsGiven n f code
    → CallsNone code.instrs → ReturnsAlike fs n f code → AreBalanced n code → IsClean fs n f
clean fs n f code given none alike balanced = λ entry fits choices steps world value p used e.
    let h = alike.all none entry choices fits steps world value p used e in
    subst (λ (t : Terms). IsBalanced t entry world value) given.terms (balanced entry choices world value (record {
      fits = given.fits entry ∙ fits;
      steps = h.0;
      pos = p;
      used = used;
      is = h.1;
    }))

-- ---- faults

-- the run of a witness is the code's run of so many instructions
enough : (callees : ℕ → CallKinds) (code : Code) (w : Witness) → IsWellFormedAmong callees code → (u : IsUneven code w)
    (n : ℕ) → 16385 ≤ n → alone_run code w.input w.choices n ≡ alone_run code w.input w.choices u.steps
enough callees code w formed u n le =
    let regs = start code w.input in
    let returned : IsOver (alone_run code w.input w.choices u.steps).end = returned-over _
    u.world u.value u.at u.used u.run in
    ⊎_elim
    (λ flat.
    let few = formed.few in
    let long = suc (length code.instrs) in
    let done : IsOver (alone_run code w.input w.choices long).end = run-over code.instrs
    w.choices (leads-on code.heads code.instrs flat formed.back) regs in
    longer_alone w.choices code.instrs long n (omega (arith, few, le)) 0 regs _ done refl
    ∙ one_end_alone w.choices code.instrs long u.steps 0 regs _ _ done returned refl refl)
    (λ short. longer_alone w.choices code.instrs u.steps n (omega (arith, short, le)) 0 regs _ returned refl)
    u.short

-- so it is the function's run of so many steps
pub replayed : (fs : List (Option ResolvedFunction)) (n : ℕ) (f : ResolvedFunction) (code : Code) (w : Witness)
    → entry_fits f.params n w.input ≡ true → ReturnsAlike fs n f code
    → (callees : ℕ → CallKinds) × IsWellFormedAmong callees code → (u : IsUneven code w) (m : ℕ) → 16385 ≤ m
    → (run_of fs f w.input w.choices (65536 * (m + 1))).end ≡ Returned u.world u.value u.at u.used
replayed fs n f code w fits alike formed u m le =
    alike.only w.input w.choices fits m u.world u.value u.at u.used
    (ap (λ (r : Run). r.end) (enough formed.0 code w formed.1 u m le) ∙ u.run)

-- a run by choices that are those of a witness
pub run-so : (fs : List (Option ResolvedFunction)) (f : ResolvedFunction) (w : Witness) (choices : List Choice)
    (fuel : ℕ) (e : End) → choices ≡ w.choices → e ≡ (run_of fs f w.input choices fuel).end
    → e ≡ (run_of fs f w.input w.choices fuel).end
run-so fs f w choices fuel e is run = run ∙ ap (λ (cs : List Choice). (run_of fs f w.input cs fuel).end) is

-- the end of that run
pub ends-so : (fs : List (Option ResolvedFunction)) (n : ℕ) (f : ResolvedFunction) (code : Code) (w : Witness)
    → entry_fits f.params n w.input ≡ true → ReturnsAlike fs n f code
    → (callees : ℕ → CallKinds) × IsWellFormedAmong callees code → (u : IsUneven code w)
    → (choices : List Choice) (e : End) → choices ≡ w.choices → e ≡ (run_of fs f w.input choices (65536 * 65535)).end
    → e ≡ Returned u.world u.value u.at u.used
ends-so fs n f code w fits alike formed u choices e is run =
    run-so fs f w choices (65536 * 65535) e is run ∙ replayed fs n f code w fits alike formed u 65534 (omega arith)

-- ---- what exploring shows

pub uneven-of : (n : ℕ) (code : Code) (w : Witness) → IsFaultRun n code w → IsUneven code w
uneven-of n code w h = record {
  steps = h.returns.steps;
  world = h.world;
  value = h.value;
  at = h.returns.pos;
  used = h.returns.used;
  run = h.returns.is;
  short = h.short;
  all_used = h.all_used;
  off = λ balanced. h.differs (balanced h.object h.counted h.there);
}

pub fits-of : (n : ℕ) (f : ResolvedFunction) (code : Code) (w : Witness) → IsGiven n f code → IsFaultRun n code w
    → entry_fits f.params n w.input ≡ true
fits-of n f code w given h = sym (given.fits w.input) ∙ h.returns.fits
