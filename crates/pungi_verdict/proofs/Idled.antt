-- What is shown of the idle code holds of the code.
use Rattle.std.proofs.Common.{◌≡◌, ◌≤◌, ◌∙◌, ℕ, Option, Some, sym, refl, ap, subst, arith, true}
use Rattle.pungi_base.specs.declared.entry.Entry.{Entry}
use Rattle.pungi_base.specs.declared.names.Name.{Name}
use Rattle.pungi_base.specs.declared.value.Value.{Value}
use Rattle.pungi_base.specs.declared.witness.Witness.{Witness}
use Rattle.pungi_api.specs.Terms.{immortal_count}
use Rattle.pungi_api.specs.declared.terms.Terms.{Terms}
use Rattle.pungi_world.specs.declared.world.World.{World}
use Rattle.pungi_world.specs.Escapes.{IsBalanced, IsLevel, taken_at_entry}
use Rattle.pungi_meaning.specs.Run.{Run}
use Rattle.pungi_code.specs.declared.code.Code.{Code}
use Rattle.pungi_code.specs.declared.code.Codes.{Codes}
use Rattle.pungi_code.specs.Run.{code_at}
use Rattle.pungi_code.specs.WellFormed.{AgreeOnKinds, IsAlone, IsWellFormed}
use Rattle.pungi_explore.specs.Explored.{AreBalanced, HasJudgedForm, IsFaultRun}
use Rattle.pungi_idle.specs.IdleCode.{idle}
use Rattle.pungi_idle.specs.Laws.{IsAlikeIdle, IsFormedIdle}
use Rattle.pungi_idle.specs.RestoredRun.{restored, restored_run}
use Rattle.pungi_inline.specs.Laws.{one_code}
use Rattle.pungi_code.specs.WellFormed.{CallKinds, IsWellFormedAmong, has_statics}
use Rattle.pungi_symbol.specs.Promises.{HasImmortals}
use Rattle.pungi_symbol.specs.runs.JudgedForm.{has_judged_form}
use Rattle.pungi_verdict.proofs.Files.{joined-is, same-some}
use Rattle.pungi_verdict.proofs.Forms.{idle-judged, judged}

-- the idle code can be explored
pub has-form : (callees : ℕ → CallKinds) (codes : Codes) (i : ℕ) (code : Code) → code_at codes i ≡ Some (idle code)
    → IsWellFormedAmong callees code → has_statics codes.statics code ≡ true → HasJudgedForm codes i
has-form callees codes i code is formed there = λ other at.
    subst (λ (x : Code). has_judged_form codes.statics x ≡ true) (same-some (idle code) other (sym is ∙ at))
    (idle-judged codes.statics code (judged callees codes.statics code formed there))

pub has-immortals : (codes : Codes) (i : ℕ) (code : Code) → code_at codes i ≡ Some (idle code)
    → immortal_count code.terms.profile ≤ codes.statics → HasImmortals codes i
has-immortals codes i code is few = λ other at.
    subst (λ (x : Code). immortal_count x.terms.profile ≤ codes.statics)
    (same-some (idle code) other (sym is ∙ at)) few

-- the same references are taken over, so the same are to be had
same-balanced : (terms : Terms) (entry other : Entry) (world : World) (value : Option Value)
    → ((object : ℕ) → taken_at_entry terms entry object ≡ taken_at_entry terms other object)
    → IsBalanced terms other world value → IsBalanced terms entry world value
same-balanced terms entry other world value same balanced = λ object counted there.
    rw (same object) (balanced object counted there)

same-level : (terms : Terms) (entry other : Entry) (world : World) (value : Option Value) (object : ℕ)
    → taken_at_entry terms entry object ≡ taken_at_entry terms other object
    → IsLevel terms entry world value object → IsLevel terms other world value object
same-level terms entry other world value object same level = rw same at level

pub idle-balanced : (n : ℕ) (code : Code) → IsAlikeIdle n code → AreBalanced n (idle code) → AreBalanced n code
idle-balanced n code law balanced = λ entry choices world value r.
    let other = law.all entry r.fits in
    same-balanced code.terms entry other.0 world value other.1.1.taken (balanced other.0 choices world value (record {
      fits = other.1.0;
      steps = r.steps;
      pos = r.pos;
      used = r.used;
      is = sym (ap (λ (x : Run). x.end) (other.1.1.runs choices r.steps)) ∙ r.is;
    }))

restored-fault : (n : ℕ) (code : Code) (w : Witness) → IsAlikeIdle n code → IsFaultRun n (idle code) w
    → IsFaultRun n code (restored_run n code w)
restored-fault n code w law h = record {
  world = h.world;
  value = h.value;
  returns = record {
    fits = law.fits w.input h.returns.fits;
    steps = h.returns.steps;
    pos = h.returns.pos;
    used = h.returns.used;
    is = ap (λ (x : Run). x.end) ((law.runs w.input h.returns.fits).runs w.choices h.returns.steps) ∙ h.returns.is;
  };
  short = h.short;
  all_used = h.all_used;
  object = h.object;
  there = h.there;
  counted = h.counted;
  differs = λ level. h.differs (same-level code.terms (restored n code w.input) w.input h.world h.value h.object
      ((law.runs w.input h.returns.fits).taken h.object) level);
}

pub idle-fault : (n : ℕ) (code : Code) (found w : Witness) → w ≡ restored_run n code found → IsAlikeIdle n code
    → IsFaultRun n (idle code) found → IsFaultRun n code w
idle-fault n code found w is law h = subst (λ (x : Witness). IsFaultRun n code x) (sym is)
    (restored-fault n code found law h)

-- a file with the idle code alone
pub idle-alone : (codes : Codes) (i : ℕ) (code w : Code) → code_at codes i ≡ Some code → w ≡ idle code
    → IsFormedIdle code → IsAlone codes i → (name : Name) → IsAlone (one_code codes.statics name w) 0
idle-alone codes i code w is same law alone name =
    let there = joined-is _ code is in
    subst (λ (x : Code). IsAlone (one_code codes.statics name x) 0) (sym same) (record {
      each = λ a e.
          let its : idle code ≡ a = cc in
          subst (λ (x : Code). IsWellFormed x) its (law (alone.each code there));
      kinds = λ a b e f.
          let its : idle code ≡ a = cc in
          let too : idle code ≡ b = cc in
          subst (λ (x : Code). AgreeOnKinds a x) too
          (subst (λ (x : Code). AgreeOnKinds x (idle code)) its (alone.kinds code code there there));
      there = λ a e.
          let its : idle code ≡ a = cc in
          subst (λ (x : Code). has_statics codes.statics x ≡ true) its (alone.there code there);
      names = refl;
      few = omega arith;
      statics = alone.statics;
    })
