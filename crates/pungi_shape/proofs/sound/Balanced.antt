-- Sets that the programs of functions keep, and that are safe, make each run of a function balanced, through all calls.
use Rattle.std.proofs.Common.{◌≡◌, ℕ, [], refl}
use Rattle.std.specs.Prelude.{Some}
use Rattle.pungi_domain.specs.Vectors.{Vectors}
use Rattle.pungi_code.specs.declared.code.Code.{Code}
use Rattle.pungi_code.specs.declared.code.Codes.{Codes}
use Rattle.pungi_code.specs.Run.{code_at, start}
use Rattle.pungi_code.specs.WellFormed.{AreWellFormed}
use Rattle.pungi_shape.specs.Families.{IsKeptBy, AreSafeSets, IsAlwaysBalancedAmong}
use Rattle.pungi_shape.specs.Named.{functions_from, statics_of}
use Rattle.pungi_shape.proofs.sound.CallSteps.{steps_call}
use Rattle.pungi_shape.proofs.sound.Entries.{entry_runs}
use Rattle.pungi_shape.proofs.sound.Frames.{Function, claim_in, flow_in, alone, runs_on}
use Rattle.pungi_shape.proofs.sound.Members.{of_all}
use Rattle.pungi_shape.proofs.sound.Reaches.{from_itself}
use Rattle.pungi_shape.proofs.sound.Safe.{first_origin}
use Rattle.pungi_shape.proofs.sound.Statics.{statics_there}

-- over any sets of vectors at places and exit classes
pub sets_balanced : (codes : Codes) (f : ℕ) (code : Code) (at exits : ℕ → ℕ → Vectors) → AreWellFormed codes
    → code_at codes f ≡ Some code → AreSafeSets codes f at exits → IsAlwaysBalancedAmong codes code
sets_balanced codes f code at exits formed is safe entry choices fuel w v q used fits e =
    let here = from_itself codes f in
    let fn : Function codes f at exits = record {
      number = f;
      code = code;
      is_code = is;
      reached = here;
      kept = safe.own;
    } in
    let origin = first_origin entry in
    let there = statics_there codes f (λ g c reached at_g. formed.there g c at_g) in
    let claim = claim_in codes formed f at exits fn origin in
    runs_on codes formed f at exits steps_call safe code entry choices w v q used fuel [] fn origin 0 (start code entry)
    (alone fn origin safe.safe refl refl (λ k. refl))
    (entry_runs codes.statics code (statics_of codes f) claim fits (λ k. refl) there
    (flow_in codes formed f at exits fn origin)) e
