-- A safe annotation of the program of a code that calls no function of its file makes each of its runs balanced.
use Rattle.std.proofs.Common.{◌≡◌, ℕ, refl, sym, subst, pos}
use Rattle.std.specs.Prelude.{Some, None, slice_get}
use Rattle.pungi_base.specs.declared.entry.Entry.{Entry}
use Rattle.pungi_domain.specs.Annotations.{IsInductive, IsSafe}
use Rattle.pungi_domain.specs.Vectors.{Vector, Vectors}
use Rattle.pungi_domain.specs.declared.affine_program.AffineProgram.{AffineProgram}
use Rattle.pungi_code.specs.declared.code.Code.{Code}
use Rattle.pungi_code.specs.declared.code.Codes.{Codes}
use Rattle.pungi_code.specs.Run.{code_at, start}
use Rattle.pungi_code.specs.WellFormed.{IsAlone, AgreeOnKinds}
use Rattle.pungi_shape.specs.declared.shape.Shape.{Shape}
use Rattle.pungi_shape.specs.Named.{statics_of}
use Rattle.pungi_shape.specs.Programs.{IsProgram}
use Rattle.pungi_shape.specs.Promises.{no_vectors, IsAlwaysBalanced}
use Rattle.pungi_shape.proofs.WellFormedLemmas.{called-itself}
use Rattle.pungi_shape.proofs.sound.Views.{Origin}
use Rattle.pungi_shape.proofs.sound.Entries.{entry_runs}
use Rattle.pungi_shape.proofs.sound.Programs.{Surroundings, IsLeftBy, claim_of, safe_drops, program_flow, program_exits}
use Rattle.pungi_shape.proofs.sound.Statics.{at_number, code_is, statics_there}
use Rattle.pungi_shape.proofs.sound.Whole.{runs_balanced}

abbrev alone : Code → Surroundings
alone code = record { file = λ c. c ≡ code; callees = λ n. None; others = λ g x u. ⊥ }

abbrev pub first_origin : Entry → Origin
first_origin entry = record { entry = entry; debts = λ k. pos 0 }

-- over any sets of vectors at places
pub sets_alone_balanced : (codes : Codes) (f : ℕ) (code : Code) (p : AffineProgram) (at exits : ℕ → Vectors)
    → IsAlone codes f → code_at codes f ≡ Some code → IsProgram codes f p
    → IsInductive p no_vectors at exits → IsSafe p at → IsAlwaysBalanced codes.statics code
sets_alone_balanced codes f code p at exits are is program kept safe entry choices fuel w v q used fits e =
    let ks = statics_of codes f in
    let here = at_number codes f code is in
    let origin = first_origin entry in
    let claim = claim_of codes f program.places at exits (alone code) origin in
    let flow = program_flow codes f code p is program no_vectors at exits kept (safe_drops p at safe) (alone code) told
    origin in
    let is_code = code_is codes f code claim is (are.each code here) refl
    (λ c same. subst (AgreeOnKinds code) (sym same) (are.kinds code code here here)) in
    let there = statics_there codes f
    (λ g c reached at_g. are.there c (subst (λ h. slice_get codes.codes h ≡ Some (Some c))
    (called-itself codes f g are reached) at_g)) in
    runs_balanced choices w v q used code ks claim is_code flow
    (program_exits codes f code p is program no_vectors at exits kept safe (alone code) told origin) (λ k. refl) fuel 0
    (start code entry) (entry_runs codes.statics code ks claim fits (λ k. refl) there flow) e
  where
    told : (g : ℕ) (x : Shape) (u : Vector) → ⊥ → IsLeftBy codes no_vectors g x u
    told g x u none = absurd none
