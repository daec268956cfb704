-- Each instruction that neither calls a function of the file nor returns goes on.
--   stays i                 an instruction is neither
--   AllStep                 each such instruction's run goes on
use Rattle.std.proofs.Common.{◌≡◌, ℕ, Bool, true, false, List}
use Rattle.std.proofs.lemmas.Bool.{false≢true}
use Rattle.pungi_code.specs.declared.code.Code.{Code}
use Rattle.pungi_code.specs.declared.instr.Instr.{Instr}
use Rattle.pungi_code.specs.declared.instr.Instr.TheVariants.{Set, Arith, Fit, Compare, Load, Store, Api, Call, Unset}
use Rattle.pungi_code.specs.declared.instr.Instr.TheVariants.{Jump, Branch, Return, Fall}
use Rattle.pungi_shape.proofs.sound.Flow.{Claim, Flow, IsCode}
use Rattle.pungi_shape.proofs.sound.Stands.{Steps}
use Rattle.pungi_shape.proofs.sound.Simple.{steps_set, steps_unset, steps_jump, steps_fall}
use Rattle.pungi_shape.proofs.sound.Arithmetic.{steps_arith, steps_fit}
use Rattle.pungi_shape.proofs.sound.Comparing.{steps_compare}
use Rattle.pungi_shape.proofs.sound.Branching.{steps_branch}
use Rattle.pungi_shape.proofs.sound.Loads.{steps_load}
use Rattle.pungi_shape.proofs.sound.Stores.{steps_store}
use Rattle.pungi_shape.proofs.sound.ApiCalls.{steps_api}

abbrev pub stays : Instr → Bool
stays (Call x f as') = false
stays (Return a) = false
stays i = true

abbrev pub AllStep : Code → List ℕ → Claim → Type 0
AllStep code ks claim = (i : Instr) → stays i ≡ true → Steps code ks claim i

pub all_step : (code : Code) (ks : List ℕ) (claim : Claim) → IsCode code ks claim → Flow code ks claim
    → AllStep code ks claim
all_step code ks claim is flow (Set x a) e = steps_set code ks claim is flow x a
all_step code ks claim is flow (Arith x kind o a b) e = steps_arith code ks claim is flow x kind o a b
all_step code ks claim is flow (Fit x kind a) e = steps_fit code ks claim is flow x kind a
all_step code ks claim is flow (Compare x c a b) e = steps_compare code ks claim is flow x c a b
all_step code ks claim is flow (Load x place) e = steps_load code ks claim is flow x place
all_step code ks claim is flow (Store place a) e = steps_store code ks claim is flow place a
all_step code ks claim is flow (Api x g as') e = steps_api code ks claim is flow x g as'
all_step code ks claim is flow (Call x f as') e = absurd (false≢true e)
all_step code ks claim is flow (Unset x) e = steps_unset code ks claim is flow x
all_step code ks claim is flow (Jump to) e = steps_jump code ks claim is flow to
all_step code ks claim is flow (Branch a this other) e = steps_branch code ks claim is flow a this other
all_step code ks claim is flow (Return a) e = absurd (false≢true e)
all_step code ks claim is flow Fall e = steps_fall code ks claim
