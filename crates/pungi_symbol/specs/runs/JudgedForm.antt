-- The judged form of a code: its parameters and the slots that it loads and stores are of kinds that slots are of, each
-- call of the API has a row whose outcomes are told apart, and the static objects that it names are there. A call of a
-- function of its file ends a run, as it does where a code runs alone.
--   is_judged_instr i           an instruction of the judged form
--   has_judged_form n code      a code of the judged form, where there are n static objects
use Rattle.std.specs.Prelude.{ℕ, Bool, true, ◌&&◌, take}
use Rattle.std.specs.List.{list_all}
use Rattle.pungi_api.specs.Signatures.{has_outcomes}
use Rattle.pungi_code.specs.declared.code.Code.{Code}
use Rattle.pungi_code.specs.declared.instr.Instr.{Instr}
use Rattle.pungi_code.specs.declared.instr.Instr.TheVariants.{Load, Store, Api}
use Rattle.pungi_code.specs.WellFormed.{has_statics, is_slot_kind, place_kind}

abbrev pub is_judged_instr : Instr → Bool
is_judged_instr (Load x place) = is_slot_kind (place_kind place)
is_judged_instr (Store place a) = is_slot_kind (place_kind place)
is_judged_instr (Api x g as') = has_outcomes g.own g.answer
is_judged_instr i = true

abbrev pub has_judged_form : ℕ → Code → Bool
has_judged_form n code =
    list_all is_slot_kind (take code.params code.vars)
    && (list_all (λ line. is_judged_instr line.instr) code.instrs && has_statics n code)
