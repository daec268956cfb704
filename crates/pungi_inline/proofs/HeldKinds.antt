-- The variables of a code with copies hold objects, texts and numbers, as those of the codes of its file do.
use Rattle.std.proofs.Common.{◌≡◌, true, List, [], ◌∷◌, ◌++◌, Option, Some, None, refl, ◌∙◌}
use Rattle.std.specs.List.{list_all}
use Rattle.std.proofs.lemmas.Bool.{and_from}
use Rattle.std.proofs.lemmas.List.Folds.{list_all-append}
use Rattle.pungi_api.specs.declared.param.Param.{Param}
use Rattle.pungi_code.specs.declared.code.Codes.{Codes}
use Rattle.pungi_code.specs.declared.code.Line.{Line}
use Rattle.pungi_code.specs.WellFormed.{AreWellFormed, is_slot_kind}
use Rattle.pungi_inline.specs.Inlined.{site_kinds, all_kinds}
use Rattle.pungi_inline.specs.Sites.{Site, result_kind, site_at}
use Rattle.pungi_inline.proofs.CalledCodes.{called, formed_call}

-- of two lists of kinds, one after the other
pub held_append : (a b : List Param) → list_all is_slot_kind a ≡ true → list_all is_slot_kind b ≡ true
    → list_all is_slot_kind (a ++ b) ≡ true
held_append a b h k =
    list_all-append is_slot_kind a b ∙ and_from (list_all is_slot_kind a) (list_all is_slot_kind b) h k

-- what is added for a call
site_held : (codes : Codes) → AreWellFormed codes → (l : Line) (o : Option Site) → site_at codes.codes l ≡ o
    → list_all is_slot_kind (site_kinds o) ≡ true
site_held codes formed l None e = refl
site_held codes formed l (Some s) e =
    let f = formed_call codes formed l.instr s (called codes.codes l.instr s e) in
    held_append s.code.vars (result_kind s.code.result ∷ []) f.own.kinds
    (and_from (is_slot_kind (result_kind s.code.result)) true f.result refl)

pub all_held : (codes : Codes) → AreWellFormed codes → (ls : List Line)
    → list_all is_slot_kind (all_kinds codes.codes ls) ≡ true
all_held codes formed [] = refl
all_held codes formed (l ∷ ls) =
    held_append (site_kinds (site_at codes.codes l)) (all_kinds codes.codes ls)
    (site_held codes formed l (site_at codes.codes l) refl) (all_held codes formed ls)
