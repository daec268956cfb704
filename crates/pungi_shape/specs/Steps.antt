-- What each part of an instruction does.
--   forget h f s, after_return o s    a function returns: only the values at entry, the static objects and the returned
--                           value are kept
--   forget_slots s          a function of the file is called: no slot is tracked any more, and no object is known to
--                           be made in this run
--   out s                   the case that leaves the function
--   slot_cases place n s    the cases of the first two parts of a load or a store
--   holdings_of s as        what atoms are
--   part_cases i pc n k s   the cases of part n of an instruction at a place, inside a call after this outcome. What a
--                           function of the file does isn't among them
--   cases i pc n k s        so it is where all that is read is set; to read what is unset stops
use Rattle.std.specs.Prelude.{false}
use Rattle.std.specs.Prelude.{ℕ, zero, suc, ◌+◌, List, [], ◌∷◌, map, Option, Some, None, if◌then◌else◌}
use Rattle.pungi_code.specs.declared.atom.Atom.{Atom}
use Rattle.pungi_code.specs.declared.instr.Instr.{Instr}
use Rattle.pungi_code.specs.declared.instr.Instr.TheVariants.{Set, Arith, Fit, Compare, Load, Store, Api, Call}
use Rattle.pungi_code.specs.declared.instr.Instr.TheVariants.{Unset as Forget, Jump, Branch, Return, Fall}
use Rattle.pungi_code.specs.declared.place.Place.{Place}
use Rattle.pungi_shape.specs.declared.holding.Holding.{Holding}
use Rattle.pungi_shape.specs.declared.holding.Holding.TheVariants.{Dead, Unset}
use Rattle.pungi_shape.specs.Forms.{Form, zero_form}
use Rattle.pungi_shape.specs.Parts.{reads}
use Rattle.pungi_shape.specs.Scenes.{Scene, holding_of, form_of, with_var}
use Rattle.pungi_shape.specs.Cases.{Case, leaves, passes_on, leads, are_set}
use Rattle.pungi_shape.specs.Numbers.{arithmetic_cases, conversion_cases}
use Rattle.pungi_shape.specs.Comparisons.{comparison_cases, branch_cases}
use Rattle.pungi_shape.specs.Slots.{find_slot, touch_first, load_cases, store_cases}
use Rattle.pungi_shape.specs.Calls.{outcome_cases, answer_cases}

abbrev pub forget : Holding → Form → Scene → Scene
forget h f s =
    record s {
      shape = record s.shape { vars = map (λ _. Unset) s.shape.vars; returned = h; slots = [] };
      returned = f;
    }

abbrev pub after_return : Option Atom → Scene → Scene
after_return None s = forget Dead (zero_form s.width) s
after_return (Some a) s = forget (holding_of s a) (form_of s a) s

abbrev pub forget_slots : Scene → Scene
forget_slots s =
    record s { shape = record s.shape { slots = []; made = map (λ _. false) s.shape.made } }

abbrev pub out : Scene → Case
out s = record { guard = []; scene = s; freed = None; onward = leaves }

abbrev pub slot_cases : Place → ℕ → Scene → List Case
slot_cases place zero s = map (passes_on 0) (find_slot place s)
slot_cases place (suc n) s = map (passes_on 0) (touch_first place s)

abbrev pub holdings_of : Scene → List Atom → List Holding
holdings_of s as' = map (holding_of s) as'

abbrev pub part_cases : Instr → ℕ → ℕ → ℕ → Scene → List Case
part_cases (Set x a) pc n k s = leads (pc + 1) (with_var x.0 (holding_of s a) (form_of s a) s) ∷ []
part_cases (Arith x kind o a b) pc n k s = arithmetic_cases x.0 kind o a b (pc + 1) s
part_cases (Fit x kind a) pc n k s = conversion_cases x.0 kind a (pc + 1) s
part_cases (Compare x c a b) pc n k s = comparison_cases x.0 c a b (pc + 1) s
part_cases (Load x place) pc zero k s = slot_cases place 0 s
part_cases (Load x place) pc (suc zero) k s = slot_cases place 1 s
part_cases (Load x place) pc (suc (suc n)) k s = load_cases x.0 place (pc + 1) s
part_cases (Store place a) pc zero k s = slot_cases place 0 s
part_cases (Store place a) pc (suc zero) k s = slot_cases place 1 s
part_cases (Store place a) pc (suc (suc n)) k s = store_cases place a (pc + 1) s
part_cases (Api x g as') pc zero k s = outcome_cases g (holdings_of s as') s
part_cases (Api x g as') pc (suc n) k s = answer_cases k g.answer x as' (pc + 1) s
part_cases (Call x f as') pc zero k s = passes_on 0 (forget_slots s) ∷ []
part_cases (Call x f as') pc (suc n) k s = []
part_cases (Forget x) pc n k s = leads (pc + 1) (with_var x.0 Unset (zero_form s.width) s) ∷ []
part_cases (Jump to) pc n k s = leads to.0 s ∷ []
part_cases (Branch a this other) pc n k s = branch_cases a this.0 other.0 s
part_cases (Return a) pc zero k s = passes_on 0 (after_return a s) ∷ []
part_cases (Return a) pc (suc n) k s = out s ∷ []
part_cases Fall pc n k s = []

abbrev pub cases : Instr → ℕ → ℕ → ℕ → Scene → List Case
cases i pc n k s = if are_set s (reads i n) then part_cases i pc n k s else []
