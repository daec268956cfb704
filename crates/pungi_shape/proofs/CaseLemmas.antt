-- What holds of the cases of a part.
pub use Rattle.pungi_shape.proofs.GoodCases.{IsGoodCase}
use Rattle.std.proofs.Common.{◌≡◌, ℕ, zero, suc, ◌+◌, ◌≤◌, ◌^◌, true, List, [], length, Option, None, Some}
use Rattle.std.proofs.Common.{arith, lit≤}
use Rattle.std.specs.Prelude.{◌&&◌, nat_le}
use Rattle.std.specs.List.{All}
use Rattle.std.proofs.lemmas.Bool.Decides.{nat_tests}
use Rattle.std.proofs.lemmas.List.{length-map}
use Rattle.pungi_api.specs.Signatures.{is_signature}
use Rattle.pungi_api.specs.declared.signature.Signature.{Signature}
use Rattle.pungi_code.specs.declared.atom.Atom.{Atom}
use Rattle.pungi_code.specs.declared.atom.Var.{Var}
use Rattle.pungi_code.specs.declared.code.Code.{Code}
use Rattle.pungi_code.specs.declared.instr.Instr.{Instr}
use Rattle.pungi_code.specs.declared.instr.Instr.TheVariants.{Set, Arith, Fit, Compare, Load, Store, Api, Call}
use Rattle.pungi_code.specs.declared.instr.Instr.TheVariants.{Unset as Forget, Jump, Branch, Return, Fall}
use Rattle.pungi_code.specs.Limits.{most_arguments}
use Rattle.pungi_code.specs.WellFormed.{is_answer, are_arguments}
use Rattle.pungi_shape.specs.declared.holding.Holding.TheVariants.{Dead, Unset}
use Rattle.pungi_shape.specs.Bounds.{IsFresh, IsPlain, IsScene}
use Rattle.pungi_shape.specs.Calls.{outcome_cases}
use Rattle.pungi_shape.specs.Cases.{are_set, leaves, leads, passes_on}
use Rattle.pungi_shape.specs.Forms.{zero_form}
use Rattle.pungi_shape.specs.Parts.{reads}
use Rattle.pungi_shape.specs.Scenes.{Scene, form_of, holding_of, with_var}
use Rattle.pungi_shape.specs.Steps.{after_return, cases, forget_slots, holdings_of, out, part_cases}
use Rattle.pungi_shape.proofs.AfterLemmas.{IsAfter, after-forget, after-forget_slots, after-none}
use Rattle.pungi_shape.proofs.FileCodes.{IsInstrOfFile}
use Rattle.pungi_shape.proofs.FormBounds.{form_of-width, fresh-plain}
use Rattle.pungi_shape.proofs.GoodCalls.{answer_cases-good, outcome_cases-good}
use Rattle.pungi_shape.proofs.GoodCases.{AreGood, arithmetic_cases-good, branch_cases-good, comparison_cases-good}
use Rattle.pungi_shape.proofs.GoodCases.{conversion_cases-good, copy_good, either_good, none_good, one_good, plain}
use Rattle.pungi_shape.proofs.GoodCases.{same_scene, var_good, zero_width}
use Rattle.pungi_shape.proofs.GoodSlots.{find_slot-good, load_cases-good, on_good, store_cases-good, touch_first-good}
use Rattle.pungi_shape.proofs.NumberLemmas.{both_true}
use Rattle.pungi_shape.proofs.TokenLemmas.{holding_of-held}

-- ---- a call has few arguments

le_of : (m n : ℕ) → nat_le m n ≡ true → m ≤ n
le_of m n h = grind (arith, nat_tests)

few_arguments : (code : Code) (x : Option Var) (g : Signature) (as' : List Atom)
    → IsInstrOfFile code (Api x g as') → length as' ≤ most_arguments
few_arguments code x g as' h =
    let a = both_true (is_answer code.vars g x) (are_arguments code.vars g.params as'
    && (nat_le (length as') most_arguments && is_signature g)) h.sound in
    let b = both_true (are_arguments code.vars g.params as')
    (nat_le (length as') most_arguments && is_signature g) a.1 in
    let c = both_true (nat_le (length as') most_arguments) (is_signature g) b.1 in
    le_of (length as') most_arguments c.0

call_good : (g : Signature) (as' : List Atom) (s : Scene) → IsScene s → IsPlain s → length as' ≤ 2 ^ 14
    → AreGood s (outcome_cases g (holdings_of s as') s)
call_good g as' s k fresh few =
    outcome_cases-good g (holdings_of s as') s k fresh (omega (arith, few, length-map as' (holding_of s)))

-- ---- returns

returned : (a : Option Atom) (s : Scene) → IsScene s → IsPlain s → IsAfter 1 s (after_return a s)
returned None s k fresh =
    after-forget 1 Dead (zero_form s.width) s s (after-none s k fresh) tt (zero_width s.width)
returned (Some a) s k fresh =
    after-forget 1 (holding_of s a) (form_of s a) s s (after-none s k fresh) (holding_of-held s a k)
    (form_of-width s a k)

-- ---- all instructions

part_cases-good : (code : Code) (i : Instr) (pc n m : ℕ) (s : Scene) → IsInstrOfFile code i → IsScene s → IsPlain s
    → AreGood s (part_cases i pc n m s)
part_cases-good code (Set x a) pc n m s h k fresh = copy_good x.0 a (pc + 1) s k fresh
part_cases-good code (Arith x kind o a b) pc n m s h k fresh = arithmetic_cases-good x.0 kind o a b (pc + 1) s k fresh
part_cases-good code (Fit x kind a) pc n m s h k fresh = conversion_cases-good x.0 kind a (pc + 1) s k fresh
part_cases-good code (Compare x c a b) pc n m s h k fresh = comparison_cases-good x.0 c a b (pc + 1) s k fresh
part_cases-good code (Load x place) pc zero m s h k fresh = find_slot-good place s k fresh
part_cases-good code (Load x place) pc (suc zero) m s h k fresh = touch_first-good place s k fresh
part_cases-good code (Load x place) pc (suc (suc n)) m s h k fresh = load_cases-good x.0 place (pc + 1) s k fresh
part_cases-good code (Store place a) pc zero m s h k fresh = find_slot-good place s k fresh
part_cases-good code (Store place a) pc (suc zero) m s h k fresh = touch_first-good place s k fresh
part_cases-good code (Store place a) pc (suc (suc n)) m s h k fresh = store_cases-good place a (pc + 1) s k fresh
part_cases-good code (Api x g as') pc zero m s h k fresh =
    call_good g as' s k fresh (few_arguments code x g as' h)
part_cases-good code (Api x g as') pc (suc n) m s h k fresh =
    answer_cases-good m g.answer x as' (pc + 1) s k fresh
part_cases-good code (Call x f as') pc zero m s h k fresh =
    one_good s (passes_on 0 (forget_slots s))
    (on_good 1 s (forget_slots s) (after-forget_slots 1 s s (after-none s k fresh)) (lit≤ tt))
part_cases-good code (Call x f as') pc (suc n) m s h k fresh = none_good s
part_cases-good code (Forget x) pc n m s h k fresh =
    one_good s (leads (pc + 1) (with_var x.0 Unset (zero_form s.width) s))
    (var_good s x.0 (pc + 1) Unset (zero_form s.width) None k fresh tt (zero_width s.width))
part_cases-good code (Jump to) pc n m s h k fresh = same_scene to.0 s k fresh
part_cases-good code (Branch a this other) pc n m s h k fresh = branch_cases-good a this.0 other.0 s k fresh
part_cases-good code (Return a) pc zero m s h k fresh =
    one_good s (passes_on 0 (after_return a s)) (on_good 1 s (after_return a s) (returned a s k fresh) (lit≤ tt))
part_cases-good code (Return a) pc (suc n) m s h k fresh =
    one_good s (out s) (plain 1 s s None leaves (after-none s k fresh) (lit≤ tt))
part_cases-good code Fall pc n m s h k fresh = none_good s

pub cases-plain : (code : Code) (i : Instr) (pc n m : ℕ) (s : Scene) → IsInstrOfFile code i → IsScene s → IsPlain s
    → All (IsGoodCase s) (cases i pc n m s)
cases-plain code i pc n m s h k fresh =
    either_good s (are_set s (reads i n)) (part_cases i pc n m s) [] (part_cases-good code i pc n m s h k fresh)
    (none_good s)

pub cases-good : (code : Code) (i : Instr) (pc n m : ℕ) (s : Scene) → IsInstrOfFile code i → IsScene s → IsFresh s
    → All (IsGoodCase s) (cases i pc n m s)
cases-good code i pc n m s h k fresh = cases-plain code i pc n m s h k (fresh-plain s fresh)
