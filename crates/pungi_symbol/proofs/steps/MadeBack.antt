-- What values of the tokens say of objects that were made, after an answer and so before it.
use Rattle.std.proofs.Common.{Bool, true, false, Option, None, Some, cond}
use Rattle.std.specs.Prelude.{◌||◌}
use Rattle.std.specs.declared.cmp.Ordering.{Ordering}
use Rattle.pungi_base.specs.declared.pos.Pos.{Pos}
use Rattle.pungi_code.specs.declared.atom.Var.{Var}
use Rattle.pungi_code.specs.declared.code.Line.{Line}
use Rattle.pungi_code.specs.declared.instr.Instr.{Instr}
use Rattle.pungi_code.specs.declared.instr.Instr.TheVariants.{Set, Arith, Fit, Compare, Load, Store, Api, Call}
use Rattle.pungi_code.specs.declared.instr.Instr.TheVariants.{Unset as Forget, Jump, Branch, Return, Fall}
use Rattle.pungi_symbol.specs.declared.questions.found_slot.Finding.{Finding}
use Rattle.pungi_symbol.specs.declared.questions.found_slot.Finding.TheVariants.{Waits, At, OfMade, Nowhere}
use Rattle.pungi_symbol.specs.declared.states.known.Known.{Known}
use Rattle.pungi_symbol.specs.declared.states.known.Status.TheVariants as status
use Rattle.pungi_symbol.specs.declared.states.mark.Mark.{Mark}
use Rattle.pungi_symbol.specs.declared.states.spot.Spot.{Spot}
use Rattle.pungi_symbol.specs.declared.states.sum.Sum.{Sum}
use Rattle.pungi_symbol.specs.declared.states.term.Term.{Term}
use Rattle.pungi_symbol.specs.declared.states.term.Term.TheVariants.{Token}
use Rattle.pungi_symbol.specs.states.Terms.{Table, is_computed}
use Rattle.pungi_symbol.specs.states.Known.{count, term_of, find, spot_of}
use Rattle.pungi_symbol.specs.states.NumberPlaces.{with_compared}
use Rattle.pungi_symbol.specs.questions.NextQuestion.{first_term, terms_of}
use Rattle.pungi_symbol.specs.answers.KnownAfter.{go_on, put_answer, answer_of_call, made_slot, store_found}
use Rattle.pungi_symbol.specs.answers.KnownAfter.{touched_slot}
use Rattle.pungi_symbol.specs.answers.KnownAfter.{does, perform_line, load_first, store_first, ordered, computed}
use Rattle.pungi_symbol.specs.answers.KnownAfter.{turned}
use Rattle.pungi_symbol.specs.answers.KnownAfter.{with_comparison}
use Rattle.pungi_symbol.specs.runs.Fits.{AreNew}
use Rattle.pungi_symbol.proofs.answers.Made.{slot_back, stored_back}

module _ (table : Table) where
  abbrev pub NewIn : Known → Type 0
  NewIn k = AreNew table k.made k.slots

  pub answered_new : (k : Known) (x : Option Var) (o : Option Term) → NewIn (go_on (put_answer x o k)) → NewIn k
  answered_new k None o h = h
  answered_new k (Some x) None h = h
  answered_new k (Some x) (Some c) h = h

  found_new : (k : Known) (f : Finding) (spot : Spot) (c : Term) → NewIn (go_on (store_found f spot c k)) → NewIn k
  found_new k (Waits q) spot c h = h
  found_new k (At i) spot c h = stored_back table k.made k.slots i c h
  found_new k OfMade spot c h = slot_back table k.made k.slots (made_slot spot c) h
  found_new k Nowhere spot c h = h

  does_new : (k : Known) (i : Instr) → NewIn (does k i) → NewIn k
  does_new k (Set x a) h = h
  does_new k (Arith x kind o a b) h = h
  does_new k (Fit x kind a) h = h
  does_new k (Compare x c a b) h = h
  does_new k (Load x place) h = h
  does_new k (Store place a) h = found_new k (find k place) (spot_of k place) (term_of k a) h
  does_new k (Api x g as') h = answered_new k x (answer_of_call g.answer (first_term (terms_of k as'))) h
  does_new k (Call x f as') h = h
  does_new k (Forget x) h = h
  does_new k (Jump to) h = h
  does_new k (Branch a this other) h = h
  does_new k (Return o) h = h
  does_new k Fall h = h

  pub line_new : (k : Known) (o : Option Line) → NewIn (perform_line o (λ i. does k i) k) → NewIn k
  line_new k None h = h
  line_new k (Some line) h = does_new k line.instr h

  pub load_new : (i : Instr) (r : Mark) (k : Known) → NewIn (load_first i r k) → NewIn k
  load_new (Load x place) r k h =
      slot_back table k.made k.slots (touched_slot k (spot_of k place) (Token (count k))) h
  load_new (Set x a) r k h = h
  load_new (Arith x kind o a b) r k h = h
  load_new (Fit x kind a) r k h = h
  load_new (Compare x c a b) r k h = h
  load_new (Store place a) r k h = h
  load_new (Api x g as') r k h = h
  load_new (Call x f as') r k h = h
  load_new (Forget x) r k h = h
  load_new (Jump to) r k h = h
  load_new (Branch a this other) r k h = h
  load_new (Return o) r k h = h
  load_new Fall r k h = h

  pub store_new : (i : Instr) (r : Mark) (k : Known) → NewIn (store_first i r k) → NewIn k
  store_new (Store place a) r k h = slot_back table k.made k.slots (touched_slot k (spot_of k place) (term_of k a)) h
  store_new (Set x a) r k h = h
  store_new (Arith x kind o a b) r k h = h
  store_new (Fit x kind a) r k h = h
  store_new (Compare x c a b) r k h = h
  store_new (Load x place) r k h = h
  store_new (Api x g as') r k h = h
  store_new (Call x f as') r k h = h
  store_new (Forget x) r k h = h
  store_new (Jump to) r k h = h
  store_new (Branch a this other) r k h = h
  store_new (Return o) r k h = h
  store_new Fall r k h = h

  pub ordered_new : (i : Instr) (o : Ordering) (k : Known) → NewIn (ordered i o k) → NewIn k
  ordered_new (Compare x c a b) o k h = h
  ordered_new (Branch a this other) o k h = h
  ordered_new (Set x a) o k h = h
  ordered_new (Arith x kind p a b) o k h = h
  ordered_new (Fit x kind a) o k h = h
  ordered_new (Load x place) o k h = h
  ordered_new (Store place a) o k h = h
  ordered_new (Api x g as') o k h = h
  ordered_new (Call x f as') o k h = h
  ordered_new (Forget x) o k h = h
  ordered_new (Jump to) o k h = h
  ordered_new (Return a) o k h = h
  ordered_new Fall o k h = h

  pub compared_new : (p : Pos) (a b : Sum) (k : Known) → NewIn (with_comparison p a b k) → NewIn k
  compared_new p a b k h = by (is_computed a.node || is_computed b.node) h
    where
      by : (t : Bool) → NewIn (cond t (record k { places = with_compared k.places p }) k) → NewIn k
      by true h = h
      by false h = h

  computed_new : (i : Instr) (a : Sum) (k : Known) → NewIn (computed i a k) → NewIn k
  computed_new (Arith x kind p b c) a k h = h
  computed_new (Fit x kind b) a k h = h
  computed_new (Compare x c b d) a k h = h
  computed_new (Branch b this other) a k h = h
  computed_new (Set x b) a k h = h
  computed_new (Load x place) a k h = h
  computed_new (Store place b) a k h = h
  computed_new (Api x g as') a k h = h
  computed_new (Call x f as') a k h = h
  computed_new (Forget x) a k h = h
  computed_new (Jump to) a k h = h
  computed_new (Return b) a k h = h
  computed_new Fall a k h = h

  pub ranged_new : (i : Instr) (a : Sum) (p : Pos) (b : Bool) (k : Known)
      → NewIn (cond b (computed i a k) (record k { status = status.Stopped p })) → NewIn k
  ranged_new i a p true k h = computed_new i a k h
  ranged_new i a p false k h = h

  pub turned_new : (o : Option Pos) (k : Known) → NewIn (turned o k) → NewIn k
  turned_new None k h = h
  turned_new (Some p) k h = h
