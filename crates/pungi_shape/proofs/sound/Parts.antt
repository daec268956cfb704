-- Cases of one part of an instruction that has several, and the slot of a place.
--   FreesHere i pc n free to    which variable gets any number after part n, if one does
--   case_covers             a case that leads on
--   slots_show, grows_shows    a world in which the tracked slots hold what they should; one in which each slot that
--                           was
--                           touched holds what it held
use Rattle.std.proofs.Common.{◌≡◌, ℕ, ◌+◌, ◌≤◌, ℤ, true, false, cond, Bool, List, [], length, map}
use Rattle.std.proofs.Common.{get_or, sym, ap, ◌∙◌, subst, arith, Option, Some, None}
use Rattle.std.specs.List.{All, IsAmong}
use Rattle.std.proofs.lemmas.List.Elements.{All-weaker}
use Rattle.pungi_base.specs.declared.names.Name.{Name}
use Rattle.pungi_domain.specs.Vectors.{Vector}
use Rattle.pungi_world.specs.declared.content.Content.{Content}
use Rattle.pungi_world.specs.declared.slot.Slot.{Slot}
use Rattle.pungi_world.specs.declared.world.World.{World}
use Rattle.pungi_code.specs.declared.code.Code.{Code}
use Rattle.pungi_code.specs.declared.instr.Instr.{Instr}
use Rattle.pungi_shape.specs.declared.holding.Holding.TheVariants.{Dead, Unset}
use Rattle.pungi_shape.specs.declared.shape.Shape.{Shape}
use Rattle.pungi_shape.specs.declared.tracked.Tracked.{Tracked}
use Rattle.pungi_shape.specs.Shapes.{width_of}
use Rattle.pungi_shape.specs.Parts.{maps, reads}
use Rattle.pungi_shape.specs.Liveness.{is_among, instr_at}
use Rattle.pungi_shape.specs.Scenes.{Scene, scene_of}
use Rattle.pungi_shape.specs.Cases.{Case, Onward, leads_to, are_set}
use Rattle.pungi_shape.specs.Steps.{part_cases, cases}
use Rattle.pungi_shape.specs.Edges.{point_of, free_var}
use Rattle.pungi_shape.specs.Described.{Naming, SlotHoldsSo, slot_named}
use Rattle.pungi_shape.proofs.sound.Views.{View, IsObjectSpot}
use Rattle.pungi_shape.proofs.sound.Shows.{IsScene, Marks, Shows, spot_in}
use Rattle.pungi_shape.proofs.sound.Flow.{AreZero}
use Rattle.pungi_shape.proofs.sound.Stands.{Covers, FreesSo, done_writes}
use Rattle.pungi_shape.proofs.sound.worlds.Places.{found}

abbrev pub FreesHere : Instr → ℕ → ℕ → Option ℕ → Onward → Type 0
FreesHere i pc n None to = Unit {0}
FreesHere i pc n (Some x) to = (x ≡ free_var i) × (n + 1 ≡ maps i) × (to ≡ leads_to (pc + 1))

pub frees_so : (code : Code) (i : Instr) (pc n k : ℕ) (free : Option ℕ) (to : Onward) → instr_at code pc ≡ i
    → FreesHere i pc n free to → FreesSo code (point_of pc n k) free to
frees_so code i pc n k None to at h = tt
frees_so code i pc n k (Some x) to at h = (h.0 ∙ ap free_var (sym at), h.1 ∙ ap maps (sym at), h.2)

pub record Chosen (code : Code) (ks : List ℕ) (i : Instr) (pc n k : ℕ) (s : Shape) (v : Vector) (o : View)
    (to : Onward) : Type 0 where
  pub chosen : Case
  pub names : Naming
  pub is_there : IsAmong (part_cases i pc n k (scene_of s)) chosen
  pub onward : chosen.onward ≡ to
  pub frees : FreesHere i pc n chosen.freed to
  pub guard : AreZero chosen.guard v
  pub width : chosen.scene.width ≡ width_of s
  pub scene : IsScene ks (length code.vars) chosen.scene
  pub deads : (x : ℕ) → get_or chosen.scene.shape.vars x Unset ≡ Dead → (get_or s.vars x Unset ≡ Dead)
      × (is_among (done_writes i n) x ≡ false)
  pub kinds : All (IsObjectSpot code) (map spot_in chosen.scene.shape.slots)
  pub shows : Shows names v chosen.freed chosen.scene o

abbrev pub case_covers : (code : Code) (ks : List ℕ) (i : Instr) (pc n k : ℕ) (s : Shape) (v : Vector) (o : View)
    (to : Onward)
    → instr_at code pc ≡ i → are_set (scene_of s) (reads i n) ≡ true → Chosen code ks i pc n k s v o to
    → Covers code ks (point_of pc n k) s v o to
case_covers code ks i pc n k s v o to at set c = record {
  chosen = c.chosen;
  names = c.names;
  is_there = subst (λ j. IsAmong (cases j pc n k (scene_of s)) c.chosen) (sym at)
      (subst (λ b. IsAmong (cond b (part_cases i pc n k (scene_of s)) []) c.chosen) (sym set) c.is_there);
  onward = c.onward;
  frees = frees_so code i pc n k c.chosen.freed to at c.frees;
  guard = c.guard;
  width = c.width;
  scene = c.scene;
  deads = λ x d. let both = c.deads x d in
      (both.0, subst (λ j. is_among (done_writes j n) x ≡ false) (sym at) both.1);
  kinds = c.kinds;
  shows = c.shows;
}

-- ---- other worlds

-- a world in which the tracked slots hold what the scene says
pub slots_show : (names : Naming) (v : Vector) (free : Option ℕ) (s : Scene) (o : View) (u : World) (d : ℕ → ℤ)
    → Shows names v free s o → All (SlotHoldsSo names u) s.shape.slots → length o.world.accounts ≤ length u.accounts
    → ((k : ℕ) → d k ≡ o.debts k) → (fields : Name → Name → Bool)
    → Marks names s.balances s.shape.made (map spot_in s.shape.slots) u fields
    → Shows names v free s (record o { world = u; debts = d; fields = fields })
slots_show names v free s o u d shows held more same fields marks = record {
  leading = shows.leading;
  vars = shows.vars;
  numbers = shows.numbers;
  returned = shows.returned;
  returned_number = shows.returned_number;
  statics = shows.statics;
  slots = held;
  apart = shows.apart;
  objects = λ t live. let lt = shows.objects t live in omega (arith, lt, more);
  entry = shows.entry;
  entry_alive = shows.entry_alive;
  entry_count = shows.entry_count;
  entry_numbers = shows.entry_numbers;
  balances = λ k. same k ∙ shows.balances k;
  marks = marks;
}

pub slot_stays : (names : Naming) (w u : World) → ((q : Slot) (c : Content) → found w q ≡ Some c → found u q ≡ Some c)
    → (r : Tracked) → SlotHoldsSo names w r → SlotHoldsSo names u r
slot_stays names w u stays r h = (h.0, stays (slot_named names r.spot) h.0 h.1, h.2)

pub grows_shows : (names : Naming) (v : Vector) (free : Option ℕ) (s : Scene) (o : View) (u : World) (d : ℕ → ℤ)
    → Shows names v free s o → ((q : Slot) (c : Content) → found o.world q ≡ Some c → found u q ≡ Some c)
    → length o.world.accounts ≤ length u.accounts → ((k : ℕ) → d k ≡ o.debts k) → (fields : Name → Name → Bool)
    → Marks names s.balances s.shape.made (map spot_in s.shape.slots) u fields
    → Shows names v free s (record o { world = u; debts = d; fields = fields })
grows_shows names v free s o u d shows stays more same fields marks =
    slots_show names v free s o u d shows
    (All-weaker (SlotHoldsSo names o.world) (SlotHoldsSo names u) (slot_stays names o.world u stays) s.shape.slots
    shows.slots) more same fields marks
