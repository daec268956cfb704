-- A call first forgets the tracked slots, and which objects were made.
use Rattle.std.proofs.Common.{◌≡◌, ℕ, List, [], ◌∷◌, length, map, get_or, Bool, false, refl, sym, ap, ◌∙◌}
use Rattle.std.proofs.Common.{arith, zero, suc, Option, subst, ◌≤◌}
use Rattle.std.specs.Prelude.{◌&&◌}
use Rattle.std.specs.List.{All}
use Rattle.std.proofs.lemmas.Bool.{false≢true}
use Rattle.std.proofs.lemmas.List.{length-map}
use Rattle.std.proofs.lemmas.List.Elements.{All-nil}
use Rattle.pungi_domain.specs.Vectors.{Vector}
use Rattle.pungi_world.specs.declared.world.World.{World}
use Rattle.pungi_code.specs.declared.code.Code.{Code}
use Rattle.pungi_shape.specs.declared.point.Point.{Point}
use Rattle.pungi_shape.specs.Shapes.{tokens_of}
use Rattle.pungi_shape.specs.Scenes.{Scene, is_made}
use Rattle.pungi_shape.specs.Arrivals.{anchors, holds_token, kept_shape, arrive}
use Rattle.pungi_shape.specs.Steps.{forget_slots}
use Rattle.pungi_shape.specs.Described.{Naming, SlotHoldsSo}
use Rattle.pungi_shape.proofs.sound.Views.{View}
use Rattle.pungi_shape.proofs.sound.Shows.{IsScene, Shows, IsLiveIn, IsBaseIn, is_no_content, spot_in}
use Rattle.pungi_shape.proofs.sound.Renames.{get_map}
use Rattle.pungi_shape.proofs.sound.Marks.{unmarked}
use Rattle.pungi_shape.proofs.sound.SceneWords.{with_world}

unmade : (ms : List Bool) (t : ℕ) → get_or (map (λ (b : Bool). false) ms) t false ≡ false
unmade ms t = get_map (λ (b : Bool). false) ms t false

pub forget_slots_scene : (ks : List ℕ) (n : ℕ) (s : Scene) → IsScene ks n s → IsScene ks n (forget_slots s)
forget_slots_scene ks n s is = record {
  wide = is.wide;
  vars = is.vars;
  forms = is.forms;
  widths = is.widths;
  returned_width = is.returned_width;
  entry_forms = is.entry_forms;
  entry_widths = is.entry_widths;
  balances = is.balances ∙ sym (length-map s.shape.made (λ (b : Bool). false));
  balance_widths = is.balance_widths;
  entry_live = is.entry_live;
  vars_live = is.vars_live;
  statics_live = is.statics_live;
  returned_live = is.returned_live;
  slots_live = All-nil (IsLiveIn s.balances);
  bases = All-nil (IsBaseIn (length (forget_slots s).shape.made));
  no_numbers = All-nil (λ k. is_no_content k ≡ false);
  static_keys = is.static_keys;
  static_tokens = is.static_tokens;
}

pub forget_slots_shows : (names : Naming) (v : Vector) (free : Option ℕ) (s : Scene) (o : View)
    → Shows names v free s o → Shows names v free (forget_slots s) o
forget_slots_shows names v free s o shows = record {
  leading = shows.leading;
  vars = shows.vars;
  numbers = shows.numbers;
  returned = shows.returned;
  returned_number = shows.returned_number;
  statics = shows.statics;
  slots = All-nil (SlotHoldsSo names o.world);
  apart = λ i j d lt in_j. absurd (omega (arith, in_j));
  objects = shows.objects;
  entry = shows.entry;
  entry_alive = shows.entry_alive;
  entry_count = shows.entry_count;
  entry_numbers = shows.entry_numbers;
  balances = shows.balances;
  marks = unmarked names s.balances (forget_slots s).shape.made [] o.world o.fields
      (λ t e. false≢true (sym (unmade s.shape.made t) ∙ e));
}

-- what is shown without slots and marks is shown in another world as well
pub other_world : (names : Naming) (v : Vector) (free : Option ℕ) (s : Scene) (o : View) (u : World)
    → s.shape.slots ≡ [] → ((t : ℕ) → get_or s.shape.made t false ≡ false)
    → length o.world.accounts ≤ length u.accounts → Shows names v free s o → Shows names v free s (with_world u o)
other_world names v free s o u none unmarked_all more shows = record {
  leading = shows.leading;
  vars = shows.vars;
  numbers = shows.numbers;
  returned = shows.returned;
  returned_number = shows.returned_number;
  statics = shows.statics;
  slots = subst (All (SlotHoldsSo names u)) (sym none) (All-nil (SlotHoldsSo names u));
  apart = shows.apart;
  objects = λ t live. let lt = shows.objects t live in omega (arith, lt, more);
  entry = shows.entry;
  entry_alive = shows.entry_alive;
  entry_count = shows.entry_count;
  entry_numbers = shows.entry_numbers;
  balances = shows.balances;
  marks = unmarked names s.balances s.shape.made (map spot_in s.shape.slots) u o.fields
      (λ t e. false≢true (sym (unmarked_all t) ∙ e));
}

-- ---- what a call knows of its shape afterwards

none_marked : (f : ℕ → Bool) (ts : List ℕ) (t : ℕ) → ((u : ℕ) → f u ≡ false) → get_or (map f ts) t false ≡ false
none_marked f [] t none = refl
none_marked f (u ∷ ts) zero none = none u
none_marked f (u ∷ ts) (suc t) none = none_marked f ts t none

pub forgotten_marks : (code : Code) (p : Point) (s : Scene) (t : ℕ)
    → get_or (arrive code p (forget_slots s)).shape.made t false ≡ false
forgotten_marks code p s t =
    let kept = kept_shape code p (forget_slots s) in
    none_marked (λ u. is_made kept u && holds_token (anchors kept) u) (tokens_of kept) t
    (λ u. ap (λ b. b && holds_token (anchors kept) u) (unmade s.shape.made u))

pub forgotten_slots : (code : Code) (p : Point) (s : Scene) → (arrive code p (forget_slots s)).shape.slots ≡ []
forgotten_slots code p s = refl
