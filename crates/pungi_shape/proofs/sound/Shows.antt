-- When a scene over the coordinates of a vector shows what a run holds.
--   HasWidth, HasWidthIf w  a form over w coordinates; so it is, if there is one
--   IsLive bs t, IsLiveIn bs h    a token has a balance; the token that is held, if one is, has
--   IsTokenHeld h           a token is held
--   is_no_pointer h         what is held is neither NULL nor a text nor an object
--   is_no_content h         nor is it unset
--   spot_in r               the slot that is tracked
--   IsBaseIn n p            the token of a field's object is one of n
--   IsScene ks n s          a scene is well-formed: of a code with n variables, which names the static objects ks
--   share, total_from, total names bs v o    the balance of a token, if it stands for an object; the sum of those of
--                           tokens from t on; of all tokens
--   AreApart names p q      two tracked slots are different slots of the world
--   IsOther free x          x isn't the variable whose number isn't known yet
--   Marks names bs ms ps w fields    what the marks of made objects say, where these slots are tracked: each marked
--                          token
--                           is an object that was made; it is another than that of each other marked token, and than
--                           the base of each tracked slot, if that is another token; and its touched slots of objects
--                           are tracked
--   stands_for names h k    the token that is held, if one is, stands for an object
--   argument e x            what a parameter holds at an entry
--   Shows names v free s o  a scene at a vector shows what a run holds, where tokens stand for these objects
use Rattle.std.specs.Prelude.{◌≡◌, ◌≢◌, ℕ, suc, ◌==◌, ◌<◌, ℤ, pos, ◌+ℤ◌, Bool, true, false, List, [], ◌∷◌}
use Rattle.std.specs.Prelude.{length, map, get_or, Option, Some, None, if◌then◌else◌}
use Rattle.std.specs.List.{All, AllPairs, IsAmong}
use Rattle.pungi_base.specs.declared.entry.Entry.{Entry}
use Rattle.pungi_base.specs.declared.names.Name.{Name}
use Rattle.pungi_base.specs.declared.value.Value.TheVariants as value
use Rattle.pungi_domain.specs.Vectors.{Vector, dot}
use Rattle.pungi_world.specs.declared.content.Content.{Content}
use Rattle.pungi_world.specs.declared.content.Content.TheVariants as content
use Rattle.pungi_world.specs.declared.slot.Slot.TheVariants as slots
use Rattle.pungi_world.specs.declared.world.World.{World}
use Rattle.pungi_world.specs.Slots.{place_of}
use Rattle.pungi_world.specs.World.{account_of}
use Rattle.pungi_meaning.specs.Work.{content_at}
use Rattle.pungi_shape.specs.declared.holding.Holding.{Holding}
use Rattle.pungi_shape.specs.declared.holding.Holding.TheVariants.{Dead, Unset, Null, Text, Token}
use Rattle.pungi_shape.specs.declared.tracked.Spot.{Spot}
use Rattle.pungi_shape.specs.declared.tracked.Spot.TheVariants.{Global, Field}
use Rattle.pungi_shape.specs.declared.tracked.Tracked.{Tracked}
use Rattle.pungi_shape.specs.Forms.{Form}
use Rattle.pungi_shape.specs.Shapes.{is_number, holding_of_static}
use Rattle.pungi_shape.specs.Scenes.{Scene, holding_at, form_at}
use Rattle.pungi_shape.specs.Described.{Naming, HoldsSo, SlotHoldsSo, slot_named}
use Rattle.pungi_shape.proofs.sound.Views.{View}

-- ---- well-formed scenes

abbrev pub HasWidth : ℕ → Form → Type 0
HasWidth w f = length f ≡ w

abbrev pub HasWidthIf : ℕ → Option Form → Type 0
HasWidthIf w None = Unit {0}
HasWidthIf w (Some f) = length f ≡ w

abbrev pub IsLive : List (Option Form) → ℕ → Type 0
IsLive bs t = (f : Form) × (get_or bs t None ≡ Some f)

abbrev pub IsLiveIn : List (Option Form) → Holding → Type 0
IsLiveIn bs (Token t) = IsLive bs t
IsLiveIn bs h = Unit {0}

abbrev pub IsTokenHeld : Holding → Type 0
IsTokenHeld h = (t : ℕ) × (h ≡ Token t)

-- neither NULL nor a text nor an object
abbrev pub is_no_pointer : Holding → Bool
is_no_pointer Null = false
is_no_pointer Text = false
is_no_pointer (Token t) = false
is_no_pointer h = true

abbrev pub is_no_content : Holding → Bool
is_no_content Unset = false
is_no_content h = is_no_pointer h

abbrev pub spot_in : Tracked → Spot
spot_in r = r.spot

abbrev pub held_in : Tracked → Holding
held_in r = r.held

abbrev pub IsBaseIn : ℕ → Spot → Type 0
IsBaseIn n (Global m) = Unit {0}
IsBaseIn n (Field b tag field) = b < n

abbrev pub key_of : ℕ × Holding → ℕ
key_of k = k.0

pub record IsScene (ks : List ℕ) (n : ℕ) (s : Scene) : Type 0 where
  pub wide : 0 < s.width
  pub vars : length s.shape.vars ≡ n
  pub forms : length s.vars ≡ length s.shape.vars
  pub widths : All (HasWidth s.width) s.vars
  pub returned_width : length s.returned ≡ s.width
  pub entry_forms : length s.entry ≡ length s.shape.entry
  pub entry_widths : All (HasWidth s.width) s.entry
  pub balances : length s.balances ≡ length s.shape.made
  pub balance_widths : All (HasWidthIf s.width) s.balances
  pub entry_live : All (IsLiveIn s.balances) s.shape.entry
  pub vars_live : All (IsLiveIn s.balances) s.shape.vars
  pub statics_live : All (IsLiveIn s.balances) (map holding_of_static s.shape.statics)
  pub returned_live : IsLiveIn s.balances s.shape.returned
  pub slots_live : All (IsLiveIn s.balances) (map held_in s.shape.slots)
  pub bases : All (IsBaseIn (length s.shape.made)) (map spot_in s.shape.slots)
  pub no_numbers : All (λ h. is_no_content h ≡ false) (map held_in s.shape.slots)
  pub static_keys : map key_of s.shape.statics ≡ ks
  pub static_tokens : All IsTokenHeld (map holding_of_static s.shape.statics)

-- ---- sums of balances

abbrev pub share : Naming → Vector → ℕ → ℕ → Option Form → ℤ
share names v o t None = pos 0
share names v o t (Some f) = if names t == o then dot f v else pos 0

abbrev pub total_from : ℕ → Naming → List (Option Form) → Vector → ℕ → ℤ
total_from t names [] v o = pos 0
total_from t names (b ∷ bs) v o = share names v o t b +ℤ total_from (suc t) names bs v o

abbrev pub total : Naming → List (Option Form) → Vector → ℕ → ℤ
total names bs v o = total_from 0 names bs v o

-- ---- what is shown

abbrev pub AreApart : Naming → Spot → Spot → Type 0
AreApart names p q = slot_named names p ≢ slot_named names q

abbrev pub stands_for : Naming → Holding → ℕ → Bool
stands_for names (Token t) k = names t == k
stands_for names h k = false

abbrev pub argument : Entry → ℕ → Content
argument e x = content_at (map content.Holds e.args) x

abbrev pub IsOther : Option ℕ → ℕ → Type 0
IsOther free x = free ≢ Some x

pub record Marks (names : Naming) (bs : List (Option Form)) (ms : List Bool) (ps : List Spot) (w : World)
    (fields : Name → Name → Bool) : Type 0 where
  pub made : (t : ℕ) → IsLive bs t → get_or ms t false ≡ true → (account_of w (names t)).made ≡ true
  pub two : (t u : ℕ) → IsLive bs t → IsLive bs u → t ≢ u → get_or ms t false ≡ true → get_or ms u false ≡ true
      → names t ≢ names u
  pub base : (t u : ℕ) (tag field : Name) → IsLive bs t → t ≢ u → get_or ms t false ≡ true
      → IsAmong ps (Field u tag field) → names t ≢ names u
  pub touched : (t : ℕ) (tag field : Name) (i : ℕ) → IsLive bs t → get_or ms t false ≡ true
      → fields tag field ≡ true → place_of w.slots (slots.Field (names t) tag field) ≡ Some i
      → IsAmong ps (Field t tag field)

pub record Shows (names : Naming) (v : Vector) (free : Option ℕ) (s : Scene) (o : View) : Type 0 where
  pub leading : v 0 ≡ pos 1
  pub vars : (x : ℕ) → HoldsSo names (holding_at s x) (content_at o.vars x)
  pub numbers : (x : ℕ) → is_number (holding_at s x) ≡ true → IsOther free x
      → content_at o.vars x ≡ content.Holds (value.Int (dot (form_at s x) v))
  pub returned : HoldsSo names s.shape.returned o.returned
  pub returned_number : is_number s.shape.returned ≡ true
      → o.returned ≡ content.Holds (value.Int (dot s.returned v))
  pub statics : All (λ k. HoldsSo names k.1 (content.Holds (value.Object k.0))) s.shape.statics
  pub slots : All (SlotHoldsSo names o.world) s.shape.slots
  pub apart : AllPairs (AreApart names) (map spot_in s.shape.slots)
  pub objects : (t : ℕ) → IsLive s.balances t → names t < length o.world.accounts
  pub entry : (x : ℕ) → HoldsSo names (get_or s.shape.entry x Unset) (argument o.entry x)
  pub entry_alive : (x : ℕ) → get_or s.shape.entry x Unset ≢ Dead
  pub entry_count : length s.shape.entry ≡ length o.entry.args
  pub entry_numbers : (x : ℕ) → is_number (get_or s.shape.entry x Unset) ≡ true
      → argument o.entry x ≡ content.Holds (value.Int (dot (get_or s.entry x []) v))
  pub balances : (k : ℕ) → o.debts k ≡ total names s.balances v k
  pub marks : Marks names s.balances s.shape.made (map spot_in s.shape.slots) o.world o.fields
