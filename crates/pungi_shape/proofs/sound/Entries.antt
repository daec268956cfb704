-- A run that begins is shown by the shape at its entry.
--   IsBeginning file code ks origin m    a machine holds what is held where the run of a code begins: the arguments,
--                           which suit the kinds of the parameters, in a world whose slots suit all codes of the file
--   args, n, hs             the arguments; how many objects there are; what is held of them
--   shape, whole, scene, w  the shape at entry, that of all variables, its scene, and how many coordinates it has
--   view                    what the run holds
--   names, vector           the objects of tokens; the numbers at entry
--   tokens                  how many tokens there are
use Rattle.std.proofs.Common.{◌≡◌, ◌≢◌, inl, inr, ℕ, zero, suc, ◌+◌, ◌-◌, ◌<◌, ◌≤◌, true, false, ◌&&◌, List, [], ◌∷◌}
use Rattle.std.proofs.Common.{◌++◌, length, map, get_or, replicate, take, refl, sym, ap, ◌∙◌, subst, arith, Some, None}
use Rattle.std.proofs.Common.{ℤ, pos, ◌+ℤ◌, ◌-ℤ◌, ◌^◌}
use Rattle.std.specs.Prelude.{nat_lt, nat_le}
use Rattle.std.specs.List.{All, IsAmong}
use Rattle.std.proofs.lemmas.Bool.{false≢true}
use Rattle.std.proofs.lemmas.Int.{ints}
use Rattle.std.proofs.lemmas.Bool.Decides.{leb_tells}
use Rattle.std.proofs.lemmas.List.{length-append, length-map, length-replicate, length-take, get_or_past}
use Rattle.std.proofs.lemmas.List.{get_or_append_left, get_or-append-add, get_or_default}
use Rattle.std.proofs.lemmas.List.Elements.{All-nil, All-append, All-replicate, All-weaker}
use Rattle.pungi_base.specs.declared.entry.Entry.{Entry}
use Rattle.pungi_base.specs.declared.value.Value.{Value}
use Rattle.pungi_base.specs.declared.value.Value.TheVariants as value
use Rattle.pungi_api.specs.declared.param.Param.TheVariants as param
use Rattle.pungi_domain.specs.Vectors.{Vector, dot}
use Rattle.pungi_world.specs.declared.account.Account.{Account}
use Rattle.pungi_world.specs.declared.content.Content.{Content}
use Rattle.pungi_world.specs.declared.content.Content.TheVariants.{Unset, Holds}
use Rattle.pungi_world.specs.Escapes.{held_now, held_at_entry}
use Rattle.pungi_world.specs.World.{fresh_account, world_at}
use Rattle.pungi_meaning.specs.Work.{content_at}
use Rattle.pungi_code.specs.declared.code.Code.{Code}
use Rattle.pungi_code.specs.Entries.{hold_values, code_fits}
use Rattle.pungi_code.specs.Frames.{param_vars}
use Rattle.pungi_code.specs.Registers.{Regs}
use Rattle.pungi_code.specs.Run.{start}
use Rattle.pungi_shape.specs.declared.holding.Holding.{Holding}
use Rattle.pungi_shape.specs.declared.holding.Holding.TheVariants as held
use Rattle.pungi_shape.specs.declared.shape.Shape.{Shape}
use Rattle.pungi_shape.specs.Forms.{Form, zero_form}
use Rattle.pungi_shape.specs.Shapes.{is_number, tokens_in, holding_of_static}
use Rattle.pungi_shape.specs.Liveness.{is_holder}
use Rattle.pungi_shape.specs.Scenes.{Scene, number_forms, holding_at, form_at}
use Rattle.pungi_shape.specs.Arrivals.{arrive}
use Rattle.pungi_shape.specs.Places.{at_entry, at_point, entry_width, values_at_entry, tokens_from, first_point}
use Rattle.pungi_shape.specs.Places.{whole_entry_shape, entry_shape, entry_shapes}
use Rattle.pungi_shape.specs.Edges.{goes_to, settle, entry_scene}
use Rattle.pungi_shape.specs.Described.{Naming, HoldsSo, SlotHoldsSo, debt}
use Rattle.pungi_shape.proofs.sound.Views.{View, Origin, view_of, Suits, SlotsThere, IsTyped, IsObjectSpot}
use Rattle.pungi_shape.proofs.sound.Shows.{IsScene, Shows, HasWidth, HasWidthIf, IsLive, IsLiveIn, IsBaseIn}
use Rattle.pungi_shape.proofs.sound.Shows.{is_no_content, argument}
use Rattle.pungi_shape.proofs.sound.Marks.{unmarked}
use Rattle.pungi_shape.proofs.sound.FormValues.{length_zero}
use Rattle.pungi_shape.proofs.sound.Flow.{Claim, Flow}
use Rattle.pungi_shape.proofs.sound.Stands.{Runs, sent}
use Rattle.pungi_shape.proofs.sound.Kept.{trim_length, trim_cases, trim_all}
use Rattle.pungi_shape.proofs.sound.Coordinates.{length_forms, widths_forms, number_inside}
use Rattle.pungi_shape.proofs.sound.Arrives.{names_after, arrives}
use Rattle.pungi_shape.proofs.sound.Simple.{no_guard}
use Rattle.pungi_shape.proofs.sound.EntryValues.{entry_holdings, objects_of, numbers_of, length_holdings, length_tokens}
use Rattle.pungi_shape.proofs.sound.EntryValues.{count_holdings, length_values, values_among, values_suit}
use Rattle.pungi_shape.proofs.sound.EntryValues.{objects_there, AreNamed, values_hold, AreCoordinates, values_number}
use Rattle.pungi_shape.proofs.sound.EntryValues.{values_live, statics_live, statics_tokens, statics_keys, statics_hold}
use Rattle.pungi_shape.proofs.sound.EntryValues.{nothing_yet, suit_values, held_suit}
use Rattle.pungi_shape.proofs.sound.worlds.SlotKinds.{AllSuit}
use Rattle.pungi_shape.proofs.sound.Members.{first_among, among_map}
use Rattle.pungi_shape.proofs.sound.Tests.{both_true}

-- ---- lists

replicated : {X : Type 0} (m : ℕ) (d : X) (x : ℕ) → get_or (replicate m d) x d ≡ d
replicated zero d x = refl
replicated (suc m) d zero = refl
replicated (suc m) d (suc x) = replicated m d x

padded : {X : Type 0} (xs : List X) (m : ℕ) (d : X) (x : ℕ) → get_or (xs ++ replicate m d) x d ≡ get_or xs x d
padded [] m d x = replicated m d x
padded (y ∷ xs) m d zero = refl
padded (y ∷ xs) m d (suc x) = padded xs m d x

no_form : (f : Form) → None ≡ Some f → ⊥
no_form f e = cc

live_before : (m : ℕ) (f : Form) (t : ℕ) → IsLive (replicate m (Some f)) t → t < m
live_before m f t live = elim (leb_tells m t) [
  | inl past ↦
      let long = length-replicate m (Some f) in
      let le = past.1 in
      absurd (no_form live.0 (sym (get_or_past (replicate m (Some f)) t None (omega (arith, long, le))) ∙ live.1))
  | inr lt ↦ lt.1
]

values_alive : (t : ℕ) (vs : List Value) (x : ℕ) → get_or (entry_holdings t vs) x held.Unset ≢ held.Dead
values_alive t [] x e = cc
values_alive t (value.Null ∷ vs) zero e = cc
values_alive t (value.Null ∷ vs) (suc x) e = values_alive t vs x e
values_alive t (value.Object o ∷ vs) zero e = cc
values_alive t (value.Object o ∷ vs) (suc x) e = values_alive (t + 1) vs x e
values_alive t (value.Int i ∷ vs) zero e = cc
values_alive t (value.Int i ∷ vs) (suc x) e = values_alive t vs x e
values_alive t (value.Text ∷ vs) zero e = cc
values_alive t (value.Text ∷ vs) (suc x) e = values_alive t vs x e

number_content : (names : Naming) (h : Holding) (c : Content) → is_number h ≡ true → HoldsSo names h c
    → (n : ℤ) × (c ≡ Holds (value.Int n))
number_content names held.Dead c e holds = absurd (false≢true e)
number_content names held.Unset c e holds = absurd (false≢true e)
number_content names held.Null c e holds = absurd (false≢true e)
number_content names held.Text c e holds = absurd (false≢true e)
number_content names (held.Known n) c e holds = (n, holds)
number_content names held.Number c e holds = holds
number_content names (held.Token t) c e holds = absurd (false≢true e)

fresh_debt : (entry : Entry) (k : ℕ) → debt (world_at entry) k ≡ pos 0
fresh_debt entry k =
    ap (λ (a : Account). a.change -ℤ (a.handed +ℤ pos (held_now (world_at entry) k) -ℤ
    pos (held_at_entry (world_at entry) k))) (replicated entry.objects fresh_account k)

-- ---- the entry

-- a machine with which the run of a code begins
pub record IsBeginning (file : Code → Type 0) (code : Code) (ks : List ℕ) (origin : Origin) (m : Regs) : Type 0 where
  pub vars : m.vars ≡ param_vars code origin.entry.args
  pub suit : suit_values (length m.world.accounts) (take code.params code.vars) origin.entry.args ≡ true
  pub debts : (k : ℕ) → origin.debts k ≡ debt m.world k
  pub objects : origin.entry.objects ≡ length m.world.accounts
  pub slots : AllSuit file m.world
  pub there : SlotsThere m.world
  pub statics : All (λ k. k < length m.world.accounts) ks

nothing_owed : (d c : ℤ) → c ≡ d → d -ℤ c ≡ pos 0
nothing_owed d c e = omega (arith, ints, e)

module _ (file : Code → Type 0) (code : Code) (ks : List ℕ) (origin : Origin) (m : Regs)
    (begins_so : IsBeginning file code ks origin m) where
  abbrev args : List Value
  args = origin.entry.args

  abbrev n : ℕ
  n = length m.world.accounts

  abbrev hs : List Holding
  hs = entry_holdings 0 args

  abbrev shape : Shape
  shape = entry_shape ks code hs

  abbrev whole : Shape
  whole = whole_entry_shape ks code hs

  abbrev w : ℕ
  w = entry_width shape

  abbrev scene : Scene
  scene = entry_scene shape

  abbrev view : View
  view = view_of code origin m

  abbrev names : Naming
  names t = get_or (objects_of args ++ ks) t 0

  abbrev vector : Vector
  vector i = get_or (pos 1 ∷ numbers_of args) i (pos 0)

  abbrev tokens : ℕ
  tokens = length (tokens_in hs) + length ks

  short : length args ≤ length code.vars
  short =
      omega (
        arith,
        length_values n (take code.params code.vars) args begins_so.suit,
        length-take code.params
            code.vars,
      )

  vars_long : length whole.vars ≡ length code.vars
  vars_long =
      omega (
        arith,
        length-append hs (replicate (length code.vars - length hs) held.Unset),
        length-replicate (length code.vars - length hs) held.Unset,
        length_holdings 0 args,
        short,
      )

  made_long : length shape.made ≡ tokens
  made_long = length-replicate tokens false

  balances_same : scene.balances ≡ replicate tokens (Some (zero_form w))
  balances_same = ap (λ m. replicate m (Some (zero_form w))) made_long

  holders_live : All (IsLiveIn scene.balances) hs
  holders_live =
      subst (λ bs. All (IsLiveIn bs) hs) (sym balances_same)
      (values_live tokens (zero_form w) 0 args (omega (arith, length_tokens 0 args)))

  vars_kept : length shape.vars ≡ length code.vars
  vars_kept = trim_length code first_point 0 whole.vars ∙ vars_long

  pub entry_is_scene : IsScene ks (length code.vars) scene
  entry_is_scene = record {
    wide = omega arith;
    vars = vars_kept;
    forms =
        let long = length-append (number_forms w 1 hs) (replicate (length shape.vars - length hs) (zero_form w)) in
        let first = length_forms w 1 hs in
        let rest = length-replicate (length shape.vars - length hs) (zero_form w) in
        let fit = length_holdings 0 args in
        let all = vars_kept in
        omega (arith, long, first, rest, fit, all, short);
    widths = All-append (HasWidth w) (number_forms w 1 hs) (replicate (length shape.vars - length hs) (zero_form w))
        (widths_forms w 1 hs) (All-replicate (HasWidth w) (length shape.vars - length hs) (zero_form w)
        (length_zero w));
    returned_width = length_zero w;
    entry_forms = length_forms w 1 hs;
    entry_widths = widths_forms w 1 hs;
    balances = length-replicate (length shape.made) (Some (zero_form w));
    balance_widths = All-replicate (HasWidthIf w) (length shape.made) (Some (zero_form w)) (length_zero w);
    entry_live = holders_live;
    vars_live = trim_all (IsLiveIn scene.balances) code first_point 0 whole.vars tt
        (All-append (IsLiveIn scene.balances) hs (replicate (length code.vars - length hs) held.Unset) holders_live
        (All-replicate (IsLiveIn scene.balances) (length code.vars - length hs) held.Unset tt));
    statics_live = subst (λ bs. All (IsLiveIn bs) (map holding_of_static (tokens_from (length (tokens_in hs)) ks)))
        (sym balances_same) (statics_live tokens (zero_form w) (length (tokens_in hs)) ks (omega arith));
    returned_live = tt;
    slots_live = All-nil (IsLiveIn scene.balances);
    bases = All-nil (IsBaseIn (length shape.made));
    no_numbers = All-nil (λ h. is_no_content h ≡ false);
    static_keys = statics_keys (length (tokens_in hs)) ks;
    static_tokens = statics_tokens (length (tokens_in hs)) ks;
  }

  -- ---- what is held

  args_named : AreNamed names 0 (objects_of args)
  args_named j lt =
      let same : 0 + j ≡ j = omega arith in
      ap names same ∙ get_or_append_left (objects_of args) ks 0 j lt

  statics_named_so : AreNamed names (length (tokens_in hs)) ks
  statics_named_so j lt =
      ap (λ n. names (n + j)) (length_tokens 0 args) ∙ get_or-append-add (objects_of args) ks j 0

  coordinates_so : AreCoordinates w 1 vector (numbers_of args)
  coordinates_so = (
    λ j lt. (let same : 1 + j ≡ suc j = omega arith in ap vector same),
    (let count = count_holdings 0 args in omega (arith, count)),
  )

  content_so : (x : ℕ) → content_at view.vars x ≡ get_or (map Holds args) x Unset
  content_so x =
      ap (λ cs. content_at cs x) begins_so.vars ∙ padded (map Holds args) (length code.vars - length args) Unset x

  whole_so : (x : ℕ) → get_or whole.vars x held.Unset ≡ get_or hs x held.Unset
  whole_so x = padded hs (length code.vars - length hs) held.Unset x

  whole_holds : (x : ℕ) → HoldsSo names (get_or whole.vars x held.Unset) (content_at view.vars x)
  whole_holds x =
      subst (λ h. HoldsSo names h (content_at view.vars x)) (sym (whole_so x))
      (subst (HoldsSo names (get_or hs x held.Unset)) (sym (content_so x)) (values_hold names 0 args x args_named))

  var_holds : (x : ℕ) → HoldsSo names (holding_at scene x) (content_at view.vars x)
  var_holds x =
      trim_cases (λ h. HoldsSo names h (content_at view.vars x)) code first_point 0 whole.vars x x (omega arith)
      (whole_holds x) (λ _. tt)

  var_number : (x : ℕ) → is_number (holding_at scene x) ≡ true → is_number (get_or whole.vars x held.Unset) ≡ true
  var_number x =
      trim_cases (λ h. is_number h ≡ true → is_number (get_or whole.vars x held.Unset) ≡ true) code first_point 0
      whole.vars x x
      (omega arith) (λ e. e) (λ _ e. absurd (false≢true e))

  number_so : (x : ℕ) → is_number (holding_at scene x) ≡ true
      → content_at view.vars x ≡ Holds (value.Int (dot (form_at scene x) vector))
  number_so x e =
      let c = number_content names (get_or whole.vars x held.Unset) (content_at view.vars x) (var_number x e)
      (whole_holds x) in
      let worth = values_number w 1 0 vector args x c.0 coordinates_so (sym (content_so x) ∙ c.1) in
      let form = padded (number_forms w 1 hs) (length shape.vars - length hs) (zero_form w) x in
      c.1 ∙ ap (λ i. Holds (value.Int i)) (sym (ap (λ f. dot f vector) form ∙ worth))

  objects_so : (t : ℕ) → IsLive scene.balances t → names t < n
  objects_so t live =
      let lt = live_before tokens (zero_form w) t (subst (λ bs. IsLive bs t) balances_same live) in
      let below = All-append (λ o. o < n) (objects_of args) ks
      (objects_there n (take code.params code.vars) args begins_so.suit) begins_so.statics in
      let long = length-append (objects_of args) ks in
      let same = length_tokens 0 args in
      below t 0 (omega (arith, lt, long, same))

  entry_number : (x : ℕ) → is_number (get_or hs x held.Unset) ≡ true
      → argument origin.entry x ≡ Holds (value.Int (dot (get_or scene.entry x []) vector))
  entry_number x e =
      let c = number_content names (get_or hs x held.Unset) (argument origin.entry x) e
      (values_hold names 0 args x args_named) in
      let worth = values_number w 1 0 vector args x c.0 coordinates_so c.1 in
      let form = get_or_default (number_forms w 1 hs) x [] (zero_form w)
      (let l = length_forms w 1 hs in let i = number_inside hs x e in omega (arith, l, i)) in
      c.1 ∙ ap (λ i. Holds (value.Int i)) (sym (ap (λ f. dot f vector) form ∙ worth))

  pub entry_shows : Shows names vector None scene view
  entry_shows = record {
    leading = refl;
    vars = var_holds;
    numbers = λ x e other. number_so x e;
    returned = tt;
    returned_number = λ e. absurd (false≢true e);
    statics = statics_hold names (length (tokens_in hs)) ks statics_named_so;
    slots = All-nil (SlotHoldsSo names view.world);
    apart = λ i j d lt in_j. absurd (omega (arith, in_j));
    objects = objects_so;
    entry = λ x. values_hold names 0 args x args_named;
    entry_alive = values_alive 0 args;
    entry_count = length_holdings 0 args;
    entry_numbers = entry_number;
    balances = λ k. nothing_owed (debt m.world k) (origin.debts k) (begins_so.debts k)
        ∙ sym (nothing_yet names w 0 (length shape.made) vector k);
    marks = unmarked names scene.balances shape.made [] view.world view.fields
        (λ t m. false≢true (sym (replicated tokens false t) ∙ m));
  }

  pub entry_deads : (x : ℕ) → get_or shape.vars x held.Unset ≡ held.Dead → is_holder code first_point x ≡ false
  entry_deads x =
      trim_cases (λ h. h ≡ held.Dead → is_holder code first_point x ≡ false) code first_point 0 whole.vars x x
      (omega arith)
      (λ e. absurd (values_alive 0 args x (sym (whole_so x) ∙ e))) (λ none _. none)

  pub entry_typed : IsTyped file code view
  entry_typed = record {
    count =
        let all = ap length begins_so.vars in
        let long = length-append (map Holds args) (replicate (length code.vars - length args) Unset) in
        let first = length-map args Holds in
        let rest = length-replicate (length code.vars - length args) Unset in
        omega (arith, all, long, first, rest, short);
    vars = λ x. subst (Suits n (get_or code.vars x param.ModuleDef)) (sym (content_so x))
        (values_suit n code.vars code.params args x begins_so.suit);
    slots = begins_so.slots;
    there = begins_so.there;
    grown = let same = begins_so.objects in omega (arith, same);
  }

  pub entry_among : IsAmong (entry_shapes ks code) shape
  entry_among =
      among_map (entry_shape ks code) (values_at_entry 0 (take code.params code.vars)) hs
      (values_among n (take code.params code.vars) args begins_so.suit 0)

pub begins : (code : Code) (ks : List ℕ) (claim : Claim) → Flow code ks claim → (m : Regs)
    → IsBeginning claim.file code ks claim.origin m → Runs code ks claim 0 m
begins code ks claim flow m so =
    let args = claim.origin.entry.args in
    let s = entry_shape ks code (entry_holdings 0 args) in
    let sc = entry_scene s in
    let names = λ (t : ℕ). get_or (objects_of args ++ ks) t 0 in
    let v = λ (i : ℕ). get_or (pos 1 ∷ numbers_of args) i (pos 0) in
    let e = goes_to code first_point [] sc in
    let after = arrive code first_point sc in
    let to = settle code (at_point first_point after.shape) in
    let claimed = flow.enters s v (entry_among claim.file code ks claim.origin m so) in
    let met = flow.duties (at_entry s) e v to claimed (first_among e []) (no_guard v) refl in
    let a = arrives code ks first_point sc names v None (view_of code claim.origin m)
    (entry_is_scene claim.file code ks claim.origin m so) (entry_shows claim.file code ks claim.origin m so)
    (entry_deads claim.file code ks claim.origin m so) met in
    record {
      shape = after.shape;
      names = names_after code first_point sc names;
      vector = sent after.rows v;
      typed = entry_typed claim.file code ks claim.origin m so;
      stands = record {
        claimed = flow.edges (at_entry s) e v (sent after.rows v) to claimed (first_among e []) (no_guard v) (λ i. refl)
            refl;
        scene = a.scene;
        deads = a.deads;
        kinds = All-nil (IsObjectSpot code);
        shows = a.shows;
      };
    }

-- ---- the entry of a run from a fresh world

fits_statics : (statics : ℕ) (code : Code) (entry : Entry) → code_fits statics code entry ≡ true
    → statics ≤ entry.objects
fits_statics statics code entry fits = elim (leb_tells statics entry.objects) [
  | inl le ↦ le.1
  | inr lt ↦ absurd (false≢true (sym lt.0 ∙ (both_true (nat_le statics entry.objects) (nat_lt entry.objects (2 ^ 31)
      && hold_values entry.objects (take code.params code.vars) entry.args) fits).0))
]

fits_held : (statics : ℕ) (code : Code) (entry : Entry) → code_fits statics code entry ≡ true
    → hold_values entry.objects (take code.params code.vars) entry.args ≡ true
fits_held statics code entry fits =
    let held = hold_values entry.objects (take code.params code.vars) entry.args in
    (both_true (nat_lt entry.objects (2 ^ 31)) held (both_true (nat_le statics entry.objects)
    (nat_lt entry.objects (2 ^ 31) && held) fits).1).1

pub entry_runs : (statics : ℕ) (code : Code) (ks : List ℕ) (claim : Claim)
    → code_fits statics code claim.origin.entry ≡ true → ((k : ℕ) → claim.origin.debts k ≡ pos 0)
    → All (λ k. k < statics) ks → Flow code ks claim → Runs code ks claim 0 (start code claim.origin.entry)
entry_runs statics code ks claim fits none there flow =
    let entry = claim.origin.entry in
    let kinds = take code.params code.vars in
    let accounts = length-replicate entry.objects fresh_account in
    let fit = fits_statics statics code entry fits in
    begins code ks claim flow (start code entry) (record {
      vars = refl;
      suit = subst (λ n. suit_values n kinds entry.args ≡ true) (sym accounts)
          (held_suit entry.objects kinds entry.args (fits_held statics code entry fits));
      debts = λ k. none k ∙ sym (fresh_debt entry k);
      objects = sym accounts;
      slots = λ c in_file i lt. absurd (omega (arith, lt));
      there = λ i lt. absurd (omega (arith, lt));
      statics = All-weaker (λ k. k < statics) (λ k. k < length (world_at entry).accounts)
          (λ k less. omega (arith, fit, less, accounts)) ks there;
    })
