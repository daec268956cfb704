-- What keeps the marks of made objects true.
--   Reaches w u         the slots that were touched in a world were touched in an earlier one
--   IsNewest            an object that was just made: no token and no slot had it before
use Rattle.std.proofs.Common.{◌≡◌, ◌≢◌, ℕ, ◌<◌, Bool, true, false, List, [], ◌∷◌, ◌++◌, length, map, get_or}
use Rattle.std.proofs.Common.{zero, suc, cond, length-append, refl, sym, ap, ◌∙◌, subst, arith, inl, inr, Option}
use Rattle.std.proofs.Common.{Some, None}
use Rattle.std.specs.Prelude.{slice_set, ◌||◌}
use Rattle.std.specs.List.{IsAmong}
use Rattle.std.proofs.lemmas.Bool.{cases_eq}
use Rattle.std.proofs.lemmas.Bool.Decides.{eqb_tells}
use Rattle.std.proofs.lemmas.List.{get_or_append_left, get_or_push, get_or-set_same, get_or-set_other, length-set}
use Rattle.pungi_base.specs.declared.names.Name.{Name}
use Rattle.pungi_world.specs.declared.slot.Slot.{Slot}
use Rattle.pungi_world.specs.declared.slot.Slot.TheVariants as slots
use Rattle.pungi_world.specs.declared.world.World.{World}
use Rattle.pungi_world.specs.Slots.{place_of}
use Rattle.pungi_world.specs.World.{account_of}
use Rattle.pungi_shape.specs.declared.tracked.Spot.{Spot}
use Rattle.pungi_shape.specs.declared.tracked.Spot.TheVariants.{Global, Field}
use Rattle.pungi_shape.specs.Forms.{Form}
use Rattle.pungi_shape.specs.Scenes.{redirect}
use Rattle.pungi_shape.specs.Shapes.{rename_spot}
use Rattle.pungi_shape.specs.Described.{Naming}
use Rattle.pungi_shape.proofs.sound.Shows.{IsLive, Marks}
use Rattle.pungi_shape.proofs.sound.Members.{nothing_in, one_of, among_append, among_map, among_mapped}
use Rattle.pungi_shape.proofs.sound.Tests.{no_way, either_true, none_some}

-- ---- no marks

pub unmarked : (names : Naming) (bs : List (Option Form)) (ms : List Bool) (ps : List Spot) (w : World)
    (fields : Name → Name → Bool) → ((t : ℕ) → get_or ms t false ≡ true → ⊥) → Marks names bs ms ps w fields
unmarked names bs ms ps w fields none = record {
  made = λ t live m. absurd (none t m);
  two = λ t u l k ne m n. absurd (none t m);
  base = λ t u tag field live ne m there. absurd (none t m);
  touched = λ t tag field i live m is at. absurd (none t m);
}

-- ---- fewer tokens, other names, other worlds, other fields

pub marks_live : (names : Naming) (bs cs : List (Option Form)) (ms : List Bool) (ps : List Spot) (w : World)
    (fields : Name → Name → Bool) → ((t : ℕ) → IsLive cs t → IsLive bs t) → Marks names bs ms ps w fields
    → Marks names cs ms ps w fields
marks_live names bs cs ms ps w fields back is = record {
  made = λ t live m. is.made t (back t live) m;
  two = λ t u l k ne m n. is.two t u (back t l) (back u k) ne m n;
  base = λ t u tag field live ne m there. is.base t u tag field (back t live) ne m there;
  touched = λ t tag field i live m f at. is.touched t tag field i (back t live) m f at;
}

pub marks_named : (names other : Naming) (bs : List (Option Form)) (ms : List Bool) (ps : List Spot) (w : World)
    (fields : Name → Name → Bool) → ((t : ℕ) → IsLive bs t → other t ≡ names t)
    → ((u : ℕ) (tag field : Name) → IsAmong ps (Field u tag field) → other u ≡ names u)
    → Marks names bs ms ps w fields → Marks other bs ms ps w fields
marks_named names other bs ms ps w fields same bases is = record {
  made = λ t live m. subst (λ k. (account_of w k).made ≡ true) (sym (same t live)) (is.made t live m);
  two = λ t u l k ne m n e. is.two t u l k ne m n (sym (same t l) ∙ e ∙ same u k);
  base = λ t u tag field live ne m there e. is.base t u tag field live ne m there
      (sym (same t live) ∙ e ∙ bases u tag field there);
  touched = λ t tag field i live m f at. is.touched t tag field i live m f
      (ap (λ k. place_of w.slots (slots.Field k tag field)) (sym (same t live)) ∙ at);
}

abbrev pub Reaches : World → World → Type 0
Reaches w u = (q : Slot) (i : ℕ) → place_of u.slots q ≡ Some i → (j : ℕ) × (place_of w.slots q ≡ Some j)

pub same_reaches : (w u : World) → u.slots ≡ w.slots → Reaches w u
same_reaches w u e q i at = (i, ap (λ l. place_of l q) (sym e) ∙ at)

pub marks_world : (names : Naming) (bs : List (Option Form)) (ms : List Bool) (ps : List Spot) (w u : World)
    (fields : Name → Name → Bool) → ((o : ℕ) → (account_of w o).made ≡ true → (account_of u o).made ≡ true)
    → Reaches w u → Marks names bs ms ps w fields → Marks names bs ms ps u fields
marks_world names bs ms ps w u fields still back is = record {
  made = λ t live m. still (names t) (is.made t live m);
  two = is.two;
  base = is.base;
  touched = λ t tag field i live m f at.
      let b = back (slots.Field (names t) tag field) i at in
      is.touched t tag field b.0 live m f b.1;
}

-- where no field is asked for
pub marks_less : (names : Naming) (bs : List (Option Form)) (ms : List Bool) (ps : List Spot) (w u : World)
    (fields : Name → Name → Bool) → ((o : ℕ) → (account_of w o).made ≡ true → (account_of u o).made ≡ true)
    → Marks names bs ms ps w fields → Marks names bs ms ps u (λ t f. false)
marks_less names bs ms ps w u fields still is = record {
  made = λ t live m. still (names t) (is.made t live m);
  two = is.two;
  base = is.base;
  touched = λ t tag field i live m f at. no_way f;
}

pub marks_empty : (names : Naming) (bs : List (Option Form)) (ms : List Bool) (ps : List Spot) (w : World)
    (fields : Name → Name → Bool) → Marks names bs ms ps w fields → Marks names bs ms [] w (λ t f. false)
marks_empty names bs ms ps w fields is = record {
  made = is.made;
  two = is.two;
  base = λ t u tag field live ne m there. absurd (nothing_in (Field u tag field) there);
  touched = λ t tag field i live m f at. no_way f;
}

-- ---- one more slot

pub marks_push : (names : Naming) (bs : List (Option Form)) (ms : List Bool) (ps : List Spot) (p : Spot) (w u : World)
    (fields g : Name → Name → Bool) → Marks names bs ms ps w fields
    → ((o : ℕ) → (account_of w o).made ≡ true → (account_of u o).made ≡ true)
    → ((t b : ℕ) (tag field : Name) → p ≡ Field b tag field → IsLive bs t → t ≢ b → get_or ms t false ≡ true
    → names t ≢ names b)
    → ((t : ℕ) (tag field : Name) (i : ℕ) → IsLive bs t → get_or ms t false ≡ true → g tag field ≡ true
    → place_of u.slots (slots.Field (names t) tag field) ≡ Some i → IsAmong (ps ++ p ∷ []) (Field t tag field))
    → Marks names bs ms (ps ++ p ∷ []) u g
marks_push names bs ms ps p w u fields g is still apart touched = record {
  made = λ t live m. still (names t) (is.made t live m);
  two = is.two;
  base = λ t b tag field live ne m there. elim (among_append ps (p ∷ []) (Field b tag field) there) [
    | inl old ↦ is.base t b tag field live ne m old
    | inr new ↦ elim (one_of p [] (Field b tag field) new) [
      | inl e ↦ apart t b tag field (sym e) live ne m
      | inr rest ↦ absurd (nothing_in (Field b tag field) rest)
    ]
  ];
  touched = touched;
}

-- ---- one more token

live_below : (bs : List (Option Form)) (b : Option Form) (t : ℕ) → t < length bs → IsLive (bs ++ b ∷ []) t
    → IsLive bs t
live_below bs b t lt live = (live.0, sym (get_or_append_left bs (b ∷ []) None t lt) ∙ live.1)

live_in : (bs : List (Option Form)) (t : ℕ) → IsLive bs t → t < length bs
live_in bs t live = by bs t live.0 live.1
  where
    by : (cs : List (Option Form)) (u : ℕ) (f : Form) → get_or cs u None ≡ Some f → u < length cs
    by [] u f e = absurd (let bad : None ≡ Some f = e in cc)
    by (c ∷ cs) zero f e = omega arith
    by (c ∷ cs) (suc u) f e = let h = by cs u f e in omega (arith, h)

pub record IsNewest (names : Naming) (bs : List (Option Form)) (ps : List Spot) (w : World) (object : ℕ) : Type 0 where
  pub marked : (account_of w object).made ≡ true
  pub others : (t : ℕ) → IsLive bs t → names t ≢ object
  pub bases : (u : ℕ) (tag field : Name) → IsAmong ps (Field u tag field) → names u ≢ object
  pub untouched : (tag field : Name) (i : ℕ) → place_of w.slots (slots.Field object tag field) ≡ Some i → ⊥

abbrev pub IsBaseBelow : List Spot → ℕ → Type 0
IsBaseBelow ps n = (u : ℕ) (tag field : Name) → IsAmong ps (Field u tag field) → u < n

module _ (names : Naming) (bs : List (Option Form)) (ms : List Bool) (ps : List Spot) (w : World)
    (fields : Name → Name → Bool) (f : Form) (made : Bool) (object : ℕ) (is : Marks names bs ms ps w fields)
    (same : length bs ≡ length ms) (below : IsBaseBelow ps (length ms)) (new : names (length ms) ≡ object)
    (newest : made ≡ true → IsNewest names bs ps w object) where
  abbrev cs : List (Option Form)
  cs = bs ++ Some f ∷ []

  abbrev ns : List Bool
  ns = ms ++ made ∷ []

  -- a token that is marked is an old one, or the new one, which is made
  data Marked (t : ℕ) : Type 0 where
    old : IsLive bs t → get_or ms t false ≡ true → Marked t
    last : t ≡ length ms → made ≡ true → Marked t

  marked : (t : ℕ) → IsLive cs t → get_or ns t false ≡ true → Marked t
  marked t live m = elim (cases_eq t (length ms)) [
    | inl e ↦ last e (sym (get_or_push ms made false (length ms) refl) ∙ ap (λ k. get_or ns k false) (sym e) ∙ m)
    | inr ne ↦
        let all = length-append bs (Some f ∷ []) in
        let within = live_in cs t live in
        let lt : t < length bs = omega (arith, all, within, ne, same) in
        old (live_below bs (Some f) t lt live)
        (sym (get_or_append_left ms (made ∷ []) false t (omega (arith, lt, same))) ∙ m)
  ]

  there : (t : ℕ) → IsLive cs t → t ≢ length ms → IsLive bs t
  there t live ne =
      let all = length-append bs (Some f ∷ []) in
      let within = live_in cs t live in
      live_below bs (Some f) t (omega (arith, all, within, ne, same)) live

  pub marks_token : Marks names cs ns ps w fields
  marks_token = record {
    made = λ t live m. made_so t (marked t live m);
    two = λ t u l k ne m n. two_so t u ne (marked t l m) (marked u k n);
    base = λ t u tag field live ne m there. base_so t u tag field ne there (marked t live m);
    touched = λ t tag field i live m g at. touched_so t tag field i g at (marked t live m);
  }
    where
      is_new : (t : ℕ) → t ≡ length ms → names t ≡ object
      is_new t e = ap names e ∙ new

      made_so : (t : ℕ) → Marked t → (account_of w (names t)).made ≡ true
      made_so t (old live m) = is.made t live m
      made_so t (last e m) = subst (λ k. (account_of w k).made ≡ true) (sym (is_new t e)) (newest m).marked

      two_so : (t u : ℕ) → t ≢ u → Marked t → Marked u → names t ≢ names u
      two_so t u ne (old l m) (old k n) = is.two t u l k ne m n
      two_so t u ne (old l m) (last e n) = λ z. (newest n).others t l (z ∙ is_new u e)
      two_so t u ne (last e m) (old k n) = λ z. (newest m).others u k (sym z ∙ is_new t e)
      two_so t u ne (last e m) (last g n) = absurd (ne (e ∙ sym g))

      base_so : (t u : ℕ) (tag field : Name) → t ≢ u → IsAmong ps (Field u tag field) → Marked t → names t ≢ names u
      base_so t u tag field ne there (old live m) = is.base t u tag field live ne m there
      base_so t u tag field ne there (last e m) = λ z. (newest m).bases u tag field there (sym z ∙ is_new t e)

      touched_so : (t : ℕ) (tag field : Name) (i : ℕ) → fields tag field ≡ true
          → place_of w.slots (slots.Field (names t) tag field) ≡ Some i → Marked t → IsAmong ps (Field t tag field)
      touched_so t tag field i g at (old live m) = is.touched t tag field i live m g at
      touched_so t tag field i g at (last e m) = absurd ((newest m).untouched tag field i
          (ap (λ k. place_of w.slots (slots.Field k tag field)) (sym (is_new t e)) ∙ at))

-- ---- two tokens become one

-- a spot before a token was redirected
spot_before : (t u b : ℕ) (tag field : Name) (q : Spot) → Field b tag field ≡ rename_spot (redirect t u) q
    → (d : ℕ) × ((q ≡ Field d tag field) × (b ≡ redirect t u d))
spot_before t u b tag field (Global n) e = absurd (let bad : Field b tag field ≡ Global n = e in cc)
spot_before t u b tag field (Field d x y) e =
    let same : Field b tag field ≡ Field (redirect t u d) x y = e in
    let is_b : b ≡ redirect t u d = cc in
    let is_tag : tag ≡ x = cc in
    let is_field : field ≡ y = cc in
    (d, (ap (λ z. Field d z y) (sym is_tag) ∙ ap (λ z. Field d tag z) (sym is_field), is_b))

pub redirect_cases : (t u v : ℕ) → (P : ℕ → Type 0) → (v ≡ u → P t) → (v ≢ u → P v) → P (redirect t u v)
redirect_cases t u v P same other = elim (eqb_tells v u) [
  | inl e ↦ subst (λ b. P (cond b t v)) (sym e.0) (same e.1)
  | inr e ↦ subst (λ b. P (cond b t v)) (sym e.0) (other e.1)
]

pub redirect_names : (names : Naming) (t u v : ℕ) → names t ≡ names u → names (redirect t u v) ≡ names v
redirect_names names t u v e = redirect_cases t u v (λ z. names z ≡ names v) (λ s. e ∙ ap names (sym s)) (λ ne. refl)

pub redirect_first : (t u : ℕ) → redirect t u t ≡ t
redirect_first t u = redirect_cases t u t (λ z. z ≡ t) (λ e. refl) (λ ne. refl)

pub redirect_second : (t u : ℕ) → redirect t u u ≡ t
redirect_second t u = redirect_cases t u u (λ z. z ≡ t) (λ e. refl) (λ ne. absurd (ne refl))

redirect_other : (t u v : ℕ) → v ≢ u → redirect t u v ≡ v
redirect_other t u v ne = redirect_cases t u v (λ z. z ≡ v) (λ e. absurd (ne e)) (λ n. refl)

module _ (names : Naming) (bs : List (Option Form)) (ms : List Bool) (ps : List Spot) (w : World)
    (fields : Name → Name → Bool) (t u : ℕ) (f : Form) (is : Marks names bs ms ps w fields) (live_t : IsLive bs t)
    (live_u : IsLive bs u) (same : names t ≡ names u) (within : t < length ms) where
  abbrev g : ℕ → ℕ
  g = redirect t u

  abbrev both : Bool
  both = get_or ms t false || get_or ms u false

  abbrev as' : List (Option Form)
  as' = slice_set (slice_set bs t (Some f)) u None

  -- the second is gone
  pub not_second : (a : ℕ) → IsLive as' a → a ≢ u
  not_second a live e =
      let lt = live_in bs u live_u in
      let l = length-set bs t (Some f) in
      let none : get_or as' u None ≡ None = get_or-set_same (slice_set bs t (Some f)) u None None (omega (
        arith,
        lt,
        l,
      )) in
      none_some live.0 (sym none ∙ ap (λ k. get_or as' k None) (sym e) ∙ live.1)

  pub live_before : (a : ℕ) → IsLive as' a → IsLive bs a
  live_before a live = elim (cases_eq a t) [
    | inl e ↦ subst (IsLive bs) (sym e) live_t
    | inr ne ↦ (
      live.0,
      sym (get_or-set_other bs t a (Some f) None ne)
          ∙ sym (get_or-set_other (slice_set bs t (Some f)) u a None None (not_second a live)) ∙ live.1,
    )
  ]

  -- a marked token comes from a marked one
  record Source (a : ℕ) : Type 0 where
    pub token : ℕ
    pub live : IsLive bs token
    pub marked : get_or ms token false ≡ true
    pub goes : g token ≡ a

  source : (a : ℕ) → IsLive as' a → get_or (slice_set ms t both) a false ≡ true → Source a
  source a live m = elim (cases_eq a t) [
    | inl e ↦
        let here : both ≡ true = sym (get_or-set_same ms t both false within)
        ∙ ap (λ k. get_or (slice_set ms t both) k false) (sym e) ∙ m in
        elim (either_true (get_or ms t false) (get_or ms u false) here) [
          | inl h ↦ record { token = t; live = live_t; marked = h; goes = redirect_first t u ∙ sym e }
          | inr h ↦ record { token = u; live = live_u; marked = h; goes = redirect_second t u ∙ sym e }
        ]
    | inr ne ↦ record {
      token = a;
      live = live_before a live;
      marked = sym (get_or-set_other ms t a both false ne) ∙ m;
      goes = redirect_other t u a (not_second a live);
    }
  ]

  object_of : (a : ℕ) → (s : Source a) → names a ≡ names s.token
  object_of a s = ap names (sym s.goes) ∙ redirect_names names t u s.token same

  pub marks_merged : Marks names as' (slice_set ms t both) (map (rename_spot g) ps) w fields
  marks_merged = record {
    made = λ a live m.
        let s = source a live m in
        subst (λ k. (account_of w k).made ≡ true) (sym (object_of a s)) (is.made s.token s.live s.marked);
    two = λ a b l k ne m n.
        let s = source a l m in
        let r = source b k n in
        let apart = is.two s.token r.token s.live r.live (λ e. ne (sym s.goes ∙ ap g e ∙ r.goes)) s.marked r.marked in
        λ e. apart (sym (object_of a s) ∙ e ∙ object_of b r);
    base = λ a b tag field live ne m there.
        let s = source a live m in
        let q = among_mapped (rename_spot g) ps (Field b tag field) there in
        let d = spot_before t u b tag field q.0 q.1.1 in
        let apart = is.base s.token d.0 tag field s.live (λ e. ne (sym s.goes ∙ ap g e ∙ sym d.1.1)) s.marked
        (subst (IsAmong ps) d.1.0 q.1.0) in
        λ e. apart (sym (object_of a s) ∙ e ∙ ap names d.1.1 ∙ redirect_names names t u d.0 same);
    touched = λ a tag field i live m h at.
        let s = source a live m in
        let old = is.touched s.token tag field i s.live s.marked h
        (ap (λ k. place_of w.slots (slots.Field k tag field)) (sym (object_of a s)) ∙ at) in
        subst (λ z. IsAmong (map (rename_spot g) ps) (Field z tag field)) s.goes
        (among_map (rename_spot g) ps (Field s.token tag field) old);
  }
