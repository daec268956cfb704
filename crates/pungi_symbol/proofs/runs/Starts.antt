-- The start of a function: its first state is sound, and each run begins in it.
use Rattle.std.proofs.Common.{◌≡◌, ℕ, zero, suc, ◌+◌, ◌-◌, ◌<◌, ◌≤◌, ℤ, pos, List, [], ◌∷◌, ◌++◌, length, map, take}
use Rattle.std.proofs.Common.{get_or, Bool, true, false, refl, sym, ap, ◌∙◌, subst, arith, inl, inr, Option, None, Some}
use Rattle.std.specs.Prelude.{slice_get}
use Rattle.pungi_base.specs.declared.choice.Choice.{Choice}
use Rattle.pungi_base.specs.declared.value.Value.{Value}
use Rattle.pungi_base.specs.declared.value.Value.TheVariants as value
use Rattle.pungi_world.specs.declared.content.Content.TheVariants as content
use Rattle.pungi_world.specs.declared.slot.Slot.{Slot}
use Rattle.pungi_world.specs.declared.slot.Slot.TheVariants as slot
use Rattle.pungi_symbol.specs.declared.states.mark.Mark.{Mark}
use Rattle.pungi_symbol.specs.declared.states.mark.Mark.TheVariants.{IsNull, IsObject}
use Rattle.pungi_symbol.specs.declared.states.spot.Progress.TheVariants.{Looking}
use Rattle.pungi_symbol.specs.declared.states.term.Term.TheVariants.{Unset, Token}
use Rattle.pungi_symbol.specs.states.Terms.{Table, at, content_of, is_mark}
use Rattle.pungi_symbol.specs.runs.Fits.{IsBelow, IsSound}
use Rattle.pungi_symbol.specs.runs.RunInState.{Lies}
use Rattle.std.specs.Prelude.{◌&&◌, nat_lt, nat_le, replicate, ◌^◌}
use Rattle.std.specs.List.{list_all, range_with_len}
use Rattle.std.proofs.Common.{length-append}
use Rattle.std.proofs.lemmas.Int.{ints}
use Rattle.std.proofs.lemmas.Bool.Decides.{nat_tests}
use Rattle.std.proofs.Math.ListN.{get_or-append, length-map, get_or-map}
use Rattle.std.proofs.lemmas.List.{get_or-append-add, get_or-replicate, ext_get_or, get_or_past, length-replicate}
use Rattle.std.proofs.lemmas.List.{map-append}
use Rattle.std.proofs.lemmas.List.FromFn.{get_or-range_with_len, length-range_with_len, get_or-map-range_with_len}
use Rattle.std.proofs.lemmas.List.FromFn.{length-map-range_with_len}
use Rattle.std.proofs.lemmas.Option.{get_or_from_slice_get}
use Rattle.pungi_base.specs.declared.entry.Entry.{Entry}
use Rattle.pungi_api.specs.declared.param.Param.{Param}
use Rattle.pungi_api.specs.declared.param.Param.TheVariants as param
use Rattle.pungi_world.specs.Choices.{value_of}
use Rattle.pungi_world.specs.World.{fresh_account}
use Rattle.pungi_code.specs.declared.code.Code.{Code}
use Rattle.pungi_code.specs.Entries.{holds_value, hold_values, code_fits}
use Rattle.pungi_code.specs.Run.{start}
use Rattle.pungi_code.specs.WellFormed.{atoms_of, has_statics, is_slot_kind, is_there}
use Rattle.pungi_symbol.specs.questions.NextQuestion.{content_mark}
use Rattle.pungi_symbol.specs.answers.SymbolicState.{class_of, balance_at, is_among}
use Rattle.pungi_symbol.specs.runs.JudgedForm.{is_judged_instr, has_judged_form}
use Rattle.pungi_symbol.specs.runs.Fits.{named, is_the}
use Rattle.pungi_symbol.proofs.states.NamedObjects.{part}
use Rattle.pungi_base.specs.declared.choice.Choice.TheVariants as choice
use Rattle.pungi_symbol.specs.runs.RunInState.{IsOf, IsWalked, is_made_slot}
use Rattle.pungi_symbol.specs.runs.Paths.{table_of, argument_count, start_state}
use Rattle.pungi_symbol.proofs.questions.Firsts.{below_or}
use Rattle.pungi_symbol.proofs.steps.RunInState.{Linked}
use Rattle.pungi_symbol.proofs.steps.StepForward.{AreObjectLines, two_true}

-- ---- lists

pub all_at : {X : Type 0} (p : X → Bool) (xs : List X) (i : ℕ) (x : X) → list_all p xs ≡ true
    → slice_get xs i ≡ Some x → p x ≡ true
all_at p [] zero x h e = absurd (cc)
all_at p [] (suc i) x h e = absurd (cc)
all_at p (y ∷ xs) zero x h e =
    let r = two_true (p y) (list_all p xs) h in let same : y ≡ x = cc in subst (λ z. p z ≡ true) same r.0
all_at p (y ∷ xs) (suc i) x h e = let r = two_true (p y) (list_all p xs) h in all_at p xs i x r.1 e

each_append : {X : Type 0} (P : X → Type 0) (xs ys : List X) (d : X) → ((z : ℕ) → z < length xs → P (get_or xs z d))
    → ((z : ℕ) → P (get_or ys z d)) → (z : ℕ) → P (get_or (xs ++ ys) z d)
each_append P xs ys d f g z = elim (below_or z (length xs)) [
  | inl lt ↦ subst P (sym (get_or-append xs ys d z lt)) (f z lt)
  | inr ge ↦ subst P (ap (λ k. get_or (xs ++ ys) k d) (omega (arith, ge)))
      (subst P (sym (get_or-append-add xs ys (z - length xs) d)) (g (z - length xs)))
]

each_same : {X : Type 0} (P : X → Type 0) (k : ℕ) (d : X) → P d → (z : ℕ) → P (get_or (replicate k d) z d)
each_same P k d h z = elim (below_or z k) [
  | inl lt ↦ subst P (sym (get_or-replicate k z d d lt)) h
  | inr ge ↦ subst P (sym (get_or_past (replicate k d) z d (let e = length-replicate k d in omega (arith, e, ge)))) h
]

pub form_lines : (n : ℕ) (code : Code) → has_judged_form n code ≡ true → AreObjectLines n code.instrs
form_lines n code h pc line e =
    let judged = list_all (λ l. is_judged_instr l.instr) code.instrs in
    let there = has_statics n code in
    let both = two_true judged there (two_true (list_all is_slot_kind (take code.params code.vars)) (judged && there)
    h).1 in (
      all_at (λ l. is_judged_instr l.instr) code.instrs pc line both.0 e,
      all_at (λ l. list_all (is_there n) (atoms_of l.instr)) code.instrs pc line both.1 e,
    )

pub form_params : (n : ℕ) (code : Code) → has_judged_form n code ≡ true
    → list_all is_slot_kind (take code.params code.vars) ≡ true
form_params n code h =
    (two_true (list_all is_slot_kind (take code.params code.vars)) (list_all (λ l. is_judged_instr l.instr) code.instrs
    && has_statics n code) h).0

-- ---- the first state

-- nothing was made
none_made : (m : ℕ) → is_among [] m ≡ true → ⊥
none_made m h = let bad : false ≡ true = h in cc

-- and nothing was passed
walked_first : (table : Table) (o : Option (Slot × Param)) → IsWalked table [] [] (Looking 0) o
walked_first table None = tt
walked_first table (Some s) = (refl, no_slot_made s.0)
  where
    no_slot_made : (s : Slot) → is_made_slot table [] s ≡ false
    no_slot_made (slot.Global n) = refl
    no_slot_made (slot.Field o tag field) = refl

module _ (statics f : ℕ) (code : Code) where
  abbrev pub Ks : List Param
  Ks = take code.params code.vars

  abbrev pub N : ℕ
  N = argument_count code

  abbrev Ms : List Mark
  Ms = replicate statics IsObject ++ map content_mark Ks

  pub marks_long : length Ms ≡ statics + N
  marks_long = let a = length-append (replicate statics IsObject) (map content_mark Ks) in let b = length-replicate
      statics IsObject in let c = length-map Ks content_mark in omega (arith, a, b, c)

  pub static_mark : (t : ℕ) → t < statics → get_or Ms t IsNull ≡ IsObject
  static_mark t lt =
      let b = length-replicate statics IsObject in
      get_or-append (replicate statics IsObject) (map content_mark Ks) IsNull t (omega (arith, b, lt))
      ∙ get_or-replicate statics t IsObject IsNull lt

  pub argument_mark : (j : ℕ) → get_or Ms (statics + j) IsNull ≡ get_or (map content_mark Ks) j IsNull
  argument_mark j =
      let b = length-replicate statics IsObject in
      ap (λ z. get_or Ms (z + j) IsNull) (sym b) ∙ get_or-append-add (replicate statics IsObject)
      (map content_mark Ks) j IsNull

  class_is : (t : ℕ) → t < length Ms → class_of (range_with_len 0 (statics + N)) t ≡ t
  class_is t lt = let e = marks_long in get_or-range_with_len 0 (statics + N) t 0 (omega (arith, e, lt)) ∙ (omega arith)

  balance_is : (t : ℕ) → balance_at (replicate (statics + N) (pos 0)) t ≡ pos 0
  balance_is t = each_same (λ b. b ≡ pos 0) (statics + N) (pos 0) refl t

  pub start_sound : IsSound (start_state statics f code)
  start_sound = record {
    terms = record {
      vars_below = λ x. each_append (IsBelow (length Ms)) (map Token (range_with_len statics N))
          (replicate (length code.vars - N) Unset) Unset
          (λ z lt. let len = length-map-range_with_len Token statics N in let l' : z
          < N = omega (arith, lt, len) in let e = marks_long in
          subst (IsBelow (length Ms)) (sym (get_or-map-range_with_len Token statics N z (statics + z) Unset l'
          refl)) (let r : statics + z < length Ms = omega (arith, l', e) in r))
          (λ z. each_same (IsBelow (length Ms)) (length code.vars - N) Unset tt z) x;
      held = λ i. tt;
      at_entry = λ i. tt;
      spots = λ i. tt;
    };
    notes = record {
      statics = let e = marks_long in omega (arith, e);
      static_objects = static_mark;
      classes_long = length-range_with_len 0 (statics + N) ∙ sym marks_long;
      balances_long = length-replicate (statics + N) (pos 0) ∙ sym marks_long;
      class_older = λ t lt. let e = class_is t lt in omega (arith, e);
      class_static = λ t lt. let e = marks_long in class_is t (omega (arith, e, lt));
      class_stands = λ t lt. ap (class_of (range_with_len 0 (statics + N))) (class_is t lt);
      class_mark = λ t lt. ap (λ z. get_or Ms z IsNull) (class_is t lt);
      alone = λ t lt h. class_is t lt;
      no_object = λ t lt h. balance_is t;
      merged = λ t lt h. balance_is t;
      others_below = λ k d h. absurd (omega (arith, h));
      others_objects = λ k d h. absurd (omega (arith, h));
      others_part = λ k d h. absurd (omega (arith, h));
    };
    made = record {
      below = λ m h. absurd (none_made m h);
      objects = λ m h. absurd (none_made m h);
      own = λ m h. absurd (none_made m h);
      outside = λ m i t h. absurd (none_made m h);
    };
  }

  -- ---- entries

  held_mark : (n : ℕ) (k : Param) (v : Value) → is_slot_kind k ≡ true → holds_value n k v ≡ true
      → (is_mark (content_mark k) v ≡ true) × IsOf n v
  held_mark n param.ObjectOrNull value.Null p h = (refl, tt)
  held_mark n param.ObjectOrNull (value.Object o) p h = (refl, lt_says o n h)
    where
      lt_says : (a b : ℕ) → nat_lt a b ≡ true → a < b
      lt_says a b e = grind (arith, nat_tests)
  held_mark n param.ObjectOrNull (value.Int i) p h = absurd (let bad : false ≡ true = h in cc)
  held_mark n param.ObjectOrNull value.Text p h = absurd (let bad : false ≡ true = h in cc)
  held_mark n param.TextOrNull value.Null p h = (refl, tt)
  held_mark n param.TextOrNull (value.Object o) p h = absurd (let bad : false ≡ true = h in cc)
  held_mark n param.TextOrNull (value.Int i) p h = absurd (let bad : false ≡ true = h in cc)
  held_mark n param.TextOrNull value.Text p h = (refl, tt)
  held_mark n param.Object v p h = absurd (let bad : false ≡ true = p in cc)
  held_mark n param.Text v p h = absurd (let bad : false ≡ true = p in cc)
  held_mark n param.Int value.Null p h = absurd (let bad : false ≡ true = h in cc)
  held_mark n param.Int (value.Object o) p h = absurd (let bad : false ≡ true = h in cc)
  held_mark n param.Int (value.Int i) p h = (h, tt)
  held_mark n param.Int value.Text p h = absurd (let bad : false ≡ true = h in cc)
  held_mark n param.Long value.Null p h = absurd (let bad : false ≡ true = h in cc)
  held_mark n param.Long (value.Object o) p h = absurd (let bad : false ≡ true = h in cc)
  held_mark n param.Long (value.Int i) p h = (h, tt)
  held_mark n param.Long value.Text p h = absurd (let bad : false ≡ true = h in cc)
  held_mark n param.Size value.Null p h = absurd (let bad : false ≡ true = h in cc)
  held_mark n param.Size (value.Object o) p h = absurd (let bad : false ≡ true = h in cc)
  held_mark n param.Size (value.Int i) p h = (h, tt)
  held_mark n param.Size value.Text p h = absurd (let bad : false ≡ true = h in cc)
  held_mark n param.ModuleDef v p h = absurd (let bad : false ≡ true = p in cc)

  pub held_long : (n : ℕ) (ks : List Param) (vs : List Value) → hold_values n ks vs ≡ true → length vs ≡ length ks
  held_long n [] [] h = refl
  held_long n [] (v ∷ vs) h = absurd (let bad : false ≡ true = h in cc)
  held_long n (k ∷ ks) [] h = absurd (let bad : false ≡ true = h in cc)
  held_long n (k ∷ ks) (v ∷ vs) h = ap suc (held_long n ks vs (two_true (holds_value n k v) (hold_values n ks vs) h).1)

  held_at : (n : ℕ) (ks : List Param) (vs : List Value) (j : ℕ) → list_all is_slot_kind ks ≡ true
      → hold_values n ks vs ≡ true → j < length ks
      → (is_mark (get_or (map content_mark ks) j IsNull) (get_or vs j value.Null) ≡ true)
      × IsOf n (get_or vs j value.Null)
  held_at n [] vs j p h lt = absurd (omega (arith, lt))
  held_at n (k ∷ ks) [] j p h lt = absurd (let bad : false ≡ true = h in cc)
  held_at n (k ∷ ks) (v ∷ vs) zero p h lt = held_mark n k v (two_true (is_slot_kind k)
      (list_all is_slot_kind ks) p).0 (two_true (holds_value n k v) (hold_values n ks vs) h).0
  held_at n (k ∷ ks) (v ∷ vs) (suc j) p h lt = held_at n ks vs j (two_true (is_slot_kind k)
      (list_all is_slot_kind ks) p).1 (two_true (holds_value n k v) (hold_values n ks vs) h).1 (omega (arith, lt))

  module _ (entry : Entry) (choices : List Choice) (computed : List ℤ) (args : length entry.args ≡ N) where
    abbrev pub Tab : Table
    Tab = table_of statics entry choices computed

    pub at_static : (t : ℕ) → t < statics → at Tab t ≡ value.Object t
    at_static t lt =
        let len = length-map-range_with_len value.Object 0 statics in
        get_or-append (map value.Object (range_with_len 0 statics)) (entry.args ++ map value_of choices) value.Null
        t (omega (arith, len, lt))
        ∙ get_or-map-range_with_len value.Object 0 statics t t value.Null lt (omega arith)

    after_statics : (j : ℕ) → at Tab (statics + j) ≡ get_or (entry.args ++ map value_of choices) j value.Null
    after_statics j =
        let len = length-map-range_with_len value.Object 0 statics in
        ap (λ z. at Tab (z + j)) (sym len) ∙ get_or-append-add (map value.Object (range_with_len 0 statics))
        (entry.args ++ map value_of choices) j value.Null

    pub at_argument : (j : ℕ) → j < N → at Tab (statics + j) ≡ get_or entry.args j value.Null
    at_argument j lt = after_statics j ∙ get_or-append entry.args (map value_of choices) value.Null j
        (omega (arith, args, lt))

    pub start_linked : Linked Tab (statics + N) choices
    start_linked j c e =
        ap (at Tab) (omega (arith, args)) ∙ after_statics (length entry.args + j)
        ∙ get_or-append-add entry.args (map value_of choices) j value.Null
        ∙ get_or-map value_of choices j (choice.Null) ∙ ap value_of (get_or_from_slice_get choices j c choice.Null e)

    module _ (few : statics ≤ entry.objects) (kinds : list_all is_slot_kind Ks ≡ true)
        (held : hold_values entry.objects Ks entry.args ≡ true) where
      fit_marks : (t : ℕ) → t < length Ms → is_mark (get_or Ms t IsNull) (at Tab t) ≡ true
      fit_marks t lt = elim (below_or t statics) [
        | inl l ↦ ap (λ z. is_mark z (at Tab t)) (static_mark t l) ∙ ap (is_mark IsObject) (at_static t l)
        | inr ge ↦
            let e = marks_long in
            let j = t - statics in
            let back : statics + j ≡ t = omega (arith, ge) in
            let lj : j < N = omega (arith, e, lt, ge) in
            let r = held_at entry.objects Ks entry.args j kinds held lj in
            ap (λ z. is_mark (get_or Ms z IsNull) (at Tab z)) (sym back)
            ∙ ap (λ z. is_mark z (at Tab (statics + j))) (argument_mark j)
            ∙ ap (is_mark (get_or (map content_mark Ks) j IsNull)) (at_argument j lj) ∙ r.0
      ]

      fit_below : (t : ℕ) → t < length Ms → IsOf entry.objects (at Tab t)
      fit_below t lt = elim (below_or t statics) [
        | inl l ↦ subst (IsOf entry.objects) (sym (at_static t l)) (let r : t
            < entry.objects = omega (arith, l, few) in r)
        | inr ge ↦
            let e = marks_long in
            let j = t - statics in
            let back : statics + j ≡ t = omega (arith, ge) in
            let lj : j < N = omega (arith, e, lt, ge) in
            let r = held_at entry.objects Ks entry.args j kinds held lj in
            subst (λ z. IsOf entry.objects (at Tab z)) back (subst (IsOf entry.objects) (sym (at_argument j lj)) r.1)
      ]

      argument_terms : map content.Holds entry.args ≡ map (content_of Tab) (map Token (range_with_len statics N))
      argument_terms =
          let la = length-map entry.args content.Holds in
          let lr = length-map-range_with_len Token statics N in
          let lb = length-map (map Token (range_with_len statics N)) (content_of Tab) in
          ext_get_or content.Unset (map content.Holds entry.args) (map (content_of Tab)
          (map Token (range_with_len statics N))) (omega (arith, la, lr, lb, args)) (λ i lt.
          let li : i < N = omega (arith, lt, la, args) in
          get_or-map2 entry.args i (omega (arith, li, args))
          ∙ ap content.Holds (sym (at_argument i li))
          ∙ sym (get_or-map (content_of Tab) (map Token (range_with_len statics N)) i Unset
          ∙ ap (content_of Tab) (get_or-map-range_with_len Token statics N i (statics + i) Unset li refl)))
        where
          get_or-map2 : (vs : List Value) (i : ℕ) → i < length vs
              → get_or (map content.Holds vs) i content.Unset ≡ content.Holds (get_or vs i value.Null)
          get_or-map2 [] i lt = absurd (omega (arith, lt))
          get_or-map2 (v ∷ vs) zero lt = refl
          get_or-map2 (v ∷ vs) (suc i) lt = get_or-map2 vs i (omega (arith, lt))

      unset_terms : (k : ℕ) → replicate k content.Unset ≡ map (content_of Tab) (replicate k Unset)
      unset_terms k =
          let la = length-replicate k content.Unset in
          let lb = length-map (replicate k Unset) (content_of Tab) in
          let lc = length-replicate k Unset in
          ext_get_or content.Unset (replicate k content.Unset) (map (content_of Tab) (replicate k Unset))
          (omega (arith, la, lb, lc)) (λ i lt.
          let li : i < k = omega (arith, lt, la) in
          get_or-replicate k i content.Unset content.Unset li
          ∙ sym (get_or-map (content_of Tab) (replicate k Unset) i Unset
          ∙ ap (content_of Tab) (get_or-replicate k i Unset Unset li)))

      named_none : (o : ℕ) (table : List Value) (bs : List ℤ) → ((t : ℕ) → balance_at bs t ≡ pos 0)
          → named o table bs ≡ pos 0
      named_none o table [] h = refl
      named_none o [] (b ∷ bs) h = refl
      named_none o (v ∷ table) (b ∷ bs) h =
          let rest = named_none o table bs (λ t. h (suc t)) in
          let z = h 0 in
          let here = off (is_the o v) b z in
          omega (arith, ints, rest, here)
        where
          off : (r : Bool) (b : ℤ) → b ≡ pos 0 → part r b ≡ pos 0
          off true b e = e
          off false b e = refl

      accounts_at : (o : ℕ) → get_or (replicate entry.objects fresh_account) o fresh_account ≡ fresh_account
      accounts_at o = each_same (λ a. a ≡ fresh_account) entry.objects fresh_account refl o

      pub start_lies : Lies code.instrs Tab (statics + N) (start code entry) (start_state statics f code)
      start_lies = record {
        fits = record {
          notes = record {
            statics = at_static;
            marks = fit_marks;
            classes = λ t lt. ap (at Tab) (class_is t lt);
            others = λ k d h. absurd (omega (arith, h));
          };
          limits = λ k d h. absurd (omega (arith, h));
          new = record {
            later = λ m t h. absurd (none_made m h);
            outside = λ m i t h. absurd (none_made m h);
          };
        };
        vars = ap (λ n. map content.Holds entry.args ++ replicate (length code.vars - n) content.Unset) args
            ∙ ap (λ y. y ++ replicate (length code.vars - N) content.Unset) argument_terms
            ∙ ap (λ y. map (content_of Tab) (map Token (range_with_len statics N)) ++ y)
            (unset_terms (length code.vars - N))
            ∙ sym (map-append (content_of Tab) (map Token (range_with_len statics N))
            (replicate (length code.vars - N) Unset));
        slots = refl;
        used = let e = marks_long in omega (arith, e);
        claims = λ o.
            let a = accounts_at o in
            let b = named_none o Tab.values (replicate (statics + N) (pos 0)) balance_is in
            let c = ap (λ z. z.change) a in
            let d = ap (λ z. z.handed) a in
            omega (arith, ints, b, c, d);
        below = λ t lt. subst (λ n. IsOf n (at Tab t)) (sym (length-replicate entry.objects fresh_account))
            (fit_below t lt);
        made = λ o. ap (λ z. z.made) (accounts_at o);
        walked = walked_first Tab _;
      }

-- what an entry that fits says
pub entry_fits : (statics : ℕ) (code : Code) (entry : Entry) → code_fits statics code entry ≡ true
    → (statics ≤ entry.objects) × (hold_values entry.objects (take code.params code.vars) entry.args ≡ true)
entry_fits statics code entry h =
    let r = two_true (nat_le statics entry.objects) (nat_lt entry.objects (2 ^ 31)
    && hold_values entry.objects (take code.params code.vars) entry.args) h in
    let q = two_true (nat_lt entry.objects (2 ^ 31)) (hold_values entry.objects (take code.params code.vars)
    entry.args) r.1 in
    (le_says statics entry.objects r.0, q.1)
  where
    le_says : (a b : ℕ) → nat_le a b ≡ true → a ≤ b
    le_says a b e = grind (arith, nat_tests)
