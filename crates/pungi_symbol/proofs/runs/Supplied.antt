-- The state's own run: how many objects are there after each step, and what its next choice stands for.
use Rattle.std.proofs.Common.{[], Bool, List, Option, Some, ap, arith, false, get_or, inl, inr, length, length-append}
use Rattle.std.proofs.Common.{refl, subst, suc, sym, true, zero, ℕ, ℤ, ◌++◌, ◌+◌, ◌<◌, ◌∙◌, ◌∷◌, ◌≡◌, ◌≤◌, ◌⊎◌}
use Rattle.std.proofs.Math.ListN.{length-set}
use Rattle.std.proofs.Math.Seq.{get_or-append_seam}
use Rattle.std.proofs.lemmas.Bool.{eqb-true}
use Rattle.std.proofs.lemmas.List.{append-nil, append_assoc}
use Rattle.std.specs.Prelude.{slice_get, ◌==◌, ◌||◌}
use Rattle.pungi_api.specs.declared.answer.Answer.{Answer}
use Rattle.pungi_base.specs.declared.choice.Choice.{Choice}
use Rattle.pungi_base.specs.declared.entry.Entry.{Entry}
use Rattle.pungi_base.specs.declared.value.Value.{Value}
use Rattle.pungi_code.specs.Registers.{Regs}
use Rattle.pungi_code.specs.declared.code.Code.{Code}
use Rattle.pungi_code.specs.declared.code.Line.{Line}
use Rattle.pungi_code.specs.declared.instr.Instr.{Instr}
use Rattle.pungi_code.specs.declared.instr.Instr.TheVariants.{Api, Arith, Branch, Call, Compare, Fall, Fit, Jump}
use Rattle.pungi_code.specs.declared.instr.Instr.TheVariants.{Load, Return, Set, Store, Unset as Forget}
use Rattle.pungi_symbol.proofs.runs.AccountsGrow.{Lengthened, as_before, longer}
use Rattle.pungi_symbol.proofs.answers.Made.{among_either, among_one}
use Rattle.pungi_symbol.proofs.runs.MadeObjects.{Follows, among_here, among_later}
use Rattle.pungi_symbol.proofs.runs.MadeObjects.{apply_made, came_is, came_made, follows_back, later_not}
use Rattle.pungi_symbol.proofs.steps.ChoicesForAnswers.{IsAnswered, IsComing, IsNext, comes}
use Rattle.pungi_symbol.proofs.steps.Questions.{IsAsked, LoadOk, StoreOk}
use Rattle.pungi_symbol.proofs.steps.RunInState.{Linked}
use Rattle.pungi_symbol.proofs.steps.SoundAfter.{answered_marks}
use Rattle.pungi_symbol.proofs.steps.StepBack.{compared_marks, line_marks, load_marks, ordered_marks, ranged_marks}
use Rattle.pungi_symbol.proofs.steps.StepBack.{store_marks, turned_marks}
use Rattle.pungi_symbol.proofs.steps.Worlds.{IsUnmade}
use Rattle.pungi_symbol.specs.answers.KnownAfter.{arrive_answer, call_var, instr_of, load_first, made_by}
use Rattle.pungi_symbol.specs.answers.KnownAfter.{next_computed, number_of_outcome, place_of_line, says_order}
use Rattle.pungi_symbol.specs.answers.KnownAfter.{store_first, term_with, touched_slot, with_comparison}
use Rattle.pungi_symbol.specs.answers.KnownAfter.{with_computation}
use Rattle.pungi_symbol.specs.answers.SymbolicState.{apply, is_among}
use Rattle.pungi_symbol.specs.declared.answers.decision.Decision.{Decision}
use Rattle.pungi_symbol.specs.declared.questions.question.Question.{Question}
use Rattle.pungi_symbol.specs.declared.questions.question.Question.TheVariants.{Answers, Base, Computes, Does}
use Rattle.pungi_symbol.specs.declared.questions.question.Question.TheVariants.{Null as AsksNull, Orders, Over}
use Rattle.pungi_symbol.specs.declared.questions.question.Question.TheVariants.{Overwrites, Range, Returns, Same}
use Rattle.pungi_symbol.specs.declared.questions.question.Question.TheVariants.{Stops, Touches, Turn, Unplain}
use Rattle.pungi_symbol.specs.declared.states.known.Known.{Known}
use Rattle.pungi_symbol.specs.declared.states.mark.Mark.{Mark}
use Rattle.pungi_symbol.specs.declared.states.mark.Mark.TheVariants.{IsNull, IsObject}
use Rattle.pungi_symbol.specs.declared.states.spot.Touched.{Touched}
use Rattle.pungi_symbol.specs.declared.states.state.State.{State}
use Rattle.pungi_symbol.specs.declared.states.term.Term.TheVariants.{Token}
use Rattle.pungi_symbol.specs.questions.NextQuestion.{ask}
use Rattle.pungi_symbol.specs.runs.Fits.{FitsState, IsSound, is_the}
use Rattle.pungi_symbol.specs.runs.Paths.{Path, argument_count, choice_of, path_here, path_on, table_of}
use Rattle.pungi_symbol.specs.runs.RunInState.{IsOf, Lies, is_this_made}
use Rattle.pungi_symbol.specs.states.Known.{count, no_slot, slot_note, spot_of, term_of}
use Rattle.pungi_symbol.specs.states.Terms.{Table, at, is_mark, mark_at, outcomes_of_answer, outcomes_of_mark}
use Rattle.pungi_symbol.specs.states.Turns.{blocked_at}
use Rattle.pungi_world.specs.Choices.{value_of}
use Rattle.pungi_world.specs.World.{account_of}
use Rattle.pungi_world.specs.declared.world.World.{World}
use Rattle.pungi_api.specs.declared.answer.Answer.TheVariants as answer
use Rattle.pungi_base.specs.declared.value.Value.TheVariants as value

pub count_by : (o : Option Line) (q : Question) (d : Decision) (s : State)
    → count (apply o q d s).known ≡ count s.known + comes q
count_by o (Does d') d s = ap length (line_marks s.known o) ∙ (omega arith)
count_by o (Touches r) d s = ap length (load_marks (instr_of o) r s.known) ∙ length-append s.known.marks (r ∷ [])
count_by o (Overwrites r) d s =
    let r' = mark_at (outcomes_of_mark r) (number_of_outcome d) in
    ap length (store_marks (instr_of o) r' s.known) ∙ length-append s.known.marks (r' ∷ [])
count_by o (AsksNull t) d s = length-set s.known.marks t _ ∙ (omega arith)
count_by o (Base t u j) d s = omega arith
count_by o (Answers a) d s =
    let r = mark_at (outcomes_of_answer a) (number_of_outcome d) in
    ap length (answered_marks (arrive_answer a r s.known) (call_var (instr_of o)) (Some (term_with r (count s.known))))
    ∙ length-append s.known.marks (r ∷ [])
count_by o (Same t u) d s = omega arith
count_by o (Orders a b) d s =
    ap length (ordered_marks (instr_of o) (says_order d) (with_comparison (place_of_line o) a b s.known)
    ∙ compared_marks (place_of_line o) a b s.known) ∙ (omega arith)
count_by o (Range kind a) d s =
    ap length (ranged_marks (instr_of o) a (place_of_line o) (number_of_outcome d == 1) s.known) ∙ (omega arith)
count_by o (Computes kind p a b) d s =
    let k = with_computation (place_of_line o) (record { kind = kind; op = p; a = a; b = b }) s.known in
    ap length (ranged_marks (instr_of o) (next_computed s.known) (place_of_line o) (number_of_outcome d == 1) k)
    ∙ (omega arith)
count_by o Unplain d s = omega arith
count_by o Turn d s = ap length (turned_marks (blocked_at s.known.turns s.known.pc) s.known) ∙ (omega arith)
count_by o (Returns x) d s = omega arith
count_by o (Stops d') d s = omega arith
count_by o Over d s = omega arith

-- a path has no token less at its end, and objects are made on it alone
module _ (code : List Line) (first : State) where
  pub path_grows : (ds : List Decision) (s : State) → Path code first ds s → count first.known ≤ count s.known
  path_grows ds s path_here = omega arith
  path_grows _ _ (path_on ds s d p c) =
      let before = path_grows ds s p in
      let many = count_by (slice_get code s.known.pc) (ask code s.known) d s in
      omega (arith, before, many)

  pub path_late : first.known.made ≡ [] → (ds : List Decision) (s : State) → Path code first ds s → (m : ℕ)
      → is_among s.known.made m ≡ true → count first.known ≤ m
  path_late none ds s path_here m h =
      absurd (let bad : false ≡ true = ap (λ l. is_among l m) (sym none) ∙ h in cc)
  path_late none _ _ (path_on ds s d p c) m h =
      let q = ask code s.known in
      let grown = apply_made (slice_get code s.known.pc) q d s in
      elim (among_either s.known.made (came_made q d (count s.known)) m (ap (λ l. is_among l m) (sym grown) ∙ h)) [
        | inl g ↦ path_late none ds s p m g
        | inr g ↦ elim (came_is q d (count s.known)) [
          | inl e ↦ absurd (let bad : false ≡ true = ap (λ l. is_among l m) (sym e) ∙ g in cc)
          | inr e ↦
              let is = among_one (count s.known) m (ap (λ l. is_among l m) (sym e.1) ∙ g) in
              let grows = path_grows ds s p in
              omega (arith, is, grows)
        ]
      ]

-- each choice of a state that comes later is there, and its object too, or is the next one where a call makes it
pub record Supplies (table : Table) (base objects : ℕ) (choices : List Choice) (top : ℕ) (last : List Mark)
    (made : List ℕ) : Type 0 where
  pub there : (j : ℕ) → base + j < top → (c : Choice) × (slice_get choices j ≡ Some c)
      × (c ≡ choice_of (get_or last (base + j) IsNull) (value_of c))
  pub few : base + length choices ≤ top
  pub small : (before after : List ℕ) → made ≡ before ++ after → (t : ℕ)
      → ((m : ℕ) → is_among after m ≡ true → t < m) → t < top → IsOf (objects + length before) (at table t)
  pub next : (before after : List ℕ) (t : ℕ) → made ≡ before ++ t ∷ after → is_among before t ≡ false
      → at table t ≡ value.Object (objects + length before)

-- ---- values that come in

the_is : (o : ℕ) (v : Value) → is_the o v ≡ true → v ≡ value.Object o
the_is o value.Null e = absurd (let bad : false ≡ true = e in cc)
the_is o (value.Object k) e = ap value.Object (eqb-true k o e)
the_is o (value.Int n) e = absurd (let bad : false ≡ true = e in cc)
the_is o value.Text e = absurd (let bad : false ≡ true = e in cc)

-- a token that differs from those of made objects is no such object
not_made : (table : Table) (made : List ℕ) (o t : ℕ) → at table t ≡ value.Object o
    → ((m : ℕ) → is_among made m ≡ true → at table t ≡ at table m → ⊥) → is_this_made table made o ≡ false
not_made table [] o t e h = refl
not_made table (m ∷ made) o t e h =
    by (not_made table made o t e (λ z among. h z (among_later m made z among))) (is_the o (at table m)) refl
  where
    by : is_this_made table made o ≡ false → (b : Bool) → is_the o (at table m) ≡ b
        → is_this_made table (m ∷ made) o ≡ false
    by rest true g = absurd (h m (among_here [] made m) (e ∙ sym (the_is o (at table m) g)))
    by rest false g = ap (λ b. b || is_this_made table made o) g ∙ rest

unmade_value : (w : World) (table : Table) (made : List ℕ)
    → ((o : ℕ) → (account_of w o).made ≡ is_this_made table made o) → (v : Value)
    → ((o : ℕ) → v ≡ value.Object o → is_this_made table made o ≡ false) → IsUnmade w v
unmade_value w table made l value.Null h = tt
unmade_value w table made l (value.Object k) h = l k ∙ h k refl
unmade_value w table made l (value.Int n) h = tt
unmade_value w table made l value.Text h = tt

null_next : (n : ℕ) (v : Value) → is_mark IsNull v ≡ true → IsNext n v
null_next n value.Null e = tt
null_next n (value.Object k) e = absurd (let bad : false ≡ true = e in cc)
null_next n (value.Int i) e = tt
null_next n value.Text e = tt

null_or_object : (k : ℕ) → (mark_at (outcomes_of_answer answer.Made) k ≡ IsNull)
    ⊎ (mark_at (outcomes_of_answer answer.Made) k ≡ IsObject)
null_or_object zero = inl refl
null_or_object (suc zero) = inr refl
null_or_object (suc (suc k)) = inl refl

-- the slot that is touched first
abbrev FirstSlot : Known → List Touched → Type 0
FirstSlot k slots = (t : Touched) × ((slots ≡ k.slots ++ t ∷ []) × (t.at_entry ≡ Token (count k)))

first_load : (i : Instr) (r : Mark) (k : Known) → LoadOk i k → FirstSlot k (load_first i r k).slots
first_load (Load x place) r k ok = (touched_slot k (spot_of k place) (Token (count k)), (refl, refl))
first_load (Set x a) r k ok = absurd ok
first_load (Arith x kind o a b) r k ok = absurd ok
first_load (Fit x kind a) r k ok = absurd ok
first_load (Compare x c a b) r k ok = absurd ok
first_load (Store place a) r k ok = absurd ok
first_load (Api x g as') r k ok = absurd ok
first_load (Call x f as') r k ok = absurd ok
first_load (Forget x) r k ok = absurd ok
first_load (Jump to) r k ok = absurd ok
first_load (Branch a this other) r k ok = absurd ok
first_load (Return o) r k ok = absurd ok
first_load Fall r k ok = absurd ok

first_store : (i : Instr) (r : Mark) (k : Known) → StoreOk i k → FirstSlot k (store_first i r k).slots
first_store (Store place a) r k ok = (touched_slot k (spot_of k place) (term_of k a), (refl, refl))
first_store (Set x a) r k ok = absurd ok
first_store (Arith x kind o a b) r k ok = absurd ok
first_store (Fit x kind a) r k ok = absurd ok
first_store (Compare x c a b) r k ok = absurd ok
first_store (Load x place) r k ok = absurd ok
first_store (Api x g as') r k ok = absurd ok
first_store (Call x f as') r k ok = absurd ok
first_store (Forget x) r k ok = absurd ok
first_store (Jump to) r k ok = absurd ok
first_store (Branch a this other) r k ok = absurd ok
first_store (Return o) r k ok = absurd ok
first_store Fall r k ok = absurd ok

module _ (code : Code) (statics : ℕ) (entry : Entry) (choices : List Choice) (computed : List ℤ)
    (linked : Linked (table_of statics entry choices computed) (statics + argument_count code) choices)
    (top : ℕ) (last : List Mark) (made : List ℕ)
    (supplies : Supplies (table_of statics entry choices computed) (statics + argument_count code) entry.objects choices
    top last made) where
  abbrev T' : Table
  T' = table_of statics entry choices computed

  abbrev B' : ℕ
  B' = statics + argument_count code

  abbrev pub Later : State → Type 0
  Later s = Follows made s.known.made (count s.known)

  -- the object that is made with an answer, if one is, and those that are made later
  pub record Makes (s s' : State) (came : List ℕ) : Type 0 where
    pub grown : s'.known.made ≡ s.known.made ++ came
    pub one_at_most : (came ≡ []) ⊎ ((came ≡ count s.known ∷ []) × (count s'.known ≡ count s.known + 1))
    pub new : is_among s.known.made (count s.known) ≡ false
    pub later : Later s'
    pub there : count s'.known ≤ top

  module _ (s s' : State) (came : List ℕ) (k : Makes s s' came) where
    made_now : (more : List ℕ) → came ≡ more → s'.known.made ≡ s.known.made ++ more
    made_now more e = k.grown ∙ ap (λ l. s.known.made ++ l) e

    none_now : came ≡ [] → s'.known.made ≡ s.known.made
    none_now e = made_now [] e ∙ append-nil s.known.made

    -- the token that came in is the next object
    is_next : came ≡ count s.known ∷ []
        → at T' (count s.known) ≡ value.Object (entry.objects + length s.known.made)
    is_next e = supplies.next s.known.made k.later.more (count s.known)
        (k.later.is ∙ ap (λ l. l ++ k.later.more) (made_now (count s.known ∷ []) e)
        ∙ append_assoc s.known.made (count s.known ∷ []) k.later.more) k.new

    -- or is there
    is_old : came ≡ [] → count s.known < count s'.known
        → IsOf (entry.objects + length s.known.made) (at T' (count s.known))
    is_old e lt = supplies.small s.known.made k.later.more
        (k.later.is ∙ ap (λ l. l ++ k.later.more) (none_now e)) (count s.known)
        (λ m h. let le = k.later.later m h in omega (arith, le, lt)) (let le = k.there in omega (arith, lt, le))

    module _ (m : Regs) (l : Lies code.instrs T' B' m s)
        (accounts : length m.world.accounts ≡ entry.objects + length s.known.made) where
      -- where no choice was used, nothing is made
      pub same_accounts : Lies code.instrs T' B' m s' → length m.world.accounts ≡ entry.objects + length s'.known.made
      same_accounts l' =
          let before = l.used in
          let after = l'.used in
          elim (k.one_at_most) [
            | inl e ↦ accounts ∙ ap (λ z. entry.objects + length z) (sym (none_now e))
            | inr e ↦ let more = e.1 in absurd (omega (arith, before, after, more))
          ]

      -- after an instruction there is one more, if it was made
      pub more_accounts : (m' : Regs) → Lies code.instrs T' B' m' s' → Lengthened choices m m'
          → length m'.world.accounts ≡ entry.objects + length s'.known.made
      more_accounts m' l' (as_before e) = elim (k.one_at_most) [
        | inl z ↦ e ∙ accounts ∙ ap (λ y. entry.objects + length y) (sym (none_now z))
        | inr z ↦
            let more = z.1 in
            let below : IsOf (length m'.world.accounts) (at T' (count s.known)) =
            l'.below (count s.known) (omega (arith, more)) in
            let bad : entry.objects + length s.known.made < length m'.world.accounts =
            subst (IsOf (length m'.world.accounts)) (is_next z.0) below in
            absurd (omega (arith, bad, e, accounts))
      ]
      more_accounts m' l' (longer c there is used e) =
          let before = l.used in
          let after = l'.used in
          elim (k.one_at_most) [
            | inl z ↦
                let here : at T' (count s.known) ≡ value.Object (length m.world.accounts) =
                ap (at T') (sym before) ∙ linked (length m.used) c there ∙ is in
                let old : IsOf (entry.objects + length s.known.made) (at T' (count s.known)) =
                is_old z (omega (arith, before, after, used)) in
                let bad : length m.world.accounts < entry.objects + length s.known.made =
                subst (IsOf (entry.objects + length s.known.made)) here old in
                absurd (omega (arith, bad, accounts))
            | inr z ↦
                let grown = ap length (made_now (count s.known ∷ []) z.0) in
                let long = length-append s.known.made (count s.known ∷ []) in
                omega (arith, e, accounts, grown, long)
          ]

  -- what comes in with an answer
  pub makes : (o : Option Line) (q : Question) (d : Decision) (s : State) → IsSound s
      → count (apply o q d s).known ≤ top → Later (apply o q d s)
      → Makes s (apply o q d s) (came_made q d (count s.known))
  makes o q d s sound le later = record {
    grown = apply_made o q d s;
    one_at_most = elim (came_is q d (count s.known)) [
      | inl e ↦ inl e
      | inr e ↦ inr (e.1, count_by o q d s ∙ ap (λ z. count s.known + comes z) e.0)
    ];
    new = later_not s.known.made (count s.known) (count s.known) sound.made.below (omega arith);
    later = later;
    there = le;
  }

  pub later_back : (o : Option Line) (q : Question) (d : Decision) (s : State) → Later (apply o q d s) → Later s
  later_back o q d s later =
      let many = count_by o q d s in
      let n' = count (apply o q d s).known in
      follows_back made s.known.made (came_made q d (count s.known)) (count s.known) n' (omega (arith, many))
      (λ m h. elim (came_is q d (count s.known)) [
        | inl e ↦ absurd (let bad : false ≡ true = ap (λ l. is_among l m) (sym e) ∙ h in cc)
        | inr e ↦ let is = among_one (count s.known) m (ap (λ l. is_among l m) (sym e.1) ∙ h) in omega (arith, is)
      ]) (subst (λ l. Follows made l n') (apply_made o q d s) later)

  -- ---- what comes in is there, or the next object

  of_value : (n : ℕ) (v : Value) (t m' : ℕ) → at T' t ≡ v → n ≡ m' → IsOf m' (at T' t) → IsOf n v
  of_value n v t m' e is h = subst (IsOf n) e (subst (λ z. IsOf z (at T' t)) (sym is) h)

  module _ (s s' : State) (m : Regs) (l : Lies code.instrs T' B' m s)
      (accounts : length m.world.accounts ≡ entry.objects + length s.known.made) (fits : FitsState T' s')
      (k : Makes s s' []) (more : count s'.known ≡ count s.known + 1) (v : Value)
      (here : at T' (count s.known) ≡ v) where
    old_is : IsOf (length m.world.accounts) v
    old_is = of_value (length m.world.accounts) v (count s.known) (entry.objects + length s.known.made) here accounts
        (is_old s s' [] k refl (omega (arith, more)))

    -- what a slot held at entry isn't an object that was made
    unmade_is : (t : Touched) → s'.known.slots ≡ s.known.slots ++ t ∷ [] → t.at_entry ≡ Token (count s.known)
        → IsUnmade m.world v
    unmade_is t slots token = unmade_value m.world T' s.known.made l.made v (λ o is. not_made T' s.known.made o
        (count s.known) (here ∙ is) (λ z among e.
        let noted : (slot_note s'.known.slots (length s.known.slots)).at_entry ≡ Token (count s.known) =
        ap (λ y. (slot_note y (length s.known.slots)).at_entry) slots
        ∙ ap (λ y. y.at_entry) (get_or-append_seam s.known.slots t [] no_slot) ∙ token in
        fits.new.outside z (length s.known.slots) (count s.known)
        (ap (λ y. is_among y z) (none_now s s' [] k refl) ∙ among) noted e))

    touched_is : (t : Touched) → s'.known.slots ≡ s.known.slots ++ t ∷ [] → t.at_entry ≡ Token (count s.known)
        → IsOf (length m.world.accounts) v × IsUnmade m.world v
    touched_is t slots token = (old_is, unmade_is t slots token)

  -- the answer of a call that makes an object is NULL, or the next object
  made_coming : (s s' : State) (r : Mark) → (r ≡ IsNull) ⊎ (r ≡ IsObject) → (n : ℕ) (v : Value)
      → n ≡ entry.objects + length s.known.made → Makes s s' (made_by answer.Made r (count s.known))
      → is_mark r v ≡ true → at T' (count s.known) ≡ v → IsNext n v
  made_coming s s' r (inl e) n v accounts k noted here =
      null_next n v (ap (λ z. is_mark z v) (sym e) ∙ noted)
  made_coming s s' r (inr e) n v accounts k noted here =
      let is = is_next s s' (made_by answer.Made r (count s.known)) k
      (ap (λ z. made_by answer.Made z (count s.known)) e) in
      subst (IsNext n) (sym is ∙ here) (sym accounts)

  answer_coming : (o : Option Line) (a : Answer) (d : Decision) (s : State) (m : Regs) → Lies code.instrs T' B' m s
      → length m.world.accounts ≡ entry.objects + length s.known.made → FitsState T' (apply o (Answers a) d s)
      → Makes s (apply o (Answers a) d s) (came_made (Answers a) d (count s.known)) → (v : Value)
      → at T' (count s.known) ≡ v → IsAnswered a (length m.world.accounts) v
  answer_coming o a d s m l accounts fits k v here = by a fits k (count_by o (Answers a) d s)
    where
      After : Answer → State
      After b = apply o (Answers b) d s

      By : Answer → Type 0
      By b = FitsState T' (After b) → Makes s (After b) (came_made (Answers b) d (count s.known))
          → count (After b).known ≡ count s.known + 1 → IsAnswered b (length m.world.accounts) v

      old : (b : Answer) → FitsState T' (After b) → Makes s (After b) []
          → count (After b).known ≡ count s.known + 1 → IsOf (length m.world.accounts) v
      old b f k more = old_is s (After b) m l accounts f k more v here

      by : (b : Answer) → By b
      by answer.New f k more = old answer.New f k more
      by answer.Borrowed f k more = old answer.Borrowed f k more
      by answer.BorrowedSure f k more = old answer.BorrowedSure f k more
      by answer.Status f k more = old answer.Status f k more
      by answer.Truth f k more = old answer.Truth f k more
      by answer.Size f k more = old answer.Size f k more
      by answer.Int f k more = old answer.Int f k more
      by answer.Long f k more = old answer.Long f k more
      by answer.Text f k more = old answer.Text f k more
      by answer.Void f k more = old answer.Void f k more
      by answer.Null f k more = old answer.Null f k more
      by answer.Found f k more = old answer.Found f k more
      by (answer.Converted failures least most) f k more = old (answer.Converted failures least most) f k more
      by answer.AnySize f k more = old answer.AnySize f k more
      by answer.Flag f k more = old answer.Flag f k more
      by answer.TextSure f k more = old answer.TextSure f k more
      by answer.Made f k more =
          let r = mark_at (outcomes_of_answer answer.Made) (number_of_outcome d) in
          let n = count s.known in
          let marks = answered_marks (arrive_answer answer.Made r s.known) (call_var (instr_of o))
          (Some (term_with r n)) in
          let last : get_or (After answer.Made).known.marks n IsNull ≡ r = ap (λ l. get_or l n IsNull) marks
          ∙ get_or-append_seam s.known.marks r [] IsNull in
          let noted = f.notes.marks n (omega (arith, more)) in
          made_coming s (After answer.Made) r (null_or_object (number_of_outcome d)) (length m.world.accounts) v
          accounts k (sym (ap (is_mark r) here) ∙ ap (λ z. is_mark z (at T' n)) (sym last) ∙ noted) here

  -- what the next choice of the run stands for suits the question
  pub is_coming : (o : Option Line) (q : Question) (d : Decision) (s : State) (m : Regs)
      → Lies code.instrs T' B' m s → length m.world.accounts ≡ entry.objects + length s.known.made
      → FitsState T' (apply o q d s) → Makes s (apply o q d s) (came_made q d (count s.known))
      → IsAsked (instr_of o) s.known q → (v : Value) → at T' (count s.known) ≡ v → IsComing m.world q v
  is_coming o (Touches r) d s m l accounts fits k asked v here =
      let t = first_load (instr_of o) r s.known asked.0 in
      touched_is s (apply o (Touches r) d s) m l accounts fits k (count_by o (Touches r) d s) v here t.0 t.1.0
      t.1.1
  is_coming o (Overwrites r) d s m l accounts fits k asked v here =
      let t = first_store (instr_of o) (mark_at (outcomes_of_mark r) (number_of_outcome d)) s.known asked.0 in
      touched_is s (apply o (Overwrites r) d s) m l accounts fits k (count_by o (Overwrites r) d s) v here t.0
      t.1.0 t.1.1
  is_coming o (Answers a) d s m l accounts fits k asked v here = answer_coming o a d s m l accounts fits k v here
  is_coming o (Does d') d s m l accounts fits k asked v here = tt
  is_coming o (AsksNull t) d s m l accounts fits k asked v here = tt
  is_coming o (Base t u j) d s m l accounts fits k asked v here = tt
  is_coming o (Same t u) d s m l accounts fits k asked v here = tt
  is_coming o (Orders a b) d s m l accounts fits k asked v here = tt
  is_coming o (Range kind a) d s m l accounts fits k asked v here = tt
  is_coming o (Computes kind p a b) d s m l accounts fits k asked v here = tt
  is_coming o Unplain d s m l accounts fits k asked v here = tt
  is_coming o Turn d s m l accounts fits k asked v here = tt
  is_coming o (Returns x) d s m l accounts fits k asked v here = tt
  is_coming o (Stops d') d s m l accounts fits k asked v here = tt
  is_coming o Over d s m l accounts fits k asked v here = tt
