-- An expansion by a stack of bodies: what is left of each completes to an expansion of the word.
use Rattle.std.proofs.Common.{◌≡◌, ℕ, suc, zero, ◌+◌, ◌<◌, ◌≤◌, Bool, true, false, List, [], ◌∷◌, ◌++◌, length, drop}
use Rattle.std.proofs.Common.{set, get_or, reverse, Option, Some, None, refl, sym, ap, subst, ◌∙◌, arith, append_assoc}
use Rattle.std.specs.Prelude.{is_some}
use Rattle.std.proofs.Math.Seq.{drop-cons}
use Rattle.std.proofs.lemmas.List.{append-nil, reverse-append}
use Rattle.pungi_base.specs.declared.kind.Kind.{Kind}
use Rattle.pungi_base.specs.declared.token.Token.{Token}
use Rattle.pungi_lex.specs.declared.frames.Frame.{Frame}
use Rattle.pungi_lex.specs.Limits.{token_limit}
use Rattle.pungi_lex.specs.Frames.{IsReplaced, IsOverLimit}
use Rattle.pungi_lex.specs.Macros.{Macros, Expands, Nothing, Kept, Replaced, word_number, body_of, body_at, replacement}
use Rattle.pungi_lex.specs.Macros.{placed}
use Rattle.pungi_lex.specs.declared.macro_fault.MacroFault.TheVariants as fault
use Rattle.pungi_lex.specs.Frames.{Emits}

-- what is left of a stack of bodies, the innermost first, becomes these kinds
abbrev pub Completes : Macros → List Frame → List Kind → ℕ → Type 0
Completes m [] more n = (more ≡ []) × (n ≡ 0)
Completes m (f ∷ fs) more n =
    (a : List Kind) × (b : List Kind) × (i : ℕ) × (j : ℕ) × Expands m (drop f.next f.body) a i
    × Completes (set m f.name (Some f.body)) fs b j × (more ≡ a ++ b) × (n ≡ i + j)

-- the macros once each body is back in its place
abbrev pub restored : Macros → List Frame → Macros
restored m [] = m
restored m (f ∷ fs) = restored (set m f.name (Some f.body)) fs

-- ---- each word has an expansion

abbrev left : Macros → ℕ
left [] = 0
left (None ∷ m) = left m
left (Some b ∷ m) = suc (left m)

left_without : (m : Macros) (n : ℕ) (body : List Kind) → body_of m n ≡ Some body → suc (left (set m n None)) ≡ left m
left_without [] n body e = absurd cc
left_without (None ∷ m) zero body e = absurd cc
left_without (Some b ∷ m) zero body e = refl
left_without (None ∷ m) (suc n) body e = left_without m n body e
left_without (Some b ∷ m) (suc n) body e = ap suc (left_without m n body e)

abbrev HasExpansion : Macros → List Kind → Type 0
HasExpansion m ks = (out : List Kind) × (n : ℕ) × Expands m ks out n

one_kind : (m : Macros) (k : Kind) (ks : List Kind)
    → ((name : ℕ) (body : List Kind) → body_of m name ≡ Some body → HasExpansion (set m name None) body)
    → HasExpansion m ks → HasExpansion m (k ∷ ks)
one_kind m k ks inner rest = by (word_number k) refl
  where
    with_name : (name : ℕ) → word_number k ≡ Some name → (b : Option (List Kind)) → body_of m name ≡ b
        → HasExpansion m (k ∷ ks)
    with_name name w None e = (k ∷ rest.0, 1 + rest.1, Kept m k ks rest.0 rest.1 (ap (body_at m) w ∙ e) rest.2)
    with_name name w (Some body) e =
        let i = inner name body e in
        (i.0 ++ rest.0, 1 + (i.1 + rest.1), Replaced m k name body ks i.0 rest.0 i.1 rest.1 w e i.2 rest.2)

    by : (w : Option ℕ) → word_number k ≡ w → HasExpansion m (k ∷ ks)
    by None w = (k ∷ rest.0, 1 + rest.1, Kept m k ks rest.0 rest.1 (ap (body_at m) w) rest.2)
    by (Some name) w = with_name name w (body_of m name) refl

all_kinds : (m : Macros) (ks : List Kind)
    → ((name : ℕ) (body : List Kind) → body_of m name ≡ Some body → HasExpansion (set m name None) body)
    → HasExpansion m ks
all_kinds m [] inner = ([], 0, Nothing m)
all_kinds m (k ∷ ks) inner = one_kind m k ks inner (all_kinds m ks inner)

total_within : (fuel : ℕ) (m : Macros) (ks : List Kind) → left m < fuel → HasExpansion m ks
total_within zero m ks h = absurd (omega arith)
total_within (suc fuel) m ks h =
    all_kinds m ks (λ name body e. total_within fuel (set m name None) body
    (omega (arith, left_without m name body e)))

pub total : (m : Macros) (ks : List Kind) → HasExpansion m ks
total m ks = total_within (suc (left m)) m ks (omega arith)

pub completion : (m : Macros) (fs : List Frame) → (more : List Kind) × (n : ℕ) × Completes m fs more n
completion m [] = ([], 0, (refl, refl))
completion m (f ∷ fs) =
    let e = total m (drop f.next f.body) in
    let c = completion (set m f.name (Some f.body)) fs in
    (e.0 ++ c.0, e.1 + c.1, (e.0, c.0, e.1, c.1, e.2, c.2, refl, refl))

some_cost : (m : Macros) (ks out : List Kind) (n : ℕ) → Expands m ks out n → 0 < length ks → 0 < n
some_cost m ks out n (Nothing _) h = h
some_cost m ks out n (Kept _ k rest o i e x) h = omega arith
some_cost m ks out n (Replaced _ k name body rest inner o i j w e x y) h = omega arith

-- ---- the steps

pub record Expansion (first now : Macros) (frames : List Frame) (t : Token) (before after : List Token)
    (used count : ℕ) : Type 0 where
  pub done : List Kind
  pub spent : ℕ
  pub after_is : after ≡ before ++ placed t done
  pub count_is : count ≡ used + spent
  pub back : restored now frames ≡ first
  pub forward : (more : List Kind) (n : ℕ) → Completes now frames more n
      → Expands first (t.kind ∷ []) (done ++ more) (spent + n)

set_back : (m : Macros) (n : ℕ) (body : List Kind) → body_of m n ≡ Some body → set (set m n None) n (Some body) ≡ m
set_back [] n body e = absurd cc
set_back (x ∷ m) zero body e = (λ i. sym e i ∷ m)
set_back (x ∷ m) (suc n) body e = ap (λ (l : Macros). x ∷ l) (set_back m n body e)

placed_more : (t : Token) (a b : List Kind) → placed t (a ++ b) ≡ placed t a ++ placed t b
placed_more t [] b = refl
placed_more t (k ∷ a) b = ap (λ (l : List Token). record t { kind = k } ∷ l) (placed_more t a b)

-- a body has come to its end
pub step_back : (first now : Macros) (f : Frame) (fs : List Frame) (t : Token) (before after : List Token)
    (used count : ℕ)
    → length f.body ≤ f.next → Expansion first now (f ∷ fs) t before after used count
    → Expansion first (set now f.name (Some f.body)) fs t before after used count
step_back first now f fs t before after used count end x = record {
  done = x.done;
  spent = x.spent;
  after_is = x.after_is;
  count_is = x.count_is;
  back = x.back;
  forward = λ more n c. x.forward more n (
    [],
    more,
    0,
    n,
    subst (λ (l : List Kind). Expands now l [] 0)
        (sym (drop_end f.next f.body end)) (Nothing now),
    c,
    refl,
    omega arith,
  );
}
  where
    drop_end : (n : ℕ) (ks : List Kind) → length ks ≤ n → drop n ks ≡ []
    drop_end zero [] h = refl
    drop_end (suc n) [] h = refl
    drop_end zero (k ∷ ks) h = absurd (omega arith)
    drop_end (suc n) (k ∷ ks) h = drop_end n ks (omega arith)

-- the innermost body after one kind of it
abbrev pub next_frame : Frame → Frame
next_frame f = record f { next = f.next + 1 }

next_kind : (f : Frame) (k : Kind) → f.next < length f.body → k ≡ get_or f.body f.next k
    → drop f.next f.body ≡ k ∷ drop (f.next + 1) f.body
next_kind f k h is =
    let next : suc f.next ≡ f.next + 1 = omega arith in
    drop-cons f.body f.next k h ∙ (λ i. sym is i ∷ drop (next i) f.body)

-- one kind of the innermost body is written out
pub step_kept : (first now : Macros) (f : Frame) (fs : List Frame) (t : Token) (before after : List Token)
    (used count : ℕ) (k : Kind)
    → f.next < length f.body → k ≡ get_or f.body f.next k → replacement now k ≡ None
    → Expansion first now (f ∷ fs) t before after used count
    → Expansion first now (next_frame f ∷ fs) t before (after ++ placed t (k ∷ [])) used (count + 1)
step_kept first now f fs t before after used count k some is kept x = record {
  done = x.done ++ k ∷ [];
  spent = x.spent + 1;
  after_is = ap (λ (l : List Token). l ++ placed t (k ∷ [])) x.after_is
      ∙ append_assoc before (placed t x.done) (placed t (k ∷ []))
      ∙ ap (λ (l : List Token). before ++ l) (sym (placed_more t x.done (k ∷ [])));
  count_is = omega (arith, x.count_is);
  back = x.back;
  forward = λ more n c.
      let inner : Expands now (drop f.next f.body) (k ∷ c.0) (1 + c.2) =
      subst (λ (l : List Kind). Expands now l (k ∷ c.0) (1 + c.2)) (sym (next_kind f k some is))
      (Kept now k (drop (f.next + 1) f.body) c.0 c.2 kept c.4) in
      let whole = x.forward (k ∷ more) (1 + n) (
        k ∷ c.0,
        c.1,
        1
            + c.2,
        c.3,
        inner,
        c.5,
        ap (λ (l : List Kind). k ∷ l) c.6,
        omega (arith, c.7),
      ) in
      let cost : x.spent + (1 + n) ≡ x.spent + 1 + n = omega arith in
      subst (λ (l : List Kind). Expands first (t.kind ∷ []) l (x.spent + 1 + n))
      (sym (append_assoc x.done (k ∷ []) more))
      (subst (λ (m : ℕ). Expands first (t.kind ∷ []) (x.done ++ (k ∷ more)) m) cost whole);
}

-- the body of one kind of the innermost body is opened
pub step_opened : (first now : Macros) (f : Frame) (fs : List Frame) (t : Token) (before after : List Token)
    (used count : ℕ) (k : Kind) (name : ℕ) (body : List Kind)
    → f.next < length f.body → k ≡ get_or f.body f.next k → word_number k ≡ Some name → body_of now name ≡ Some body
    → Expansion first now (f ∷ fs) t before after used count
    → Expansion first (set now name None) (record { name = name; body = body; next = 0 } ∷ (next_frame f ∷ fs)) t
    before after used (count + 1)
step_opened first now f fs t before after used count k name body some is named has x = record {
  done = x.done;
  spent = x.spent + 1;
  after_is = x.after_is;
  count_is = omega (arith, x.count_is);
  back = ap (λ (m : Macros). restored m (next_frame f ∷ fs)) (set_back now name body has) ∙ x.back;
  forward = λ more n c.
      let rest = subst (λ (m : Macros). Completes m (next_frame f ∷ fs) c.1 c.3) (set_back now name body has) c.5 in
      let inner : Expands now (drop f.next f.body) (c.0 ++ rest.0) (1 + (c.2 + rest.2)) =
      subst (λ (l : List Kind). Expands now l (c.0 ++ rest.0) (1 + (c.2 + rest.2))) (sym (next_kind f k some is))
      (Replaced now k name body (drop (f.next + 1) f.body) c.0 rest.0 c.2 rest.2 named has c.4 rest.4) in
      let more-is : more ≡ (c.0 ++ rest.0) ++ rest.1 = c.6 ∙ ap (λ (l : List Kind). c.0 ++ l) rest.6
      ∙ sym (append_assoc c.0 rest.0 rest.1) in
      let whole = x.forward more (1 + n) (
        c.0 ++ rest.0,
        rest.1,
        1
            + (c.2 + rest.2),
        rest.3,
        inner,
        rest.5,
        more-is,
        omega (arith, c.7, rest.7),
      ) in
      let cost : x.spent + (1 + n) ≡ x.spent + 1 + n = omega arith in
      subst (λ (m : ℕ). Expands first (t.kind ∷ []) (x.done ++ more) m) cost whole;
}

-- the word itself is written out
pub start_kept : (m : Macros) (t : Token) (before : List Token) (used : ℕ) → replacement m t.kind ≡ None
    → Expansion m m [] t before (before ++ placed t (t.kind ∷ [])) used (used + 1)
start_kept m t before used kept = record {
  done = t.kind ∷ [];
  spent = 1;
  after_is = refl;
  count_is = refl;
  back = refl;
  forward = λ more n c. subst (λ (l : List Kind). Expands m (t.kind ∷ []) (t.kind ∷ l) (1 + n)) (sym c.0)
      (subst (λ (j : ℕ). Expands m (t.kind ∷ []) (t.kind ∷ []) (1 + j)) (sym c.1)
      (Kept m t.kind [] [] 0 kept (Nothing m)));
}

-- or its body is opened
pub start_opened : (m : Macros) (t : Token) (before : List Token) (used name : ℕ) (body : List Kind)
    → word_number t.kind ≡ Some name → body_of m name ≡ Some body
    → Expansion m (set m name None) (record { name = name; body = body; next = 0 } ∷ []) t before before used (used + 1)
start_opened m t before used name body named has = record {
  done = [];
  spent = 1;
  after_is = sym (append-nil before);
  count_is = refl;
  back = set_back m name body has;
  forward = λ more n c.
      let more-is : more ≡ c.0 ++ [] = c.6 ∙ ap (λ (l : List Kind). c.0 ++ l) c.5.0 in
      let cost : n ≡ c.2 + 0 = c.7 ∙ ap (λ (j : ℕ). c.2 + j) c.5.1 in
      subst (λ (l : List Kind). Expands m (t.kind ∷ []) l (1 + n)) (sym more-is)
      (subst (λ (j : ℕ). Expands m (t.kind ∷ []) (c.0 ++ []) (1 + j)) (sym cost)
      (Replaced m t.kind name body [] c.0 [] c.2 0 named has c.4 (Nothing m)));
}

-- ---- in the words of the code

pub on_start : (opened : Bool) (m now : Macros) (t : Token) (before after : List Token) (used : ℕ)
    (frames : List Frame) → Emits opened t t.kind m now before after [] frames
    → Expansion m now (reverse frames) t before after used (used + 1)
on_start false m now t before after used frames e =
    subst (λ (n : Macros). Expansion m n (reverse frames) t before after used (used + 1)) (sym e.1)
    (subst (λ (l : List Token). Expansion m m (reverse frames) t before l used (used + 1)) (sym e.2)
    (subst (λ (fs : List Frame). Expansion m m (reverse fs) t before (before ++ placed t (t.kind ∷ [])) used
    (used + 1)) (sym e.3) (start_kept m t before used e.0)))
on_start true m now t before after used frames e =
    subst (λ (n : Macros). Expansion m n (reverse frames) t before after used (used + 1)) (sym e.5)
    (subst (λ (l : List Token). Expansion m (set m e.0 None) (reverse frames) t before l used (used + 1)) (sym e.6)
    (subst (λ (fs : List Frame). Expansion m (set m e.0 None) (reverse fs) t before before used (used + 1))
    (sym e.7) (start_opened m t before used e.0 e.1 e.2 e.3)))

pub pushed : (fs : List Frame) (f : Frame) → reverse (fs ++ f ∷ []) ≡ f ∷ reverse fs
pushed fs f = reverse-append fs (f ∷ [])

pub on_step : (opened : Bool) (first now after_now : Macros) (f : Frame) (fs frames : List Frame) (t : Token)
    (before after later : List Token) (used count : ℕ) (k : Kind)
    → f.next < length f.body → k ≡ get_or f.body f.next k
    → Expansion first now (f ∷ reverse fs) t before after used count
    → Emits opened t k now after_now after later (fs ++ next_frame f ∷ []) frames
    → Expansion first after_now (reverse frames) t before later used (count + 1)
on_step false first now after_now f fs frames t before after later used count k some is x e =
    subst (λ (n : Macros). Expansion first n (reverse frames) t before later used (count + 1)) (sym e.1)
    (subst (λ (l : List Token). Expansion first now (reverse frames) t before l used (count + 1)) (sym e.2)
    (subst (λ (r : List Frame). Expansion first now r t before (after ++ placed t (k ∷ [])) used (count + 1))
    (sym (ap reverse e.3 ∙ pushed fs (next_frame f))) (step_kept first now f (reverse fs) t before after used
    count k some is e.0 x)))
on_step true first now after_now f fs frames t before after later used count k some is x e =
    let r : reverse frames ≡ record { name = e.0; body = e.1; next = 0 } ∷ (next_frame f ∷ reverse fs) =
    ap reverse e.7 ∙ pushed (fs ++ next_frame f ∷ []) (record { name = e.0; body = e.1; next = 0 })
    ∙ ap (λ (l : List Frame). record { name = e.0; body = e.1; next = 0 } ∷ l) (pushed fs (next_frame f)) in
    subst (λ (n : Macros). Expansion first n (reverse frames) t before later used (count + 1)) (sym e.5)
    (subst (λ (l : List Token). Expansion first (set now e.0 None) (reverse frames) t before l used (count + 1))
    (sym e.6)
    (subst (λ (l : List Frame). Expansion first (set now e.0 None) l t before after used (count + 1)) (sym r)
    (step_opened first now f (reverse fs) t before after used count k e.0 e.1 some is e.2 e.3 x)))

length_none : {A : Type 0} (xs : List A) → length xs ≡ 0 → xs ≡ []
length_none [] e = refl
length_none (x ∷ xs) e = absurd (omega arith)

pub on_end : (first now : Macros) (frames : List Frame) (t : Token) (before after : List Token) (used count : ℕ)
    → length frames ≡ 0 → Expansion first now (reverse frames) t before after used count
    → IsReplaced first used t before after count
on_end first now frames t before after used count none x =
    let y : Expansion first now [] t before after used count = subst (λ (l : List Frame). Expansion first now l t
    before after used count) (ap reverse (length_none frames none)) x in
    let whole = y.forward [] 0 (refl, refl) in
    let cost : y.spent + 0 ≡ y.spent = omega arith in (
      y.done,
      y.spent,
      subst (λ (l : List Kind). Expands first (t.kind ∷ []) l y.spent) (append-nil y.done)
          (subst (λ (n : ℕ). Expands first (t.kind ∷ []) (y.done ++ []) n) cost whole),
      y.after_is,
      y.count_is,
    )

pub same_at_end : (first now : Macros) (frames : List Frame) (t : Token) (before after : List Token)
    (used count : ℕ) → length frames ≡ 0 → Expansion first now (reverse frames) t before after used count
    → now ≡ first
same_at_end first now frames t before after used count none x =
    let y : Expansion first now [] t before after used count = subst (λ (l : List Frame). Expansion first now l t
    before after used count) (ap reverse (length_none frames none)) x in y.back

pub over_at_start : (m : Macros) (t : Token) (used : ℕ) → used ≡ token_limit
    → IsOverLimit m used t (fault.TooManyTokens t.pos)
over_at_start m t used full =
    let e = total m (t.kind ∷ []) in
    let cost = some_cost m (t.kind ∷ []) e.0 e.1 e.2 (omega arith) in
    (e.0, e.1, e.2, omega (arith, cost, full), refl)

long_drop : (n : ℕ) (ks : List Kind) → n < length ks → 0 < length (drop n ks)
long_drop n [] h = absurd (omega arith)
long_drop zero (k ∷ ks) h = omega arith
long_drop (suc n) (k ∷ ks) h = long_drop n ks (omega arith)

pub over_within : (first now : Macros) (f : Frame) (fs : List Frame) (t : Token) (before after : List Token)
    (used count : ℕ) → f.next < length f.body → count ≡ token_limit
    → Expansion first now (f ∷ fs) t before after used count → IsOverLimit first used t (fault.TooManyTokens t.pos)
over_within first now f fs t before after used count some full x =
    let c = completion now (f ∷ fs) in
    let cost = some_cost now (drop f.next f.body) c.2.0 c.2.2 c.2.4 (long_drop f.next f.body some) in
    (x.done ++ c.0, x.spent + c.1, x.forward c.0 c.1 c.2, omega (arith, cost, full, x.count_is, c.2.7), refl)

pub unpopped : (first now : Macros) (f : Frame) (frames rest : List Frame) (t : Token) (before after : List Token)
    (used count : ℕ) → frames ≡ rest ++ f ∷ [] → Expansion first now (reverse frames) t before after used count
    → Expansion first now (f ∷ reverse rest) t before after used count
unpopped first now f frames rest t before after used count e x =
    subst (λ (l : List Frame). Expansion first now l t before after used count) (ap reverse e ∙ pushed rest f) x

-- a token that is no word stays
pub stays : (m : Macros) (used : ℕ) (t : Token) (before after : List Token) → is_some (word_number t.kind) ≡ false
    → after ≡ before ++ t ∷ [] → IsReplaced m used t before after (used + 1)
stays m used t before after other is = (
  t.kind ∷ [],
  1,
  Kept m t.kind [] [] 0 (ap (body_at m) (nothing (word_number t.kind) other)) (Nothing m),
  is,
  refl,
)
  where
    nothing : (n : Option ℕ) → is_some n ≡ false → n ≡ None
    nothing None e = refl
    nothing (Some n) e = absurd cc
