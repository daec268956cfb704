-- Catalogs: what is added, what is found, and the order of all.
--   added k x n             with one more thing, which has the numbers k
--   keys_in n               the numbers of all things, in order
use Rattle.std.proofs.Common.{◌≡◌, ◌∙◌, inl, inr, refl, sym, ap, subst, arith, ℕ, zero, suc, ◌<◌, Bool, true, false}
use Rattle.std.proofs.Common.{cond, List, [], ◌∷◌, ◌++◌, length, map, get_or, slice_get, Option, Some, None, IsSome}
use Rattle.std.proofs.Common.{true≢false, option_map}
use Rattle.std.specs.List.{All, AllPairs, IsAmong, flat_map, position_or_len}
use Rattle.std.specs.List.Sorted.{IsStrictlySortedBy}
use Rattle.std.specs.BTreeMap.{insert_entry}
use Rattle.std.specs.FinMap.{nat_cmp-IsAntisymmetric, slice_cmp-IsAntisymmetric}
use Rattle.std.specs.declared.cmp.Ordering.TheVariants.{Less, Equal}
use Rattle.std.specs.Cmp.{Equal-is}
use Rattle.std.specs.Ordering.{is_eq, nat_cmp}
use Rattle.std.specs.Cmp.Lexicographic.{slice_cmp}
use Rattle.std.proofs.lemmas.Bool.{cases_lt}
use Rattle.std.proofs.lemmas.Cmp.{nat_list_cmp_total, tied_itself}
use Rattle.std.proofs.lemmas.List.{length-map, length_push}
use Rattle.std.proofs.lemmas.List.Elements.{All-cons, All-head, All-nil, All-tail}
use Rattle.std.proofs.lemmas.Map.Entries.{place_from_lookup}
use Rattle.std.proofs.lemmas.Option.{get_or_from_slice_get, slice_get-map, slice_get_within}
use Rattle.pungi_shape.specs.Keys.{CatalogState, IsCatalog, in_order, is_key, listed, order_of, place_of}
use Rattle.pungi_shape.proofs.MapEntries.{all-insert, appended-at, last-at, length-insert, lookup-insert, mapped-at}
use Rattle.pungi_shape.proofs.MapEntries.{passing-at, position-map, pushed-at, sorted-insert, sorted-nil, sorted-pairs}

abbrev pub added : {T : Type 0} → List ℕ → T → CatalogState T → CatalogState T
added k x n = record {
  items = n.items ++ x ∷ [];
  entries = insert_entry (slice_cmp nat_cmp) n.entries k (length n.items);
}

abbrev pub keys_in : {T : Type 0} → CatalogState T → List (List ℕ)
keys_in n = map (λ e. e.0) n.entries

pub is_key-same : (k j : List ℕ) → is_key k j ≡ true → k ≡ j
is_key-same k j e = slice_cmp-IsAntisymmetric nat_cmp-IsAntisymmetric k j ((Equal-is (slice_cmp nat_cmp k j)).0 e)

pub is_key-itself : (k : List ℕ) → is_key k k ≡ true
is_key-itself k = ap is_eq (tied_itself nat_list_cmp_total k)

-- what an entry names
abbrev Names : {T : Type 0} → (T → List ℕ) → List T → List ℕ × ℕ → Type 0
Names {T} key items e = (x : T) × ((slice_get items e.1 ≡ Some x) × (key x ≡ e.0))

-- ---- what is added

pub empty-catalog : {T : Type 0} (key : T → List ℕ) → IsCatalog key (record { items = []; entries = [] })
empty-catalog {T} key = record {
  ordered = sorted-nil (slice_cmp nat_cmp);
  count = refl;
  named = λ i x e. absurd (cc);
  known = All-nil (Names key []);
}

pub place_of-added : {T : Type 0} (k j : List ℕ) (x : T) (n : CatalogState T) → place_of k n ≡ None
    → place_of j (added k x n) ≡ cond (is_key j k) (Some (length n.items)) (place_of j n)
place_of-added k j x n new =
    lookup-insert (slice_cmp nat_cmp) nat_list_cmp_total k j (length n.items) n.entries new

pub added-catalog : {T : Type 0} (key : T → List ℕ) (k : List ℕ) (x : T) (n : CatalogState T) → IsCatalog key n
    → k ≡ key x → place_of k n ≡ None → IsCatalog key (added k x n)
added-catalog {T} key k x n h e new = record {
  ordered = sorted-insert (slice_cmp nat_cmp) nat_list_cmp_total k (length n.items) n.entries h.ordered;
  count =
      let long = length-insert (slice_cmp nat_cmp) nat_list_cmp_total k (length n.items) n.entries new in
      let pushed = length_push n.items x in
      let count = h.count in
      omega (arith, long, pushed, count);
  named = λ i y there. elim (pushed-at n.items x i y there) [
    | inl old ↦ place_of-added k (key y) x n new ∙ old_place i y (is_key (key y) k) refl (h.named i y old)
    | inr last ↦
        place_of-added k (key y) x n new
        ∙ ap (λ b. cond b (Some (length n.items)) (place_of (key y) n))
        (ap (λ j. is_key j k) (sym (ap key last.1) ∙ sym e) ∙ is_key-itself k)
        ∙ ap Some (sym last.0)
  ];
  known = all-insert (slice_cmp nat_cmp) nat_list_cmp_total (Names key (n.items ++ x ∷ [])) k (length n.items) n.entries
      new (x, (last-at n.items x, sym e))
      (λ i d lt. still (get_or n.entries i d) (h.known i d lt));
}
  where
    still : (d : List ℕ × ℕ) → Names key n.items d → Names key (n.items ++ x ∷ []) d
    still d names = (names.0, (appended-at n.items (x ∷ []) d.1 names.0 names.1.0, names.1.1))

    old_place : (i : ℕ) (y : T) (b : Bool) → is_key (key y) k ≡ b → place_of (key y) n ≡ Some i
        → cond b (Some (length n.items)) (place_of (key y) n) ≡ Some i
    old_place i y true same there =
        let none : place_of (key y) n ≡ None = ap (λ j. place_of j n) (is_key-same (key y) k same) ∙ new in
        absurd (cc)
    old_place i y false same there = there

pub added-found : {T : Type 0} (k : List ℕ) (x : T) (n : CatalogState T) → place_of k n ≡ None
    → place_of k (added k x n) ≡ Some (length n.items)
added-found k x n new =
    place_of-added k k x n new
    ∙ ap (λ b. cond b (Some (length n.items)) (place_of k n)) (is_key-itself k)

pub added-keeps : {T : Type 0} (k j : List ℕ) (x : T) (n : CatalogState T) → place_of k n ≡ None
    → IsSome (place_of j n) → IsSome (place_of j (added k x n))
added-keeps k j x n new there =
    subst IsSome (sym (place_of-added k j x n new)) (at (is_key j k) (place_of j n) there)
  where
    at : (b : Bool) (o : Option ℕ) → IsSome o → IsSome (cond b (Some (length n.items)) o)
    at true o some = refl
    at false o some = some

-- ---- what is found

module _ {T : Type 0} (key : T → List ℕ) (n : CatalogState T) (h : IsCatalog key n) where
  known-at : (i : ℕ) (e : List ℕ × ℕ) → slice_get n.entries i ≡ Some e → Names key n.items e
  known-at i e there =
      subst (Names key n.items) (get_or_from_slice_get n.entries i e e there)
      (h.known i e (slice_get_within n.entries i e there))

  pub found-item : (k : List ℕ) (i : ℕ) → place_of k n ≡ Some i
      → (x : T) × ((slice_get n.items i ≡ Some x) × (key x ≡ k))
  found-item k i e =
      let at = place_from_lookup (is_key k) n.entries i e in
      let names = known-at at.0 (at.1, i) at.2 in
      (names.0, (names.1.0, names.1.1 ∙ sym (is_key-same k at.1 at.3)))

  -- ---- the order

  pub length-order : length (order_of n) ≡ length n.items
  length-order = length-map n.entries (λ e. e.1) ∙ h.count

  pub order-places : (i k : ℕ) → slice_get (order_of n) i ≡ Some k → k < length (order_of n)
  order-places i k e =
      let at = mapped-at (λ d. d.1) n.entries i k e in
      let names = known-at i at.0 at.1.0 in
      let lt = slice_get_within n.items at.0.1 names.0 names.1.0 in
      let same = at.1.1 in
      let long = length-order in
      omega (arith, lt, same, long)

  -- two entries at one place of the things have one key
  one-key : (d e : List ℕ × ℕ) → d.1 ≡ e.1 → Names key n.items d → Names key n.items e → d.0 ≡ e.0
  one-key d e same this that =
      let one : this.0 ≡ that.0 =
      inside (sym this.1.0 ∙ ap (slice_get n.items) same ∙ that.1.0) in
      sym this.1.1 ∙ ap key one ∙ that.1.1
    where
      inside : {x y : T} → Some x ≡ Some y → x ≡ y
      inside e = cc

  not-before : (i j k : ℕ) → slice_get (order_of n) i ≡ Some k → slice_get (order_of n) j ≡ Some k → i < j → ⊥
  not-before i j k e f lt =
      let this = mapped-at (λ d. d.1) n.entries i k e in
      let that = mapped-at (λ d. d.1) n.entries j k f in
      let d = this.0 in
      let keys : this.0.0 ≡ that.0.0 =
      one-key this.0 that.0 (this.1.1 ∙ sym that.1.1) (known-at i this.0 this.1.0) (known-at j that.0 that.1.0) in
      let less : slice_cmp nat_cmp (get_or n.entries i d).0 (get_or n.entries j d).0 ≡ Less =
      sorted-pairs (slice_cmp nat_cmp) (λ c. c.0) n.entries h.ordered i j d lt
      (slice_get_within n.entries j that.0 that.1.0) in
      let first : get_or n.entries i d ≡ this.0 = get_or_from_slice_get n.entries i this.0 d this.1.0 in
      let second : get_or n.entries j d ≡ that.0 = get_or_from_slice_get n.entries j that.0 d that.1.0 in
      let tied : slice_cmp nat_cmp (get_or n.entries i d).0 (get_or n.entries j d).0 ≡ Equal =
      ap (λ c. slice_cmp nat_cmp c.0 (get_or n.entries j d).0) first
      ∙ ap (λ c. slice_cmp nat_cmp this.0.0 c.0) second
      ∙ ap (λ c. slice_cmp nat_cmp c that.0.0) keys
      ∙ tied_itself nat_list_cmp_total that.0.0 in
      true≢false (sym (ap is_eq tied) ∙ ap is_eq less)

  pub order-once : (i j k : ℕ) → slice_get (order_of n) i ≡ Some k → slice_get (order_of n) j ≡ Some k → i ≡ j
  order-once i j k e f = elim (cases_lt i j) [
    | inl lt ↦ absurd (not-before i j k e f lt)
    | inr le ↦ elim (cases_lt j i) [
      | inl lt ↦ absurd (not-before j i k f e lt)
      | inr ge ↦ omega (arith, le, ge)
    ]
  ]

  listed-some : (e : List ℕ × ℕ) (names : Names key n.items e) (es : List (List ℕ × ℕ))
      → flat_map (λ d. listed (slice_get n.items d.1)) (e ∷ es)
      ≡ names.0 ∷ flat_map (λ d. listed (slice_get n.items d.1)) es
  listed-some e names es = ap (λ o. listed o ++ flat_map (λ d. listed (slice_get n.items d.1)) es) names.1.0

  keys-listed : (es : List (List ℕ × ℕ)) → All (Names key n.items) es
      → map key (flat_map (λ e. listed (slice_get n.items e.1)) es) ≡ map (λ e. e.0) es
  keys-listed [] all = refl
  keys-listed (e ∷ es) all =
      let names = All-head (Names key n.items) e es all in
      ap (map key) (listed-some e names es)
      ∙ ap (λ k. k ∷ map key (flat_map (λ d. listed (slice_get n.items d.1)) es)) names.1.1
      ∙ ap (λ ks. e.0 ∷ ks) (keys-listed es (All-tail (Names key n.items) e es all))

  pub keys-in_order : map key (in_order n) ≡ keys_in n
  keys-in_order = keys-listed n.entries h.known

  pub length-in_order : length (in_order n) ≡ length n.items
  length-in_order =
      sym (length-map (in_order n) key) ∙ ap length keys-in_order ∙ length-map n.entries (λ e. e.0) ∙ h.count

  listed-at : (es : List (List ℕ × ℕ)) → All (Names key n.items) es → (i k : ℕ)
      → slice_get (map (λ e. e.1) es) i ≡ Some k
      → slice_get (flat_map (λ e. listed (slice_get n.items e.1)) es) i ≡ slice_get n.items k
  listed-at [] all i k there = absurd (cc)
  listed-at (e ∷ es) all zero k there =
      let names = All-head (Names key n.items) e es all in
      let same : e.1 ≡ k = cc in
      ap (λ l. slice_get l 0) (listed-some e names es) ∙ sym names.1.0 ∙ ap (slice_get n.items) same
  listed-at (e ∷ es) all (suc i) k there =
      ap (λ l. slice_get l (suc i)) (listed-some e (All-head (Names key n.items) e es all) es)
      ∙ listed-at es (All-tail (Names key n.items) e es all) i k there

  pub in_order-at : (i k : ℕ) → slice_get (order_of n) i ≡ Some k → slice_get (in_order n) i ≡ slice_get n.items k
  in_order-at i k e = listed-at n.entries h.known i k e

  pub in_order-rises : AllPairs (λ x y. slice_cmp nat_cmp (key x) (key y) ≡ Less) (in_order n)
  in_order-rises =
      sorted-pairs (slice_cmp nat_cmp) key (in_order n)
      (subst (IsStrictlySortedBy (slice_cmp nat_cmp)) (sym keys-in_order) h.ordered)

  listed-all : (P : T → Type 0) → All P n.items → (es : List (List ℕ × ℕ)) → All (Names key n.items) es
      → All P (flat_map (λ e. listed (slice_get n.items e.1)) es)
  listed-all P all [] names = All-nil P
  listed-all P all (e ∷ es) names =
      let head = All-head (Names key n.items) e es names in
      let holds : P head.0 =
      subst P (get_or_from_slice_get n.items e.1 head.0 head.0 head.1.0)
      (all e.1 head.0 (slice_get_within n.items e.1 head.0 head.1.0)) in
      subst (All P) (sym (listed-some e head es))
      (All-cons P head.0 (flat_map (λ d. listed (slice_get n.items d.1)) es) holds
      (listed-all P all es (All-tail (Names key n.items) e es names)))

  pub in_order-all : (P : T → Type 0) → All P n.items → All P (in_order n)
  in_order-all P all = listed-all P all n.entries h.known

  pub in_order-among : (i : ℕ) (x : T) → slice_get n.items i ≡ Some x → IsAmong (in_order n) x
  in_order-among i x e =
      let at = place_from_lookup (is_key (key x)) n.entries i (h.named i x e) in
      let order : slice_get (order_of n) at.0 ≡ Some i =
      slice_get-map (λ d. d.1) n.entries at.0 ∙ ap (option_map (λ d. d.1)) at.2 in
      let there : slice_get (in_order n) at.0 ≡ Some x = in_order-at at.0 i order ∙ e in
      (at.0, (slice_get_within (in_order n) at.0 x there, sym (get_or_from_slice_get (in_order n) at.0 x x there)))

  -- the number of what has these numbers is its place among the things in order
  pub number-place : (k : List ℕ) (i : ℕ) → place_of k n ≡ Some i
      → slice_get (order_of n) (position_or_len (λ y. is_key k (key y)) (in_order n)) ≡ Some i
  number-place k i e =
      ap (slice_get (order_of n))
      (position-map (is_key k) key (in_order n) ∙ ap (position_or_len (is_key k)) keys-in_order)
      ∙ passing-at (is_key k) n.entries i e
