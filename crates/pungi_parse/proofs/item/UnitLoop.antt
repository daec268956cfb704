-- What the loop over items keeps: those read so far stand at the front, and any others go on from there. So what it
-- leaves is where the tokens stop to be a file, and a file is what is read.
--   UnitTo types start front ts    these items stand at the start and leave these tokens, and any others at the start
--                                  are some of them, or go on after them
--   unit_begins, unit_turns    the loop begins so, and stays so at each item that is read
--   unit_stops, unit_ends      where it ends: the tokens stop there, or they are a file
--   one_unit                   a file has one list of items at most
--   no_unit                    where tokens stop, they are no file
--   unit_read                  a file is what is read
--   read_unit, read_stops      what is read is a file where nothing is left, and else the tokens stop where something
--                              is
use Rattle.std.proofs.Common.{◌≡◌, ℕ, zero, suc, ◌<◌, ◌≤◌, true, ◌⊎◌, inl, inr, List, [], ◌∷◌, ◌++◌, length, Option}
use Rattle.std.proofs.Common.{Some, None, refl, sym, ◌∙◌, ap, subst, arith}
use Rattle.std.proofs.lemmas.List.{append-nil}
use Rattle.pungi_base.specs.declared.names.Name.{Name}
use Rattle.pungi_base.specs.declared.pos.Pos.{Pos}
use Rattle.pungi_parse.specs.Reading.{on_some}
use Rattle.pungi_parse.specs.item.UnitReader.{deepest, item_at, items_in}
use Rattle.pungi_parse.specs.Units.{StandsAt, IsUnit, StopsAt}
use Rattle.pungi_parse.proofs.item.ItemComplete.{item_complete, item_shorter}
use Rattle.pungi_parse.proofs.item.ItemSound.{item_sound}
use Rattle.pungi_parse.proofs.trees.StmtKinds.{unit_kinds}
use Rattle.pungi_parse.proofs.Tools.{some_same, and_true, and_join}
use Rattle.pungi_tree.specs.Placed.{Placed, kinds, first_place}
use Rattle.pungi_tree.specs.Syntax.{Item}
use Rattle.pungi_tree.specs.TypeWords.{type_words}
use Rattle.pungi_tree.specs.UnitDepth.{item_depth}
use Rattle.pungi_tree.specs.UnitLevels.{item_ok, items_ok}
use Rattle.pungi_tree.specs.UnitSpells.{SpellsItem}

pub record UnitTo (types : List Name) (start : List Placed) (front : List Item) (ts : List Placed) : Type 0 where
  pub stands : StandsAt types front start ts
  pub others : (items : List Item) (rest : List Placed) → StandsAt types items start rest
      → (length ts ≤ length rest) ⊎ ((more : List Item) × (items ≡ front ++ more) × StandsAt types more ts rest)

module _ (types : List Name) where
  -- the first item, and those after it
  record OneStands (i : Item) (items : List Item) (ts rest : List Placed) : Type 0 where
    pub after : List Placed
    pub spells : SpellsItem i ts after
    pub allowed : item_ok types i ≡ true
    pub shallow : item_depth i ≤ deepest
    pub more : StandsAt types items after rest

  one_stands : (i : Item) (items : List Item) (ts rest : List Placed) → StandsAt types (i ∷ items) ts rest
      → OneStands i items ts rest
  one_stands i items ts rest s =
      let a = and_true (item_ok types i) (items_ok types items) s.allowed in
      record {
        after = s.spells.0;
        spells = s.spells.1;
        allowed = a.0;
        shallow = omega (arith, s.shallow);
        more = record { spells = s.spells.2; allowed = a.1; shallow = omega (arith, s.shallow) };
      }

  none_stand : (ts rest : List Placed) → ts ≡ rest → StandsAt types [] ts rest
  none_stand ts rest e = record { spells = e; allowed = refl; shallow = omega arith }

  more_stand : (i : Item) (items : List Item) (ts after rest : List Placed) → SpellsItem i ts after
      → item_ok types i ≡ true → item_depth i ≤ deepest → StandsAt types items after rest
      → StandsAt types (i ∷ items) ts rest
  more_stand i items ts after rest s ok deep m =
      record {
        spells = (after, s, m.spells);
        allowed = and_join _ _ ok m.allowed;
        shallow = omega
            (arith, deep, m.shallow);
      }

  pub items_no_longer : (items : List Item) (ts rest : List Placed) → StandsAt types items ts rest
      → length rest ≤ length ts
  items_no_longer [] ts rest s = omega (arith, ap length s.spells)
  items_no_longer (i ∷ items) ts rest s =
      let o = one_stands i items ts rest s in
      omega (arith, item_shorter types i ts o.after o.spells o.allowed, items_no_longer items o.after rest o.more)

  push : (front : List Item) (i : Item) (start ts after : List Placed) → StandsAt types front start ts
      → SpellsItem i ts after → item_ok types i ≡ true → item_depth i ≤ deepest
      → StandsAt types (front ++ i ∷ []) start after
  push [] i start ts after s x ok deep =
      more_stand i [] start after after (subst (λ z. SpellsItem i z after) (sym s.spells) x) ok deep
      (none_stand after after refl)
  push (f ∷ front) i start ts after s x ok deep =
      let o = one_stands f front start ts s in
      more_stand f (front ++ i ∷ []) start o.after after o.spells o.allowed o.shallow
      (push front i o.after ts after o.more x ok deep)

  module _ (n : ℕ) where
    read : (i : Item) (items : List Item) (ts rest : List Placed) (o : OneStands i items ts rest) → length ts ≤ n
        → item_at types n ts ≡ Some (i, o.after)
    read i items ts rest o h = item_complete types n i ts o.after o.spells o.allowed o.shallow h

    -- items at the front go on with the one that is read there
    next_is : (i : Item) (ts after : List Placed) → length ts ≤ n → item_at types n ts ≡ Some (i, after)
        → (more : List Item) (rest : List Placed) → StandsAt types more ts rest
        → (length ts ≤ length rest) ⊎ ((others : List Item) × (more ≡ i ∷ others) × StandsAt types others after rest)
    next_is i ts after h e [] rest s = inl (omega (arith, ap length s.spells))
    next_is i ts after h e (j ∷ more) rest s =
        let o = one_stands j more ts rest s in
        let same : (j, o.after) ≡ (i, after) = some_same (j, o.after) (i, after) (sym (read j more ts rest o h) ∙ e) in
        let ends : o.after ≡ after = ap (λ z. z.1) same in
        inr (more, ap (λ z. z.0 ∷ more) same, subst (λ z. StandsAt types more z rest) ends o.more)

    -- where no item is read, none goes on
    stuck : (ts : List Placed) → length ts ≤ n → item_at types n ts ≡ None → (more : List Item) (rest : List Placed)
        → StandsAt types more ts rest → ts ≡ rest
    stuck ts h e [] rest s = s.spells
    stuck ts h e (j ∷ more) rest s = let o = one_stands j more ts rest s in let r = read j more ts rest o h in
        absurd (cc)

    pub unit_shorter : (i : Item) (ts after : List Placed) → item_at types n ts ≡ Some (i, after)
        → length after < length ts
    unit_shorter i ts after e = let r = item_sound types n ts (i, after) e in item_shorter types i ts after r.spells
        r.ok

    -- no item has no tokens
    nothing_at_end : (ts : List Placed) → ts ≡ [] → item_at types n ts ≡ None
    nothing_at_end ts empty = by_what (item_at types n ts) refl
      where
        by_what : (o : Option (Item × List Placed)) → item_at types n ts ≡ o → item_at types n ts ≡ None
        by_what None e = e
        by_what (Some x) e = absurd (omega (arith, unit_shorter x.0 ts x.1 e, ap length empty))

    items_zero : (ts : List Placed) → items_in types n zero ts ≡ ([], ts)
    unfolding items_in
    items_zero ts = refl

    items_stop : (k : ℕ) (ts : List Placed) → item_at types n ts ≡ None → items_in types n (suc k) ts ≡ ([], ts)
    unfolding items_in on_some
    items_stop k ts h = rw h refl

    items_go : (k : ℕ) (ts : List Placed) (x : Item × List Placed) → item_at types n ts ≡ Some x
        → items_in types n (suc k) ts ≡ (x.0 ∷ (items_in types n k x.1).0, (items_in types n k x.1).1)
    unfolding items_in on_some
    items_go k ts x h = rw h refl

    -- items that are all of the tokens are what is read
    all_read : (items : List Item) (k : ℕ) (ts : List Placed) → StandsAt types items ts [] → length ts ≤ k
        → length ts ≤ n → items_in types n k ts ≡ (items, [])
    all_read [] zero ts s f h = items_zero ts ∙ ap (λ (z : List Placed). ([], z)) s.spells
    all_read [] (suc k) ts s f h = items_stop k ts (nothing_at_end ts s.spells)
        ∙ ap (λ (z : List Placed). ([], z)) s.spells
    all_read (i ∷ items) zero ts s f h = let o = one_stands i items ts [] s in absurd
        (omega (arith, item_shorter types i ts o.after o.spells o.allowed))
    all_read (i ∷ items) (suc k) ts s f h =
        let o = one_stands i items ts [] s in
        let less = item_shorter types i ts o.after o.spells o.allowed in
        let e = all_read items k o.after o.more (omega arith) (omega arith) in
        items_go k ts (i, o.after) (read i items ts [] o h) ∙ ap (λ (z : List Item × List Placed). (i ∷ z.0, z.1)) e

  module _ (start : List Placed) where
    pub unit_begins : UnitTo types start [] start
    unit_begins = record { stands = none_stand start start refl; others = λ items rest s. inr (items, refl, s) }

    regroup : (front : List Item) (i : Item) (more : List Item) → front ++ (i ∷ more) ≡ (front ++ i ∷ []) ++ more
    regroup [] i more = refl
    regroup (f ∷ front) i more = ap (λ z. f ∷ z) (regroup front i more)

    abbrev Joined : List Item → List Item × List Placed → Type 0
    Joined front r = UnitTo types start (front ++ r.0) r.1

    pub unit_turns : (n : ℕ) (front : List Item) (i : Item) (ts after : List Placed) → length start ≤ n
        → UnitTo types start front ts → item_at types n ts ≡ Some (i, after)
        → UnitTo types start (front ++ i ∷ []) after
    unit_turns n front i ts after h u e =
        let r = item_sound types n ts (i, after) e in
        let less = item_shorter types i ts after r.spells r.ok in
        let fits : length ts ≤ n = omega (arith, items_no_longer front start ts u.stands, h) in
        record {
          stands = push front i start ts after u.stands r.spells r.ok r.shallow;
          others = λ items rest s. elim (u.others items rest s) [
            | inl h ↦ inl (omega arith)
            | inr m ↦ elim (next_is n i ts after fits e m.0 rest m.2) [
              | inl h ↦ inl (omega arith)
              | inr o ↦ inr (o.0, m.1 ∙ ap (λ z. front ++ z) o.1 ∙ regroup front i o.0, o.2)
            ]
          ];
        }

    -- wherever the loop stands, what it reads there goes on with it
    items_to : (n k : ℕ) (front : List Item) (ts : List Placed) → length start ≤ n → UnitTo types start front ts
        → UnitTo types start (front ++ (items_in types n k ts).0) (items_in types n k ts).1
    items_to n zero front ts h u = subst (Joined front) (sym (items_zero n ts))
        (subst (λ z. UnitTo types start z ts) (sym (append-nil front)) u)
    items_to n (suc k) front ts h u = by_what (item_at types n ts) refl (λ f us. items_to n k f us h)
      where
        by_what : (o : Option (Item × List Placed)) → item_at types n ts ≡ o
            → ((f : List Item) (us : List Placed) → UnitTo types start f us → Joined f (items_in types n k us))
            → Joined front (items_in types n (suc k) ts)
        by_what None e go = subst (Joined front) (sym (items_stop n k ts e)) (subst (λ z. UnitTo types start z ts)
            (sym (append-nil front)) u)
        by_what (Some x) e go =
            let next = go (front ++ x.0 ∷ []) x.1 (unit_turns n front x.0 ts x.1 h u e) in
            subst (Joined front) (sym (items_go n k ts x e))
            (subst (λ z. UnitTo types start z (items_in types n k x.1).1) (sym (regroup front x.0
            (items_in types n k x.1).0)) next)

    abbrev Ended : ℕ → List Item × List Placed → Type 0
    Ended n r = item_at types n r.1 ≡ None

    -- with enough turns, nothing more is read at the end
    items_end : (n k : ℕ) (ts : List Placed) → length ts ≤ k → item_at types n (items_in types n k ts).1 ≡ None
    items_end n zero ts h = subst (Ended n) (sym (items_zero n ts)) (nothing_at_end n ts (no_tokens ts h))
      where
        no_tokens : (ts : List Placed) → length ts ≤ 0 → ts ≡ []
        no_tokens [] h = refl
        no_tokens (t ∷ ts) h = absurd (omega arith)
    items_end n (suc k) ts h = by_what (item_at types n ts) refl (λ us. items_end n k us)
      where
        by_what : (o : Option (Item × List Placed)) → item_at types n ts ≡ o
            → ((us : List Placed) → length us ≤ k → Ended n (items_in types n k us))
            → Ended n (items_in types n (suc k) ts)
        by_what None e go = subst (Ended n) (sym (items_stop n k ts e)) e
        by_what (Some x) e go = subst (Ended n) (sym (items_go n k ts x e)) (go x.1
            (omega (arith, unit_shorter n x.0 ts x.1 e)))

module _ (start : List Placed) where
  abbrev own_words : List Name
  own_words = type_words (kinds start)

  -- a file is what stands at the front under its own type words and leaves nothing
  pub unit_stands : (items : List Item) → IsUnit items start → StandsAt own_words items start []
  unit_stands items u = record {
    spells = u.spells;
    allowed = subst (λ z. items_ok (type_words z) items ≡ true) (unit_kinds items start u.spells) u.levelled;
    shallow = u.shallow;
  }

  pub stands_unit : (items : List Item) → StandsAt own_words items start [] → IsUnit items start
  stands_unit items s = record {
    spells = s.spells;
    levelled = subst (λ z. items_ok (type_words z) items ≡ true) (sym (unit_kinds items start s.spells)) s.allowed;
    shallow = s.shallow;
  }

  pub unit_ends : (front : List Item) → UnitTo own_words start front [] → IsUnit front start
  unit_ends front u = stands_unit front u.stands

  pub unit_stops : (n : ℕ) (front : List Item) (ts : List Placed) (pos : Pos) → length start ≤ n
      → UnitTo own_words start front ts → item_at own_words n ts ≡ None → first_place ts ≡ Some pos
      → StopsAt start pos
  unit_stops n front ts pos h u e place = record {
    front = front;
    rest = ts;
    stands = u.stands;
    place = place;
    longest = λ items other s. elim (u.others items other s) [
      | inl h ↦ h
      | inr m ↦ omega (
        arith,
        ap length (stuck own_words n ts (omega (
          arith,
          items_no_longer own_words front start
              ts u.stands,
          h,
        )) e m.0 other m.2),
      )
    ];
  }

  -- where tokens stop, they are no file
  pub no_unit : (pos : Pos) → StopsAt start pos → (items : List Item) → IsUnit items start → ⊥
  no_unit pos stop items u = some_first stop.rest stop.place (stop.longest items [] (unit_stands items u))
    where
      some_first : (ts : List Placed) → first_place ts ≡ Some pos → length ts ≤ 0 → ⊥
      some_first [] e h = absurd (cc)
      some_first (t ∷ ts) e h = absurd (omega arith)

  -- a file is what is read
  pub unit_read : (n : ℕ) (items : List Item) → length start ≤ n → IsUnit items start
      → items_in own_words n (length start) start ≡ (items, [])
  unit_read n items h u = all_read own_words n items (length start) start (unit_stands items u) (omega arith) h

  -- at most one list of items
  pub one_unit : (items others : List Item) → IsUnit items start → IsUnit others start → items ≡ others
  one_unit items others u v =
      ap (λ r. r.0) (sym (unit_read (length start) items (omega arith) u)
      ∙ unit_read (length start) others (omega arith) v)

  read_to : (n : ℕ) → length start ≤ n → UnitTo own_words start (items_in own_words n (length start) start).0
      (items_in own_words n (length start) start).1
  read_to n h = items_to own_words start n (length start) [] start h (unit_begins own_words start)

  -- what is read is a file where nothing is left
  pub read_unit : (n : ℕ) → length start ≤ n → (items_in own_words n (length start) start).1 ≡ []
      → IsUnit (items_in own_words n (length start) start).0 start
  read_unit n h e = unit_ends _ (subst (λ z. UnitTo own_words start (items_in own_words n (length start) start).0 z)
      e (read_to n h))

  -- and where something is left, the tokens stop there
  pub read_stops : (n : ℕ) (pos : Pos) → length start ≤ n
      → first_place (items_in own_words n (length start) start).1 ≡ Some pos → StopsAt start pos
  read_stops n pos h e = unit_stops n _ _ pos h (read_to n h) (items_end own_words start n (length start) start
      (omega arith)) e
