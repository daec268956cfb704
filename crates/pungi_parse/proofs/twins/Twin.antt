-- A tree that lists the kinds of some tokens has a twin that they spell: the same tree with the places of these tokens.
--   Twin X spelled like ts more    a tree that stands at the front of the tokens and is like the first one, where these
--                                  kinds follow
--   Alike allowed d e    it is allowed, and as deep as the other
--   deeper, wider, deeper_two    equal depths under a node, side by side, and both
--   same_head, same_tail    equal lists have equal parts
--   first_of, two_of    tokens whose kinds begin so
--   again            the front of lists in a row
--   twin_texts, twin_keys, twin_consts, twin_stars    what has no places of its own is spelled as it is
--   twin_tag, twin_void, twin_dots    a tag, the lone `void`, and `, ...`
use Rattle.std.proofs.Common.{◌≡◌, ℕ, zero, suc, ◌+◌, ◌<◌, max, Bool, true, false, List, [], ◌∷◌, ◌++◌, length, Option}
use Rattle.std.proofs.Common.{Some, None, refl, ◌∙◌, ap, subst, arith, append_assoc}
use Rattle.std.specs.Prelude.{◌&&◌, is_some, is_none}
use Rattle.pungi_base.specs.declared.key.Key.{Key}
use Rattle.pungi_base.specs.declared.key.Key.TheVariants as keys
use Rattle.pungi_base.specs.declared.kind.Kind.{Kind}
use Rattle.pungi_base.specs.declared.kind.Kind.TheVariants as kind
use Rattle.pungi_base.specs.declared.names.Name.{Name}
use Rattle.pungi_base.specs.declared.pos.Pos.{Pos}
use Rattle.pungi_base.specs.declared.punct.Punct.TheVariants as puncts
use Rattle.pungi_tree.specs.ExprLevels.{tag_ok}
use Rattle.pungi_tree.specs.ExprSpells.{SpellsTexts, SpellsKeys, SpellsConsts, SpellsStars, SpellsTag, SpellsVoid}
use Rattle.pungi_tree.specs.ExprSpells.{SpellsDots}
use Rattle.pungi_tree.specs.Placed.{Placed, kinds, first_place}
use Rattle.pungi_tree.specs.Tokens.{keys_flat, texts_flat, consts_flat, stars_flat, tag_flat, void_flat, dots_flat}

pub record Twin (X : Type 0) (spelled : X → List Placed → List Placed → Type 0) (like : X → Type 0)
    (ts : List Placed) (more : List Kind) : Type 0 where
  pub twin : X
  pub rest : List Placed
  pub spells : spelled twin ts rest
  pub behind : kinds rest ≡ more
  pub alike : like twin

pub record Alike (allowed : Bool) (d e : ℕ) : Type 0 where
  pub ok : allowed ≡ true
  pub deep : d ≡ e

pub deeper : (a b : ℕ) → a ≡ b → a + 1 ≡ b + 1
deeper a b h = ap (λ z. z + 1) h

pub wider : (a b c d : ℕ) → a ≡ b → c ≡ d → max a c ≡ max b d
wider a b c d h k = rw (h, k) refl

pub deeper_two : (a b c d : ℕ) → a ≡ b → c ≡ d → max a c + 1 ≡ max b d + 1
deeper_two a b c d h k = rw (h, k) refl

pub same_head : (a b : Kind) (xs ys : List Kind) → a ∷ xs ≡ b ∷ ys → a ≡ b
same_head a b xs ys h = cc

pub same_tail : (a b : Kind) (xs ys : List Kind) → a ∷ xs ≡ b ∷ ys → xs ≡ ys
same_tail a b xs ys h = cc

pub first_of : (ts : List Placed) (k : Kind) (more : List Kind) → kinds ts ≡ k ∷ more
    → (us : List Placed) × (p : Pos) × (ts ≡ (k, p) ∷ us) × (kinds us ≡ more)
first_of [] k more h = absurd (cc)
first_of (t ∷ ts) k more h =
    (ts, t.1, ap (λ z. (z, t.1) ∷ ts) (same_head t.0 k (kinds ts) more h), same_tail t.0 k (kinds ts) more h)

pub two_of : (ts : List Placed) (j k : Kind) (more : List Kind) → kinds ts ≡ j ∷ k ∷ more
    → (us : List Placed) × (p q : Pos) × (ts ≡ (j, p) ∷ (k, q) ∷ us) × (kinds us ≡ more)
two_of ts j k more h =
    let a = first_of ts j (k ∷ more) h in
    let b = first_of a.0 k more a.3 in
    (b.0, a.1, b.1, a.2 ∙ ap (λ z. (j, a.1) ∷ z) b.2, b.3)

pub again : (x a b c : List Kind) → x ≡ (a ++ b) ++ c → x ≡ a ++ (b ++ c)
again x a b c h = h ∙ append_assoc a b c

-- tokens that are more than others have a first one
pub some_place : (ts rest : List Placed) → length rest < length ts → (p : Pos) × (first_place ts ≡ Some p)
some_place [] rest h = absurd (omega arith)
some_place (t ∷ ts) rest h = (t.1, refl)

pub twin_texts : (ns : List Name) (ts : List Placed) (more : List Kind) → kinds ts ≡ texts_flat ns ++ more
    → (rest : List Placed) × SpellsTexts ns ts rest × (kinds rest ≡ more)
twin_texts [] ts more h = (ts, refl, h)
twin_texts (n ∷ ns) ts more h =
    let f = first_of ts (kind.Text n) (texts_flat ns ++ more) h in
    let r = twin_texts ns f.0 more f.3 in
    (r.0, (f.0, f.1, f.2, r.1), r.2)

pub twin_keys : (ks : List Key) (ts : List Placed) (more : List Kind) → kinds ts ≡ keys_flat ks ++ more
    → (rest : List Placed) × SpellsKeys ks ts rest × (kinds rest ≡ more)
twin_keys [] ts more h = (ts, refl, h)
twin_keys (k ∷ ks) ts more h =
    let f = first_of ts (kind.Key k) (keys_flat ks ++ more) h in
    let r = twin_keys ks f.0 more f.3 in
    (r.0, (f.0, f.1, f.2, r.1), r.2)

pub twin_consts : (n : ℕ) (ts : List Placed) (more : List Kind) → kinds ts ≡ consts_flat n ++ more
    → (rest : List Placed) × SpellsConsts n ts rest × (kinds rest ≡ more)
twin_consts zero ts more h = (ts, refl, h)
twin_consts (suc n) ts more h =
    let f = first_of ts (kind.Key keys.Const) (consts_flat n ++ more) h in
    let r = twin_consts n f.0 more f.3 in
    (r.0, (f.0, f.1, f.2, r.1), r.2)

pub twin_stars : (ns : List ℕ) (ts : List Placed) (more : List Kind) → kinds ts ≡ stars_flat ns ++ more
    → (rest : List Placed) × SpellsStars ns ts rest × (kinds rest ≡ more)
twin_stars [] ts more h = (ts, refl, h)
twin_stars (n ∷ ns) ts more h =
    let f = first_of ts (kind.Punct puncts.Star) ((consts_flat n ++ stars_flat ns) ++ more) h in
    let c = twin_consts n f.0 (stars_flat ns ++ more) (again _ (consts_flat n) (stars_flat ns) more f.3) in
    let r = twin_stars ns c.0 more c.2 in
    (r.0, (f.0, c.0, f.1, f.2, c.1, r.1), r.2)

pub record LikeTag (types : List Name) (tag other : Option (Name × Pos)) : Type 0 where
  pub allowed : tag_ok types other ≡ tag_ok types tag
  pub there : is_some other ≡ is_some tag

pub twin_tag : (types : List Name) (tag : Option (Name × Pos)) (ts : List Placed) (more : List Kind)
    → kinds ts ≡ tag_flat tag ++ more → Twin (Option (Name × Pos)) SpellsTag (LikeTag types tag) ts more
twin_tag types None ts more h =
    record { twin = None; rest = ts; spells = refl; behind = h; alike = record { allowed = refl; there = refl } }
twin_tag types (Some t) ts more h =
    let f = first_of ts (kind.Word t.0) more h in
    record {
      twin = Some (t.0, f.1);
      rest = f.0;
      spells = f.2;
      behind = f.3;
      alike = record
          { allowed = refl; there = refl };
    }

pub twin_void : (v : Bool) (ts : List Placed) (more : List Kind) → kinds ts ≡ void_flat v ++ more
    → (rest : List Placed) × SpellsVoid v ts rest × (kinds rest ≡ more)
twin_void true ts more h = let f = first_of ts (kind.Key keys.Void) more h in (f.0, (f.1, f.2), f.3)
twin_void false ts more h = (ts, refl, h)

pub twin_dots : (dots : Option Pos) (ts : List Placed) (more : List Kind) → kinds ts ≡ dots_flat dots ++ more
    → Twin (Option Pos) SpellsDots (λ x. is_none x ≡ is_none dots) ts more
twin_dots None ts more h = record { twin = None; rest = ts; spells = refl; behind = h; alike = refl }
twin_dots (Some p) ts more h =
    let f = two_of ts (kind.Punct puncts.Comma) (kind.Punct puncts.Ellipsis) more h in
    record { twin = Some f.2; rest = f.0; spells = (f.1, f.3); behind = f.4; alike = refl }

-- a twin before one token, or before two
pub ends_with : {X : Type 0} {spelled : X → List Placed → List Placed → Type 0} {like : X → Type 0}
    {ts : List Placed} (k : Kind) (more : List Kind) (i : Twin X spelled like ts (k ∷ more))
    → (us : List Placed) × (p : Pos) × spelled i.twin ts ((k, p) ∷ us) × (kinds us ≡ more)
ends_with {spelled} {ts} k more i =
    let f = first_of i.rest k more i.behind in
    (f.0, f.1, subst (λ z. spelled i.twin ts z) f.2 i.spells, f.3)

pub ends_with_two : {X : Type 0} {spelled : X → List Placed → List Placed → Type 0} {like : X → Type 0}
    {ts : List Placed} (j k : Kind) (more : List Kind) (i : Twin X spelled like ts (j ∷ k ∷ more))
    → (us : List Placed) × (p q : Pos) × spelled i.twin ts ((j, p) ∷ (k, q) ∷ us) × (kinds us ≡ more)
ends_with_two {spelled} {ts} j k more i =
    let f = two_of i.rest j k more i.behind in
    (f.0, f.1, f.2, subst (λ z. spelled i.twin ts z) f.3 i.spells, f.4)

pub same_void : (a b c d e : Bool) → c ≡ b → e ≡ d → (a && (c && e)) ≡ (a && (b && d))
same_void a b c d e h k = rw (h, k) refl
