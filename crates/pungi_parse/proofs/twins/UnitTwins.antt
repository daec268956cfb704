-- Items have twins: where the kinds of tokens are those of a file that is allowed, the same items with other places are
-- spelled by them. So where tokens are no file, no tree at all has their kinds.
--   LikeItem, LikeItems    allowed items, as deep as the others
--   twin_item, twin_items  the twin
--   unit_twin        the twin of a whole file
--   no_tree          no items that are allowed and no deeper than trees may be have the kinds of tokens that stop
use Rattle.std.proofs.Common.{◌≡◌, ℕ, ◌≤◌, true, List, [], ◌∷◌, ◌++◌, refl, sym, ◌∙◌, ap, subst, arith}
use Rattle.std.proofs.lemmas.List.{append-nil}
use Rattle.std.specs.Prelude.{◌&&◌}
use Rattle.pungi_base.specs.declared.key.Key.{Key}
use Rattle.pungi_base.specs.declared.key.Key.TheVariants as keys
use Rattle.pungi_base.specs.declared.kind.Kind.{Kind}
use Rattle.pungi_base.specs.declared.kind.Kind.TheVariants as kind
use Rattle.pungi_base.specs.declared.names.Name.{Name}
use Rattle.pungi_base.specs.declared.pos.Pos.{Pos}
use Rattle.pungi_base.specs.declared.punct.Punct.TheVariants as puncts
use Rattle.pungi_base.specs.Numbers.{py_doc_strvar}
use Rattle.pungi_parse.specs.item.UnitReader.{deepest}
use Rattle.pungi_parse.specs.Units.{IsUnit, StopsAt}
use Rattle.pungi_parse.proofs.twins.ExprTwins.{twin_spec, twin_params}
use Rattle.pungi_parse.proofs.twins.DeclTwins.{twin_decl}
use Rattle.pungi_parse.proofs.twins.StmtTwins.{twin_stmt}
use Rattle.pungi_parse.proofs.Tools.{and_true, and_join}
use Rattle.pungi_parse.proofs.twins.Twin.{Twin, Alike, wider, first_of, two_of, again, ends_with, twin_keys, twin_stars}
use Rattle.pungi_parse.proofs.twins.Twin.{twin_texts}
use Rattle.pungi_parse.proofs.item.UnitLoop.{stands_unit, no_unit}
use Rattle.pungi_tree.specs.ExprDepth.{spec_depth, params_depth}
use Rattle.pungi_tree.specs.ExprFlat.{spec_flat, params_flat}
use Rattle.pungi_tree.specs.ExprLevels.{spec_ok, params_ok}
use Rattle.pungi_tree.specs.ExprSpells.{SpellsStars, SpellsTexts}
use Rattle.pungi_tree.specs.Operators.{is_qualifier, all_keys}
use Rattle.pungi_tree.specs.Placed.{Placed, kinds, mark_at, word_at}
use Rattle.pungi_tree.specs.StmtDepth.{stmt_depth}
use Rattle.pungi_tree.specs.StmtFlat.{stmt_flat}
use Rattle.pungi_tree.specs.StmtLevels.{stmt_ok}
use Rattle.pungi_tree.specs.Syntax.{Spec, Params, head, Item, nothing, doc, typedef, tag, variables, prototype}
use Rattle.pungi_tree.specs.Syntax.{function_def}
use Rattle.pungi_tree.specs.Tokens.{mark, key, named_word, keys_flat, texts_flat, stars_flat}
use Rattle.pungi_tree.specs.TypeWords.{is_word, type_words}
use Rattle.pungi_tree.specs.UnitDepth.{item_depth, items_depth}
use Rattle.pungi_tree.specs.UnitFlat.{signature_flat, item_flat, items_flat}
use Rattle.pungi_tree.specs.UnitLevels.{is_block, signature_ok, item_ok, items_ok, is_levelled}
use Rattle.pungi_tree.specs.UnitSpells.{SpellsHead, SpellsItem, SpellsItems}

module _ (types : List Name) where
  abbrev LikeItem : Item → Item → Type 0
  LikeItem i x = Alike (item_ok types x) (item_depth x) (item_depth i)

  abbrev pub LikeItems : List Item → List Item → Type 0
  LikeItems items x = Alike (items_ok types x) (items_depth x) (items_depth items)

  -- a type, the place of a name, and parameters
  record LikeHead (qs : List Key) (b : Spec) (n : Name) (ps : Params) (x : Spec × Pos × Params) : Type 0 where
    pub ok : signature_ok types qs x.0 n x.2 ≡ true
    pub spec : spec_depth x.0 ≡ spec_depth b
    pub params : params_depth x.2 ≡ params_depth ps

  twin_head : (qs : List Key) (b : Spec) (ns : List ℕ) (n : Name) (ps : Params) (ts : List Placed)
      (more : List Kind) → kinds ts ≡ signature_flat qs b ns n ps ++ more → signature_ok types qs b n ps ≡ true
      → Twin (Spec × Pos × Params) (λ x. SpellsHead (head qs x.0 ns n x.1 x.2)) (LikeHead qs b n ps) ts more
  twin_head qs b ns n ps ts more h ok =
      let o = and_true (all_keys is_qualifier qs) (spec_ok types b && (is_word types n && params_ok types ps)) ok in
      let q = and_true (spec_ok types b) (is_word types n && params_ok types ps) o.1 in
      let r = and_true (is_word types n) (params_ok types ps) q.1 in
      let list = params_flat ps ++ mark puncts.RightParen ∷ [] in
      let name = kind.Word n ∷ mark puncts.LeftParen ∷ list in
      let k = twin_keys qs ts ((spec_flat b ++ (stars_flat ns ++ name)) ++ more)
      (again _ (keys_flat qs) (spec_flat b ++ (stars_flat ns ++ name)) more h) in
      let i = twin_spec types b k.0 ((stars_flat ns ++ name)
      ++ more) (again _ (spec_flat b) (stars_flat ns ++ name) more k.2) q.0 in
      let s = twin_stars ns i.rest (name ++ more) (again _ (stars_flat ns) name more i.behind) in
      let f = two_of s.0 (kind.Word n) (mark puncts.LeftParen) (list ++ more) s.2 in
      let j = twin_params types ps f.0 (mark puncts.RightParen
      ∷ more) (again _ (params_flat ps) (mark puncts.RightParen ∷ []) more f.4) r.1 in
      let c = ends_with (mark puncts.RightParen) more j in
      record {
        twin = (i.twin, f.1, j.twin);
        rest = c.0;
        spells = (
          k.0,
          i.rest,
          f.0,
          f.2,
          c.1,
          k.1,
          i.spells,
          subst
              (λ z. SpellsStars ns i.rest z) f.3 s.1,
          c.2,
        );
        behind = c.3;
        alike = record {
          ok = and_join _ _ o.0 (and_join _ _ i.alike.ok (and_join _ _ r.0 j.alike.ok));
          spec = i.alike.deep;
          params
              = j.alike.deep;
        };
      }

  pub twin_item : (i : Item) (ts : List Placed) (more : List Kind) → kinds ts ≡ item_flat i ++ more
      → item_ok types i ≡ true → Twin Item SpellsItem (LikeItem i) ts more
  twin_item (nothing p) ts more h ok =
      let f = first_of ts (mark puncts.Semicolon) more h in
      record { twin = nothing f.1; rest = f.0; spells = f.2; behind = f.3; alike = record { ok = refl; deep = refl } }
  twin_item (doc p n ns) ts more h ok =
      let f = two_of ts (kind.Word (named_word py_doc_strvar)) (mark puncts.LeftParen)
      (kind.Word n ∷ mark puncts.Comma ∷ ((texts_flat ns ++ mark puncts.RightParen ∷ []) ++ more)) h in
      let g = two_of f.0 (kind.Word n) (mark puncts.Comma) ((texts_flat ns ++ mark puncts.RightParen ∷ []) ++ more)
      f.4 in
      let r = twin_texts ns g.0 (mark puncts.RightParen ∷ more) (again _ (texts_flat ns)
      (mark puncts.RightParen ∷ []) more g.4) in
      let c = first_of r.0 (mark puncts.RightParen) more r.2 in
      let at = f.3 ∙ ap (λ z. word_at (named_word py_doc_strvar) f.1 ∷ mark_at puncts.LeftParen f.2 ∷ z) g.3 in
      record {
        twin = doc g.1 n ns;
        rest = c.0;
        spells = (
          g.0,
          f.1,
          f.2,
          g.2,
          c.1,
          at,
          subst
              (λ z. SpellsTexts ns g.0 z) c.2 r.1,
        );
        behind = c.3;
        alike = record { ok = ok; deep = refl };
      }
  twin_item (typedef b ns n p) ts more h ok =
      let name = kind.Word n ∷ mark puncts.Semicolon ∷ [] in
      let f = first_of ts (key keys.Typedef) ((spec_flat b ++ (stars_flat ns ++ name)) ++ more) h in
      let i = twin_spec types b f.0 ((stars_flat ns ++ name)
      ++ more) (again _ (spec_flat b) (stars_flat ns ++ name) more f.3) ok in
      let s = twin_stars ns i.rest (name ++ more) (again _ (stars_flat ns) name more i.behind) in
      let c = two_of s.0 (kind.Word n) (mark puncts.Semicolon) more s.2 in
      record {
        twin = typedef i.twin ns n c.1;
        rest = c.0;
        spells = (
          f.0,
          i.rest,
          f.1,
          c.2,
          f.2,
          i.spells,
          subst
              (λ z. SpellsStars ns i.rest z) c.3 s.1,
        );
        behind = c.4;
        alike = record {
          ok = i.alike.ok;
          deep = i.alike.deep;
        };
      }
  twin_item (tag qs b) ts more h ok =
      let o = and_true (all_keys is_qualifier qs) (spec_ok types b) ok in
      let k = twin_keys qs ts ((spec_flat b ++ mark puncts.Semicolon ∷ []) ++ more)
      (again _ (keys_flat qs) (spec_flat b ++ mark puncts.Semicolon ∷ []) more h) in
      let i = twin_spec types b k.0 (mark puncts.Semicolon
      ∷ more) (again _ (spec_flat b) (mark puncts.Semicolon ∷ []) more k.2) o.1 in
      let c = ends_with (mark puncts.Semicolon) more i in
      record {
        twin = tag qs i.twin;
        rest = c.0;
        spells = (k.0, c.1, k.1, c.2);
        behind = c.3;
        alike = record
            { ok = and_join _ _ o.0 i.alike.ok; deep = i.alike.deep };
      }
  twin_item (variables d) ts more h ok =
      let i = twin_decl types d ts more h ok in
      record {
        twin = variables i.twin;
        rest = i.rest;
        spells = i.spells;
        behind = i.behind;
        alike = record
            { ok = i.alike.ok; deep = i.alike.deep };
      }
  twin_item (prototype (head qs b ns n p ps)) ts more h ok =
      let i = twin_head qs b ns n ps ts (mark puncts.Semicolon
      ∷ more) (again _ (signature_flat qs b ns n ps) (mark puncts.Semicolon ∷ []) more h) ok in
      let c = ends_with (mark puncts.Semicolon) more i in
      record {
        twin = prototype (head qs i.twin.0 ns n i.twin.1 i.twin.2);
        rest = c.0;
        spells = (c.1, c.2);
        behind
            = c.3;
        alike = record { ok = i.alike.ok; deep = wider _ _ _ _ i.alike.spec i.alike.params };
      }
  twin_item (function_def (head qs b ns n p ps) body) ts more h ok =
      let o = and_true (signature_ok types qs b n ps) (is_block body && stmt_ok types body) ok in
      let q = and_true (is_block body) (stmt_ok types body) o.1 in
      let i = twin_head qs b ns n ps ts (stmt_flat body ++ more) (again _ (signature_flat qs b ns n ps)
      (stmt_flat body) more h) o.0 in
      let j = twin_stmt types body i.rest more i.behind q.1 in
      record {
        twin = function_def (head qs i.twin.0 ns n i.twin.1 i.twin.2) j.twin;
        rest = j.rest;
        spells
            = (i.rest, i.spells, j.spells);
        behind = j.behind;
        alike = record {
          ok = and_join _ _ i.alike.ok
              (and_join _ _ (j.alike.block ∙ q.0) j.alike.ok);
          deep = wider _ _ _ _ i.alike.spec
              (wider (params_depth i.twin.2) (params_depth ps) (stmt_depth j.twin) (stmt_depth body) i.alike.params
              j.alike.deep);
        };
      }

  pub twin_items : (items : List Item) (ts : List Placed) (more : List Kind) → kinds ts ≡ items_flat items ++ more
      → items_ok types items ≡ true → Twin (List Item) SpellsItems (LikeItems items) ts more
  twin_items [] ts more h ok = record {
    twin = [];
    rest = ts;
    spells = refl;
    behind = h;
    alike = record
        { ok = refl; deep = refl };
  }
  twin_items (i ∷ items) ts more h ok =
      let o = and_true (item_ok types i) (items_ok types items) ok in
      let x = twin_item i ts (items_flat items ++ more) (again _ (item_flat i) (items_flat items) more h) o.0 in
      let y = twin_items items x.rest more x.behind o.1 in
      record {
        twin = x.twin ∷ y.twin;
        rest = y.rest;
        spells = (x.rest, x.spells, y.spells);
        behind = y.behind;
        alike = record { ok = and_join _ _ x.alike.ok y.alike.ok; deep = wider _ _ _ _ x.alike.deep y.alike.deep };
      }

  -- the items with the places of the tokens
  pub record UnitTwin (items : List Item) (ts : List Placed) : Type 0 where
    pub twin : List Item
    pub spells : SpellsItems twin ts []
    pub ok : items_ok types twin ≡ true
    pub deep : items_depth twin ≡ items_depth items

  pub unit_twin : (items : List Item) (ts : List Placed) → items_flat items ≡ kinds ts → items_ok types items ≡ true
      → UnitTwin items ts
  unit_twin items ts h ok =
      let i = twin_items items ts [] (sym h ∙ sym (append-nil (items_flat items))) ok in
      record {
        twin = i.twin;
        spells = subst (λ z. SpellsItems i.twin ts z) (no_kinds i.rest i.behind) i.spells;
        ok
            = i.alike.ok;
        deep = i.alike.deep;
      }
    where
      no_kinds : (rest : List Placed) → kinds rest ≡ [] → rest ≡ []
      no_kinds [] h = refl
      no_kinds (t ∷ rest) h = absurd (cc)

-- a file with these kinds has a twin that is the file of the tokens
pub is_unit_twin : (items : List Item) (ts : List Placed) → items_flat items ≡ kinds ts → is_levelled items ≡ true
    → items_depth items ≤ deepest → (twin : List Item) × IsUnit twin ts
is_unit_twin items ts h ok deep =
    let t = unit_twin (type_words (kinds ts)) items ts h (subst (λ z. items_ok (type_words z) items ≡ true) h ok) in (
      t.twin,
      stands_unit ts t.twin (record {
        spells = t.spells;
        allowed = t.ok;
        shallow = omega
            (arith, t.deep, deep);
      }),
    )

-- where tokens stop, no allowed items of any depth that trees may have list their kinds
pub no_tree : (ts : List Placed) (pos : Pos) → StopsAt ts pos → (items : List Item) → items_flat items ≡ kinds ts
    → is_levelled items ≡ true → items_depth items ≤ deepest → ⊥
no_tree ts pos stop items h ok deep = let t = is_unit_twin items ts h ok deep in no_unit ts pos stop t.0 t.1
