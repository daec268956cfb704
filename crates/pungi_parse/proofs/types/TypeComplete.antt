-- A type or a declarator that stands at the front of the tokens is read, by what is known of its parts.
--   .._reads, .._read    the reader of the same name reads it
use Rattle.std.proofs.Common.{◌≡◌, ℕ, zero, suc, ◌<◌, ◌≤◌, Bool, true, false, ◌&&◌, List, [], ◌∷◌, length, Option, Some}
use Rattle.std.proofs.Common.{None, refl, sym, ap, subst, arith}
use Rattle.pungi_base.specs.declared.key.Key.{Key}
use Rattle.pungi_base.specs.declared.key.Key.TheVariants as keys
use Rattle.pungi_base.specs.declared.names.Name.{Name}
use Rattle.pungi_base.specs.declared.pos.Pos.{Pos}
use Rattle.pungi_base.specs.declared.punct.Punct.TheVariants as puncts
use Rattle.pungi_parse.specs.tokens.OneToken.{eat, eat_listed}
use Rattle.pungi_parse.specs.Reading.{chain, on_some, when, unless}
use Rattle.pungi_parse.specs.Readers.{readers}
use Rattle.pungi_parse.specs.types.TypeReader.{Lower, stars, type_word, plain_word, sizes_in, sizes_at, function_rest}
use Rattle.pungi_parse.specs.types.TypeReader.{declr_rest, declr_at, more_declrs, declrs, field, fields, fields_at}
use Rattle.pungi_parse.specs.types.TypeReader.{aggregate, base_at, spec_at, type_name_at}
use Rattle.pungi_parse.proofs.tokens.Ends.{SpecEnds, DeclrEnds, ends_at_bracket}
use Rattle.pungi_parse.proofs.trees.Facts.{ExprReads, SpecReads, ParamsReads, TypeNameReads, BaseReads, FieldReads}
use Rattle.pungi_parse.proofs.trees.Facts.{FieldsRead, TailReads, DeclrReads, DeclrsRead, MoreDeclrsRead, SizesRead}
use Rattle.pungi_parse.proofs.trees.Facts.{TypeEnds}
use Rattle.pungi_parse.proofs.trees.Fronts.{expr_begins, spec_begins, decl_begins}
use Rattle.pungi_parse.proofs.trees.Shorter.{expr_no_longer, spec_shorter, spec_no_longer, declr_no_longer}
use Rattle.pungi_parse.proofs.trees.Shorter.{declrs_no_longer}
use Rattle.pungi_parse.proofs.Tools.{and_true, not_true}
use Rattle.pungi_parse.proofs.tokens.WordReadings.{keywords_complete, consts_complete, stars_complete}
use Rattle.pungi_parse.proofs.tokens.WordReadings.{type_word_complete, plain_word_complete, keys_no_longer}
use Rattle.pungi_parse.proofs.tokens.WordReadings.{stars_no_longer}
use Rattle.pungi_tree.specs.ExprDepth.{fields_depth}
use Rattle.pungi_tree.specs.ExprLevels.{expr_at, spec_ok, field_ok, fields_ok, declr_ok, declrs_ok, some_declrs_ok}
use Rattle.pungi_tree.specs.ExprLevels.{sizes_ok}
use Rattle.pungi_tree.specs.ExprSpells.{SpellsStars, SpellsConsts, SpellsField, SpellsFields, SpellsDeclr, SpellsDeclrs}
use Rattle.pungi_tree.specs.ExprSpells.{SpellsMoreDeclrs, SpellsTail}
use Rattle.pungi_tree.specs.Operators.{is_base_word, is_qualifier, is_aggregate, all_keys}
use Rattle.pungi_tree.specs.Placed.{Placed, mark_at, word_at}
use Rattle.pungi_tree.specs.Syntax.{Expr, type_name, Spec, spec, Base, words, alias, tagged, tagged_fields, Field}
use Rattle.pungi_tree.specs.Syntax.{empty, members, Fields, no_fields, field_and, Declr, declr, Declrs, no_declrs}
use Rattle.pungi_tree.specs.Syntax.{declr_and, Tail, sizes, function, Sizes, no_sizes, open_and, size_and, Params}
use Rattle.pungi_tree.specs.TypeWords.{is_type, is_word}

-- what a declared name and what is after it begin with stops a type and pointers
pub tail_begins : (w : Name) (p : Pos) (t : Tail) (ts rest : List Placed) → SpellsTail w p t ts rest → TypeEnds ts
tail_begins w p (sizes ss) ts rest s =
    subst TypeEnds (sym s.1) (record {
      spec = record { no_const = refl; no_base_word = refl; no_brace = refl };
      stars = record { no_star = refl; no_const = refl };
    })
tail_begins w p (function ps) ts rest s =
    subst TypeEnds (sym s.6) (record {
      spec = record { no_const = refl; no_base_word = refl; no_brace = refl };
      stars = record { no_star = refl; no_const = refl };
    })

-- pointers, or what is after them, stop a type
pub stars_begin : (ss : List ℕ) (ts rest : List Placed) → SpellsStars ss ts rest → SpecEnds rest → SpecEnds ts
stars_begin [] ts rest s e = subst SpecEnds (sym s) e
stars_begin (n ∷ ss) ts rest s e =
    subst SpecEnds (sym s.3) (record { no_const = refl; no_base_word = refl; no_brace = refl })

pub declr_begins : (c : Declr) (ts rest : List Placed) → SpellsDeclr c ts rest → SpecEnds ts
declr_begins (declr ss w p t) ts rest s = stars_begin ss ts s.0 s.1 (tail_begins w p t s.0 rest s.2).spec

aggregate_no_base : (k : Key) → is_aggregate k ≡ true → is_base_word k ≡ false
aggregate_no_base keys.Struct h = refl
aggregate_no_base keys.Union h = refl
aggregate_no_base _ h = absurd (cc)

-- `const`, or what is after it, stops the words of a type
consts_begin : (n : ℕ) (ts rest : List Placed) → SpellsConsts n ts rest → SpecEnds rest
    → (eat_listed is_base_word ts ≡ None) × (eat puncts.LeftBrace ts ≡ None)
consts_begin zero ts rest s e = (rw s e.no_base_word, rw s e.no_brace)
consts_begin (suc n) ts rest s e = (rw s.2 refl, rw s.2 refl)

module _ (types : List Name) where
  pub type_name_reads : (c : Spec) (ss : List ℕ) → SpecReads types c → TypeNameReads types (type_name c ss)
  unfolding type_name_at chain
  type_name_reads c ss f n d ts rest s ok deep long e =
      let r = f n d ts s.0 s.1 ok deep long (stars_begin ss s.0 rest s.2 e.spec) in
      rw (r, stars_complete ss s.0 rest s.2 e.stars) refl

  pub sizes_end : SizesRead types no_sizes
  unfolding sizes_in on_some
  sizes_end n d zero ts rest s ok deep long fuel e = absurd (omega (arith, fuel))
  sizes_end n d (suc k) ts rest s ok deep long fuel e = rw (s, e.no_size) refl

  pub sizes_open : (ss : Sizes) → SizesRead types ss → SizesRead types (open_and ss)
  unfolding sizes_in on_some chain
  sizes_open ss f n d zero ts rest s ok deep long fuel e = absurd (omega (arith, fuel))
  sizes_open ss f n d (suc k) ts rest s ok deep long fuel e =
      let r = f n d k s.0 rest s.4 ok deep (omega (arith, long, ap length s.3)) (omega (arith, fuel, ap length s.3))
      e in
      rw (s.3, r) refl

  pub sizes_expr : (x : Expr) (ss : Sizes) → ExprReads types x → SizesRead types ss → SizesRead types (size_and x ss)
  unfolding sizes_in on_some chain
  sizes_expr x ss g f n d zero ts rest s ok deep long fuel e = absurd (omega (arith, fuel))
  sizes_expr x ss g f n d (suc k) ts rest s ok deep long fuel e =
      let a = and_true (expr_at types 0 x) (sizes_ok types ss) ok in
      let i = expr_no_longer x _ _ s.5 in
      let b : eat puncts.RightBracket s.0 ≡ None = (expr_begins types 0 x s.0 _ s.5 a.0).no_mark puncts.RightBracket
      refl in
      let r = g n d 0 s.0 _ s.5 a.0 (omega (arith, deep)) (omega (arith, long, ap length s.4))
      (ends_at_bracket s.3 s.1) (omega arith) in
      let t = f n d k s.1 rest s.6 a.1 (omega (arith, deep)) (omega (arith, long, i, ap length s.4))
      (omega (arith, fuel, i, ap length s.4)) e in
      rw (s.4, b, r, t) refl

  pub tail_sizes : (ss : Sizes) → SizesRead types ss → TailReads types (sizes ss)
  unfolding declr_rest sizes_at on_some chain
  tail_sizes ss f n d stars w p ts rest s word ok deep long e =
      let r = f n d (suc (length s.0)) s.0 rest s.2 ok deep (omega (arith, long, ap length s.1)) (omega arith) e in
      rw (s.1, plain_word_complete types w p s.0 word, r) refl

  pub tail_function : (ps : Params) → ParamsReads types ps → TailReads types (function ps)
  unfolding declr_rest function_rest plain_word on_some chain unless
  tail_function ps f n d stars w p ts rest s word ok deep long e =
      let r = f n d s.5 s.0 rest s.7 ok deep (omega (arith, long, ap length s.6)) in
      rw (s.6, not_true _ word, r) refl

  pub declr_reads : (ss : List ℕ) (w : Name) (p : Pos) (t : Tail) → TailReads types t
      → DeclrReads types (declr ss w p t)
  unfolding declr_at
  declr_reads ss w p t f n d ts rest s ok deep long e =
      let a = and_true (is_word types w) _ ok in
      let r = f n d ss w p s.0 rest s.2 a.0 a.1 deep (omega (arith, long, stars_no_longer ss ts s.0 s.1)) e in
      rw (stars_complete ss ts s.0 s.1 (tail_begins w p t s.0 rest s.2).stars) r

  pub more_declrs_end : MoreDeclrsRead types no_declrs
  unfolding more_declrs on_some
  more_declrs_end n d zero q ts rest s ok deep long fuel = absurd (omega (arith, fuel))
  more_declrs_end n d (suc k) q ts rest s ok deep long fuel = rw s refl

  -- a comma or a semicolon stops a declarator
  more_declrs_begin : (ds : Declrs) (q : Pos) (ts rest : List Placed)
      → SpellsMoreDeclrs ds ts (mark_at puncts.Semicolon q ∷ rest) → DeclrEnds ts
  more_declrs_begin no_declrs q ts rest s = subst DeclrEnds (sym s) (record { no_size = refl })
  more_declrs_begin (declr_and c ds) q ts rest s = subst DeclrEnds (sym s.3) (record { no_size = refl })

  pub more_declrs_and : (c : Declr) (ds : Declrs) → DeclrReads types c → MoreDeclrsRead types ds
      → MoreDeclrsRead types (declr_and c ds)
  unfolding more_declrs on_some chain
  more_declrs_and c ds g f n d zero q ts rest s ok deep long fuel = absurd (omega (arith, fuel))
  more_declrs_and c ds g f n d (suc k) q ts rest s ok deep long fuel =
      let a = and_true (declr_ok types c) (declrs_ok types ds) ok in
      let i = declr_no_longer c _ _ s.4 in
      let r = g n d s.0 s.1 s.4 a.0 (omega (arith, deep)) (omega (arith, long, ap length s.3))
      (more_declrs_begin ds q s.1 rest s.5) in
      let t = f n d k q s.1 rest s.5 a.1 (omega (arith, deep)) (omega (arith, long, i, ap length s.3))
      (omega (arith, fuel, i, ap length s.3)) in
      rw (s.3, r, t) refl

  pub declrs_read : (c : Declr) (ds : Declrs) → DeclrReads types c → MoreDeclrsRead types ds
      → DeclrsRead types (declr_and c ds)
  unfolding declrs chain
  declrs_read c ds g f n d q ts rest s ok deep long =
      let a = and_true (declr_ok types c) (declrs_ok types ds) ok in
      let i = declr_no_longer c _ _ s.1 in
      let r = g n d ts s.0 s.1 a.0 (omega (arith, deep)) long (more_declrs_begin ds q s.0 rest s.2) in
      let t = f n d (suc (length s.0)) q s.0 rest s.2 a.1 (omega (arith, deep)) (omega (arith, long, i))
      (omega arith) in
      rw (r, t) refl

  pub no_declrs_read : DeclrsRead types no_declrs
  no_declrs_read n d q ts rest s ok deep long = absurd (cc)

  pub field_empty : FieldReads types empty
  unfolding field on_some
  field_empty n d ts rest s ok deep long = rw s.1 refl

  -- declarators stop a type
  declrs_begin : (ds : Declrs) (ts rest : List Placed) → some_declrs_ok types ds ≡ true → SpellsDeclrs ds ts rest
      → SpecEnds ts
  declrs_begin no_declrs ts rest ok s = absurd (cc)
  declrs_begin (declr_and c ds) ts rest ok s = declr_begins c ts s.0 s.1

  pub field_members : (qs : List Key) (c : Spec) (ds : Declrs) → SpecReads types c → DeclrsRead types ds
      → FieldReads types (members qs c ds)
  unfolding field on_some chain
  field_members qs c ds g f n d ts rest s ok deep long =
      let a = and_true (all_keys is_qualifier qs) (spec_ok types c && some_declrs_ok types ds) ok in
      let b = and_true (spec_ok types c) (some_declrs_ok types ds) a.1 in
      let i = keys_no_longer qs ts s.0 s.3 in
      let j = spec_no_longer c s.0 s.1 s.4 in
      let none : eat puncts.Semicolon ts ≡ None = (decl_begins types qs c ts s.0 s.1 s.3 a.0 s.4 b.0).no_mark
      puncts.Semicolon in
      let k = keywords_complete is_qualifier qs ts s.0 s.3 a.0 (spec_begins types c s.0 s.1 s.4 b.0).no_qualifier in
      let r = g n d s.0 s.1 s.4 b.0 (omega (arith, deep)) (omega (arith, long, i)) (declrs_begin ds s.1 _ b.1 s.5) in
      let t = f n d s.2 s.1 rest s.5 b.1 (omega (arith, deep)) (omega (arith, long, i, j)) in
      rw (none, k, r, t) refl

  pub fields_end : FieldsRead types no_fields
  unfolding fields on_some
  fields_end n d zero q ts rest s ok deep long fuel = absurd (omega (arith, fuel))
  fields_end n d (suc k) q ts rest s ok deep long fuel = rw s refl

  -- a line of a struct begins with no brace, and takes a token
  field_begins : (f : Field) (ts rest : List Placed) → SpellsField f ts rest → field_ok types f ≡ true
      → (eat puncts.RightBrace ts ≡ None) × (length rest < length ts)
  field_begins empty ts rest s ok = (rw s.1 refl, omega (arith, ap length s.1))
  field_begins (members qs c ds) ts rest s ok =
      let a = and_true (all_keys is_qualifier qs) (spec_ok types c && some_declrs_ok types ds) ok in
      let b = and_true (spec_ok types c) (some_declrs_ok types ds) a.1 in (
        (decl_begins types qs c ts s.0 s.1 s.3 a.0 s.4 b.0).no_mark puncts.RightBrace,
        omega
            (arith, keys_no_longer qs ts s.0 s.3, spec_shorter types c s.0 s.1 s.4 b.0, declrs_no_longer ds s.1 _ s.5),
      )

  pub fields_and : (x : Field) (fs : Fields) → FieldReads types x → FieldsRead types fs
      → FieldsRead types (field_and x fs)
  unfolding fields on_some chain
  fields_and x fs g f n d zero q ts rest s ok deep long fuel = absurd (omega (arith, fuel))
  fields_and x fs g f n d (suc k) q ts rest s ok deep long fuel =
      let a = and_true (field_ok types x) (fields_ok types fs) ok in
      let b = field_begins x ts s.0 s.1 a.0 in
      let r = g n d ts s.0 s.1 a.0 (omega (arith, deep)) long in
      let t = f n d k q s.0 rest s.2 a.1 (omega (arith, deep)) (omega (arith, long, b.1)) (omega (arith, fuel, b.1)) in
      rw (b.0, r, t) refl

  pub base_words : (ks : List Key) → BaseReads types (words ks)
  unfolding base_at on_some chain
  base_words [] n d ts rest s ok deep long e b = absurd (cc)
  base_words (k ∷ ks) n d ts rest s ok deep long e b =
      let a = and_true (is_base_word k) (all_keys is_base_word ks) ok in
      rw (s.2, a.0, keywords_complete is_base_word ks s.0 rest s.3 a.1 e) refl

  pub base_alias : (w : Name) → BaseReads types (alias w)
  unfolding base_at on_some chain
  base_alias w n d ts rest s ok deep long e b = rw (s.1, type_word_complete types w s.0 rest ok) refl

  -- a tag without fields: a type word or another one
  tag_read : (low : Lower) (of : Key) (w : Name) (p : Pos) (rest : List Placed) (t : Bool) → is_type types w ≡ t
      → eat puncts.LeftBrace rest ≡ None → aggregate types low of (word_at w p ∷ rest)
      ≡ Some (tagged of (Some (w, p)), rest)
  unfolding aggregate type_word on_some chain when
  tag_read low of w p rest true h b = rw h refl
  tag_read low of w p rest false h b = rw (h, b) refl

  pub base_tagged : (of : Key) (tag : Option (Name × Pos)) → BaseReads types (tagged of tag)
  unfolding base_at on_some chain
  base_tagged of None n d ts rest s ok deep long e b = let a = (and_true (is_aggregate of) false ok).1 in absurd (cc)
  base_tagged of (Some t) n d ts rest s ok deep long e b =
      let a = (and_true (is_aggregate of) true ok).0 in
      let r = tag_read (readers types n d) of t.0 t.1 rest (is_type types t.0) refl b in
      rw (s.2, aggregate_no_base of a, a, s.3) r

  fields_in : (of : Key) (tag : Option (Name × Pos)) (fs : Fields) (n d : ℕ) (q : Pos) (ts rest : List Placed)
      → FieldsRead types fs → SpellsFields fs ts (mark_at puncts.RightBrace q ∷ rest) → fields_ok types fs ≡ true
      → fields_depth fs ≤ d → length ts ≤ n → fields_at types (readers types n d) of tag ts
      ≡ Some (tagged_fields of tag fs, rest)
  unfolding fields_at chain
  fields_in of tag fs n d q ts rest f s ok deep long = rw (f n d (suc (length ts)) q ts rest s ok deep long
      (omega arith)) refl

  pub base_fields : (of : Key) (tag : Option (Name × Pos)) (fs : Fields) → FieldsRead types fs
      → BaseReads types (tagged_fields of tag fs)
  unfolding base_at aggregate type_word on_some chain when
  base_fields of None fs f n d ts rest s ok deep long e b =
      let a = and_true (is_aggregate of) (true && fields_ok types fs) ok in
      let r = fields_in of None fs n d s.4 s.1 rest f s.7 a.1 deep (omega (
        arith,
        long,
        ap length s.5,
        ap length
            s.6,
      )) in
      rw (s.5, aggregate_no_base of a.0, a.0, s.6) r
  base_fields of (Some t) fs f n d ts rest s ok deep long e b =
      let a = and_true (is_aggregate of) (is_word types t.0 && fields_ok types fs) ok in
      let c = and_true (is_word types t.0) (fields_ok types fs) a.1 in
      let r = fields_in of (Some t) fs n d s.4 s.1 rest f s.7 c.1 deep (omega
      (arith, long, ap length s.5, ap length s.6)) in
      rw (s.5, aggregate_no_base of a.0, a.0, s.6, not_true _ c.0) r

  pub spec_reads : (p : Pos) (b : Base) (m : ℕ) → BaseReads types b → SpecReads types (spec p b m)
  unfolding readers spec_at chain
  spec_reads p b m f zero d ts rest s ok deep long e = absurd (omega (
    arith,
    long,
    spec_shorter types (spec p b m)
        ts rest s ok,
  ))
  spec_reads p b m f (suc n) d ts rest s ok deep long e =
      let c = consts_begin m s.0 rest s.3 e in
      let r = f n d ts s.0 s.2 ok deep long c.0 c.1 in
      rw (s.1, r, consts_complete m s.0 rest s.3 e.no_const) refl
