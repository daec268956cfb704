-- The type words of a file that the grammar allows are the words of its items that are `typedef`s, so either list says
-- the same of it.
use Rattle.std.proofs.Common.{◌≡◌, ℕ, Bool, true, false, List, [], ◌∷◌, ◌++◌, Some, None, refl, sym, ◌∙◌}
use Rattle.std.proofs.lemmas.List.{append_assoc}
use Rattle.pungi_base.specs.declared.key.Key.{Key}
use Rattle.pungi_base.specs.declared.kind.Kind.{Kind}
use Rattle.pungi_base.specs.declared.kind.Kind.TheVariants as kind
use Rattle.pungi_base.specs.declared.names.Name.{Name}
use Rattle.pungi_base.specs.declared.pos.Pos.{Pos}
use Rattle.pungi_base.specs.declared.punct.Punct.TheVariants as puncts
use Rattle.pungi_spelling.proofs.ExprScans.{spec_reads, params_read, qualifiers_read, stars_read, texts_read}
use Rattle.pungi_spelling.proofs.Harmless.{first, second}
use Rattle.pungi_spelling.proofs.Scans.{Finds, Scans, none, one, plain, two, two_find}
use Rattle.pungi_spelling.proofs.StmtScans.{vars_read, stmts_read}
use Rattle.pungi_tree.specs.ExprFlat.{spec_flat}
use Rattle.pungi_tree.specs.ExprLevels.{spec_ok}
use Rattle.pungi_tree.specs.Operators.{is_qualifier, all_keys}
use Rattle.pungi_tree.specs.StmtFlat.{decl_flat, stmt_flat}
use Rattle.pungi_tree.specs.StmtLevels.{decl_ok, stmt_ok}
use Rattle.pungi_tree.specs.Syntax.{Spec, Params, Decl, decl, head, Stmt, block, Item, nothing, doc, typedef, tag}
use Rattle.pungi_tree.specs.Syntax.{variables, prototype, function_def}
use Rattle.pungi_tree.specs.Tokens.{mark, stars_flat}
use Rattle.pungi_tree.specs.TypeWords.{is_word, declared_word, typedef_words, type_words}
use Rattle.pungi_tree.specs.UnitFlat.{signature_flat, item_flat, items_flat}
use Rattle.pungi_tree.specs.UnitLevels.{typedef_names, with_typedef, is_block, signature_ok, item_ok, items_ok}

semicolon_finds : Finds 0 0 (mark puncts.Semicolon ∷ [])
semicolon_finds = record { words = λ ks. refl }

decl_finds : (T : List Name) (d : Decl) → decl_ok T d ≡ true → Finds 0 0 (decl_flat d)
decl_finds T (decl qs s vs) h =
    two_find (qualifiers_read 0 qs (first (all_keys is_qualifier qs) _ h)).finds
    (two_find (spec_reads T 0 s (first (spec_ok T s) _ (second (all_keys is_qualifier qs) _ h))).finds
    (two_find (vars_read T 0 vs (second (spec_ok T s) _ (second (all_keys is_qualifier qs) _ h))).finds
    semicolon_finds))

signature_scans : (T : List Name) (qs : List Key) (s : Spec) (stars : List ℕ) (n : Name) (ps : Params)
    → signature_ok T qs s n ps ≡ true → Scans 0 0 (signature_flat qs s stars n ps)
signature_scans T qs s stars n ps h =
    two (qualifiers_read 0 qs (first (all_keys is_qualifier qs) _ h)) (two
    (spec_reads T 0 s (first (spec_ok T s) _ (second (all_keys is_qualifier qs) _ h))) (two (stars_read 0 stars)
    (plain (refl, refl, refl) (plain (refl, refl, refl) (two (params_read T 0 ps
    (second (is_word T n) _ (second (spec_ok T s) _ (second (all_keys is_qualifier qs) _ h))))
    (plain (refl, refl, refl) (none 0)))))))

body_scans : (T : List Name) (s : Stmt) → is_block s ≡ true → stmt_ok T s ≡ true → Scans 0 0 (stmt_flat s)
body_scans T (block p ss q) b h =
    one 0 1 0 _ _ (refl, refl, refl) (two (stmts_read T 0 ss h) (one 1 0 0 _ _ (refl, refl, refl) (none 0)))
body_scans T _ b h = absurd (cc)

declares : (n : Name) (xs ys ks : List Kind) → Scans 0 0 xs → Scans 0 0 ys
    → declared_word 0 None ((xs ++ (ys ++ kind.Word n ∷ mark puncts.Semicolon ∷ [])) ++ ks) ≡ Some n
declares n xs ys ks r s =
    let tail : List Kind = kind.Word n ∷ mark puncts.Semicolon ∷ [] in
    let p = r.last None (ys ++ kind.Word n ∷ mark puncts.Semicolon ∷ ks) in
    let q = s.last p.0 (kind.Word n ∷ mark puncts.Semicolon ∷ ks) in
    rw (append_assoc xs (ys ++ tail) ks, append_assoc ys tail ks) (p.1 ∙ q.1)

typedef_finds : (T : List Name) (s : Spec) (stars : List ℕ) (n : Name) (p : Pos) (ks : List Kind) → spec_ok T s ≡ true
    → typedef_words 0 (item_flat (typedef s stars n p) ++ ks) ≡ n ∷ typedef_words 0 ks
typedef_finds T s stars n p ks h =
    let r = spec_reads T 0 s h in
    let c = stars_read 0 stars in
    let tail : Finds 0 0 (kind.Word n ∷ mark puncts.Semicolon ∷ []) = record { words = λ ks. refl } in
    let names : Finds 0 0 (spec_flat s ++ (stars_flat stars ++ kind.Word n ∷ mark puncts.Semicolon ∷ [])) = two_find
    r.finds (two_find c.finds tail) in
    rw (declares n (spec_flat s) (stars_flat stars) ks r c, names.words ks) refl

item_finds : (T : List Name) (i : Item) (ks : List Kind) → item_ok T i ≡ true
    → typedef_words 0 (item_flat i ++ ks) ≡ with_typedef i (typedef_words 0 ks)
item_finds T (nothing p) ks h = refl
item_finds T (doc p n ts) ks h =
    let s : Scans 0 0 (item_flat (doc p n ts)) = (plain (refl, refl, refl)
    (plain (refl, refl, refl) (plain (refl, refl, refl) (plain (refl, refl, refl)
    (two (texts_read 0 ts) (plain (refl, refl, refl) (none 0))))))) in s.finds.words ks
item_finds T (typedef s stars n p) ks h = typedef_finds T s stars n p ks h
item_finds T (tag qs s) ks h =
    let f : Finds 0 0 (item_flat (tag qs s)) = (two_find (qualifiers_read 0 qs
    (first (all_keys is_qualifier qs) _ h)).finds (two_find (spec_reads T 0 s
    (second (all_keys is_qualifier qs) _ h)).finds semicolon_finds)) in f.words ks
item_finds T (variables d) ks h = (decl_finds T d h).words ks
item_finds T (prototype (head qs s stars n p ps)) ks h =
    let f : Finds 0 0 (item_flat (prototype (head qs s stars n p ps))) = two_find
    (signature_scans T qs s stars n ps h).finds semicolon_finds in f.words ks
item_finds T (function_def (head qs s stars n p ps) b) ks h =
    let f : Scans 0 0 (item_flat (function_def (head qs s stars n p ps) b))
    = (two (signature_scans T qs s stars n ps (first (signature_ok T qs s n ps) _ h))
    (body_scans T b (first (is_block b) _ (second (signature_ok T qs s n ps) _ h))
    (second (is_block b) _ (second (signature_ok T qs s n ps) _ h)))) in f.finds.words ks

type_words_are : (T : List Name) (items : List Item) → items_ok T items ≡ true
    → type_words (items_flat items) ≡ typedef_names items
type_words_are T [] h = refl
type_words_are T (i ∷ items) h =
    rw (
      item_finds T i (items_flat items) (first (item_ok T i) _ h),
      type_words_are T items
          (second (item_ok T i) _ h),
    ) refl

pub same_levels : (items : List Item) → items_ok (typedef_names items) items
    ≡ items_ok (type_words (items_flat items)) items
same_levels items =
    step (items_ok (typedef_names items) items) (items_ok (type_words (items_flat items)) items) refl refl
  where
    step : (b c : Bool) → items_ok (typedef_names items) items ≡ b
        → items_ok (type_words (items_flat items)) items ≡ c → b ≡ c
    step true true e f = refl
    step false false e f = refl
    step true false e f =
        let g : items_ok (type_words (items_flat items)) items
        ≡ true = rw (type_words_are (typedef_names items) items e) e in sym g ∙ f
    step false true e f =
        let g : items_ok (typedef_names items) items ≡ true = rw (← type_words_are (type_words (items_flat items))
        items f) f in sym e ∙ g
