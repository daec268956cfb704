-- What reading a list of tokens does to the search for the words of `typedef`s.
--   Steps a k b, Scans a b xs    a token, or tokens, take the number of open braces from `a` to `b`; outside braces no
--                                `typedef` and no `;` stands among them
--   none, one, plain, two        no token, one token before others, one that is no brace, and one list before another
--   semicolon                    a `;` inside braces
--   Finds a b xs                 as Scans, where a `;` may stand
use Rattle.std.proofs.Common.{◌≡◌, ℕ, suc, false, List, [], ◌∷◌, ◌++◌, Option, refl, ◌∙◌, arith}
use Rattle.std.specs.Prelude.{◌&&◌, ◌==◌}
use Rattle.std.proofs.lemmas.List.{append_assoc}
use Rattle.pungi_base.specs.declared.kind.Kind.{Kind}
use Rattle.pungi_base.specs.declared.names.Name.{Name}
use Rattle.std.proofs.lemmas.Bool.Decides.{nat_tests}
use Rattle.pungi_base.specs.declared.punct.Punct.TheVariants as puncts
use Rattle.pungi_tree.specs.Tokens.{mark}
use Rattle.pungi_tree.specs.TypeWords.{braces_after, is_semicolon, is_typedef, last_word, declared_word, typedef_words}

pub record Finds (a b : ℕ) (xs : List Kind) : Type 0 where
  pub words : (ks : List Kind) → typedef_words a (xs ++ ks) ≡ typedef_words b ks

pub record Scans (a b : ℕ) (xs : List Kind) : Type 0 where
  pub finds : Finds a b xs
  pub last : (w : Option Name) (ks : List Kind)
      → (v : Option Name) × (declared_word a w (xs ++ ks) ≡ declared_word b v ks)

abbrev pub Steps : ℕ → Kind → ℕ → Type 0
Steps a k b = (braces_after a k ≡ b) × ((is_typedef k && a == 0) ≡ false) × ((is_semicolon k && a == 0) ≡ false)

pub none : (a : ℕ) → Scans a a []
none a = record { finds = record { words = λ ks. refl }; last = λ w ks. (w, refl) }

pub one : (a b c : ℕ) (k : Kind) (xs : List Kind) → Steps a k b → Scans b c xs → Scans a c (k ∷ xs)
one a b c k xs s r = record {
  finds = record { words = λ ks. rw (s.1, s.0) (r.finds.words ks) };
  last = λ w ks. let p = r.last (last_word w k) ks in (p.0, rw (s.2, s.0) p.1);
}

pub plain : {a c : ℕ} {k : Kind} {xs : List Kind} → Steps a k a → Scans a c xs → Scans a c (k ∷ xs)
plain {a} {c} {k} {xs} s r = one a a c k xs s r

pub two_find : {a b c : ℕ} {xs ys : List Kind} → Finds a b xs → Finds b c ys → Finds a c (xs ++ ys)
two_find {a} {b} {c} {xs} {ys} r s =
    record { words = λ ks. rw (append_assoc xs ys ks) (r.words (ys ++ ks) ∙ s.words ks) }

pub two : {a b c : ℕ} {xs ys : List Kind} → Scans a b xs → Scans b c ys → Scans a c (xs ++ ys)
two {a} {b} {c} {xs} {ys} r s = record {
  finds = two_find r.finds s.finds;
  last = λ w ks. let p = r.last w (ys ++ ks) in let q = s.last p.0 ks in (q.0, rw (append_assoc xs ys ks) (p.1 ∙ q.1));
}

pub suc_is_positive : (n : ℕ) → (suc n == 0) ≡ false
suc_is_positive n = grind (arith, nat_tests)

pub semicolon : {a c : ℕ} {xs : List Kind} → Scans (suc a) c xs → Scans (suc a) c (mark puncts.Semicolon ∷ xs)
semicolon {a} {c} {xs} r = plain (refl, refl, suc_is_positive a) r
