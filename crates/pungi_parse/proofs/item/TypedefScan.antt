-- How a scan for type definitions goes on at each token.
use Rattle.std.proofs.Common.{◌≡◌, ℕ, zero, suc, ◌+◌, ◌-◌, ◌<◌, List, [], ◌∷◌, ◌++◌, Option, Some, None, option_to_list}
use Rattle.std.proofs.Common.{refl, sym, ap, ◌∙◌, arith, append_assoc}
use Rattle.std.proofs.lemmas.List.{append-nil}
use Rattle.pungi_base.specs.declared.key.Key.TheVariants as keys
use Rattle.pungi_base.specs.declared.kind.Kind.{Kind}
use Rattle.pungi_base.specs.declared.kind.Kind.TheVariants as kind
use Rattle.pungi_base.specs.declared.names.Name.{Name}
use Rattle.pungi_base.specs.declared.punct.Punct.TheVariants as puncts
use Rattle.pungi_parse.specs.item.TypedefScan.{copies, scan_gives}
use Rattle.pungi_tree.specs.TypeWords.{declared_word, typedef_words}

pub copies_none : (n : ℕ) → copies n [] ≡ []
copies_none zero = refl
copies_none (suc n) = copies_none n

pub copies_turn : (n k : ℕ) (xs : List Name) → k < n → copies (n - k) xs ≡ xs ++ copies (n - (k + 1)) xs
copies_turn n k xs h = let e : n - k ≡ suc (n - (k + 1)) = omega arith in rw e refl

pub copies_behind : (n : ℕ) (xs : List Name) → copies n xs ++ xs ≡ xs ++ copies n xs
copies_behind zero xs = sym (append-nil xs)
copies_behind (suc n) xs = append_assoc xs (copies n xs) xs ∙ ap (λ zs. xs ++ zs) (copies_behind n xs)

pub copies_sum : (m n : ℕ) (xs : List Name) → copies m xs ++ copies n xs ≡ copies (m + n) xs
copies_sum zero n xs = let e : zero + n ≡ n = omega arith in rw e refl
copies_sum (suc m) n xs =
    let e : suc m + n ≡ suc (m + n) = omega arith in
    rw e (append_assoc xs (copies m xs) (copies n xs) ∙ ap (λ zs. xs ++ zs) (copies_sum m n xs))

pub scan_ends : (words : List Name) (braces : ℕ) (last : Option Name) (older newer : ℕ)
    → scan_gives words braces last older newer [] ≡ words
scan_ends words braces last older newer = rw (copies_none older, copies_none newer) (append-nil words)

pub scan_semicolon : (words : List Name) (braces : ℕ) (last : Option Name) (older newer : ℕ) (ks : List Kind)
    → braces ≡ 0
    → scan_gives (words ++ copies older (option_to_list last)) braces last 0 0 ks
    ≡ scan_gives words braces last older newer (kind.Punct puncts.Semicolon ∷ ks)
scan_semicolon words braces last older newer ks e =
    rw (e, copies_none newer) (append_assoc words (copies older (option_to_list last)) (typedef_words 0 ks))

pub scan_typedef : (words : List Name) (braces : ℕ) (last : Option Name) (older newer : ℕ) (ks : List Kind) → braces ≡ 0
    → scan_gives words braces last older (newer + 1) ks
    ≡ scan_gives words braces last older newer (kind.Key keys.Typedef ∷ ks)
scan_typedef words braces last older newer ks e =
    let n : newer + 1 ≡ suc newer = omega arith in
    let d : List Name = option_to_list (declared_word 0 None ks) in
    let a : d ++ (copies newer d ++ typedef_words 0 ks)
    ≡ copies newer d ++ (d ++ typedef_words 0 ks) = sym (append_assoc d (copies newer d) (typedef_words 0 ks))
    ∙ ap (λ zs. zs ++ typedef_words 0 ks) (sym (copies_behind newer d))
    ∙ append_assoc (copies newer d) d (typedef_words 0 ks) in
    rw (e, n) (ap (λ zs. words ++ (copies older (option_to_list (declared_word 0 last ks)) ++ zs))
    (append_assoc d (copies newer d) (typedef_words 0 ks) ∙ a))

pub scan_word : (words : List Name) (braces : ℕ) (last : Option Name) (older newer : ℕ) (w : Name) (ks : List Kind)
    → scan_gives words braces (Some w) (older + newer) 0 ks
    ≡ scan_gives words braces last older newer (kind.Word w ∷ ks)
scan_word words braces last older newer w ks =
    let d : List Name = option_to_list (declared_word braces (Some w) ks) in
    ap (λ zs. words ++ zs)
    (ap (λ zs. zs ++ typedef_words braces ks) (sym (copies_sum older newer d))
    ∙ append_assoc (copies older d) (copies newer d) (typedef_words braces ks))
