-- What a scan for type definitions will have found, from what it knows so far.
--   copies n xs       a list so many times over
--   scan_gives words braces last older newer ks    the words found, and those that the tokens to come give: `older`
--                                                  definitions whose last word is
--                     `last` and `newer` ones without a word yet wait for their semicolon, in this order, and so many
--                     braces are open
use Rattle.std.specs.Prelude.{ℕ, zero, suc, List, [], ◌++◌, Option, None, option_to_list}
use Rattle.pungi_base.specs.declared.kind.Kind.{Kind}
use Rattle.pungi_base.specs.declared.names.Name.{Name}
use Rattle.pungi_tree.specs.TypeWords.{declared_word, typedef_words}

abbrev pub copies : ℕ → List Name → List Name
copies zero xs = []
copies (suc n) xs = xs ++ copies n xs

abbrev pub scan_gives : List Name → ℕ → Option Name → ℕ → ℕ → List Kind → List Name
scan_gives words braces last older newer ks =
    words ++ (copies older (option_to_list (declared_word braces last ks))
    ++ (copies newer (option_to_list (declared_word braces None ks)) ++ typedef_words braces ks))
