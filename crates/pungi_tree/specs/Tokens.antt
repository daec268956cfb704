-- Lists of token kinds that trees share.
--   mark m, key k         a punctuator, a keyword
--   named_word number     the word of this number
--   keys_flat, texts_flat    keywords, or texts, one after the other
--   consts_flat n         so many `const`
--   stars_flat stars      each `*` with the `const` after it
--   tag_flat, void_flat, dots_flat    a tag, the lone `void`, and `, ...`, where they are there
use Rattle.std.specs.Prelude.{ℕ, Bool, true, false, List, [], ◌∷◌, ◌++◌, map, replicate, Option, Some, None}
use Rattle.pungi_base.specs.declared.key.Key.{Key}
use Rattle.pungi_base.specs.declared.key.Key.TheVariants as keys
use Rattle.pungi_base.specs.declared.kind.Kind.{Kind}
use Rattle.pungi_base.specs.declared.kind.Kind.TheVariants as kind
use Rattle.pungi_base.specs.declared.names.Name.{Name}
use Rattle.pungi_base.specs.declared.pos.Pos.{Pos}
use Rattle.pungi_base.specs.declared.punct.Punct.{Punct}
use Rattle.pungi_base.specs.declared.punct.Punct.TheVariants as puncts

abbrev pub mark : Punct → Kind
mark m = kind.Punct m

abbrev pub key : Key → Kind
key k = kind.Key k

abbrev pub named_word : ℕ → Name
named_word number = record { 0 = number }

abbrev pub keys_flat : List Key → List Kind
keys_flat ks = map kind.Key ks

abbrev pub texts_flat : List Name → List Kind
texts_flat ns = map kind.Text ns

abbrev pub consts_flat : ℕ → List Kind
consts_flat n = replicate n (key keys.Const)

abbrev pub stars_flat : List ℕ → List Kind
stars_flat [] = []
stars_flat (n ∷ ns) = mark puncts.Star ∷ (consts_flat n ++ stars_flat ns)

abbrev pub tag_flat : Option (Name × Pos) → List Kind
tag_flat None = []
tag_flat (Some t) = kind.Word t.0 ∷ []

abbrev pub void_flat : Bool → List Kind
void_flat true = key keys.Void ∷ []
void_flat false = []

abbrev pub dots_flat : Option Pos → List Kind
dots_flat None = []
dots_flat (Some p) = mark puncts.Comma ∷ mark puncts.Ellipsis ∷ []
