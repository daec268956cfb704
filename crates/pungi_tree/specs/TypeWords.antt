-- The type words of a file: the names of types that are known before a text is read, and for each `typedef` outside
-- braces the last word before the next `;` outside braces (C11 6.7.8). They hold for the whole file, and a type word is
-- no other word. Brackets of the other two kinds count for nothing here, and a `}` that closes nothing neither.
--   is_semicolon, is_typedef    this token; is_semicolon_mark and is_typedef_key say it of a punctuator and of a
--                               keyword
--   braces_after_mark n m, braces_after n k    how many braces are open after a token, where `n` are open before it
--   last_word last k      the last word once this token was read
--   declared_word n last ks    the last word before the next `;` outside braces, where `last` is the last one so far
--   typedef_words n ks    the words of the `typedef`s, in order, where `n` braces are open
--   type_words ks         the words of the `typedef`s of a file with these tokens
--   is_known_type w       a type word before any text is read
--   is_among words w      one of these words
--   is_type types w       a type word, where `types` are the words of the `typedef`s
--   is_word types w       a word that is no type word
use Rattle.std.specs.Prelude.{ℕ, suc, pred, ◌+◌, Bool, true, false, not, ◌&&◌, ◌||◌, ◌==◌, nat_le, nat_lt}
use Rattle.std.specs.Prelude.{if◌then◌else◌, List, [], ◌∷◌, ◌++◌, Option, Some, None, option_to_list}
use Rattle.pungi_base.specs.declared.key.Key.{Key}
use Rattle.pungi_base.specs.declared.key.Key.TheVariants as keys
use Rattle.pungi_base.specs.declared.kind.Kind.{Kind}
use Rattle.pungi_base.specs.declared.kind.Kind.TheVariants as kind
use Rattle.pungi_base.specs.declared.names.Name.{Name}
use Rattle.pungi_base.specs.declared.punct.Punct.{Punct}
use Rattle.pungi_base.specs.declared.punct.Punct.TheVariants as puncts
use Rattle.pungi_base.specs.Numbers.{keyword_count, macro_count, type_word_count}

abbrev pub braces_after_mark : ℕ → Punct → ℕ
braces_after_mark n puncts.LeftBrace = suc n
braces_after_mark n puncts.RightBrace = pred n
braces_after_mark n _ = n

abbrev pub braces_after : ℕ → Kind → ℕ
braces_after n (kind.Punct m) = braces_after_mark n m
braces_after n _ = n

abbrev pub is_semicolon_mark : Punct → Bool
is_semicolon_mark puncts.Semicolon = true
is_semicolon_mark _ = false

abbrev pub is_semicolon : Kind → Bool
is_semicolon (kind.Punct m) = is_semicolon_mark m
is_semicolon _ = false

abbrev pub is_typedef_key : Key → Bool
is_typedef_key keys.Typedef = true
is_typedef_key _ = false

abbrev pub is_typedef : Kind → Bool
is_typedef (kind.Key k) = is_typedef_key k
is_typedef _ = false

abbrev pub last_word : Option Name → Kind → Option Name
last_word last (kind.Word w) = Some w
last_word last _ = last

abbrev pub declared_word : ℕ → Option Name → List Kind → Option Name
declared_word n last [] = None
declared_word n last (k ∷ ks) =
    if is_semicolon k && n == 0 then last else declared_word (braces_after n k) (last_word last k) ks

abbrev pub typedef_words : ℕ → List Kind → List Name
typedef_words n [] = []
typedef_words n (k ∷ ks) =
    (if is_typedef k && n == 0 then option_to_list (declared_word 0 None ks) else [])
    ++ typedef_words (braces_after n k) ks

abbrev pub type_words : List Kind → List Name
type_words ks = typedef_words 0 ks

abbrev pub is_known_type : Name → Bool
is_known_type w = nat_le (keyword_count + macro_count) w.0 && nat_lt w.0 (keyword_count + macro_count + type_word_count)

abbrev pub is_among : List Name → Name → Bool
is_among [] w = false
is_among (t ∷ ts) w = t.0 == w.0 || is_among ts w

abbrev pub is_type : List Name → Name → Bool
is_type types w = is_known_type w || is_among types w

abbrev pub is_word : List Name → Name → Bool
is_word types w = not (is_type types w)
