-- What toml says of bytes, for bytes that may be no text.
use Rattle.std.proofs.Common.{◌≡◌, List, ℕ, Bool, true, false, Some, None, refl}
use Rattle.std.specs.Str.{is_utf8, IsUtf8}
use Rattle.std.proofs.lemmas.Str.{is_utf8-from_IsUtf8, IsUtf8-from_is_utf8}
use Rattle.toml.specs.Data.{Members}
use Rattle.toml.specs.Parse.{parse_document}
use Rattle.pungi_config.specs.Configuration.{read_text}

pub read_ok : (text : List ℕ) (ms : Members) → IsUtf8 text × (parse_document text ≡ Some ms) → read_text text ≡ Some ms
read_ok text ms h = rw (is_utf8-from_IsUtf8 text h.0) h.1

pub read_none : (text : List ℕ) → (IsUtf8 text → parse_document text ≡ None) → read_text text ≡ None
read_none text h = go (is_utf8 text) refl
  where
    go : (t : Bool) → is_utf8 text ≡ t → read_text text ≡ None
    go true e = rw e (h (IsUtf8-from_is_utf8 text e))
    go false e = rw e refl
