-- Finding a text by its name.
use Rattle.std.proofs.Common.{◌≡◌, ℕ, zero, suc, ◌<◌, Bool, true, cond, List, [], ◌∷◌, length, get_or, drop, Some}
use Rattle.std.proofs.Common.{String, Vec, sym, ap, ◌∙◌}
use Rattle.std.specs.Prelude.{slice_get, string_bytes}
use Rattle.std.specs.Str.{bytes_eq}
use Rattle.std.specs.declared.alloc.Global.{Global}
use Rattle.std.proofs.lemmas.Option.{slice_get-get_or}
use Rattle.pungi_in_memory.specs.MemShelf.{text_named, pairs_of, left_at}

abbrev pub Named : Type 0
Named = String Global × Vec ℕ Global

named_at : (texts : List Named) (name : List ℕ) (i : ℕ) (t : Named) → slice_get texts i ≡ Some t
    → bytes_eq (string_bytes t.0) name ≡ true → text_named (pairs_of (drop i texts)) name ≡ Some (left_at texts i 0)
named_at [] name i t e same = absurd cc
named_at (u ∷ texts) name zero t e same =
    let is : u ≡ t = cc in
    ap (λ (b : Bool). cond b (Some u.1.items) (text_named (pairs_of texts) name))
    (ap (λ (v : Named). bytes_eq (string_bytes v.0) name) is ∙ same)
named_at (u ∷ texts) name (suc i) t e same = named_at texts name i t e same

pub named : (texts : List Named) (name : List ℕ) (i : ℕ) (t : Named) → i < length texts → t ≡ get_or texts i t
    → bytes_eq (string_bytes t.0) name ≡ true → text_named (pairs_of (drop i texts)) name ≡ Some (left_at texts i 0)
named texts name i t lt is same = named_at texts name i t (slice_get-get_or texts i t lt ∙ ap Some (sym is)) same
