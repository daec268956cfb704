-- Structs by the words that name them.
use Rattle.std.proofs.Common.{◌≡◌, ℕ, ◌==◌, Bool, true, false, cond, Option, None, Some, refl, sym, ap, ◌∙◌, List, []}
use Rattle.std.proofs.Common.{◌∷◌}
use Rattle.pungi_tree.specs.Syntax as plain
use Rattle.pungi_tree.specs.Syntax.{Fields, field_and, empty, members, no_declrs, declr_and, Item}
use Rattle.pungi_types.specs.Files.{Typedef, typedefs}
use Rattle.pungi_types.specs.Kinds.{begins_with_head, is_object_struct, tagged_in, untagged_in, typedef_in}
use Rattle.pungi_types.specs.Kinds.{untagged_fields, spec_base, or_else, field_in, field_in_some, struct_fields}
use Rattle.pungi_types.specs.Tags.{tags}
use Rattle.pungi_types.specs.declared.kind.ValueKind.{ValueKind}
use Rattle.pungi_names.specs.First.{or_first}
use Rattle.pungi_names.specs.StructsView.{kept_or, field_head, head_kept, typedef_head, typedef_fields, field_or}
use Rattle.pungi_names.specs.StructsView.{fields_kept, typedef_kept}

pub head_step : (file : List Item) (f : plain.Field) (fs : Fields)
    → begins_with_head file (Some (field_and f fs)) ≡ kept_or (field_head file f) (begins_with_head file (Some fs))
head_step file empty fs = refl
head_step file (members qs s no_declrs) fs = refl
head_step file (members qs s (declr_and d ds)) fs = refl

untagged-found : (ts : List Typedef) (w : ℕ) → untagged_in ts w ≡ typedef_fields (typedef_in ts w)
untagged-found [] w = refl
untagged-found (t ∷ ts) w =
    ap (λ o. cond (t.name.0 == w) (untagged_fields (spec_base t.spec)) o) (untagged-found ts w) ∙ at (t.name.0 == w)
  where
    at : (b : Bool) → cond b (untagged_fields (spec_base t.spec)) (typedef_fields (typedef_in ts w))
        ≡ typedef_fields (cond b (Some t) (typedef_in ts w))
    at true = refl
    at false = refl

-- what is found of the tags and then of the typedefs shows which structs are objects
pub objects-found : (file : List Item) (start tagged all : ℕ → Option Bool) → ((w : ℕ) → start w ≡ None)
    → ((w : ℕ) → tagged w ≡ or_first (start w) (head_kept file (tagged_in (tags file) w)))
    → ((w : ℕ) → all w ≡ or_first (tagged w) (typedef_head file (typedef_in (typedefs file) w)))
    → (w : ℕ) → kept_or (all w) false ≡ is_object_struct file w
objects-found file start tagged all none first second w =
    ap (λ o. kept_or o false) (second w ∙ ap (λ o. or_first o (typedef_head file (typedef_in (typedefs file) w)))
    (first w ∙ ap (λ o. or_first o (head_kept file (tagged_in (tags file) w))) (none w)))
    ∙ at (tagged_in (tags file) w) (typedef_in (typedefs file) w)
    ∙ ap (λ o. begins_with_head file (or_else (tagged_in (tags file) w) o)) (sym (untagged-found (typedefs file) w))
  where
    at : (o : Option Fields) (p : Option Typedef)
        → kept_or (or_first (head_kept file o) (typedef_head file p)) false
        ≡ begins_with_head file (or_else o (typedef_fields p))
    at (Some fs) p = refl
    at None None = refl
    at None (Some t) = refl

-- and the same of their fields
pub field_step : (file : List Item) (x : plain.Field) (fs : Fields) (w : ℕ)
    → field_in file (field_and x fs) w ≡ field_or file x w (field_in file fs w)
field_step file empty fs w = refl
field_step file (members qs s ds) fs w = refl

pub fields-found : (file : List Item) (s w : ℕ) (start tagged all : Option (Option ValueKind)) → start ≡ None
    → tagged ≡ or_first start (fields_kept file (tagged_in (tags file) s) w)
    → all ≡ or_first tagged (typedef_kept file (typedef_in (typedefs file) s) w)
    → kept_or all None ≡ field_in_some file (struct_fields file s) w
fields-found file s w start tagged all none first second =
    ap (λ o. kept_or o None) (second ∙ ap (λ o. or_first o (typedef_kept file (typedef_in (typedefs file) s) w))
    (first ∙ ap (λ o. or_first o (fields_kept file (tagged_in (tags file) s) w)) none))
    ∙ at (tagged_in (tags file) s) (typedef_in (typedefs file) s)
    ∙ ap (λ o. field_in_some file (or_else (tagged_in (tags file) s) o) w) (sym (untagged-found (typedefs file) s))
  where
    at : (o : Option Fields) (p : Option Typedef)
        → kept_or (or_first (fields_kept file o w) (typedef_kept file p w)) None
        ≡ field_in_some file (or_else o (typedef_fields p)) w
    at (Some fs) p = refl
    at None None = refl
    at None (Some t) = refl
