-- Values that are of a kind: of a wider one, too, and where more objects are there.
use Rattle.std.proofs.Common.{◌≡◌, ℕ, zero, suc, ◌-◌, ◌<◌, ◌≤◌, ◌&&◌, ◌||◌, Bool, true, false, List, [], ◌∷◌, ◌++◌}
use Rattle.std.proofs.Common.{length, map, replicate, take, get_or, refl, ap, ◌∙◌, subst, arith, leb-true, ltb-true}
use Rattle.std.specs.Prelude.{ℤ, pos, negsuc, nat_le, nat_lt, slice_set}
use Rattle.std.specs.List.{list_all}
use Rattle.std.proofs.lemmas.Bool.Decides.{nat_tests}
use Rattle.pungi_base.specs.declared.value.Value.{Value}
use Rattle.pungi_base.specs.declared.value.Value.TheVariants as value
use Rattle.pungi_api.specs.declared.param.Param.{Param}
use Rattle.pungi_api.specs.declared.param.Param.TheVariants as param
use Rattle.pungi_types.specs.declared.kind.ValueKind.{ValueKind}
use Rattle.pungi_types.specs.declared.kind.ValueKind.TheVariants as kinds
use Rattle.pungi_world.specs.declared.content.Content.{Content}
use Rattle.pungi_world.specs.declared.content.Content.TheVariants.{Unset, Holds}
use Rattle.pungi_meaning.specs.Values.{fits, truth}
use Rattle.pungi_meaning.specs.Work.{content_at}
use Rattle.pungi_code.specs.Entries.{holds_value, hold_values}
use Rattle.pungi_code.specs.WellFormed.{counts_in, is_integer, is_slot_kind, is_wide}
use Rattle.pungi_layout.proofs.well_formed.Both.{and_true, and_left, and_right}
use Rattle.pungi_kinds.specs.Contents.{content_holds, contents_hold, argument_kind, arguments_hold}

-- ---- tests

pub or_first : (b c : Bool) → b ≡ true → (b || c) ≡ true
or_first true c h = refl
or_first false c h = absurd (cc)

pub or_second : (b c : Bool) → c ≡ true → (b || c) ≡ true
or_second true c h = refl
or_second false c h = h

-- one of two is so, and each leads to the same
pub either : {P : Type 0} (b c : Bool) → (b ≡ true → P) → (c ≡ true → P) → (b || c) ≡ true → P
either true c f g h = f refl
either false c f g h = g h

pub le_true : (m n : ℕ) → m ≤ n → nat_le m n ≡ true
le_true m n h = grind (arith, nat_tests)

pub lt_true : (m n : ℕ) → m < n → nat_lt m n ≡ true
lt_true m n h = grind (arith, nat_tests)

-- ---- numbers

more_le : (k m n : ℕ) → m ≤ n → nat_le k m ≡ true → nat_le k n ≡ true
more_le k m n le h = let l = leb-true k m h in le_true k n (omega arith)

pub int_fits_long : (z : ℤ) → fits kinds.Int z ≡ true → fits kinds.Long z ≡ true
int_fits_long (pos n) h = more_le n 2147483647 9223372036854775807 (omega arith) h
int_fits_long (negsuc n) h =
    and_true (nat_le n 9223372036854775807) true (more_le n 2147483647 9223372036854775807 (omega arith)
    (and_left (nat_le n 2147483647) true h)) refl

-- ---- values

pub wider : (n : ℕ) (a b : Param) (v : Value) → is_wide a b ≡ true → holds_value n a v ≡ true
    → holds_value n b v ≡ true
wider n param.Int param.Int (value.Int z) h e = e
wider n param.Int param.Long (value.Int z) h e = int_fits_long z e
wider n param.Int param.Size (value.Int z) h e = int_fits_long z e
wider n param.Long param.Long (value.Int z) h e = e
wider n param.Long param.Size (value.Int z) h e = e
wider n param.Size param.Long (value.Int z) h e = e
wider n param.Size param.Size (value.Int z) h e = e
wider n param.ObjectOrNull param.ObjectOrNull v h e = e
wider n param.TextOrNull param.TextOrNull v h e = e
wider n _ _ v h e = absurd (cc)

pub more_objects : (n m : ℕ) (k : Param) (v : Value) → n ≤ m → holds_value n k v ≡ true → holds_value m k v ≡ true
more_objects n m param.ObjectOrNull (value.Object o) le h = let l = ltb-true o n h in lt_true o m (omega arith)
more_objects n m param.ObjectOrNull value.Null le h = refl
more_objects n m param.Int (value.Int z) le h = h
more_objects n m param.Long (value.Int z) le h = h
more_objects n m param.Size (value.Int z) le h = h
more_objects n m param.TextOrNull value.Text le h = refl
more_objects n m param.TextOrNull value.Null le h = refl
more_objects n m _ _ le h = absurd (cc)

pub counted : (n : ℕ) (kind : ValueKind) (k : Param) (z : ℤ) → counts_in kind k ≡ true → fits kind z ≡ true
    → holds_value n k (value.Int z) ≡ true
counted n kinds.Int param.Int z h e = e
counted n kinds.Int param.Long z h e = int_fits_long z e
counted n kinds.Int param.Size z h e = int_fits_long z e
counted n kinds.Long param.Long z h e = e
counted n kinds.Long param.Size z h e = e
counted n kinds.Size param.Long z h e = e
counted n kinds.Size param.Size z h e = e
counted n _ _ z h e = absurd (cc)

pub truth_holds : (n : ℕ) (k : Param) (b : Bool) → is_integer k ≡ true → holds_value n k (truth b) ≡ true
truth_holds n param.Int true h = refl
truth_holds n param.Int false h = refl
truth_holds n param.Long true h = refl
truth_holds n param.Long false h = refl
truth_holds n param.Size true h = refl
truth_holds n param.Size false h = refl
truth_holds n _ b h = absurd (cc)

-- ---- contents

pub more_content : (n m : ℕ) (k : Param) (c : Content) → n ≤ m → content_holds n k c ≡ true
    → content_holds m k c ≡ true
more_content n m k Unset le h = refl
more_content n m k (Holds v) le h = more_objects n m k v le h

pub wider_content : (n : ℕ) (a b : Param) (c : Content) → is_wide a b ≡ true → content_holds n a c ≡ true
    → content_holds n b c ≡ true
wider_content n a b Unset h e = refl
wider_content n a b (Holds v) h e = wider n a b v h e

pub more_contents : (n m : ℕ) (ks : List Param) (cs : List Content) → n ≤ m → contents_hold n ks cs ≡ true
    → contents_hold m ks cs ≡ true
more_contents n m [] [] le h = refl
more_contents n m [] (c ∷ cs) le h = h
more_contents n m (k ∷ ks) [] le h = h
more_contents n m (k ∷ ks) (c ∷ cs) le h =
    and_true (content_holds m k c) (contents_hold m ks cs) (more_content n m k c le
    (and_left (content_holds n k c) (contents_hold n ks cs) h))
    (more_contents n m ks cs le (and_right (content_holds n k c) (contents_hold n ks cs) h))

pub content_read : (n : ℕ) (ks : List Param) (cs : List Content) (x : ℕ) → contents_hold n ks cs ≡ true
    → content_holds n (get_or ks x param.ModuleDef) (content_at cs x) ≡ true
content_read n [] [] x h = refl
content_read n [] (c ∷ cs) x h = absurd (cc)
content_read n (k ∷ ks) [] x h = absurd (cc)
content_read n (k ∷ ks) (c ∷ cs) zero h = and_left (content_holds n k c) (contents_hold n ks cs) h
content_read n (k ∷ ks) (c ∷ cs) (suc x) h =
    content_read n ks cs x (and_right (content_holds n k c) (contents_hold n ks cs) h)

pub content_put : (n : ℕ) (ks : List Param) (cs : List Content) (x : ℕ) (c : Content) → contents_hold n ks cs ≡ true
    → content_holds n (get_or ks x param.ModuleDef) c ≡ true → contents_hold n ks (slice_set cs x c) ≡ true
content_put n [] [] x c h e = refl
content_put n [] (d ∷ cs) x c h e = absurd (cc)
content_put n (k ∷ ks) [] x c h e = absurd (cc)
content_put n (k ∷ ks) (d ∷ cs) zero c h e =
    and_true (content_holds n k c) (contents_hold n ks cs) e
    (and_right (content_holds n k d) (contents_hold n ks cs) h)
content_put n (k ∷ ks) (d ∷ cs) (suc x) c h e =
    and_true (content_holds n k d) (contents_hold n ks (slice_set cs x c))
    (and_left (content_holds n k d) (contents_hold n ks cs) h)
    (content_put n ks cs x c (and_right (content_holds n k d) (contents_hold n ks cs) h) e)

-- a test of two contents, after both were read
pub both_read : (P : Content → Content → Bool) (c d : Content) (v w : Value) → P c d ≡ true → c ≡ Holds v
    → d ≡ Holds w → P (Holds v) (Holds w) ≡ true
both_read P c d v w h e f = subst (λ x. P (Holds v) x ≡ true) f (subst (λ x. P x d ≡ true) e h)

-- ---- where a code begins

abbrev pub none_set : ℕ → List Content
none_set n = replicate n Unset

none_held : (n : ℕ) (ks : List Param) (m : ℕ) → m ≡ length ks → contents_hold n ks (none_set m) ≡ true
none_held n [] zero e = refl
none_held n [] (suc m) e = absurd (omega arith)
none_held n (k ∷ ks) zero e = absurd (omega arith)
none_held n (k ∷ ks) (suc m) e = none_held n ks m (omega arith)

-- the parameters hold their arguments, and the other variables hold nothing
pub params_held : (n p : ℕ) (ks : List Param) (vs : List Value) (m : ℕ) → m ≡ length ks - length vs
    → contents_hold n (take p ks) (map Holds vs) ≡ true → contents_hold n ks (map Holds vs ++ none_set m) ≡ true
params_held n zero ks [] m e h = none_held n ks m (omega arith)
params_held n zero ks (v ∷ vs) m e h = absurd (cc)
params_held n (suc p) [] [] m e h = none_held n [] m (omega arith)
params_held n (suc p) [] (v ∷ vs) m e h = absurd (cc)
params_held n (suc p) (k ∷ ks) [] m e h = absurd (cc)
params_held n (suc p) (k ∷ ks) (v ∷ vs) m e h =
    and_true (holds_value n k v) (contents_hold n ks (map Holds vs ++ none_set m))
    (and_left (holds_value n k v) (contents_hold n (take p ks) (map Holds vs)) h)
    (params_held n p ks vs m (omega arith)
    (and_right (holds_value n k v) (contents_hold n (take p ks) (map Holds vs)) h))

pub values_held : (n : ℕ) (ks : List Param) (vs : List Value)
    → hold_values n ks vs ≡ contents_hold n ks (map Holds vs)
values_held n [] [] = refl
values_held n [] (v ∷ vs) = refl
values_held n (k ∷ ks) [] = refl
values_held n (k ∷ ks) (v ∷ vs) = ap (λ b. holds_value n k v && b) (values_held n ks vs)

-- ---- arguments

same_kind : (k : Param) → is_slot_kind k ≡ true → argument_kind k ≡ k
same_kind param.Int h = refl
same_kind param.Long h = refl
same_kind param.Size h = refl
same_kind param.ObjectOrNull h = refl
same_kind param.TextOrNull h = refl
same_kind _ h = absurd (cc)

same_kinds : (p : ℕ) (ks : List Param) → list_all is_slot_kind ks ≡ true → map argument_kind (take p ks) ≡ take p ks
same_kinds zero ks s = refl
same_kinds (suc p) [] s = refl
same_kinds (suc p) (k ∷ ks) s =
    ap (λ j. j ∷ map argument_kind (take p ks))
    (same_kind k (and_left (is_slot_kind k) (list_all is_slot_kind ks) s))
    ∙ ap (λ js. k ∷ js) (same_kinds p ks (and_right (is_slot_kind k) (list_all is_slot_kind ks) s))

pub as_params : (n p : ℕ) (ks : List Param) (cs : List Content) → list_all is_slot_kind ks ≡ true
    → arguments_hold n (take p ks) cs ≡ true → contents_hold n (take p ks) cs ≡ true
as_params n p ks cs s h = subst (λ js. contents_hold n js cs ≡ true) (same_kinds p ks s) h
