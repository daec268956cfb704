-- How many members stand for the entries of a map, and the tables of a text in which no top key is wrong.
use Rattle.std.proofs.Common.{◌≡◌, ℕ, ◌≤◌, suc, Bool, true, false, List, [], ◌∷◌, length, refl, ap, sym, ◌∙◌}
use Rattle.std.proofs.Common.{subst, String, Global, Some, None, Ordering, Less, Equal, Greater, leb-true, nat_cmp}
use Rattle.std.proofs.Common.{Option}
use Rattle.std.specs.Prelude.{if◌then◌else◌, nat_le, option_and_then}
use Rattle.std.specs.Ordering.{match_ordering}
use Rattle.std.specs.Cmp.Lexicographic.{slice_cmp}
use Rattle.std.proofs.lemmas.Map.Lookups.{exact_bytes}
use Rattle.toml.specs.Data.{Data, string, integer, float, boolean, datetime, array, table, Members, no_members, member}
use Rattle.toml.specs.Data.{get_member, as_table}
use Rattle.toml.specs.View.{members_view}
use Rattle.toml.specs.declared.value.Value.{Value}
use Rattle.pungi_config.specs.Configuration.{count, is_table_within, is_right_top, wrong_top}
use Rattle.pungi_config.proofs.Parts.{some_same}

count-entries : (es : List (String Global × Value)) → count (members_view es) ≡ length es
count-entries [] = refl
count-entries (e ∷ es) = ap suc (count-entries es)

-- a value that is a table with so many entries
pub table_within_is : (limit : ℕ) (d : Data) (es : List (String Global × Value)) (n : ℕ)
    → Some (members_view es) ≡ as_table d → n ≡ length es → nat_le n limit ≡ is_table_within limit d
table_within_is limit (table ms) es n e long =
    ap (λ k. nat_le k limit) (long ∙ sym (count-entries es) ∙ ap count (some_same (members_view es) ms e))
table_within_is limit (string s) es n e long = absurd cc
table_within_is limit (integer z) es n e long = absurd cc
table_within_is limit (float x) es n e long = absurd cc
table_within_is limit (boolean b) es n e long = absurd cc
table_within_is limit (datetime t) es n e long = absurd cc
table_within_is limit (array ds) es n e long = absurd cc

-- every member of a text in which no top key is wrong is right
right_member : (key : List ℕ) (ms : Members) (d : Data) → wrong_top ms ≡ None → get_member key ms ≡ Some d
    → is_right_top key d ≡ true
right_member key no_members d none e = absurd cc
right_member key (member k x ms) d none e =
    go (is_right_top k x) refl none (slice_cmp nat_cmp key k) refl (right_member key ms d) e
  where
    go : (t : Bool) → is_right_top k x ≡ t → (if t then wrong_top ms else Some k) ≡ None
        → (o : Ordering) → slice_cmp nat_cmp key k ≡ o
        → (wrong_top ms ≡ None → get_member key ms ≡ Some d → is_right_top key d ≡ true)
        → match_ordering o (get_member key ms) (Some x) (get_member key ms) ≡ Some d
        → is_right_top key d ≡ true
    go false w n o c h f = absurd cc
    go true w n Less c h f = h n f
    go true w n Greater c h f = h n f
    go true w n Equal c h f =
        subst (λ y. is_right_top key y ≡ true) (some_same x d f)
        (subst (λ (name : List ℕ). is_right_top name x ≡ true) (sym (exact_bytes key k c)) w)

-- a table of such a text has so many entries
pub few_entries : (key : List ℕ) (limit : ℕ) (ms : Members) (es : List (String Global × Value))
    → ((d : Data) → is_right_top key d ≡ is_table_within limit d) → wrong_top ms ≡ None
    → Some (members_view es) ≡ option_and_then as_table (get_member key ms) → length es ≤ limit
few_entries key limit ms es small none e = go (get_member key ms) refl e
  where
    go : (o : Option Data) → get_member key ms ≡ o → Some (members_view es) ≡ option_and_then as_table o
        → length es ≤ limit
    go None w f = absurd cc
    go (Some d) w f =
        leb-true (length es) limit
        (table_within_is limit d es (length es) f refl ∙ sym (small d) ∙ right_member key ms d none w)
