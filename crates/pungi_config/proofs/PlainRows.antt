-- The rows of a configuration are plain, take over objects alone, and end with no number but one of their kind.
use Rattle.std.proofs.Common.{◌≡◌, ℕ, zero, suc, Bool, true, false, ◌&&◌, List, [], ◌∷◌, Option, Some, None, refl}
use Rattle.std.proofs.Common.{subst, ap, option_map, Result, Ok, Err, codes}
use Rattle.std.specs.Prelude.{slice_get, slice_set, if◌then◌else◌, option_and_then, length, replicate}
use Rattle.std.specs.List.{list_all}
use Rattle.std.specs.Map.{lookup}
use Rattle.std.specs.Str.{bytes_eq}
use Rattle.toml.specs.Data.{Data, string, integer, float, boolean, datetime, array, table, Items, no_items, item}
use Rattle.toml.specs.Data.{Members}
use Rattle.toml.specs.Data.{no_members, member, as_array, as_str}
use Rattle.pungi_api.specs.declared.param.Param.{Param}
use Rattle.pungi_api.specs.declared.take.Take.{Take}
use Rattle.pungi_api.specs.declared.take.Take.TheVariants as takes
use Rattle.pungi_api.specs.declared.answer.Answer.{Answer}
use Rattle.pungi_api.specs.declared.row.Form.TheVariants as form
use Rattle.pungi_api.specs.declared.row.Row.{Row}
use Rattle.pungi_api.specs.Rows.{is_object, has_success, may_take, may_take_all, fits_int, is_plain_form, is_row}
use Rattle.pungi_api.specs.Rows.{are_plain_rows}
use Rattle.pungi_api.specs.Terms.{FileTerms}
use Rattle.pungi_config.specs.Takes.{passes, is_free_object, take_at, take_one, take_each, takes_of, place_of}
use Rattle.pungi_config.specs.Takes.{params_of}
use Rattle.pungi_config.specs.Words.{answer_of, answer_words, meaning}
use Rattle.pungi_config.specs.Keys.{plain_row, empty_row, with_takes, with_key, or_wrong, read_keys, has_key}
use Rattle.pungi_config.specs.Configuration.{under, read_row, is_free, read_function, with_named, read_rows, number_of}
use Rattle.pungi_config.specs.Configuration.{function_path, with_terms, read_terms, read_parts, with_names}
use Rattle.pungi_config.specs.Configuration.{unless_wrong, wrong_top, read_members, functions_in, conventions_in}
use Rattle.pungi_base.specs.Names.{with_text}
use Rattle.pungi_config.proofs.Parts.{both, left_of, right_of, some_same, ok_same}

-- a parameter of an object may be taken over so
abbrev IsAllowed : Answer → Take → Type 0
IsAllowed a t = (p : Param) → is_object p ≡ true → may_take a p t ≡ true

abbrev IsTaking : Answer → List Param → List Take → Type 0
IsTaking a ps ts = may_take_all a ps ts ≡ true

record IsPlain (r : Row) : Type 0 where
  plain : is_plain_form r.form ≡ true
  taking : r.form ≡ form.Plain
  fits : IsTaking r.answer r.params r.takes
  answers : fits_int r.answer ≡ true

choose : {A : Type 0} (P : A → Type 0) (t : Bool) (x y : Option A) (r : A) → (t ≡ true → x ≡ Some r → P r)
    → (t ≡ false → y ≡ Some r → P r) → (if t then x else y) ≡ Some r → P r
choose P true x y r p q h = p refl h
choose P false x y r p q h = q refl h

-- of what a step gives, and the steps after it
chain : {A B : Type 0} (P : B → Type 0) (f : A → Option B) (o : Option A) (r : B)
    → ((x : A) → o ≡ Some x → f x ≡ Some r → P r)
    → option_and_then f o ≡ Some r → P r
chain P f None r k h = absurd cc
chain P f (Some x) r k h = k x refl h

mapped : {A B : Type 0} (P : B → Type 0) (f : A → B) (o : Option A) (r : B) → ((x : A) → o ≡ Some x → P (f x))
    → option_map f o ≡ Some r → P r
mapped P f None r k h = absurd cc
mapped P f (Some x) r k h = subst P (some_same (f x) r h) (k x refl)

none_taken : (a : Answer) (ps : List Param) → IsTaking a ps (replicate (length ps) takes.Never)
none_taken a [] = refl
none_taken a (p ∷ ps) = none_taken a ps

taken_there : (a : Answer) (t : Take) (ps : List Param) (ts : List Take) (n : ℕ) → IsAllowed a t → IsTaking a ps ts
    → passes is_object (slice_get ps n) ≡ true → IsTaking a ps (slice_set ts n t)
taken_there a t [] ts n allowed h e = absurd cc
taken_there a t (p ∷ ps) [] n allowed h e = absurd cc
taken_there a t (p ∷ ps) (x ∷ ts) zero allowed h e = both _ _ (allowed p e) (right_of _ _ h)
taken_there a t (p ∷ ps) (x ∷ ts) (suc n) allowed h e =
    both _ _ (left_of _ _ h) (taken_there a t ps ts n allowed (right_of _ _ h) e)

taken_at : (a : Answer) (t : Take) (ps : List Param) (ts us : List Take) (n : ℕ) → IsAllowed a t → IsTaking a ps ts
    → take_at ps t ts n ≡ Some us → IsTaking a ps us
taken_at a t ps ts us n allowed h e =
    choose (λ vs. IsTaking a ps vs) (is_free_object ps ts n) (Some (slice_set ts n t)) None us
    (λ free same. subst (λ vs. IsTaking a ps vs) (some_same _ _ same) (taken_there a t ps ts n allowed h
    (left_of _ _ free)))
    (λ k w. absurd cc) e

taken_each : (a : Answer) (t : Take) (ps : List Param) (ts us : List Take) (ds : Items) → IsAllowed a t
    → IsTaking a ps ts
    → take_each ps t ts ds ≡ Some us → IsTaking a ps us
taken_each a t ps ts us no_items allowed h e = subst (λ vs. IsTaking a ps vs) (some_same ts us e) h
taken_each a t ps ts us (item d ds) allowed h e =
    chain (λ vs. IsTaking a ps vs) (λ more. take_each ps t more ds) (take_one ps t ts d) us
    (λ more one rest. taken_each a t ps more us ds allowed
    (chain (λ vs. IsTaking a ps vs) (take_at ps t ts) (place_of d) more (λ n w at. taken_at a t ps ts more n allowed
    h at) one) rest) e

taken_of : (a : Answer) (t : Take) (ps : List Param) (ts us : List Take) (d : Data) → IsAllowed a t → IsTaking a ps ts
    → takes_of ps t ts d ≡ Some us → IsTaking a ps us
taken_of a t ps ts us d allowed h e =
    chain (λ vs. IsTaking a ps vs) (take_each ps t ts) (as_array d) us (λ ds w each. taken_each a t ps ts us ds
    allowed h each) e

of_parts : (a : Answer) (ps : List Param) → fits_int a ≡ true → IsPlain (plain_row a ps)
of_parts a ps h = record { plain = refl; taking = refl; fits = none_taken a ps; answers = h }

found_fits : (f : List ℕ → Bool) (ws : List (List ℕ × Answer)) (a : Answer)
    → list_all (λ w. fits_int w.1) ws ≡ true → lookup f ws ≡ Some a → fits_int a ≡ true
found_fits f [] a all e = absurd cc
found_fits f (w ∷ ws) a all e =
    choose (λ x. fits_int x ≡ true) (f w.0) (Some w.1) (lookup f ws) a
    (λ k same. subst (λ x. fits_int x ≡ true) (some_same w.1 a same) (left_of _ _ all))
    (λ k later. found_fits f ws a (right_of _ _ all) later) e

answer_fits : (d : Data) (a : Answer) → answer_of d ≡ Some a → fits_int a ≡ true
answer_fits d a e =
    chain (λ x. fits_int x ≡ true) (meaning answer_words) (as_str d) a
    (λ text w is. found_fits (λ word. bytes_eq text word) answer_words a refl is) e

of_takes : (t : Take) (row next : Row) (d : Data) → IsAllowed row.answer t → IsPlain row
    → option_map (with_takes row) (takes_of row.params t row.takes d) ≡ Some next → IsPlain next
of_takes t row next d allowed h e =
    mapped IsPlain (with_takes row) (takes_of row.params t row.takes d) next
    (λ us taken. record {
      plain = h.plain;
      taking = h.taking;
      fits = taken_of row.answer t row.params row.takes us d
          allowed h.fits taken;
      answers = h.answers;
    }) e

key_plain : (key : List ℕ) (d : Data) (row next : Row) → IsPlain row → with_key key d row ≡ Some next → IsPlain next
key_plain key d row next h e =
    choose IsPlain (bytes_eq key (codes "params")) _ _ next
    (λ k params. mapped IsPlain (plain_row row.answer) (params_of d) next (λ ps w. of_parts row.answer ps h.answers)
    params)
    (λ k. choose IsPlain (bytes_eq key (codes "result")) _ _ next
    (λ k2 result. mapped IsPlain (λ a. plain_row a row.params) (answer_of d) next (λ a w. of_parts a row.params
    (answer_fits d a w)) result)
    (λ k2. choose IsPlain (bytes_eq key (codes "takes")) _ _ next
    (λ k3 taken. of_takes takes.Always row next d (λ p w. w) h taken)
    (λ k3. choose IsPlain (bytes_eq key (codes "takes_on_success") && has_success row.answer) _ _ next
    (λ k4 taken. of_takes takes.OnSuccess row next d (λ p w. both _ _ w (right_of _ _ k4)) h taken)
    (λ k4 w. absurd cc)))) e

keys_plain : (keys : Members) (row last : Row) → IsPlain row → read_keys row keys ≡ Ok last → IsPlain last
keys_plain no_members row last h e = subst IsPlain (ok_same row last e) h
keys_plain (member key d keys) row last h e =
    go (with_key key d row) refl (λ next plain f. keys_plain keys next last plain f) e
  where
    go : (o : Option Row) → with_key key d row ≡ o
        → ((next : Row) → IsPlain next → read_keys next keys ≡ Ok last → IsPlain last)
        → or_wrong key o (λ next. read_keys next keys) ≡ Ok last → IsPlain last
    go None w later f = absurd cc
    go (Some next) w later f = later next (key_plain key d row next h w) f

under_plain : (path : List ℕ) (r : Result Row (List ℕ)) (row : Row) → ((x : Row) → r ≡ Ok x → IsPlain x)
    → under path r ≡ Ok row
    → IsPlain row
under_plain path (Ok x) row k e = subst IsPlain (ok_same x row e) (k x refl)
under_plain path (Err key) row k e = absurd cc

row_plain : (name : List ℕ) (d : Data) (row : Row) → read_row name d ≡ Ok row → IsPlain row
row_plain name (table keys) row e = go (has_key (codes "params") keys && has_key (codes "result") keys) e
  where
    go : (t : Bool)
        → (if t then under (function_path name) (read_keys empty_row keys) else Err (function_path name)) ≡ Ok row
        → IsPlain row
    go true f =
        under_plain (function_path name) (read_keys empty_row keys) row
        (λ x w. keys_plain keys empty_row x (of_parts _ [] refl) w) f
    go false f = absurd cc
row_plain name (string s) row e = absurd cc
row_plain name (integer z) row e = absurd cc
row_plain name (float x) row e = absurd cc
row_plain name (boolean b) row e = absurd cc
row_plain name (datetime t) row e = absurd cc
row_plain name (array ds) row e = absurd cc

function_plain : (rows : List (ℕ × Row)) (names : List (List ℕ)) (name : List ℕ) (d : Data) (row : Row)
    → read_function rows names name d ≡ Ok row → IsPlain row
function_plain rows names name d row e = go (is_free rows names name) e
  where
    go : (t : Bool) → (if t then read_row name d else Err (function_path name)) ≡ Ok row → IsPlain row
    go true f = row_plain name d row f
    go false f = absurd cc

plain_is : (row : Row) → IsPlain row → (is_plain_form row.form && is_row row) ≡ true
plain_is row h = rw h.taking (both _ _ h.fits h.answers)

with_row_plain : (n : ℕ) (r : Result Row (List ℕ)) (more : Result (List (ℕ × Row)) (List ℕ)) (found : List (ℕ × Row))
    → ((x : Row) → r ≡ Ok x → IsPlain x) → ((xs : List (ℕ × Row)) → more ≡ Ok xs → are_plain_rows xs ≡ true)
    → with_named n r more ≡ Ok found → are_plain_rows found ≡ true
with_row_plain n (Err key) more found k ks e = absurd cc
with_row_plain n (Ok row) (Err key) found k ks e = absurd cc
with_row_plain n (Ok row) (Ok more) found k ks e =
    subst (λ xs. are_plain_rows xs ≡ true) (ok_same ((n, row) ∷ more) found e)
    (both _ _ (plain_is row (k row refl)) (ks more refl))

rows_plain : (functions : Members) (rows : List (ℕ × Row)) (names : List (List ℕ)) (found : List (ℕ × Row))
    → read_rows rows names functions ≡ Ok found → are_plain_rows found ≡ true
rows_plain no_members rows names found e = subst (λ xs. are_plain_rows xs ≡ true) (ok_same [] found e) refl
rows_plain (member name d functions) rows names found e =
    with_row_plain (number_of names name) (read_function rows names name d)
    (read_rows rows (with_text names name) functions) found
    (λ x w. function_plain rows names name d x w) (λ xs w. rows_plain functions rows (with_text names name) xs w) e

-- the rows of what is read, whatever the terms are
terms_plain : (terms : Result FileTerms (List ℕ)) (r : Result (List (ℕ × Row)) (List ℕ)) (found : List (ℕ × Row))
    (stated : FileTerms) → ((xs : List (ℕ × Row)) → r ≡ Ok xs → are_plain_rows xs ≡ true)
    → with_terms terms r ≡ Ok (found, stated) → are_plain_rows found ≡ true
terms_plain (Err key) r found stated k e = absurd cc
terms_plain (Ok terms) (Err key) found stated k e = absurd cc
terms_plain (Ok terms) (Ok rows) found stated k e =
    subst (λ xs. are_plain_rows xs ≡ true) (ap (λ p. p.0) (ok_same (rows, terms) (found, stated) e)) (k rows refl)

unless_plain : (wrong : Option (List ℕ)) (r : Result (List (ℕ × Row) × FileTerms) (List ℕ)) (found : List (ℕ × Row))
    (stated : FileTerms) → (r ≡ Ok (found, stated) → are_plain_rows found ≡ true)
    → unless_wrong wrong r ≡ Ok (found, stated) → are_plain_rows found ≡ true
unless_plain None r found stated k e = k e
unless_plain (Some key) r found stated k e = absurd cc

pub members_plain : (members : Members) (rows : List (ℕ × Row)) (names : List (List ℕ)) (found : List (ℕ × Row))
    (stated : FileTerms) → read_members rows names members ≡ Ok (found, stated) → are_plain_rows found ≡ true
members_plain members rows names found stated e =
    unless_plain (wrong_top members) (read_parts rows names members) found stated
    (λ parts. terms_plain (read_terms rows names members)
    (read_rows rows (with_names names (conventions_in members)) (functions_in members)) found stated
    (λ xs w. rows_plain (functions_in members) rows (with_names names (conventions_in members)) xs w) parts) e
