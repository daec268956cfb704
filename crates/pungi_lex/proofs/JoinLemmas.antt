-- A text without its line joins, stretch by stretch.
use Rattle.std.specs.Prelude.{codes, if◌then◌else◌}
use Rattle.std.proofs.Common.{◌≡◌, ℕ, zero, suc, ◌+◌, ◌-◌, ◌<◌, ◌≤◌, ◌==◌, Bool, true, false, List, [], ◌∷◌, ◌++◌}
use Rattle.std.proofs.Common.{length, take, drop, get_or, refl, sym, ap, ◌∙◌, arith, take-append-drop, append_assoc}
use Rattle.std.proofs.Common.{add-zero}
use Rattle.std.specs.List.{list_all, prefix_len}
use Rattle.std.proofs.lemmas.List.{map-append, drop-drop, length-map, take_more, drop_more, get_or-drop, length-drop}
use Rattle.std.proofs.lemmas.List.{length-take-le}
use Rattle.std.proofs.lemmas.List.Folds.{length-prefix_len}
use Rattle.std.proofs.lemmas.Bool.Decides.{nat_tests}
use Rattle.pungi_base.specs.declared.pos.Pos.{Pos}
use Rattle.pungi_lex.specs.Bytes.{begins_with}
use Rattle.pungi_lex.specs.Join.{join_length, after_byte, joined, joined_from, bytes_of, places_of, plain, Placed, kept}
use Rattle.pungi_lex.specs.Join.{still, first_place}
use Rattle.pungi_lex.specs.Stretch.{is_unbroken, right_of, side_by_side}
use Rattle.pungi_lex.proofs.FrontLemmas.{front_passes}
use Rattle.pungi_lex.proofs.MarkLemmas.{front}
use Rattle.pungi_lex.proofs.StretchLemmas.{right_zero, right_suc}

-- ---- one byte, and one join

pub one_on : (at : Pos) (b : ℕ) (rest : List ℕ) → join_length (b ∷ rest) ≡ 0
    → joined_from 0 at (b ∷ rest) ≡ (record { byte = b; at = at }) ∷ joined_from 0 (after_byte at b) rest
one_on at b rest h = rw h refl

abbrev line_below : Pos → Pos
line_below at = record { line = at.line + 1; col = 1 }

join_by : (at : Pos) (text : List ℕ) (two three : Bool) (k : ℕ) → begins_with (codes "\\\n") text ≡ two
    → begins_with (codes "\\\r\n") text ≡ three → k ≡ (if two then 2 else if three then 3 else 0) → (k ≡ 0 → ⊥)
    → joined_from 0 at text ≡ joined_from 0 (line_below at) (drop k text)
join_by at text true three k is-two is-three k-is some =
    let r = front (codes "\\\n") text is-two in
    let there : drop k text ≡ r.0 = ap (λ (n : ℕ). drop n text) k-is ∙ ap (drop 2) r.1 in
    ap (joined_from 0 at) r.1 ∙ ap (joined_from 0 (line_below at)) (sym there)
join_by at text false true k is-two is-three k-is some =
    let r = front (codes "\\\r\n") text is-three in
    let there : drop k text ≡ r.0 = ap (λ (n : ℕ). drop n text) k-is ∙ ap (drop 3) r.1 in
    ap (joined_from 0 at) r.1 ∙ ap (joined_from 0 (line_below at)) (sym there)
join_by at text false false k is-two is-three k-is some = absurd (some k-is)

pub join_on : (at : Pos) (text : List ℕ) (k : ℕ) → k ≡ join_length text → (k ≡ 0 → ⊥)
    → joined_from 0 at text ≡ joined_from 0 (line_below at) (drop k text)
join_on at text k is some =
    join_by at text (begins_with (codes "\\\n") text) (begins_with (codes "\\\r\n") text) k refl refl is some

-- ---- bytes that neither a line end nor a join breaks

abbrev standing : Pos → List ℕ → List Placed
standing at [] = []
standing at (b ∷ bytes) = (record { byte = b; at = at }) ∷ standing (right_of at 1) bytes

standing_bytes : (at : Pos) (bytes : List ℕ) → bytes_of (standing at bytes) ≡ bytes
standing_bytes at [] = refl
standing_bytes at (b ∷ bytes) = ap (λ (l : List ℕ). b ∷ l) (standing_bytes (right_of at 1) bytes)

standing_places : (at : Pos) (bytes : List ℕ) → places_of (standing at bytes) ≡ side_by_side at (length bytes)
standing_places at [] = refl
standing_places at (b ∷ bytes) = ap (λ (l : List Pos). at ∷ l) (standing_places (right_of at 1) bytes)

standing_one : (at : Pos) (bytes : List ℕ) (b : ℕ)
    → standing at (bytes ++ b ∷ []) ≡ standing at bytes ++ (record { byte = b; at = right_of at (length bytes) })
    ∷ []
standing_one at [] b = ap (λ (p : Pos). (record { byte = b; at = p }) ∷ []) (sym (right_zero at))
standing_one at (a ∷ bytes) b =
    ap (λ (l : List Placed). (record { byte = a; at = at }) ∷ l) (standing_one (right_of at 1) bytes b
    ∙ ap (λ (p : Pos). standing (right_of at 1) bytes ++ (record { byte = b; at = p }) ∷ [])
    (right_suc at (length bytes)))

unbroken_length : (b : ℕ) (rest : List ℕ) → is_unbroken b ≡ true → join_length (b ∷ rest) ≡ 0
unbroken_length b rest h =
    let other : (92 == b) ≡ false = grind (arith, nat_tests) in
    rw other refl

unbroken_place : (at : Pos) (b : ℕ) → is_unbroken b ≡ true → after_byte at b ≡ right_of at 1
unbroken_place at b h =
    let other : (b == 10) ≡ false = grind (arith, nat_tests) in
    rw other refl

unbroken_on : (at : Pos) (bytes rest : List ℕ) → list_all is_unbroken bytes ≡ true
    → joined_from 0 at (bytes ++ rest) ≡ standing at bytes ++ joined_from 0 (right_of at (length bytes)) rest
unbroken_on at [] rest h = ap (λ (p : Pos). joined_from 0 p rest) (sym (right_zero at))
unbroken_on at (b ∷ bytes) rest h =
    let first : is_unbroken b ≡ true = grind (arith, nat_tests) in
    let more : list_all is_unbroken bytes ≡ true = grind (arith, nat_tests) in
    one_on at b (bytes ++ rest) (unbroken_length b (bytes ++ rest) first)
    ∙ ap (λ (p : Pos). (record { byte = b; at = at }) ∷ joined_from 0 p (bytes ++ rest)) (unbroken_place at b first)
    ∙ ap (λ (l : List Placed). (record { byte = b; at = at }) ∷ l) (unbroken_on (right_of at 1) bytes rest more
    ∙ ap (λ (p : Pos). standing (right_of at 1) bytes ++ joined_from 0 p rest) (right_suc at (length bytes)))

-- the bytes before the next line feed or backslash
front_on : (at : Pos) (text : List ℕ) (n : ℕ) → n ≡ prefix_len is_unbroken text
    → joined_from 0 at text ≡ standing at (take n text) ++ joined_from 0 (right_of at n) (drop n text)
front_on at text n is =
    let whole : text ≡ take n text ++ drop n text = sym (take-append-drop n text) in
    let even : list_all is_unbroken (take n text) ≡ true = ap (λ (k : ℕ). list_all is_unbroken (take k text)) is
    ∙ front_passes is_unbroken text in
    let long : length (take n text) ≡ n = ap (λ (k : ℕ). length (take k text)) is
    ∙ length-prefix_len is_unbroken text ∙ sym is in
    ap (joined_from 0 at) whole ∙ unbroken_on at (take n text) (drop n text) even
    ∙ ap (λ (k : ℕ). standing at (take n text) ++ joined_from 0 (right_of at k) (drop n text)) long

-- ---- what stands first

-- so many bytes stand side by side at the front of a text
pub record Stands (at next : Pos) (text : List ℕ) (kept passed : ℕ) : Type 0 where
  pub bytes : bytes_of (joined_from 0 at text) ≡ take kept text ++ bytes_of (joined_from 0 next (drop passed text))
  pub places : places_of (joined_from 0 at text) ≡ side_by_side at kept
      ++ places_of (joined_from 0 next (drop passed text))

stands : (at next : Pos) (text : List ℕ) (kept passed : ℕ) → length (take kept text) ≡ kept
    → joined_from 0 at text ≡ standing at (take kept text) ++ joined_from 0 next (drop passed text)
    → Stands at next text kept passed
stands at next text kept passed long is =
    let front = take kept text in
    let rest = joined_from 0 next (drop passed text) in
    record {
      bytes = ap bytes_of is ∙ map-append (λ (p : Placed). p.byte) (standing at front) rest
          ∙ ap (λ (l : List ℕ). l ++ bytes_of rest) (standing_bytes at front);
      places = ap places_of is ∙ map-append (λ (p : Placed). p.at) (standing at front) rest
          ∙ ap (λ (l : List Pos). l ++ places_of rest) (standing_places at front ∙ ap (side_by_side at) long);
    }

front_long : (text : List ℕ) (n : ℕ) → n ≡ prefix_len is_unbroken text → length (take n text) ≡ n
front_long text n is = ap (λ (k : ℕ). length (take k text)) is ∙ length-prefix_len is_unbroken text ∙ sym is

pub stands_to_end : (at : Pos) (text : List ℕ) (n : ℕ) → n ≡ prefix_len is_unbroken text
    → Stands at (right_of at n) text n n
stands_to_end at text n is = stands at (right_of at n) text n n (front_long text n is) (front_on at text n is)

pub stands_to_join : (at : Pos) (text : List ℕ) (n k : ℕ) → n ≡ prefix_len is_unbroken text
    → k ≡ join_length (drop n text) → (k ≡ 0 → ⊥) → Stands at (line_below at) text n (n + k)
stands_to_join at text n k is k-is some =
    let behind : drop k (drop n text) ≡ drop (n + k) text = drop-drop k n text in
    stands at (line_below at) text n (n + k) (front_long text n is)
    (front_on at text n is ∙ ap (λ (l : List Placed). standing at (take n text) ++ l)
    (join_on (right_of at n) (drop n text) k k-is some ∙ ap (joined_from 0 (line_below at)) behind))

pub stands_to_byte : (at next : Pos) (text behind : List ℕ) (n : ℕ) → n ≡ prefix_len is_unbroken text
    → behind ≡ drop n text → 1 ≤ length behind → join_length behind ≡ 0
    → next ≡ after_byte (right_of at n) (get_or behind 0 0) → Stands at next text (n + 1) (n + 1)
stands_to_byte at next text behind n is behind-is some none next-is =
    let b = get_or behind 0 0 in
    let within : n < length text = omega (arith, ap length behind-is, length-drop n text) in
    let b-is : get_or text n 0 ≡ b = sym (ap (λ (l : List ℕ). get_or l 0 0) behind-is ∙ get_or-drop n text 0 0
    ∙ ap (λ (k : ℕ). get_or text k 0) (add-zero n)) in
    let there : behind ≡ b ∷ drop (n + 1) text = behind-is ∙ drop_more text n 0 within
    ∙ ap (λ (x : ℕ). x ∷ drop (n + 1) text) b-is in
    let here : take (n + 1) text ≡ take n text ++ b ∷ [] = take_more text n 0 within
    ∙ ap (λ (x : ℕ). take n text ++ x ∷ []) b-is in
    let long : length (take (n + 1) text) ≡ n + 1 = length-take-le (n + 1) text (omega arith) in
    let rest = joined_from 0 next (drop (n + 1) text) in
    let one : joined_from 0 (right_of at n) (drop n text) ≡ (record { byte = b; at = right_of at n }) ∷ rest =
    ap (joined_from 0 (right_of at n)) (sym behind-is ∙ there)
    ∙ one_on (right_of at n) b (drop (n + 1) text) (ap join_length (sym there) ∙ none)
    ∙ ap (λ (p : Pos). (record { byte = b; at = right_of at n }) ∷ joined_from 0 p (drop (n + 1) text))
    (sym next-is) in
    let last : standing at (take n text ++ b ∷ []) ≡ standing at (take n text)
    ++ (record { byte = b; at = right_of at n }) ∷ [] =
    standing_one at (take n text) b ∙ ap (λ (k : ℕ). standing at (take n text)
    ++ (record { byte = b; at = right_of at k }) ∷ []) (front_long text n is) in
    stands at next text (n + 1) (n + 1) long
    (front_on at text n is ∙ ap (λ (l : List Placed). standing at (take n text) ++ l) one
    ∙ sym (append_assoc (standing at (take n text)) ((record { byte = b; at = right_of at n }) ∷ []) rest)
    ∙ ap (λ (l : List Placed). l ++ rest) (sym last ∙ ap (standing at) (sym here)))

-- ---- a text with no join

within_text : (left : ℕ) (at : Pos) (text : List ℕ) → length (bytes_of (joined_from left at text)) ≤ length text
within_text left at [] = omega arith
within_text left at (b ∷ rest) =
    within_step (still left (b ∷ rest)) (within_text (still left (b ∷ rest) - 1) (after_byte at b) rest)
  where
    within_step : (now : ℕ) → length (bytes_of (joined_from (now - 1) (after_byte at b) rest)) ≤ length rest
        → length (bytes_of (kept now b at ++ joined_from (now - 1) (after_byte at b) rest)) ≤ suc (length rest)
    within_step zero h = omega (arith, h)
    within_step (suc now) h = let some : (suc now == 0) ≡ false = grind (arith, nat_tests) in rw some (omega (arith, h))

whole_from : (left : ℕ) (at : Pos) (text : List ℕ) → length (bytes_of (joined_from left at text)) ≡ length text
    → bytes_of (joined_from left at text) ≡ text
whole_from left at [] long = refl
whole_from left at (b ∷ rest) long =
    whole_step (still left (b ∷ rest)) long (within_text (still left (b ∷ rest) - 1) (after_byte at b) rest)
    (whole_from (still left (b ∷ rest) - 1) (after_byte at b) rest)
  where
    whole_step : (now : ℕ) → length (bytes_of (kept now b at ++ joined_from (now - 1) (after_byte at b) rest))
        ≡ suc (length rest) → length (bytes_of (joined_from (now - 1) (after_byte at b) rest)) ≤ length rest
        → (length (bytes_of (joined_from (now - 1) (after_byte at b) rest)) ≡ length rest
        → bytes_of (joined_from (now - 1) (after_byte at b) rest) ≡ rest)
        → bytes_of (kept now b at ++ joined_from (now - 1) (after_byte at b) rest) ≡ b ∷ rest
    whole_step zero long within more = ap (λ (l : List ℕ). b ∷ l) (more (omega (arith, long)))
    whole_step (suc now) long within more = let some : (suc now == 0)
        ≡ false = grind (arith, nat_tests) in absurd (omega (arith, rw some at long, within))

pub whole_text : (text : List ℕ) → length (plain text) ≡ length text → plain text ≡ text
whole_text text long = whole_from 0 first_place text long

-- each byte that stays has its place
pub as_many : (text : List ℕ) → length (places_of (joined text)) ≡ length (plain text)
as_many text = length-map (joined text) (λ (p : Placed). p.at) ∙ sym (length-map (joined text) (λ (p : Placed). p.byte))
