-- What the search for the slot of an instruction says of the state that makes it.
use Rattle.std.proofs.Common.{◌≡◌, ℕ, ◌+◌, ◌-◌, length, drop, get_or}
use Rattle.std.proofs.Common.{Bool}
use Rattle.std.proofs.Common.{true, false, refl, sym, ap, ◌∙◌, subst, Option, None, Some, cond}
use Rattle.pungi_code.specs.declared.atom.Atom.{Atom}
use Rattle.pungi_symbol.specs.declared.answers.decision.Decision.TheVariants.{Quiet}
use Rattle.pungi_symbol.specs.declared.states.known.Known.{Known}
use Rattle.pungi_symbol.specs.declared.states.mark.Mark.{Mark}
use Rattle.pungi_symbol.specs.declared.states.mark.Mark.TheVariants.{Pointer, TextPointer, IsNull, IsObject, IsText}
use Rattle.pungi_symbol.specs.declared.states.mark.Mark.TheVariants.{IsNumber, IsConverted, Integer}
use Rattle.pungi_symbol.specs.declared.questions.question.Question.TheVariants.{Null as AsksNull, Base}
use Rattle.pungi_symbol.specs.declared.questions.question.Question.TheVariants.{Stops}
use Rattle.pungi_symbol.specs.declared.states.term.Term.{Term}
use Rattle.pungi_symbol.specs.declared.states.term.Term.TheVariants.{Unset, Null, Text, Number, Token, Sum}
use Rattle.std.specs.Prelude.{position, ◌<◌, nat_lt}
use Rattle.std.proofs.Common.{arith}
use Rattle.std.proofs.lemmas.Bool.Decides.{nat_tests}
use Rattle.std.proofs.lemmas.List.Quantifiers.{position-Some}
use Rattle.std.proofs.lemmas.List.{get_or-drop}
use Rattle.pungi_base.specs.declared.names.Name.{Name}
use Rattle.pungi_api.specs.declared.param.Param.{Param}
use Rattle.pungi_code.specs.declared.place.Place.{Place}
use Rattle.pungi_code.specs.declared.place.Place.TheVariants as places
use Rattle.pungi_symbol.specs.declared.questions.found_slot.Finding.TheVariants.{Waits, At, OfMade, Nowhere}
use Rattle.pungi_symbol.specs.declared.states.spot.Progress.{Progress}
use Rattle.pungi_symbol.specs.declared.states.spot.Progress.TheVariants.{Looking, Found}
use Rattle.pungi_symbol.specs.states.Known.{mark_of, term_of, find, find_field}
use Rattle.pungi_symbol.specs.states.Known.{find_token, seek, ask_made, ask_base, at_place, is_field, is_global}
use Rattle.pungi_symbol.specs.states.Known.{base_of, no_slot}
use Rattle.pungi_symbol.specs.states.Known.{slot_note, spot_of, token_in}
use Rattle.pungi_symbol.specs.answers.SymbolicState.{is_among}
use Rattle.pungi_symbol.proofs.answers.Made.{among_at}
use Rattle.pungi_symbol.specs.runs.Fits.{IsObjectSpot}
use Rattle.pungi_symbol.proofs.states.Contents.{is_open}
use Rattle.pungi_symbol.proofs.steps.SlotSearch.{spot_object}

made_there : (j n : ℕ) → nat_lt j n ≡ true → j < n
made_there j n e = grind (arith, nat_tests)

pub data Seeks (k : Known) (place : Place) : Type 0 where
  s_stop : find k place ≡ Waits (Stops Quiet) → Seeks k place
  s_null : (t : ℕ) → find k place ≡ Waits (AsksNull t) → is_open (mark_of k t) ≡ true → Seeks k place
  s_base : (t u j : ℕ) → find k place ≡ Waits (Base t u j) → mark_of k t ≡ IsObject → mark_of k u ≡ IsObject
      → Seeks k place
  s_at : (j : ℕ) → find k place ≡ At j → Seeks k place
  s_made : find k place ≡ OfMade → IsObjectSpot k.marks (spot_of k place) → Seeks k place
  s_new : find k place ≡ Nowhere → IsObjectSpot k.marks (spot_of k place) → Seeks k place

module _ (k : Known) (spots : (j : ℕ) → IsObjectSpot k.marks (slot_note k.slots j).spot)
    (made : (m : ℕ) → is_among k.made m ≡ true → get_or k.marks m IsNull ≡ IsObject) where
  global_seeks : (n : Name) (kind : Param) (r : Option ℕ) → position (λ y. is_global n y.spot) k.slots ≡ r
      → Seeks k (places.Global n kind)
  global_seeks n kind None e = s_new (ap at_place e) tt
  global_seeks n kind (Some j) e = s_at j (ap at_place e)

  module _ (base' : Atom) (tag field : Name) (kind : Param) where
    abbrev F : Place
    F = places.Field base' tag field kind

    object_spot : (t : ℕ) → term_of k base' ≡ Token t → mark_of k t ≡ IsObject → IsObjectSpot k.marks (spot_of k F)
    object_spot t e m = subst (λ y. get_or k.marks (token_in y) IsNull ≡ IsObject) (sym e) m

    looks_made : (t j : ℕ) (b : Bool) → nat_lt j (length k.made) ≡ b → term_of k base' ≡ Token t
        → mark_of k t ≡ IsObject → find k F ≡ ask_made t (length k.slots) j k.made → Seeks k F
    looks_made t j true h e m f = s_base t (get_or k.made j 0) (length k.slots + j)
        (f ∙ ap (λ b. cond b (Waits (Base t (get_or k.made j 0) (length k.slots + j))) Nowhere) h) m
        (made (get_or k.made j 0) (among_at k.made j (made_there j (length k.made) h)))
    looks_made t j false h e m f =
        s_new (f ∙ ap (λ b. cond b (Waits (Base t (get_or k.made j 0) (length k.slots + j))) Nowhere) h)
        (object_spot t e m)

    looks : (t c : ℕ) (r : Option ℕ) → term_of k base' ≡ Token t → mark_of k t ≡ IsObject
        → find k F ≡ ask_base t c k.slots k.made (position (λ y. is_field tag field y.spot) (drop c k.slots))
        → position (λ y. is_field tag field y.spot) (drop c k.slots) ≡ r → Seeks k F
    looks t c None e m f g =
        let j = c - length k.slots in
        looks_made t j (nat_lt j (length k.made)) refl e m (f ∙ ap (ask_base t c k.slots k.made) g)
    looks t c (Some j) e m f g =
        let there = position-Some (λ y. is_field tag field y.spot) (drop c k.slots) j no_slot g in
        let is : is_field tag field (slot_note k.slots (c + j)).spot
        ≡ true = ap (λ y. is_field tag field y.spot) (sym (get_or-drop c k.slots j no_slot)) ∙ there.1 in
        s_base t (base_of (slot_note k.slots (c + j)).spot) (c + j) (f ∙ ap (ask_base t c k.slots k.made) g) m
        (spot_object k.marks tag field (slot_note k.slots (c + j)).spot is (spots (c + j)))

    found_seeks : (t j : ℕ) (b : Bool) → nat_lt j (length k.slots) ≡ b → term_of k base' ≡ Token t
        → mark_of k t ≡ IsObject → find k F ≡ cond (nat_lt j (length k.slots)) (At j) OfMade → Seeks k F
    found_seeks t j true h e m f = s_at j (f ∙ ap (λ b. cond b (At j) OfMade) h)
    found_seeks t j false h e m f = s_made (f ∙ ap (λ b. cond b (At j) OfMade) h) (object_spot t e m)

    object_seeks : (t : ℕ) (q : Progress) → term_of k base' ≡ Token t → mark_of k t ≡ IsObject → k.progress ≡ q
        → find k F ≡ seek k.progress t tag field k.slots k.made → Seeks k F
    object_seeks t (Found j) e m pr f = found_seeks t j (nat_lt j (length k.slots)) refl e m
        (f ∙ ap (λ z. seek z t tag field k.slots k.made) pr)
    object_seeks t (Looking c) e m pr f = looks t c (position (λ y. is_field tag field y.spot) (drop c k.slots)) e m
        (f ∙ ap (λ z. seek z t tag field k.slots k.made) pr) refl

    token_seeks : (t : ℕ) (r : Mark) → term_of k base' ≡ Token t → mark_of k t ≡ r
        → find k F ≡ find_token k t r tag field → Seeks k F
    token_seeks t Pointer e m f = s_null t f (ap is_open m)
    token_seeks t TextPointer e m f = s_null t f (ap is_open m)
    token_seeks t IsNull e m f = s_stop f
    token_seeks t IsObject e m f = object_seeks t k.progress e m refl f
    token_seeks t IsText e m f = s_stop f
    token_seeks t (IsNumber n) e m f = s_stop f
    token_seeks t (IsConverted n) e m f = s_stop f
    token_seeks t (Integer r) e m f = s_stop f

    field_seeks : (x : Term) → term_of k base' ≡ x → find k F ≡ find_field k x tag field → Seeks k F
    field_seeks Unset e f = s_stop f
    field_seeks Null e f = s_stop f
    field_seeks Text e f = s_stop f
    field_seeks (Number n) e f = s_stop f
    field_seeks (Token t) e f = token_seeks t (mark_of k t) e refl f
    field_seeks (Sum s) e f = s_stop f

  pub seeks : (place : Place) → Seeks k place
  seeks (places.Global n kind) = global_seeks n kind (position (λ y. is_global n y.spot) k.slots) refl
  seeks (places.Field base' tag field kind) = field_seeks base' tag field kind (term_of k base') refl
      (ap (λ y. find_field k y tag field) refl)

  -- a slot of an object that was made has an object as its base
  pub made_spot : (place : Place) → find k place ≡ OfMade → IsObjectSpot k.marks (spot_of k place)
  made_spot place f = elim (seeks place) [
    | s_stop e ↦ absurd (let bad : Waits (Stops Quiet) ≡ OfMade = sym e ∙ f in cc)
    | s_null t e o ↦ absurd (let bad : Waits (AsksNull t) ≡ OfMade = sym e ∙ f in cc)
    | s_base t u j e m n ↦ absurd (let bad : Waits (Base t u j) ≡ OfMade = sym e ∙ f in cc)
    | s_at j e ↦ absurd (let bad : At j ≡ OfMade = sym e ∙ f in cc)
    | s_made e h ↦ h
    | s_new e h ↦ absurd (let bad : Nowhere ≡ OfMade = sym e ∙ f in cc)
  ]
