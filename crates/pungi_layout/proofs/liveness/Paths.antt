-- What is written before it is read: on shorter paths, and where more was written.
use Rattle.std.proofs.Common.{◌≡◌, inl, inr, ℕ, zero, suc, List, [], ◌∷◌, ◌++◌, Option, Some, None, sym, subst}
use Rattle.std.specs.Prelude.{slice_get}
use Rattle.pungi_code.specs.declared.code.Line.{Line}
use Rattle.pungi_layout.specs.liveness.Liveness.{reads, writes, following, Among, IsKnown, AreKnown, Each, LineKeeps}
use Rattle.pungi_layout.specs.liveness.Liveness.{WritesFirst}

-- ---- members

abbrev pub Within : List ℕ → List ℕ → Type 0
Within xs ys = (x : ℕ) → Among x xs → Among x ys

pub within_all : (xs : List ℕ) → Within xs xs
within_all xs x h = h

pub within_more : (xs ys : List ℕ) (a : ℕ) → Within xs ys → Within xs (a ∷ ys)
within_more xs ys a h x m = inr (h x m)

pub within_both : (xs ys : List ℕ) (a : ℕ) → Within xs ys → Within (a ∷ xs) (a ∷ ys)
within_both xs ys a h x (inl e) = inl e
within_both xs ys a h x (inr m) = inr (h x m)

within_behind : (as' xs ys : List ℕ) → Within xs ys → Within (as' ++ xs) (as' ++ ys)
within_behind [] xs ys h = h
within_behind (a ∷ as') xs ys h = within_both (as' ++ xs) (as' ++ ys) a (within_behind as' xs ys h)

known_more : (nl : ℕ) (ws vs : List ℕ) → Within ws vs → (x : ℕ) → IsKnown nl ws x → IsKnown nl vs x
known_more nl ws vs h x (inl e) = inl e
known_more nl ws vs h x (inr m) = inr (h x m)

pub all_known : (nl : ℕ) (ws vs : List ℕ) → Within ws vs → (xs : List ℕ) → AreKnown nl ws xs → AreKnown nl vs xs
all_known nl ws vs h [] k = tt
all_known nl ws vs h (x ∷ xs) k = (known_more nl ws vs h x k.0, all_known nl ws vs h xs k.1)

-- ---- paths

each_map : (f g : ℕ → List ℕ → Type 0) (ws vs : List ℕ) → ((q : ℕ) → f q ws → g q vs) → (qs : List ℕ) → Each f ws qs
    → Each g vs qs
each_map f g ws vs h [] e = tt
each_map f g ws vs h (q ∷ qs) e = (h q e.0, each_map f g ws vs h qs e.1)

module _ (code : List Line) (nl : ℕ) where
  line_map : (f g : ℕ → List ℕ → Type 0) (ws vs : List ℕ) (pc : ℕ) → Within ws vs
      → ((q : ℕ) (as' : List ℕ) → f q (as' ++ ws) → g q (as' ++ vs)) → (o : Option Line) → LineKeeps f nl ws pc o
      → LineKeeps g nl vs pc o
  line_map f g ws vs pc h m None k = tt
  line_map f g ws vs pc h m (Some l) k = (
    all_known nl ws vs h (reads l.instr) k.0,
    each_map f g (writes l.instr ++ ws) (writes l.instr ++ vs)
        (λ q. m q (writes l.instr)) (following pc l.instr) k.1,
  )

  -- where more was written
  pub more : (n pc : ℕ) (ws vs : List ℕ) → Within ws vs → WritesFirst code nl n pc ws → WritesFirst code nl n pc vs
  more zero pc ws vs h k = tt
  more (suc n) pc ws vs h k =
      line_map (WritesFirst code nl n) (WritesFirst code nl n) ws vs pc h (λ q as'. more n q (as' ++ ws) (as' ++ vs)
      (within_behind as' ws vs h)) (slice_get code pc) k

  -- on a shorter path
  pub shorter : (n pc : ℕ) (ws : List ℕ) → WritesFirst code nl (suc n) pc ws → WritesFirst code nl n pc ws
  shorter zero pc ws k = tt
  shorter (suc n) pc ws k =
      line_map (WritesFirst code nl (suc n)) (WritesFirst code nl n) ws ws pc (within_all ws)
      (λ q as'. shorter n q (as' ++ ws)) (slice_get code pc) k

  -- by one instruction
  pub by_line : (n pc : ℕ) (ws : List ℕ) (l : Line) → slice_get code pc ≡ Some l → AreKnown nl ws (reads l.instr)
      → Each (WritesFirst code nl n) (writes l.instr ++ ws) (following pc l.instr) → WritesFirst code nl n pc ws
  by_line zero pc ws l here known each = tt
  by_line (suc n) pc ws l here known each =
      subst (λ o. LineKeeps (WritesFirst code nl n) nl ws pc o) (sym here) (
        known,
        each_map (WritesFirst code nl (suc n)) (WritesFirst code nl n) (writes l.instr ++ ws)
            (writes l.instr ++ ws) (λ q. shorter n q (writes l.instr ++ ws)) (following pc l.instr) each,
      )

  -- a path that begins with an instruction is one longer than what is after it
  pub by_last : (n pc : ℕ) (ws : List ℕ) (l : Line) → slice_get code pc ≡ Some l → AreKnown nl ws (reads l.instr)
      → Each (WritesFirst code nl n) (writes l.instr ++ ws) (following pc l.instr) → WritesFirst code nl (suc n) pc ws
  by_last n pc ws l here known each = subst (λ o. LineKeeps (WritesFirst code nl n) nl ws pc o) (sym here) (known, each)
