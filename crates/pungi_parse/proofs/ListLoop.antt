-- Loops over lists of nodes, one node at a turn.
--   before put front rest     the nodes of a list before others
--   Places put build          `build front` takes what comes after `front`, and a node more in front of that is a node
--                             more of `front`
--   ListTo more build whole front ts    all that is read is what `build front` makes of the rest, which is read with
--                                       enough fuel
--   list_turn, list_fail, list_end      one node more, a failure, and the end
--   placed_shorter        fewer tokens are fewer with their places
use Rattle.std.proofs.Common.{◌≡◌, ℕ, zero, suc, ◌<◌, List, [], ◌∷◌, ◌++◌, length, Option, Some, None, refl, ◌∙◌, ap}
use Rattle.std.proofs.Common.{arith}
use Rattle.std.proofs.lemmas.List.{length-map}
use Rattle.pungi_parse.specs.Reading.{Read, ◌>>=◌, chain}
use Rattle.pungi_base.specs.declared.token.Token.{Token}
use Rattle.pungi_tree.specs.Placed.{Placed, placed}

abbrev pub before : {T Ts : Type 0} → (T → Ts → Ts) → List T → Ts → Ts
before put [] rest = rest
before put (x ∷ xs) rest = put x (before put xs rest)

pub before_push : {T Ts : Type 0} (put : T → Ts → Ts) (front : List T) (x : T) (rest : Ts)
    → before put front (put x rest) ≡ before put (front ++ x ∷ []) rest
before_push put [] x rest = refl
before_push put (a ∷ front) x rest = ap (λ z. put a z) (before_push put front x rest)

pub record ListTo {T Ts R : Type 0} (more : ℕ → List Placed → Read Ts)
    (build : List T → Ts × List Placed → Option R) (whole : Option R) (front : List T) (ts : List Placed) : Type 0
  where
    pub fuel : ℕ
    pub enough : length ts < fuel
    pub comes : whole ≡ (more fuel ts >>= build front)

module _ {T Ts R : Type 0} (put : T → Ts → Ts) (more : ℕ → List Placed → Read Ts)
    (build : List T → Ts × List Placed → Option R) (whole : Option R) (front : List T) (ts : List Placed) where
  abbrev one : T → Ts × List Placed → Read Ts
  one x y = Some (put x y.0, y.1)

  regroup : (x : T) (r : Read Ts) → ((y : Ts × List Placed)
      → build front (put x y.0, y.1) ≡ build (front ++ x ∷ []) y)
      → ((r >>= one x) >>= build front) ≡ (r >>= build (front ++ x ∷ []))
  unfolding chain
  regroup x None h = refl
  regroup x (Some y) h = h y

  pub list_turn : (x : T) (rest : List Placed)
      → ((y : Ts × List Placed) → build front (put x y.0, y.1) ≡ build (front ++ x ∷ []) y)
      → ((k : ℕ) → more (suc k) ts ≡ (more k rest >>= one x)) → length rest < length ts
      → ListTo more build whole front ts → ListTo more build whole (front ++ x ∷ []) rest
  list_turn x rest place step less c = turned c.fuel c.enough c.comes
    where
      turned : (k : ℕ) → length ts < k → whole ≡ (more k ts >>= build front)
          → ListTo more build whole (front ++ x ∷ []) rest
      turned zero enough comes = absurd (omega arith)
      turned (suc k) enough comes = record {
        fuel = k;
        enough = omega arith;
        comes = comes ∙ ap (λ (z : Read Ts). z >>= build front) (step k) ∙ regroup x (more k rest) place;
      }

  pub list_fail : ((k : ℕ) → more k ts ≡ None) → ListTo more build whole front ts → whole ≡ None
  unfolding chain
  list_fail none c = c.comes ∙ ap (λ (z : Read Ts). z >>= build front) (none c.fuel)

  pub list_end : (y : Ts × List Placed) → ((k : ℕ) → more (suc k) ts ≡ Some y) → ListTo more build whole front ts
      → whole ≡ build front y
  unfolding chain
  list_end y ends c = ended c.fuel c.enough c.comes
    where
      ended : (k : ℕ) → length ts < k → whole ≡ (more k ts >>= build front) → whole ≡ build front y
      ended zero enough comes = absurd (omega arith)
      ended (suc k) enough comes = comes ∙ ap (λ (z : Read Ts). z >>= build front) (ends k)

pub placed_shorter : (a b : List Token) → length a < length b → length (placed a) < length (placed b)
placed_shorter a b h = let f : Token → Placed = λ t. (t.kind, t.pos) in omega (arith, length-map a f, length-map b f)
