-- A pointer to a function by its front (C11 6.7.6.3).
--   function_none, function_fails, function_ends    no front, a failure after it, and the end
use Rattle.std.proofs.Common.{◌≡◌, ℕ, List, Option, Some, None, refl, sym, ◌∙◌}
use Rattle.pungi_base.specs.declared.names.Name.{Name}
use Rattle.pungi_base.specs.declared.pos.Pos.{Pos}
use Rattle.pungi_base.specs.declared.punct.Punct.TheVariants as puncts
use Rattle.pungi_parse.specs.tokens.OneToken.{eat}
use Rattle.pungi_parse.specs.Gives.{Fails}
use Rattle.pungi_parse.specs.Reading.{Read, ◌>>=◌, chain}
use Rattle.pungi_parse.specs.ReaderParts.{function_front}
use Rattle.pungi_parse.specs.types.TypeReader.{Lower, function_rest, plain_word}
use Rattle.pungi_parse.specs.declared.stop.Stop.{Stop}
use Rattle.pungi_parse.specs.declared.stop.Stop.TheVariants as stops
use Rattle.pungi_tree.specs.Placed.{Placed}
use Rattle.pungi_tree.specs.Syntax.{Declr, declr, function, Params}

again : {A B C : Type 0} (o : Option A) (f : A → Option B) (g : B → Option C)
    → ((o >>= f) >>= g) ≡ (o >>= λ x. f x >>= g)
unfolding chain
again None f g = refl
again (Some x) f g = refl

same : {A B : Type 0} (o : Option A) (f g : A → Option B) → ((x : A) → f x ≡ g x) → (o >>= f) ≡ (o >>= g)
unfolding chain
same None f g h = refl
same (Some x) f g h = h x

module _ (types : List Name) (low : Lower) where
  abbrev ended : List ℕ → Name × Pos × List Placed → Read Declr
  ended ss f = low.params f.2 >>= λ ps. Some (declr ss f.0 f.1 (function ps.0), ps.1)

  function_rest_of : (ss : List ℕ) (ts : List Placed)
      → function_rest types low ss ts ≡ (function_front types ts >>= ended ss)
  unfolding function_rest function_front chain
  function_rest_of ss ts =
      sym (again (eat puncts.LeftParen ts) _ (ended ss) ∙ same (eat puncts.LeftParen ts) _ _ (λ o.
      again (eat puncts.Star o.1) _ (ended ss) ∙ same (eat puncts.Star o.1) _ _ (λ s.
      again (plain_word types s.1) _ (ended ss) ∙ same (plain_word types s.1) _ _ (λ w.
      again (eat puncts.RightParen w.2) _ (ended ss) ∙ same (eat puncts.RightParen w.2) _ _ (λ c.
      again (eat puncts.LeftParen c.1) _ (ended ss) ∙ same (eat puncts.LeftParen c.1) _ _ (λ i. refl))))))

  pub function_none : (ss : List ℕ) (ts : List Placed) → function_front types ts ≡ None
      → function_rest types low ss ts ≡ None
  unfolding chain
  function_none ss ts h = function_rest_of ss ts ∙ rw h refl

  function_some : (ss : List ℕ) (ts : List Placed) (f : Name × Pos × List Placed) → function_front types ts ≡ Some f
      → function_rest types low ss ts ≡ ended ss f
  unfolding chain
  function_some ss ts f h = function_rest_of ss ts ∙ rw h refl

  pub function_fails : (s : Stop) (ss : List ℕ) (ts : List Placed) (f : Name × Pos × List Placed)
      → function_front types ts ≡ Some f → Fails s (low.params f.2) → Fails s (function_rest types low ss ts)
  unfolding chain
  function_fails stops.Memory ss ts f h r = tt
  function_fails stops.NothingRead ss ts f h r = function_some ss ts f h ∙ rw r refl

  pub function_ends : (ss : List ℕ) (ts rest : List Placed) (f : Name × Pos × List Placed) (ps : Params)
      → function_front types ts ≡ Some f → low.params f.2 ≡ Some (ps, rest)
      → function_rest types low ss ts ≡ Some (declr ss f.0 f.1 (function ps), rest)
  unfolding chain
  function_ends ss ts rest f ps h r = function_some ss ts f h ∙ rw r refl
