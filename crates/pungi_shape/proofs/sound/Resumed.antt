-- What a caller holds when it goes on: its variables, and the world that the called function left.
use Rattle.std.proofs.Common.{◌≡◌, ℕ, ◌≤◌, List, length, get_or, true, ap, arith}
use Rattle.std.specs.Prelude.{◌&&◌}
use Rattle.pungi_base.specs.declared.value.Value.{Value}
use Rattle.pungi_api.specs.declared.param.Param.{Param}
use Rattle.pungi_api.specs.declared.param.Param.TheVariants as param
use Rattle.pungi_world.specs.declared.content.Content.{Content}
use Rattle.pungi_world.specs.declared.content.Content.TheVariants as content
use Rattle.pungi_meaning.specs.Work.{content_at}
use Rattle.pungi_code.specs.declared.atom.Var.{Var}
use Rattle.pungi_code.specs.declared.code.Code.{Code}
use Rattle.pungi_code.specs.Registers.{Regs, put}
use Rattle.pungi_code.specs.WellFormed.{is_var, is_wide, var_kind}
use Rattle.pungi_shape.proofs.sound.Views.{Origin, view_of, suits, Suits, IsTyped}
use Rattle.pungi_shape.proofs.sound.Flow.{Claim}
use Rattle.pungi_shape.proofs.sound.Calling.{AreCalled}
use Rattle.pungi_shape.proofs.sound.Kinds.{wide_suits, put_typed}
use Rattle.pungi_shape.proofs.sound.Simple.{in_vars}
use Rattle.pungi_shape.proofs.sound.worlds.SlotKinds.{suits_more}
use Rattle.pungi_shape.proofs.sound.Tests.{both_true}

content_more : (n m : ℕ) (k : Param) (c : Content) → n ≤ m → Suits n k c → Suits m k c
content_more n m k content.Unset le is = tt
content_more n m k (content.Holds v) le is = suits_more n m k v le is

module _ (code : Code) (claim : Claim) (m : Regs) (g : ℕ) (vs : List Value) (callee : Code) (names : List ℕ)
    (called : Claim) (n : Regs) (call : AreCalled claim m g vs callee names called)
    (left : IsTyped called.file callee (view_of callee called.origin n)) where
  -- no object goes
  pub grown : length m.world.accounts ≤ length n.world.accounts
  grown =
      let e = ap (λ (o : Origin). o.entry.objects) call.origin in
      let le = left.grown in
      omega (arith, e, le)

  pub resumed_typed : IsTyped claim.file code (view_of code claim.origin m)
      → IsTyped claim.file code (view_of code claim.origin (record n { vars = m.vars }))
  resumed_typed typed = record {
    count = typed.count;
    vars = λ x. content_more (length m.world.accounts) (length n.world.accounts) (get_or code.vars x param.ModuleDef)
        (content_at m.vars x) grown (typed.vars x);
    slots = λ c own. left.slots c (call.file c own);
    there = left.there;
    grown = let here = typed.grown in let le = grown in omega (arith, here, le);
  }

  pub result_typed : (x : Var) (v : Value) (k : Param) → IsTyped claim.file code (view_of code claim.origin m)
      → (is_var code.vars x && is_wide k (var_kind code.vars x)) ≡ true
      → suits (length n.world.accounts) k v ≡ true
      → IsTyped claim.file code (view_of code claim.origin (put x (content.Holds v) (record n { vars = m.vars })))
  result_typed x v k typed sound suit =
      let both = both_true (is_var code.vars x) (is_wide k (var_kind code.vars x)) sound in
      put_typed claim.file code (view_of code claim.origin (record n { vars = m.vars })) x.0 (content.Holds v)
      (resumed_typed typed) (in_vars code x both.0)
      (wide_suits (length n.world.accounts) k (var_kind code.vars x) v both.1 suit)
