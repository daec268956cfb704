-- What an instruction takes is unset or of the kinds that it needs, so that the executor never meets a value of a wrong
-- kind.
--   contents_of vars as         what atoms stand for, where variables hold these contents
--   atom_holds n vars k a       what an atom stands for is unset or of this kind
--   base_holds n vars place     the base of a field is unset, an object or NULL
--   passed_hold n vars k as     what atoms stand for is of the kinds of the parameters of a code, one for each
--   takes_kinds                 so is each atom of an instruction of a code, in a file whose functions have codes of
--                               these kinds
use Rattle.std.specs.Prelude.{ℕ, Bool, true, false, ◌&&◌, ◌||◌, List, Some, None, map, option_map}
use Rattle.pungi_api.specs.declared.param.Param.{Param}
use Rattle.pungi_api.specs.declared.param.Param.TheVariants as param
use Rattle.pungi_world.specs.declared.content.Content.{Content}
use Rattle.pungi_code.specs.declared.atom.Atom.{Atom}
use Rattle.pungi_code.specs.declared.code.Code.{Code}
use Rattle.pungi_code.specs.declared.instr.Instr.{Instr}
use Rattle.pungi_code.specs.declared.instr.Instr.TheVariants.{Set, Arith, Fit, Compare, Load, Store, Api, Call, Unset}
use Rattle.pungi_code.specs.declared.instr.Instr.TheVariants.{Jump, Branch, Return, Fall}
use Rattle.pungi_code.specs.declared.place.Place.{Place}
use Rattle.pungi_code.specs.declared.place.Place.TheVariants.{Global, Field}
use Rattle.pungi_code.specs.Registers.{content_of}
use Rattle.pungi_code.specs.WellFormed.{CallKinds, place_kind, var_kind}
use Rattle.pungi_kinds.specs.Contents.{content_holds, are_two, arguments_hold, gives_result, may_be_compared}

abbrev pub contents_of : List Content → List Atom → List Content
contents_of vars as' = map (λ a. content_of a vars) as'

abbrev pub atom_holds : ℕ → List Content → Param → Atom → Bool
atom_holds n vars k a = content_holds n k (content_of a vars)

abbrev pub base_holds : ℕ → List Content → Place → Bool
base_holds n vars (Global name k) = true
base_holds n vars (Field base tag field k) = atom_holds n vars param.ObjectOrNull base

abbrev pub passed_hold : ℕ → List Content → CallKinds → List Atom → Bool
passed_hold n vars None as' = false
passed_hold n vars (Some k) as' = arguments_hold n k.0 (contents_of vars as')

abbrev pub takes_kinds : (ℕ → CallKinds) → Code → ℕ → List Content → Instr → Bool
takes_kinds callees code n vars (Set x a) = atom_holds n vars (var_kind code.vars x) a
takes_kinds callees code n vars (Arith x kind o a b) =
    are_two n param.Long (content_of a vars) (content_of b vars)
takes_kinds callees code n vars (Fit x kind a) = atom_holds n vars param.Long a
takes_kinds callees code n vars (Compare x c a b) = may_be_compared n c (content_of a vars) (content_of b vars)
takes_kinds callees code n vars (Load x place) = base_holds n vars place
takes_kinds callees code n vars (Store place a) = atom_holds n vars (place_kind place) a && base_holds n vars place
takes_kinds callees code n vars (Api x g as') = arguments_hold n g.params (contents_of vars as')
takes_kinds callees code n vars (Call x f as') = passed_hold n vars (callees f) as'
takes_kinds callees code n vars (Branch a this other) =
    atom_holds n vars param.Long a || (atom_holds n vars param.ObjectOrNull a || atom_holds n vars param.TextOrNull a)
takes_kinds callees code n vars (Return a) =
    gives_result n code.result (option_map (λ b. content_of b vars) a)
takes_kinds callees code n vars (Unset x) = true
takes_kinds callees code n vars (Jump to) = true
takes_kinds callees code n vars Fall = true
