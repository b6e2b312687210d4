-- The parameters of procedures by the shapes of variables.
use Rattle.std.proofs.Common.{◌≡◌, ◌∙◌, ℕ, List, [], ◌∷◌, Option, Some, None, refl, sym, ap}
use Rattle.std.specs.Prelude.{unwrap_or}
use Rattle.pli_language.specs.Declarations.{Held, Block}
use Rattle.pli_typing.specs.Calls.{whole_of}
use Rattle.pli_typing.specs.Converting.{Designated}
use Rattle.pli_variables.specs.Shapes.{Shape, shape_of_first}
use Rattle.pli_reference.specs.Parts.{whole_by}
use Rattle.pli_reference.proofs.Parts.{whole_is}

-- none or one
abbrev listed : Option Shape → List Designated
listed None = []
listed (Some s) = whole_by s ∷ []

pub whole_listed : (blocks : List Block) (b : ℕ) (all : Option (List Held)) → listed (shape_of_first blocks b all) ≡ whole_of blocks b (unwrap_or all [])
whole_listed blocks b None = refl
whole_listed blocks b (Some []) = refl
whole_listed blocks b (Some (h ∷ members)) = ap (λ d. d ∷ []) (whole_is blocks b h)

pub whole_of_none : (blocks : List Block) (b : ℕ) (all : Option (List Held)) → None ≡ shape_of_first blocks b all → whole_of blocks b (unwrap_or all []) ≡ []
whole_of_none blocks b all e = sym (whole_listed blocks b all) ∙ sym (ap listed e)

pub whole_of_some : (blocks : List Block) (b : ℕ) (all : Option (List Held)) (s : Shape) → Some s ≡ shape_of_first blocks b all → whole_of blocks b (unwrap_or all []) ≡ whole_by s ∷ []
whole_of_some blocks b all s e = sym (whole_listed blocks b all) ∙ sym (ap listed e)
