-- Names at places of the running frame.
use Rattle.std.proofs.Common.{◌≡◌, ℤ, Bool, ◌++◌, ap, ◌∙◌}
use Rattle.pli_coding.specs.Assembly.{Code}
use Rattle.pli_typing.specs.TypedTree as Y
use Rattle.pli_coding.specs.Environments.{Environment}
use Rattle.pli_coding.specs.Expressions.{address_in}
use Rattle.pli_coding.specs.Locating.{Address, in_own_frame, name_copied}
use Rattle.rv_operation.specs.Pieces.{at_result, name_kept, name_null, name_nulled, names_compared, null_compared}
use Rattle.rv_operation.specs.Pieces.{null_kept, places_compared, result_kept}

pub null_framed : (a : Address) (z : ℤ) (code target : Code) → a ≡ in_own_frame z → target ≡ code ++ name_nulled a
    → target ≡ code ++ null_kept z
unfolding null_kept
null_framed a z code target h e = e ∙ ap (λ b. code ++ name_nulled b) h

pub null_told : (equal : Bool) (a : Address) (z : ℤ) (code target : Code) → a ≡ in_own_frame z
    → target ≡ code ++ name_null equal a → target ≡ code ++ null_compared equal z
unfolding null_compared
null_told equal a z code target h e = e ∙ ap (λ b. code ++ name_null equal b) h

pub both_framed : (equal : Bool) (a b : Address) (y z : ℤ) (code target : Code) → a ≡ in_own_frame y
    → b ≡ in_own_frame z → target ≡ code ++ names_compared equal a b → target ≡ code ++ places_compared equal y z
unfolding places_compared
both_framed equal a b y z code target g h e =
    e ∙ ap (λ c. code ++ names_compared equal c b) g ∙ ap (λ c. code ++ names_compared equal (in_own_frame y) c) h

pub result_framed : (a b : Address) (z : ℤ) (code target : Code) → a ≡ at_result → b ≡ in_own_frame z
    → target ≡ code ++ name_copied a b → target ≡ code ++ result_kept z
unfolding result_kept
result_framed a b z code target g h e =
    e ∙ ap (λ c. code ++ name_copied c b) g ∙ ap (λ c. code ++ name_copied at_result c) h

pub name_framed : (e : Environment) (r : Y.Reference) (a b : Address) (z : ℤ) (code target : Code)
    → a ≡ address_in e r → b ≡ in_own_frame z → target ≡ code ++ name_copied a b → target ≡ code ++ name_kept e z r
unfolding name_kept
name_framed e r a b z code target g h i =
    i ∙ ap (λ c. code ++ name_copied c b) g ∙ ap (λ c. code ++ name_copied (address_in e r) c) h
