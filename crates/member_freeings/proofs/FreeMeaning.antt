-- What FREE of a structure by way of a pointer variable means.
use Rattle.std.proofs.Common.{◌≡◌, ℕ, [], ◌∷◌, Some, None, Option, refl, sym, ap, ◌∙◌}
use Rattle.pli_typing.specs.TypedTree as Y
use Rattle.pli_meaning.specs.BasicValues.{BasedName, Name, VariableName}
use Rattle.pli_meaning.specs.Codes.{no_generation_code, not_in_area_code}
use Rattle.pli_meaning.specs.Contents.{Generation, without_offset}
use Rattle.pli_meaning.specs.Control.{Meaning, Normal, flow_on, give, given, looked, stored, stuck, ◌>>=◌, ◌>>◌}
use Rattle.pli_meaning.specs.DeclaredShapes.{declared_variable}
use Rattle.pli_meaning.specs.Evaluating as V
use Rattle.pli_meaning.specs.Contents.{name_in}
use Rattle.pli_meaning.specs.Placing as P
use Rattle.pli_meaning.specs.Raising as R
use Rattle.pli_meaning.specs.Raising.{Around}
use Rattle.pli_meaning.specs.StorageState.{State, named, with_area, with_world}
use Rattle.expression_runs.specs.Variables.{Spot, whole}
use Rattle.area_runs.proofs.BasedMeaning.{Points, pointer_designated}
use Rattle.area_freeings.specs.Freeing.{freed_by}
use Rattle.std.proofs.Common.{List}
use Rattle.area_runs.specs.Based.{based_of}
use Rattle.area_runs.proofs.ChangedPoints.{area_world}
use Rattle.member_runs.specs.Members.{structure_declared, structure_shape}

-- behind what was found
abbrev pub behind_found : Around → Name → Generation → Meaning (Unit {0})
behind_found around n g = (give None) >>= (λ a. P.name_freed around n a)

abbrev pub no_more : Around → Unit {0} → Meaning (Unit {0})
no_more around u = P.freeings around []

abbrev found_by : Around → Name → Option Generation → Meaning (Unit {0})
found_by around n o = (R.or_error around no_generation_code o) >>= (behind_found around n)

pub free_means :
    (around : Around) {s : State} {p : Spot} (n : Spot) (members : List Y.Member) (leaves : List Y.Leaf) (k : ℕ)
    (h : Points s p) → declared_variable around.program (based_of n) ≡ Some (structure_declared members leaves) →
    P.freeings around (freed_by p n ∷ []) k s
    ≡ flow_on k (flow_on k (R.or_error around no_generation_code (named s h.name (structure_shape members leaves)) k s)
    (behind_found around h.name)) (no_more around)
unfolding P.freeings P.freeing P.based_freed P.area_if V.pointer looked given give ◌>>=◌ ◌>>◌
free_means around {s} {p} n members leaves k h declared =
    ap (λ o. flow_on k (given o (λ d. P.based_freed around d (Y.PointerIn (whole p)) None) stuck k s) (no_more
    around)) declared
    ∙ ap (λ q. flow_on k (flow_on k (flow_on k q (λ d. give (name_in (V.value_in d))))
    (λ m. looked >>= (λ t. found_by around m (named t m (structure_shape members leaves))))) (no_more around))
    (pointer_designated around k
    h)
    ∙ ap (λ v. flow_on k (found_by around (name_in v) (named s (name_in v) (structure_shape members leaves)) k s)
    (no_more around)) h.value

-- where it lives in an area, or in the heap
pub freed_is :
    (around : Around) (k n o : ℕ) (g : Generation) (s : State) →
    flow_on k (flow_on k (R.or_error around no_generation_code (Some g) k s) (behind_found around (BasedName n o)))
    (no_more around)
    ≡ Normal tt (with_area n (without_offset o) s)
unfolding P.freeings P.name_freed R.or_error stored give ◌>>=◌
freed_is around k n o g s =
    ap (λ u. Normal tt (with_world u (with_area n (without_offset o) s))) (sym (area_world n (without_offset o) s))

-- where it is a variable
pub variable_is :
    (around : Around) (k serial : ℕ) (g : Generation) (s : State) →
    flow_on k (flow_on k (R.or_error around no_generation_code (Some g) k s)
    (behind_found around (VariableName serial))) (no_more around)
    ≡ flow_on k (R.error {R = Unit {0}} around not_in_area_code k s) (no_more around)
unfolding P.name_freed R.or_error give ◌>>=◌
variable_is around k serial g s = refl

-- where nothing lives
pub missing_is :
    (around : Around) (k : ℕ) (n : Name) (s : State) →
    flow_on k (flow_on k (R.or_error {X = Generation} around no_generation_code None k s) (behind_found around n))
    (no_more around)
    ≡ flow_on k (flow_on k (R.error {R = Generation} around no_generation_code k s) (behind_found around n))
    (no_more around)
unfolding R.or_error
missing_is around k n s = refl
