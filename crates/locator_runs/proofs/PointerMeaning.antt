-- What assignments to POINTER variables mean.
use Rattle.std.proofs.Common.{◌≡◌, ℕ, ap, ◌∙◌}
use Rattle.pli_typing.specs.TypedTree as Y
use Rattle.pli_meaning.specs.BasicValues.{BasicPointer, Name, NullName}
use Rattle.pli_meaning.specs.Contents.{name_in}
use Rattle.pli_meaning.specs.Control.{Meaning, Normal, flow_on, give, stored, ◌>>=◌}
use Rattle.pli_meaning.specs.Evaluating as V
use Rattle.pli_meaning.specs.Executing as M
use Rattle.pli_meaning.specs.Placing as P
use Rattle.pli_meaning.specs.Raising.{Around}
use Rattle.pli_meaning.specs.StorageState.{State}
use Rattle.expression_runs.specs.Variables.{Spot, whole}
use Rattle.area_runs.proofs.AllocationMeaning.{pointed_state}
use Rattle.area_runs.proofs.BasedMeaning.{Points, pointer_designated}

-- the name that a variable holds
pub pointer_means :
    (around : Around) {s : State} {x : Spot} (k : ℕ) (h : Points s x) →
    V.pointer around (Y.PointerIn (whole x)) k s ≡ Normal h.name s
unfolding V.pointer ◌>>=◌ give
pointer_means around {s} k h =
    ap (λ q. flow_on k q (λ d. give (name_in (V.value_in d)))) (pointer_designated around k h)
    ∙ ap (λ v. Normal (name_in v) s) h.value

-- an assignment, once its source is evaluated
abbrev pub putting : Around → Spot → Y.Pointer → Meaning (Unit {0})
putting around x source = (V.stored_value around (Y.StoredPointer source)) >>= (λ v. M.assigned around (whole x) v)

pub put_is :
    (around : Around) {s : State} {x : Spot} (k : ℕ) (name : Name) (h : Points s x) →
    M.assigned around (whole x) (BasicPointer name) k s ≡ Normal tt (pointed_state s h name)
unfolding M.assigned P.element_stored stored ◌>>=◌ give
put_is around {s} k name h =
    ap (λ q. flow_on k q (λ d. P.element_stored d (BasicPointer name))) (pointer_designated around k h)

pub null_put :
    (around : Around) {s : State} {x : Spot} (k : ℕ) (h : Points s x) →
    putting around x Y.NullPointer k s ≡ Normal tt (pointed_state s h NullName)
unfolding V.stored_value V.pointer ◌>>=◌ give
null_put around k h = put_is around k NullName h

pub copy_put :
    (around : Around) {s : State} {x y : Spot} (k : ℕ) (h : Points s x) (g : Points s y) →
    putting around x (Y.PointerIn (whole y)) k s ≡ Normal tt (pointed_state s h g.name)
unfolding V.stored_value ◌>>=◌ give
copy_put around {s} {x} {y} k h g =
    ap (λ q. flow_on k (flow_on k q (λ n. give (BasicPointer n))) (λ v. M.assigned around (whole x) v))
    (pointer_means around {x = y} k g)
    ∙ put_is around k g.name h
