-- What ALLOCATE in an area means: a generation is placed in its least gap, and the pointer variable has its name;
-- or AREA is raised.
use Rattle.std.proofs.Common.{◌≡◌, ◌≢◌, ℕ, suc, [], ◌∷◌, Option, None, Some, refl, sym, ap, ◌∙◌}
use Rattle.std.specs.Prelude.{cond, ◌==◌}
use Rattle.pli_language.specs.declared.condition.Condition.TheVariants as C
use Rattle.pli_typing.specs.TypedTree as Y
use Rattle.pli_meaning.specs.BasicValues.{BasedName, BasicPointer, Name, VariableName}
use Rattle.pli_meaning.specs.Codes.{area_code, heap_full_code}
use Rattle.pli_meaning.specs.Contents.{footprint_of, gap}
use Rattle.pli_meaning.specs.Control.{Meaning, Normal, act, choose, flow_on, give, given, looked, stored, stuck, ◌>>=◌}
use Rattle.pli_meaning.specs.Control.{◌>>◌}
use Rattle.pli_meaning.specs.DeclaredShapes.{declared_variable}
use Rattle.pli_meaning.specs.Evaluating as V
use Rattle.pli_meaning.specs.Making as K
use Rattle.pli_meaning.specs.Placing as P
use Rattle.pli_meaning.specs.Raising as R
use Rattle.pli_meaning.specs.Raising.{Around}
use Rattle.pli_meaning.specs.StorageState.{AreaContents, State, area_at, heap_serial, standing_for, with_area}
use Rattle.pli_meaning.specs.StorageState.{with_generation, with_world}
use Rattle.pli_meaning.specs.World.{counted}
use Rattle.storage_relation.proofs.Holders.{eqb-other}
use Rattle.expression_runs.specs.Variables.{Spot, variable_of, whole}
use Rattle.variable_runs.specs.Known.{binding_for}
use Rattle.area_runs.specs.Based.{based_declared, based_of}
use Rattle.area_runs.proofs.AreaPoints.{new_based, placed_same, placed_state}
use Rattle.area_runs.proofs.BasedMeaning.{Points, designated_pointer, pointer_designated}
use Rattle.area_runs.proofs.ChangedPoints.{area_world}

abbrev pub allocate_of : (n p x : Spot) → Y.Allocation
allocate_of n p x = Y.AllocateBased (based_of n) (Some (variable_of x)) (Y.SetPointer (whole p))

-- its parts: the placing, and then the locator
abbrev pub set_locator : Around → Spot → (serial : ℕ) → ℕ → Meaning (Unit {0})
set_locator around p serial o = P.locator_set around (Y.SetPointer (whole p)) (BasedName serial o)

abbrev pub no_more : Around → Unit {0} → Meaning (Unit {0})
no_more around u = P.allocations around []

pub allocations_are :
    (around : Around) (n p x : Spot) (d : Y.DeclaredVariable) (serial k : ℕ) (s : State) →
    declared_variable around.program (based_of n) ≡ Some based_declared →
    standing_for s (variable_of x) ≡ Some (binding_for x d serial) →
    P.allocations around (allocate_of n p x ∷ []) k s
    ≡ flow_on k (flow_on k (P.placing around.turns around serial new_based k s) (set_locator around p serial))
    (no_more around)
unfolding P.allocations P.allocation P.based_allocated P.area_or_heap V.area_meant K.extents R.demanded R.or_error given
    choose looked give ◌>>=◌ ◌>>◌
allocations_are around n p x d serial k s declared stands =
    ap (λ o. flow_on k (given o (λ e. P.based_allocated around e (Some (variable_of x)) (Y.SetPointer (whole p)))
    stuck k s)
    (no_more around)) declared
    ∙ ap (λ o. flow_on k (flow_on k (R.or_error around 101 (V.serial_of o) k s)
    (λ a. (P.placing around.turns around a new_based) >>= (set_locator around p a))) (no_more around)) stands

-- ---- the placing

abbrev pub place_again : Around → (turns serial : ℕ) → Unit {0} → Meaning ℕ
place_again around turns serial u = (act counted) >> (P.placing turns around serial new_based)

abbrev placing_in : Around → (turns serial : ℕ) → AreaContents → Option ℕ → Meaning ℕ
placing_in around turns serial a o =
    given o
    (λ i. (stored (with_area serial (P.placed_with i new_based))) >> (give i))
    (choose (serial == heap_serial) (R.error around heap_full_code)
    ((R.raised around C.Area area_code) >> ((act counted) >> (P.placing turns around serial new_based))))

pub placing_found :
    (around : Around) (turns serial k o : ℕ) (a : AreaContents) (s : State) → serial ≢ heap_serial →
    area_at s serial ≡ Some a → gap a.capacity (footprint_of new_based) a.placed ≡ Some o →
    P.placing (suc turns) around serial new_based k s ≡ Normal o (placed_state serial o s)
unfolding P.placing R.or_error looked stored given give ◌>>=◌ ◌>>◌
placing_found around turns serial k o a s some there free =
    ap (λ q. flow_on k (R.or_error around 101 q k s)
    (λ b. placing_in around turns serial b (gap b.capacity (footprint_of new_based) b.placed))) there
    ∙ ap (λ q. placing_in around turns serial a q k s) free
    ∙ ap (λ u. Normal o (with_world u (with_area serial (P.placed_with o new_based) s)))
    (sym (area_world serial (P.placed_with o new_based) s))
    ∙ ap (λ u. Normal o u) (placed_same serial o s some)

pub placing_full :
    (around : Around) (turns serial k : ℕ) (a : AreaContents) (s : State) → serial ≢ heap_serial →
    area_at s serial ≡ Some a → gap a.capacity (footprint_of new_based) a.placed ≡ None →
    P.placing (suc turns) around serial new_based k s
    ≡ flow_on k (R.raised around C.Area area_code k s) (place_again around turns serial)
unfolding P.placing R.or_error looked given choose give ◌>>=◌ ◌>>◌
placing_full around turns serial k a s some there none =
    ap (λ q. flow_on k (R.or_error around 101 q k s)
    (λ b. placing_in around turns serial b (gap b.capacity (footprint_of new_based) b.placed))) there
    ∙ ap (λ q. placing_in around turns serial a q k s) none
    ∙ ap (λ q. cond q (R.error around heap_full_code k s)
    (flow_on k (R.raised around C.Area area_code k s) (place_again around turns serial)))
    (eqb-other serial heap_serial some)

-- ---- the pointer

abbrev pub pointed_state : State → {x : Spot} → {s : State} → Points s x → Name → State
pointed_state s h name =
    with_generation (VariableName h.serial)
    (P.with_element (designated_pointer h.serial h.values) (BasicPointer name)) s

pub locator_is :
    (around : Around) {s : State} {p : Spot} (serial o k : ℕ) (h : Points s p) →
    set_locator around p serial o k s ≡ Normal tt (pointed_state s h (BasedName serial o))
unfolding P.locator_set P.element_stored stored ◌>>=◌ give
locator_is around {s} serial o k h =
    ap (λ q. flow_on k q (λ d. P.element_stored d (BasicPointer (BasedName serial o)))) (pointer_designated around k h)

pub all_allocated : (around : Around) (k : ℕ) (s : State) → no_more around tt k s ≡ Normal tt s
unfolding P.allocations give
all_allocated around k s = refl
