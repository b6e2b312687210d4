-- What ALLOCATE of a structure in an area means: it is placed in the least gap, or AREA is raised.
use Rattle.std.proofs.Common.{◌≡◌, ◌≢◌, ℕ, suc, [], ◌∷◌, Option, None, Some, sym, ap, ◌∙◌}
use Rattle.std.specs.Prelude.{cond, ◌==◌}
use Rattle.pli_language.specs.declared.condition.Condition.TheVariants as C
use Rattle.pli_typing.specs.TypedTree as Y
use Rattle.pli_meaning.specs.Codes.{area_code, heap_full_code}
use Rattle.pli_meaning.specs.Contents.{footprint_of, gap}
use Rattle.pli_meaning.specs.Control.{Meaning, Normal, act, choose, flow_on, give, given, looked, stored, stuck, ◌>>=◌}
use Rattle.pli_meaning.specs.Control.{◌>>◌}
use Rattle.pli_meaning.specs.DeclaredShapes.{declared_variable}
use Rattle.pli_meaning.specs.Evaluating as V
use Rattle.pli_meaning.specs.Making as K
use Rattle.pli_meaning.specs.Placing as P
use Rattle.pli_meaning.specs.Raising as R
use Rattle.pli_meaning.specs.Raising.{Around}
use Rattle.pli_meaning.specs.StorageState.{AreaContents, State, area_at, heap_serial, standing_for, with_area}
use Rattle.pli_meaning.specs.StorageState.{with_world}
use Rattle.pli_meaning.specs.World.{counted}
use Rattle.storage_relation.proofs.Holders.{eqb-other}
use Rattle.expression_runs.specs.Variables.{Spot, variable_of, whole}
use Rattle.variable_runs.specs.Known.{binding_for}
use Rattle.area_runs.proofs.ChangedPoints.{area_world}
use Rattle.std.proofs.Common.{List}
use Rattle.area_runs.specs.Based.{based_of}
use Rattle.area_runs.proofs.AllocationMeaning.{allocate_of, no_more, set_locator}
use Rattle.pli_meaning.specs.Contents.{Generation}
use Rattle.member_runs.specs.Members.{structure_declared}
use Rattle.member_runs.proofs.NewAreas.{new_structure, placed_same, placed_state}

pub allocations_are :
    (around : Around) (n p x : Spot) (members : List Y.Member) (leaves : List Y.Leaf) (d : Y.DeclaredVariable)
    (serial k : ℕ) (s : State) →
    declared_variable around.program (based_of n) ≡ Some (structure_declared members leaves) →
    standing_for s (variable_of x) ≡ Some (binding_for x d serial) →
    P.allocations around (allocate_of n p x ∷ []) k s
    ≡ flow_on k (flow_on k (P.placing around.turns around serial (new_structure members leaves) k s)
    (set_locator around p serial))
    (no_more around)
unfolding P.allocations P.allocation P.based_allocated P.area_or_heap V.area_meant K.extents R.demanded R.or_error given
    choose looked give ◌>>=◌ ◌>>◌
allocations_are around n p x members leaves d serial k s declared stands =
    ap (λ o. flow_on k (given o (λ e. P.based_allocated around e (Some (variable_of x)) (Y.SetPointer (whole p)))
    stuck k s)
    (no_more around)) declared
    ∙ ap (λ o. flow_on k (flow_on k (R.or_error around 101 (V.serial_of o) k s)
    (λ a. (P.placing around.turns around a (new_structure members leaves)) >>= (set_locator around p a))) (no_more
    around)) stands

-- ---- the placing

abbrev pub place_again : Generation → Around → (turns serial : ℕ) → Unit {0} → Meaning ℕ
place_again g around turns serial u = (act counted) >> (P.placing turns around serial g)

abbrev placing_in : Generation → Around → (turns serial : ℕ) → AreaContents → Option ℕ → Meaning ℕ
placing_in g around turns serial a o =
    given o
    (λ i. (stored (with_area serial (P.placed_with i g))) >> (give i))
    (choose (serial == heap_serial) (R.error around heap_full_code)
    ((R.raised around C.Area area_code) >> ((act counted) >> (P.placing turns around serial g))))

pub placing_found :
    (g : Generation) (around : Around) (turns serial k o : ℕ) (a : AreaContents) (s : State) → serial ≢ heap_serial →
    area_at s serial ≡ Some a → gap a.capacity (footprint_of g) a.placed ≡ Some o →
    P.placing (suc turns) around serial g k s ≡ Normal o (placed_state g serial o s)
unfolding P.placing R.or_error looked stored given give ◌>>=◌ ◌>>◌
placing_found g around turns serial k o a s some there free =
    ap (λ q. flow_on k (R.or_error around 101 q k s)
    (λ b. placing_in g around turns serial b (gap b.capacity (footprint_of g) b.placed))) there
    ∙ ap (λ q. placing_in g around turns serial a q k s) free
    ∙ ap (λ u. Normal o (with_world u (with_area serial (P.placed_with o g) s)))
    (sym (area_world serial (P.placed_with o g) s))
    ∙ ap (λ u. Normal o u) (placed_same g serial o s some)

pub placing_full :
    (g : Generation) (around : Around) (turns serial k : ℕ) (a : AreaContents) (s : State) → serial ≢ heap_serial →
    area_at s serial ≡ Some a → gap a.capacity (footprint_of g) a.placed ≡ None →
    P.placing (suc turns) around serial g k s
    ≡ flow_on k (R.raised around C.Area area_code k s) (place_again g around turns serial)
unfolding P.placing R.or_error looked given choose give ◌>>=◌ ◌>>◌
placing_full g around turns serial k a s some there none =
    ap (λ q. flow_on k (R.or_error around 101 q k s)
    (λ b. placing_in g around turns serial b (gap b.capacity (footprint_of g) b.placed))) there
    ∙ ap (λ q. placing_in g around turns serial a q k s) none
    ∙ ap (λ q. cond q (R.error around heap_full_code k s)
    (flow_on k (R.raised around C.Area area_code k s) (place_again g around turns serial)))
    (eqb-other serial heap_serial some)
