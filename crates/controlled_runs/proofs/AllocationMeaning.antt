-- What ALLOCATE of a CONTROLLED number means: a generation in the least gap of the heap, or ERROR.
use Rattle.std.proofs.Common.{◌≡◌, ℕ, suc, [], ◌∷◌, Option, None, Some, refl, ap, ◌∙◌}
use Rattle.std.specs.Prelude.{pos, ◌==◌}
use Rattle.pli_typing.specs.TypedTree as Y
use Rattle.pli_meaning.specs.Codes.{heap_full_code}
use Rattle.pli_meaning.specs.Contents.{Generation, footprint_of, fresh, gap, with_placed}
use Rattle.pli_meaning.specs.Control.{Flow, Meaning, Normal, act, choose, flow_on, give, given, looked, stored, stuck}
use Rattle.pli_meaning.specs.Control.{◌>>=◌, ◌>>◌}
use Rattle.pli_language.specs.declared.condition.Condition.TheVariants as C
use Rattle.pli_meaning.specs.Codes.{area_code}
use Rattle.pli_meaning.specs.DeclaredShapes.{declared_variable, initial_of}
use Rattle.pli_meaning.specs.Making as K
use Rattle.pli_meaning.specs.Placing as P
use Rattle.pli_meaning.specs.Raising as R
use Rattle.pli_meaning.specs.Raising.{Around}
use Rattle.pli_meaning.specs.StorageState.{State, heap_capacity, heap_serial, offsets_of, with_area, with_offsets}
use Rattle.pli_meaning.specs.World.{counted}
use Rattle.expression_runs.specs.Variables.{Spot}
use Rattle.controlled_runs.specs.Allocations.{controlled_declared, controlled_shape}
use Rattle.controlled_runs.specs.Lists.{controlled_of}

abbrev pub new_number : Generation
new_number = fresh controlled_shape (pos 0) (initial_of controlled_declared)

abbrev pub newest_set : Spot → ℕ → Meaning (Unit {0})
newest_set x o = stored (P.with_newest (controlled_of x) o)

abbrev pub no_more : Around → Unit {0} → Meaning (Unit {0})
no_more around u = P.allocations around []

-- its parts: the placing, and then the list
pub allocations_are :
    (around : Around) (x : Spot) (k : ℕ) (s : State) →
    declared_variable around.program (controlled_of x) ≡ Some controlled_declared →
    P.allocations around (Y.AllocateControlled (controlled_of x) ∷ []) k s
    ≡ flow_on k (flow_on k (P.placing around.turns around heap_serial new_number k s) (newest_set x)) (no_more around)
unfolding P.allocations P.allocation P.controlled_allocated K.extents given give ◌>>=◌ ◌>>◌
allocations_are around x k s declared =
    ap (λ o. flow_on k (given o (λ d. P.controlled_allocated around (controlled_of x) d) stuck k s) (no_more around))
    declared

abbrev placing_in : Around → (turns : ℕ) → Option ℕ → Meaning ℕ
placing_in around turns o =
    given o
    (λ i. (stored (with_area heap_serial (P.placed_with i new_number))) >> (give i))
    (choose (heap_serial == heap_serial) (R.error around heap_full_code)
    ((R.raised around C.Area area_code) >> ((act counted) >> (P.placing turns around heap_serial new_number))))

abbrev pub heap_with : ℕ → State → State
heap_with o s = record s { heap = with_placed (record { offset = o; generation = new_number }) s.heap }

pub placing_found :
    (around : Around) (turns k o : ℕ) (s : State) → gap heap_capacity (footprint_of new_number) s.heap ≡ Some o →
    P.placing (suc turns) around heap_serial new_number k s ≡ Normal o (heap_with o s)
unfolding P.placing R.or_error looked stored given give ◌>>=◌ ◌>>◌
placing_found around turns k o s free = ap (λ q. placing_in around turns q k s) free

pub placing_full :
    (around : Around) (turns k : ℕ) (s : State) → gap heap_capacity (footprint_of new_number) s.heap ≡ None →
    P.placing (suc turns) around heap_serial new_number k s ≡ R.error {R = ℕ} around heap_full_code k s
unfolding P.placing R.or_error looked given choose give ◌>>=◌ ◌>>◌
placing_full around turns k s none = ap (λ q. placing_in around turns q k s) none

abbrev pub allocated_state : Spot → ℕ → State → State
allocated_state x o s =
    record s {
      heap = with_placed (record { offset = o; generation = new_number }) s.heap;
      controlled = with_offsets x.block x.index (o ∷ offsets_of s.controlled x.block x.index) s.controlled;
    }

pub behind_placing :
    (around : Around) (x : Spot) (k o : ℕ) (s : State) →
    flow_on k (flow_on k (Normal o (heap_with o s)) (newest_set x)) (no_more around)
    ≡ Normal tt (allocated_state x o s)
unfolding P.allocations stored give
behind_placing around x k o s = refl
