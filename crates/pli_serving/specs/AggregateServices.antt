-- Services 40 and 41: one aggregate into another, through an entry of the stack, and a scalar into each element of an array.
use Rattle.std.specs.Prelude.{ℕ, suc, ◌+◌, ◌==◌, Bool, true, false, ◌&&◌, List, [], ◌∷◌, ◌++◌, map, if◌then◌else◌}
use Rattle.std.specs.List.{list_all, zip}
use Rattle.rv_meaning.specs.Words.{signed}
use Rattle.pli_typing.specs.Signatures.{LeafKind, Fixed, Character, Varying, Bit, Pointer, Offset, Area}
use Rattle.pli_meaning.specs.Codes.{shape_code}
use Rattle.pli_meaning.specs.BasicValues.{BasicValue, BasicNumber, BasicText, BasicBit, BasicPointer, BasicOffset}
use Rattle.pli_meaning.specs.Evaluating.{Designated, leaf_at, first_leaf}
use Rattle.pli_meaning.specs.Placing.{elements_of, part_bounds, all_same_bounds}
use Rattle.pli_meaning.specs.StreamOrder.{Element}
use Rattle.pli_serving.specs.Bytes.{with_bytes, offset_of}
use Rattle.pli_serving.specs.Values.{value_bytes, value_at, all_subscripts}
use Rattle.pli_serving.specs.Stored.{kept_bytes}
use Rattle.pli_serving.specs.ServiceState.{Entry, AggregateEntry, TakenLeaf}
use Rattle.pli_serving.specs.Answers.{Answer, Done, Bad}
use Rattle.pli_serving.specs.Finding.{Call}
use Rattle.pli_serving.specs.Arguments.{name_in}
use Rattle.pli_serving.specs.Outcomes.{or_bad, bad_unless, answering, becoming, with_entries, pushed, on_text}
use Rattle.pli_serving.specs.Aggregates.{PartFound, aggregate_at, element_at, bounds_left_in, leaf_elements, leaf_numbers, part_of_leaves}

-- ---- values in entries

-- a text as it is, every other value as its bytes
abbrev pub taken_bytes : LeafKind → BasicValue → List ℕ
taken_bytes kind (BasicText t) = t
taken_bytes kind v = value_bytes kind v

abbrev pub taken_value : LeafKind → List ℕ → BasicValue
taken_value (Character n) bytes = BasicText bytes
taken_value (Varying n) bytes = BasicText bytes
taken_value kind bytes = value_at kind 0 bytes

-- whether values of one kind go into elements of another: texts of any length; areas have no values
abbrev pub goes_into : (source target : LeafKind) → Bool
goes_into (Fixed p) (Fixed q) = p == q
goes_into (Character m) (Character n) = true
goes_into (Varying m) (Varying n) = true
goes_into Bit Bit = true
goes_into Pointer Pointer = true
goes_into Offset Offset = true
goes_into _ _ = false

abbrev pub kind_of_nth : Designated → (n : ℕ) → LeafKind
kind_of_nth d n = (leaf_at d.generation.shape d.extent (d.part.first + n)).kind

-- ---- stores

-- a value for an element
abbrev pub Store : Type 0
Store = Element × BasicValue

-- memory after these, one after the other, in elements of a part
abbrev pub stored_in : PartFound → List Store → List ℕ → List ℕ
stored_in p [] m = m
stored_in p (s ∷ ss) m =
    stored_in p ss
    (with_bytes
    (kept_bytes (leaf_at p.part.generation.shape p.part.extent s.0.0).kind s.1)
    (element_at p.part.generation.shape p.found s.0)
    m)

-- ---- 40, mode 0: the bounds and values of a part are taken onto the stack

abbrev pub taken_leaf : Designated → (n : ℕ) → TakenLeaf
taken_leaf d n =
    record {
      kind = kind_of_nth d n;
      bounds = bounds_left_in d n;
      elements = map (λ is. taken_bytes (kind_of_nth d n) (elements_of d n is)) (all_subscripts (bounds_left_in d n));
    }

abbrev pub part_taken : Call → (x : ℕ) → PartFound → Answer
part_taken c x p =
    bad_unless (list_all (λ n. goes_into (kind_of_nth p.part n) (kind_of_nth p.part n)) (leaf_numbers p.part))
    (becoming c (pushed (AggregateEntry (map (taken_leaf p.part) (leaf_numbers p.part))) c.services) x 0)

-- ---- 40, mode 1: an entry is stored in a part, leaf by leaf

abbrev pub leaves_go_into : Designated → (n : ℕ) → List TakenLeaf → Bool
leaves_go_into d n [] = true
leaves_go_into d n (t ∷ ts) = goes_into t.kind (kind_of_nth d n) && leaves_go_into d (suc n) ts

abbrev pub stores_of : Designated → (n : ℕ) → List TakenLeaf → List Store
stores_of d n [] = []
stores_of d n (t ∷ ts) = zip (leaf_elements d n) (map (taken_value t.kind) t.elements) ++ stores_of d (suc n) ts

abbrev pub leaves_put : Call → (x : ℕ) → PartFound → List TakenLeaf → List Entry → Answer
leaves_put c x p taken below =
    if all_same_bounds (part_bounds p.part) (map (λ t. t.bounds) taken)
    then bad_unless (leaves_go_into p.part 0 taken)
    (Done (with_entries below c.services) (stored_in p (stores_of p.part 0 taken) c.memory) x 0)
    else answering c x shape_code

abbrev pub part_put : Call → (x : ℕ) → PartFound → List Entry → Answer
part_put c x p (AggregateEntry taken ∷ below) = leaves_put c x p taken below
part_put c x p _ = Bad

-- ---- 40

abbrev pub assigned_by : Call → (x mode : ℕ) → PartFound → Answer
assigned_by c x mode p =
    if mode == 0 then part_taken c x p
    else bad_unless (mode == 1) (part_put c x p c.services.entries)

abbrev pub aggregate_served : Call → (aggregate first count given mode : ℕ) → Answer
aggregate_served c aggregate first count given mode =
    or_bad (aggregate_at c aggregate) (λ a. or_bad (part_of_leaves c a first count given) (assigned_by c aggregate mode))

-- ---- 41

abbrev pub elements_set : Call → (x y : ℕ) → PartFound → List Entry → BasicValue → Answer
elements_set c x y p entries v =
    Done (with_entries entries c.services) (stored_in p (map (λ e. (e, v)) (leaf_elements p.part 0)) c.memory) x y

-- a number, bit or OFFSET value is given itself, a name by where it stands; a text is on the stack, and is dropped
abbrev pub scalar_set : Call → (x y value : ℕ) → PartFound → LeafKind → Answer
scalar_set c x y value p (Fixed precision) = elements_set c x y p c.services.entries (BasicNumber (signed value))
scalar_set c x y value p (Character n) = on_text c.services.entries (λ t below. elements_set c x y p below (BasicText t))
scalar_set c x y value p (Varying n) = on_text c.services.entries (λ t below. elements_set c x y p below (BasicText t))
scalar_set c x y value p Bit = elements_set c x y p c.services.entries (BasicBit (value == 1))
scalar_set c x y value p Pointer = or_bad (name_in c value) (λ n. elements_set c x y p c.services.entries (BasicPointer n))
scalar_set c x y value p Offset = elements_set c x y p c.services.entries (BasicOffset (offset_of value))
scalar_set c x y value p (Area n) = Bad

abbrev pub scalar_served : Call → (aggregate leaf value : ℕ) → Answer
scalar_served c aggregate leaf value =
    or_bad (aggregate_at c aggregate)
    (λ a. or_bad (part_of_leaves c a leaf 1 0) (λ p. scalar_set c aggregate leaf value p (first_leaf p.part).kind))
