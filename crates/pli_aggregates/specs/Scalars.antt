-- Service 41, from the places on where the aggregate, and where its elements, are known.
use Rattle.std.specs.Prelude.{ℕ, ◌==◌, List}
use Rattle.rv_meaning.specs.Words.{signed}
use Rattle.area_keeper.specs.Keeper.{Keeper}
use Rattle.pli_typing.specs.Signatures.{LeafKind, Fixed, Character, Varying, Bit, Pointer, Offset, Area}
use Rattle.pli_meaning.specs.BasicValues.{BasicValue, BasicNumber, BasicText, BasicBit, BasicPointer, BasicOffset}
use Rattle.pli_meaning.specs.Evaluating.{first_leaf}
use Rattle.pli_serving.specs.AggregateServices.{scalar_set}
use Rattle.pli_serving.specs.Aggregates.{Aggregate, part_of_leaves}
use Rattle.pli_serving.specs.Answers.{Answer, Done, Bad}
use Rattle.pli_serving.specs.Arguments.{name_in}
use Rattle.pli_serving.specs.Bytes.{offset_of}
use Rattle.pli_serving.specs.Finding.{Call}
use Rattle.pli_serving.specs.Outcomes.{on_text, or_bad, with_entries}
use Rattle.pli_serving.specs.ServiceState.{Entry}
use Rattle.pli_serving.specs.Stored.{kept_bytes}
use Rattle.pli_storage.specs.declared.held.Held.{Held}
use Rattle.pli_storage.specs.Held.{with_held}
use Rattle.pli_transmission.specs.Transmitting.{on_entries}
use Rattle.pli_aggregates.specs.Storing.{written_at}

-- a call whose keeper, layout, memory, variables and entries are those of a run
abbrev pub with_all : Keeper → Held → (memory : List ℕ) → List Entry → Call → Call
with_all k h m entries c = with_held k h m (on_entries entries c)

-- of an aggregate that is there
abbrev pub scalar_of : Call → (x leaf value : ℕ) → Aggregate → Answer
scalar_of c x leaf value a = or_bad (part_of_leaves c a leaf 1 0) (λ p. scalar_set c x leaf value p (first_leaf p.part).kind)

-- ---- at addresses

abbrev pub value_into : Call → (x y : ℕ) → (addresses : List ℕ) → LeafKind → List Entry → BasicValue → Answer
value_into c x y addresses kind entries v = Done (with_entries entries c.services) (written_at (kept_bytes kind v) addresses c.memory) x y

abbrev pub text_into : Call → (x y : ℕ) → (addresses : List ℕ) → LeafKind → Answer
text_into c x y addresses kind = on_text c.services.entries (λ t below. value_into c x y addresses kind below (BasicText t))

abbrev pub name_into : Call → (x y value : ℕ) → (addresses : List ℕ) → LeafKind → Answer
name_into c x y value addresses kind = or_bad (name_in c value) (λ n. value_into c x y addresses kind c.services.entries (BasicPointer n))

abbrev pub scalar_into : Call → (x y value : ℕ) → (addresses : List ℕ) → LeafKind → Answer
scalar_into c x y value addresses (Fixed p) = value_into c x y addresses (Fixed p) c.services.entries (BasicNumber (signed value))
scalar_into c x y value addresses (Character n) = text_into c x y addresses (Character n)
scalar_into c x y value addresses (Varying n) = text_into c x y addresses (Varying n)
scalar_into c x y value addresses Bit = value_into c x y addresses Bit c.services.entries (BasicBit (value == 1))
scalar_into c x y value addresses Pointer = name_into c x y value addresses Pointer
scalar_into c x y value addresses Offset = value_into c x y addresses Offset c.services.entries (BasicOffset (offset_of value))
scalar_into c x y value addresses (Area n) = Bad
