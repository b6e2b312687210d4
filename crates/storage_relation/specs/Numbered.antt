-- Elements of an aggregate by their numbers, as service 8 finds them.
use Rattle.std.specs.Prelude.{◌≡◌, Some, ℕ, List, cond, true, slice_get}
use Rattle.pli_meaning.specs.Codes.{extent_code}
use Rattle.pli_meaning.specs.Contents.{Generation}
use Rattle.pli_meaning.specs.Evaluating.{Designated, leaf_at}
use Rattle.pli_meaning.specs.StreamOrder.{Element}
use Rattle.pli_meaning.specs.Streaming.{element_holds}
use Rattle.pli_serving.specs.Aggregates.{Aggregate, aggregate_at}
use Rattle.pli_serving.specs.Answers.{Answer, Done}
use Rattle.pli_serving.specs.Bytes.{with_bytes, is_data}
use Rattle.pli_serving.specs.ElementService.{item_shape_at, elements_by, buffer_bytes}
use Rattle.pli_serving.specs.Outcomes.{then_found}
use Rattle.pli_serving.specs.Templates.{shape_at}
use Rattle.storage_relation.specs.Served.{Now, call, place_now}
use Rattle.storage_relation.specs.Standing.{address_now}

-- ---- one element

-- an aggregate as it was designated, whose shape has the number in its record
pub record IsMeant (w : Now) (a : Aggregate) (d : Designated) : Type 0 where
  pub number : shape_at w.places.signatures a.signature ≡ Some a.shape
  pub name_same : d.name ≡ a.name
  pub shape_same : d.generation.shape ≡ a.shape
  pub extent_same : d.extent ≡ a.extent

-- the answer for a generation that lives: the meaning's test, and the element's address, or 107
abbrev pub element_of : (w : Now) → (x : ℕ) → Designated → Element → (memory : List ℕ) → Generation → Answer
element_of w x d e memory g =
    cond (element_holds g d e)
    (Done (call w).services memory (address_now g g.extent e.0 e.1 (place_now w d.name)) 0)
    (Done (call w).services memory x extent_code)

-- ---- the service

-- a record of an aggregate, and a list of elements by its shape
pub record IsListed (w : Now) (x shape : ℕ) (a : Aggregate) (elements : List Element) : Type 0 where
  pub aggregate : aggregate_at (call w) x ≡ Some a
  pub listed : then_found (item_shape_at (call w) shape) (elements_by (call w) a) ≡ Some elements

abbrev pub described : (w : Now) → Aggregate → Element → (buffer : ℕ) → List ℕ
described w a e buffer = with_bytes (buffer_bytes (leaf_at a.shape a.extent e.0).kind) buffer w.memory

-- a number of an element, and where its kind is written
pub record Numbered : Type 0 where
  pub number : ℕ
  pub buffer : ℕ

pub record IsNumbered (w : Now) (x shape : ℕ) (q : Numbered) (a : Aggregate) (e : Element) : Type 0 where
  pub elements : List Element
  pub listed : IsListed w x shape a elements
  pub some : slice_get elements q.number ≡ Some e
  pub there : is_data w.layout q.buffer 8 ≡ true
