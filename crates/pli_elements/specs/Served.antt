-- Service 8 with mode 1, from the places on where the aggregate, its shape and their elements are known.
use Rattle.std.specs.Prelude.{ℕ, List, Option, slice_get}
use Rattle.pli_meaning.specs.StreamOrder.{Element}
use Rattle.pli_serving.specs.Aggregates.{Aggregate}
use Rattle.pli_serving.specs.Answers.{Answer}
use Rattle.pli_serving.specs.ElementService.{ItemShape, element_if, elements_by, item_shape_at}
use Rattle.pli_serving.specs.Finding.{Call}
use Rattle.pli_serving.specs.Outcomes.{or_bad, then_found}

abbrev pub in_item : Call → (x : ℕ) → Aggregate → (number buffer : ℕ) → List Element → Answer
in_item c x a number buffer elements = element_if c x a buffer (slice_get elements number)

abbrev pub in_shape : Call → (x : ℕ) → Aggregate → (number buffer : ℕ) → Option ItemShape → Answer
in_shape c x a number buffer o = or_bad (then_found o (elements_by c a)) (in_item c x a number buffer)

abbrev pub in_aggregate : Call → (x shape number buffer : ℕ) → Aggregate → Answer
in_aggregate c x shape number buffer a = in_shape c x a number buffer (item_shape_at c shape)
