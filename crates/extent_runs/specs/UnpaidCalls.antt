-- CALL of a procedure whose variables the act of its entry pays for, in the block that declares it or one inside that.
use Rattle.std.specs.Prelude.{ℕ, ◌≡◌, List, Option, length, nat_lt, true}
use Rattle.pli_meaning.specs.Control.{Label}
use Rattle.pli_meaning.specs.StorageState.{most_activations}
use Rattle.activation_relation.specs.Layers.{Point}
use Rattle.program_runs.specs.Calls.{Callee, body_index, labels_of, left_over}
use Rattle.program_runs.specs.Statements.{Block, Does, EachDoes, IsAmong, IsBegun}
use Rattle.nested_calls.specs.NestedCalls.{IsNestedCall, call_at}
use Rattle.extent_runs.specs.Making.{block_from, made_at, site_at}
use Rattle.extent_runs.specs.Unpaid.{AreBound, MakesUnpaid}

-- it does what it means, with no words set aside around it, if the making of the procedure's variables does, wherever
-- it is called, and then each of its statements, from whatever point they go on that is like those
abbrev pub UnpaidCallsDo : Type 0
UnpaidCallsDo =
    (like : Point → (numbers : ℕ → ℕ) → Option Point) (k : Block) (c : Callee)
    (level line index left' more : ℕ) → IsNestedCall 0 k c level line index more →
    nat_lt (length k.first.state.activations) most_activations ≡ true →
    ((p : Point) (numbers : ℕ → ℕ) → IsAmong k numbers p →
    MakesUnpaid (like p numbers) (site_at k.call.surroundings k.call.code c p numbers) left_over (made_at c)) →
    ((p first : Point) (numbers : ℕ → ℕ) → IsAmong k numbers p →
    IsBegun (block_from k.call.surroundings k.call.code c p numbers first) →
    AreBound (like p numbers) first →
    EachDoes (block_from k.call.surroundings k.call.code c p numbers first) (labels_of c) c.procedure.body
    (body_index c) left_over) → IsBegun k → (labels : List Label) → Does k labels (call_at c level line) index left'
