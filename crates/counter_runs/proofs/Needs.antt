-- What does what it means with so many registers does with more.
use Rattle.std.proofs.Common.{ℕ, ◌≤◌, arith}
use Rattle.pli_typing.specs.TypedTree as Y
use Rattle.expression_runs.specs.Laws as L
use Rattle.expression_runs.specs.Values.{Setting}
use Rattle.test_runs.specs.Tests.{Tests}

pub does_more : (k : Setting) (m n : ℕ) (x : Y.Number) → m ≤ n → L.Does k m x → L.Does k n x
does_more k m n x few does p numbers taken c index f o line registers l paid there =
    let room = registers.0 in
    does p numbers taken c index f o line (omega (arith, room, few), registers.1) l paid there

pub tests_more : (k : Setting) (m n : ℕ) (x : Y.Bit) → m ≤ n → Tests k m x → Tests k n x
tests_more k m n x few does p numbers taken c index f o line registers l paid there =
    let room = registers.0 in
    does p numbers taken c index f o line (omega (arith, room, few), registers.1) l paid there
