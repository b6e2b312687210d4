-- Variables of a block, and its static ancestors, in what it calls, whatever the blocks are to which that may jump.
use Rattle.std.proofs.Common.{◌≡◌, ℕ, List, [], ◌∷◌, refl, ◌∙◌, subst}
use Rattle.pli_meaning.specs.Control.{Label}
use Rattle.pli_meaning.specs.StorageState.{ancestor_at}
use Rattle.pli_serving.specs.ServiceState.{Entry}
use Rattle.activation_relation.specs.Chains.{AreActive}
use Rattle.activation_relation.specs.Landing.{resumed, with_units}
use Rattle.activation_relation.specs.Layers.{Point}
use Rattle.block_runs.specs.Machines.{HasParts}
use Rattle.program_runs.specs.Calls.{AreMade, Callee, block_at}
use Rattle.program_runs.specs.Procedures.{layer_for}
use Rattle.program_runs.specs.Statements.{Block, IsAmong, IsBegun, Outer, as_outer, waiting}
use Rattle.program_runs.specs.Variables.{Declared, IsOnly}
use Rattle.program_runs.proofs.Waiting.{begun_waits}
use Rattle.expression_runs.specs.OwnVariables.{IsOwn}
use Rattle.expression_runs.specs.Values.{Setting}
use Rattle.expression_runs.specs.Variables.{IsNumber, Spot}
use Rattle.expression_runs.proofs.OwnVariables.{procedure_own}
use Rattle.function_runs.specs.Functions.{function_block}
use Rattle.function_runs.specs.OuterVariables.{IsInside}
use Rattle.function_runs.proofs.OuterVariables.{Over, over_number, same_ancestor}
use Rattle.function_runs.proofs.OwnVariables as O
use Rattle.text_runs.proofs.Waiting.{number_waits}
use Rattle.jump_runs.specs.Calls.{block_in}
use Rattle.jump_runs.specs.Functions.{function_in}

-- ---- a block, whatever is further out

abbrev pub leaving : Block → List Outer → Block
leaving k os = record k { outers = os }

-- one that control leaves by its end alone
pub alone : (k : Block) (os : List Outer) → IsBegun (leaving k os) → IsBegun (leaving k [])
alone k os b =
    record { activation = b.activation; resumes = b.resumes; acts = b.acts; remains = b.remains; outer = tt }

pub number_leaving : (k : Block) (os : List Outer) (x : Spot) → IsNumber (leaving k []) x → IsNumber (leaving k os) x
number_leaving k os x is =
    record {
      initial = is.initial;
      declared = is.declared;
      serial = is.serial;
      binding = is.binding;
      living = is.living;
      lives = is.lives;
      shape = is.shape;
      base = is.base;
      frame = is.frame;
      at = is.at;
      low = is.low;
      inside = is.inside;
    }

-- ---- a procedure's

called_over :
    (k : Block) (labels : List Label) (c : Callee) (x : Spot) → IsInside k c x → (p : Point) (numbers : ℕ → ℕ) →
    AreMade k.call.surroundings k.call.code c p numbers → IsBegun (block_in k labels c p numbers) →
    Over k (block_in k labels c p numbers) p
called_over k labels c x h p numbers made b =
    let units = k.call.surroundings.units in
    let first = (block_in k labels c p numbers).first in
    let φ = resumed made.changed (layer_for k.call.surroundings p numbers c.procedure c.calling) in
    let a = with_units made.own made.activation in
    let active : AreActive units (a ∷ p.state.activations) (φ ∷ p.control.layers) =
    subst (λ xs. AreActive units xs (φ ∷ p.control.layers)) made.activations
    (subst (λ ls. AreActive units first.state.activations ls) made.layers b.resumes.stands.active) in
    record {
      activation = a;
      layer = φ;
      active = made.activations;
      below = p.control.layers;
      layers = made.layers;
      frames = λ n. refl;
      many = refl;
      height = active.0.height;
      level = active.0.level;
      parent = made.parent ∙ h.parent;
      remains = b.remains;
      own = h.level;
      code = h.inner;
      few = h.few;
    }

pub called_number :
    (k : Block) (labels : List Label) (c : Callee) (x : Spot) → IsInside k c x → IsNumber k x → (p : Point)
    (numbers : ℕ → ℕ) → IsAmong k numbers p → AreMade k.call.surroundings k.call.code c p numbers →
    IsBegun (block_in k labels c p numbers) → IsNumber (block_in k labels c p numbers) x
called_number k labels c x h is p numbers o made b =
    over_number {k = k} {inner = block_in k labels c p numbers} {numbers = numbers} {p = p} x
    (called_over k labels c x h p numbers made b) h.begun o h.further h.program h.parts is

pub called_ancestor :
    (k : Block) (labels : List Label) (c : Callee) (x : Spot) → IsInside k c x → (p : Point) (numbers : ℕ → ℕ) →
    IsAmong k numbers p → AreMade k.call.surroundings k.call.code c p numbers →
    IsBegun (block_in k labels c p numbers) →
    ancestor_at (block_in k labels c p numbers).first.state x.level ≡ ancestor_at k.first.state x.level
called_ancestor k labels c x h p numbers o made b =
    same_ancestor x.level (called_over k labels c x h p numbers made b) h.begun o h.further

pub called_own :
    (k : Block) (labels : List Label) (c : Callee) (p : Point) (numbers : ℕ → ℕ) (d : Declared) (x : Spot) →
    HasParts k.call.surroundings.parts → IsOnly k.call.surroundings c p numbers d → IsOwn c d x →
    IsBegun (block_in k labels c p numbers) → IsNumber (block_in k labels c p numbers) x
called_own k labels c p numbers d x parts h own b =
    let i = block_at k.call.surroundings k.call.code c p numbers in
    let os = as_outer k labels ∷ k.outers in
    number_leaving i os x
    (procedure_own k.call.surroundings k.call.code c p numbers d x parts h own (alone i os b))

-- ---- a function's

function_over :
    (entries : List Entry) (k : Setting) (c : Callee) (x : Spot) → IsInside k.block c x → (p : Point)
    (numbers : ℕ → ℕ) → AreMade k.block.call.surroundings k.block.call.code c p numbers →
    IsBegun (function_in k c p numbers) → Over (waiting entries k.block) (function_in k c p numbers) p
function_over entries k c x h p numbers made b =
    let units = k.block.call.surroundings.units in
    let first = (function_in k c p numbers).first in
    let φ = resumed made.changed (layer_for k.block.call.surroundings p numbers c.procedure c.calling) in
    let a = with_units made.own made.activation in
    let active : AreActive units (a ∷ p.state.activations) (φ ∷ p.control.layers) =
    subst (λ xs. AreActive units xs (φ ∷ p.control.layers)) made.activations
    (subst (λ ls. AreActive units first.state.activations ls) made.layers b.resumes.stands.active) in
    record {
      activation = a;
      layer = φ;
      active = made.activations;
      below = p.control.layers;
      layers = made.layers;
      frames = λ n. refl;
      many = refl;
      height = active.0.height;
      level = active.0.level;
      parent = made.parent ∙ h.parent;
      remains = b.remains;
      own = h.level;
      code = h.inner;
      few = h.few;
    }

pub function_number :
    (entries : List Entry) (k : Setting) (c : Callee) (x : Spot) → IsInside k.block c x → IsNumber k.block x →
    (p : Point) (numbers : ℕ → ℕ) → IsAmong (waiting entries k.block) numbers p →
    AreMade k.block.call.surroundings k.block.call.code c p numbers →
    IsBegun (function_in k c p numbers) → IsNumber (function_in k c p numbers) x
function_number entries k c x h is p numbers o made b =
    over_number {k = waiting entries k.block} {inner = function_in k c p numbers} {numbers = numbers} {p = p} x
    (function_over entries k c x h p numbers made b) (begun_waits k.block entries h.begun) o h.further h.program h.parts
    (number_waits k.block entries x is)

pub function_ancestor :
    (entries : List Entry) (k : Setting) (c : Callee) (x : Spot) → IsInside k.block c x → (p : Point)
    (numbers : ℕ → ℕ) → IsAmong (waiting entries k.block) numbers p →
    AreMade k.block.call.surroundings k.block.call.code c p numbers → IsBegun (function_in k c p numbers) →
    ancestor_at (function_in k c p numbers).first.state x.level ≡ ancestor_at k.block.first.state x.level
function_ancestor entries k c x h p numbers o made b =
    same_ancestor x.level (function_over entries k c x h p numbers made b) (begun_waits k.block entries h.begun) o
    h.further

pub function_own :
    (k : Setting) (c : Callee) (p : Point) (numbers : ℕ → ℕ) (d : Declared) (x : Spot) →
    HasParts k.block.call.surroundings.parts → IsOnly k.block.call.surroundings c p numbers d → IsOwn c d x →
    IsBegun (function_in k c p numbers) → IsNumber (function_in k c p numbers) x
function_own k c p numbers d x parts h own b =
    let i = function_block k.block.call.surroundings k.block.call.code c p numbers in
    let os = as_outer k.block k.labels ∷ k.block.outers in
    number_leaving i os x
    (O.function_own k.block.call.surroundings k.block.call.code c p numbers d x parts h own (alone i os b))
