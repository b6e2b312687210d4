-- The names of a block's numbers, which its frames tell: while words of the newest frame tell something, and while
-- texts wait; and that serial numbers have two words.
use Rattle.std.proofs.Common.{◌≡◌, inl, inr, ℕ, ◌+◌, ◌^◌, ◌<◌, ◌≤◌, List, ◌∷◌, Option, Bool, true, false}
use Rattle.std.proofs.Common.{subst, arith}
use Rattle.rv_meaning.specs.declared.instr.Instr.{Instr}
use Rattle.pli_serving.specs.ServiceState as S
use Rattle.pli_coding.specs.Frames.{automatic_place}
use Rattle.storage_relation.proofs.Placing.{none_above}
use Rattle.activation_relation.specs.FrameLaws.{with_waits}
use Rattle.activation_relation.specs.Layers.{Layer, Point}
use Rattle.activation_relation.specs.Points.{AreFew, Surroundings}
use Rattle.program_runs.specs.Calls.{AreMade, Callee, block_at}
use Rattle.program_runs.specs.Statements.{Block, IsAmong, IsBegun, waiting}
use Rattle.program_runs.specs.Variables.{Declared}
use Rattle.expression_runs.specs.Variables.{IsNumber, Spot}
use Rattle.word_runs.specs.Words.{telling}
use Rattle.word_runs.proofs.Words.{number_told}
use Rattle.reference_runs.specs.References.{Reference}
use Rattle.variable_runs.specs.Known.{IsOwn}
use Rattle.variable_runs.specs.Lists.{Among, AreAllBegun}
use Rattle.function_runs.specs.Functions.{function_block}
use Rattle.nested_calls.specs.NestedVariables.{IsInside}
use Rattle.list_calls.specs.Passed.{HasTold, IsTelling}
use Rattle.list_calls.proofs.Telling.{function_telling, inner_function_telling, inner_telling, own_telling}

told_waiting :
    (waits : ℕ → Option ℕ) (φ : Layer) (φs : List Layer) (frame : ℕ) (r : Reference) → HasTold (φ ∷ φs) frame r →
    HasTold (with_waits waits φ ∷ φs) frame r
told_waiting waits φ φs frame r (inl t) = inl t
told_waiting waits φ φs frame r (inr t) = inr t

pub telling_told :
    (k : Block) (φ : Layer) (φs : List Layer) (waits : ℕ → Option ℕ) → k.first.control.layers ≡ φ ∷ φs → (x : Spot) →
    IsTelling k x → IsTelling (telling waits φ φs k) x
unfolding number_told
telling_told k φ φs waits newest x t =
    let r : Reference = record {
      serial = t.number.serial;
      signature = 0;
      place = automatic_place k.environment.parts k.environment.program x.block x.level x.index;
    } in
    record {
      number = number_told k φ φs waits newest x t.number;
      told = told_waiting waits φ φs t.number.base r (subst (λ ls. HasTold ls t.number.base r) newest t.told);
    }

pub telling_waits :
    (k : Block) (entries : List S.Entry) (x : Spot) → IsTelling k x → IsTelling (waiting entries k) x
telling_waits k entries x t =
    let n = t.number in
    record {
      number = record {
        initial = n.initial;
        declared = n.declared;
        serial = n.serial;
        binding = n.binding;
        living = n.living;
        lives = n.lives;
        shape = n.shape;
        base = n.base;
        frame = n.frame;
        at = n.at;
        low = n.low;
        inside = n.inside;
      };
      told = t.told;
    }

-- what lives has a serial number that was given
pub serial_given :
    (k : Block) (x : Spot) → IsBegun k → (is : IsNumber k x) → is.serial ≤ k.first.state.serials
serial_given k x b is =
    let less = none_above (k.first.state.serials + 1) k.first.state.living is.serial is.living
    b.resumes.stands.lives.falling is.lives in
    omega (arith, less)

-- so few come between two acts that each has two words
pub serials_small :
    (w : Surroundings) (p : Point) (serials : ℕ) → AreFew w p → w.serials ≤ 2 ^ 20 →
    serials ≤ p.state.serials + w.serials → serials < 2 ^ 64
serials_small w p serials few less new = omega (arith, few, less, new)

-- ---- what is called without arguments

abbrev pub called_block :
    (v : Bool) → Surroundings → List Instr → Callee → Point → (numbers : ℕ → ℕ) → Block
called_block false w code c p numbers = block_at w code c p numbers
called_block true w code c p numbers = function_block w code c p numbers

pub own_telling_by :
    (v : Bool) (w : Surroundings) (code : List Instr) (c : Callee) (p : Point) (numbers : ℕ → ℕ) (xs : List Declared)
    (d : Declared) (x : Spot) → AreAllBegun w code c p numbers xs → Among d xs → IsOwn c d x →
    (is : IsNumber (called_block v w code c p numbers) x) → is.serial < 2 ^ 64 →
    IsTelling (called_block v w code c p numbers) x
own_telling_by false w code c p numbers xs d x h among own is few =
    own_telling w code c p numbers xs d x h among own is few
own_telling_by true w code c p numbers xs d x h among own is few =
    function_telling w code c p numbers xs d x h among own is few

pub outer_telling_by :
    (v : Bool) (k : Block) (c : Callee) (level : ℕ) (x : Spot) → IsInside k c level → x.level ≤ level →
    IsTelling k x → (p : Point) (numbers : ℕ → ℕ) → IsAmong k numbers p →
    AreMade k.call.surroundings k.call.code c p numbers →
    IsBegun (called_block v k.call.surroundings k.call.code c p numbers) →
    IsTelling (called_block v k.call.surroundings k.call.code c p numbers) x
outer_telling_by false k c level x h less t p numbers o made b =
    inner_telling k c level x h less t p numbers o made b
outer_telling_by true k c level x h less t p numbers o made b =
    inner_function_telling k c level x h less t p numbers o made b
