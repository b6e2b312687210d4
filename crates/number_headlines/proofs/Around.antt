-- The parameters that a block of a program of the class may name: its own, and those of the blocks around it.
use Rattle.std.proofs.Common.{◌≡◌, ℕ, suc, ◌≤◌, List, [], Option, Bool, true, false, ap, ◌∙◌, subst}
use Rattle.std.specs.Prelude.{◌&&◌, ◌==◌}
use Rattle.std.specs.List.{list_any}
use Rattle.std.proofs.lemmas.Bool.{and_from, and_parts}
use Rattle.pli_typing.specs.TypedTree as Y
use Rattle.pli_meaning.specs.DeclaredShapes.{declared_variable}
use Rattle.pli_coding.specs.Frames.{parameters_in, parameters_of_block}
use Rattle.activation_relation.specs.Layers.{Point}
use Rattle.program_places.specs.Programs.{IsReceiving, environment_for}
use Rattle.program_runs.specs.Statements.{IsBegun}
use Rattle.expression_runs.specs.Variables.{Spot}
use Rattle.argument_runs.specs.Parameters.{parameter_of}
use Rattle.parameter_runs.specs.Around.{IsParameterAround}
use Rattle.parameter_runs.proofs.Inner.{function_around, inner_around}
use Rattle.number_runs.specs.Numbers.{is_parameter_if, is_place, is_received}
use Rattle.number_headlines.specs.Programs.{places_to, scope_of}
use Rattle.number_headlines.proofs.CalledBlocks.{DontPass, Moment, are_made, callee_in, entered_at, is_inside}
use Rattle.number_headlines.proofs.Inner.{Inner}
use Rattle.number_headlines.proofs.Mains.{Main}
use Rattle.number_headlines.proofs.Running.{Running, block_of_run}

-- ---- what it says

abbrev around_place : Y.Program → Y.BlockHead → Spot → Bool
around_place program head x = list_any (is_place x) (places_to (environment_for program head) head.level)

-- its block has it among its parameters
abbrev among_parameters : Y.Program → Spot → Bool
among_parameters program x = list_any (λ n. n == x.index) (parameters_of_block program x.block)

abbrev declared_so : Y.Program → Spot → Bool
declared_so program x = is_parameter_if (declared_variable program (parameter_of x))

pub received_parts :
    (program : Y.Program) (called : List ℕ) (head : Y.BlockHead) (body : Y.Stmts) (x : Spot) →
    is_received (scope_of program called head body) x ≡ true →
    (around_place program head x ≡ true) × (among_parameters program x ≡ true) × (declared_so program x ≡ true)
received_parts program called head body x h =
    let a = and_parts (around_place program head x) (among_parameters program x && declared_so program x) h in
    let b = and_parts (among_parameters program x) (declared_so program x) a.1 in
    (a.0, b.0, b.1)

-- it is one for the calling block, too
pub received_there :
    (program : Y.Program) (called : List ℕ) (head caller : Y.BlockHead) (body other : Y.Stmts) (x : Spot) →
    around_place program caller x ≡ true → is_received (scope_of program called head body) x ≡ true →
    is_received (scope_of program called caller other) x ≡ true
received_there program called head caller body other x there h =
    and_from (around_place program caller x) (among_parameters program x && declared_so program x) there
    (and_parts (around_place program head x) (among_parameters program x && declared_so program x) h).1

-- a block without parameters has none
pub none_received :
    (program : Y.Program) (called : List ℕ) (head : Y.BlockHead) (body : Y.Stmts) (result : Option Y.LeafType)
    (x : Spot) → IsReceiving program head body [] result → x.block ≡ head.number →
    is_received (scope_of program called head body) x ≡ true → ⊥
none_received program called head body result x is own h =
    let r = received_parts program called head body x h in
    let none : parameters_of_block program x.block ≡ [] =
    ap (λ n. parameters_of_block program n) own ∙ ap parameters_in is in
    cc (subst (λ ns. list_any (λ n. n == x.index) ns ≡ true) none r.1)

-- ---- in what is called without arguments

-- a parameter of a block around is the one of the calling block
pub outer_around_by :
    (v : Bool) {program : Y.Program} (m : Main program) {input : List ℕ} {acts : ℕ} {valued : Bool} {more b : ℕ}
    {a : Running} {p : Point} {numbers : ℕ → ℕ}
    (o : Moment m input acts valued (suc more) a (suc b) p numbers) {level number : ℕ}
    (i : Inner m a.head [] v level number) (call : ℕ) →
    DontPass (block_of_run program input acts valued (suc more) a) i →
    IsBegun (block_of_run program input acts v more
    (entered_at i (block_of_run program input acts valued (suc more) a) call p numbers)) → (x : Spot) →
    x.level ≤ level → IsParameterAround (block_of_run program input acts valued (suc more) a) x →
    IsParameterAround (block_of_run program input acts v more
    (entered_at i (block_of_run program input acts valued (suc more) a) call p numbers)) x
outer_around_by false {program} m {input} {acts} {valued} {more} {a = a} {p = p} {numbers = numbers} o {level} i call
    pass b' x low is =
    let k = block_of_run program input acts valued (suc more) a in
    inner_around k (callee_in i more k call) level x (is_inside m o i call) low is p numbers o.among
    (are_made m o i call pass) b'
outer_around_by true {program} m {input} {acts} {valued} {more} {a = a} {p = p} {numbers = numbers} o {level} i call
    pass b' x low is =
    let k = block_of_run program input acts valued (suc more) a in
    function_around k (callee_in i more k call) level x (is_inside m o i call) low is p numbers o.among
    (are_made m o i call pass) b'
