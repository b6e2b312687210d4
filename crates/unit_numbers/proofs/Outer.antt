-- What a jump out of a unit finds of a procedure's block: its stacks, its frame's end and the registers that it saves.
use Rattle.std.proofs.Common.{◌≡◌, ℕ, ◌+◌, ◌≤◌, List, [], ◌∷◌, length}
use Rattle.std.proofs.Common.{true, refl, ap, ◌∙◌, arith}
use Rattle.std.specs.Prelude.{min}
use Rattle.std.proofs.Common.{Some, None}
use Rattle.std.specs.Prelude.{cond}
use Rattle.std.proofs.lemmas.Bool.{and_parts, eq-eqb}
use Rattle.pli_language.specs.declared.condition.Condition.{Condition}
use Rattle.pli_typing.specs.TypedTree as Y
use Rattle.pli_meaning.specs.Control.{Label, is_among}
use Rattle.pli_meaning.specs.DeclaredShapes.{variables_of_block}
use Rattle.pli_meaning.specs.Executing.{labels_in}
use Rattle.pli_meaning.specs.StorageState.{Activation, Binding, OnUnit, ancestor, height_of, newest_height}
use Rattle.pli_coding.specs.Frames.{MemoryParts, fixed_size, frame_bytes, frame_end, last_place, parameters_of_block}
use Rattle.pli_coding.specs.Frames.{variable_place}
use Rattle.pli_coding.specs.Registers.{held_registers}
use Rattle.pli_coding.specs.Statements.{block_held, stmts_held}
use Rattle.activation_relation.specs.Frames.{frame_under, upper_top}
use Rattle.activation_relation.specs.Layers.{Layer, Point}
use Rattle.program_places.specs.Programs.{environment_for}
use Rattle.program_runs.specs.Starts.{image_parts}
use Rattle.program_runs.specs.Variables.{Declared}
use Rattle.variable_runs.specs.Lists.{all_made, behind_made, layer_behind}
use Rattle.number_runs.specs.Variables.{HaveRoom, are_plain, bytes_of, is_declared, variable_bytes}
use Rattle.number_runs.proofs.Declared.{makeable}
use Rattle.number_headlines.proofs.CalledLandings.{end_place, labels_saved}
use Rattle.number_headlines.proofs.Tables.{block_plain}
use Rattle.activation_relation.specs.Points.{Surroundings}
use Rattle.number_headlines.proofs.Mains.{spare}
use Rattle.unit_numbers.proofs.Mains.{Main, alone, block_for, free, layer_behind_all, main_words, surroundings_for}

-- ---- its activation

pub alone_own :
    (level : ℕ) (bs : List Binding) (us : List (Condition × OnUnit)) →
    height_of (ancestor (alone level bs us) (newest_height (alone level bs us)) level) ≡ 1
alone_own level bs us = ap (λ q. height_of (cond q (Some one) None)) (eq-eqb level level refl)
  where
    one : Activation
    one = record { height = 1; level = level; parent = 0; oncode = 0; bindings = bs; units = us }

-- ---- where its frame ends

-- behind its variables
pub frame_top :
    (program : Y.Program) (head : Y.BlockHead) (w : Surroundings) (q : Point) (φ : Layer) (φs : List Layer)
    (more : ℕ) → parameters_of_block program head.number ≡ [] →
    are_plain (variables_of_block program head.number) ≡ true →
    HaveRoom w q φ φs (fixed_size head.level 0 + bytes_of (variables_of_block program head.number)) more →
    upper_top image_parts q.control.layers
    ≡ frame_under image_parts q.control.layers + frame_end image_parts program head.number head.level
frame_top program head w q φ φs more bare plain f =
    let ds = variables_of_block program head.number in
    let first = fixed_size head.level 0 in
    let top = ap (λ ls. upper_top image_parts ls) f.newest in
    let frame = ap (λ ls. frame_under image_parts ls) f.newest in
    let here = f.here in
    let counted = f.counted in
    let start : fixed_size head.level (length (parameters_of_block program head.number)) ≡ first =
    ap (λ (ns : List ℕ). fixed_size head.level (length ns)) bare in
    let end : frame_end image_parts program head.number head.level ≡ first + bytes_of ds =
    ap (λ n. variable_place image_parts n ds (length ds)) start
    ∙ end_place image_parts first ds plain (omega (arith, counted)) in
    omega (arith, top, frame, here, end)

pub main_top :
    {program : Y.Program} (m : Main program) (input : List ℕ) (acts : ℕ) →
    upper_top image_parts (block_for m input acts).first.control.layers
    ≡ frame_under image_parts (block_for m input acts).first.control.layers
    + frame_end image_parts program m.head.number m.head.level
main_top {program} m input acts =
    frame_top program m.head (surroundings_for m input acts) _ (layer_behind_all m input acts) [] spare
    (main_words m input acts).bare (block_plain program.variables m.head.number m.plain).plain (free m input acts)

-- ---- the registers that it saves: all of them where its list has a label

pub block_saves :
    (program : Y.Program) (head : Y.BlockHead) (body : Y.Stmts) (label : Label) →
    is_among label (labels_in body) ≡ true → held_registers ≤ block_held (environment_for program head) head.number body
block_saves program head body label e =
    let h = labels_saved program label body e in
    omega (arith, h)
