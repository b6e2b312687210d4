-- The main procedure of a program of the class where it begins: its variables are made, and there is room for more.
use Rattle.std.proofs.Common.{◌≡◌, ℕ, ◌+◌, ◌*◌, ◌≤◌, List, [], ◌∷◌, ◌++◌, Option, None, Some, true, false}
use Rattle.std.proofs.Common.{length, refl, sym, ap, ◌∙◌, subst, arith}
use Rattle.std.specs.Prelude.{◌&&◌, ◌||◌, Bool, nat_le}
use Rattle.std.proofs.lemmas.Bool.{and_parts, leb-true}
use Rattle.pli_language.specs.declared.condition.Condition.{Condition}
use Rattle.pli_typing.specs.TypedTree as Y
use Rattle.pli_meaning.specs.DeclaredShapes.{head_of, variables_of_block}
use Rattle.pli_meaning.specs.Executing.{labels_in}
use Rattle.pli_meaning.specs.Making.{with_binding}
use Rattle.pli_meaning.specs.StorageState.{Activation, BlockUnit, OnUnit, SystemUnit, force, first_unit, unit_for}
use Rattle.pli_meaning.specs.StorageState.{Binding}
use Rattle.pli_coding.specs.Frames.{MemoryParts, fixed_size, parameters_in}
use Rattle.pli_coding.specs.Images.{linked_code, picture_of}
use Rattle.pli_coding.specs.Registers.{held_registers}
use Rattle.activation_relation.specs.Chains.{HasParent}
use Rattle.activation_relation.specs.Layers.{Layer, Point}
use Rattle.activation_relation.specs.ServiceLaws.{IsSystem}
use Rattle.program_places.specs.Programs.{IsLoadable, IsMain, Run, code_for, environment_for, image_for, procedure_for}
use Rattle.program_places.specs.Programs.{whole_for}
use Rattle.program_places.specs.Programs as Placed
use Rattle.program_places.proofs.Found.{known}
use Rattle.program_places.proofs.Starts.{main_found}
use Rattle.program_runs.specs.Calls.{Callee, begun_at, block_at}
use Rattle.program_runs.specs.Procedures.{HasRoom, layer_for}
use Rattle.program_runs.specs.Programs.{main_of}
use Rattle.program_runs.specs.Starts.{image_parts, no_numbers, start_point, surroundings_of}
use Rattle.program_runs.specs.Statements.{Block, IsBegun}
use Rattle.program_runs.specs.Variables.{Declared}
use Rattle.expression_runs.specs.Variables.{IsNumber, Spot}
use Rattle.activation_relation.specs.Points.{Surroundings}
use Rattle.variable_runs.specs.Lists.{AreAllBegun, all_made, behind_made, layer_behind, newest_all}
use Rattle.well_formed_trees.specs.WellFormed.{HasMain}
use Rattle.pli_headline.specs.Headline.{FitsMemory, parts}
use Rattle.block_headlines.specs.Constants.{IsOf}
use Rattle.block_headlines.proofs.Constants.{main_of_program}
use Rattle.array_runs.specs.Arrays.{IsArray}
use Rattle.scalar_runs.specs.Scalars.{IsScalar}
use Rattle.number_runs.specs.Numbers.{has_none}
use Rattle.number_runs.specs.Statements.{are_statements, begins_need, statements_need, statements_set}
use Rattle.variable_runs.specs.Known.{IsKnown}
use Rattle.area_runs.specs.Allocations.{HasArea}
use Rattle.area_runs.specs.Based.{pointer_declared}
use Rattle.number_runs.specs.Areas.{HasAreas, IsOwnArea, IsOwnPointer, held_bytes, held_in}
use Rattle.number_runs.specs.Variables.{HaveRoom, IsOwnArray, IsOwnNarrow, IsOwnWord, own_grid, own_type, words_in}
use Rattle.number_runs.proofs.AreaKnown.{all_held, held_area, held_array, held_narrow, held_pointer, held_word}
use Rattle.number_runs.proofs.BlocksTaken.{words_set}
use Rattle.number_runs.proofs.Words.{room_fewer}
use Rattle.number_headlines.specs.Programs.{are_all_known, are_inner, body_of, callable_ones, has_main, is_main}
use Rattle.number_headlines.specs.Programs.{staying_ones}
use Rattle.number_headlines.specs.Programs.{has_result, is_body, most_bytes, most_waiting, most_words, are_held}
use Rattle.number_headlines.specs.Programs.{scope_of}
use Rattle.number_headlines.proofs.Begins.{block_begins}
use Rattle.number_headlines.proofs.Tables.{block_known, has_table, held_block, serials_enough}

-- ---- no unit comes with variables

bound_system :
    (b : Binding) (as' : List Activation) (c : Condition) → IsSystem (force as' c) →
    IsSystem (force (with_binding b as') c)
bound_system b [] c h = h
bound_system b (a ∷ as') c h = same (unit_for a.units c) h
  where
    same :
        (o : Option OnUnit) → IsSystem (first_unit a o (force as' c)) →
        IsSystem (first_unit (record a { bindings = b ∷ a.bindings }) o (force as' c))
    same None h = h
    same (Some SystemUnit) h = tt
    same (Some (BlockUnit unit)) h = absurd h

pub made_system :
    (memory : MemoryParts) (φ : Layer) (xs : List Declared) (p : Point) (c : Condition) →
    IsSystem (force p.state.activations c) → IsSystem (force (all_made memory φ xs p).state.activations c)
made_system memory φ [] p c h = h
made_system memory φ (x ∷ xs) p c h =
    made_system memory (layer_behind memory (p.state.serials + 1) φ x) xs (behind_made memory φ x p) c
    (bound_system _ p.state.activations c h)

-- ---- the main procedure

none_of : {A : Type 0} (xs : List A) → has_none xs ≡ true → xs ≡ []
none_of [] h = refl
none_of (x ∷ xs) h = absurd (cc h)

-- what a procedure, or a function, returns
abbrev pub result_by : (valued : Bool) → (precision : ℕ) → Option Y.LeafType
result_by false precision = None
result_by true precision = Some (Y.FixedLeaf precision)

pub record IsResult (valued : Bool) (t : Option Y.LeafType) : Type 0 where
  pub precision : ℕ
  pub few : precision ≤ 31
  pub is : t ≡ result_by valued precision

pub result_is : (valued : Bool) (t : Option Y.LeafType) → has_result valued t ≡ true → IsResult valued t
result_is false None h = record { precision = 0; few = omega arith; is = refl }
result_is false (Some t) h = absurd (cc h)
result_is true None h = absurd (cc h)
result_is true (Some (Y.FixedLeaf precision)) h =
    record { precision = precision; few = leb-true precision 31 h; is = refl }
result_is true (Some (Y.CharacterLeaf size)) h = absurd (cc h)
result_is true (Some (Y.VaryingLeaf size)) h = absurd (cc h)
result_is true (Some Y.BitLeaf) h = absurd (cc h)
result_is true (Some Y.PointerLeaf) h = absurd (cc h)
result_is true (Some (Y.OffsetLeaf area)) h = absurd (cc h)
result_is true (Some (Y.AreaLeaf size)) h = absurd (cc h)

block_is : (b : Y.Block) → b ≡ Y.BlockOf (head_of b) (body_of b)
block_is (Y.BlockOf head body) = refl

pub received_is :
    (p : Y.Procedure) →
    p
    ≡ record {
      block = Y.BlockOf (head_of p.block) (body_of p.block);
      parameters = p.parameters;
      result = p.result;
    }
received_is p = ap (λ x. record p { block = x }) (block_is p.block)

pub procedure_is :
    (p : Y.Procedure) → has_none p.parameters ≡ true →
    p ≡ record { block = Y.BlockOf (head_of p.block) (body_of p.block); parameters = []; result = p.result }
procedure_is p h =
    received_is p
    ∙ ap (λ (ns : List ℕ).
    let q : Y.Procedure = record {
      block = Y.BlockOf (head_of p.block) (body_of p.block);
      parameters = ns;
      result = p.result;
    } in q) (none_of p.parameters h)

-- its program, with what the class says of it
pub record Main (program : Y.Program) : Type 0 where
  pub head : Y.BlockHead
  pub body : Y.Stmts
  pub others : List Y.Procedure
  pub main : IsMain program (record { head = head; body = body; others = others })
  pub known : are_all_known program.variables ≡ true
  pub own : are_held (variables_of_block program head.number) ≡ true
  pub loadable : IsLoadable program
  pub memory : FitsMemory (picture_of parts program)
  -- the numbers of the procedures that it calls, and that they call
  pub called : List ℕ
  pub statements : are_statements (scope_of program called head body) false (labels_in body ++ []) body ≡ true
  pub fits : statements_need body ≤ held_registers
  pub begins : begins_need body ≤ held_registers
  pub waiting : statements_set body ≤ most_waiting
  pub inners : are_inner program called called ≡ true

-- as it is placed
abbrev pub placed : {program : Y.Program} → Main program → Placed.Main
placed m = record { head = m.head; body = m.body; others = m.others }

main_is :
    (program : Y.Program) (called : List ℕ) (p : Y.Procedure) (ps : List Y.Procedure) → program.procedures ≡ p ∷ ps →
    are_all_known program.variables ≡ true → IsLoadable program → FitsMemory (picture_of parts program) →
    is_main program called p ≡ true → Main program
main_is program called p ps e known load fits h =
    let head = head_of p.block in
    let body = body_of p.block in
    let s = scope_of program called head body in
    let plain = are_held (variables_of_block program head.number) in
    let all = are_inner program called called in
    let a = and_parts (has_none p.parameters) (has_result false p.result && (plain && (is_body s false body && all))) h
    in
    let b = and_parts (has_result false p.result) (plain && (is_body s false body && all)) a.1 in
    let d = and_parts plain (is_body s false body && all) b.1 in
    let c = and_parts (is_body s false body) all d.1 in
    let f = and_parts (are_statements s false (labels_in body ++ []) body)
    (nat_le (statements_need body) held_registers
    && (nat_le (begins_need body) held_registers && nat_le (statements_set body) most_waiting)) c.0 in
    let g = and_parts (nat_le (statements_need body) held_registers)
    (nat_le (begins_need body) held_registers && nat_le (statements_set body) most_waiting) f.1 in
    let r = and_parts (nat_le (begins_need body) held_registers) (nat_le (statements_set body) most_waiting) g.1 in
    record {
      head = head;
      body = body;
      others = ps;
      main = e ∙ ap (λ x. x ∷ ps) (procedure_is p a.0
          ∙ ap (λ (t : Option Y.LeafType).
          let q : Y.Procedure = record { block = Y.BlockOf head body; parameters = []; result = t } in q)
          (result_is false p.result b.0).is);
      known = known;
      own = d.0;
      loadable = load;
      memory = fits;
      called = called;
      statements = f.0;
      fits = leb-true (statements_need body) held_registers g.0;
      begins = leb-true (begins_need body) held_registers r.0;
      waiting = leb-true (statements_set body) most_waiting r.1;
      inners = c.1;
    }

main_either : (q r : Bool) {P : Type 0} → (q || r) ≡ true → (q ≡ true → P) → (r ≡ true → P) → P
main_either true r h one other = one refl
main_either false r h one other = other h

pub class_main :
    (program : Y.Program) (ps : List Y.Procedure) → program.procedures ≡ ps →
    are_all_known program.variables ≡ true → IsLoadable program → FitsMemory (picture_of parts program) →
    has_main program ps ≡ true → Main program
class_main program [] e known load fits h = absurd (cc h)
class_main program (p ∷ ps) e known load fits h =
    main_either (is_main program (staying_ones program) p) (is_main program (callable_ones program) p) h
    (main_is program (staying_ones program) p ps e known load fits)
    (main_is program (callable_ones program) p ps e known load fits)

-- ---- in a run

-- no more serial numbers come between two acts than a block has variables
abbrev pub run_for : Y.Program → (input : List ℕ) → (acts : ℕ) → Run
run_for program input acts = record { units = []; input = input; acts = acts; serials = most_words }

abbrev pub made_for : Y.Program → Y.BlockHead → Point → Point
made_for program head = newest_all image_parts (words_in (environment_for program head))

-- what the main procedure makes, areas among them
abbrev pub held_for : Y.Program → Y.BlockHead → Point → Point
held_for program head = newest_all image_parts (held_in (environment_for program head))

abbrev pub surroundings_for : Y.Program → (input : List ℕ) → (acts : ℕ) → Surroundings
surroundings_for program input acts = surroundings_of (image_for program (run_for program input acts))

abbrev pub start_for : Y.Program → (input : List ℕ) → (acts : ℕ) → Point
start_for program input acts = start_point (image_for program (run_for program input acts))

abbrev pub main_for : {program : Y.Program} → Main program → (input : List ℕ) → (acts : ℕ) → Callee
main_for {program} m input acts =
    main_of (whole_for program (placed m) (run_for program input acts) (held_for program m.head))

pub level_of : {program : Y.Program} (m : Main program) → m.head.level ≡ 0
level_of {program} m = (subst HasMain m.main m.loadable.well_formed.main).0

pub own_words :
    {program : Y.Program} (m : Main program) → (procedure_for program m.head m.body).words ≡ statements_set m.body
own_words {program} m =
    words_set (scope_of program m.called m.head m.body) false (environment_for program m.head) m.head.number
    m.body
    (block_known program.variables m.head.number m.known).known m.statements m.fits

parented : (level parent : ℕ) → level ≡ 0 → HasParent level parent []
parented level parent e = subst (λ n. HasParent n parent []) (sym e) tt

pub main_room :
    {program : Y.Program} (m : Main program) (input : List ℕ) (acts : ℕ) →
    HasRoom (surroundings_for program input acts)
    (start_for program input acts) (procedure_for program m.head m.body)
    (main_for m input acts).calling
main_room {program} m input acts =
    let words = own_words m in
    let waiting = m.waiting in
    let level = level_of m in
    record {
      room = omega (arith, words, waiting, level);
      shallow = refl;
      parent = parented m.head.level 0 level;
      idle = refl;
    }

-- what stays free where a block of the greatest frame is the only one beside it: its variables, and its frame
abbrev pub spare : ℕ
spare = most_bytes + 32 * 16

abbrev pub main_layer : {program : Y.Program} → Main program → (input : List ℕ) → (acts : ℕ) → Layer
main_layer {program} m input acts =
    layer_for (surroundings_for program input acts)
    (start_for program input acts) no_numbers (procedure_for program m.head m.body)
    (main_for m input acts).calling

abbrev pub main_begun : {program : Y.Program} → Main program → (input : List ℕ) → (acts : ℕ) → Point
main_begun {program} m input acts =
    begun_at (surroundings_for program input acts)
    (main_for m input acts)
    (start_for program input acts) no_numbers

pub main_spare :
    {program : Y.Program} (m : Main program) (input : List ℕ) (acts : ℕ) →
    HaveRoom (surroundings_for program input acts) (main_begun m input acts)
    (main_layer m input acts) [] (fixed_size m.head.level 0)
    (held_bytes image_parts (variables_of_block program m.head.number) + spare)
main_spare {program} m input acts =
    let words = own_words m in
    let waiting = m.waiting in
    let level = level_of m in
    let few = (held_block program.variables m.head.number m.known m.own).room in
    let code = m.loadable.fits in
    record {
      newest = refl;
      here = refl;
      even = omega (arith, words, waiting, level);
      counted = omega (arith, level, few);
      fits = omega (arith, words, waiting, level, few);
      low = omega (arith, code);
      limit = omega (arith, few);
    }

pub main_areas :
    {program : Y.Program} (m : Main program) (input : List ℕ) (acts : ℕ) →
    HasAreas (surroundings_for program input acts) (linked_code (code_for program))
    (main_for m input acts)
    (start_for program input acts) no_numbers
main_areas {program} m input acts =
    let found = main_found program (placed m) m.main in
    let kind = (known program m.head m.body None m.loadable.well_formed found).kind in
    let held = held_block program.variables m.head.number m.known m.own in
    let count = held.few in
    let n = held_bytes image_parts (variables_of_block program m.head.number) in
    record {
      kind = kind;
      coded = refl;
      block = refl;
      level = refl;
      program = refl;
      parts = refl;
      keeper = refl;
      bare = ap parameters_in found;
      made = refl;
      any = held.any;
      few = serials_enough program m.head.number m.known;
      tabled = has_table program m.head m.known;
      begin = block_begins program m.head m.body [] None m.memory m.known found;
      room = room_fewer (surroundings_for program input acts) (main_begun m input acts)
          (main_layer m input acts) [] (fixed_size m.head.level 0) n (n + spare) (omega arith)
          (main_spare m input acts);
      serials = omega (arith, count);
    }

pub main_all :
    {program : Y.Program} (m : Main program) (input : List ℕ) (acts : ℕ) →
    AreAllBegun (surroundings_for program input acts) (linked_code (code_for program))
    (main_for m input acts)
    (start_for program input acts) no_numbers (held_in (environment_for program m.head))
main_all {program} m input acts =
    all_held (surroundings_for program input acts) (linked_code (code_for program))
    (main_for m input acts)
    (start_for program input acts) no_numbers (main_areas m input acts)

abbrev pub block_for : {program : Y.Program} → Main program → (input : List ℕ) → (acts : ℕ) → Block
block_for {program} m input acts =
    block_at (surroundings_for program input acts) (linked_code (code_for program))
    (main_for m input acts)
    (start_for program input acts) no_numbers

abbrev pub most_for : Y.Program → ℕ
most_for program = length (linked_code (code_for program)) + 2

-- each variable that the main procedure may name is a number of its block
pub main_number :
    {program : Y.Program} (m : Main program) (input : List ℕ) (acts : ℕ) (x : Spot) →
    IsOwnWord (main_for m input acts) x → IsBegun (block_for m input acts) → IsNumber (block_for m input acts) x
main_number {program} m input acts x own b =
    held_word (surroundings_for program input acts) (linked_code (code_for program)) (main_for m input acts)
    (start_for program input acts) no_numbers x (record { high = omega arith; inside = omega arith })
    (main_areas m input acts) own b

-- and each array an array of it
pub main_array :
    {program : Y.Program} (m : Main program) (input : List ℕ) (acts : ℕ) (x : Spot) →
    IsOwnArray (main_for m input acts) x → IsBegun (block_for m input acts) →
    IsArray (block_for m input acts) x (own_grid (main_for m input acts) x)
main_array {program} m input acts x own b =
    held_array (surroundings_for program input acts) (linked_code (code_for program)) (main_for m input acts)
    (start_for program input acts) no_numbers x (record { high = omega arith; inside = omega arith })
    (main_areas m input acts) own b

-- and each scalar of fewer bits one of it
pub main_narrow :
    {program : Y.Program} (m : Main program) (input : List ℕ) (acts : ℕ) (x : Spot) →
    IsOwnNarrow (main_for m input acts) x → IsBegun (block_for m input acts) →
    IsScalar (block_for m input acts) x (own_type (main_for m input acts) x)
main_narrow {program} m input acts x own b =
    held_narrow (surroundings_for program input acts) (linked_code (code_for program)) (main_for m input acts)
    (start_for program input acts) no_numbers x (record { high = omega arith; inside = omega arith })
    (main_areas m input acts) own b

-- and each pointer and area is known there
pub main_pointer :
    {program : Y.Program} (m : Main program) (input : List ℕ) (acts : ℕ) (x : Spot) →
    IsOwnPointer (main_for m input acts) x → IsBegun (block_for m input acts) →
    IsKnown (block_for m input acts) x pointer_declared
main_pointer {program} m input acts x own b =
    held_pointer (surroundings_for program input acts) (linked_code (code_for program)) (main_for m input acts)
    (start_for program input acts) no_numbers x (record { high = omega arith; inside = omega arith })
    (main_areas m input acts) own b

pub main_area :
    {program : Y.Program} (m : Main program) (input : List ℕ) (acts : ℕ) (x : Spot) →
    IsOwnArea (main_for m input acts) x → IsBegun (block_for m input acts) → HasArea (block_for m input acts) x
main_area {program} m input acts x own b =
    held_area (surroundings_for program input acts) (linked_code (code_for program)) (main_for m input acts)
    (start_for program input acts) no_numbers x (record { high = omega arith; inside = omega arith })
    (main_areas m input acts) own b

-- what the program tells of its static data is told there
pub main_told :
    {program : Y.Program} (m : Main program) (input : List ℕ) (acts : ℕ) → IsBegun (block_for m input acts) →
    IsOf program (block_for m input acts)
main_told {program} m input acts b =
    main_of_program program (run_for program input acts) (block_for m input acts) refl refl refl b
