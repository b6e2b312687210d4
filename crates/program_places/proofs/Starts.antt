-- The start of a program without STATIC variables, and the whole program.
use Rattle.std.proofs.Common.{◌≡◌, ℕ, suc, ◌+◌, ◌^◌, ◌<◌, List, [], ◌∷◌, ◌++◌, length, Some, None}
use Rattle.std.proofs.Common.{refl, ap, ◌∙◌, subst}
use Rattle.std.specs.Prelude.{cond}
use Rattle.std.proofs.lemmas.Bool.{eq-eqb}
use Rattle.rv_meaning.specs.Machine.{memory_size}
use Rattle.pli_typing.specs.TypedTree as Y
use Rattle.pli_meaning.specs.DeclaredShapes.{procedure_numbered}
use Rattle.pli_meaning.specs.Executing.{entered}
use Rattle.pli_meaning.specs.Making as K
use Rattle.pli_meaning.specs.Making.{statics_from}
use Rattle.pli_meaning.specs.StorageState.{State, first_state}
use Rattle.pli_coding.specs.Assembly.{CallTo, ProcedureEntry}
use Rattle.pli_coding.specs.Environments.{Environment}
use Rattle.pli_coding.specs.Images as I
use Rattle.pli_coding.specs.Images.{first_frame, linked_code, raise_code, start_code}
use Rattle.pli_coding.specs.Locating.{referred_bounds}
use Rattle.pli_coding.specs.Procedures.{finish_code, procedures_code, routines_code}
use Rattle.pli_coding.specs.SignatureTable.{table_of}
use Rattle.code_marks.specs.CodeMarks.{MarkedOnce}
use Rattle.storage_relation.specs.ServiceLaws.{TableDiffers}
use Rattle.well_formed_trees.specs.Every.{Every}
use Rattle.well_formed_trees.specs.WellFormed.{HasMain}
use Rattle.activation_relation.specs.Layers.{Point}
use Rattle.run_steps.specs.Items.{Linked}
use Rattle.run_steps.proofs.Jumps.{back_of, first_of, rest_of}
use Rattle.program_runs.specs.Calls.{AreMade}
use Rattle.program_runs.specs.Procedures.{HasRoom}
use Rattle.program_runs.specs.Programs.{IsWhole, main_of}
use Rattle.program_runs.specs.Starts.{IsStart, call_index, image_parts, main_called, no_numbers, start_of, start_point}
use Rattle.program_runs.specs.Starts.{surroundings_of}
use Rattle.program_places.specs.Programs.{HasStart, HasStaticData, IsLoadable, IsMain, IsProcedure, IsUnstatic}
use Rattle.program_places.specs.Programs.{IsUnstaticClass, Main, Run}
use Rattle.program_places.specs.Programs.{code_for, image_for, links_for, procedure_for, program_environment, whole_for}
use Rattle.program_places.proofs.Callees.{callee_stands}
use Rattle.program_places.proofs.Marks.{placed_as, placed_front}
use Rattle.program_places.proofs.Procedures.{code_placed}

-- ---- no code makes STATIC variables

class_none :
    (e : Environment) (block index : ℕ) (d : Y.DeclaredVariable) (class : Y.StorageClass) → IsUnstaticClass class →
    I.static_if e block index d class ≡ []
class_none e block index d Y.AutomaticClass h = refl
class_none e block index d Y.ParameterClass h = refl
class_none e block index d Y.StaticClass h = absurd h
class_none e block index d Y.BasedClass h = refl
class_none e block index d Y.ControlledClass h = refl

block_none :
    (e : Environment) (block index : ℕ) (ds : List Y.DeclaredVariable) → Every IsUnstatic ds →
    I.statics_of_block e block index ds ≡ []
block_none e block index [] h = refl
block_none e block index (d ∷ ds) h =
    let more = I.statics_of_block e block (suc index) ds in
    ap (λ c. c ++ (I.number_if e block index d ++ more)) (class_none e block index d d.class h.0.0)
    ∙ ap (λ q. cond q (I.lower_filled e block index d (referred_bounds d.leaves)) [] ++ more) h.0.1
    ∙ block_none e block (suc index) ds h.1

statics_none :
    (e : Environment) (block : ℕ) (all : List (List Y.DeclaredVariable)) → Every (Every IsUnstatic) all →
    I.statics_code e block all ≡ []
statics_none e block [] h = refl
statics_none e block (ds ∷ rest) h =
    ap (λ c. c ++ I.statics_code e (suc block) rest) (block_none e block 0 ds h.0)
    ∙ statics_none e (suc block) rest h.1

start_is :
    (program : Y.Program) (m : Main) → HasStart program → IsMain program m →
    start_code (program_environment program) ≡ start_of m.head.number
start_is program m h main =
    ap (λ c. first_frame image_parts ++ (c ++ (I.main_called program.procedures ++ finish_code)))
    (statics_none (program_environment program) 0 program.variables h.variables)
    ∙ ap (λ ps. first_frame image_parts ++ (I.main_called ps ++ finish_code)) main

start_linked :
    MarkedOnce → (program : Y.Program) (m : Main) → IsLoadable program → HasStart program → IsMain program m →
    Linked (links_for program) (linked_code (code_for program)) 0 (start_of m.head.number)
start_linked once program m h start main =
    let e = program_environment program in
    (placed_as (start_of m.head.number) (start_is program m start main)
    (placed_front (start_code e) (raise_code ++ (routines_code e e.blocks ++ procedures_code e program.procedures))
    (code_placed once program h))).linked

pub start_stands :
    MarkedOnce → TableDiffers → (program : Y.Program) (m : Main) (r : Run) (first : List ℕ) → IsLoadable program →
    HasStart program → IsMain program m → length first ≡ memory_size → HasStaticData program first →
    IsStart (image_for program r) m.head.number first
start_stands once tables program m r first h start main bytes told =
    record {
      linked = start_linked once program m h start main;
      differ = tables.differ (table_of program) (tables.once program) start.table;
      bytes = bytes;
      told = told;
    }

-- ---- nor does the storage machine

made_none :
    (block variable : ℕ) (d : Y.DeclaredVariable) (class : Y.StorageClass) (s : State) → IsUnstaticClass class →
    K.static_made block variable d class s ≡ s
made_none block variable d Y.AutomaticClass s h = refl
made_none block variable d Y.ParameterClass s h = refl
made_none block variable d Y.StaticClass s h = absurd h
made_none block variable d Y.BasedClass s h = refl
made_none block variable d Y.ControlledClass s h = refl

block_same :
    (block variable : ℕ) (ds : List Y.DeclaredVariable) (s : State) → Every IsUnstatic ds →
    K.statics_of_block block variable ds s ≡ s
block_same block variable [] s h = refl
block_same block variable (d ∷ ds) s h =
    ap (K.statics_of_block block (variable + 1) ds) (made_none block variable d d.class s h.0.0)
    ∙ block_same block (variable + 1) ds s h.1

statics_same :
    (block : ℕ) (all : List (List Y.DeclaredVariable)) (s : State) → Every (Every IsUnstatic) all →
    statics_from block all s ≡ s
statics_same block [] s h = refl
statics_same block (ds ∷ rest) s h =
    ap (statics_from (block + 1) rest) (block_same block 0 ds s h.0) ∙ statics_same (block + 1) rest s h.1

-- ---- the main procedure

pub main_found : (program : Y.Program) (m : Main) → IsMain program m → IsProcedure program m.head m.body None
main_found program m main =
    let own : Y.Procedure = record { block = Y.BlockOf m.head m.body; parameters = []; result = None } in
    ap (procedure_numbered m.head.number) main
    ∙ ap (λ q. cond q (Some own) (procedure_numbered m.head.number m.others)) (eq-eqb m.head.number m.head.number refl)

main_level : (program : Y.Program) (m : Main) → HasMain program.procedures → IsMain program m → m.head.level ≡ 0
main_level program m h main = (subst HasMain main h).0

main_calls :
    MarkedOnce → (program : Y.Program) (m : Main) → IsLoadable program → HasStart program → IsMain program m →
    Linked (links_for program) (linked_code (code_for program)) call_index (CallTo (ProcedureEntry m.head.number) ∷ [])
main_calls once program m h start main =
    let l = back_of (first_frame image_parts) (main_called m.head.number) (start_linked once program m h start main) in
    first_of (CallTo (ProcedureEntry m.head.number)) finish_code (rest_of _ _ (rest_of _ _ (rest_of _ _ l)))

pub whole_stands :
    MarkedOnce → TableDiffers → (program : Y.Program) (m : Main) (r : Run) (made : Point → Point) (first : List ℕ) →
    IsLoadable program → HasStart program → IsMain program m → length first ≡ memory_size →
    HasStaticData program first → r.acts + 1 < 2 ^ 64 →
    AreMade (surroundings_of (image_for program r)) (linked_code (code_for program))
    (main_of (whole_for program m r made)) (start_point (image_for program r)) no_numbers →
    HasRoom (surroundings_of (image_for program r)) (start_point (image_for program r))
    (procedure_for program m.head m.body) (main_of (whole_for program m r made)).calling →
    IsWhole (whole_for program m r made) first
whole_stands once tables program m r made first h start main bytes told acts are room =
    record {
      start = start_stands once tables program m r first h start main bytes told;
      callee = callee_stands once program m.head m.body r
          (record {
            parent = 0;
            call = call_index;
            around = record { program = program; enter = entered program r.acts; turns = suc r.acts; line = 0 };
            made = made;
          })
          h (main_found program m main) (main_calls once program m h start main) acts;
      made = are;
      room = room;
      level = main_level program m h.well_formed.main main;
      procedures = main;
      statics = statics_same 0 program.variables (first_state r.input) start.variables;
    }
