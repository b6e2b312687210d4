-- The run of a program that is one procedure of scalars, given that its statements do what they mean: from the start of the
-- image through the entry of the procedure to its statements, and from their end to the end of the run.
use Rattle.std.proofs.Common.{◌≡◌, ℕ, suc, ◌+◌, ◌^◌, ◌<◌, ◌≤◌, List, [], ◌++◌, length, map, Option, None, Bool, true, false, refl, sym, ap, ◌∙◌, subst, arith, Some, ◌∷◌, ◌*◌}
use Rattle.std.specs.Prelude.{pos, slice_get}
use Rattle.std.proofs.lemmas.Bool.{eq-eqb}
use Rattle.rv_meaning.specs.declared.instr.Instr.{Instr}
use Rattle.rv_meaning.specs.Machine.{memory_size}
use Rattle.rv_meaning.specs.Tables.{TableSignature}
use Rattle.pli_language.specs.declared.condition.Condition.{Condition}
use Rattle.pli_typing.specs.TypedTree as Y
use Rattle.pli_meaning.specs.declared.outcome.End.TheVariants as E
use Rattle.pli_meaning.specs.World.{counted}
use Rattle.pli_meaning.specs.BasicValues.{BasicValue}
use Rattle.pli_meaning.specs.DeclaredShapes.{variables_of_block}
use Rattle.pli_meaning.specs.StorageState.{State, first_state, with_world, newest_ended}
use Rattle.pli_meaning.specs.Control.{Meaning, flow_on, left, give, stuck, looked, stored, given, choose, leaving, act, finish, ◌>>=◌, ◌>>◌}
use Rattle.pli_meaning.specs.Raising.{Around}
use Rattle.pli_meaning.specs.Making as K
use Rattle.pli_meaning.specs.Executing as M
use Rattle.pli_serving.specs.ServiceState.{Services, first_services}
use Rattle.pli_serving.specs.ServiceState as S
use Rattle.pli_serving.specs.Templates.{template_of}
use Rattle.pli_coding.specs.Assembly.{ProcedureEntry, ReturnPlace, Mark, size_of}
use Rattle.pli_coding.specs.SignatureTable.{table_of}
use Rattle.pli_coding.specs.Frames.{frame_end}
use Rattle.pli_headline.proofs.Storages.{storage, Stored}
use Rattle.pli_coding.specs.Environments.{none_taken}
use Rattle.pli_coding.specs.Allocating.{act_code}
use Rattle.pli_coding.specs.Entries.{frame_begun, variables_code}
use Rattle.pli_coding.specs.Statements.{stmts_code}
use Rattle.pli_coding.specs.Procedures.{finish_code, procedure_ended, procedure_in}
use Rattle.pli_coding.specs.Linking.{Links, place_of}
use Rattle.pli_headline.specs.ProvedSoFar.{AllPlain, Types, types_of, text_leaf, alone, AreConstants, Kind, main_names}
use Rattle.run_steps.specs.Engine.{Base, address, most_code}
use Rattle.run_steps.proofs.Linking.{size_append}
use Rattle.run_steps.specs.Items.{Linked, At}
use Rattle.run_steps.specs.Bodies.{Known, with'}
use Rattle.run_steps.proofs.Bodies.{zero_is, frame_is}
use Rattle.run_steps.proofs.Jumps.{front_of, back_of, rest_of, linked_at}
use Rattle.run_steps.specs.Temporaries.{nothing}
use Rattle.pli_headline.proofs.Activations.{only_activation, entered_length}
use Rattle.pli_headline.proofs.Serving.{Serving}
use Rattle.pli_headline.proofs.Acts.{act_piece}
use Rattle.pli_headline.proofs.Entered.{lone}
use Rattle.pli_headline.proofs.Statements.{Block, AllHold, IsEndMarkedOnce, Does, counted_all}
use Rattle.pli_headline.proofs.Variables.{data_place}
use Rattle.pli_headline.proofs.Gotos.{owner_number}
use Rattle.run_steps.specs.Reach.{Family, Aims, Comes, Closed, before, never}
use Rattle.run_steps.proofs.Reach.{before_closed, comes_on, onward, never_closed}
use Rattle.pli_headline.proofs.MainGround.{ground_of, no_contents}
use Rattle.pli_headline.proofs.MainBlock.{main_block, VariablesFit, text_few, types_fit, main_serials}
use Rattle.pli_headline.proofs.MainProcedure.{main_head, main_procedure, IsAlone, main_environment, main_words}
use Rattle.pli_headline.proofs.MainProcedure.{main_plain, declared_at, main_sizes, main_place, statics_meant}
use Rattle.pli_headline.proofs.MainProcedure.{main_held}
use Rattle.pli_headline.proofs.Holdings.{Counted}
use Rattle.pli_headline.proofs.TextStates.{KeepsText}
use Rattle.pli_headline.proofs.VariablePlaces.{room_of, number_place, room_before}
use Rattle.pli_headline.proofs.Scalars.{Declared, begin_text, Typed, kind_is, place_below, IsNumeric, scalar_limited, scalar_element, begin_texts}
use Rattle.pli_headline.proofs.PlainNumbers.{scalars_of, are_of, length_types, kind_held, number_for}
use Rattle.pli_headline.proofs.VariableServed.{Ready}
use Rattle.pli_headline.proofs.States.{Holds}
use Rattle.pli_headline.proofs.Marks.{Placed}
use Rattle.pli_headline.proofs.FirstFrame.{start_resume, start_family, start_ground, no_texts, finish_linked, zeros, started}
use Rattle.pli_headline.proofs.MainFrame.{main_frame, first_words}
use Rattle.pli_headline.proofs.Prologue.{begun}
use Rattle.pli_headline.proofs.MainStates.{begin_numbers, begin_values, begin_contents, main_state, first_served, served_living, scalars_served, scalars_living, scalars_hold, texts_hold, main_stored, main_services, main_nested, arrays_hold, text_arrays_hold}
use Rattle.pli_headline.proofs.VariablesMade.{variables_piece}
use Rattle.pli_headline.proofs.Leaving.{leaving_piece}
use Rattle.pli_headline.proofs.MainFlow.{inside, inside_closed, comes_left}
use Rattle.pli_headline.proofs.Entering.{entry_code, entered_piece}
use Rattle.pli_headline.proofs.TextScopes.{IsTextAt}
use Rattle.pli_headline.proofs.ArrayMeant.{HoldsArray}
use Rattle.pli_headline.proofs.ArrayScopes.{IsArrayAt}
use Rattle.pli_typing.specs.Signatures.{Bounds}
use Rattle.pli_headline.proofs.ArrayInitial.{numbers_of}
use Rattle.pli_headline.proofs.TextArrayMeant.{HoldsTexts}
use Rattle.pli_headline.proofs.TextArrayScopes.{IsTextArrayAt}
use Rattle.pli_headline.proofs.HeldRegisters.{held_few}
use Rattle.run_steps.specs.Giving.{Limits}

-- ---- in the meaning

-- what stands around the main procedure's statements
abbrev pub main_around : Y.Program → (k line : ℕ) → Around
main_around program k line =
    record { program = program; enter = M.entered program k; turns = suc k; line = line }

-- what the main procedure does once its variables are made
abbrev main_body : Y.Program → (k line : ℕ) → Y.Stmts → Meaning (Unit {0})
main_body program k line body =
    M.entry_act Y.ProcedureBlock >> M.block_list (main_around program k line) body false

-- the types of its variables
abbrev pub main_types : Y.Program → (block : ℕ) → Types
main_types program block = types_of (variables_of_block program block)

abbrev pub main_kind : Y.Program → (block : ℕ) → ℕ → Declared
main_kind program block = scalars_of (variables_of_block program block)

-- all of which is known
abbrev pub AllReady : Links → List Instr → (first : List ℕ) → Y.Program → (block : ℕ) → Type 0
AllReady links code first program block =
    (j : ℕ) → j < length (variables_of_block program block) → Ready links code first (table_of program) (main_kind program block j)

run_meant : (program : Y.Program) (block line : ℕ) (body : Y.Stmts) (input : List ℕ) (k : ℕ) → AllPlain program.variables → IsAlone program block line body → M.run program (suc k) k (first_state input) ≡ flow_on k (left true newest_ended (flow_on k (K.variables_made (main_around program k line) 0 (variables_of_block program block) k (main_state (main_kind program block) input 0)) (λ u. main_body program k line body))) (λ u. finish E.Finished)
unfolding M.run given M.entered M.block_run M.block_body M.block_variables_made K.parameters_bound leaving stored looked choose give ◌>>=◌ ◌>>◌
run_meant program block line body input k all alone =
    ap (λ ps. given (M.main_of ps) (λ main. stored (K.statics_from 0 program.variables) >> (M.entered program (suc k) (M.begun main.block 0) >> finish {R = Unit {0}} E.Finished)) stuck k (first_state input)) alone.are
    ∙ ap (λ s. flow_on k (M.entered program (suc k) (M.begun (main_procedure block line body).block 0) k (with_world (first_state input).world s)) (λ u. finish {R = Unit {0}} E.Finished)) (statics_meant 0 program.variables (first_state input) all)

-- ---- the block of the main procedure

abbrev pub main_count : Y.Program → (block : ℕ) → ℕ
main_count program block = length (variables_of_block program block)

-- what they take
abbrev pub main_room : Y.Program → (block : ℕ) → ℕ
main_room program block = room_of (main_sizes program block) (main_count program block)

pub main_data : (program : Y.Program) (block line : ℕ) (body : Y.Stmts) (j : ℕ) → AllPlain program.variables → IsAlone program block line body → j < main_count program block → main_room program block ≤ 2 ^ 20 → data_place (main_environment program block) (main_names program block) j ≡ number_place (main_sizes program block) j
main_data program block line body j all alone below few =
    let before' = room_before (main_sizes program block) j (main_count program block) below in
    let e = main_place program block line body j all alone (omega (arith, below)) (omega (arith, before', few)) in
    omega (arith, e)

-- where its frame ends
pub main_sized : (program : Y.Program) (block line : ℕ) (body : Y.Stmts) → AllPlain program.variables → IsAlone program block line body → main_room program block ≤ 2 ^ 20 → frame_end (main_environment program block).parts (main_environment program block).program block 0 ≡ 144 + main_room program block
main_sized program block line body all alone few =
    main_place program block line body (main_count program block) all alone (omega arith) few

-- what the services keep of its variables
abbrev pub main_served : (program : Y.Program) (block : ℕ) (body : Y.Stmts) (small' : main_words program block body ≤ most_code) (few : main_room program block ≤ 2 ^ 20) → ℕ → Option S.Living
main_served program block body small' few =
    first_served (table_of program) (main_kind program block) (main_frame (main_words program block body) (main_sizes program block) (main_count program block) small' few).at (main_count program block)

-- its texts and arrays have room
pub main_fit : (program : Y.Program) (block : ℕ) (body : Y.Stmts) (all : AllPlain program.variables) (small' : main_words program block body ≤ most_code) (few : main_room program block ≤ 2 ^ 20) → VariablesFit (main_frame (main_words program block body) (main_sizes program block) (main_count program block) small' few) program (main_served program block body small' few) (main_types program block)
main_fit program block body all small' few =
    let f = main_frame (main_words program block body) (main_sizes program block) (main_count program block) small' few in
    types_fit f program (main_served program block body small' few) (main_types program block)
    (λ j kind at below. served_living (table_of program) (main_kind program block) f.at (main_count program block) j below ∙ ap (λ k. Some (record { serial = suc j; owner = 1; signature = number_for (table_of program) k; at = f.at + number_place f.sizes j })) (kind_is (main_types program block) j at))
    (λ j. refl) few
    (λ j kind at. kind_held (variables_of_block program block) j kind (main_plain program block all) at)

abbrev pub block_of : (known : Condition → ℕ → Y.Block → ℕ → Type 0) (program : Y.Program) (block line : ℕ) (body : Y.Stmts) (first : List ℕ) (all : AllPlain program.variables) (alone : IsAlone program block line body) (small' : main_words program block body ≤ most_code) (few : main_room program block ≤ 2 ^ 20) → Block (main_environment program block) (main_names program block) (main_types program block)
block_of known program block line body first all alone small' few =
    main_block (main_frame (main_words program block body) (main_sizes program block) (main_count program block) small' few) first (main_environment program block) (main_names program block) (main_types program block) known refl (λ j. refl) refl (sym (length_types (variables_of_block program block)))
    (λ j kind at. declared_at (variables_of_block program block) j (main_plain program block all) at)
    (λ j below. main_data program block line body j all alone below few)
    (main_sized program block line body all alone few) (main_fit program block body all small' few)

-- what its statements have to do
abbrev pub BodyDoes : (known : Condition → ℕ → Y.Block → ℕ → Type 0) (program : Y.Program) (block line : ℕ) (body : Y.Stmts) (first : List ℕ) (all : AllPlain program.variables) (alone : IsAlone program block line body) (small' : main_words program block body ≤ most_code) → Links → List Instr → (k : ℕ) → Type 1
BodyDoes known program block line body first all alone small' links code k =
    (few : main_room program block ≤ 2 ^ 20) → Does (block_of known program block line body first all alone small' few) links code (suc k) (stmts_code (main_environment program block) none_taken body) (M.list (main_around program k line) body)

-- ---- from the statements to the end of the run

-- where the procedure goes on: to the end of the run
-- nothing is asked of serials
abbrev pub no_limits : Limits
no_limits = record { acts = 0; serials = 0 }

abbrev to_finish : List Instr → (k : ℕ) → Aims (Option BasicValue)
to_finish code k = before code (never no_limits) k (λ (u : Option BasicValue). finish {R = Unit {0}} E.Finished)

to_finish_closed : (code : List Instr) (k : ℕ) → Closed code (to_finish code k)
to_finish_closed code k =
    before_closed k (λ (u : Option BasicValue). finish {R = Unit {0}} E.Finished) (never_closed code no_limits)

statements_piece : {links : Links} {code : List Instr} {i : ℕ} {h t : ℕ → ℕ} (known : Condition → ℕ → Y.Block → ℕ
    → Type 0) (program : Y.Program) (block line : ℕ) (body : Y.Stmts) (first : List ℕ) (all :
    AllPlain program.variables) (alone : IsAlone program block line body) (small' :
    main_words program block body ≤ most_code) (few : main_room program block ≤ 2 ^ 20) (k : ℕ)
    → BodyDoes known program block line body first all alone small' links code k → 10 ≤ i
    → Linked links code i (stmts_code (main_environment program block) none_taken body
    ++ procedure_ended (main_environment program block) (main_head block line) (main_words program block body)
    (main_held program block body) None) → Linked links code start_resume finish_code → (s : State) → {v : Services}
    → (g : Family) → Serving k s v line
    → AllHold
    (lone (main_frame (main_words program block body) (main_sizes program block) (main_count program block) small'
    few).at known) (main_serials (main_served program block body small' few)) (storage v) (0 ∷ []) s
    (main_names program block) (main_types program block) (begin_values (main_kind program block))
    → ((b : Base)
    → At b i
    (Known (ground_of (main_frame (main_words program block body) (main_sizes program block)
    (main_count program block) small' few) first (begin_contents (main_kind program block))) v h t nothing b) (g b))
    → Comes code i g v (inside (to_finish code k) newest_ended)
    (M.block_list (main_around program k line) body false k s)
unfolding main_block M.block_list
statements_piece {links = links} {code = code} {i = i} {h = h} {t = t} known program block line body first all alone small' few k does' later l finish' s g serving holds at =
    let e = main_environment program block in
    let st = stmts_code e none_taken body in
    let en = procedure_ended e (main_head block line) (main_words program block body) (main_held program block body)
    None in
    let around = main_around program k line in
    let f = main_frame (main_words program block body) (main_sizes program block) (main_count program block) small' few in
    let most = held_few _ _ _ in
    let aims = inside (to_finish code k) newest_ended in
    let closed = inside_closed newest_ended (to_finish_closed code k) in
    (does' few).does {h = h} {t = t} closed line (begin_values (main_kind program block)) g k (front_of st en l) serving holds at
    (λ s' v' line' n' h' t' g' serving' all' stays' at'.
    let o = only_activation s'.activations v'.activations serving'.nested (entered_length s'.activations (0 ∷ []) all'.entered) in
    leaving_piece (never_closed code no_limits) e block line (main_words program block body)
    (main_held program block body) f g' (with_world s'.world (newest_ended s')) k o.0 most
    (omega (arith, small')) (omega arith) (back_of st en l) finish' serving'.world serving'.running
    serving'.allowed serving'.fits o.1
    (λ b. let p = (at' b).holds in record { pc = (at' b).pc; holds = record { services = p.body.services; regs = (frame_is p.body, (zero_is p.body, tt)); memory = (p.body.memory.resumes, p.body.memory.own) } }))
    (record {
      enough = omega arith;
      later = omega (arith, later);
      jumps = λ label among once. let none : false ≡ true = among in absurd (cc none);
      outs = tt;
      homes = tt;
      own = λ deep owned once. let no : true ≡ false = deep in absurd (cc no);
      returns = λ number owned once.
          let ended = back_of st en l in
          let o1 = ended.inside in
          let o2 = ended.small' in
          let own : block ≡ number = ap owner_number owned in
          record {
            at = i + size_of st;
            place = subst (λ u. place_of links (ReturnPlace u) ≡ 4 * (i + size_of st)) own (ended.has.0 (eq-eqb block block refl) (subst (IsEndMarkedOnce links) (sym own) once));
            near = omega (arith, o1, o2);
            later = omega (arith, later);
            leaves = λ s' v' g' a same running allowed fits only at'.
                leaving_piece (never_closed code no_limits) e block line (main_words program block body)
                (main_held program block body) f g' (with_world s'.world (newest_ended s')) k a most
                (omega (arith, small')) (omega arith) ended finish' same running allowed fits only at';
          };
    })

-- ---- from the start to the statements

serving_first : (table : List TableSignature) (kind : ℕ → Declared) (input : List ℕ) (at line count k : ℕ) → k + 1 < 2 ^ 64 → Serving k (main_state kind input count) (main_services table kind input at line count) line
serving_first table kind input at line count k fits =
    record {
      world = refl;
      running = refl;
      line_is = refl;
      input = refl;
      allowed = omega arith;
      fits = fits;
      nested = main_nested table kind input at line count;
      waiting = refl;
      places = (omega arith, tt);
    }

-- each variable holds what it begins with
main_inside : (program : Y.Program) (block j : ℕ) (kind : Kind) → slice_get (main_types program block) j ≡ Some kind → j < main_count program block
main_inside program block j kind at =
    let few = place_below (main_types program block) j kind at in
    let long = length_types (variables_of_block program block) in
    omega (arith, few, long)

main_holds : (links : Links) (code : List Instr) (first : List ℕ) (program : Y.Program) (block : ℕ) (input : List ℕ) → AllPlain program.variables → AllReady links code first program block → (j : ℕ) (b : Typed (main_types program block) j) → IsNumeric b.0 → Holds (main_state (main_kind program block) input (main_count program block)) (main_names program block) j (suc j) b.0 (begin_numbers (main_kind program block) j)
main_holds links code first program block input all ready j b numeric =
    let kind = main_kind program block in
    let same = kind_is (main_types program block) j b.1 in
    let inside = main_inside program block j (alone b.0) b.1 in
    let held = kind_held (variables_of_block program block) j (alone b.0) (main_plain program block all) b.1 in
    scalars_hold kind input program block (main_count program block) j b.0 inside same (scalar_limited b.0 held numeric)
    (subst (λ (k : Kind). AreConstants k.type (kind j).initial) same (ready j inside).begins)

main_texts_hold : (links : Links) (code : List Instr) (first : List ℕ) (program : Y.Program) (block : ℕ) (input : List ℕ) → AllPlain program.variables → AllReady links code first program block → (j : ℕ) (varying : Bool) (most : ℕ) → IsTextAt (main_types program block) j varying most → KeepsText (main_state (main_kind program block) input (main_count program block)) (main_names program block) j (suc j) varying most (begin_text (main_kind program block j).kind.type (main_kind program block j).initial)
main_texts_hold links code first program block input all ready j varying most at =
    let kind = main_kind program block in
    let type = text_leaf varying most in
    let same = kind_is (main_types program block) j at in
    let inside = main_inside program block j (alone type) at in
    texts_hold kind input program block (main_count program block) j varying most inside same
    (text_few varying most (kind_held (variables_of_block program block) j (alone type) (main_plain program block all) at))
    (subst (λ (k : Kind). AreConstants k.type (kind j).initial) same (ready j inside).begins)

main_arrays_hold : (links : Links) (code : List Instr) (first : List ℕ) (program : Y.Program) (block : ℕ) (input : List ℕ) → AllPlain program.variables → AllReady links code first program block → (j : ℕ) (type : Y.LeafType) (b : Bounds) (bs : List Bounds) → IsArrayAt (main_types program block) j type b bs → HoldsArray (main_state (main_kind program block) input (main_count program block)) (main_names program block) j (suc j) type (b ∷ bs) (numbers_of (main_kind program block j).initial)
main_arrays_hold links code first program block input all ready j type b bs at =
    let kind = main_kind program block in
    let is : Kind = record { type = type; bounds = b ∷ bs } in
    let same = kind_is (main_types program block) j at.0 in
    let inside = main_inside program block j is at.0 in
    let held = kind_held (variables_of_block program block) j is (main_plain program block all) at.0 in
    let begins = subst (λ (k : Kind). AreConstants k.type (kind j).initial) same (ready j inside).begins in
    arrays_hold kind input program block (main_count program block) j type (b ∷ bs) inside same (scalar_element type held.0 at.1) begins

main_text_arrays_hold : (links : Links) (code : List Instr) (first : List ℕ) (program : Y.Program) (block : ℕ) (input : List ℕ) → AllPlain program.variables → AllReady links code first program block → (j : ℕ) (varying : Bool) (most : ℕ) (b : Bounds) (bs : List Bounds) → IsTextArrayAt (main_types program block) j varying most b bs → HoldsTexts (main_state (main_kind program block) input (main_count program block)) (main_names program block) j (suc j) varying most (b ∷ bs) (begin_texts (main_kind program block j).kind.type (main_kind program block j).initial)
main_text_arrays_hold links code first program block input all ready j varying most b bs at =
    let kind = main_kind program block in
    let type = text_leaf varying most in
    let is : Kind = record { type = type; bounds = b ∷ bs } in
    let same = kind_is (main_types program block) j at in
    let inside = main_inside program block j is at in
    let held = kind_held (variables_of_block program block) j is (main_plain program block all) at in
    let begins = subst (λ (k : Kind). AreConstants k.type (kind j).initial) same (ready j inside).begins in
    subst (λ (k : Kind). HoldsTexts (main_state kind input (main_count program block)) (main_names program block) j (suc j) varying most (b ∷ bs) (begin_texts k.type (kind j).initial)) (sym same)
    (text_arrays_hold kind input program block (main_count program block) j varying most (b ∷ bs) inside same (text_few varying most held.0) begins)

main_hold : (known : Condition → ℕ → Y.Block → ℕ → Type 0) (links : Links) (code : List Instr) (first : List ℕ) (program : Y.Program) (block : ℕ) (input : List ℕ) (frame at line : ℕ) → at ≡ frame → AllPlain program.variables → AllReady links code first program block → AllHold (lone frame known) (main_serials (first_served (table_of program) (main_kind program block) frame (main_count program block))) (storage (main_services (table_of program) (main_kind program block) input at line (main_count program block))) (0 ∷ []) (main_state (main_kind program block) input (main_count program block)) (main_names program block) (main_types program block) (begin_values (main_kind program block))
main_hold known links code first program block input frame at line same all ready =
    record {
      numbers = λ j b numeric. main_holds links code first program block input all ready j b numeric;
      texts = λ j varying most at. main_texts_hold links code first program block input all ready j varying most at;
      arrays = λ j type b bs at. main_arrays_hold links code first program block input all ready j type b bs at;
      text_arrays = λ j varying most b bs at. main_text_arrays_hold links code first program block input all ready j varying most b bs at;
      entered = refl;
      framed = ap (λ u. u ∷ []) same;
      kinds = refl;
      units = (tt, tt);
      aside = record { all = tt };
      stored =
          let mk = main_kind program block in
          let mc = main_count program block in
          subst (λ u. Stored (main_serials (first_served (table_of program) mk u mc)) (map template_of (table_of program)) (scalars_served (table_of program) mk at mc) mc 1 (scalars_living mk mc) mc (main_names program block) (main_types program block)) same
          (main_stored program block (main_types program block) mk at mc (λ j kind at'. main_inside program block j kind at') (λ j below. (ready j below).numbered));
    }

-- behind the variables: the act of the entry, and the statements
body_piece : {links : Links} {code : List Instr} {i : ℕ} {h t : ℕ → ℕ} (known : Condition → ℕ → Y.Block → ℕ
    → Type 0) (program : Y.Program) (block line : ℕ) (body : Y.Stmts) (first input : List ℕ) (all :
    AllPlain program.variables) (alone : IsAlone program block line body) (small' :
    main_words program block body ≤ most_code) (few : main_room program block ≤ 2 ^ 20) (k : ℕ)
    → AllReady links code first program block → line < 2 ^ 31 → k + 1 < 2 ^ 64
    → BodyDoes known program block line body first all alone small' links code k → 10 ≤ i
    → Linked links code i (act_code line)
    → Linked links code (i + size_of (act_code line)) (stmts_code (main_environment program block) none_taken body
    ++ procedure_ended (main_environment program block) (main_head block line) (main_words program block body)
    (main_held program block body) None) → Linked links code start_resume finish_code → (at : ℕ)
    → at ≡ (main_frame (main_words program block body) (main_sizes program block) (main_count program block) small'
    few).at → (g : Family)
    → ((b : Base)
    → At b i
    (Known (ground_of (main_frame (main_words program block body) (main_sizes program block)
    (main_count program block) small' few) first (begin_contents (main_kind program block)))
    (main_services (table_of program) (main_kind program block) input at line (main_count program block)) h t nothing
    b) (g b))
    → Comes code i g (main_services (table_of program) (main_kind program block) input at line
    (main_count program block)) (inside (to_finish code k) newest_ended)
    (main_body program k line body k (main_state (main_kind program block) input (main_count program block)))
unfolding M.entry_act ◌>>◌
body_piece {links = links} {code = code} known program block line body first input all alone small' few k ready low fits does' later l behind finish' at same g there =
    let n = main_count program block in
    let s = main_state (main_kind program block) input n in
    let next' : Unit {0} → Meaning (Unit {0}) = λ u. M.block_list (main_around program k line) body false in
    let closed = inside_closed newest_ended (to_finish_closed code k) in
    comes_on k (act counted k s) next'
    (act_piece (before_closed k next' closed) g line line k low l (serving_first (table_of program) (main_kind program block) input at line n k fits) there (λ g' serving' there'.
    statements_piece known program block line body first all alone small' few k does' (omega (arith, later)) behind finish' (with_world (counted s.world) s) g' serving'
    (counted_all (counted s.world) (main_hold known links code first program block input (main_frame (main_words program block body) (main_sizes program block) (main_count program block) small' few).at at line same all ready)) there'))

-- from the entry of the procedure
procedure_piece : {links : Links} {code : List Instr} (known : Condition → ℕ → Y.Block → ℕ → Type 0) (program : Y.Program) (block line : ℕ) (body : Y.Stmts) (first input : List ℕ) (all : AllPlain program.variables) (alone : IsAlone program block line body) (small' : main_words program block body ≤ most_code) (k entry : ℕ) → AllReady links code first program block → line < 2 ^ 31 → k + 1 < 2 ^ 64 → length first ≡ memory_size → 10 ≤ entry → BodyDoes known program block line body first all alone small' links code k → Linked links code entry (procedure_in (main_environment program block) (main_head block line) body [] None) → Linked links code start_resume finish_code → (g : Family) → ((b : Base) → At b entry (Known (start_ground first) (first_services (table_of program) input) zeros zeros (with' 1 (λ b'. address b' start_resume) no_texts) b) (g b)) → Comes code entry g (first_services (table_of program) input) (inside (to_finish code k) newest_ended) (flow_on k (K.variables_made (main_around program k line) 0 (variables_of_block program block) k (main_state (main_kind program block) input 0)) (λ u. main_body program k line body))
procedure_piece {links} {code} known program block line body first input all alone small' k entry ready low fits len later does' l finish' g at =
    let e = main_environment program block in
    let words = main_words program block body in
    let n = main_count program block in
    let table = table_of program in
    let v = first_services table input in
    let few : room_of (main_sizes program block) 0 ≤ 2 ^ 20 = omega arith in
    let f = main_frame words (main_sizes program block) 0 small' few in
    let t = first_words first f.at in
    let held = main_held program block body in
    let fb = frame_begun words 0 0 (Some held) in
    let ec = entry_code line in
    let vars = variables_code e line in
    let ac = act_code line in
    let pb = fb ++ (ec ++ (vars ++ ac)) in
    let behind = stmts_code e none_taken body ++ procedure_ended e (main_head block line) words held None in
    let mark : entry + 0 ≡ entry = omega arith in
    let l1 = linked_at entry (pb ++ behind) mark (rest_of (Mark (ProcedureEntry block)) (pb ++ behind) l) in
    let lp = front_of pb behind l1 in
    let lf = front_of fb (ec ++ (vars ++ ac)) lp in
    let l2 = back_of fb (ec ++ (vars ++ ac)) lp in
    let le = front_of ec (vars ++ ac) l2 in
    let l3 = back_of ec (vars ++ ac) l2 in
    let lv = front_of vars ac l3 in
    let la = back_of vars ac l3 in
    let lr = back_of pb behind l1 in
    let e1 = size_append fb (ec ++ (vars ++ ac)) in
    let e2 = size_append ec (vars ++ ac) in
    let e3 = size_append vars ac in
    let there : entry + size_of fb + size_of ec + size_of vars + size_of ac ≡ entry + size_of pb = omega (arith, e1, e2, e3) in
    let lb = linked_at (entry + size_of fb + size_of ec + size_of vars + size_of ac) behind (sym there) lr in
    let next' : Unit {0} → Meaning (Unit {0}) = λ u. main_body program k line body in
    let closed = inside_closed newest_ended (to_finish_closed code k) in
    comes_on k (K.variables_made (main_around program k line) 0 (variables_of_block program block) k (main_state (main_kind program block) input 0)) next'
    (onward (before_closed k next' closed) (begun entry first v f held g (held_few program _ body) refl
    (omega arith) refl len lf at) (λ g1 at1.
    onward (before_closed k next' closed) (entered_piece (entry + size_of fb) f first (λ j. Counted (pos 0)) table (main_kind program block) input line g1 low le at1) (λ g2 at2.
    variables_piece (before_closed k next' closed) (main_around program k line) program block line words small' first input (main_kind program block) k n zeros t fits
    (λ j below room. main_place program block line body j all alone below room)
    ready
    (variables_of_block program block) 0 (entry + size_of fb + size_of ec) (are_of (variables_of_block program block) (main_plain program block all)) (omega arith) few g2 lv
    (λ b. let o = (at2 b).holds in record {
      pc = (at2 b).pc;
      holds = record { body = record { services = o.body.services; registers = o.body.registers; bytes = o.body.bytes; memory = no_contents f first (λ j. Counted (pos 0)) (begin_contents (main_kind program block)) t b _ refl o.body.memory }; regs = o.regs };
    })
    (λ enough g3 at3. body_piece known program block line body first input all alone small' enough k ready low fits does' (omega (arith, later)) la lb finish' f.at refl g3 at3))))

-- the whole run
pub main_runs : {links : Links} {code : List Instr} (known : Condition → ℕ → Y.Block → ℕ → Type 0) (program : Y.Program)
    (block line : ℕ) (body : Y.Stmts) (first input : List ℕ) (all : AllPlain program.variables)
    (alone : IsAlone program block line body) (small' : main_words program block body ≤ most_code)
    (k : ℕ) → AllReady links code first program block → line < 2 ^ 31 → k + 1 < 2 ^ 64 → length first ≡ memory_size →
    Placed program block line body links code → BodyDoes known program block line body first all alone small' links code
    k → Comes code 0 (start_family first (first_services (table_of program) input)) (first_services
    (table_of program) input) (never no_limits) (M.run program (suc k) k (first_state input))
main_runs {links} {code} known program block line body first input all alone small' k ready low fits len placed does' =
    let v = first_services (table_of program) input in
    let behind = placed.behind in
    let room = placed.procedure.inside in
    let long = placed.procedure.small' in
    let finish' = finish_linked block placed.start in
    let flow = flow_on k (K.variables_made (main_around program k line) 0 (variables_of_block program block) k (main_state (main_kind program block) input 0)) (λ u. main_body program k line body) in
    let next' : Option BasicValue → Meaning (Unit {0}) = λ u. finish E.Finished in
    subst (Comes code 0 (start_family first v) v (never no_limits)) (sym
    (run_meant program block line body input k all alone))
    (onward (never_closed code no_limits) (started first v block placed.entry len placed.start placed.entry_is behind
    (omega (arith, room, long))) (λ g at.
    comes_on k (left true newest_ended flow) next'
    (comes_left newest_ended flow
    (procedure_piece known program block line body first input all alone small' k placed.entry ready low fits len (omega (arith, behind)) does' placed.procedure finish' g at))))
