-- The statements of the main procedure do what they mean, where the constant bytes that its code names stand in the first memory.
use Rattle.std.proofs.Common.{◌≡◌, ℕ, ◌+◌, ◌*◌, ◌^◌, ◌<◌, ◌≤◌, List, [], ◌++◌, length, Option, inl, true, false, refl, sym, ap, ◌∙◌, subst, arith, append-nil, inl}
use Rattle.rv_meaning.specs.declared.instr.Instr.{Instr}
use Rattle.pli_language.specs.declared.condition.Condition.{Condition}
use Rattle.pli_typing.specs.TypedTree as Y
use Rattle.pli_meaning.specs.Control.{Label, is_among}
use Rattle.pli_meaning.specs.Raising.{Around}
use Rattle.pli_meaning.specs.Executing as M
use Rattle.pli_meaning.specs.Executing.{labels_in}
use Rattle.pli_coding.specs.Frames.{frame_end}
use Rattle.pli_coding.specs.Environments.{BlockPlace, Environment, none_taken}
use Rattle.pli_coding.specs.Images.{blocks_among}
use Rattle.pli_coding.specs.Statements.{stmts_code}
use Rattle.pli_coding.specs.Linking.{Links}
use Rattle.pli_headline.specs.ProvedSoFar.{Names, Types, main_labels, main_outer, AreProvedStatements, AllJumpAround, AllCallAmong, main_names, inner_bytes}
use Rattle.pli_headline.proofs.Raising.{Routines}
use Rattle.pli_headline.proofs.Variables.{data_place, HasTypes, level_of}
use Rattle.pli_headline.proofs.Statements.{Standing, Does, IsKnown}
use Rattle.pli_headline.proofs.MainGround.{Frame}
use Rattle.pli_serving.specs.ServiceState as S
use Rattle.pli_headline.proofs.MainBlock.{main_block, VariablesFit}
use Rattle.pli_headline.proofs.VariablePlaces.{room_of, number_place}
use Rattle.pli_headline.proofs.StandingBytes.{DataStand, constants_stand}
use Rattle.pli_headline.proofs.InnerLevels.{IsAmong}
use Rattle.pli_headline.specs.InnerWords.{body_words, all_inner_words}
use Rattle.pli_headline.proofs.BeginMeant.{Entering}
use Rattle.pli_headline.proofs.Gotos.{LabelsStand}
use Rattle.pli_headline.proofs.MainOutlets.{Covers}
use Rattle.pli_headline.proofs.Narrowing.{narrows_self}
use Rattle.pli_headline.proofs.ProvedStatements.{body_does}
use Rattle.pli_headline.proofs.UnitStanding.{program_around, UnitStands, Tells}
use Rattle.pli_headline.proofs.InnerUnits.{Done}
use Rattle.pli_headline.proofs.MainProcedure.{main_environment, IsAlone}
use Rattle.pli_headline.proofs.PlainInside.{DeclarePlain}

-- the main procedure's statements, in its frame
pub main_does : {served : ℕ → Option S.Living} (f : Frame) (first : List ℕ) (e : Environment) (block : Names)
    (types : Types) (units : Condition → ℕ → Y.Block → ℕ → Type 0) (names : block.program ≡ e.program)
    (outer : (j : ℕ) → level_of block j ≡ 0) (outermost : e.level ≡ 0) (count : f.count ≡ length types)
    (declared : HasTypes e block types) (placed : (j : ℕ) → j < f.count
    → data_place e block j ≡ number_place f.sizes j)
    (sized : frame_end e.parts e.program e.block 0 ≡ 144 + room_of f.sizes f.count)
    (texts : VariablesFit f e.program served types) (links : Links) (code : List Instr)
    (routines : Routines links code) (programmed : IsKnown e) (around : Around) (same : around.program ≡ e.program)
    (body : Y.Stmts) → {all : List (ℕ × Label)} {procedure : ℕ} (may : List ℕ) (bound : ℕ)
    → LabelsStand e links all procedure true → e.block ≡ procedure
    → Covers (main_labels e.program.procedures) (labels_in body) → AreProvedStatements block types body
    → AllJumpAround e.block 0 all e.blocks (main_outer procedure e.program.procedures) [] (labels_in body) body
    → body_words body ≤ f.words → f.at + 144 + room_of f.sizes f.count + 4 * all_inner_words body + 700 * 101 + 2020000
    ≤ 14 * 2 ^ 20 → inner_bytes e.program body ≤ 1000000 → DeclarePlain e.program body → {more : ℕ}
    → Entering e.program around more → more ≤ bound
    → ((b : BlockPlace) → IsAmong b (blocks_among body) → IsAmong b e.blocks) → AllCallAmong e.program may true 0 body
    → Done e block types all procedure bound links code may
    → Tells e block types all procedure may links code f.at units
    → ((c : Condition) (u : Y.Block) (at : ℕ) → UnitStands
    (program_around e) block types all procedure may links code c u at → units c f.at u at)
    → DataStand links code first → Does (main_block f first e block types units names outer outermost count declared
    placed sized texts) links code around.turns (stmts_code e none_taken body) (M.list around body)
unfolding main_block
main_does f first e block types units names outer outermost count declared placed sized texts links code routines programmed around same body {all} {procedure} may bound named own covers are jumps room space few bare entering least known calls can tells makes stands =
    let bl = main_block f first e block types units names outer outermost count declared placed sized texts in
    let standing : Standing bl links code = record {
      raises = routines;
      constants = λ n. constants_stand links code first (bl.ground n) (λ t b m o k below. o.statics k below) stands;
      filled = λ owned. bl.sized outermost;
      known = programmed;
    } in
    body_does bl links code standing around same {small = false} {taken = 0} named body are (subst (λ n. AllJumpAround e.block n all e.blocks (main_outer procedure e.program.procedures) [] (labels_in body ++ []) body) (sym outermost) (subst (λ ls. AllJumpAround e.block 0 all e.blocks (main_outer procedure e.program.procedures) [] ls body) (sym (append-nil (labels_in body))) jumps)) (omega (arith, room))
    ((omega (arith, space, outermost), omega (arith, few)), omega arith) bare entering least known calls (record { narrows = narrows_self block types (λ j kind at. outer j); calls = can.0; signals = can.1; tells = tells; makes = λ same' c u at k. makes c u at k; narrow = (let words = f.inside in let above = f.above_statics in omega (arith, words, above)); ends = λ may no. let apart : true ≡ false = no in absurd (cc apart); mains = inl (outermost, (own, subst (λ ls. Covers (main_labels e.program.procedures) ls) (sym (append-nil (labels_in body))) covers)) })

-- a frame of level 0 is the outermost
pub main_body_does : {served : ℕ → Option S.Living} (program : Y.Program) (block line : ℕ) (body : Y.Stmts)
    → IsAlone program block line body → (f : Frame) (first : List ℕ) (types : Types)
    (units : Condition → ℕ → Y.Block → ℕ → Type 0) (count : f.count ≡ length types)
    (declared : HasTypes (main_environment program block) (main_names program block) types)
    (placed : (j : ℕ) → j < f.count → data_place (main_environment program block)
    (main_names program block) j ≡ number_place f.sizes j)
    (sized : frame_end (main_environment program block).parts (main_environment program block).program
    (main_environment program block).block 0 ≡ 144 + room_of f.sizes f.count)
    (texts : VariablesFit f program served types) (links : Links) (code : List Instr) (routines : Routines links code)
    (programmed : IsKnown (main_environment program block)) (around : Around) → around.program ≡ program
    → {all : List (ℕ × Label)} (may : List ℕ) (bound : ℕ)
    → LabelsStand (main_environment program block) links all block true
    → AreProvedStatements (main_names program block) types body
    → AllJumpAround block 0 all (main_environment program block).blocks (main_outer block program.procedures) []
    (labels_in body) body → body_words body ≤ f.words
    → f.at + 144 + room_of f.sizes f.count + 4 * all_inner_words body + 700 * 101 + 2020000 ≤ 14 * 2 ^ 20
    → inner_bytes program body ≤ 1000000 → DeclarePlain program body → {more : ℕ} → Entering program around more
    → more ≤ bound → ((b : BlockPlace) → IsAmong b (blocks_among body)
    → IsAmong b (main_environment program block).blocks) → AllCallAmong program may true 0 body
    → Done (main_environment program block) (main_names program block) types all block bound links code may
    → Tells (main_environment program block) (main_names program block) types all block may links code f.at units
    → ((c : Condition) (u : Y.Block) (at : ℕ) → UnitStands (program_around (main_environment program block))
    (main_names program block) types all block may links code c u at → units c f.at u at) → DataStand links code first
    → Does (main_block f first (main_environment program block) (main_names program block) types units refl
    (λ j. refl) refl count declared placed sized texts) links code around.turns
    (stmts_code (main_environment program block) none_taken body) (M.list around body)
main_body_does program block line body alone f first types units count declared placed sized texts links code routines programmed around same may bound named are jumps room space few bare entering least known calls can tells makes stands =
    main_does f first (main_environment program block) (main_names program block) types units refl (λ j. refl) refl count declared placed sized texts links code routines programmed around same body may bound named refl
    (λ label among. sym (ap (λ (ps : List Y.Procedure). is_among label (main_labels ps)) alone.are) ∙ among)
    are jumps room space few bare entering least known calls can tells makes stands
