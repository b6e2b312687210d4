-- Units of the main procedure that may be in force: what is proved of them, and where their code stands.
use Rattle.std.proofs.Common.{◌≡◌, ℕ, ◌+◌, ◌*◌, ◌≤◌, List, [], ◌∷◌, ◌++◌, false, refl, sym, ap, ◌∙◌, Some}
use Rattle.std.specs.Prelude.{max}
use Rattle.rv_meaning.specs.declared.instr.Instr.{Instr}
use Rattle.pli_language.specs.declared.condition.Condition.{Condition}
use Rattle.pli_typing.specs.TypedTree as Y
use Rattle.pli_meaning.specs.Control.{Label}
use Rattle.pli_meaning.specs.DeclaredShapes.{variables_of_block}
use Rattle.pli_meaning.specs.Executing.{labels_in}
use Rattle.pli_coding.specs.Assembly.{Code}
use Rattle.pli_coding.specs.Allocating.{act_code}
use Rattle.pli_coding.specs.Entries.{frame_begun, entered_without_texts}
use Rattle.pli_coding.specs.Environments.{BlockPlace, UnitOwner, Environment, in_frame, owned_by, Taken, none_taken}
use Rattle.pli_coding.specs.Environments.{most_taken}
use Rattle.pli_coding.specs.Images.{blocks_among}
use Rattle.pli_coding.specs.Statements.{unit_environment, unit_variables, unit_takes, unit_mark, unit_left}
use Rattle.pli_coding.specs.Statements.{stmts_take, stmts_code, held_with}
use Rattle.pli_coding.specs.Linking.{Links}
use Rattle.pli_headline.specs.ProvedSoFar.{Types, main_outer, times, IsLine, IsUnitBody, AreProvedStatements}
use Rattle.pli_headline.specs.ProvedSoFar.{AllJumpAround, AllCallAmong, ArePlain, Names, names_in, types_in}
use Rattle.pli_headline.specs.ProvedSoFar.{unit_declares, inner_bytes, bytes_of}
use Rattle.pli_headline.specs.EndUnits.{HasUnitFor}
use Rattle.pli_headline.specs.InnerWords.{all_inner_words}
use Rattle.run_steps.specs.Items.{Linked}
use Rattle.pli_headline.proofs.InnerLevels.{IsAmong}
use Rattle.pli_headline.proofs.Statements.{IsMarkedOnce}
use Rattle.pli_headline.proofs.Gotos.{LabelsStand}
use Rattle.pli_headline.proofs.Declares.{code_joined}
use Rattle.pli_headline.proofs.DeclaredBegins.{none_taken_for}
use Rattle.pli_headline.proofs.UnitRuns.{unit_with, unit_made}
use Rattle.pli_headline.proofs.OnUnits.{unit_by}
use Rattle.pli_headline.proofs.PlainInside.{DeclarePlain}
use Rattle.pli_headline.specs.InnerWords.{body_words}

-- the program around a block, whatever the block
abbrev pub program_around : Environment → Environment
program_around e = owned_by UnitOwner (in_frame 0 0 e)

-- the words of its temporaries
abbrev pub taken_by_unit : Y.BlockKind → (body : Taken) → Taken
taken_by_unit Y.SimpleUnit body = body
taken_by_unit _ body = most_taken none_taken body

pub record UnitStands (e : Environment) (block : Names) (types : Types) (all : List (ℕ × Label)) (procedure : ℕ) (may : List ℕ) (links : Links) (code : List Instr) (c : Condition) (u : Y.Block) (at : ℕ) : Type 0 where
  pub condition : HasUnitFor e.program c
  pub head : Y.BlockHead
  pub body : Y.Stmts
  pub is : u ≡ Y.BlockOf head body
  pub what : IsUnitBody head.kind body
  pub level : head.level ≡ 1
  pub line : IsLine head.line
  pub proved : AreProvedStatements (names_in block types head (unit_declares e.program head head.kind)) (types_in types (unit_declares e.program head head.kind)) body
  pub jumps : AllJumpAround head.number head.level all e.blocks (main_outer procedure e.program.procedures) (main_outer procedure e.program.procedures ∷ []) (labels_in body) body
  pub declares : ArePlain (unit_declares e.program head head.kind)
  pub inside : DeclarePlain e.program body
  pub calls : AllCallAmong e.program may false 0 body
  pub few : 4 * (body_words body + all_inner_words body) +
      (bytes_of (unit_declares e.program head head.kind) + inner_bytes e.program body) ≤ 3200
  pub once : (number : ℕ) (label : Label) → times number label all ≡ 1 → IsMarkedOnce links number label
  pub labels : head.kind ≡ Y.UnitBlock → LabelsStand (unit_environment head e) links all procedure false
  pub blocks : (b : BlockPlace) → IsAmong b (blocks_among body) → IsAmong b e.blocks
  pub index : ℕ
  pub at_is : at ≡ 4 * index
  pub later : 19 ≤ index
  pub linked :
      Linked links code index
      (unit_with (taken_by_unit head.kind (stmts_take none_taken body)).words
      (held_with e.program (taken_by_unit head.kind (stmts_take none_taken body)).registers body) head.line
      (unit_made e head head.kind)
      (stmts_code (unit_environment head e) none_taken body) (unit_mark head head.kind))

-- a block's units are such, in the frame of the main procedure
abbrev pub Tells : (e : Environment) (block : Names) (types : Types) (all : List (ℕ × Label)) (procedure : ℕ) (may : List ℕ) (links : Links) (code : List Instr) (base : ℕ) (known : Condition → ℕ → Y.Block → ℕ → Type 0) → Type 0
Tells e block types all procedure may links code base known =
    (c : Condition) (frame : ℕ) (u : Y.Block) (at : ℕ) → known c frame u at → (frame ≡ base) × UnitStands (program_around e) block types all procedure may links code c u at

-- ---- the code of one

abbrev code_with : Y.Program → Y.BlockHead → Y.Stmts → (made statements mark : Code) → (taken : Taken) (level : ℕ)
    → Code
code_with program head body made statements mark taken level =
    frame_begun taken.words level 0 (Some (held_with program taken.registers body))
    ++ (entered_without_texts 2 head.line
    ++ (made ++ (act_code head.line ++ (statements ++
    (mark ++ unit_left taken.words (held_with program taken.registers body))))))

-- no words are needed for its variables
taken_is : (e : Environment) (head : Y.BlockHead) (kind : Y.BlockKind) (body : Y.Stmts)
    → ArePlain (unit_declares e.program head kind)
    → unit_takes e.program head kind body ≡ taken_by_unit kind (stmts_take none_taken body)
taken_is e head Y.SimpleUnit body are = refl
taken_is e head Y.UnitBlock body are = ap (λ t. most_taken t (stmts_take none_taken body))
    (none_taken_for (variables_of_block e.program head.number) are)
taken_is e head Y.ProcedureBlock body are = ap (λ t. most_taken t (stmts_take none_taken body))
    (none_taken_for (variables_of_block e.program head.number) are)
taken_is e head Y.BeginBlock body are = ap (λ t. most_taken t (stmts_take none_taken body))
    (none_taken_for (variables_of_block e.program head.number) are)

made_is : (e : Environment) (head : Y.BlockHead) (kind : Y.BlockKind) → unit_variables (unit_environment head e) head kind ≡ unit_made e head kind
made_is e head Y.SimpleUnit = refl
made_is e head Y.UnitBlock = refl
made_is e head Y.ProcedureBlock = refl
made_is e head Y.BeginBlock = refl

joined : (frame enter made act statements ended : Code) → frame ++ (enter ++ (made ++ (act ++ (statements ++ ended)))) ≡ frame ++ (enter ++ ((made ++ (act ++ statements)) ++ ended))
joined frame enter made act statements ended =
    ap (λ c. frame ++ (enter ++ c)) (ap (λ c. made ++ c) (sym (code_joined act statements ended)) ∙ sym (code_joined made (act ++ statements) ended))

pub unit_is : (e : Environment) (head : Y.BlockHead) (body : Y.Stmts)
    → ArePlain (unit_declares e.program head head.kind) → head.level ≡ 1 → unit_by e head body head.kind head.level
    ≡ unit_with (taken_by_unit head.kind (stmts_take none_taken body)).words
    (held_with e.program (taken_by_unit head.kind (stmts_take none_taken body)).registers body) head.line
    (unit_made e head head.kind)
    (stmts_code (unit_environment head e) none_taken body) (unit_mark head head.kind)
unit_is e head body are level =
    let st = stmts_code (unit_environment head e) none_taken body in
    let mark = unit_mark head head.kind in
    let made = unit_made e head head.kind in
    let taken = taken_by_unit head.kind (stmts_take none_taken body) in
    let held = held_with e.program taken.registers body in
    ap (λ t. code_with e.program head body (unit_variables (unit_environment head e) head head.kind) st mark t
    head.level) (taken_is e head head.kind body are)
    ∙ ap (λ c. code_with e.program head body c st mark taken head.level) (made_is e head head.kind)
    ∙ ap (λ l. code_with e.program head body made st mark taken l) level
    ∙ joined (frame_begun taken.words 1 0 (Some held)) (entered_without_texts 2 head.line) made (act_code head.line) st
    (mark ++ unit_left taken.words held)
