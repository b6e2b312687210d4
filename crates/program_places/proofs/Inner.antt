-- The lists of BEGIN blocks and of on-units are placed where their statements are.
use Rattle.std.proofs.Common.{◌≡◌, ℕ, ◌+◌, List, [], ◌∷◌, ◌++◌, Some, None, refl, sym, ap, arith}
use Rattle.std.proofs.lemmas.List.{append_assoc}
use Rattle.rv_meaning.specs.declared.instr.Instr.{Instr}
use Rattle.pli_typing.specs.TypedTree as Y
use Rattle.pli_meaning.specs.Raising.{Around}
use Rattle.pli_coding.specs.Allocating.{act_code}
use Rattle.pli_coding.specs.Assembly.{Code, JumpAhead, OffsetAhead, size_of}
use Rattle.pli_coding.specs.Entries.{block_left, entered_without_texts, frame_begun, frame_ended, variables_code}
use Rattle.pli_coding.specs.Environments.{Environment, Taken, none_taken}
use Rattle.pli_coding.specs.Instructions.{move, service}
use Rattle.pli_coding.specs.Linking.{Links}
use Rattle.pli_coding.specs.Registers.{a0, a1, frame_register}
use Rattle.pli_coding.specs.Statements.{begin_environment, block_words, condition_given, stmt_code, stmts_code}
use Rattle.pli_coding.specs.Statements.{unit_environment, unit_left, unit_mark}
use Rattle.activation_relation.specs.Layers.{Point}
use Rattle.unit_runs.specs.Establishing.{OnUnit, on_of, unit_index}
use Rattle.unit_runs.specs.Raised.{begin_of, list_code, list_index, standing_code}
use Rattle.program_places.specs.Inner.{begin_head, begin_list, standing_for}
use Rattle.program_places.specs.Placed.{Placed}
use Rattle.program_places.proofs.Marks.{placed_as, placed_at, placed_back, placed_front}

-- ---- BEGIN

pub begin_placed :
    (links : Links) (code : List Instr) (i : ℕ) (e : Environment) (t : Taken) (head : Y.BlockHead) (body : Y.Stmts) →
    Placed links code i (stmt_code e t (Y.Begin (Y.BlockOf head body))) →
    Placed links code (begin_list e head body i) (stmts_code (begin_environment head e) none_taken body)
begin_placed links code i e t head body p =
    let words = block_words e head.number body in
    let frame = frame_begun words head.level 0 None in
    let entered' = entered_without_texts 1 head.line in
    let variables = variables_code (begin_environment head e) head.line in
    let list = stmts_code (begin_environment head e) none_taken body in
    let last = block_left 0 ++ frame_ended words in
    let rest = variables ++ (list ++ last) in
    placed_front list last
    (placed_back variables (list ++ last)
    (placed_back (begin_head e head body) rest
    (placed_as (begin_head e head body ++ rest)
    (ap (λ u. move a0 frame_register ∷ u) (sym (append_assoc frame entered' rest)))
    (placed_back (act_code head.line) (move a0 frame_register ∷ (frame ++ (entered' ++ rest))) p))))

-- ---- on-units

-- what stands before the unit takes seven words
abbrev before_unit : OnUnit → (size : ℕ) → Code
before_unit x size =
    OffsetAhead a1 (size_of (service 28) + 3) ∷ condition_given x.condition ∷ (service 28 ++ (JumpAhead size ∷ []))

seven_words : (x : OnUnit) (size : ℕ) → size_of (before_unit x size) ≡ 7
seven_words x size = refl

pub unit_placed :
    (links : Links) (code : List Instr) (i : ℕ) (e : Environment) (x : OnUnit) (around : Around)
    (made : Point → Point) → Placed links code i (stmt_code e none_taken (on_of x)) →
    Placed links code (unit_index x i) (standing_code (standing_for e x i around made))
unit_placed links code i e x around made p =
    let s = standing_for e x i around made in
    let frame = frame_begun s.words x.head.level 0 (Some s.saved) in
    let entered' = entered_without_texts 2 x.head.line in
    let rest = s.variables
    ++ (act_code x.head.line
    ++ (list_code s ++ (unit_mark x.head x.head.kind ++ unit_left s.words s.saved))) in
    let unit = frame ++ (entered' ++ rest) in
    let before' = before_unit x (size_of unit) in
    let size = seven_words x (size_of unit) in
    placed_as (standing_code s) (sym (append_assoc frame entered' rest))
    (placed_at (unit_index x i) unit (omega (arith, size))
    (placed_back before' unit (placed_back (act_code x.line) (before' ++ unit) p)))

pub unit_list_placed :
    (links : Links) (code : List Instr) (i : ℕ) (e : Environment) (x : OnUnit) (around : Around)
    (made : Point → Point) → Placed links code i (stmt_code e none_taken (on_of x)) →
    Placed links code (list_index (standing_for e x i around made))
    (stmts_code (unit_environment x.head e) none_taken x.body)
unit_list_placed links code i e x around made p =
    let s = standing_for e x i around made in
    let one = act_code x.head.line in
    let last = unit_mark x.head x.head.kind ++ unit_left s.words s.saved in
    let list = list_code s in
    placed_front list last
    (placed_back one (list ++ last)
    (placed_back s.variables (one ++ (list ++ last))
    (placed_back (begin_of s) (s.variables ++ (one ++ (list ++ last)))
    (unit_placed links code i e x around made p))))
