-- The code beside procedures has no more words than what they declare takes.
use Rattle.std.proofs.Common.{ℕ, suc, ◌+◌, ◌*◌, ◌≤◌, ◌-◌, List, [], ◌∷◌, ◌++◌, Bool, true, false, length, arith, pos}
use Rattle.std.proofs.Common.{Some, if◌then◌else◌}
use Rattle.rv_meaning.specs.declared.instr.Instr.TheVariants as I
use Rattle.pli_typing.specs.TypedTree as Y
use Rattle.pli_meaning.specs.DeclaredShapes.{variables_of_block}
use Rattle.pli_coding.specs.Registers.{zero_register, return_register, stack_register, frame_register, a0, a1, a2}
use Rattle.pli_coding.specs.Registers.{a3, a4, u0, u1}
use Rattle.pli_coding.specs.Assembly.{Code, Plain, BaseIn, OffsetOf, DataPlace, NumberWord, size_of}
use Rattle.pli_coding.specs.Instructions.{add, constant, load_word, number, plus, service, small, store_word}
use Rattle.pli_coding.specs.Environments.{Environment, BlockPlace, none_taken}
use Rattle.pli_coding.specs.Frames.{name_bytes, own_offset, lower_top}
use Rattle.pli_coding.specs.StaticForms.{places_datum}
use Rattle.pli_coding.specs.Locating as L
use Rattle.pli_coding.specs.Extents as E
use Rattle.pli_coding.specs.Entries as N
use Rattle.pli_coding.specs.Procedures as R
use Rattle.pli_coding.specs.Images as M
use Rattle.code_sizes.specs.StatementSizes.{display_size, extents_size}
use Rattle.code_sizes.specs.StartSizes.{routine_size, block_routines_size, routines_size, class_size, static_size}
use Rattle.code_sizes.specs.StartSizes.{block_statics_size, statics_size, start_size, raise_size, BesideProceduresSized}
use Rattle.code_sizes.proofs.PieceSizes.{both, none, constant_most, load_most, number_most}
use Rattle.code_sizes.proofs.StoringSizes.{initial_most, refer_amount_most}
use Rattle.code_sizes.proofs.EntrySizes.{begun_most, ended_most, extents_most, few_held, registers_restored_most}

-- ---- routines of extents

pub frame_returned_most : (words held : ℕ) → held ≤ 7 → size_of (R.frame_returned words held) ≤ 27
frame_returned_most words held few =
    let more = registers_restored_most 0 held in
    let back = Plain (I.JumpRegister zero_register return_register (pos 0)) ∷ [] in
    both (N.all_restored held) (N.frame_ended words ++ back) {m = 22} (omega (arith, more, few))
    (both (N.frame_ended words) back (ended_most words) {n = 1} (omega arith))

given_most : (d : Y.DeclaredVariable) → size_of (R.amounts_given d) ≤ 12
given_most d =
    both (E.refer_amount none_taken d.leaves d.refer) _ (refer_amount_most none_taken d.leaves d.refer)
    (load_most a0 frame_register (E.number_word none_taken))

routine_most : (e : Environment) (index : ℕ) (d : Y.DeclaredVariable)
    → size_of (R.routine_code e index d) ≤ extents_size d + (display_size e.level + 75)
routine_most e index d =
    let held = R.routine_held d in
    let few : held ≤ 7 = few_held _ in
    let all = both (R.routine_begun e d) _ (begun_most (R.routine_words d) e.level 0 (Some held))
    (both (E.extents_code e none_taken d) _ (extents_most e none_taken d)
    (both (R.amounts_given d) (R.frame_returned (R.routine_words d) held) (given_most d)
    (frame_returned_most (R.routine_words d) held few))) in
    omega (arith, all, few)

routine_if_most : (e : Environment) (index : ℕ) (d : Y.DeclaredVariable) (xs : List Y.Evaluation)
    → size_of (R.routine_if e index d xs) ≤ routine_size e.level d xs
routine_if_most e index d [] = none
routine_if_most e index d (x ∷ xs) = by (R.has_routine d.class) where
  by : (b : Bool) → size_of (if b then R.routine_code e index d else [])
      ≤ (if b then extents_size d + (display_size e.level + 75) else 0)
  by true = routine_most e index d
  by false = none

block_routines_most : (e : Environment) (index : ℕ) (ds : List Y.DeclaredVariable)
    → size_of (R.routines_of_block e index ds) ≤ block_routines_size e.level ds
block_routines_most e index [] = none
block_routines_most e index (d ∷ ds) =
    both (R.routine_if e index d d.evaluations) _ (routine_if_most e index d d.evaluations)
    (block_routines_most e (suc index) ds)

pub routines_most : (e : Environment) (bs : List BlockPlace)
    → size_of (R.routines_code e bs) ≤ routines_size e.program bs
routines_most e [] = none
routines_most e (b ∷ bs) =
    let inside = R.routine_environment b e in
    both (R.routines_of_block inside 0 (variables_of_block e.program b.number)) _
    (block_routines_most inside 0 (variables_of_block e.program b.number)) (routines_most e bs)

-- ---- the start

static_made_most : (e : Environment) (block index : ℕ) (d : Y.DeclaredVariable)
    → size_of (M.static_made e block index d) ≤ 10
static_made_most e block index d =
    let last = plus a3 a0 (pos name_bytes) ++ (small a4 1 ∷ service 7) in
    let table = L.table_number e d in
    let behind = both (number a1 table) (E.initial_code a2 d ++ last) (number_most a1 table)
    (both (E.initial_code a2 d) last (initial_most a2 d) {n = 4} (omega arith)) in
    omega (arith, behind)

static_if_most : (e : Environment) (block index : ℕ) (d : Y.DeclaredVariable) (class : Y.StorageClass)
    → size_of (M.static_if e block index d class) ≤ class_size class
static_if_most e block index d Y.StaticClass = static_made_most e block index d
static_if_most e block index d Y.AutomaticClass = none
static_if_most e block index d Y.ControlledClass = none
static_if_most e block index d Y.BasedClass = none
static_if_most e block index d Y.ParameterClass = none

lower_of_most : (e : Environment) (block index : ℕ) (d : Y.DeclaredVariable) (l u : Y.Extent) (bs : List Y.Bounds)
    → size_of (M.lower_filled e block index d (record { lower = l; upper = u } ∷ bs)) ≤ 16
lower_of_most e block index d (Y.ConstantExtent z) u bs =
    let kept : Code = service 3
    ++ (OffsetOf u1 (DataPlace (NumberWord block index)) ∷ BaseIn u0 ∷ add u0 u0 u1 ∷ store_word u0 a0 (pos 0)) in
    let bounds = both (constant a2 z) (constant a3 z ++ kept) (constant_most a2 z)
    (both (constant a3 z) kept (constant_most a3 z) {n = 8} (omega arith)) in
    both (number a0 (L.table_number e d)) _ (number_most a0 (L.table_number e d)) {n = 14} (omega (arith, bounds))
lower_of_most e block index d Y.StarExtent u bs = none
lower_of_most e block index d Y.ReferExtent u bs = none
lower_of_most e block index d (Y.EvaluatedExtent n) u bs = none

lower_filled_most : (e : Environment) (block index : ℕ) (d : Y.DeclaredVariable) (bs : List Y.Bounds)
    → size_of (M.lower_filled e block index d bs) ≤ 16
lower_filled_most e block index d [] = none
lower_filled_most e block index d (b ∷ bs) = lower_of_most e block index d b.lower b.upper bs

number_if_most : (e : Environment) (block index : ℕ) (d : Y.DeclaredVariable)
    → size_of (M.number_if e block index d) ≤ (if L.needs_number_word d then 16 else 0)
number_if_most e block index d = by (L.needs_number_word d) where
  by : (b : Bool) → size_of (if b then M.lower_filled e block index d (L.referred_bounds d.leaves) else [])
      ≤ (if b then 16 else 0)
  by true = lower_filled_most e block index d (L.referred_bounds d.leaves)
  by false = none

block_statics_most : (e : Environment) (block index : ℕ) (ds : List Y.DeclaredVariable)
    → size_of (M.statics_of_block e block index ds) ≤ block_statics_size ds
block_statics_most e block index [] = none
block_statics_most e block index (d ∷ ds) =
    let all = both (M.static_if e block index d d.class) _ (static_if_most e block index d d.class)
    (both (M.number_if e block index d) _ (number_if_most e block index d)
    (block_statics_most e block (suc index) ds)) in
    omega (arith, all)

statics_most : (e : Environment) (block : ℕ) (all : List (List Y.DeclaredVariable))
    → size_of (M.statics_code e block all) ≤ statics_size all
statics_most e block [] = none
statics_most e block (ds ∷ rest) =
    both (M.statics_of_block e block 0 ds) _ (block_statics_most e block 0 ds) (statics_most e (suc block) rest)

first_most : (e : Environment) → size_of (M.first_frame e.parts) ≤ 10
first_most e =
    let top = store_word frame_register u1 lower_top ++ plus stack_register frame_register (pos M.first_frame_bytes) in
    let start = number_most u1 e.parts.stack_start in
    let end = both (number u1 e.parts.stack_end) top (number_most u1 e.parts.stack_end) {n = 2} (omega arith) in
    let frame = both (number u1 e.parts.stack_start) (add frame_register u0 u1
    ∷ (store_word frame_register u1 own_offset ++ (number u1 e.parts.stack_end ++ top))) start {n = 6}
    (omega (arith, end)) in
    omega (arith, frame)

called_most : (ps : List Y.Procedure) → size_of (M.main_called ps) ≤ 5
called_most [] = none
called_most (p ∷ ps) = omega arith

pub starts_most : (e : Environment) → size_of (M.start_code e) ≤ start_size e.program
starts_most e =
    let all = both (M.first_frame e.parts) _ (first_most e)
    (both (M.statics_code e 0 e.program.variables) _ (statics_most e 0 e.program.variables)
    (both (M.main_called e.program.procedures) R.finish_code (called_most e.program.procedures) {n = 4}
    (omega arith))) in
    omega (arith, all)

pub raise_most : size_of M.raise_code ≤ raise_size
raise_most = omega arith

pub beside_procedures_sized : BesideProceduresSized
beside_procedures_sized = (routines_most, (starts_most, raise_most))
