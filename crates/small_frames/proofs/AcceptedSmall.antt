-- Frames and routines of extents of each accepted source are small.
use Rattle.std.proofs.Common.{ℕ, suc, ◌+◌, ◌≤◌, max, ◌==◌, Bool, true, false, List, [], ◌∷◌, map, length, Some}
use Rattle.std.proofs.Common.{if◌then◌else◌, arith}
use Rattle.pli_typing.specs.TypedTree as Y
use Rattle.pli_typing.specs.Resolving.{typed_tree}
use Rattle.pli_meaning.specs.DeclaredShapes.{variables_of_block, procedure_numbered, head_of}
use Rattle.pli_coding.specs.Frames.{fixed_size, temporary_bytes, is_automatic, has_constant_size, parameters_in}
use Rattle.pli_coding.specs.Frames.{parameters_of_block}
use Rattle.pli_coding.specs.Environments.{none_taken}
use Rattle.pli_coding.specs.Extents.{extents_take}
use Rattle.pli_coding.specs.Entries.{variables_take}
use Rattle.temporary_bounds.specs.WordBounds.{variables_words, evaluations_words, extents_words, number_words}
use Rattle.temporary_bounds.proofs.StatementBounds.{extents_bound, variables_bound}
use Rattle.pli_frames.specs.Blocks.{BlockWords, blocks_of}
use Rattle.pli_frames.specs.Plans.{BlockFrame, frame_with, frame_by_kind, frame_of, planned}
use Rattle.well_formed_trees.specs.Every.{Every}
use Rattle.well_formed_trees.specs.Held.{table_of}
use Rattle.well_formed_trees.proofs.Lists.{every_map}
use Rattle.well_formed_trees.proofs.AcceptedFacts.{facts_kept}
use Rattle.small_frames.specs.Small.{routine_bytes, IsFrameWithin, AcceptedSmall}
use Rattle.small_frames.proofs.HeadsLight.{heads_light}
use Rattle.small_frames.proofs.StatementsSmall.{IsShort, AreShort, SmallProcedures, program_small}
use Rattle.small_frames.proofs.StatementsSmall.{program_short}
use Rattle.small_frames.proofs.ExtentsSmall.{HasSmallExtents, extents_small}

-- ---- bytes

frame_bytes : (words level parameters : ℕ) → words ≤ 1165 → level ≤ 16 → parameters ≤ 16
    → temporary_bytes words + fixed_size level parameters ≤ 4896
frame_bytes words level parameters h k l = omega (arith, h, k, l)

extent_bytes : (words level : ℕ) → words ≤ 533 → level ≤ 16 → temporary_bytes words + fixed_size (suc level) 0 ≤ 2368
extent_bytes words level h k = omega (arith, h, k)

-- ---- variables

evaluations_few : (es : List Y.Evaluation) → Every (λ e. number_words e.value ≤ 529) es → evaluations_words es ≤ 529
evaluations_few [] h = omega arith
evaluations_few (e ∷ es) h =
    let one = h.0 in
    let more = evaluations_few es h.1 in
    omega (arith, one, more)

extents_few : (d : Y.DeclaredVariable) → HasSmallExtents d → extents_words d ≤ 533
extents_few d h = let most = evaluations_few d.evaluations h in omega (arith, most)

variables_few : (ds : List Y.DeclaredVariable) → Every HasSmallExtents ds → variables_words ds ≤ 533
variables_few [] h = omega arith
variables_few (d ∷ ds) h =
    by (is_automatic d.class) (has_constant_size d) (extents_few d h.0) (variables_few ds h.1) where
      by : (a c : Bool) → extents_words d ≤ 533 → variables_words ds ≤ 533
          → max (if a then (if c then 0 else extents_words d) else 0) (variables_words ds) ≤ 533
      by true true one more = omega (arith, more)
      by true false one more = omega (arith, one, more)
      by false c one more = omega (arith, more)

-- ---- parameters

found_few : (number : ℕ) (ps : List Y.Procedure) → SmallProcedures ps
    → length (parameters_in (procedure_numbered number ps)) ≤ 16
found_few number [] h = omega arith
found_few number (p ∷ ps) h = by ((head_of p.block).number == number) (found_few number ps h.1) where
  by : (b : Bool) → length (parameters_in (procedure_numbered number ps)) ≤ 16
      → length (parameters_in (if b then Some p else procedure_numbered number ps)) ≤ 16
  by true more = h.0.1
  by false more = more

-- ---- frames

abbrev AreExtentsSmall : Y.Program → Type 0
AreExtentsSmall program = (n : ℕ) → Every HasSmallExtents (variables_of_block program n)

routines_within : (level : ℕ) → level ≤ 16 → (ds : List Y.DeclaredVariable) → Every HasSmallExtents ds
    → Every (λ d. routine_bytes level d ≤ 2368) ds
routines_within level l [] h = tt
routines_within level l (d ∷ ds) h =
    let few = extents_few d h.0 in
    let most = extents_bound none_taken d in
    (extent_bytes (extents_take none_taken d).words level (omega (arith, few, most)) l, routines_within level l ds h.1)

with_within : (program : Y.Program) → AreExtentsSmall program → (head : Y.BlockHead) (words parameters : ℕ)
    (ds : List Y.DeclaredVariable) → head.level ≤ 16 → words ≤ 1165 → parameters ≤ 16 → variables_words ds ≤ 533
    → IsFrameWithin 4896 2368 program (frame_with head words parameters ds)
with_within program e head words parameters ds l w p v =
    let most = variables_bound ds in (
      frame_bytes (max (variables_take ds).words words) head.level parameters (omega (arith, w, v, most)) l p,
      routines_within head.level l (variables_of_block program head.number) (e head.number),
    )

declaring_within : (program : Y.Program) → AreExtentsSmall program → SmallProcedures program.procedures
    → (b : BlockWords) → IsShort b
    → IsFrameWithin 4896 2368 program
    (frame_with b.head b.words (length (parameters_of_block program b.head.number))
    (variables_of_block program b.head.number))
declaring_within program e s b h =
    let ds = variables_of_block program b.head.number in
    with_within program e b.head b.words (length (parameters_of_block program b.head.number)) ds h.1 h.0
    (found_few b.head.number program.procedures s) (variables_few ds (e b.head.number))

kind_within : (program : Y.Program) → AreExtentsSmall program → SmallProcedures program.procedures
    → (b : BlockWords) (kind : Y.BlockKind) → IsShort b
    → IsFrameWithin 4896 2368 program (frame_by_kind program b kind)
kind_within program e s b Y.SimpleUnit h =
    with_within program e b.head b.words 0 [] h.1 h.0 (omega arith) (omega arith)
kind_within program e s b Y.ProcedureBlock h = declaring_within program e s b h
kind_within program e s b Y.BeginBlock h = declaring_within program e s b h
kind_within program e s b Y.UnitBlock h = declaring_within program e s b h

frames_within : (program : Y.Program) → AreExtentsSmall program → SmallProcedures program.procedures
    → (bs : List BlockWords) → AreShort bs → Every (IsFrameWithin 4896 2368 program) (map (frame_of program) bs)
frames_within program e s [] h = tt
frames_within program e s (b ∷ bs) h =
    (kind_within program e s b b.head.kind h.0, frames_within program e s bs h.1)

-- ---- wider bounds

routine_wider : (a b : ℕ) → a ≤ b → (level : ℕ) (ds : List Y.DeclaredVariable)
    → Every (λ d. routine_bytes level d ≤ a) ds → Every (λ d. routine_bytes level d ≤ b) ds
routine_wider a b l level [] h = tt
routine_wider a b l level (d ∷ ds) h =
    let one = h.0 in
    (omega (arith, one, l), routine_wider a b l level ds h.1)

frame_wider : (program : Y.Program) (frame routine : ℕ) → 4896 ≤ frame → 2368 ≤ routine → (f : BlockFrame)
    → IsFrameWithin 4896 2368 program f → IsFrameWithin frame routine program f
frame_wider program frame routine h k f w =
    let one = w.0 in (
      omega (arith, one, h),
      routine_wider 2368 routine k f.head.level (variables_of_block program f.head.number) w.1,
    )

-- ---- all

pub accepted_small : AcceptedSmall
accepted_small frame routine h k s tokens tree t spelled declared typed =
    let program = typed_tree tree in
    let light = heads_light s tokens tree t spelled in
    let extents = extents_small tree (table_of tree) (facts_kept s tokens tree t spelled declared typed) light in
    every_map (IsFrameWithin 4896 2368 program) (IsFrameWithin frame routine program)
    (frame_wider program frame routine h k) (planned program)
    (frames_within program extents (program_small tree light) (blocks_of program.procedures)
    (program_short tree light))
