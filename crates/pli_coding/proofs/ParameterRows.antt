-- Where parameters are found, and how copies that stand for values take their places in the list of arguments,
-- computed.
use Rattle.std.proofs.Common.{◌≡◌, ℕ, pos, [], ◌∷◌, ◌++◌, map, None, refl}
use Rattle.rv_meaning.specs.declared.instr.Instr.TheVariants as I
use Rattle.rv_meaning.specs.declared.instr.ImmediateOp.TheVariants as Imm
use Rattle.rv_meaning.specs.declared.instr.LoadKind.TheVariants as Load
use Rattle.rv_meaning.specs.declared.instr.StoreKind.TheVariants as Store
use Rattle.rv_meaning.specs.declared.instr.BranchTest.TheVariants as Test
use Rattle.rv_meaning.specs.declared.instr.Register.{Register}
use Rattle.pli_typing.specs.TypedTree as Y
use Rattle.area_keeper.specs.Chain.{chain}
use Rattle.pli_coding.specs.Registers as R
use Rattle.pli_coding.specs.Assembly.{Item, Plain, BaseIn, OffsetOf, DataPlace, Code}
use Rattle.pli_coding.specs.StaticForms.{size_datum}
use Rattle.pli_coding.specs.Frames.{MemoryParts}
use Rattle.pli_coding.specs.Environments.{Environment, none_taken}
use Rattle.pli_coding.specs.Locating.{located, name_offset, number_loaded}
use Rattle.pli_coding.specs.Entries.{Copied, list_kept, copies_of, copy_made, copies_made, texts_filled}
use Rattle.pli_coding.specs.Instructions.{add, immediate, move, subtract}
use Rattle.pli_coding.specs.Images.{environment_of}
use Rattle.pli_coding.proofs.RowPieces.{parameter, scalar, head, procedure, program}

abbrev parts : MemoryParts
parts = record { stack_start = 4096; stack_end = 8192; area_bytes = chain.bytes_for }

-- P(N, T, Q), of which N is FIXED(15), T CHAR(*) and Q POINTER, with a begin block in it
abbrev taking : Y.Program
taking =
    program ([] ∷ []
    ∷ (scalar Y.ParameterClass (Y.FixedLeaf 15) ∷ scalar Y.ParameterClass (Y.CharacterLeaf Y.StarExtent)
    ∷ scalar Y.ParameterClass Y.PointerLeaf ∷ [])
    ∷ [] ∷ [])
    (procedure (Y.BlockOf (head Y.ProcedureBlock 1 0 1) (Y.EndOfList [])) [] None
    ∷ procedure
    (Y.BlockOf (head Y.ProcedureBlock 2 1 2)
    (Y.StmtThen [] (Y.Begin (Y.BlockOf (head Y.BeginBlock 3 2 3) (Y.EndOfList []))) (Y.EndOfList [])))
    (0 ∷ 1 ∷ 2 ∷ []) None
    ∷ [])

abbrev within : (block level : ℕ) → Environment
within block level = record (environment_of parts taking) { block = block; level = level }

abbrev load : Register → Register → ℕ → Item
load rd rs n = Plain (I.Load Load.Word rd rs (pos n))

abbrev store : Register → Register → ℕ → Item
store rs value n = Plain (I.Store Store.Word rs value (pos n))

abbrev give : Register → ℕ → Item
give r n = immediate Imm.Add r R.zero_register (pos n)

-- ---- the list

-- its address behind the display, and its offset: the address as far from the frame's as the offset from the frame's
-- own
list_is_kept :
    list_kept 1 (0 ∷ 1 ∷ 2 ∷ [])
    ≡ (store R.frame_register R.a1 148 ∷ subtract R.a1 R.a1 R.frame_register ∷ add R.a1 R.a1 R.u1
    ∷ store R.frame_register R.a1 44 ∷ [])
list_is_kept = refl

no_list_is_kept : list_kept 1 [] ≡ []
no_list_is_kept = refl

-- ---- a parameter's name and number: T is the second one

abbrev reached_from : Environment → Code
reached_from e =
    name_offset e R.a0 (located e none_taken (parameter 2 1 1)).name
    ++ number_loaded e R.a1 (located e none_taken (parameter 2 1 1)).number

parameter_is_reached :
    reached_from (within 2 1)
    ≡ (load R.a0 R.frame_register 44 ∷ immediate Imm.Add R.a0 R.a0 (pos 24) ∷ load R.a1 R.frame_register 148
    ∷ load R.a1 R.a1 40 ∷ [])
parameter_is_reached = refl

-- from the begin block, whose own frame has no list, by the display
parameter_is_reached_from_inside :
    reached_from (within 3 2)
    ≡ (load R.a0 R.frame_register 148 ∷ load R.a0 R.a0 44 ∷ immediate Imm.Add R.a0 R.a0 (pos 24)
    ∷ load R.a1 R.frame_register 148 ∷ load R.a1 R.a1 148 ∷ load R.a1 R.a1 40 ∷ [])
parameter_is_reached_from_inside = refl

-- ---- copies

abbrev copied : Code
copied = copies_made (within 2 1) (copies_of (within 2 1) (0 ∷ []))

-- the value of N is in a register before the name is written over it
number_is_copied :
    copied
    ≡ (load R.u4 R.u5 20 ∷ Plain (I.Branch Test.Equal R.u4 R.zero_register (pos 76))
    ∷ give R.a1 0 ∷ give R.u2 16 ∷ store R.u5 R.a1 16
    ∷ load R.u1 R.frame_register 40 ∷ subtract R.u1 R.u1 R.u2 ∷ store R.frame_register R.u1 40
    ∷ load R.u4 R.u5 0
    ∷ load R.a0 R.frame_register 44 ∷ immediate Imm.Add R.a0 R.a0 (pos 0)
    ∷ give R.a2 0 ∷ move R.a3 R.u1 ∷ give R.a4 2 ∷ give R.a7 7 ∷ Plain I.Ecall
    ∷ BaseIn R.a0 ∷ add R.a0 R.a0 R.u1 ∷ Plain (I.Store Store.Half R.a0 R.u4 (pos 0)) ∷ [])
number_is_copied = refl

abbrev made : Copied → Code
made c = copy_made (within 2 1) c

-- the length of T's text is read before the signature's number is written over it, and the text's place goes where the
-- 1 was
text_is_placed :
    map made (copies_of (within 2 1) (0 ∷ 1 ∷ [])) ≡ map made (copies_of (within 2 1) (0 ∷ []))
    ++ (give R.a0 1 ∷ OffsetOf R.a1
    (DataPlace (size_datum Y.StarExtent (scalar Y.ParameterClass (Y.CharacterLeaf Y.StarExtent)).leaves))
    ∷ load R.a3 R.u5 40 ∷ give R.a7 3 ∷ Plain I.Ecall ∷ move R.u2 R.a1 ∷ move R.a1 R.a0
    ∷ store R.u5 R.a1 40
    ∷ load R.u1 R.frame_register 40 ∷ subtract R.u1 R.u1 R.u2 ∷ store R.frame_register R.u1 40
    ∷ load R.a0 R.frame_register 44 ∷ immediate Imm.Add R.a0 R.a0 (pos 24)
    ∷ give R.a2 0 ∷ move R.a3 R.u1 ∷ give R.a4 2 ∷ give R.a7 7 ∷ Plain I.Ecall
    ∷ store R.u5 R.u1 44 ∷ []) ∷ []
text_is_placed = refl

-- its length is that of the text, which is asked, since the number stands where it was
text_is_stored :
    texts_filled (copies_of (within 2 1) (0 ∷ 1 ∷ 2 ∷ []))
    ≡ (load R.u4 R.u5 44 ∷ Plain (I.Branch Test.Equal R.u4 R.zero_register (pos 36))
    ∷ give R.a2 2 ∷ give R.a7 27 ∷ Plain I.Ecall ∷ move R.a1 R.a0
    ∷ move R.a0 R.u4 ∷ give R.a2 0 ∷ give R.a7 27 ∷ Plain I.Ecall ∷ [])
text_is_stored = refl

-- the four words of Q's value wait in registers
name_is_copied :
    map made (copies_of (within 2 1) (0 ∷ 1 ∷ 2 ∷ [])) ≡ map made (copies_of (within 2 1) (0 ∷ 1 ∷ []))
    ++ (give R.a1 2 ∷ give R.u2 16 ∷ store R.u5 R.a1 64
    ∷ load R.u1 R.frame_register 40 ∷ subtract R.u1 R.u1 R.u2 ∷ store R.frame_register R.u1 40
    ∷ load R.u0 R.u5 48 ∷ load R.u2 R.u5 52 ∷ load R.u3 R.u5 56 ∷ load R.u4 R.u5 60
    ∷ load R.a0 R.frame_register 44 ∷ immediate Imm.Add R.a0 R.a0 (pos 48)
    ∷ give R.a2 0 ∷ move R.a3 R.u1 ∷ give R.a4 2 ∷ give R.a7 7 ∷ Plain I.Ecall
    ∷ BaseIn R.a0 ∷ add R.a0 R.a0 R.u1
    ∷ store R.a0 R.u0 0 ∷ store R.a0 R.u2 4 ∷ store R.a0 R.u3 8 ∷ store R.a0 R.u4 12 ∷ []) ∷ []
name_is_copied = refl
