-- Two instructions whose fields hold their operands are equal where their words are.
use Rattle.std.proofs.Common.{lit<, ◌≡◌, ◌≢◌, ℕ, ◌%◌, ◌^◌, ◌<◌, ◌==◌, if◌then◌else◌, refl, ap, ap₂, subst, sym, ◌∙◌, arith}
use Rattle.std.specs.Coded.{le_prop}
use Rattle.std.specs.Prelude.{ℤ, pos, negsuc}
use Rattle.std.specs.Int.{w32, cast_unsigned}
use Rattle.rv_meaning.specs.declared.instr.Register.{Register}
use Rattle.rv_meaning.specs.declared.instr.RegisterOp.{RegisterOp}
use Rattle.rv_meaning.specs.declared.instr.RegisterOp.TheVariants as Op
use Rattle.rv_meaning.specs.declared.instr.ImmediateOp.{ImmediateOp}
use Rattle.rv_meaning.specs.declared.instr.ImmediateOp.TheVariants as Imm
use Rattle.rv_meaning.specs.declared.instr.ShiftOp.{ShiftOp}
use Rattle.rv_meaning.specs.declared.instr.ShiftOp.TheVariants as Shift
use Rattle.rv_meaning.specs.declared.instr.BranchTest.{BranchTest}
use Rattle.rv_meaning.specs.declared.instr.BranchTest.TheVariants as Test
use Rattle.rv_meaning.specs.declared.instr.LoadKind.{LoadKind}
use Rattle.rv_meaning.specs.declared.instr.LoadKind.TheVariants as Load
use Rattle.rv_meaning.specs.declared.instr.StoreKind.{StoreKind}
use Rattle.rv_meaning.specs.declared.instr.StoreKind.TheVariants as Store
use Rattle.rv_meaning.specs.declared.instr.Instr.{Instr}
use Rattle.rv_meaning.specs.declared.instr.Instr.TheVariants as I
use Rattle.rv_meaning.specs.Encoding.{spelled, format_i, word_of, Fits, IsWithin, branch_funct3, load_funct3, store_funct3, immediate_funct3, shift_funct3, shift_funct7, register_funct3, register_funct7}

-- the operation of a funct3, and of a funct7 and a funct3 joined
abbrev test_of : ℕ → BranchTest
test_of n =
    if n == 0 then Test.Equal else (if n == 1 then Test.NotEqual else (if n == 4 then Test.Less else (if n == 5 then Test.GreaterOrEqual else (if n == 6 then Test.LessUnsigned else Test.GreaterOrEqualUnsigned))))

abbrev load_of : ℕ → LoadKind
load_of n =
    if n == 0 then Load.Byte else (if n == 1 then Load.Half else (if n == 2 then Load.Word else (if n == 4 then Load.ByteUnsigned else Load.HalfUnsigned)))

abbrev store_of : ℕ → StoreKind
store_of n = if n == 0 then Store.Byte else (if n == 1 then Store.Half else Store.Word)

abbrev immediate_of : ℕ → ImmediateOp
immediate_of n =
    if n == 0 then Imm.Add else (if n == 2 then Imm.SetLess else (if n == 3 then Imm.SetLessUnsigned else (if n == 4 then Imm.Xor else (if n == 6 then Imm.Or else Imm.And))))

abbrev shift_of : ℕ → ℕ → ShiftOp
shift_of n7 n3 = if n3 == 1 then Shift.Left else (if n7 == 0 then Shift.RightLogical else Shift.RightArithmetic)

abbrev plain_of : ℕ → RegisterOp
plain_of n =
    if n == 0 then Op.Add else (if n == 1 then Op.ShiftLeft else (if n == 2 then Op.SetLess else (if n == 3 then Op.SetLessUnsigned else (if n == 4 then Op.Xor else (if n == 5 then Op.ShiftRightLogical else (if n == 6 then Op.Or else Op.And))))))

abbrev multiply_of : ℕ → RegisterOp
multiply_of n =
    if n == 0 then Op.Multiply else (if n == 1 then Op.MultiplyHigh else (if n == 2 then Op.MultiplyHighSignedUnsigned else (if n == 3 then Op.MultiplyHighUnsigned else (if n == 4 then Op.Divide else (if n == 5 then Op.DivideUnsigned else (if n == 6 then Op.Remainder else Op.RemainderUnsigned))))))

abbrev operation_of : ℕ → ℕ → RegisterOp
operation_of n7 n3 =
    if n7 == 0 then plain_of n3 else (if n7 == 1 then multiply_of n3 else (if n3 == 0 then Op.Subtract else Op.ShiftRightArithmetic))

test_of-funct3 : (t : BranchTest) → (test_of (branch_funct3 t) ≡ t) × (branch_funct3 t < 8)
test_of-funct3 Test.Equal = (refl, lit< tt)
test_of-funct3 Test.NotEqual = (refl, lit< tt)
test_of-funct3 Test.Less = (refl, lit< tt)
test_of-funct3 Test.GreaterOrEqual = (refl, lit< tt)
test_of-funct3 Test.LessUnsigned = (refl, lit< tt)
test_of-funct3 Test.GreaterOrEqualUnsigned = (refl, lit< tt)

load_of-funct3 : (t : LoadKind) → (load_of (load_funct3 t) ≡ t) × (load_funct3 t < 8)
load_of-funct3 Load.Byte = (refl, lit< tt)
load_of-funct3 Load.Half = (refl, lit< tt)
load_of-funct3 Load.Word = (refl, lit< tt)
load_of-funct3 Load.ByteUnsigned = (refl, lit< tt)
load_of-funct3 Load.HalfUnsigned = (refl, lit< tt)

store_of-funct3 : (t : StoreKind) → (store_of (store_funct3 t) ≡ t) × (store_funct3 t < 8)
store_of-funct3 Store.Byte = (refl, lit< tt)
store_of-funct3 Store.Half = (refl, lit< tt)
store_of-funct3 Store.Word = (refl, lit< tt)

immediate_of-funct3 : (t : ImmediateOp) → (immediate_of (immediate_funct3 t) ≡ t) × (immediate_funct3 t < 8)
immediate_of-funct3 Imm.Add = (refl, lit< tt)
immediate_of-funct3 Imm.SetLess = (refl, lit< tt)
immediate_of-funct3 Imm.SetLessUnsigned = (refl, lit< tt)
immediate_of-funct3 Imm.Xor = (refl, lit< tt)
immediate_of-funct3 Imm.Or = (refl, lit< tt)
immediate_of-funct3 Imm.And = (refl, lit< tt)

shift_of-functs : (t : ShiftOp) → (shift_of (shift_funct7 t) (shift_funct3 t) ≡ t) × (shift_funct7 t < 128) × (shift_funct3 t < 8)
shift_of-functs Shift.Left = (refl, lit< tt, lit< tt)
shift_of-functs Shift.RightLogical = (refl, lit< tt, lit< tt)
shift_of-functs Shift.RightArithmetic = (refl, lit< tt, lit< tt)

operation_of-functs : (t : RegisterOp) → (operation_of (register_funct7 t) (register_funct3 t) ≡ t) × (register_funct7 t < 128) × (register_funct3 t < 8)
operation_of-functs Op.Add = (refl, lit< tt, lit< tt)
operation_of-functs Op.Subtract = (refl, lit< tt, lit< tt)
operation_of-functs Op.ShiftLeft = (refl, lit< tt, lit< tt)
operation_of-functs Op.SetLess = (refl, lit< tt, lit< tt)
operation_of-functs Op.SetLessUnsigned = (refl, lit< tt, lit< tt)
operation_of-functs Op.Xor = (refl, lit< tt, lit< tt)
operation_of-functs Op.ShiftRightLogical = (refl, lit< tt, lit< tt)
operation_of-functs Op.ShiftRightArithmetic = (refl, lit< tt, lit< tt)
operation_of-functs Op.Or = (refl, lit< tt, lit< tt)
operation_of-functs Op.And = (refl, lit< tt, lit< tt)
operation_of-functs Op.Multiply = (refl, lit< tt, lit< tt)
operation_of-functs Op.MultiplyHigh = (refl, lit< tt, lit< tt)
operation_of-functs Op.MultiplyHighSignedUnsigned = (refl, lit< tt, lit< tt)
operation_of-functs Op.MultiplyHighUnsigned = (refl, lit< tt, lit< tt)
operation_of-functs Op.Divide = (refl, lit< tt, lit< tt)
operation_of-functs Op.DivideUnsigned = (refl, lit< tt, lit< tt)
operation_of-functs Op.Remainder = (refl, lit< tt, lit< tt)
operation_of-functs Op.RemainderUnsigned = (refl, lit< tt, lit< tt)

same_register : (a b : Register) → a.index ≡ b.index → a ≡ b
same_register a b e =
    let P : ℕ → Type 0 = λ n. (r : n < 32) → a ≡ record { index = n; in_range = r } in
    subst P e (λ r. ap (λ (q : a.index < 32). record { index = a.index; in_range = q }) (le_prop a.in_range r)) b.in_range

-- the bits of a number within a width settle it
same_within : (y z : ℤ) → IsWithin 20 y → IsWithin 20 z → cast_unsigned w32 y % 2 ^ 21 ≡ cast_unsigned w32 z % 2 ^ 21 → y ≡ z
same_within (pos a) (pos b) f g e = ap pos (omega arith)
same_within (pos a) (negsuc b) f g e = absurd (omega arith)
same_within (negsuc a) (pos b) f g e = absurd (omega arith)
same_within (negsuc a) (negsuc b) f g e = ap negsuc (omega arith)

same_within_12 : (y z : ℤ) → IsWithin 12 y → IsWithin 12 z → cast_unsigned w32 y % 2 ^ 13 ≡ cast_unsigned w32 z % 2 ^ 13 → y ≡ z
same_within_12 (pos a) (pos b) f g e = ap pos (omega arith)
same_within_12 (pos a) (negsuc b) f g e = absurd (omega arith)
same_within_12 (negsuc a) (pos b) f g e = absurd (omega arith)
same_within_12 (negsuc a) (negsuc b) f g e = ap negsuc (omega arith)

same_within_11 : (y z : ℤ) → IsWithin 11 y → IsWithin 11 z → cast_unsigned w32 y % 2 ^ 12 ≡ cast_unsigned w32 z % 2 ^ 12 → y ≡ z
same_within_11 (pos a) (pos b) f g e = ap pos (omega arith)
same_within_11 (pos a) (negsuc b) f g e = absurd (omega arith)
same_within_11 (negsuc a) (pos b) f g e = absurd (omega arith)
same_within_11 (negsuc a) (negsuc b) f g e = ap negsuc (omega arith)

same_upper : (d d' : Register) (u u' : ℕ) → u < 2 ^ 20 → u' < 2 ^ 20 → word_of (I.LoadUpper d u) ≡ word_of (I.LoadUpper d' u') → (d ≡ d') × (u ≡ u')
same_upper d d' u u' f g e = (same_register d d' (omega arith), omega arith)

same_jump : (d d' : Register) (y z : ℤ) → Fits (I.Jump d y) → Fits (I.Jump d' z) → word_of (I.Jump d y) ≡ word_of (I.Jump d' z) → I.Jump d y ≡ I.Jump d' z
same_jump d d' y z f g e =
    let offsets : y ≡ z = same_within y z f.0 g.0 (omega arith) in
    let targets : d ≡ d' = same_register d d' (omega arith) in
    cc

-- a funct3 n, as every format with an immediate has it
same_immediates : (n n' : ℕ) (d d' a a' : Register) (y z : ℤ) (opcode : ℕ) → n < 8 → n' < 8 → IsWithin 11 y → IsWithin 11 z → spelled (format_i y a n d opcode) ≡ spelled (format_i z a' n' d' opcode) → (y ≡ z) × (a ≡ a') × (n ≡ n') × (d ≡ d')
same_immediates n n' d d' a a' y z opcode l l' f g e =
    (same_within_11 y z f g (omega arith), same_register a a' (omega arith), omega arith, same_register d d' (omega arith))

same_branch : (t t' : BranchTest) (a a' b b' : Register) (y z : ℤ) → Fits (I.Branch t a b y) → Fits (I.Branch t' a' b' z) → word_of (I.Branch t a b y) ≡ word_of (I.Branch t' a' b' z) → I.Branch t a b y ≡ I.Branch t' a' b' z
same_branch t t' a a' b b' y z f g e =
    let n = test_of-funct3 t in
    let n' = test_of-funct3 t' in
    let offsets : y ≡ z = same_within_12 y z f.0 g.0 (omega arith) in
    let firsts : a ≡ a' = same_register a a' (omega arith) in
    let seconds : b ≡ b' = same_register b b' (omega arith) in
    let functs : branch_funct3 t ≡ branch_funct3 t' = omega arith in
    let tests : t ≡ t' = sym n.0 ∙ ap test_of functs ∙ n'.0 in
    cc

same_store : (k k' : StoreKind) (a a' b b' : Register) (y z : ℤ) → IsWithin 11 y → IsWithin 11 z → word_of (I.Store k a b y) ≡ word_of (I.Store k' a' b' z) → I.Store k a b y ≡ I.Store k' a' b' z
same_store k k' a a' b b' y z f g e =
    let n = store_of-funct3 k in
    let n' = store_of-funct3 k' in
    let offsets : y ≡ z = same_within_11 y z f g (omega arith) in
    let firsts : a ≡ a' = same_register a a' (omega arith) in
    let seconds : b ≡ b' = same_register b b' (omega arith) in
    let functs : store_funct3 k ≡ store_funct3 k' = omega arith in
    let kinds : k ≡ k' = sym n.0 ∙ ap store_of functs ∙ n'.0 in
    cc

same_load : (k k' : LoadKind) (d d' a a' : Register) (y z : ℤ) → IsWithin 11 y → IsWithin 11 z → word_of (I.Load k d a y) ≡ word_of (I.Load k' d' a' z) → I.Load k d a y ≡ I.Load k' d' a' z
same_load k k' d d' a a' y z f g e =
    let n = load_of-funct3 k in
    let n' = load_of-funct3 k' in
    let (offsets, sources, functs, targets) = same_immediates _ _ d d' a a' y z _ n.1 n'.1 f g e in
    let kinds : k ≡ k' = sym n.0 ∙ ap load_of functs ∙ n'.0 in
    cc

same_immediate : (o o' : ImmediateOp) (d d' a a' : Register) (y z : ℤ) → IsWithin 11 y → IsWithin 11 z → word_of (I.Immediate o d a y) ≡ word_of (I.Immediate o' d' a' z) → I.Immediate o d a y ≡ I.Immediate o' d' a' z
same_immediate o o' d d' a a' y z f g e =
    let n = immediate_of-funct3 o in
    let n' = immediate_of-funct3 o' in
    let (immediates, sources, functs, targets) = same_immediates _ _ d d' a a' y z _ n.1 n'.1 f g e in
    let operations : o ≡ o' = sym n.0 ∙ ap immediate_of functs ∙ n'.0 in
    cc

same_shift : (o o' : ShiftOp) (d d' a a' : Register) (k k' : ℕ) → k < 32 → k' < 32 → word_of (I.Shift o d a k) ≡ word_of (I.Shift o' d' a' k') → I.Shift o d a k ≡ I.Shift o' d' a' k'
same_shift o o' d d' a a' k k' f g e =
    let n = shift_of-functs o in
    let n' = shift_of-functs o' in
    let amounts : k ≡ k' = omega arith in
    let sources : a ≡ a' = same_register a a' (omega arith) in
    let targets : d ≡ d' = same_register d d' (omega arith) in
    let uppers : shift_funct7 o ≡ shift_funct7 o' = omega arith in
    let lowers : shift_funct3 o ≡ shift_funct3 o' = omega arith in
    let operations : o ≡ o' = sym n.0 ∙ ap₂ shift_of uppers lowers ∙ n'.0 in
    cc

same_registers : (o o' : RegisterOp) (d d' a a' b b' : Register) → word_of (I.Registers o d a b) ≡ word_of (I.Registers o' d' a' b') → I.Registers o d a b ≡ I.Registers o' d' a' b'
same_registers o o' d d' a a' b b' e =
    let n = operation_of-functs o in
    let n' = operation_of-functs o' in
    let firsts : a ≡ a' = same_register a a' (omega arith) in
    let seconds : b ≡ b' = same_register b b' (omega arith) in
    let targets : d ≡ d' = same_register d d' (omega arith) in
    let uppers : register_funct7 o ≡ register_funct7 o' = omega arith in
    let lowers : register_funct3 o ≡ register_funct3 o' = omega arith in
    let operations : o ≡ o' = sym n.0 ∙ ap₂ operation_of uppers lowers ∙ n'.0 in
    cc

same_fence : (p p' s s' : ℕ) → Fits (I.Fence p s) → Fits (I.Fence p' s') → word_of (I.Fence p s) ≡ word_of (I.Fence p' s') → I.Fence p s ≡ I.Fence p' s'
same_fence p p' s s' f g e = ap₂ I.Fence (omega arith) (omega arith)

-- of the operations with an immediate none has a shift's funct3
immediates_apart : (o : ImmediateOp) (s : ShiftOp) → immediate_funct3 o ≢ shift_funct3 s
immediates_apart o s e = grind arith

apart : (o : ImmediateOp) (s : ShiftOp) (d d' a a' : Register) (y : ℤ) (k : ℕ) → k < 32 → word_of (I.Immediate o d a y) ≢ word_of (I.Shift s d' a' k)
apart o s d d' a a' y k f e =
    let n = immediate_of-funct3 o in
    let n' = shift_of-functs s in
    immediates_apart o s (omega arith)

pub same : (i j : Instr) → Fits i → Fits j → word_of i ≡ word_of j → i ≡ j
same (I.LoadUpper d u) (I.LoadUpper d' u') f g e =
    let p = same_upper d d' u u' f g e in ap₂ I.LoadUpper p.0 p.1
same (I.AddUpperToPc d u) (I.AddUpperToPc d' u') f g e =
    let p = same_upper d d' u u' f g (omega arith) in ap₂ I.AddUpperToPc p.0 p.1
same (I.Jump d y) (I.Jump d' z) f g e = same_jump d d' y z f g e
same (I.JumpRegister d a y) (I.JumpRegister d' a' z) f g e =
    let p = same_immediates 0 0 d d' a a' y z 0b1100111 (lit< tt) (lit< tt) f g e in
    let offsets = p.0 in
    let sources = p.1 in
    let targets = p.3 in
    cc
same (I.Branch t a b y) (I.Branch t' a' b' z) f g e = same_branch t t' a a' b b' y z f g e
same (I.Load k d a y) (I.Load k' d' a' z) f g e = same_load k k' d d' a a' y z f g e
same (I.Store k a b y) (I.Store k' a' b' z) f g e = same_store k k' a a' b b' y z f g e
same (I.Immediate o d a y) (I.Immediate o' d' a' z) f g e = same_immediate o o' d d' a a' y z f g e
same (I.Immediate o d a y) (I.Shift s d' a' k) f g e = absurd (apart o s d d' a a' y k g e)
same (I.Shift s d a k) (I.Immediate o d' a' y) f g e = absurd (apart o s d' d a' a y k f (sym e))
same (I.Shift o d a k) (I.Shift o' d' a' k') f g e = same_shift o o' d d' a a' k k' f g e
same (I.Registers o d a b) (I.Registers o' d' a' b') f g e = same_registers o o' d d' a a' b b' e
same (I.Fence p s) (I.Fence p' s') f g e = same_fence p p' s s' f g e
same I.Ecall I.Ecall f g e = refl
same I.Ebreak I.Ebreak f g e = refl
same _ _ f g e = absurd (omega arith)
