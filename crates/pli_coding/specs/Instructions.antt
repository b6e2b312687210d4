-- Short sequences of instructions.
use Rattle.std.specs.Prelude.{ℕ, ◌+◌, ◌*◌, ◌^◌, ℤ, pos, negsuc, int_le, Bool, ◌&&◌, [], ◌∷◌, ◌++◌, if◌then◌else◌}
use Rattle.rv_meaning.specs.declared.instr.Instr.{Instr}
use Rattle.rv_meaning.specs.declared.instr.Instr.TheVariants as I
use Rattle.rv_meaning.specs.declared.instr.Register.{Register}
use Rattle.rv_meaning.specs.declared.instr.RegisterOp.{RegisterOp}
use Rattle.rv_meaning.specs.declared.instr.RegisterOp.TheVariants as Op
use Rattle.rv_meaning.specs.declared.instr.ImmediateOp.{ImmediateOp}
use Rattle.rv_meaning.specs.declared.instr.ImmediateOp.TheVariants as Imm
use Rattle.rv_meaning.specs.declared.instr.ShiftOp.{ShiftOp}
use Rattle.rv_meaning.specs.declared.instr.LoadKind.TheVariants as Load
use Rattle.rv_meaning.specs.declared.instr.StoreKind.TheVariants as Store
use Rattle.rv_meaning.specs.declared.instr.BranchTest.{BranchTest}
use Rattle.rv_meaning.specs.declared.instr.BranchTest.TheVariants as Test
use Rattle.rv_meaning.specs.Words.{word}
use Rattle.pli_coding.specs.Registers.{zero_register, a0, a1, a7, far_register}
use Rattle.pli_coding.specs.Assembly.{Item, Plain, JumpTo, JumpAhead, JumpBack, RaiseError, Code, size_of}
use Rattle.pli_coding.specs.Linking.{upper_part, lower_part}

-- ---- one instruction

abbrev pub immediate : ImmediateOp → Register → Register → ℤ → Item
immediate op rd rs z = Plain (I.Immediate op rd rs z)

abbrev pub shift : ShiftOp → Register → Register → ℕ → Item
shift op rd rs amount = Plain (I.Shift op rd rs amount)

abbrev pub registers : RegisterOp → Register → Register → Register → Item
registers op rd rs rt = Plain (I.Registers op rd rs rt)

abbrev pub add : Register → Register → Register → Item
add rd rs rt = registers Op.Add rd rs rt

abbrev pub subtract : Register → Register → Register → Item
subtract rd rs rt = registers Op.Subtract rd rs rt

abbrev pub move : Register → Register → Item
move rd rs = immediate Imm.Add rd rs (pos 0)

-- a number below 2,048
abbrev pub small : Register → ℕ → Item
small r n = immediate Imm.Add r zero_register (pos n)

-- the word with the highest bit alone
abbrev pub lowest_number : Register → Item
lowest_number r = Plain (I.LoadUpper r (2 ^ 19))

-- ---- constants and displacements

abbrev pub is_immediate : ℤ → Bool
is_immediate z = int_le (negsuc 2047) z && int_le z (pos 2047)

abbrev pub constant : Register → ℤ → Code
constant r z =
    if is_immediate z then immediate Imm.Add r zero_register z ∷ []
    else Plain (I.LoadUpper r (upper_part (word z))) ∷ immediate Imm.Add r r (lower_part (word z)) ∷ []

abbrev pub number : Register → ℕ → Code
number r n = constant r (pos n)

-- an instruction with a register and a displacement from it, of any size
abbrev pub displaced : (Register → ℤ → Instr) → Register → ℤ → Code
displaced instruction r z =
    if is_immediate z then Plain (instruction r z) ∷ []
    else
    Plain (I.LoadUpper far_register (upper_part (word z)))
    ∷ add far_register far_register r
    ∷ Plain (instruction far_register (lower_part (word z)))
    ∷ []

-- a register's value and a constant
abbrev pub plus : Register → Register → ℤ → Code
plus rd rs z = displaced (λ r d. I.Immediate Imm.Add rd r d) rs z

abbrev pub load_word : Register → Register → ℤ → Code
load_word rd rs z = displaced (λ r d. I.Load Load.Word rd r d) rs z

-- the value of the second register is stored
abbrev pub store_word : Register → Register → ℤ → Code
store_word rs value z = displaced (λ r d. I.Store Store.Word r value d) rs z

-- ---- branches, over code whose size is small whatever the program

-- past the code where the test holds
abbrev pub skip_where : BranchTest → Register → Register → Code → Code
skip_where test r s code = Plain (I.Branch test r s (pos (4 * (1 + size_of code)))) ∷ code

-- the first code where the test holds, else the second one
abbrev pub choice : BranchTest → Register → Register → (first second : Code) → Code
choice test r s first second =
    skip_where test r s (second ++ JumpAhead (size_of first) ∷ []) ++ first

-- code that is done again while a0 is 0
abbrev pub repeated_while_zero : Code → Code
repeated_while_zero code = code ++ skip_where Test.NotEqual a0 zero_register (JumpBack (size_of code + 1) ∷ [])

-- ---- services

abbrev pub service : ℕ → Code
service n = small a7 n ∷ Plain I.Ecall ∷ []

-- ERROR where a service's status, in a1, isn't 0
abbrev pub status_tested : Code
status_tested = skip_where Test.Equal a1 zero_register (JumpTo RaiseError ∷ [])

abbrev pub tested_service : ℕ → Code
tested_service n = service n ++ status_tested

-- ERROR with a code
abbrev pub error_raised : (code : ℕ) → Code
error_raised code = small a1 code ∷ JumpTo RaiseError ∷ []
