-- Words of instructions, and short programs, computed on the definitions.
use Rattle.std.proofs.Common.{◌≡◌, ℕ, zero, suc, ◌^◌, ◌-◌, List, [], ◌∷◌, Option, Some, None, Bool, true, false, refl, lit<}
use Rattle.std.specs.Prelude.{pos, negsuc, replicate}
use Rattle.rv_meaning.specs.declared.instr.Register.{Register}
use Rattle.rv_meaning.specs.declared.instr.RegisterOp.TheVariants as Op
use Rattle.rv_meaning.specs.declared.instr.ImmediateOp.TheVariants as Imm
use Rattle.rv_meaning.specs.declared.instr.LoadKind.TheVariants as Load
use Rattle.rv_meaning.specs.declared.instr.StoreKind.TheVariants as Store
use Rattle.rv_meaning.specs.declared.instr.BranchTest.TheVariants as Test
use Rattle.rv_meaning.specs.declared.instr.Fault.{Fault}
use Rattle.rv_meaning.specs.declared.instr.Fault.TheVariants.{Illegal, Misaligned, Range}
use Rattle.rv_meaning.specs.declared.instr.Instr.{Instr}
use Rattle.rv_meaning.specs.declared.instr.Instr.TheVariants as I
use Rattle.rv_meaning.specs.Encoding.{word_of}
use Rattle.rv_meaning.specs.Machine.{Loaded, Effect, Goes, Faults, Calls, effect}

abbrev zero_register : Register
zero_register = record { index = 0; in_range = lit< tt }

abbrev ra : Register
ra = record { index = 1; in_range = lit< tt }

abbrev sp : Register
sp = record { index = 2; in_range = lit< tt }

abbrev t0 : Register
t0 = record { index = 5; in_range = lit< tt }

word_of_addi : word_of (I.Immediate Imm.Add ra zero_register (pos 5)) ≡ 0x00500093
word_of_addi = refl

word_of_mul : word_of (I.Registers Op.Multiply zero_register ra sp) ≡ 0x02208033
word_of_mul = refl

word_of_ecall : word_of I.Ecall ≡ 0x00000073
word_of_ecall = refl

word_of_branch : word_of (I.Branch Test.NotEqual ra zero_register (negsuc 7)) ≡ 0xfe009ce3
word_of_branch = refl

word_of_jump : word_of (I.Jump zero_register (negsuc 3)) ≡ 0xffdff06f
word_of_jump = refl

abbrev t1 : Register
t1 = record { index = 6; in_range = lit< tt }

abbrev t2 : Register
t2 = record { index = 7; in_range = lit< tt }

-- what stands after n instructions, all of which ran: a register's value; else a number that no word has
abbrev register_after : ℕ → Loaded → ℕ → Effect → ℕ
register_after n p r (Faults f) = 2 ^ 32
register_after n p r Calls = 2 ^ 32
register_after zero p r (Goes s) = s.registers r
register_after (suc n) p r (Goes s) = register_after n p r (effect p s)

-- what the instruction after those does, where it doesn't run
abbrev stopped_by : ℕ → Loaded → Effect → Option Fault
stopped_by n p (Faults f) = Some f
stopped_by n p Calls = None
stopped_by zero p (Goes s) = None
stopped_by (suc n) p (Goes s) = stopped_by n p (effect p s)

abbrev calls_after : ℕ → Loaded → Effect → Bool
calls_after n p (Faults f) = false
calls_after zero p Calls = true
calls_after (suc n) p Calls = false
calls_after zero p (Goes s) = false
calls_after (suc n) p (Goes s) = calls_after n p (effect p s)

abbrev start : ℕ → Effect
start base = Goes (record { registers = λ _. 0; memory = replicate 64 0; pc = base })

-- the numbers from 10 down to 1 are summed up in a loop, then a service is called
abbrev summing : List Instr
summing =
    I.Immediate Imm.Add t0 zero_register (pos 10)
    ∷ I.Registers Op.Add t1 t1 t0
    ∷ I.Immediate Imm.Add t0 t0 (negsuc 0)
    ∷ I.Branch Test.NotEqual t0 zero_register (negsuc 7)
    ∷ I.Ecall
    ∷ []

summing_sums : register_after 31 (record { base = 0; code = summing }) 6 (start 0) ≡ 55
summing_sums = refl

summing_calls : calls_after 32 (record { base = 0; code = summing }) (start 0) ≡ true
summing_calls = refl

-- a half word is written past the code and its bytes are read again, at another base
abbrev storing : List Instr
storing =
    I.AddUpperToPc t0 0
    ∷ I.Immediate Imm.Add t1 zero_register (negsuc 1)
    ∷ I.Store Store.Half t0 t1 (pos 32)
    ∷ I.Load Load.Byte t1 t0 (pos 32)
    ∷ I.Load Load.HalfUnsigned t2 t0 (pos 32)
    ∷ I.Store Store.Word t0 t1 (pos 16)
    ∷ []

storing_reads_signed : register_after 5 (record { base = 4096; code = storing }) 6 (start 4096) ≡ 2 ^ 32 - 2
storing_reads_signed = refl

storing_reads_unsigned : register_after 5 (record { base = 4096; code = storing }) 7 (start 4096) ≡ 2 ^ 16 - 2
storing_reads_unsigned = refl

-- a store into the code is out of range
storing_stops : stopped_by 6 (record { base = 4096; code = storing }) (start 4096) ≡ Some Range
storing_stops = refl

-- a call links and drops bit 0 of its target; a load that is neither aligned nor in range is misaligned first
abbrev calling : List Instr
calling =
    I.JumpRegister ra zero_register (pos 9)
    ∷ I.Ebreak
    ∷ I.Load Load.Half t0 zero_register (negsuc 0)
    ∷ []

calling_links : register_after 1 (record { base = 0; code = calling }) 1 (start 0) ≡ 4
calling_links = refl

calling_stops : stopped_by 2 (record { base = 0; code = calling }) (start 0) ≡ Some Misaligned
calling_stops = refl

breaking_stops : stopped_by 1 (record { base = 0; code = I.Ebreak ∷ [] }) (start 0) ≡ Some Illegal
breaking_stops = refl

fetching_stops : stopped_by 1 (record { base = 4096; code = I.Ecall ∷ [] }) (start 0) ≡ Some Range
fetching_stops = refl
