-- The registers of the code, by what they hold.
use Rattle.std.specs.Prelude.{ℕ, zero, suc}
use Rattle.std.proofs.Common.{lit<}
use Rattle.rv_meaning.specs.declared.instr.Register.{Register}

abbrev pub zero_register : Register
zero_register = record { index = 0; in_range = lit< tt }

-- where a call goes on; in the raise routine where the program goes on
abbrev pub return_register : Register
return_register = record { index = 1; in_range = lit< tt }

-- the first free byte of the upper stack
abbrev pub stack_register : Register
stack_register = record { index = 2; in_range = lit< tt }

-- the frame of the running block
abbrev pub frame_register : Register
frame_register = record { index = 8; in_range = lit< tt }

-- ---- whole numbers that wait in expressions

abbrev pub held_registers : ℕ
held_registers = 7

-- the seven by their place
abbrev pub held : ℕ → Register
held zero = record { index = 9; in_range = lit< tt }
held (suc zero) = record { index = 18; in_range = lit< tt }
held (suc (suc zero)) = record { index = 19; in_range = lit< tt }
held (suc (suc (suc zero))) = record { index = 20; in_range = lit< tt }
held (suc (suc (suc (suc zero)))) = record { index = 21; in_range = lit< tt }
held (suc (suc (suc (suc (suc zero))))) = record { index = 22; in_range = lit< tt }
held (suc (suc (suc (suc (suc (suc n)))))) = record { index = 23; in_range = lit< tt }

-- ---- arguments and results of services; a0 also has the value of an expression

abbrev pub a0 : Register
a0 = record { index = 10; in_range = lit< tt }

abbrev pub a1 : Register
a1 = record { index = 11; in_range = lit< tt }

abbrev pub a2 : Register
a2 = record { index = 12; in_range = lit< tt }

abbrev pub a3 : Register
a3 = record { index = 13; in_range = lit< tt }

abbrev pub a4 : Register
a4 = record { index = 14; in_range = lit< tt }

abbrev pub a5 : Register
a5 = record { index = 15; in_range = lit< tt }

-- the number of a service
abbrev pub a7 : Register
a7 = record { index = 17; in_range = lit< tt }

-- ---- scratch, never live across an act; the last one serves large displacements and jumps alone

abbrev pub u0 : Register
u0 = record { index = 5; in_range = lit< tt }

abbrev pub u1 : Register
u1 = record { index = 6; in_range = lit< tt }

abbrev pub u2 : Register
u2 = record { index = 7; in_range = lit< tt }

abbrev pub u3 : Register
u3 = record { index = 28; in_range = lit< tt }

abbrev pub u4 : Register
u4 = record { index = 29; in_range = lit< tt }

abbrev pub u5 : Register
u5 = record { index = 30; in_range = lit< tt }

abbrev pub far_register : Register
far_register = record { index = 31; in_range = lit< tt }
