-- Registers that are left.
use Rattle.std.specs.Prelude.{ℕ, ◌-◌}
use Rattle.pli_coding.specs.Environments.{Taken}

-- how many of the seven registers for numbers hold nothing
abbrev pub spare : Taken → ℕ
spare t = 7 - t.registers
