-- How many registers a frame saves, and the size of the code that does.
use Rattle.std.proofs.Common.{◌≡◌, ℕ, zero, suc, ◌≤◌, refl, arith}
use Rattle.pli_typing.specs.TypedTree as Y
use Rattle.pli_coding.specs.Registers.{u0}
use Rattle.pli_coding.specs.Assembly.{size_of}
use Rattle.pli_coding.specs.Entries.{all_saved, all_restored}
use Rattle.pli_coding.specs.Statements.{held_with}

pub held_few : (program : Y.Program) (registers : ℕ) (body : Y.Stmts) → held_with program registers body ≤ 7
held_few program registers body = omega arith

pub saved_size : (count : ℕ) → count ≤ 7 → size_of (all_saved u0 count) ≡ suc count
saved_size zero few = refl
saved_size (suc zero) few = refl
saved_size (suc (suc zero)) few = refl
saved_size (suc (suc (suc zero))) few = refl
saved_size (suc (suc (suc (suc zero)))) few = refl
saved_size (suc (suc (suc (suc (suc zero))))) few = refl
saved_size (suc (suc (suc (suc (suc (suc zero)))))) few = refl
saved_size (suc (suc (suc (suc (suc (suc (suc zero))))))) few = refl
saved_size (suc (suc (suc (suc (suc (suc (suc (suc n)))))))) few = absurd (omega (arith, few))

pub restored_size : (count : ℕ) → count ≤ 7 → size_of (all_restored count) ≡ suc count
restored_size zero few = refl
restored_size (suc zero) few = refl
restored_size (suc (suc zero)) few = refl
restored_size (suc (suc (suc zero))) few = refl
restored_size (suc (suc (suc (suc zero)))) few = refl
restored_size (suc (suc (suc (suc (suc zero))))) few = refl
restored_size (suc (suc (suc (suc (suc (suc zero)))))) few = refl
restored_size (suc (suc (suc (suc (suc (suc (suc zero))))))) few = refl
restored_size (suc (suc (suc (suc (suc (suc (suc (suc n)))))))) few = absurd (omega (arith, few))
