-- Where structures begin among the declarations of a block.
use Rattle.std.specs.Prelude.{ℕ, if◌then◌else◌}
use Rattle.pli_language.specs.Declarations.{What, Variable', Label, ProcedureName}
use Rattle.pli_language.specs.Declaring.{stands_alone}

-- where the structure begins that the next declaration may go on with, after the one at this place
abbrev pub start_of : ℕ → ℕ → ℕ → What → ℕ
start_of start index next (Variable' h) = if stands_alone h then index else start
start_of start index next Label = next
start_of start index next (ProcedureName head) = next
