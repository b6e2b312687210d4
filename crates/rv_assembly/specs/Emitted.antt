-- Pieces of the short sequences.
use Rattle.std.specs.Prelude.{ℕ, [], ◌∷◌}
use Rattle.rv_meaning.specs.declared.instr.Instr.TheVariants as I
use Rattle.rv_meaning.specs.declared.instr.Register.{Register}
use Rattle.rv_meaning.specs.declared.instr.ImmediateOp.TheVariants as Imm
use Rattle.pli_coding.specs.Assembly.{Plain, Code}
use Rattle.pli_coding.specs.Linking.{upper_part, lower_part}
use Rattle.pli_coding.specs.Instructions.{immediate}

-- a word in two instructions
abbrev pub wide : Register → ℕ → Code
wide r w = Plain (I.LoadUpper r (upper_part w)) ∷ immediate Imm.Add r r (lower_part w) ∷ []
