-- What a refused source is answered with.
use Rattle.std.specs.Prelude.{◌≡◌, ◌≢◌, ℕ, List}
use Rattle.pli_language.specs.declared.fault.SourceFault.{SourceFault}
use Rattle.pli_language.specs.declared.fault.SourceKind.{SourceKind}
use Rattle.pli_language.specs.declared.fault.SourceKind.TheVariants.{Memory}
use Rattle.pli_language.specs.Tokens.{Refuses}

-- a fault is this refusal at this place
pub record IsRefusal (line column : ℕ) (kind : SourceKind) (fault : SourceFault) : Type 0 where
  pub line_is : fault.line ≡ line
  pub column_is : fault.column ≡ column
  pub kind_is : fault.kind ≡ kind

-- want of memory stands at 0:0
abbrev pub IsOutOfMemory : SourceFault → Type 0
IsOutOfMemory fault = IsRefusal 0 0 Memory fault

-- a fault is want of memory, or a refusal that the source gets
pub data IsFaultOf (s : List ℕ) (fault : SourceFault) : Type 0 where
  out_of_memory : IsOutOfMemory fault → IsFaultOf s fault
  refused : fault.kind ≢ Memory → Refuses s fault.line fault.column fault.kind → IsFaultOf s fault
