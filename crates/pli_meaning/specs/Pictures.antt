-- What of an image takes part in its run, and a machine that is about to run it.
use Rattle.std.specs.Prelude.{ℕ, ◌+◌, ◌-◌, ◌*◌, List, ◌++◌, length, map, replicate}
use Rattle.rv_meaning.specs.declared.instr.Instr.{Instr}
use Rattle.rv_meaning.specs.Memory.{bytes_of_words}
use Rattle.rv_meaning.specs.Encoding.{word_of}
use Rattle.rv_meaning.specs.Machine.{Loaded, State, memory_size}
use Rattle.pli_typing.specs.Signatures.{rounded_up}

-- an image: its instructions, its static bytes, and where it is entered, in bytes from its start
pub record Picture : Type 0 where
  pub code : List Instr
  pub statics : List ℕ
  pub entry : ℕ

-- twice the code words plus 2: an act in so many instructions is what runs promise
abbrev pub step_cost : Picture → ℕ
step_cost image = 2 * length image.code + 2

abbrev pub loaded_at : Picture → ℕ → Loaded
loaded_at image base = record { base = base; code = image.code }

-- the code, the static data from the next multiple of 16 on, and zeros
abbrev pub first_bytes : Picture → List ℕ
first_bytes image =
    let code = bytes_of_words (map word_of image.code) in
    let statics_at = rounded_up 16 (length code) in
    code ++ (replicate (statics_at - length code) 0 ++ (image.statics ++ replicate (memory_size - (statics_at + length image.statics)) 0))

-- a machine starts with all registers 0 at the entry
abbrev pub first_machine : Picture → ℕ → State
first_machine image base =
    record { registers = λ r. 0; memory = first_bytes image; pc = base + image.entry }
