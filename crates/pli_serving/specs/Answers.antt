-- What a call of a service comes to, and the registers that it is given.
use Rattle.std.specs.Prelude.{ℕ, ◌+◌, ◌^◌, List, nat_lt, if◌then◌else◌}
use Rattle.pli_meaning.specs.World.{World}
use Rattle.pli_serving.specs.ServiceState.{Services}

-- the service is done, with the memory and with a0 and a1; the run has ended; or there is no such call, and nothing is changed
pub data Answer : Type 0 where
  Done : Services → (memory : List ℕ) → (a0 a1 : ℕ) → Answer
  Ends : Services → Answer
  Bad : Answer

abbrev pub a0 : (ℕ → ℕ) → ℕ
a0 x = x 10

abbrev pub a1 : (ℕ → ℕ) → ℕ
a1 x = x 11

abbrev pub a2 : (ℕ → ℕ) → ℕ
a2 x = x 12

abbrev pub a3 : (ℕ → ℕ) → ℕ
a3 x = x 13

abbrev pub a4 : (ℕ → ℕ) → ℕ
a4 x = x 14

abbrev pub a5 : (ℕ → ℕ) → ℕ
a5 x = x 15

abbrev pub a7 : (ℕ → ℕ) → ℕ
a7 x = x 17

abbrev pub with_world : World → Services → Services
with_world w v = record v { world = w }

-- one more act, where its number fits 64 bits
abbrev pub acting : Services → Answer → Answer
acting v answer = if nat_lt (v.world.acts + 1) (2 ^ 64) then answer else Bad
