-- The parts of memory that frames are planned for, and numbers of bytes as far as a frame counts them.
use Rattle.std.specs.Prelude.{ℕ, min}
use Rattle.run_keeper.specs.RunKeeper.{run_keeper}
use Rattle.pli_coding.specs.Frames.{MemoryParts, usual_parts, last_place}

abbrev pub parts : MemoryParts
parts = usual_parts run_keeper.bytes_for

abbrev pub stopped : ℕ → ℕ
stopped n = min n last_place
