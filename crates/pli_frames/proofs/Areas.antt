-- Bytes of areas, counted up to the last place of a frame.
use Rattle.std.proofs.Common.{◌≡◌, ◌+◌, ◌*◌, ◌/◌, ℤ, arith}
use Rattle.pli_typing.specs.Signatures.{natural}
use Rattle.pli_coding.specs.Frames.{capacity_of}
use Rattle.pli_frames.specs.Parts.{parts, stopped}

-- a capacity may be stopped before what its keeper adds is counted
pub area_stopped : (z : ℤ) → stopped ((8 + stopped (natural z) / 16 * 16 / 16 + 15) / 16 * 16 + stopped (natural z) / 16 * 16) ≡ stopped (parts.area_bytes (capacity_of z))
area_stopped z = grind arith
