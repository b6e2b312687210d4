-- How many bytes are written for a value.
use Rattle.std.specs.Prelude.{ℕ, ◌+◌, ◌-◌}
use Rattle.pli_typing.specs.Signatures.{LeafKind, Fixed, Character, Varying, Bit, Pointer, Offset, Area, leaf_bytes}
use Rattle.pli_serving.specs.Values.{element_size}

-- of a value alone: an area has none
abbrev pub stored_size : LeafKind → ℕ
stored_size (Area n) = 0
stored_size (Fixed p) = leaf_bytes (Fixed p)
stored_size (Character n) = leaf_bytes (Character n)
stored_size (Varying n) = leaf_bytes (Varying n)
stored_size Bit = leaf_bytes Bit
stored_size Pointer = leaf_bytes Pointer
stored_size Offset = leaf_bytes Offset

-- of an element, with the zeros behind its value
abbrev pub written_size : LeafKind → ℕ
written_size kind = stored_size kind + (element_size kind - leaf_bytes kind)
