-- Values and their bytes, computed.
use Rattle.std.proofs.Common.{◌≡◌, pos, negsuc, true, [], ◌∷◌, Some, None, replicate, refl}
use lib.Chars.{codes}
use Rattle.pli_typing.specs.Signatures.{Fixed, Character, Varying, Bit, Pointer, Offset, PlainClass}
use Rattle.pli_language.specs.Tree.{InitialNumber, InitialText}
use Rattle.pli_meaning.specs.BasicValues.{BasedName, BasicNumber, BasicText, BasicBit, BasicPointer, BasicOffset}
use Rattle.pli_meaning.specs.Contents.{Shape, fresh}
use Rattle.pli_serving.specs.Values.{value_bytes, value_at, generation_bytes}

small_number_has_two_bytes : value_bytes (Fixed 15) (BasicNumber (negsuc 1)) ≡ 254 ∷ 255 ∷ []
small_number_has_two_bytes = refl

large_number_has_four_bytes : value_bytes (Fixed 16) (BasicNumber (pos 65538)) ≡ 2 ∷ 0 ∷ 1 ∷ 0 ∷ []
large_number_has_four_bytes = refl

text_is_padded : value_bytes (Character 3) (BasicText (codes "A")) ≡ codes "A  "
text_is_padded = refl

varying_text_is_behind_its_length : value_bytes (Varying 3) (BasicText (codes "AB")) ≡ 2 ∷ 0 ∷ codes "AB "
varying_text_is_behind_its_length = refl

bit_is_a_byte : value_bytes Bit (BasicBit true) ≡ 1 ∷ []
bit_is_a_byte = refl

pointer_is_a_name :
    value_bytes Pointer (BasicPointer (BasedName 3 16))
    ≡ 2 ∷ 0 ∷ 0 ∷ 0 ∷ 16 ∷ 0 ∷ 0 ∷ 0 ∷ 3 ∷ 0 ∷ 0 ∷ 0 ∷ 0 ∷ 0 ∷ 0 ∷ 0 ∷ []
pointer_is_a_name = refl

null_offset_has_all_bits : value_bytes Offset (BasicOffset None) ≡ replicate 4 255
null_offset_has_all_bits = refl

small_number_is_read : value_at (Fixed 15) 1 (7 ∷ 254 ∷ 255 ∷ []) ≡ BasicNumber (negsuc 1)
small_number_is_read = refl

large_number_is_read : value_at (Fixed 31) 0 (2 ∷ 0 ∷ 1 ∷ 0 ∷ []) ≡ BasicNumber (pos 65538)
large_number_is_read = refl

varying_text_is_read : value_at (Varying 3) 0 (2 ∷ 0 ∷ codes "AB ") ≡ BasicText (codes "AB")
varying_text_is_read = refl

name_is_read : value_at Pointer 0 (value_bytes Pointer (BasicPointer (BasedName 3 16))) ≡ BasicPointer (BasedName 3 16)
name_is_read = refl

offset_is_read : value_at Offset 0 (32 ∷ 0 ∷ 0 ∷ 0 ∷ []) ≡ BasicOffset (Some 32)
offset_is_read = refl

-- 1 N(0:1) FIXED BINARY(15) INITIAL(5), 1 T CHARACTER(3) INITIAL('A')
abbrev pair_and_text : Shape
pair_and_text =
    record {
      signature =
          record {
            class = PlainClass;
            leaves =
                record { kind = Fixed 15; bounds = record { lower = pos 0; upper = pos 1 } ∷ [] }
                ∷ record { kind = Character 3; bounds = [] }
                ∷ [];
          };
      refer = None;
    }

elements_stand_leaf_after_leaf :
    generation_bytes (fresh pair_and_text (pos 0) (
    (record { repetition = 1; value = InitialNumber (pos 5) } ∷ [])
    ∷ (record { repetition = 1; value = InitialText (codes "A") } ∷ [])
    ∷ []))
    ≡ 5 ∷ 0 ∷ 0 ∷ 0 ∷ 0 ∷ 0 ∷ 0 ∷ 0 ∷ 65 ∷ 32 ∷ 32 ∷ 0 ∷ []
elements_stand_leaf_after_leaf = refl
