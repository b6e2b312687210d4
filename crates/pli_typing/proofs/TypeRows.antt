-- Data sizes, footprints and lengths, computed on the definitions.
use Rattle.std.proofs.Common.{◌≡◌, ℕ, ◌-◌, ◌^◌, pos, negsuc, List, [], ◌∷◌, Option, Some, None, true, false, map, refl}
use Rattle.pli_typing.specs.Signatures as S
use Rattle.pli_typing.specs.Kinds as K

-- an array of texts of 5 bytes with these bounds
abbrev texts : S.Bounds → S.Signature
texts bounds = record { class = S.PlainClass; leaves = record { kind = S.Character 5; bounds = bounds ∷ [] } ∷ [] }

short_number : S.data_size (S.scalar (S.Fixed 15)) ≡ 4
short_number = refl

short_number_bytes : S.leaf_bytes (S.Fixed 15) ≡ 2
short_number_bytes = refl

long_number_bytes : S.leaf_bytes (S.Fixed 16) ≡ 4
long_number_bytes = refl

text : S.data_size (S.scalar (S.Character 5)) ≡ 8
text = refl

varying_text : S.data_size (S.scalar (S.Varying 5)) ≡ 8
varying_text = refl

varying_text_of_7 : S.data_size (S.scalar (S.Varying 7)) ≡ 12
varying_text_of_7 = refl

bit : S.data_size (S.scalar S.Bit) ≡ 4
bit = refl

pointer : S.data_size (S.scalar S.Pointer) ≡ 16
pointer = refl

offset : S.data_size (S.scalar S.Offset) ≡ 4
offset = refl

-- AREA alone is AREA(1000)
area : S.data_size (S.scalar (S.area_of_size 1000)) ≡ 992
area = refl

three_texts : S.data_size (texts (record { lower = pos 1; upper = pos 3 })) ≡ 24
three_texts = refl

texts_from_below_0 : S.data_size (texts (record { lower = negsuc 0; upper = pos 1 })) ≡ 24
texts_from_below_0 = refl

no_texts : S.data_size (texts (record { lower = pos 5; upper = pos 3 })) ≡ 0
no_texts = refl

footprint_of_nothing : S.footprint 0 ≡ 16
footprint_of_nothing = refl

footprint_of_a_word : S.footprint 4 ≡ 32
footprint_of_a_word = refl

footprint_of_48 : S.footprint 48 ≡ 64
footprint_of_48 = refl

footprint_of_the_most : S.capped (S.footprint (2 ^ 64 - 1)) ≡ 2 ^ 64 - 1
footprint_of_the_most = refl

text_of_short_number : K.converted_length 15 ≡ 9
text_of_short_number = refl

text_of_long_number : K.converted_length 16 ≡ 14
text_of_long_number = refl

abbrev scalar_size : S.LeafKind → ℕ
scalar_size kind = S.data_size (S.scalar kind)

scalar_sizes : map scalar_size (S.Fixed 1 ∷ S.Fixed 16 ∷ S.Fixed 31 ∷ S.Character 0 ∷ S.Character 1 ∷ S.Character 1024 ∷ S.Varying 0 ∷ S.Varying 2 ∷ S.Varying 1024 ∷ []) ≡ 4 ∷ 4 ∷ 4 ∷ 0 ∷ 4 ∷ 1024 ∷ 4 ∷ 4 ∷ 1028 ∷ []
scalar_sizes = refl

area_sizes : map scalar_size (S.area_of_size 15 ∷ S.area_of_size (2 ^ 32 - 1) ∷ S.Area (2 ^ 32 - 1) ∷ []) ≡ 0 ∷ 4294967280 ∷ 4294967296 ∷ []
area_sizes = refl

abbrev array_size : S.LeafKind → List S.Bounds → ℕ
array_size kind bounds = S.leaf_size (record { kind = kind; bounds = bounds })

-- 3 and 5 elements; none; all that 32 bits can bound, 2^31 and 2^30
abbrev three : S.Bounds
three = record { lower = pos 1; upper = pos 3 }

abbrev five : S.Bounds
five = record { lower = negsuc 1; upper = pos 2 }

abbrev none : S.Bounds
none = record { lower = pos 1; upper = pos 0 }

abbrev backwards : S.Bounds
backwards = record { lower = pos 5; upper = pos 3 }

abbrev widest : S.Bounds
widest = record { lower = negsuc (2 ^ 31 - 1); upper = pos (2 ^ 31 - 1) }

abbrev half : S.Bounds
half = record { lower = pos 0; upper = pos (2 ^ 31 - 1) }

abbrev quarter : S.Bounds
quarter = record { lower = pos 1; upper = pos (2 ^ 30) }

texts_in_two_dimensions : array_size (S.Character 5) (three ∷ five ∷ []) ≡ 120
texts_in_two_dimensions = refl

short_numbers : array_size (S.Fixed 15) (five ∷ []) ≡ 20
short_numbers = refl

no_pointers : array_size S.Pointer (none ∷ []) ≡ 0
no_pointers = refl

no_pointers_backwards : array_size S.Pointer (backwards ∷ []) ≡ 0
no_pointers_backwards = refl

bits_of_the_widest_dimension : array_size S.Bit (widest ∷ []) ≡ 17179869184
bits_of_the_widest_dimension = refl

-- one too many for 64 bits; half as many fit
most_numbers : S.capped (array_size (S.Fixed 31) (half ∷ half ∷ [])) ≡ 2 ^ 64 - 1
most_numbers = refl

half_of_the_most : S.capped (array_size (S.Fixed 31) (half ∷ quarter ∷ [])) ≡ 2 ^ 63
half_of_the_most = refl

empty_texts : array_size (S.Character 0) (widest ∷ widest ∷ []) ≡ 0
empty_texts = refl

-- an empty dimension is empty wherever it stands
empty_dimensions : map (array_size (S.Fixed 31)) ((none ∷ widest ∷ widest ∷ []) ∷ (widest ∷ none ∷ widest ∷ []) ∷ (widest ∷ widest ∷ none ∷ []) ∷ []) ≡ 0 ∷ 0 ∷ 0 ∷ []
empty_dimensions = refl

abbrev plain : S.LeafKind → S.Leaf
plain kind = record { kind = kind; bounds = [] }

structure_size : map S.leaves_size ([] ∷ (plain (S.Fixed 31) ∷ plain (S.Varying 5) ∷ []) ∷ (plain (S.Fixed 31) ∷ plain (S.Varying 5) ∷ plain S.Pointer ∷ plain S.Offset ∷ []) ∷ []) ≡ 0 ∷ 12 ∷ 32 ∷ []
structure_size = refl

footprints : map S.footprint (1 ∷ 16 ∷ 17 ∷ []) ≡ 32 ∷ 32 ∷ 48 ∷ []
footprints = refl

great_footprints : map (λ n. S.capped (S.footprint (2 ^ 64 - n))) (33 ∷ 32 ∷ 31 ∷ 16 ∷ 15 ∷ 1 ∷ []) ≡ (2 ^ 64 - 16) ∷ (2 ^ 64 - 16) ∷ (2 ^ 64 - 1) ∷ (2 ^ 64 - 1) ∷ (2 ^ 64 - 1) ∷ (2 ^ 64 - 1) ∷ []
great_footprints = refl

converted_lengths : map K.converted_length (1 ∷ 31 ∷ []) ≡ 9 ∷ 14 ∷ []
converted_lengths = refl

-- what a value of a kind becomes where each kind is due: numbers, texts, bits, pointers, offsets with an area and without,
-- the null value, areas
abbrev conversions_from : K.Kind → List (Option K.Conversion)
conversions_from from = map (K.conversion from) (K.NumberKind 15 ∷ K.TextKind ∷ K.BitKind ∷ K.PointerKind ∷ K.OffsetKind true ∷ K.OffsetKind false ∷ K.NullKind ∷ K.AreaKind ∷ [])

from_numbers : conversions_from (K.NumberKind 31) ≡ Some K.Keeps ∷ Some (K.NumberToText 31) ∷ None ∷ None ∷ None ∷ None ∷ None ∷ None ∷ []
from_numbers = refl

from_texts : conversions_from K.TextKind ≡ Some K.TextToNumber ∷ Some K.Keeps ∷ Some K.TextToBit ∷ None ∷ None ∷ None ∷ None ∷ None ∷ []
from_texts = refl

from_bits : conversions_from K.BitKind ≡ Some K.BitToNumber ∷ Some K.BitToText ∷ Some K.Keeps ∷ None ∷ None ∷ None ∷ None ∷ None ∷ []
from_bits = refl

from_pointers : conversions_from K.PointerKind ≡ None ∷ None ∷ None ∷ Some K.Keeps ∷ Some K.PointerToOffset ∷ None ∷ None ∷ None ∷ []
from_pointers = refl

from_offsets : conversions_from (K.OffsetKind true) ≡ None ∷ None ∷ None ∷ Some K.OffsetToPointer ∷ Some K.Keeps ∷ Some K.Keeps ∷ None ∷ None ∷ []
from_offsets = refl

from_offsets_without_area : conversions_from (K.OffsetKind false) ≡ None ∷ None ∷ None ∷ None ∷ Some K.Keeps ∷ Some K.Keeps ∷ None ∷ None ∷ []
from_offsets_without_area = refl

from_null : conversions_from K.NullKind ≡ None ∷ None ∷ None ∷ Some K.Keeps ∷ Some K.Keeps ∷ Some K.Keeps ∷ None ∷ None ∷ []
from_null = refl

from_areas : conversions_from K.AreaKind ≡ None ∷ None ∷ None ∷ None ∷ None ∷ None ∷ None ∷ Some K.Keeps ∷ []
from_areas = refl
