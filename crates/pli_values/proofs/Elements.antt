-- How long what is written of a value is.
use Rattle.std.proofs.Common.{zero, suc, ◌≡◌, ◌≤◌, ℕ, ◌+◌, ◌-◌, ◌/◌, List, ◌++◌, length, replicate, refl, sym, ap, ◌∙◌, arith}
use Rattle.std.proofs.lemmas.List.{length-append, length-replicate}
use Rattle.pli_typing.specs.Signatures.{LeafKind, Fixed, Character, Varying, Bit, Pointer, Offset, Area, leaf_bytes}
use Rattle.pli_meaning.specs.BasicValues.{BasicValue, Name, NullName, VariableName, BasedName}
use Rattle.pli_meaning.specs.Contents.{text_in, number_in, name_in}
use Rattle.rv_meaning.specs.Words.{word}
use Rattle.pli_serving.specs.Bytes.{with_bytes, number_bytes, name_bytes}
use Rattle.pli_serving.specs.Values.{value_bytes, element_bytes, element_size}
use Rattle.pli_values.specs.Sizes.{stored_size, written_size}
use Rattle.pli_values.proofs.Parts.{behind_part}
use Rattle.pli_values.proofs.Texts.{length_fitted}

length_number : (n v : ℕ) → length (number_bytes n v) ≡ n
length_number zero v = refl
length_number (suc n) v = ap suc (length_number n (v / 256))

length_name : (n : Name) → length (name_bytes n) ≡ 16
length_name NullName = refl
length_name (VariableName s) = refl
length_name (BasedName a o) = refl

pub length_value : (kind : LeafKind) (v : BasicValue) → length (value_bytes kind v) ≡ stored_size kind
length_value (Fixed p) v = length_number (leaf_bytes (Fixed p)) (word (number_in v))
length_value (Character n) v = length_fitted n (text_in v)
length_value (Varying n) v = simp length_fitted (omega arith)
length_value Bit v = refl
length_value Pointer v = length_name (name_in v)
length_value Offset v = refl
length_value (Area n) v = refl

pub length_element : (kind : LeafKind) (v : BasicValue) → length (element_bytes kind v) ≡ written_size kind
length_element kind v = simp (length-append, length-replicate, length_value) (omega arith)

-- zeros written behind a value
pub element_behind : (kind : LeafKind) (v : BasicValue) (at stored zeros : ℕ) (m n o : List ℕ) → stored ≡ stored_size kind → zeros ≡ element_size kind - leaf_bytes kind → at + stored ≤ length m → n ≡ with_bytes (value_bytes kind v) at m → o ≡ with_bytes (replicate zeros 0) (at + stored) n → o ≡ with_bytes (element_bytes kind v) at m
element_behind kind v at stored zeros m n o s z inside f h =
    let l : stored ≡ length (value_bytes kind v) = s ∙ sym (length_value kind v) in
    behind_part (value_bytes kind v) (replicate zeros 0) m n o at (at + stored) f (ap (λ j. at + j) l) (omega (arith, l)) h
    ∙ ap (λ j. with_bytes (value_bytes kind v ++ replicate j 0) at m) z

pub stored_within : (kind : LeafKind) → stored_size kind ≤ leaf_bytes kind
stored_within (Area n) = omega arith
stored_within (Fixed p) = omega arith
stored_within (Character n) = omega arith
stored_within (Varying n) = omega arith
stored_within Bit = omega arith
stored_within Pointer = omega arith
stored_within Offset = omega arith

pub value_within : (kind : LeafKind) → stored_size kind ≤ element_size kind
value_within kind = let w = stored_within kind in omega arith
