-- INITIAL of a variable stands in the static data, and service 7 reads there what the variable begins with.
use Rattle.std.proofs.Common.{◌≡◌, ℕ, ◌*◌, ◌^◌, ◌<◌, List, [], ◌∷◌, length, Option, Some, None, true, false, refl, arith, Bool}
use Rattle.std.specs.Prelude.{slice_index, pos}
use Rattle.rv_meaning.specs.declared.instr.Instr.{Instr}
use Rattle.pli_language.specs.Tree as T
use Rattle.rv_meaning.specs.Machine.{memory_size}
use Rattle.pli_typing.specs.Signatures.{Bounds}
use Rattle.pli_typing.specs.TypedTree as Y
use Rattle.pli_meaning.specs.DeclaredShapes.{kind_of}
use Rattle.pli_serving.specs.ServiceState.{Services}
use Rattle.pli_serving.specs.InitialValues.{initial_values}
use Rattle.pli_coding.specs.Assembly.{Datum, InitialValues, DataPlace, Code}
use Rattle.pli_coding.specs.StaticForms.{initial_datum}
use Rattle.pli_coding.specs.Linking.{Links, links_of, place_of}
use Rattle.pli_coding.specs.Images.{linked_code, picture_of_code}
use Rattle.pli_meaning.specs.Pictures.{first_bytes}
use Rattle.pli_headline.specs.Headline.{FitsMemory}
use Rattle.pli_headline.specs.ProvedSoFar.{plain_variable, text_leaf, IsHeld, IsElementType, Kind, AreConstants, IsScalar}
use Rattle.run_steps.specs.Engine.{call_at}
use Rattle.run_steps.specs.DataNamed.{IsNamed}
use Rattle.pli_headline.proofs.ArrayMeant.{array_shape}
use Rattle.pli_headline.proofs.ArrayRead.{array_reads}
use Rattle.pli_headline.proofs.ArrayInitial.{all_given}
use Rattle.pli_headline.proofs.TextItems.{text_items_read}
use Rattle.pli_headline.proofs.InitialLists.{leaf_of_items, list_small, list_reads}

-- ---- in memory

-- the datum that the code of a variable names, if any
abbrev pub start_datum : List T.InitialItem → Option Datum
start_datum items = initial_datum (plain_variable Y.BitLeaf items)

abbrev pub start_of : Links → Option Datum → ℕ
start_of links None = 0
start_of links (Some d) = place_of links (DataPlace d)

abbrev pub IsNamedIf : Option Datum → Code → Type 0
IsNamedIf None code = Unit {0}
IsNamedIf (Some d) code = IsNamed d code

-- what service 7 reads of what a variable begins with
pub record Reads (links : Links) (code : List Instr) (first : List ℕ) (kind : Kind) (items : List T.InitialItem) : Type 0 where
  pub small' : start_of links (start_datum items) < 2 ^ 32
  pub read : (v : Services) (m : List ℕ) → length m ≡ memory_size → ((k : ℕ) → k < 7 * 2 ^ 20 → slice_index m k ≡ slice_index first k) → initial_values (call_at code v m) (array_shape kind.type kind.bounds).signature.leaves (start_of links (start_datum items)) ≡ Some (items ∷ [])

-- ---- numbers, bits and arrays

numbers_read : (program : Code) → FitsMemory (picture_of_code program) → 0 < length (linked_code program) → (type : Y.LeafType) (bs : List Bounds) (i : T.InitialItem) (more : List T.InitialItem) → IsElementType type → AreConstants type (i ∷ more) → IsNamed (InitialValues (leaf_of_items (i ∷ more) ∷ [])) program → Reads (links_of program) (linked_code program) (first_bytes (picture_of_code program)) (record { type = type; bounds = bs }) (i ∷ more)
numbers_read program fits some type bs i more element begins named =
    let given = all_given type (i ∷ more) element begins in
    record {
      small' = list_small program fits (i ∷ more) named;
      read = λ u m size same. array_reads program fits some type bs (i ∷ more) element given.0 given.1 named u m same;
    }

-- ---- texts

texts_read : (program : Code) → FitsMemory (picture_of_code program) → 0 < length (linked_code program) → (varying : Bool) (most : ℕ) (bs : List Bounds) (i : T.InitialItem) (more : List T.InitialItem) → AreConstants (text_leaf varying most) (i ∷ more) → IsNamed (InitialValues (leaf_of_items (i ∷ more) ∷ [])) program → Reads (links_of program) (linked_code program) (first_bytes (picture_of_code program)) (record { type = text_leaf varying most; bounds = bs }) (i ∷ more)
texts_read program fits some varying most bs i more begins named =
    record {
      small' = list_small program fits (i ∷ more) named;
      read = λ u m size same. list_reads program fits some (kind_of [] (text_leaf varying most)) bs (i ∷ more) named u m same
          (λ at stands. text_items_read (linked_code program) u m varying most (i ∷ more) at size begins stands);
    }

-- ---- all

items_reads : (program : Code) → FitsMemory (picture_of_code program) → 0 < length (linked_code program) → (type : Y.LeafType) (bs : List Bounds) (i : T.InitialItem) (more : List T.InitialItem) → IsScalar type → AreConstants type (i ∷ more) → IsNamed (InitialValues (leaf_of_items (i ∷ more) ∷ [])) program → Reads (links_of program) (linked_code program) (first_bytes (picture_of_code program)) (record { type = type; bounds = bs }) (i ∷ more)
items_reads program fits some (Y.FixedLeaf p) bs i more held begins named = numbers_read program fits some (Y.FixedLeaf p) bs i more held begins named
items_reads program fits some Y.BitLeaf bs i more held begins named = numbers_read program fits some Y.BitLeaf bs i more tt begins named
items_reads program fits some (Y.CharacterLeaf (Y.ConstantExtent (pos n))) bs i more held begins named = texts_read program fits some false n bs i more begins named
items_reads program fits some (Y.VaryingLeaf (Y.ConstantExtent (pos n))) bs i more held begins named = texts_read program fits some true n bs i more begins named
items_reads program fits some _ bs i more held begins named = absurd held

pub kind_reads : (program : Code) → FitsMemory (picture_of_code program) → 0 < length (linked_code program) → (type : Y.LeafType) (bs : List Bounds) (items : List T.InitialItem) → IsHeld type bs → AreConstants type items → IsNamedIf (start_datum items) program → Reads (links_of program) (linked_code program) (first_bytes (picture_of_code program)) (record { type = type; bounds = bs }) items
kind_reads program fits some type bs [] held begins named =
    record { small' = omega arith; read = λ u m size same. refl }
kind_reads program fits some type [] (i ∷ more) held begins named = items_reads program fits some type [] i more held begins named
kind_reads program fits some type (b ∷ bs) (i ∷ more) held begins named = items_reads program fits some type (b ∷ bs) i more held.0 begins named
