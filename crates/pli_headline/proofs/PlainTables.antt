-- The table of a program whose variables are scalars, texts and arrays: it keeps the rules of tables.
use Rattle.std.proofs.Common.{◌≡◌, ℕ, ◌≤◌, List, [], ◌∷◌, true, refl, sym, ap, ◌∙◌, subst, arith, length}
use Rattle.std.specs.Prelude.{pos, nat_le, ◌&&◌, ◌||◌, ◌==◌}
use Rattle.std.specs.List.{flat_map}
use Rattle.std.proofs.lemmas.Bool.{le-leb}
use Rattle.rv_meaning.specs.Tables.{TableSignature, AreSignatures, run_time_size}
use Rattle.pli_typing.specs.TypedTree as Y
use Rattle.pli_coding.specs.SignatureTable.{table_of}
use Rattle.pli_headline.specs.ProvedSoFar.{IsProvedSoFar, IsScalar, IsHeld, AreBounds, Kind, alone}
use Rattle.pli_headline.proofs.PlainSignatures.{kind_signature, AreKinds, all_kinds}
use Rattle.pli_headline.proofs.MainProcedure.{all_plain}
use Rattle.pli_typing.specs.Signatures.{Bounds}
use Rattle.pli_headline.proofs.Scalars.{by_shape}
use Rattle.pli_headline.proofs.ArraySignatures.{array_signed, array_kept}

precision_fits : (p : ℕ) → 1 ≤ p → p ≤ 31 → (nat_le 1 p && nat_le p 31) ≡ true
precision_fits p h k = ap (λ t. t && nat_le p 31) (le-leb 1 p h) ∙ le-leb p 31 k

length_fits : (n : ℕ) → n ≤ 1024 → (nat_le n 1024 || (n == run_time_size)) ≡ true
length_fits n h = ap (λ t. t || (n == run_time_size)) (le-leb n 1024 h)

scalar_fits : (type : Y.LeafType) → IsScalar type → AreSignatures (kind_signature (alone type) ∷ [])
scalar_fits (Y.FixedLeaf p) is =
    (record { headed = refl; leaved = (record { sized = precision_fits p is.0 is.1; few = omega arith; bounded = tt; placed = refl }, tt) }, tt)
scalar_fits Y.BitLeaf is =
    (record { headed = refl; leaved = (record { sized = refl; few = omega arith; bounded = tt; placed = refl }, tt) }, tt)
scalar_fits (Y.CharacterLeaf (Y.ConstantExtent (pos n))) is =
    (record { headed = refl; leaved = (record { sized = length_fits n is.1; few = omega arith; bounded = tt; placed = refl }, tt) }, tt)
scalar_fits (Y.VaryingLeaf (Y.ConstantExtent (pos n))) is =
    (record { headed = refl; leaved = (record { sized = length_fits n is.1; few = omega arith; bounded = tt; placed = refl }, tt) }, tt)
scalar_fits _ is = absurd is

array_fits : (type : Y.LeafType) (b : Bounds) (bs : List Bounds) → IsScalar type → AreBounds (b ∷ bs) → length (b ∷ bs) ≤ 8 → AreSignatures (kind_signature (record { type = type; bounds = b ∷ bs }) ∷ [])
array_fits type b bs element are few =
    subst (λ g. AreSignatures (g ∷ [])) (sym (array_signed type element (b ∷ bs) [])) (array_kept type element (b ∷ bs) are few, tt)

one_fits : (k : Kind) → IsHeld k.type k.bounds → AreSignatures (kind_signature k ∷ [])
one_fits k is =
    by_shape (λ t bs. AreSignatures (kind_signature (record { type = t; bounds = bs }) ∷ [])) scalar_fits array_fits k.type k.bounds is

all_fit : (gs : List TableSignature) → AreKinds gs → AreSignatures gs
all_fit [] are = tt
all_fit (g ∷ gs) are =
    let one = subst (λ u. AreSignatures (u ∷ [])) (sym are.0.is) (one_fits are.0.kind are.0.held) in
    (one.0, all_fit gs are.1)

pub plain_table_fits : (program : Y.Program) → IsProvedSoFar program → AreSignatures (table_of program)
plain_table_fits program h =
    all_fit (table_of program) (all_kinds (flat_map (λ ds. ds) program.variables) [] (all_plain program.variables h.plain) tt)
