-- An array fits where the stacks have room for all that may be AUTOMATIC, or it passes that limit.
use Rattle.std.proofs.Common.{◌≡◌, ◌⊎◌, inl, inr, ℕ, ◌+◌, ◌%◌, ◌^◌, ◌≤◌, min, Some, Bool, true, false}
use Rattle.std.proofs.Common.{refl, ◌∙◌, arith, [], ◌∷◌}
use Rattle.std.proofs.lemmas.Bool.{leb-true}
use Rattle.std.specs.Prelude.{ℤ, int_le, nat_le, nat_lt, pos}
use Rattle.pli_typing.specs.Signatures.{data_size, footprint, rounded_up}
use Rattle.pli_meaning.specs.Contents.{Shape}
use Rattle.pli_meaning.specs.DeclaredShapes.{shape_of}
use Rattle.pli_meaning.specs.StorageState.{automatic_in_use, most_automatic}
use Rattle.pli_serving.specs.Arguments.{own_signature}
use Rattle.pli_serving.specs.SignatureService.{number_of}
use Rattle.pli_serving.specs.Templates.{shape_at}
use Rattle.storage_relation.proofs.Begun.{fresh_valued}
use Rattle.storage_relation.proofs.Numbering.{numbered_shape}
use Rattle.storage_relation.proofs.Spelling.{spelled_length}
use Rattle.activation_relation.specs.Layers.{Point}
use Rattle.run_steps.specs.Numbers.{IsWide}
use Rattle.program_runs.specs.Statements.{Block, IsAmong}
use Rattle.extent_runs.specs.FittingArrays.{HasRoom}
use Rattle.extent_runs.specs.MadeArrays.{EvaluatedArray, Fits, Passes, adjustable_with, declared_as, filled_with}
use Rattle.extent_runs.specs.MadeArrays.{template_with}
use Rattle.extent_runs.specs.Placing.{generation_of}
use Rattle.extent_runs.specs.Signatures.{MayFill}
use Rattle.extent_runs.proofs.Arrays.{array_shape}

-- ---- the bytes to reserve

-- what fits the limit
record Rounded (used size : ℕ) : Type 0 where
  least : size ≤ min (2 ^ 30) (rounded_up 16 size)
  most : min (2 ^ 30) (rounded_up 16 size) ≤ most_automatic
  even : min (2 ^ 30) (rounded_up 16 size) % 16 ≡ 0

rounded : (used size : ℕ) → used + footprint size ≤ most_automatic → Rounded used size
rounded used size few =
    record { least = omega (arith, few); most = omega (arith, few); even = omega (arith, few) }

-- ---- an array

abbrev shape_with : EvaluatedArray → (upper : ℤ) → Shape
shape_with x upper = shape_of (upper ∷ []) (declared_as x)

abbrev size_with : EvaluatedArray → (upper : ℤ) → ℕ
size_with x upper = data_size (shape_with x upper).signature

shaped :
    (x : EvaluatedArray) (upper : ℤ) (q : Point) →
    shape_at (filled_with x upper q).places.signatures (number_of (template_with x upper) q.places.signatures)
    ≡ Some (shape_with x upper)
shaped x upper q =
    numbered_shape (template_with x upper) q.places.signatures
    ∙ array_shape x.declared x.precision x.evaluated.extent upper

fits_there :
    (k : Block) (x : EvaluatedArray) (upper : ℤ) (q : Point) (held : ℕ → ℕ) → HasRoom k x → IsAmong k held q →
    nat_lt (number_of (template_with x upper) q.places.signatures) own_signature ≡ true →
    MayFill q (template_with x upper) →
    nat_le (automatic_in_use q.state.living + footprint (size_with x upper)) most_automatic ≡ true →
    Fits k x upper q
fits_there k x upper q held has o few may limit =
    let r = rounded (automatic_in_use q.state.living) (size_with x upper) (leb-true _ _ limit) in
    let least = r.least in
    let most = r.most in
    let even = r.even in
    let lower = has.even in
    let room = has.room in
    let low = has.low in
    let same = o.later.remains.low in
    let g = generation_of (adjustable_with x upper q) in
    let long = spelled_length g (tt, tt) in
    record {
      few = few;
      may = may;
      is = record {
        newest = refl;
        here = has.here;
        fits = omega (arith, most, room);
        even = omega (arith, lower, even, most, room);
        holds = omega (arith, long, least);
        size = least;
        low = omega (arith, low, same);
        shape = shaped x upper q;
        plain = refl;
        fixed = refl;
        values = (tt, tt);
        valued = fresh_valued (shape_with x upper) (pos 0) ([] ∷ []) (has.precision, tt) (tt, tt);
        limit = limit;
      };
    }

passes_there :
    (k : Block) (x : EvaluatedArray) (upper : ℤ) (q : Point) → HasRoom k x →
    nat_lt (number_of (template_with x upper) q.places.signatures) own_signature ≡ true →
    nat_le (automatic_in_use q.state.living + footprint (size_with x upper)) most_automatic ≡ false →
    Passes k x upper q
passes_there k x upper q has few limit =
    record {
      few = few;
      is = record { newest = refl; here = has.here; shape = shaped x upper q; limit = limit };
    }

pub arrays_fit :
    (k : Block) (x : EvaluatedArray) (upper : ℤ) (q : Point) (held : ℕ → ℕ) → HasRoom k x → IsAmong k held q →
    IsWide x.evaluated.extent.lower × IsWide upper → int_le x.evaluated.extent.lower upper ≡ true →
    nat_lt (number_of (template_with x upper) q.places.signatures) own_signature ≡ true →
    MayFill q (template_with x upper) → Fits k x upper q ⊎ Passes k x upper q
arrays_fit k x upper q held has o wide less few may =
    by (nat_le (automatic_in_use q.state.living + footprint (size_with x upper)) most_automatic) refl
  where
    by :
        (u : Bool) → nat_le (automatic_in_use q.state.living + footprint (size_with x upper)) most_automatic ≡ u →
        Fits k x upper q ⊎ Passes k x upper q
    by true e = inl (fits_there k x upper q held has o few may e)
    by false e = inr (passes_there k x upper q has few e)
