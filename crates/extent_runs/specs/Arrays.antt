-- Arrays of FIXED BINARY with one dimension whose upper bound is evaluated: what becomes of their template is the shape
-- that they are meant to have.
use Rattle.std.specs.Prelude.{ℕ, ℤ, ◌≡◌, int_le, List, [], ◌∷◌, Some, None, slice_get, true}
use Rattle.rv_meaning.specs.Words.{word}
use Rattle.pli_typing.specs.Signatures.{PlainClass}
use Rattle.pli_typing.specs.TypedTree as Y
use Rattle.pli_meaning.specs.DeclaredShapes as D
use Rattle.pli_types.specs.Templates.{OpenFixed, Template}
use Rattle.pli_serving.specs.SignatureService.{ExtentPlace, bounds_given, filled}
use Rattle.pli_serving.specs.Templates.{shape_of, template_of}
use Rattle.pli_coding.specs.SignatureTable.{signature_of}
use Rattle.run_steps.specs.Numbers.{IsWide}
use Rattle.extent_runs.specs.Extents.{Extent, bounds_of, evaluation_of}

-- so declared, without INITIAL values
abbrev pub array_of : Y.DeclaredVariable → (precision : ℕ) → Extent → Y.DeclaredVariable
array_of d precision x =
    record d {
      class = Y.AutomaticClass;
      leaves = record { type = Y.FixedLeaf precision; bounds = bounds_of x ∷ []; initial = [] } ∷ [];
      refer = None;
      evaluations = evaluation_of x ∷ [];
    }

-- the only place of the extent
abbrev pub only_place : List ExtentPlace
only_place = record { leaf = 0; dimension = 0 } ∷ []

abbrev pub array_template : (precision : ℕ) → (lower upper : ℤ) → Template
array_template precision lower upper =
    record {
      class = PlainClass;
      refer = None;
      leaves =
          record { kind = OpenFixed precision; bounds = Some (record { lower = lower; upper = upper }) ∷ [] } ∷ [];
    }

pub record ArraysFilled : Type 0 where
  -- where its template has the number
  pub filled :
      (d : Y.DeclaredVariable) (precision : ℕ) (x : Extent) (z : ℤ) (t : List Template) (number : ℕ) →
      IsWide x.lower → IsWide z → int_le x.lower z ≡ true →
      slice_get t number ≡ Some (template_of (signature_of (array_of d precision x))) →
      filled (bounds_given (word x.lower) (word z)) only_place (slice_get t number)
      ≡ Some (array_template precision x.lower z)
  pub shape :
      (d : Y.DeclaredVariable) (precision : ℕ) (x : Extent) (z : ℤ) →
      shape_of (array_template precision x.lower z) ≡ Some (D.shape_of (z ∷ []) (array_of d precision x))
