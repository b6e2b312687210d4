-- What becomes of an array's template.
use Rattle.std.proofs.Common.{◌≡◌, ℕ, List, [], ◌∷◌, Some, None, true, refl, ap, ◌∙◌}
use Rattle.std.specs.Prelude.{ℤ, cond, int_le, slice_get}
use Rattle.rv_meaning.specs.Words.{word}
use Rattle.pli_typing.specs.Signatures.{Bounds}
use Rattle.pli_typing.specs.TypedTree as Y
use Rattle.pli_meaning.specs.DeclaredShapes as D
use Rattle.pli_types.specs.Templates.{OpenFixed, Template}
use Rattle.pli_serving.specs.SignatureService.{bounds_given, filled, with_leaves, with_pairs}
use Rattle.pli_serving.specs.Templates.{put_before, shape_of, template_of}
use Rattle.pli_coding.specs.SignatureTable.{signature_of}
use Rattle.storage_relation.proofs.Values.{signed_word}
use Rattle.run_steps.specs.Numbers.{IsWide}
use Rattle.extent_runs.specs.Arrays.{array_of, array_template, only_place}
use Rattle.extent_runs.specs.Extents.{Extent}

abbrev bounds : ℤ → ℤ → Bounds
bounds lower upper = record { lower = lower; upper = upper }

pub array_filled :
    (d : Y.DeclaredVariable) (precision : ℕ) (x : Extent) (z : ℤ) (t : List Template) (number : ℕ) →
    IsWide x.lower → IsWide z → int_le x.lower z ≡ true →
    slice_get t number ≡ Some (template_of (signature_of (array_of d precision x))) →
    filled (bounds_given (word x.lower) (word z)) only_place (slice_get t number)
    ≡ Some (array_template precision x.lower z)
array_filled d precision x z t number wl wz less there =
    let open' : Template = template_of (signature_of (array_of d precision x)) in
    ap (filled (bounds_given (word x.lower) (word z)) only_place) there
    ∙ ap (λ l. filled (bounds l (bounds_given (word x.lower) (word z)).upper) only_place (Some open'))
    (signed_word x.lower wl)
    ∙ ap (λ u. filled (bounds x.lower u) only_place (Some open')) (signed_word z wz)
    ∙ ap
    (λ q.
    filled (bounds x.lower z) []
    (with_leaves open'
    (put_before
    (with_pairs (record { kind = OpenFixed precision; bounds = None ∷ [] })
    (put_before (cond q (Some (Some (bounds x.lower z))) None) (Some [])))
    (Some []))))
    less

pub array_shape :
    (d : Y.DeclaredVariable) (precision : ℕ) (x : Extent) (z : ℤ) →
    shape_of (array_template precision x.lower z) ≡ Some (D.shape_of (z ∷ []) (array_of d precision x))
array_shape d precision x z = refl
