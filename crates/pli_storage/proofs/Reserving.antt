-- The bytes to reserve, and the answer where an extent was filled in.
use Rattle.std.proofs.Common.{◌≡◌, ℕ, List, refl, ap, ap₂, ◌∙◌, Option, Some, None, Bool, true, false, arith}
use Rattle.std.specs.Prelude.{min, slice_get, if◌then◌else◌}
use Rattle.area_keeper.specs.Keeper.{Keeper}
use Rattle.pli_typing.specs.Signatures.{capped, rounded_up}
use Rattle.pli_types.specs.Templates.{Template}
use Rattle.pli_meaning.specs.Contents.{Shape}
use Rattle.pli_serving.specs.Answers.{Done, Bad}
use Rattle.pli_serving.specs.Arguments.{bytes_taken}
use Rattle.pli_serving.specs.Finding.{Call}
use Rattle.pli_serving.specs.Outcomes.{bad_unless, or_bad}
use Rattle.pli_serving.specs.SignatureService.{most_reserved, number_of, numbered, reserved_for, with_template}
use Rattle.pli_serving.specs.Templates.{shape_at, shape_in, shape_of}
use Rattle.pli_signatures.specs.Numbering.{filled_with, has_number, number_filled}
use Rattle.pli_signatures.specs.Whole.{capacity_in, size_in}
use Rattle.pli_storage.proofs.Same.{numbered_is}

capped_rounded : (n : ℕ) → min most_reserved (rounded_up 16 (capped n)) ≡ min most_reserved (rounded_up 16 n)
capped_rounded n = omega arith

pub reserved_area : (k : Keeper) (o : Option Shape) (capacity : ℕ) → Some capacity ≡ capacity_in o → min most_reserved (rounded_up 16 (k.bytes_for capacity)) ≡ reserved_for k o
reserved_area k None capacity e = cc
reserved_area k (Some s) capacity e = ap (λ (c : Option ℕ). min most_reserved (rounded_up 16 (bytes_taken k s c))) e

pub reserved_data : (k : Keeper) (o : Option Shape) (size : ℕ) → None ≡ capacity_in o → Some size ≡ size_in o → min most_reserved (rounded_up 16 size) ≡ reserved_for k o
reserved_data k None size e f = cc
reserved_data k (Some s) size e f =
    let whole : size ≡ capped (bytes_taken k s None) = cc in
    ap (λ n. min most_reserved (rounded_up 16 n)) whole
    ∙ capped_rounded (bytes_taken k s None)
    ∙ ap (λ (c : Option ℕ). min most_reserved (rounded_up 16 (bytes_taken k s c))) e

pub reserved_none : (k : Keeper) (o : Option Shape) → None ≡ size_in o → 0 ≡ reserved_for k o
reserved_none k None e = refl
reserved_none k (Some s) e = cc

pub filled_none : (c : Call) (o : Option Template) → None ≡ number_filled o c.services.signatures → or_bad o (numbered c) ≡ Bad
filled_none c None e = refl
filled_none c (Some t) e = by_test (has_number t c.services.signatures) e
  where
    by_test : (b : Bool) → None ≡ (if b then Some (number_of t c.services.signatures) else None) → bad_unless b (Done (record c.services { signatures = with_template t c.services.signatures }) c.memory (number_of t c.services.signatures) (reserved_for c.keeper (shape_of t))) ≡ Bad
    by_test true e = cc
    by_test false e = refl

pub unfilled : (old new : List Template) (o : Option Template) → None ≡ number_filled o old → new ≡ filled_with o old → new ≡ old
unfilled old new None e f = f
unfilled old new (Some t) e f = by_test (has_number t old) e f
  where
    by_test : (b : Bool) → None ≡ (if b then Some (number_of t old) else None) → new ≡ (if b then with_template t old else old) → new ≡ old
    by_test true e f = cc
    by_test false e f = f

pub filled_so : (c : Call) (o : Option Template) (number bytes : ℕ) (new : List Template) → Some number ≡ number_filled o c.services.signatures → new ≡ filled_with o c.services.signatures → bytes ≡ reserved_for c.keeper (shape_at new number) → or_bad o (numbered c) ≡ Done (record c.services { signatures = new }) c.memory number bytes
filled_so c None number bytes new e f r = cc
filled_so c (Some t) number bytes new e f r = by_test (has_number t c.services.signatures) e f
  where
    by_test : (b : Bool) → Some number ≡ (if b then Some (number_of t c.services.signatures) else None) → new ≡ (if b then with_template t c.services.signatures else c.services.signatures) → bad_unless b (Done (record c.services { signatures = with_template t c.services.signatures }) c.memory (number_of t c.services.signatures) (reserved_for c.keeper (shape_of t))) ≡ Done (record c.services { signatures = new }) c.memory number bytes
    by_test true e f =
        let number_is : number ≡ number_of t c.services.signatures = cc in
        let there : slice_get new number ≡ Some t = ap₂ (λ (l : List Template) (n : ℕ). slice_get l n) f number_is ∙ numbered_is t c.services.signatures in
        let bytes_are : bytes ≡ reserved_for c.keeper (shape_of t) = r ∙ ap (λ (o : Option Template). reserved_for c.keeper (shape_in o)) there in
        rw (f, number_is, bytes_are) refl
    by_test false e f = cc
