-- Whole signatures by their numbers.
use Rattle.std.proofs.Common.{◌≡◌, ℕ, List, Option, Some, None, Bool, true, false, refl, sym, ap, ◌∙◌}
use Rattle.std.specs.Prelude.{is_some, option_map, slice_get}
use Rattle.pli_types.specs.Templates.{Template}
use Rattle.pli_meaning.specs.Contents.{Shape}
use Rattle.pli_serving.specs.Templates.{shape_at, shape_in}
use Rattle.pli_signatures.specs.Whole.{are_known_leaves, shape_so_far}
use Rattle.pli_signatures.proofs.Wholes.{is_open, is_shape}

not_none : (o : Option Shape) → is_some o ≡ true → o ≡ None → ⊥
not_none o e f = cc (ap is_some f)

whole_by : (t : Template) (b : Bool) → are_known_leaves t.leaves ≡ b → is_some (shape_in (Some t)) ≡ true → shape_in (Some t) ≡ Some (shape_so_far t)
whole_by t true k e = is_shape t (Some t) refl (sym k)
whole_by t false k e = absurd (not_none (shape_in (Some t)) e (is_open t (Some t) refl (sym k)))

pub whole_is : (templates : List Template) (number : ℕ) (t : Template) → Some t ≡ slice_get templates number → true ≡ is_some (shape_at templates number) → shape_at templates number ≡ Some (shape_so_far t)
whole_is templates number t e k =
    ap shape_in (sym e) ∙ whole_by t (are_known_leaves t.leaves) refl (ap (λ o. is_some (shape_in o)) e ∙ sym k)

none_of : (o : Option Shape) → false ≡ is_some o → o ≡ None
none_of None e = refl
none_of (Some s) e = cc

pub open_is : (templates : List Template) (number : ℕ) → false ≡ is_some (shape_at templates number) → shape_at templates number ≡ None
open_is templates number e = none_of (shape_at templates number) e

pub missing_is : (templates : List Template) (number : ℕ) → None ≡ slice_get templates number → shape_at templates number ≡ None
missing_is templates number e = ap shape_in (sym e)
