-- What is done for an element of GET.
use Rattle.std.proofs.Common.{◌≡◌, ◌++◌, ap, ◌∙◌, append_assoc}
use Rattle.pli_language.specs.Tree.{Formats}
use Rattle.pli_typing.specs.TypedTree as Y
use Rattle.pli_coding.specs.Assembly.{Code}
use Rattle.pli_coding.specs.Environments.{Environment, Taken}
use Rattle.pli_coding.specs.Streams.{Elements, element_field_taken, element_found, element_got, element_stored, free_in}
use Rattle.rv_item.specs.Moved.{bit_moved, element_moved, fixed_moved, text_moved}
use Rattle.rv_item.specs.declared.moved.Motion.TheVariants as M

pub element_is_got : (e : Environment) (l : Elements) (t : Taken) (formats : Formats) (r : Y.Reference) (code first found last : Code) → t ≡ free_in l
    → first ≡ code ++ element_field_taken e t formats r → found ≡ first ++ element_found e l r → last ≡ found ++ element_moved M.Storing e t r
    → last ≡ code ++ element_got e l formats r
unfolding element_moved fixed_moved bit_moved text_moved
element_is_got e l t formats r code first found last h a b d =
    d
    ∙ ap (λ u. u ++ element_stored e t r) (b ∙ ap (λ u. u ++ element_found e l r) a)
    ∙ append_assoc (code ++ element_field_taken e t formats r) (element_found e l r) (element_stored e t r)
    ∙ append_assoc code (element_field_taken e t formats r) (element_found e l r ++ element_stored e t r)
    ∙ ap (λ u. code ++ (element_field_taken e u formats r ++ (element_found e l r ++ element_stored e u r))) h
