-- Elements by the kinds that there are.
use Rattle.std.proofs.Common.{◌≡◌, Bool, true, false, ◌++◌, refl, ap, ◌∙◌}
use Rattle.rv_meaning.specs.declared.image.TableKind.TheVariants as K
use Rattle.rv_meaning.specs.Tables.{kind_number}
use Rattle.pli_language.specs.Tree.{Formats}
use Rattle.pli_typing.specs.TypedTree as Y
use Rattle.pli_coding.specs.Environments.{Environment, Taken}
use Rattle.pli_coding.specs.Streams.{by_kind, element_field_taken, element_written, has_kind, has_texts, kind_if}
use Rattle.rv_item.specs.declared.kinds.Kinds.{Kinds}
use Rattle.rv_item.specs.declared.moved.Motion.{Motion}
use Rattle.rv_item.specs.Moved.{bit_moved, bits_and_texts, element_moved, fixed_moved, kinds_moved, kinds_taken, kinds_written, text_moved}

by_three : (fixed bit text : Bool) (m : Motion) (t : Taken)
    → kinds_moved (record { fixed = fixed; bit = bit; text = text }) m t
    ≡ by_kind (kind_if fixed (kind_number K.Fixed) (fixed_moved m t)
    ++ (kind_if bit (kind_number K.Bit) (bit_moved m t) ++ kind_if text (kind_number K.Character) (text_moved m)))
unfolding bits_and_texts
by_three true true true m t = refl
by_three true true false m t = refl
by_three true false true m t = refl
by_three true false false m t = refl
by_three false true true m t = refl
by_three false true false m t = refl
by_three false false true m t = refl
by_three false false false m t = refl

pub kinds_are : (k : Kinds) (m : Motion) (e : Environment) (t : Taken) (r : Y.Reference)
    → k.fixed ≡ has_kind e r K.Fixed → k.bit ≡ has_kind e r K.Bit → k.text ≡ has_texts e r
    → kinds_moved k m t ≡ element_moved m e t r
unfolding element_moved
kinds_are k m e t r f b x =
    by_three k.fixed k.bit k.text m t
    ∙ ap (λ y. by_kind (kind_if y (kind_number K.Fixed) (fixed_moved m t) ++ (kind_if k.bit (kind_number K.Bit) (bit_moved m t) ++ kind_if k.text (kind_number K.Character) (text_moved m)))) f
    ∙ ap (λ y. by_kind (kind_if (has_kind e r K.Fixed) (kind_number K.Fixed) (fixed_moved m t) ++ (kind_if y (kind_number K.Bit) (bit_moved m t) ++ kind_if k.text (kind_number K.Character) (text_moved m)))) b
    ∙ ap (λ y. by_kind (kind_if (has_kind e r K.Fixed) (kind_number K.Fixed) (fixed_moved m t) ++ (kind_if (has_kind e r K.Bit) (kind_number K.Bit) (bit_moved m t) ++ kind_if y (kind_number K.Character) (text_moved m)))) x

pub kinds_taken_are : (k : Kinds) (e : Environment) (t : Taken) (formats : Formats) (r : Y.Reference)
    → k.fixed ≡ has_kind e r K.Fixed → k.bit ≡ has_kind e r K.Bit → k.text ≡ has_texts e r
    → kinds_taken k e t formats r ≡ element_field_taken e t formats r
kinds_taken_are k e t formats r f b x =
    ap (λ y. kinds_taken (record { fixed = y; bit = k.bit; text = k.text }) e t formats r) f
    ∙ ap (λ y. kinds_taken (record { fixed = has_kind e r K.Fixed; bit = y; text = k.text }) e t formats r) b
    ∙ ap (λ y. kinds_taken (record { fixed = has_kind e r K.Fixed; bit = has_kind e r K.Bit; text = y }) e t formats r) x

pub kinds_written_are : (k : Kinds) (e : Environment) (t : Taken) (formats : Formats) (r : Y.Reference)
    → k.bit ≡ has_kind e r K.Bit → k.text ≡ has_texts e r
    → kinds_written k e t formats r ≡ element_written e t formats r
kinds_written_are k e t formats r b x =
    ap (λ y. kinds_written (record { fixed = k.fixed; bit = y; text = k.text }) e t formats r) b
    ∙ ap (λ y. kinds_written (record { fixed = k.fixed; bit = has_kind e r K.Bit; text = y }) e t formats r) x
