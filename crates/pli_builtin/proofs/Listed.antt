-- Lists of numbers, from their last one on; operands that are judged in turn.
use Rattle.std.proofs.Common.{◌≡◌, ◌∙◌, List, [], ◌∷◌, ◌++◌, map, length, arith, refl, sym, ap}
use Rattle.pli_typing.specs.Builtins.{number_list}
use Rattle.pli_typing.specs.Converting.{Operand, number_operand}
use Rattle.pli_typing.specs.TypedTree as Y
use Rattle.pli_operand.specs.declared.operand.Operand.{Operand as OperandHeld}
use Rattle.pli_operand.specs.Shown.{operand_of}
use Rattle.pli_operand.specs.Notes.{Noted, noted}
use Rattle.pli_operand.proofs.Noting.{noted_append, noted_none}
use Rattle.pli_builtin.specs.Parts.{numbers_onto}

pub onto_none : (rest : Y.Numbers) → numbers_onto [] rest ≡ rest
unfolding numbers_onto
onto_none rest = refl

pub onto_snoc : (ns : List Y.Number) (n : Y.Number) (rest : Y.Numbers) → numbers_onto (ns ++ n ∷ []) rest ≡ numbers_onto ns (Y.NumberThen n rest)
unfolding numbers_onto
onto_snoc [] n rest = refl
onto_snoc (m ∷ ns) n rest = ap (Y.NumberThen m) (onto_snoc ns n rest)

-- the first of them is judged, then the others
pub list_step : (s : Noted) (x : Operand) (xs : List Operand) → noted (noted s (number_operand x)) (number_list xs) ≡ noted s (number_list (x ∷ xs))
list_step s x xs =
    sym (noted_none (noted (noted s (number_operand x)) (number_list xs)))
    ∙ sym (noted_append (noted s (number_operand x)) (number_list xs).faults [] (number_list xs).mentions [])
    ∙ sym (noted_append s (number_operand x).faults ((number_list xs).faults ++ []) (number_operand x).mentions ((number_list xs).mentions ++ []))

-- none is left
pub list_ended : (s t : Noted) (xs : List OperandHeld) → length xs ≡ 0 → noted s (number_list (map operand_of xs)) ≡ t → s ≡ t
list_ended s t [] h f = sym (noted_none s) ∙ f
list_ended s t (x ∷ xs) h f = absurd (omega (arith, h))
