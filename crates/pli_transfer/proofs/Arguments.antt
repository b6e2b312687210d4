-- Arguments from their last one on.
use Rattle.std.proofs.Common.{◌≡◌, ◌∙◌, List, [], ◌∷◌, ◌++◌, length, refl, sym, ap, ap₂, arith}
use Rattle.std.specs.declared.vec.IntoIter.{IntoIter}
use Rattle.pli_language.specs.declared.fault.SourceKind.TheVariants.{BadArguments}
use Rattle.pli_typing.specs.Calls.{Callee, arguments_judged}
use Rattle.pli_typing.specs.Converting.{Designated, Operand}
use Rattle.pli_language.specs.Refusals.{fault}
use Rattle.pli_typing.specs.TypedTree as Y
use Rattle.pli_operand.specs.Notes.{Noted, noted, with_fault}
use Rattle.pli_operand.proofs.Noting.{noted_fault, noted_none}
use Rattle.pli_transfer.specs.Shown.{arguments_onto}

pub onto_none : (rest : Y.Arguments) → arguments_onto [] rest ≡ rest
unfolding arguments_onto
onto_none rest = refl

pub onto_snoc : (as' : List Y.Argument) (a : Y.Argument) (rest : Y.Arguments) → arguments_onto (as' ++ a ∷ []) rest ≡ arguments_onto as' (Y.ArgumentThen a rest)
unfolding arguments_onto
onto_snoc [] a rest = refl
onto_snoc (b ∷ as') a rest = ap (Y.ArgumentThen b) (onto_snoc as' a rest)

-- what stands in behind the arguments
pub value_end : (c : Callee) (os : List Operand) → (arguments_judged c [] os).value ≡ Y.NoArgument
value_end c [] = refl
value_end c (o ∷ os) = refl

-- nothing is to come
no_items : {X : Type 0} (xs : List X) → length xs ≡ 0 → xs ≡ []
no_items [] e = refl
no_items (x ∷ xs) e = absurd (omega (arith, e))

pub none_there : {X Z : Type 0} (it : IntoIter X Z) → it.rest.len ≡ 0 → it.rest.items ≡ []
none_there it e = no_items it.rest.items (sym it.rest.ok.0 ∙ e)

pub judged_end : (s : Noted) (c : Callee) (os : List Operand) → os ≡ [] → noted s (arguments_judged c [] os) ≡ s
judged_end s c os e = ap (λ xs. noted s (arguments_judged c [] xs)) e ∙ noted_none s

-- a parameter is left
pub judged_few : (s n : Noted) (c : Callee) (p : Designated) (ps qs : List Designated) (os : List Operand) → qs ≡ p ∷ ps → os ≡ [] → n ≡ with_fault s (fault c.place BadArguments) → n ≡ noted s (arguments_judged c qs os)
judged_few s n c p ps qs os here none e =
    e
    ∙ sym (noted_fault s (fault c.place BadArguments) [] [] ∙ noted_none (with_fault s (fault c.place BadArguments)))
    ∙ sym (ap₂ (λ rs us. noted s (arguments_judged c rs us)) here none)
