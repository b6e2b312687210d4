-- A datum that code names is one of its static data.
use Rattle.std.proofs.Common.{◌≡◌, List, [], ◌∷◌, ◌⊎◌, inl, inr, sym, subst}
use Rattle.std.specs.List.{filter}
use Rattle.std.proofs.lemmas.Bool.{or_left}
use Rattle.pli_coding.specs.Assembly.{InitialLeaf, Datum, InitialValues, Plain, BaseIn, OffsetOf, OffsetAhead, JumpTo}
use Rattle.pli_coding.specs.Assembly.{CallTo, JumpAhead, JumpBack, Mark, Code}
use Rattle.pli_coding.specs.StaticData.{data_of_symbol, data_named, is_initial, values_of, static_data}
use Rattle.run_steps.specs.DataNamed.{IsNamed}
use Rattle.code_marks.specs.CodeData.{Has}
use Rattle.code_marks.proofs.DataOnce as D

passed : {P Q : Type 0} → (P → Q) → ⊥ ⊎ P → Q
passed f (inl e) = absurd e
passed f (inr h) = f h

named_has : (d : Datum) (code : Code) → IsNamed d code → Has (data_named code) d
named_has d [] h = absurd h
named_has d (OffsetOf r s ∷ is) (inl e) =
    D.has_front (data_of_symbol s) (data_named is) d
    (subst (λ u. Has (data_of_symbol u) d) (sym e) (or_left _ _ (D.same_datum-same d)))
named_has d (OffsetOf r s ∷ is) (inr h) = D.has_back (data_of_symbol s) (data_named is) d (named_has d is h)
named_has d (Plain i ∷ is) h = passed (named_has d is) h
named_has d (BaseIn r ∷ is) h = passed (named_has d is) h
named_has d (OffsetAhead r words ∷ is) h = passed (named_has d is) h
named_has d (JumpTo s ∷ is) h = passed (named_has d is) h
named_has d (CallTo s ∷ is) h = passed (named_has d is) h
named_has d (JumpAhead words ∷ is) h = passed (named_has d is) h
named_has d (JumpBack words ∷ is) h = passed (named_has d is) h
named_has d (Mark s ∷ is) h = passed (named_has d is) h

-- what is named is there
pub static_has : (code : Code) (d : Datum) → IsNamed d code → Has (static_data code) d
static_has code d h = D.static_has code d (named_has d code h)

pub initial_has : (code : Code) (leaves : List InitialLeaf) → IsNamed (InitialValues leaves) code
    → Has (filter is_initial (D.named_once code)) (InitialValues leaves)
initial_has code leaves h = D.initial_has code leaves (named_has (InitialValues leaves) code h)

-- the values of a list that is named stand among the data
pub values_has : (code : Code) (leaves : List InitialLeaf) (v : Datum) → IsNamed (InitialValues leaves) code
    → Has (values_of (InitialValues leaves)) v → Has (static_data code) v
values_has code leaves v h k = D.values_has code leaves v (named_has (InitialValues leaves) code h) k
