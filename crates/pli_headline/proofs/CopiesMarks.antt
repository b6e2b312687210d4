-- The code that stores the elements of one array in those of another marks no symbols, and takes few words.
use Rattle.std.proofs.Common.{inl, inr, ℕ, ◌+◌, ◌≤◌, [], ◌∷◌, sym, subst, ap, ◌≡◌, arith}
use Rattle.std.specs.Prelude.{max}
use Rattle.pli_typing.specs.TypedTree as Y
use Rattle.pli_coding.specs.Environments.{Environment, Taken}
use Rattle.pli_coding.specs.Storing as K
use Rattle.temporary_bounds.specs.WordBounds.{aggregate_words, reference_words}
use Rattle.pli_headline.specs.ProvedSoFar.{Names, Types, AreAlike, AreAlikeTexts, AreCopied, array_variable, text_leaf}
use Rattle.pli_headline.proofs.Scalars.{element_numeric}
use Rattle.pli_headline.proofs.Variables.{HasTypes, own, whole}
use Rattle.pli_headline.proofs.SymbolsMarked.{Marks}
use Rattle.pli_headline.proofs.ArrayElements.{size_constant}
use Rattle.pli_headline.proofs.TextElements.{text_size_constant}
use Rattle.pli_headline.proofs.ElementsCode.{number_asked}
use Rattle.pli_headline.proofs.CopiesCode.{place_with, copying_form, copying_none}

alike_none : (e : Environment) (t : Taken) (block : Names) (types : Types) (target source : Y.Reference) → HasTypes e block types → AreAlike block types target source → Marks (K.aggregate_code e t target source) []
alike_none e t block types target source has o =
    let j = o.target_is in
    let i = o.source_is in
    let type = o.type in
    let numeric = element_numeric type o.element in
    let d = has j.index (record { type = type; bounds = j.bound ∷ j.bounds }) j.declared in
    let d' = has i.index (record { type = type; bounds = i.bound ∷ i.bounds }) i.declared in
    subst (λ q. Marks (K.aggregate_code e t q source) []) (sym j.is)
    (subst (λ q. Marks (K.aggregate_code e t (whole (own block j.index)) q) []) (sym i.is)
    (subst (λ c. Marks c []) (sym (copying_form e t block j.index i.index type type (j.bound ∷ j.bounds) (i.bound ∷ i.bounds) d d' (size_constant type numeric (j.bound ∷ j.bounds) d.0) (size_constant type numeric (i.bound ∷ i.bounds) d'.0)))
    (copying_none t (place_with e block i.index (number_asked e (array_variable type (i.bound ∷ i.bounds) d'.0))) (place_with e block j.index (number_asked e (array_variable type (j.bound ∷ j.bounds) d.0))))))

most_four : (x y : ℕ) → x ≡ 0 → y ≡ 0 → max (4 + x) (4 + y) ≤ 4
most_four x y e e' = subst (λ u. max (4 + u) (4 + y) ≤ 4) (sym e) (subst (λ u. max 4 (4 + u) ≤ 4) (sym e') (omega arith))

alike_words : (block : Names) (types : Types) (target source : Y.Reference) → AreAlike block types target source
    → max (aggregate_words target) (aggregate_words source) ≤ 4
alike_words block types target source o =
    most_four (reference_words target) (reference_words source) (ap reference_words o.target_is.is) (ap reference_words o.source_is.is)

alike_texts_none : (e : Environment) (t : Taken) (block : Names) (types : Types) (target source : Y.Reference) → HasTypes e block types → AreAlikeTexts block types target source → Marks (K.aggregate_code e t target source) []
alike_texts_none e t block types target source has o =
    let j = o.target_is in
    let i = o.source_is in
    let type = text_leaf o.varying o.most in
    let other = text_leaf o.varying o.other in
    let d = has j.index (record { type = type; bounds = j.bound ∷ j.bounds }) j.declared in
    let d' = has i.index (record { type = other; bounds = i.bound ∷ i.bounds }) i.declared in
    subst (λ q. Marks (K.aggregate_code e t q source) []) (sym j.is)
    (subst (λ q. Marks (K.aggregate_code e t (whole (own block j.index)) q) []) (sym i.is)
    (subst (λ c. Marks c []) (sym (copying_form e t block j.index i.index type other (j.bound ∷ j.bounds) (i.bound ∷ i.bounds) d d' (text_size_constant o.varying o.most (j.bound ∷ j.bounds) d.0) (text_size_constant o.varying o.other (i.bound ∷ i.bounds) d'.0)))
    (copying_none t (place_with e block i.index (number_asked e (array_variable other (i.bound ∷ i.bounds) d'.0))) (place_with e block j.index (number_asked e (array_variable type (j.bound ∷ j.bounds) d.0))))))

-- of numbers, bits or texts
pub copies_none : (e : Environment) (t : Taken) (block : Names) (types : Types) (target source : Y.Reference) → HasTypes e block types → AreCopied block types target source → Marks (K.aggregate_code e t target source) []
copies_none e t block types target source has (inl o) = alike_none e t block types target source has o
copies_none e t block types target source has (inr o) = alike_texts_none e t block types target source has o

pub copies_words : (block : Names) (types : Types) (target source : Y.Reference) → AreCopied block types target source
    → max (aggregate_words target) (aggregate_words source) ≤ 4
copies_words block types target source (inl o) = alike_words block types target source o
copies_words block types target source (inr o) =
    most_four (reference_words target) (reference_words source) (ap reference_words o.target_is.is) (ap reference_words o.source_is.is)
