-- The code that stores one text in all elements of an array marks no symbols, and has enough instructions for the words that it takes.
use Rattle.std.proofs.Common.{ℕ, ◌≤◌, [], ◌∷◌, ◌++◌, Bool, sym, subst, refl, arith}
use Rattle.std.specs.Prelude.{pos, ◌==◌}
use Rattle.pli_typing.specs.TypedTree as Y
use Rattle.pli_coding.specs.Registers.{frame_register, a0, a1}
use Rattle.pli_coding.specs.Assembly.{size_of}
use Rattle.pli_coding.specs.Instructions.{number, plus, load_word, service}
use Rattle.pli_coding.specs.Frames.{own_offset}
use Rattle.pli_coding.specs.Environments.{Environment, Taken}
use Rattle.pli_coding.specs.Storing as K
use Rattle.pli_headline.specs.ProvedSoFar.{Names, Types, IsWholeText, array_variable, text_leaf}
use Rattle.run_steps.proofs.Linking.{size_append}
use Rattle.pli_headline.proofs.Variables.{HasTypes, level_of}
use Rattle.pli_headline.proofs.SymbolsMarked.{Marks, behind, constant_none, load_none, plus_none}
use Rattle.pli_headline.proofs.ArrayNames.{place_of_name}
use Rattle.pli_headline.proofs.ElementsCode.{record_by, given_by, number_asked}
use Rattle.pli_headline.proofs.ElementsMarks.{record_none}
use Rattle.pli_headline.proofs.TextsCode.{text_filling, text_filling_form}

filling_none : (t : Taken) (q : Bool) (level place n : ℕ) → Marks (text_filling t q level place n) []
filling_none t q level place n =
    let last = number a1 0 ++ service 41 in
    behind (record_by t q level place n) (given_by t ++ last) [] (record_none t q level place n)
    (behind (given_by t) last [] (behind (load_word a0 frame_register own_offset) (plus a0 a0 (K.record_place t 0)) [] (load_none a0 frame_register own_offset) (plus_none a0 a0 (K.record_place t 0)))
    (behind (number a1 0) (service 41) [] (constant_none a1 (pos 0)) refl))

pub texts_none : (e : Environment) (t : Taken) (block : Names) (types : Types) (r : Y.Reference) → HasTypes e block types → IsWholeText block types r → Marks (K.record_code e t r ++ (K.record_given e t ++ (number a1 (K.first_leaf r) ++ service 41))) []
texts_none e t block types r has w =
    let o = w.whole in
    let type = text_leaf w.varying w.most in
    let declared = has o.index (record { type = type; bounds = o.bound ∷ o.bounds }) o.declared in
    subst (λ q. Marks (K.record_code e t q ++ (K.record_given e t ++ (number a1 (K.first_leaf q) ++ service 41))) []) (sym o.is)
    (subst (λ c. Marks c []) (sym (text_filling_form e t block o.index w.varying w.most (o.bound ∷ o.bounds) declared))
    (filling_none t (level_of block o.index == e.level) (level_of block o.index) (place_of_name e block o.index) (number_asked e (array_variable type (o.bound ∷ o.bounds) declared.0))))

filling_size : (t : Taken) (q : Bool) (level place n : ℕ) → 4 ≤ size_of (text_filling t q level place n)
filling_size t q level place n =
    let last = number a1 0 ++ service 41 in
    let s1 = size_append (record_by t q level place n) (given_by t ++ last) in
    let s2 = size_append (given_by t) last in
    let s3 = size_append (number a1 0) (service 41) in
    let s4 = size_append (load_word a0 frame_register own_offset) (plus a0 a0 (K.record_place t 0)) in
    omega (arith, s1, s2, s3, s4)

pub texts_size : (e : Environment) (t : Taken) (block : Names) (types : Types) (r : Y.Reference) → HasTypes e block types → IsWholeText block types r → 4 ≤ size_of (K.record_code e t r ++ (K.record_given e t ++ (number a1 (K.first_leaf r) ++ service 41)))
texts_size e t block types r has w =
    let o = w.whole in
    let type = text_leaf w.varying w.most in
    let declared = has o.index (record { type = type; bounds = o.bound ∷ o.bounds }) o.declared in
    subst (λ q. 4 ≤ size_of (K.record_code e t q ++ (K.record_given e t ++ (number a1 (K.first_leaf q) ++ service 41)))) (sym o.is)
    (subst (λ c. 4 ≤ size_of c) (sym (text_filling_form e t block o.index w.varying w.most (o.bound ∷ o.bounds) declared))
    (filling_size t (level_of block o.index == e.level) (level_of block o.index) (place_of_name e block o.index) (number_asked e (array_variable type (o.bound ∷ o.bounds) declared.0))))
