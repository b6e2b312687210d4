-- The code that stores one number in all elements of an array marks no symbols, and has enough instructions for the words that it takes.
use Rattle.std.proofs.Common.{ℕ, ◌≤◌, [], ◌∷◌, ◌++◌, Bool, refl, sym, subst, arith}
use Rattle.std.specs.Prelude.{pos, cond, ◌==◌}
use Rattle.pli_typing.specs.TypedTree as Y
use Rattle.pli_coding.specs.Registers.{zero_register, frame_register, a0, a1, a2}
use Rattle.pli_coding.specs.Assembly.{size_of}
use Rattle.pli_coding.specs.Instructions.{number, plus, load_word, service}
use Rattle.pli_coding.specs.Frames.{display, own_offset}
use Rattle.pli_coding.specs.Environments.{Environment, Taken, with_number, save, fetch}
use Rattle.pli_coding.specs.Storing as K
use Rattle.pli_headline.specs.ProvedSoFar.{Names, Types, IsWhole, array_variable}
use Rattle.run_steps.proofs.Linking.{size_append}
use Rattle.pli_headline.proofs.Scalars.{IsNumeric}
use Rattle.pli_headline.proofs.Variables.{HasTypes, level_of}
use Rattle.pli_headline.proofs.SymbolsMarked.{Marks, behind, either, constant_none, load_none, store_none, plus_none, saved_none, fetched_none}
use Rattle.pli_headline.proofs.ArrayNames.{place_of_name}
use Rattle.pli_headline.proofs.ElementsCode.{offset_by, record_by, given_by, filling, filling_form, number_asked}

-- ---- symbols

offset_none : (q : Bool) (level place : ℕ) → Marks (offset_by q level place) []
offset_none q level place =
    let own = load_word a0 (cond q frame_register a0) own_offset in
    behind (cond q [] (load_word a0 frame_register (display level))) (own ++ plus a0 a0 (pos place)) [] (either q [] (load_word a0 frame_register (display level)) refl (load_none a0 frame_register (display level)))
    (behind own (plus a0 a0 (pos place)) [] (load_none a0 (cond q frame_register a0) own_offset) (plus_none a0 a0 (pos place)))

pub record_none : (t : Taken) (q : Bool) (level place n : ℕ) → Marks (record_by t q level place n) []
record_none t q level place n =
    let p1 = K.record_stored t 3 zero_register in
    let p2 = K.record_stored t 2 zero_register in
    let p3 = offset_by q level place in
    let p4 = K.record_stored t 0 a0 in
    let p5 = number a0 n in
    let p6 = K.record_stored t 1 a0 in
    behind p1 (p2 ++ (p3 ++ (p4 ++ (p5 ++ p6)))) [] (store_none frame_register zero_register (K.record_place t 3))
    (behind p2 (p3 ++ (p4 ++ (p5 ++ p6))) [] (store_none frame_register zero_register (K.record_place t 2))
    (behind p3 (p4 ++ (p5 ++ p6)) [] (offset_none q level place)
    (behind p4 (p5 ++ p6) [] (store_none frame_register a0 (K.record_place t 0))
    (behind p5 p6 [] (constant_none a0 (pos n)) (store_none frame_register a0 (K.record_place t 1))))))

filling_none : (t b : Taken) (q : Bool) (level place n : ℕ) → Marks (filling t b q level place n) []
filling_none t b q level place n =
    let last = number a1 0 ++ (fetch a2 t ++ service 41) in
    behind (save a0 t) (record_by b q level place n ++ (given_by b ++ last)) [] (saved_none a0 t)
    (behind (record_by b q level place n) (given_by b ++ last) [] (record_none b q level place n)
    (behind (given_by b) last [] (behind (load_word a0 frame_register own_offset) (plus a0 a0 (K.record_place b 0)) [] (load_none a0 frame_register own_offset) (plus_none a0 a0 (K.record_place b 0)))
    (behind (number a1 0) (fetch a2 t ++ service 41) [] (constant_none a1 (pos 0))
    (behind (fetch a2 t) (service 41) [] (fetched_none a2 t) refl))))

pub elements_none : (e : Environment) (t : Taken) (block : Names) (types : Types) (type : Y.LeafType) (r : Y.Reference) → IsNumeric type → HasTypes e block types → IsWhole block types type r → Marks (save a0 t ++ (K.record_code e (with_number t) r ++ (K.record_given e (with_number t) ++ (number a1 (K.first_leaf r) ++ (fetch a2 t ++ service 41))))) []
elements_none e t block types type r numeric has o =
    let declared = has o.index (record { type = type; bounds = o.bound ∷ o.bounds }) o.declared in
    subst (λ q. Marks (save a0 t ++ (K.record_code e (with_number t) q ++ (K.record_given e (with_number t) ++ (number a1 (K.first_leaf q) ++ (fetch a2 t ++ service 41))))) []) (sym o.is)
    (subst (λ c. Marks c []) (sym (filling_form e t block o.index type (o.bound ∷ o.bounds) numeric declared))
    (filling_none t (with_number t) (level_of block o.index == e.level) (level_of block o.index) (place_of_name e block o.index) (number_asked e (array_variable type (o.bound ∷ o.bounds) declared.0))))

-- ---- sizes

filling_size : (t b : Taken) (q : Bool) (level place n : ℕ) → 4 ≤ size_of (filling t b q level place n)
filling_size t b q level place n =
    let last = number a1 0 ++ (fetch a2 t ++ service 41) in
    let s1 = size_append (save a0 t) (record_by b q level place n ++ (given_by b ++ last)) in
    let s2 = size_append (record_by b q level place n) (given_by b ++ last) in
    let s3 = size_append (given_by b) last in
    let s4 = size_append (number a1 0) (fetch a2 t ++ service 41) in
    let s5 = size_append (fetch a2 t) (service 41) in
    let s6 = size_append (load_word a0 frame_register own_offset) (plus a0 a0 (K.record_place b 0)) in
    omega (arith, s1, s2, s3, s4, s5, s6)

pub elements_size : (e : Environment) (t : Taken) (block : Names) (types : Types) (type : Y.LeafType) (r : Y.Reference) → IsNumeric type → HasTypes e block types → IsWhole block types type r → 4 ≤ size_of (save a0 t ++ (K.record_code e (with_number t) r ++ (K.record_given e (with_number t) ++ (number a1 (K.first_leaf r) ++ (fetch a2 t ++ service 41)))))
elements_size e t block types type r numeric has o =
    let declared = has o.index (record { type = type; bounds = o.bound ∷ o.bounds }) o.declared in
    subst (λ q. 4 ≤ size_of (save a0 t ++ (K.record_code e (with_number t) q ++ (K.record_given e (with_number t) ++ (number a1 (K.first_leaf q) ++ (fetch a2 t ++ service 41)))))) (sym o.is)
    (subst (λ c. 4 ≤ size_of c) (sym (filling_form e t block o.index type (o.bound ∷ o.bounds) numeric declared))
    (filling_size t (with_number t) (level_of block o.index == e.level) (level_of block o.index) (place_of_name e block o.index) (number_asked e (array_variable type (o.bound ∷ o.bounds) declared.0))))
