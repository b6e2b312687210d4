-- Fields that are taken from the input.
use Rattle.std.proofs.Common.{◌≡◌, ℕ, zero, suc, ◌+◌, ◌-◌, ◌≤◌, Bool, true, false, ◌&&◌, ◌==◌, cond, List, [], ◌∷◌, ◌++◌, length, take, replicate, Result, Ok, Err, ℤ, sym, ap, ◌∙◌, arith}
use Rattle.std.specs.Prelude.{Vec}
use Rattle.std.specs.declared.alloc.Global.{Global}
use Rattle.std.proofs.lemmas.List.{take-replicate}
use Rattle.pli_meaning.specs.InputLines.{Input, Mark, marks_of, begins_with_line_feed, field_of, behind_field}
use Rattle.pli_meaning.specs.Texts.{fitted, number_in_text}
use Rattle.pli_edit.specs.declared.fault.EditFault.{EditFault}
use Rattle.pli_edit.specs.declared.fault.EditFault.TheVariants.{AtEnd, TooWide, NotNumber, Read, Write, Memory}
use Rattle.pli_edit.specs.Fields.{IsLineField, IsNumberOf, TakesText, TakesNumber}

-- no more marks than bytes, and the end of the last line
choice-le : (t : Bool) (xs ys : List Mark) (n : ℕ) → length xs ≤ n → length ys ≤ n → length (cond t xs ys) ≤ n
choice-le true xs ys n h k = h
choice-le false xs ys n h k = k

pub length-marks_of : (b : Bool) (s : List ℕ) → length (marks_of b s) ≤ length s + 1
length-marks_of false [] = omega arith
length-marks_of true [] = omega arith
length-marks_of false (x ∷ xs) =
    let f = length-marks_of false xs in
    let t = length-marks_of true xs in
    choice-le (x == 10) _ _ (length (x ∷ xs) + 1) (omega arith) (choice-le (x == 13 && begins_with_line_feed xs) _ _ (length (x ∷ xs) + 1) (omega arith) (omega arith))
length-marks_of true (x ∷ xs) =
    let f = length-marks_of false xs in
    let t = length-marks_of true xs in
    choice-le (x == 10) _ _ (length (x ∷ xs) + 1) (omega arith) (choice-le (x == 13 && begins_with_line_feed xs) _ _ (length (x ∷ xs) + 1) (omega arith) (omega arith))

padded : (n m : ℕ) (t : List ℕ) → n ≤ m → take n t ++ replicate (n - length t) 32 ≡ take n (t ++ replicate m 32)
padded zero m t h = let none : 0 - length t ≡ 0 = omega arith in ap (λ k. replicate k 32) none
padded (suc n) m [] h = let all : suc n - 0 ≡ suc n = omega arith in ap (λ k. replicate k 32) all ∙ sym (take-replicate (suc n) m 32 h)
padded (suc n) m (b ∷ t) h =
    let same : suc n - suc (length t) ≡ n - length t = omega arith in
    ap (λ l. b ∷ l) (ap (λ k. take n t ++ replicate k 32) same ∙ padded n m t (omega arith))

pub field-padded : (width n : ℕ) (t : List ℕ) → n ≡ length t → take width t ++ replicate (width - n) 32 ≡ fitted width t
field-padded width n t e = ap (λ k. take width t ++ replicate (width - k) 32) e ∙ padded width width t (omega arith)

pub text-taken : (width : ℕ) (old new : Input) (is_left : Bool) (field : Vec ℕ Global) → is_left ≡ true → field.items ≡ field_of width old → new ≡ behind_field width old → TakesText width old is_left (Ok field) new
text-taken width old new true field e f b = (f, b)
text-taken width old new false field e f b = cc

pub number-refused : (width : ℕ) (old new : Input) (is_left : Bool) (fault : EditFault) → TakesText width old is_left (Err fault) new → TakesNumber width old is_left (Err fault) new
number-refused width old new false fault h = (let same : fault ≡ AtEnd = cc in ap Err same, h.1)
number-refused width old new true AtEnd h = let no_way : AtEnd ≡ Memory = h.0 in cc
number-refused width old new true TooWide h = let no_way : TooWide ≡ Memory = h.0 in cc
number-refused width old new true NotNumber h = let no_way : NotNumber ≡ Memory = h.0 in cc
number-refused width old new true Read h = let no_way : Read ≡ Memory = h.0 in cc
number-refused width old new true Write h = let no_way : Write ≡ Memory = h.0 in cc
number-refused width old new true Memory h = h.1

number-told :
    (width : ℕ) (old new : Input) (field : List ℕ) (result : Result ℤ EditFault) → field ≡ field_of width old → new ≡ behind_field width old →
    IsNumberOf (number_in_text field) result → TakesNumber width old true result new
number-told width old new field (Ok z) e b n = (sym (ap number_in_text e) ∙ n, b)
number-told width old new field (Err AtEnd) e b n = ((sym (ap number_in_text e) ∙ n.0, n.1), b)
number-told width old new field (Err TooWide) e b n = ((sym (ap number_in_text e) ∙ n.0, n.1), b)
number-told width old new field (Err NotNumber) e b n = ((sym (ap number_in_text e) ∙ n.0, n.1), b)
number-told width old new field (Err Read) e b n = ((sym (ap number_in_text e) ∙ n.0, n.1), b)
number-told width old new field (Err Write) e b n = ((sym (ap number_in_text e) ∙ n.0, n.1), b)
number-told width old new field (Err Memory) e b n = let no_way : Memory ≡ NotNumber = n.1 in cc

-- of a field that was taken as a text
pub number-taken :
    (width : ℕ) (old new : Input) (is_left : Bool) (field : Vec ℕ Global) (result : Result ℤ EditFault) → TakesText width old is_left (Ok field) new →
    IsNumberOf (number_in_text field.items) result → TakesNumber width old is_left result new
number-taken width old new false field result h n = let no_way = h.0 in cc
number-taken width old new true field result h n = number-told width old new field.items result h.0 h.1 n

-- of a field where it stands
pub number-there :
    (width : ℕ) (old new : Input) (is_left : Bool) (field : List ℕ) (result : Result ℤ EditFault) → is_left ≡ true → IsLineField width old field →
    new ≡ behind_field width old → IsNumberOf (number_in_text field) result → TakesNumber width old is_left result new
number-there width old new false field result e h b n = cc
number-there width old new true field result e h b n = number-told width old new field result h.2 b n
