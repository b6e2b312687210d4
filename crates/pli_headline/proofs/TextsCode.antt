-- The code that stores one text in all elements of an array, where the array's declaration is known: the text waits on the stack of texts.
use Rattle.std.proofs.Common.{◌≡◌, ℕ, ◌++◌, List, ap, ◌∙◌}
use Rattle.std.specs.Prelude.{◌==◌, Bool}
use Rattle.pli_typing.specs.Signatures.{Bounds}
use Rattle.pli_typing.specs.TypedTree as Y
use Rattle.pli_coding.specs.Registers.{a1}
use Rattle.pli_coding.specs.Assembly.{Code}
use Rattle.pli_coding.specs.Instructions.{number, service}
use Rattle.pli_coding.specs.Environments.{Environment, Taken}
use Rattle.pli_coding.specs.SignatureTable.{table_of}
use Rattle.pli_coding.specs.Expressions.{stored_code}
use Rattle.pli_coding.specs.Storing as K
use Rattle.pli_headline.specs.ProvedSoFar.{Names, IsScalar, AreBounds, array_variable, text_leaf}
use Rattle.pli_headline.proofs.Variables.{whole, own, level_of}
use Rattle.pli_headline.proofs.PlainNumbers.{number_for}
use Rattle.pli_headline.proofs.ArrayElements.{IsDeclaredArray}
use Rattle.pli_headline.proofs.TextElements.{text_size_constant}
use Rattle.pli_headline.proofs.ArrayNames.{place_of_name}
use Rattle.pli_headline.proofs.ElementsCode.{record_by, record_form, number_asked, number_known, given_by, given_is}

-- what follows the text
abbrev pub text_filling : (t : Taken) → Bool → (level place n : ℕ) → Code
text_filling t q level place n = record_by t q level place n ++ (given_by t ++ (number a1 0 ++ service 41))

pub text_filling_form : (e : Environment) (t : Taken) (block : Names) (j : ℕ) (varying : Bool) (most : ℕ) (bs : List Bounds) (d : IsDeclaredArray e block j (text_leaf varying most) bs) → K.record_code e t (whole (own block j)) ++ (K.record_given e t ++ (number a1 0 ++ service 41)) ≡ text_filling t (level_of block j == e.level) (level_of block j) (place_of_name e block j) (number_asked e (array_variable (text_leaf varying most) bs d.0))
text_filling_form e t block j varying most bs declared =
    let type = text_leaf varying most in
    let last = number a1 0 ++ service 41 in
    ap (λ c. c ++ (K.record_given e t ++ last)) (record_form e t block j type bs declared (text_size_constant varying most bs declared.0))
    ∙ ap (λ c. record_by t (level_of block j == e.level) (level_of block j) (place_of_name e block j) (number_asked e (array_variable type bs declared.0)) ++ (c ++ last)) (given_is e t)

pub text_filling_is : (e : Environment) (t : Taken) (block : Names) (j : ℕ) (varying : Bool) (most : ℕ) (bs : List Bounds) (x : Y.Text) → IsScalar (text_leaf varying most) → AreBounds bs → e.table ≡ table_of e.program → IsDeclaredArray e block j (text_leaf varying most) bs → K.elements_code e t (whole (own block j)) (Y.StoredText x) ≡ stored_code e t (Y.StoredText x) ++ text_filling t (level_of block j == e.level) (level_of block j) (place_of_name e block j) (number_for (table_of e.program) (record { type = text_leaf varying most; bounds = bs }))
text_filling_is e t block j varying most bs x is are table declared =
    let a = stored_code e t (Y.StoredText x) in
    ap (λ c. a ++ c) (text_filling_form e t block j varying most bs declared)
    ∙ ap (λ n. a ++ text_filling t (level_of block j == e.level) (level_of block j) (place_of_name e block j) n) (number_known e (text_leaf varying most) bs declared.0 is are table)
