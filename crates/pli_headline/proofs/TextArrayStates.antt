-- What variables of a block hold after a text is assigned to an element of an array, and that arrays of texts stand apart from others.
use Rattle.std.proofs.Common.{◌≡◌, ℕ, ◌≤◌, List, ◌∷◌, Bool, true, false, refl, sym, ap, subst}
use Rattle.std.specs.Prelude.{ℤ, cond, ◌==◌}
use Rattle.std.proofs.lemmas.Bool.{eqb-true}
use Rattle.pli_typing.specs.Signatures.{Bounds}
use Rattle.pli_typing.specs.TypedTree as Y
use Rattle.pli_meaning.specs.BasicValues.{BasicText}
use Rattle.pli_meaning.specs.Contents.{is_within, element_place}
use Rattle.pli_meaning.specs.StorageState.{State}
use Rattle.pli_meaning.specs.Placing as P
use Rattle.pli_headline.specs.ProvedSoFar.{Names, Types, Kind, text_leaf}
use Rattle.pli_headline.proofs.Scalars.{IsNumeric, Values}
use Rattle.pli_headline.proofs.States.{one_type}
use Rattle.pli_headline.proofs.TextStates.{not_numeric, leaf_same}
use Rattle.pli_headline.proofs.TextsKept.{text_kept_as}
use Rattle.pli_headline.proofs.ArrayScopes.{IsArrayAt}
use Rattle.pli_headline.proofs.ArrayStates.{kind_with, apart_by}
use Rattle.pli_headline.proofs.TextArraysStay.{with_text_in}
use Rattle.pli_headline.proofs.TextArrayMeant.{HoldsTexts, designated_text, text_element_state, texts_assigned, texts_aside}
use Rattle.pli_headline.proofs.TextArrayScopes.{IsTextArrayAt, with_text_of}

-- ---- an array of numbers is none of texts

never_both : (type : Y.LeafType) (varying : Bool) (most : ℕ) (bs cs : List Bounds) → IsNumeric type → kind_with (text_leaf varying most) cs ≡ kind_with type bs → ⊥
never_both type varying most bs cs numeric e =
    not_numeric varying most (subst IsNumeric (sym (ap (λ (k : Kind). k.type) e)) numeric)

pub texts_apart : (types : Types) (i j : ℕ) (type : Y.LeafType) (b : Bounds) (bs : List Bounds) (varying : Bool) (most : ℕ) (c : Bounds) (cs : List Bounds) → IsArrayAt types j type b bs → IsTextArrayAt types i varying most c cs → (i == j) ≡ false
texts_apart types i j type b bs varying most c cs h k =
    apart_by (i == j) types i j (kind_with type (b ∷ bs)) (kind_with (text_leaf varying most) (c ∷ cs)) refl h.0 k (λ e. never_both type varying most (b ∷ bs) (c ∷ cs) h.1 e)

pub numbers_apart : (types : Types) (i j : ℕ) (type : Y.LeafType) (b : Bounds) (bs : List Bounds) (varying : Bool) (most : ℕ) (c : Bounds) (cs : List Bounds) → IsTextArrayAt types j varying most c cs → IsArrayAt types i type b bs → (i == j) ≡ false
numbers_apart types i j type b bs varying most c cs h k =
    apart_by (i == j) types i j (kind_with (text_leaf varying most) (c ∷ cs)) (kind_with type (b ∷ bs)) refl h k.0 (λ e. never_both type varying most (b ∷ bs) (c ∷ cs) k.1 (sym e))

-- ---- an element is assigned

kind_parts : (varying other : Bool) (most most' : ℕ) (bs cs : List Bounds) → kind_with (text_leaf other most') cs ≡ kind_with (text_leaf varying most) bs → ((other ≡ varying) × (most' ≡ most)) × (cs ≡ bs)
kind_parts varying other most most' bs cs e =
    (leaf_same other varying most' most (ap (λ (k : Kind). k.type) e), ap (λ (k : Kind). k.bounds) e)

after_by : {s : State} {block : Names} {j serial : ℕ} {varying : Bool} {most : ℕ} {bs : List Bounds} (q : Bool) (i other' : ℕ) (other : Bool) (most' : ℕ) (cs : List Bounds) (n : Values) (is : List ℤ) (text : List ℕ) → (i == j) ≡ q → (i ≡ j → kind_with (text_leaf other most') cs ≡ kind_with (text_leaf varying most) bs) → (i ≡ j → other' ≡ serial) → ((i == j) ≡ false → (serial == other') ≡ false) → is_within bs is ≡ true → most ≤ 1024 → (h : HoldsTexts s block j serial varying most bs (n.text_arrays j)) → HoldsTexts s block i other' other most' cs (n.text_arrays i) → HoldsTexts (text_element_state s varying most bs serial h.values is text) block i other' other most' cs (cond q (with_text_in (n.text_arrays i) (element_place bs is) (text_kept_as varying most text)) (n.text_arrays i))
after_by {s} {block} {j} {serial} {varying} {most} {bs} true i other' other most' cs n is text e alike same' apart within few h o =
    let same : i ≡ j = eqb-true i j e in
    let parts = kind_parts varying other most most' bs cs (alike same) in
    let s' = text_element_state s varying most bs serial h.values is text in
    let p = element_place bs is in
    let kept = text_kept_as varying most text in
    subst (λ m. HoldsTexts s' block i m other most' cs (with_text_in (n.text_arrays i) p kept)) (sym (same' same))
    (subst (λ u. HoldsTexts s' block i serial u most' cs (with_text_in (n.text_arrays i) p kept)) (sym parts.0.0)
    (subst (λ u. HoldsTexts s' block i serial varying u cs (with_text_in (n.text_arrays i) p kept)) (sym parts.0.1)
    (subst (λ ds. HoldsTexts s' block i serial varying most ds (with_text_in (n.text_arrays i) p kept)) (sym parts.1)
    (subst (λ u. HoldsTexts s' block u serial varying most bs (with_text_in (n.text_arrays u) p kept)) (sym same) (texts_assigned is text within few h)))))
after_by {serial = serial} {varying = varying} {most = most} {bs = bs} false i other' other most' cs n is text e alike same' apart within few h o =
    texts_aside serial (P.with_element (designated_text varying most bs serial h.values is) (BasicText text)) (apart e) o

-- all arrays of texts
pub text_arrays_after : {s : State} {block : Names} {j : ℕ} {varying : Bool} {most : ℕ} {b : Bounds} {bs : List Bounds} (serials : ℕ → ℕ) (types : Types) (n : Values) (is : List ℤ) (text : List ℕ) → IsTextArrayAt types j varying most b bs → is_within (b ∷ bs) is ≡ true → most ≤ 1024 → (h : HoldsTexts s block j (serials j) varying most (b ∷ bs) (n.text_arrays j)) → (i : ℕ) (other : Bool) (most' : ℕ) (c : Bounds) (cs : List Bounds) → IsTextArrayAt types i other most' c cs → ((i == j) ≡ false → (serials j == serials i) ≡ false) → HoldsTexts s block i (serials i) other most' (c ∷ cs) (n.text_arrays i) → HoldsTexts (text_element_state s varying most (b ∷ bs) (serials j) h.values is text) block i (serials i) other most' (c ∷ cs) ((with_text_of n j (element_place (b ∷ bs) is) (text_kept_as varying most text)).text_arrays i)
text_arrays_after {j = j} {varying} {most} {b} {bs} serials types n is text at within few h i other most' c cs at' apart o =
    after_by (i == j) i (serials i) other most' (c ∷ cs) n is text refl (one_type types i j (kind_with (text_leaf varying most) (b ∷ bs)) (kind_with (text_leaf other most') (c ∷ cs)) at at') (λ e. ap serials e) apart within few h o
