-- Elements that begin as zeros.
use Rattle.std.proofs.Common.{zero, suc, ◌≡◌, ℕ, ◌+◌, ◌-◌, ◌*◌, Bool, true, false, List, ◌++◌, replicate, pos, refl, sym, ap, ◌∙◌, arith}
use Rattle.std.specs.Prelude.{if◌then◌else◌, nat_le}
use Rattle.std.proofs.lemmas.List.{replicate-append-replicate}
use Rattle.rv_meaning.specs.Words.{word}
use Rattle.pli_language.specs.Tree.{InitialValue, InitialSkip}
use Rattle.pli_typing.specs.Signatures.{LeafKind, Fixed, rounded_up}
use Rattle.pli_meaning.specs.Contents.{default_value, initial_of}
use Rattle.pli_serving.specs.Bytes.{number_bytes, with_bytes}
use Rattle.pli_serving.specs.Values.{element_bytes, element_size}
use Rattle.pli_values.specs.Runs.{fresh_element, run_of}
use Rattle.pli_values.specs.Sizes.{written_size}

number_zeros :
    (small : Bool) →
    number_bytes (if small then 2 else 4) (word (pos 0)) ++ replicate (rounded_up 4 (if small then 2 else 4) - (if small then 2 else 4)) 0
    ≡ replicate (rounded_up 4 (if small then 2 else 4)) 0
number_zeros true = refl
number_zeros false = refl

number_whole : (small : Bool) → (if small then 2 else 4) + (rounded_up 4 (if small then 2 else 4) - (if small then 2 else 4)) ≡ rounded_up 4 (if small then 2 else 4)
number_whole true = refl
number_whole false = refl

pub fixed_zeros : (precision : ℕ) → element_bytes (Fixed precision) (default_value (Fixed precision)) ≡ replicate (element_size (Fixed precision)) 0
fixed_zeros precision = number_zeros (nat_le precision 15)

pub fixed_whole : (precision : ℕ) → written_size (Fixed precision) ≡ element_size (Fixed precision)
fixed_whole precision = number_whole (nat_le precision 15)

times_more : (w n : ℕ) → w + w * n ≡ w * suc n
times_more w n = omega arith

zeros_run : (piece : ℕ → List ℕ) (w first n : ℕ) → ((i : ℕ) → piece i ≡ replicate w 0) → run_of piece first n ≡ replicate (w * n) 0
zeros_run piece w first zero h = let none : w * 0 ≡ 0 = omega arith in sym (ap (λ k. replicate k 0) none)
zeros_run piece w first (suc n) h =
    ap (λ s. s ++ run_of piece (suc first) n) (h first)
    ∙ ap (λ s. replicate w 0 ++ s) (zeros_run piece w (suc first) n h)
    ∙ replicate-append-replicate w (w * n) 0
    ∙ ap (λ k. replicate k 0) (times_more w n)

-- bytes that are zeros are such elements where INITIAL gives them nothing
pub run_filled :
    (kind : LeafKind) (values : ℕ → InitialValue) (at bytes n : ℕ) (m m1 : List ℕ) → ((i : ℕ) → InitialSkip ≡ values i) →
    element_bytes kind (default_value kind) ≡ replicate (element_size kind) 0 → bytes ≡ element_size kind * n →
    m1 ≡ with_bytes (replicate bytes 0) at m → m1 ≡ with_bytes (run_of (fresh_element kind values) 0 n) at m
run_filled kind values at bytes n m m1 skipped zeros e f =
    f ∙ ap (λ s. with_bytes s at m)
    (ap (λ k. replicate k 0) e
    ∙ sym (zeros_run (fresh_element kind values) (element_size kind) 0 n
    (λ i. ap (λ v. element_bytes kind (initial_of kind v)) (sym (skipped i)) ∙ zeros)))
