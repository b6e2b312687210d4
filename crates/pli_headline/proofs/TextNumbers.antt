-- What service 26 answers: the top text as a number or as a bit, where it is one.
use Rattle.std.proofs.Common.{◌≡◌, ℕ, List, ◌∷◌, Option, Some, None, Bool, true, false, refl, ap, ◌∙◌, subst}
use Rattle.std.specs.Prelude.{ℤ, cond}
use Rattle.std.specs.Option.{option_map}
use Rattle.rv_meaning.specs.declared.instr.Instr.{Instr}
use Rattle.rv_meaning.specs.Words.{word, flag}
use Rattle.pli_meaning.specs.Codes.{conversion_code}
use Rattle.pli_meaning.specs.Numbers.{is_of_precision}
use Rattle.pli_meaning.specs.Texts.{number_in_text, bit_in_text, within_precision, signed_value, without_leading_blanks, without_trailing_blanks}
use Rattle.pli_serving.specs.ServiceState.{Services, Entry, TextEntry}
use Rattle.pli_serving.specs.Answers.{Done}
use Rattle.pli_serving.specs.Finding.{Call}
use Rattle.pli_serving.specs.Outcomes.{with_entries, on_text, or_status, becoming}
use Rattle.pli_serving.specs.TextServices as X
use Rattle.run_steps.specs.Engine.{call_at}
use Rattle.run_steps.specs.Numbers.{IsWide}
use Rattle.pli_headline.proofs.TextCalls.{told}

-- ---- numbers in texts

within_wide : (b : Bool) (x z : ℤ) → is_of_precision 31 x ≡ b → cond b (Some x) None ≡ Some z → IsWide z
within_wide true x z e h = let same : x ≡ z = cc h in subst (λ u. is_of_precision 31 u ≡ true) same e
within_wide false x z e h = absurd (cc h)

precise_wide : (o : Option ℤ) (z : ℤ) → within_precision 31 o ≡ Some z → IsWide z
precise_wide None z h = absurd (cc h)
precise_wide (Some x) z h = within_wide (is_of_precision 31 x) x z refl h

pub number_wide : (t : List ℕ) (z : ℤ) → number_in_text t ≡ Some z → IsWide z
number_wide t z h = precise_wide (signed_value (without_trailing_blanks (without_leading_blanks t))) z h

-- ---- what is answered

word_told : {X : Type 0} (c : Call) (v : Services) (mode : ℕ) (word_of : X → ℕ) (o : Option X) → or_status c mode conversion_code (option_map word_of o) (λ w. Done v c.memory w 0) ≡ told c.services c.memory mode conversion_code (λ r. v) word_of o
word_told c v mode word_of None = refl
word_told c v mode word_of (Some r) = refl

pub number_answer : (code : List Instr) (v : Services) (m : List ℕ) (text : List ℕ) (texts : List Entry) → v.entries ≡ TextEntry text ∷ texts → X.to_number_served (call_at code v m) 0 ≡ told v m 0 conversion_code (λ z. with_entries texts v) word (number_in_text text)
number_answer code v m text texts top =
    let c = call_at code v m in
    ap (λ u. on_text u (λ t below. or_status c 0 conversion_code (X.word_in_text 0 t) (λ w. becoming c (with_entries below v) w 0))) top
    ∙ word_told c (with_entries texts v) 0 word (number_in_text text)

pub bit_answer : (code : List Instr) (v : Services) (m : List ℕ) (text : List ℕ) (texts : List Entry) → v.entries ≡ TextEntry text ∷ texts → X.to_number_served (call_at code v m) 1 ≡ told v m 1 conversion_code (λ b. with_entries texts v) flag (bit_in_text text)
bit_answer code v m text texts top =
    let c = call_at code v m in
    ap (λ u. on_text u (λ t below. or_status c 1 conversion_code (X.word_in_text 1 t) (λ w. becoming c (with_entries below v) w 0))) top
    ∙ word_told c (with_entries texts v) 1 flag (bit_in_text text)
