-- Each source has tokens or a refusal.
use Rattle.std.proofs.Common.{◌≡◌, ℕ, zero, suc, ◌+◌, ◌<◌, ◌≤◌, ◌⊎◌, inl, inr, ⊎_elim, List, [], length, get_or, take, drop, Bool, true, false, refl, eqb, Option, Some, None, arith, length-drop}
use Rattle.std.specs.Prelude.{◌&&◌}
use Rattle.std.specs.List.{prefix_len}
use Rattle.std.proofs.lemmas.Bool.{eqb-true, eqb-false, eq-eqb, and_parts, and_from, both_ways, cases_lt}
use Rattle.pli_language.specs.declared.fault.SourceKind.{SourceKind}
use Rattle.pli_language.specs.declared.fault.SourceKind.TheVariants.{BadByte, UnclosedComment, UnclosedText, TooLong, LeftOut}
use Rattle.pli_language.specs.declared.token.Kind.{Kind}
use Rattle.pli_language.specs.declared.token.Symbol.{Symbol}
use Rattle.pli_language.specs.declared.token.Token.{Token}
use Rattle.pli_language.specs.Tokens.{is_blank, is_digit, is_name_start, is_name_byte, quote, opens_comment, number_from, most_bytes, most_tokens, one_too_many, source_too_long}
use Rattle.pli_lex.specs.Answers.{HasAnswer, has_tokens, has_refusal}
use Rattle.pli_lex.specs.Scanning.{comment_end, text_end, stands_as_bits}
use Rattle.pli_lex.specs.Symbols.{single, pair}
use Rattle.pli_lex.specs.Pieces.{IsSeparatorAt, IsTokenOf, IsRefusedAt, BeginsOther, BeginsNoPair}
use Rattle.pli_lex.proofs.Comments.{comment_at, unclosed_at, blank_at}
use Rattle.pli_lex.proofs.Pieces.{QuotedAt, quoted_at, unclosed_text_at, text_token, text_over, zero_bit, one_bit, no_bit, name_token, name_over, number_token, number_over, power_at, pair_token, single_token, bad_byte_at}
use Rattle.pli_lex.proofs.Reading.{Progress, progress_start, progress_separator, progress_token, progress_end, progress_refuses}

-- what stands at the front
data Here (s : List ℕ) : Type 0 where
  separator : (n : ℕ) → IsSeparatorAt s n → Here s
  token : (kind : Kind) (n : ℕ) → IsTokenOf s kind n → Here s
  refusal : (kind : SourceKind) → IsRefusedAt s kind → Here s

here_comment : (s : List ℕ) (o : Option ℕ) → opens_comment s ≡ true → comment_end false 0 (drop 2 s) ≡ o → Here s
here_comment s None opens e = refusal UnclosedComment (unclosed_at s opens e)
here_comment s (Some n) opens e = separator (2 + n) (comment_at s n opens e)

here_name : (s : List ℕ) → 0 < length s → is_name_start (get_or s 0 0) ≡ true → Here s
here_name s some start =
    ⊎_elim (λ over. refusal TooLong (name_over s _ some start refl over)) (λ short. token _ _ (name_token s _ some start refl short)) (cases_lt 31 (prefix_len is_name_byte s))

here_number : (s : List ℕ) → 0 < length s → is_digit (get_or s 0 0) ≡ true → Here s
here_number s some digit =
    ⊎_elim (λ over. refusal TooLong (number_over s _ some digit refl over)) (λ short. token _ _ (number_token s _ _ some digit refl refl short)) (cases_lt 2147483647 (number_from 0 (take (prefix_len is_digit s) s)))

here_bits : (s : List ℕ) (end len : ℕ) (t u : Bool) → QuotedAt s end len → stands_as_bits (drop (1 + end) s) ≡ true → len ≤ 1024 → (eqb len 1 && eqb (get_or s 1 0) 48) ≡ t → (eqb len 1 && eqb (get_or s 1 0) 49) ≡ u → Here s
here_bits s end len true u h bits short p q =
    let parts = and_parts (eqb len 1) (eqb (get_or s 1 0) 48) p in
    token _ _ (zero_bit h bits (eqb-true len 1 parts.0) (eqb-true _ 48 parts.1))
here_bits s end len false true h bits short p q =
    let parts = and_parts (eqb len 1) (eqb (get_or s 1 0) 49) q in
    token _ _ (one_bit h bits (eqb-true len 1 parts.0) (eqb-true _ 49 parts.1))
here_bits s end len false false h bits short p q =
    refusal LeftOut (no_bit h bits short (λ one zero. both_ways _ p (and_from _ _ (eq-eqb len 1 one) (eq-eqb _ 48 zero))) (λ one other. both_ways _ q (and_from _ _ (eq-eqb len 1 one) (eq-eqb _ 49 other))))

here_text : (s : List ℕ) (end len : ℕ) (t : Bool) → QuotedAt s end len → stands_as_bits (drop (1 + end) s) ≡ t → (1024 < len) ⊎ (len ≤ 1024) → Here s
here_text s end len t h bits (inl over) = refusal TooLong (text_over h over)
here_text s end len true h bits (inr short) = here_bits s end len _ _ h bits short refl refl
here_text s end len false h bits (inr short) = token _ _ (text_token h bits short)

here_quoted : (s : List ℕ) (o : Option (ℕ × ℕ)) → 0 < length s → get_or s 0 0 ≡ 39 → text_end None false 0 0 (drop 1 s) ≡ o → Here s
here_quoted s None some begins e = refusal UnclosedText (unclosed_text_at s some begins e)
here_quoted s (Some (end, len)) some begins e = here_text s end len _ (quoted_at s end len some begins e) refl (cases_lt 1024 len)

here_single : (s : List ℕ) (o : Option Symbol) → BeginsOther s → BeginsNoPair s → single (get_or s 0 0) ≡ o → Here s
here_single s None h no_pair e = refusal BadByte (bad_byte_at s h no_pair e)
here_single s (Some symbol) h no_pair e = token _ _ (single_token s symbol h no_pair e)

here_pair : (s : List ℕ) (t : Bool) (o : Option Symbol) → BeginsOther s → 1 < length s → (eqb (get_or s 0 0) 42 && eqb (get_or s 1 0) 42) ≡ t → pair (get_or s 0 0) (get_or s 1 0) ≡ o → Here s
here_pair s true o h two p e =
    let parts = and_parts (eqb (get_or s 0 0) 42) (eqb (get_or s 1 0) 42) p in
    refusal LeftOut (power_at s h two (eqb-true _ 42 parts.0) (eqb-true _ 42 parts.1))
here_pair s false (Some symbol) h two p e = token _ _ (pair_token s symbol h two e)
here_pair s false None h two p e =
    here_single s _ h (record { no_power = λ _ first second. both_ways _ p (and_from _ _ (eq-eqb _ 42 first) (eq-eqb _ 42 second)); no_symbol = λ _. e }) refl

here_symbol : (s : List ℕ) → BeginsOther s → Here s
here_symbol s h =
    ⊎_elim
    (λ two. here_pair s _ _ h two refl refl)
    (λ one. here_single s _ h (record { no_power = λ two _ _. omega arith; no_symbol = λ two. absurd (omega arith) }) refl)
    (cases_lt 1 (length s))

here_by : (s : List ℕ) (b c n d q : Bool) → 0 < length s → is_blank (get_or s 0 0) ≡ b → opens_comment s ≡ c → is_name_start (get_or s 0 0) ≡ n → is_digit (get_or s 0 0) ≡ d → eqb (get_or s 0 0) quote ≡ q → Here s
here_by s true c n d q some blank opens name digit text = separator 1 (blank_at s some blank)
here_by s false true n d q some blank opens name digit text = here_comment s _ opens refl
here_by s false false true d q some blank opens name digit text = here_name s some name
here_by s false false false true q some blank opens name digit text = here_number s some digit
here_by s false false false false true some blank opens name digit text = here_quoted s _ some (eqb-true _ quote text) refl
here_by s false false false false false some blank opens name digit text =
    here_symbol s (record { some = some; no_blank = blank; no_comment = opens; no_name = name; no_digit = digit; no_quote = eqb-false _ quote text })

here : (s : List ℕ) → 0 < length s → Here s
here s some = here_by s _ _ _ _ _ some refl refl refl refl refl

-- ---- to the end

abbrev GoesOn : ℕ → List ℕ → Type 0
GoesOn fuel s = (ts : List Token) (q line column : ℕ) → Progress s ts q line column → length s ≤ q + fuel → HasAnswer s

on_token : (fuel : ℕ) (s : List ℕ) (ts : List Token) (q line column n : ℕ) (kind : Kind) → length s ≤ most_bytes → Progress s ts q line column → length s ≤ q + suc fuel → q < length s → IsTokenOf (drop q s) kind n → GoesOn fuel s → (length ts < most_tokens) ⊎ (most_tokens ≤ length ts) → HasAnswer s
on_token fuel s ts q line column n kind bytes h enough inside t more (inl room) =
    more _ (q + n) _ _ (progress_token s ts q line column n kind h t room) (omega (arith, t.some))
on_token fuel s ts q line column n kind bytes h enough inside t more (inr full) =
    has_refusal line column TooLong (progress_refuses s ts q line column TooLong h bytes inside (one_too_many n kind t.longest (omega (arith, h.few))))

on_here : (fuel : ℕ) (s : List ℕ) (ts : List Token) (q line column : ℕ) → length s ≤ most_bytes → Progress s ts q line column → length s ≤ q + suc fuel → q < length s → Here (drop q s) → GoesOn fuel s → HasAnswer s
on_here fuel s ts q line column bytes h enough inside (separator n t) more =
    more ts (q + n) _ _ (progress_separator s ts q line column n h t) (omega (arith, t.some))
on_here fuel s ts q line column bytes h enough inside (token kind n t) more =
    on_token fuel s ts q line column n kind bytes h enough inside t more (cases_lt (length ts) most_tokens)
on_here fuel s ts q line column bytes h enough inside (refusal kind t) more =
    has_refusal line column kind (progress_refuses s ts q line column kind h bytes inside (t.breaks (length ts)))

goes_on : (fuel : ℕ) (s : List ℕ) → length s ≤ most_bytes → GoesOn fuel s
goes_on zero s bytes ts q line column h enough = has_tokens ts (progress_end s ts q line column h bytes (omega arith))
goes_on (suc fuel) s bytes ts q line column h enough =
    ⊎_elim
    (λ inside. on_here fuel s ts q line column bytes h enough inside (here (drop q s) (omega (arith, length-drop q s))) (goes_on fuel s bytes))
    (λ done. has_tokens ts (progress_end s ts q line column h bytes done))
    (cases_lt q (length s))

pub some_answer : (s : List ℕ) → HasAnswer s
some_answer s =
    ⊎_elim
    (λ over. has_refusal 1 1 TooLong (source_too_long over))
    (λ bytes. goes_on (length s) s bytes [] 0 1 1 (progress_start s) (omega arith))
    (cases_lt most_bytes (length s))
