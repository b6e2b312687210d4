-- What the passes find, as what stands at the front.
use Rattle.std.proofs.Common.{◌≡◌, ◌≢◌, ℕ, suc, ◌+◌, ◌<◌, ◌≤◌, List, [], ◌∷◌, ◌++◌, length, get_or, take, drop, Bool, true, false, cond, refl, sym, ◌∙◌, ap, subst, eqb, Option, Some, None, arith, length-append, length-take-le}
use Rattle.std.specs.Prelude.{◌&&◌}
use Rattle.std.specs.List.{list_all, prefix_len}
use Rattle.std.proofs.lemmas.Bool.{eqb-true, ne_eqb, cond-true, cond-false, and_parts, and_left, or_from, or_left, or_right}
use Rattle.std.proofs.lemmas.List.Sums.{prefix_len-le-length}
use Rattle.pli_language.specs.declared.token.Kind.{Kind}
use Rattle.pli_language.specs.declared.token.Kind.TheVariants as K
use Rattle.pli_language.specs.declared.token.Symbol.{Symbol}
use Rattle.pli_language.specs.declared.fault.SourceKind.TheVariants.{BadByte, UnclosedText, TooLong, LeftOut}
use Rattle.pli_language.specs.Keywords.{word_named, in_upper_case}
use Rattle.pli_language.specs.Tokens.{is_digit, is_name_start, is_name_byte, quote, opens_comment, number_from, doubled, IsTextOf, Lexeme, Read, Power, OtherBits, IsShort, bad_byte, unclosed_text, too_long, too_long_bits, power, other_bits}
use Rattle.pli_lex.specs.Scanning.{text_end, stands_as_bits}
use Rattle.pli_lex.specs.Symbols.{single, pair}
use Rattle.pli_lex.specs.Pieces.{IsTokenOf, IsRefusedAt, BeginsOther, BeginsNoPair}
use Rattle.pli_lex.proofs.Texts.{text_value, Closes, text_value-closes, text_end-is, ended}
use Rattle.pli_lex.proofs.Symbols.{fixed, read_symbol, begins_other, other_byte}
use Rattle.pli_lex.proofs.Lexemes.{lexeme_at, name_at, number_at, quoted, bits_of, of_length, or_else, at_name, at_digit, at_quote, at_fixed, lexeme_at-spelled, longest_from, none_begins, one-add, prefix_passes, closed_take, text_of, bits_of_other}

-- ---- from the computed lexeme

token_from : (s : List ℕ) (n : ℕ) (kind : Kind) → opens_comment s ≡ false → lexeme_at s ≡ Some (n, Read kind) → IsShort kind (take n s) → IsTokenOf s kind n
token_from s n kind no_comment found short =
    let here = lexeme_at-spelled s n (Read kind) found in
    record { some = here.some; inside = here.inside; longest = longest_from s n (Read kind) no_comment found; short = short }

no_comment_first : (b : ℕ) (r : List ℕ) → begins_other b ≡ true → opens_comment (b ∷ r) ≡ false
no_comment_first b [] begins = refl
no_comment_first b (c ∷ r) begins = and_left _ _ (other_byte b 47 refl begins)

by_name : (b : ℕ) → is_name_start b ≡ true → begins_other b ≡ true
by_name b h = or_left _ _ h

by_digit : (b : ℕ) → is_digit b ≡ true → begins_other b ≡ true
by_digit b h = or_right (is_name_start b) _ (or_left _ _ h)

-- ---- names

name_size : (b : ℕ) (r : List ℕ) (n : ℕ) → is_name_start b ≡ true → n ≡ prefix_len is_name_byte (b ∷ r) → n ≡ suc (prefix_len is_name_byte r)
name_size b r n start size = size ∙ cond-true _ _ _ (or_left (is_name_start b) _ start) ∙ one-add _

short_name : (b : ℕ) (r : List ℕ) → is_name_start b ≡ true → suc (prefix_len is_name_byte r) ≤ 31 → IsTokenOf (b ∷ r) (K.Name (word_named (in_upper_case (take (suc (prefix_len is_name_byte r)) (b ∷ r))))) (suc (prefix_len is_name_byte r))
short_name b r start short =
    let long = length-take-le (prefix_len is_name_byte r) r (prefix_len-le-length is_name_byte r) in
    token_from (b ∷ r) _ _ (no_comment_first b r (by_name b start)) (at_name b r start) (omega (arith, long))

pub name_token : (s : List ℕ) (n : ℕ) → 0 < length s → is_name_start (get_or s 0 0) ≡ true → n ≡ prefix_len is_name_byte s → n ≤ 31 → IsTokenOf s (K.Name (word_named (in_upper_case (take n s)))) n
name_token [] n some start size short = absurd (omega arith)
name_token (b ∷ r) n some start size short =
    let is = name_size b r n start size in
    subst (λ m. IsTokenOf (b ∷ r) (K.Name (word_named (in_upper_case (take m (b ∷ r))))) m) (sym is) (short_name b r start (omega arith))

pub name_over : (s : List ℕ) (n : ℕ) → 0 < length s → is_name_start (get_or s 0 0) ≡ true → n ≡ prefix_len is_name_byte s → 31 < n → IsRefusedAt s TooLong
name_over [] n some start size over = absurd (omega arith)
name_over (b ∷ r) n some start size over =
    let is = name_size b r n start size in
    let long = length-take-le (prefix_len is_name_byte r) r (prefix_len-le-length is_name_byte r) in
    record { breaks = λ read. too_long (name_at b r).0 (K.Name (word_named (in_upper_case (b ∷ take (prefix_len is_name_byte r) r)))) (longest_from (b ∷ r) _ _ (no_comment_first b r (by_name b start)) (at_name b r start)) (omega (arith, long, is)) }

-- ---- numbers

number_size : (b : ℕ) (r : List ℕ) (n : ℕ) → is_digit b ≡ true → n ≡ prefix_len is_digit (b ∷ r) → n ≡ suc (prefix_len is_digit r)
number_size b r n digit size = size ∙ cond-true _ _ _ digit ∙ one-add _

pub digits_pass : (s : List ℕ) (n : ℕ) → n ≡ prefix_len is_digit s → list_all is_digit (take n s) ≡ true
digits_pass s n size = ap (λ m. list_all is_digit (take m s)) size ∙ prefix_passes is_digit s

pub number_token : (s : List ℕ) (n v : ℕ) → 0 < length s → is_digit (get_or s 0 0) ≡ true → n ≡ prefix_len is_digit s → v ≡ number_from 0 (take n s) → v ≤ 2147483647 → IsTokenOf s (K.Number v) n
number_token [] n v some digit size value short = absurd (omega arith)
number_token (b ∷ r) n v some digit size value short =
    let is = number_size b r n digit size in
    let at : v ≡ number_from 0 (b ∷ take (prefix_len is_digit r) r) = value ∙ ap (λ m. number_from 0 (take m (b ∷ r))) is in
    let found : lexeme_at (b ∷ r) ≡ Some (n, Read (K.Number v)) = at_digit b r digit ∙ (λ k. Some (sym is k, Read (K.Number (sym at k)))) in
    token_from (b ∷ r) n (K.Number v) (no_comment_first b r (by_digit b digit)) found short

pub number_over : (s : List ℕ) (n : ℕ) → 0 < length s → is_digit (get_or s 0 0) ≡ true → n ≡ prefix_len is_digit s → 2147483647 < number_from 0 (take n s) → IsRefusedAt s TooLong
number_over [] n some digit size over = absurd (omega arith)
number_over (b ∷ r) n some digit size over =
    let is = number_size b r n digit size in
    let at : number_from 0 (take n (b ∷ r)) ≡ number_from 0 (b ∷ take (prefix_len is_digit r) r) = ap (λ m. number_from 0 (take m (b ∷ r))) is in
    record { breaks = λ read. too_long (number_at b r).0 (K.Number (number_from 0 (b ∷ take (prefix_len is_digit r) r))) (longest_from (b ∷ r) _ _ (no_comment_first b r (by_digit b digit)) (at_digit b r digit)) (subst (λ m. 2147483647 < m) at over) }

-- ---- texts

-- a quote first, and the longest text behind it, with the bytes that reach to its end and its own
pub record QuotedAt (s : List ℕ) (end len : ℕ) : Type 0 where
  pub behind : List ℕ
  pub value : List ℕ
  pub is : s ≡ quote ∷ behind
  pub found : text_value false behind ≡ Some value
  pub closes : Closes behind value
  pub end_is : end ≡ suc (length (doubled value))
  pub len_is : len ≡ length value

abbrev end_of : Option (ℕ × ℕ) → ℕ
end_of None = 0
end_of (Some h) = h.0

abbrev len_of : Option (ℕ × ℕ) → ℕ
len_of None = 0
len_of (Some h) = h.1

quoted_by : (r : List ℕ) (end len : ℕ) (o : Option (List ℕ)) → text_value false r ≡ o → ended None false 0 0 o ≡ Some (end, len) → QuotedAt (quote ∷ r) end len
quoted_by r end len None is e = absurd (cc)
quoted_by r end len (Some v) is e =
    let at_end : 0 + length (doubled v) + 1 ≡ end = ap end_of e in
    let at_len : 0 + length v ≡ len = ap len_of e in
    record { behind = r; value = v; is = refl; found = is; closes = text_value-closes false r v is; end_is = omega arith; len_is = omega arith }

pub quoted_at : (s : List ℕ) (end len : ℕ) → 0 < length s → get_or s 0 0 ≡ 39 → text_end None false 0 0 (drop 1 s) ≡ Some (end, len) → QuotedAt s end len
quoted_at [] end len some begins found = absurd (omega arith)
quoted_at (b ∷ r) end len some begins found = subst (λ c. QuotedAt (c ∷ r) end len) (sym begins) (quoted_by r end len (text_value false r) refl (sym (text_end-is None false 0 0 r (λ e. absurd (cc))) ∙ found))

unclosed_by : (r : List ℕ) (o : Option (List ℕ)) → text_value false r ≡ o → ended None false 0 0 o ≡ None → text_value false r ≡ None
unclosed_by r None is e = is
unclosed_by r (Some v) is e = absurd (cc)

unclosed_first : (b : ℕ) (r : List ℕ) → b ≡ quote → text_end None false 0 0 r ≡ None → IsRefusedAt (b ∷ r) UnclosedText
unclosed_first b r begins none =
    let value = unclosed_by r (text_value false r) refl (sym (text_end-is None false 0 0 r (λ e. absurd (cc))) ∙ none) in
    let nothing_found : lexeme_at (b ∷ r) ≡ None = at_quote b r begins ∙ ap (quoted r) value in
    record { breaks = λ read. unclosed_text r (ap (λ c. c ∷ r) begins) (none_begins (b ∷ r) nothing_found) }

pub unclosed_text_at : (s : List ℕ) → 0 < length s → get_or s 0 0 ≡ 39 → text_end None false 0 0 (drop 1 s) ≡ None → IsRefusedAt s UnclosedText
unclosed_text_at [] some begins none = absurd (omega arith)
unclosed_text_at (b ∷ r) some begins none = unclosed_first b r begins none

only_byte_first : (c d : ℕ) (rest : List ℕ) (t : Bool) → eqb c quote ≡ t → get_or (cond t (quote ∷ quote ∷ []) (c ∷ []) ++ quote ∷ rest) 0 0 ≡ d → d ≢ quote → c ∷ [] ≡ d ∷ []
only_byte_first c d rest true q byte other = absurd (other (sym byte))
only_byte_first c d rest false q byte other = ap (λ x. x ∷ []) byte

module _ {s : List ℕ} {end len : ℕ} (h : QuotedAt s end len) where
  no_comment_there : opens_comment s ≡ false
  no_comment_there = ap opens_comment h.is ∙ no_comment_first quote h.behind refl

  found_there : lexeme_at s ≡ quoted h.behind (Some h.value)
  found_there = ap lexeme_at h.is ∙ ap (quoted h.behind) h.found

  rest_there : drop (1 + end) s ≡ drop (suc (length (doubled h.value))) h.behind
  rest_there =
      let size : 1 + end ≡ suc (suc (length (doubled h.value))) = omega (arith, h.end_is) in
      λ k. drop (size k) (h.is k)

  pub length_there : 1 + end ≤ length s
  length_there =
      let e = ap length h.closes.spelled ∙ length-append (doubled h.value) (quote ∷ h.closes.rest) in
      omega (arith, e, h.end_is, ap length h.is)

  text_found : stands_as_bits (drop (1 + end) s) ≡ false → lexeme_at s ≡ Some (1 + end, Read K.Text)
  text_found bits =
      let size : suc (suc (length (doubled h.value))) ≡ 1 + end = omega (arith, h.end_is) in
      found_there ∙ cond-false _ _ _ (sym (ap stands_as_bits rest_there) ∙ bits) ∙ (λ k. Some (size k, Read K.Text))

  bits_found : stands_as_bits (drop (1 + end) s) ≡ true → lexeme_at s ≡ Some (2 + end, bits_of h.value)
  bits_found bits =
      let size : suc (suc (suc (length (doubled h.value)))) ≡ 2 + end = omega (arith, h.end_is) in
      found_there ∙ cond-true _ _ _ (sym (ap stands_as_bits rest_there) ∙ bits) ∙ (λ k. Some (size k, bits_of h.value))

  text_there : IsTextOf h.value (take (1 + end) s)
  text_there =
      let size : 1 + end ≡ suc (suc (length (doubled h.value))) = omega (arith, h.end_is) in
      let front : take (1 + end) s ≡ quote ∷ (doubled h.value ++ quote ∷ []) = (λ k. take (size k) (h.is k)) ∙ ap (λ l. quote ∷ l) (closed_take h.behind h.value h.closes.rest h.closes.spelled) in
      subst (IsTextOf h.value) (sym front) (text_of h.value h.closes.one_line)

  pub text_token : stands_as_bits (drop (1 + end) s) ≡ false → len ≤ 1024 → IsTokenOf s K.Text (1 + end)
  text_token bits short = token_from s (1 + end) K.Text no_comment_there (text_found bits) (h.value, text_there, omega (arith, h.len_is))

  text_over_by : (t : Bool) → stands_as_bits (drop (1 + end) s) ≡ t → 1024 < len → IsRefusedAt s TooLong
  text_over_by true bits over =
      let other = bits_of_other h.value (λ e. omega (arith, h.len_is, ap length e)) (λ e. omega (arith, h.len_is, ap length e)) in
      let found : lexeme_at s ≡ Some (2 + end, OtherBits h.value) = bits_found bits ∙ (λ k. Some (2 + end, other k)) in
      record { breaks = λ read. too_long_bits (2 + end) h.value (longest_from s (2 + end) (OtherBits h.value) no_comment_there found) (omega (arith, h.len_is)) }
  text_over_by false bits over =
      record { breaks = λ read. too_long (1 + end) K.Text (longest_from s (1 + end) (Read K.Text) no_comment_there (text_found bits)) (h.value, text_there, omega (arith, h.len_is)) }

  pub text_over : 1024 < len → IsRefusedAt s TooLong
  text_over over = text_over_by (stands_as_bits (drop (1 + end) s)) refl over

  -- the only byte of a text is the one behind its opening quote
  only_byte_by : (v : List ℕ) (d : ℕ) → length v ≡ 1 → get_or (doubled v ++ quote ∷ h.closes.rest) 0 0 ≡ d → d ≢ quote → v ≡ d ∷ []
  only_byte_by [] d one byte other = absurd (omega arith)
  only_byte_by (c ∷ e ∷ v) d one byte other = absurd (omega arith)
  only_byte_by (c ∷ []) d one byte other = only_byte_first c d h.closes.rest (eqb c quote) refl byte other

  only_byte : (d : ℕ) → len ≡ 1 → get_or s 1 0 ≡ d → d ≢ quote → h.value ≡ d ∷ []
  only_byte d one byte other =
      let there : get_or s 1 0 ≡ get_or (doubled h.value ++ quote ∷ h.closes.rest) 0 0 = ap (λ l. get_or l 1 0) h.is ∙ ap (λ l. get_or l 0 0) h.closes.spelled in
      only_byte_by h.value d (sym h.len_is ∙ one) (sym there ∙ byte) other

  byte_of : (d : ℕ) → eqb d quote ≡ false → h.value ≡ d ∷ [] → (len ≡ 1) × (get_or s 1 0 ≡ d)
  byte_of d other e =
      let one : length h.value ≡ 1 = ap length e in
      let spelled : s ≡ quote ∷ (doubled (d ∷ []) ++ quote ∷ h.closes.rest) = h.is ∙ ap (λ l. quote ∷ l) (h.closes.spelled ∙ ap (λ v. doubled v ++ quote ∷ h.closes.rest) e) in
      (h.len_is ∙ one, ap (λ l. get_or l 1 0) spelled ∙ ap (λ l. get_or (l ++ quote ∷ h.closes.rest) 0 0) (cond-false _ _ _ other))

  pub zero_bit : stands_as_bits (drop (1 + end) s) ≡ true → len ≡ 1 → get_or s 1 0 ≡ 48 → IsTokenOf s (K.Bit false) (2 + end)
  zero_bit bits one byte =
      let value = only_byte 48 one byte (λ e. omega arith) in
      token_from s (2 + end) (K.Bit false) no_comment_there (bits_found bits ∙ ap (λ v. Some (2 + end, bits_of v)) value) tt

  pub one_bit : stands_as_bits (drop (1 + end) s) ≡ true → len ≡ 1 → get_or s 1 0 ≡ 49 → IsTokenOf s (K.Bit true) (2 + end)
  one_bit bits one byte =
      let value = only_byte 49 one byte (λ e. omega arith) in
      token_from s (2 + end) (K.Bit true) no_comment_there (bits_found bits ∙ ap (λ v. Some (2 + end, bits_of v)) value) tt

  pub no_bit : stands_as_bits (drop (1 + end) s) ≡ true → len ≤ 1024 → (len ≡ 1 → get_or s 1 0 ≡ 48 → ⊥) → (len ≡ 1 → get_or s 1 0 ≡ 49 → ⊥) → IsRefusedAt s LeftOut
  no_bit bits short no_zero no_one =
      let other = bits_of_other h.value (λ e. let p = byte_of 48 refl e in no_zero p.0 p.1) (λ e. let p = byte_of 49 refl e in no_one p.0 p.1) in
      let found : lexeme_at s ≡ Some (2 + end, OtherBits h.value) = bits_found bits ∙ (λ k. Some (2 + end, other k)) in
      record { breaks = λ read. other_bits (2 + end) h.value (longest_from s (2 + end) (OtherBits h.value) no_comment_there found) (omega (arith, h.len_is)) }

-- ---- symbols

others_begin : (b : ℕ) (r : List ℕ) → BeginsOther (b ∷ r) → begins_other b ≡ false
others_begin b r h = or_from _ _ h.no_name (or_from _ _ h.no_digit (ne_eqb b quote h.no_quote))

abbrev fixed_of : ℕ → Option Lexeme → Option (ℕ × Lexeme)
fixed_of b o = or_else (of_length 2 o) (of_length 1 (fixed (b ∷ [])))

at_pair : (b c : ℕ) (r : List ℕ) (x : Lexeme) → BeginsOther (b ∷ c ∷ r) → fixed (b ∷ c ∷ []) ≡ Some x → lexeme_at (b ∷ c ∷ r) ≡ Some (2, x)
at_pair b c r x h is = at_fixed b (c ∷ r) (others_begin b (c ∷ r) h) ∙ ap (λ o. fixed_of b o) is

pub power_at : (s : List ℕ) → BeginsOther s → 1 < length s → get_or s 0 0 ≡ 42 → get_or s 1 0 ≡ 42 → IsRefusedAt s LeftOut
power_at [] h two first second = absurd (omega arith)
power_at (b ∷ []) h two first second = absurd (omega arith)
power_at (b ∷ c ∷ r) h two first second =
    let is : fixed (b ∷ c ∷ []) ≡ Some Power = λ k. fixed (first k ∷ second k ∷ []) in
    record { breaks = λ read. power 2 (longest_from (b ∷ c ∷ r) 2 Power h.no_comment (at_pair b c r Power h is)) }

pair_fixed : (b c : ℕ) (symbol : Symbol) (t : Bool) → (eqb b 42 && eqb c 42) ≡ t → pair b c ≡ Some symbol → cond t (Some Power) (read_symbol (pair b c)) ≡ Some (Read (K.Symbol symbol))
pair_fixed b c symbol true q is =
    let parts = and_parts (eqb b 42) (eqb c 42) q in
    let none : pair b c ≡ None = λ k. pair (eqb-true b 42 parts.0 k) (eqb-true c 42 parts.1 k) in
    absurd (cc)
pair_fixed b c symbol false q is = ap read_symbol is

pub pair_token : (s : List ℕ) (symbol : Symbol) → BeginsOther s → 1 < length s → pair (get_or s 0 0) (get_or s 1 0) ≡ Some symbol → IsTokenOf s (K.Symbol symbol) 2
pair_token [] symbol h two is = absurd (omega arith)
pair_token (b ∷ []) symbol h two is = absurd (omega arith)
pair_token (b ∷ c ∷ r) symbol h two is =
    token_from (b ∷ c ∷ r) 2 (K.Symbol symbol) h.no_comment (at_pair b c r (Read (K.Symbol symbol)) h (pair_fixed b c symbol (eqb b 42 && eqb c 42) refl is)) tt

not_both : (b c : ℕ) (t : Bool) → (eqb b 42 && eqb c 42) ≡ t → (b ≡ 42 → c ≡ 42 → ⊥) → t ≡ false
not_both b c true q other = let parts = and_parts (eqb b 42) (eqb c 42) q in absurd (other (eqb-true b 42 parts.0) (eqb-true c 42 parts.1))
not_both b c false q other = refl

single_found : (b : ℕ) (r : List ℕ) → BeginsOther (b ∷ r) → BeginsNoPair (b ∷ r) → lexeme_at (b ∷ r) ≡ of_length 1 (read_symbol (single b))
single_found b [] h no_pair = at_fixed b [] (others_begin b [] h)
single_found b (c ∷ r) h no_pair =
    let none = no_pair.no_symbol (omega arith) in
    let other : (eqb b 42 && eqb c 42) ≡ false = not_both b c (eqb b 42 && eqb c 42) refl (λ p q. no_pair.no_power (omega arith) p q) in
    at_fixed b (c ∷ r) (others_begin b (c ∷ r) h) ∙ ap (λ o. fixed_of b o) (cond-false _ _ _ other ∙ ap read_symbol none)

pub single_token : (s : List ℕ) (symbol : Symbol) → BeginsOther s → BeginsNoPair s → single (get_or s 0 0) ≡ Some symbol → IsTokenOf s (K.Symbol symbol) 1
single_token [] symbol h no_pair is = absurd (omega (arith, h.some))
single_token (b ∷ r) symbol h no_pair is = token_from (b ∷ r) 1 (K.Symbol symbol) h.no_comment (single_found b r h no_pair ∙ ap (λ o. of_length 1 (read_symbol o)) is) tt

bad_byte_first : (b : ℕ) (r : List ℕ) → BeginsOther (b ∷ r) → BeginsNoPair (b ∷ r) → single b ≡ None → IsRefusedAt (b ∷ r) BadByte
bad_byte_first b r h no_pair none =
    let nothing_found = single_found b r h no_pair ∙ ap (λ o. of_length 1 (read_symbol o)) none in
    record { breaks = λ read. bad_byte b r refl h.no_blank h.no_quote h.no_comment (none_begins (b ∷ r) nothing_found) }

pub bad_byte_at : (s : List ℕ) → BeginsOther s → BeginsNoPair s → single (get_or s 0 0) ≡ None → IsRefusedAt s BadByte
bad_byte_at [] h no_pair none = absurd (omega (arith, h.some))
bad_byte_at (b ∷ r) h no_pair none = bad_byte_first b r h no_pair none
