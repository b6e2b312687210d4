-- A source has one list of tokens or one refusal, and not both.
use Rattle.std.proofs.Common.{◌≡◌, ◌≢◌, ℕ, suc, ◌+◌, ◌-◌, ◌<◌, ◌≤◌, ◌⊎◌, inl, inr, ⊎_elim, List, [], ◌∷◌, ◌++◌, length, take, drop, Bool, true, false, refl, sym, ◌∙◌, ap, subst, eqb, Option, Some, None, Result, Ok, Err, MatchResult, arith, length-drop, length-take-le, take-append-drop}
use Rattle.std.specs.Prelude.{◌==◌, if◌then◌else◌, slice_range, nat_le}
use Rattle.std.proofs.lemmas.Bool.{eqb-true, cond-true, cond-false, both_ways, or_cases, le-leb, lt-leb, ne_eqb, and_parts}
use Rattle.std.proofs.lemmas.List.{append_cancel_right, drop-drop, drop_all, take_rest}
use Rattle.pli_language.specs.declared.fault.SourceFault.{SourceFault}
use Rattle.pli_language.specs.declared.fault.SourceKind.{SourceKind}
use Rattle.pli_language.specs.declared.fault.SourceKind.TheVariants.{BadByte, UnclosedComment, UnclosedText, TooLong, LeftOut}
use Rattle.pli_language.specs.declared.token.Kind.{Kind}
use Rattle.pli_language.specs.declared.token.Kind.TheVariants as K
use Rattle.pli_language.specs.declared.token.Token.{Token}
use Rattle.pli_language.specs.Tokens.{is_blank, quote, opens_comment, doubled, IsTextOf, IsSeparation, Lexeme, Read, Power, OtherBits, IsLongest, IsShort, IsOver, BeginsNone, line_after, column_after, IsTokenAt, Reads, no_more, one_more, most_tokens, Tokens, Breaks, bad_byte, unclosed_comment, unclosed_text, too_long, one_too_many, too_long_bits, power, other_bits, Refuses, source_too_long, at_place}
use Rattle.pli_lex.specs.Faults.{IsFaultOf, out_of_memory, refused, IsOutOfMemory, IsRefusal}
use Rattle.pli_lex.proofs.Texts.{doubled-injective}
use Rattle.pli_lex.proofs.Lexemes.{lexeme_at, same_found, lexeme_at-spelled, longest_gives, begins_none-gives}
use Rattle.pli_lex.proofs.Comments.{NoSeparator, same_separation}

-- ---- what is refused at one place

abbrev kind_behind : ℕ → List ℕ → Option (ℕ × Lexeme) → SourceKind
kind_behind b r None = if b == quote then UnclosedText else BadByte
kind_behind b r (Some (n, Read k)) = TooLong
kind_behind b r (Some (n, Power)) = LeftOut
kind_behind b r (Some (n, OtherBits v)) = if nat_le (length v) 1024 then LeftOut else TooLong

abbrev kind_at : List ℕ → SourceKind
kind_at [] = BadByte
kind_at (b ∷ r) = if opens_comment (b ∷ r) then UnclosedComment else kind_behind b r (lexeme_at (b ∷ r))

none_found : (s : List ℕ) (o : Option (ℕ × Lexeme)) → BeginsNone s → lexeme_at s ≡ o → o ≡ None
none_found s None none e = refl
none_found s (Some (n, x)) none e = absurd (begins_none-gives s n x none e)

kind_longest : (s : List ℕ) (n : ℕ) (x : Lexeme) (kind : SourceKind) → IsLongest s n x → 0 < n → ((b : ℕ) (r : List ℕ) → kind_behind b r (Some (n, x)) ≡ kind) → kind_at s ≡ kind
kind_longest [] n x kind h some is = absurd (omega (arith, h.inside))
kind_longest (b ∷ r) n x kind h some is = cond-false _ _ _ h.no_comment ∙ ap (kind_behind b r) (longest_gives (b ∷ r) n x h) ∙ is b r

kind_comment : (s : List ℕ) → opens_comment s ≡ true → kind_at s ≡ UnclosedComment
kind_comment [] opens = absurd (cc)
kind_comment (b ∷ r) opens = cond-true _ _ _ opens

quote_no_comment : (r : List ℕ) → opens_comment (quote ∷ r) ≡ false
quote_no_comment [] = refl
quote_no_comment (c ∷ r) = refl

kind_text : (r : List ℕ) → BeginsNone (quote ∷ r) → kind_at (quote ∷ r) ≡ UnclosedText
kind_text r none = cond-false _ _ _ (quote_no_comment r) ∙ ap (kind_behind quote r) (none_found (quote ∷ r) _ none refl)

kind_byte : (b : ℕ) (r : List ℕ) → b ≢ quote → opens_comment (b ∷ r) ≡ false → BeginsNone (b ∷ r) → kind_at (b ∷ r) ≡ BadByte
kind_byte b r other no_comment none = cond-false _ _ _ no_comment ∙ ap (kind_behind b r) (none_found (b ∷ r) _ none refl) ∙ cond-false _ _ _ (ne_eqb b quote other)

-- a lexeme has a byte
some_longest : (s : List ℕ) (n : ℕ) (x : Lexeme) → IsLongest s n x → 0 < n
some_longest s n x h = (lexeme_at-spelled s n x (longest_gives s n x h)).some

breaks_kind : (s : List ℕ) (n : ℕ) (kind : SourceKind) → Breaks s n kind → kind_at s ≡ kind
breaks_kind s n kind (bad_byte b r e no_blank other no_comment none) =
    ap kind_at e ∙ kind_byte b r other (sym (ap opens_comment e) ∙ no_comment) (subst BeginsNone e none)
breaks_kind s n kind (unclosed_comment opens h) = kind_comment s opens
breaks_kind s n kind (unclosed_text r e none) = ap kind_at e ∙ kind_text r (subst BeginsNone e none)
breaks_kind s n kind (too_long m k longest over) = kind_longest s m (Read k) TooLong longest (some_longest s m (Read k) longest) (λ b r. refl)
breaks_kind s n kind (one_too_many m k longest e) = kind_longest s m (Read k) TooLong longest (some_longest s m (Read k) longest) (λ b r. refl)
breaks_kind s n kind (too_long_bits m v longest over) = kind_longest s m (OtherBits v) TooLong longest (some_longest s m (OtherBits v) longest) (λ b r. cond-false _ _ _ (lt-leb (length v) 1024 over))
breaks_kind s n kind (power m longest) = kind_longest s m Power LeftOut longest (some_longest s m Power longest) (λ b r. refl)
breaks_kind s n kind (other_bits m v longest short) = kind_longest s m (OtherBits v) LeftOut longest (some_longest s m (OtherBits v) longest) (λ b r. cond-true _ _ _ (le-leb (length v) 1024 short))

-- ---- no separator stands where a lexeme or a refusal does

blank_no_lexeme_by : (b : ℕ) (r : List ℕ) (P : ℕ → Type 0) → is_blank b ≡ true → P 32 → P 9 → P 13 → P 10 → P b
blank_no_lexeme_by b r P blank p32 p9 p13 p10 =
    let at : (n : ℕ) → eqb b n ≡ true → P n → P b = λ n e p. subst P (sym (eqb-true b n e)) p in
    ⊎_elim (λ e. at 32 e p32) (λ more. ⊎_elim (λ e. at 9 e p9) (λ last. ⊎_elim (λ e. at 13 e p13) (λ e. at 10 e p10) (or_cases (eqb b 13) (eqb b 10) last)) (or_cases (eqb b 9) _ more)) (or_cases (eqb b 32) _ blank)

blank_no_lexeme : (b : ℕ) (r : List ℕ) → is_blank b ≡ true → lexeme_at (b ∷ r) ≡ None
blank_no_lexeme b [] blank = blank_no_lexeme_by b [] (λ x. lexeme_at (x ∷ []) ≡ None) blank refl refl refl refl
blank_no_lexeme b (c ∷ r) blank = blank_no_lexeme_by b (c ∷ r) (λ x. lexeme_at (x ∷ c ∷ r) ≡ None) blank refl refl refl refl

no_blank_lexeme : (b : ℕ) (r : List ℕ) (n : ℕ) (x : Lexeme) (t : Bool) → is_blank b ≡ t → lexeme_at (b ∷ r) ≡ Some (n, x) → t ≡ false
no_blank_lexeme b r n x true blank found = let none = blank_no_lexeme b r blank in absurd (cc)
no_blank_lexeme b r n x false blank found = refl

longest_no_separator : (s : List ℕ) (n : ℕ) (x : Lexeme) → IsLongest s n x → NoSeparator s
longest_no_separator s n x h = record {
  no_blank = λ b r e. no_blank_lexeme b r n x (is_blank b) refl (sym (ap lexeme_at e) ∙ longest_gives s n x h);
  no_comment = λ opens. absurd (both_ways (opens_comment s) h.no_comment opens);
}

nil_cons : (b : ℕ) (r : List ℕ) → [] ≡ b ∷ r → ⊥
nil_cons b r e = cc

tails : (b c : ℕ) (r t : List ℕ) → b ∷ r ≡ c ∷ t → r ≡ t
tails b c r t e = cc

read_no_bits : (k : Kind) (v : List ℕ) → Read k ≡ OtherBits v → ⊥
read_no_bits k v e = cc

read_no_power : (k : Kind) → Read k ≡ Power → ⊥
read_no_power k e = cc

heads : (b c : ℕ) (r t : List ℕ) → b ∷ r ≡ c ∷ t → b ≡ c
heads b c r t e = cc

comment_head : (s : List ℕ) (b : ℕ) (r : List ℕ) → s ≡ b ∷ r → opens_comment s ≡ true → is_blank b ≡ false
comment_head s b [] e opens = let h = sym (ap opens_comment e) ∙ opens in absurd (both_ways false refl h)
comment_head s b (c ∷ r) e opens =
    let h = and_parts (eqb b 47) (eqb c 42) (sym (ap opens_comment e) ∙ opens) in
    ap is_blank (eqb-true b 47 h.0)

breaks_no_separator : (s : List ℕ) (n : ℕ) (kind : SourceKind) → Breaks s n kind → NoSeparator s
breaks_no_separator s n kind (bad_byte b r e no_blank other no_comment none) = record {
  no_blank = λ c t h. sym (ap is_blank (heads b c r t (sym e ∙ h))) ∙ no_blank;
  no_comment = λ opens. absurd (both_ways (opens_comment s) no_comment opens);
}
breaks_no_separator s n kind (unclosed_comment opens h) = record { no_blank = λ b r e. comment_head s b r e opens; no_comment = λ _. h }
breaks_no_separator s n kind (unclosed_text r e none) = record {
  no_blank = λ c t h. sym (ap is_blank (heads quote c r t (sym e ∙ h)));
  no_comment = λ opens. absurd (both_ways (opens_comment s) (ap opens_comment e ∙ quote_no_comment r) opens);
}
breaks_no_separator s n kind (too_long m k longest over) = longest_no_separator s m (Read k) longest
breaks_no_separator s n kind (one_too_many m k longest e) = longest_no_separator s m (Read k) longest
breaks_no_separator s n kind (too_long_bits m v longest over) = longest_no_separator s m (OtherBits v) longest
breaks_no_separator s n kind (power m longest) = longest_no_separator s m Power longest
breaks_no_separator s n kind (other_bits m v longest short) = longest_no_separator s m (OtherBits v) longest

end_no_separator : (s : List ℕ) (q : ℕ) → length s ≤ q → NoSeparator (drop q s)
end_no_separator s q past =
    let none = drop_all q s past in
    record { no_blank = λ b r e. absurd (nil_cons b r (sym none ∙ e)); no_comment = λ opens. absurd (both_ways false refl (sym (ap opens_comment none) ∙ opens)) }

-- ---- the next place

slice_drop : (s : List ℕ) (p q : ℕ) → p ≤ q → slice_range s p q ++ drop q s ≡ drop p s
slice_drop s p q h =
    let at : p + (q - p) ≡ q = omega arith in
    ap (λ l. take (q - p) (drop p s) ++ l) (sym (drop-drop (q - p) p s ∙ ap (λ m. drop m s) at)) ∙ take-append-drop (q - p) (drop p s)

slice_length : (s : List ℕ) (p q : ℕ) → p ≤ q → q ≤ length s → length (slice_range s p q) ≡ q - p
slice_length s p q h inside = length-take-le (q - p) (drop p s) (omega (arith, length-drop p s))

-- separators from p on that end before no separator end at one place
same_place : (s : List ℕ) (p q r : ℕ) → p ≤ q → p ≤ r → q ≤ length s → r ≤ length s → IsSeparation (slice_range s p q) → IsSeparation (slice_range s p r) → NoSeparator (drop q s) → NoSeparator (drop r s) → q ≡ r
same_place s p q r pq pr q_in r_in gap_q gap_r no_q no_r =
    let same = same_separation (slice_range s p q) (slice_range s p r) (drop q s) (drop r s) gap_q gap_r no_q no_r (slice_drop s p q pq ∙ sym (slice_drop s p r pr)) in
    omega (arith, ap length same, slice_length s p q pq q_in, slice_length s p r pr r_in)

-- ---- tokens

token_inside : (s : List ℕ) (t : Token) → IsTokenAt s t → t.start < length s
token_inside s t h = omega (arith, h.rising, h.spelled.inside, length-drop t.start s)

same_kind : (k j : Kind) → Read k ≡ Read j → k ≡ j
same_kind k j e = cc

token_parts : (t u : Token) → t.kind ≡ u.kind → t.start ≡ u.start → t.end ≡ u.end → t.line ≡ u.line → t.column ≡ u.column → t ≡ u
token_parts t u a b c d e = λ k. record { kind = a k; start = b k; end = c k; line = d k; column = e k }

same_token : (s : List ℕ) (t u : Token) → IsTokenAt s t → IsTokenAt s u → t.start ≡ u.start → t ≡ u
same_token s t u h g e =
    let found = longest_gives (drop t.start s) (t.end - t.start) (Read t.kind) h.spelled in
    let other = longest_gives (drop u.start s) (u.end - u.start) (Read u.kind) g.spelled in
    let both = same_found (t.end - t.start) (u.end - u.start) (Read t.kind) (Read u.kind) (sym found ∙ ap (λ n. lexeme_at (drop n s)) e ∙ other) in
    token_parts t u (same_kind t.kind u.kind both.1) e (omega (arith, both.0, h.rising, g.rising)) (h.line_is ∙ ap (λ n. line_after (take n s)) e ∙ sym g.line_is) (h.column_is ∙ ap (λ n. column_after (take n s)) e ∙ sym g.column_is)

same_value : (v u w : List ℕ) → IsTextOf v w → IsTextOf u w → v ≡ u
same_value v u w h g =
    let whole : quote ∷ (doubled v ++ quote ∷ []) ≡ quote ∷ (doubled u ++ quote ∷ []) = sym h.spelled ∙ g.spelled in
    doubled-injective v u (append_cancel_right (doubled v) (doubled u) (quote ∷ []) (tails quote quote _ _ whole))

short_over : (k : Kind) (w : List ℕ) → IsShort k w → IsOver k w → ⊥
short_over (K.Name word) w short over = omega arith
short_over (K.Number n) w short over = omega arith
short_over K.Text w short over = omega (arith, short.2, over.2, ap length (same_value short.0 over.0 w short.1 over.1))
short_over (K.Bit v) w short over = over
short_over (K.Symbol s) w short over = over

other_lexeme : (s : List ℕ) (n m : ℕ) (x y : Lexeme) → IsLongest s n x → IsLongest s m y → (n ≡ m) × (x ≡ y)
other_lexeme s n m x y h g = same_found n m x y (sym (longest_gives s n x h) ∙ longest_gives s m y g)

-- a token that fits is no refusal, but where there are enough
token_breaks : (s : List ℕ) (n read : ℕ) (k : Kind) (kind : SourceKind) → IsLongest s n (Read k) → IsShort k (take n s) → Breaks s read kind → read < most_tokens → ⊥
token_breaks s n read k kind h short (bad_byte b r e no_blank other no_comment none) few = begins_none-gives s n (Read k) none (longest_gives s n (Read k) h)
token_breaks s n read k kind h short (unclosed_comment opens c) few = both_ways (opens_comment s) h.no_comment opens
token_breaks s n read k kind h short (unclosed_text r e none) few = begins_none-gives s n (Read k) none (longest_gives s n (Read k) h)
token_breaks s n read k kind h short (too_long m j longest over) few =
    let both = other_lexeme s n m (Read k) (Read j) h longest in
    let size = both.0 in
    short_over j (take m s) (subst (λ i. IsShort j (take i s)) size (subst (λ i. IsShort i (take n s)) (same_kind k j both.1) short)) over
token_breaks s n read k kind h short (one_too_many m j longest e) few = omega arith
token_breaks s n read k kind h short (too_long_bits m v longest over) few = let both = other_lexeme s n m (Read k) (OtherBits v) h longest in read_no_bits k v both.1
token_breaks s n read k kind h short (power m longest) few = let both = other_lexeme s n m (Read k) Power h longest in read_no_power k both.1
token_breaks s n read k kind h short (other_bits m v longest few_bytes) few = let both = other_lexeme s n m (Read k) (OtherBits v) h longest in read_no_bits k v both.1

-- ---- where the tokens end

-- behind so many tokens up to p, only separators follow, or a refusal behind separators
data Stop (s : List ℕ) (read p : ℕ) : Type 0 where
  at_end : IsSeparation (drop p s) → Stop s read p
  at_break : (q : ℕ) (kind : SourceKind) → p ≤ q → IsSeparation (slice_range s p q) → q < length s → Breaks (drop q s) read kind → Stop s read p

stop_token : (s : List ℕ) (read p : ℕ) (t : Token) → Stop s read p → p ≤ t.start → IsSeparation (slice_range s p t.start) → IsTokenAt s t → read < most_tokens → ⊥
stop_token s read p t (at_end gap) rising before h few =
    let inside = token_inside s t h in
    let whole : IsSeparation (slice_range s p (length s)) = subst IsSeparation (sym (take_rest s p)) gap in
    let there = same_place s p (length s) t.start (omega arith) rising (omega arith) (omega arith) whole before (end_no_separator s (length s) (omega arith)) (longest_no_separator (drop t.start s) (t.end - t.start) (Read t.kind) h.spelled) in
    omega arith
stop_token s read p t (at_break q kind up gap in_source here) rising before h few =
    let inside = token_inside s t h in
    let there = same_place s p q t.start up rising (omega arith) (omega arith) gap before (breaks_no_separator (drop q s) read kind here) (longest_no_separator (drop t.start s) (t.end - t.start) (Read t.kind) h.spelled) in
    token_breaks (drop t.start s) (t.end - t.start) read t.kind kind h.spelled h.short (subst (λ n. Breaks (drop n s) read kind) there here) few

one_reading : (s : List ℕ) (m p q r : ℕ) (ts us : List Token) → Reads s p ts q → Reads s p us r → Stop s (m + length ts) q → Stop s (m + length us) r → m + length ts ≤ most_tokens → m + length us ≤ most_tokens → (ts ≡ us) × (q ≡ r)
one_reading s m p q r ts us (no_more a) (no_more b) stop_q stop_r few_ts few_us = (refl, refl)
one_reading s m p q r ts us (no_more a) (one_more b c u vs rising gap here more) stop_q stop_r few_ts few_us =
    absurd (stop_token s (m + 0) p u stop_q rising gap here (omega arith))
one_reading s m p q r ts us (one_more b c t vs rising gap here more) (no_more a) stop_q stop_r few_ts few_us =
    absurd (stop_token s (m + 0) p t stop_r rising gap here (omega arith))
one_reading s m p q r ts us (one_more a c t vs rising gap here more) (one_more b d u ws rising_u gap_u here_u more_u) stop_q stop_r few_ts few_us =
    let in_t = token_inside s t here in
    let in_u = token_inside s u here_u in
    let start = same_place s p t.start u.start rising rising_u (omega arith) (omega arith) gap gap_u (longest_no_separator (drop t.start s) (t.end - t.start) (Read t.kind) here.spelled) (longest_no_separator (drop u.start s) (u.end - u.start) (Read u.kind) here_u.spelled) in
    let same = same_token s t u here here_u start in
    let size_t : m + suc (length vs) ≡ (m + 1) + length vs = omega arith in
    let size_u : m + suc (length ws) ≡ (m + 1) + length ws = omega arith in
    let rest = one_reading s (m + 1) t.end q r vs ws more (subst (λ (x : Token). Reads s x.end ws r) (sym same) more_u) (subst (λ k. Stop s k q) size_t stop_q) (subst (λ k. Stop s k r) size_u stop_r) (omega arith) (omega arith) in
    ((λ k. same k ∷ rest.0 k), rest.1)

-- ---- the laws

pub one_list : (s : List ℕ) (ts us : List Token) → Tokens s ts → Tokens s us → ts ≡ us
one_list s ts us h g = (one_reading s 0 0 h.end g.end ts us h.reads g.reads (at_end h.rest) (at_end g.rest) (omega (arith, h.number)) (omega (arith, g.number))).0

break_there : (s : List ℕ) (ts : List Token) (p q : ℕ) (kind : SourceKind) → p ≤ q → IsSeparation (slice_range s p q) → q < length s → Breaks (drop q s) (length ts) kind → Stop s (0 + length ts) p
break_there s ts p q kind rising gap inside here =
    let size : length ts ≡ 0 + length ts = omega arith in
    at_break q kind rising gap inside (subst (λ n. Breaks (drop q s) n kind) size here)

end_and_break : (s : List ℕ) (n p q : ℕ) (kind : SourceKind) → IsSeparation (drop p s) → p ≤ q → IsSeparation (slice_range s p q) → q < length s → Breaks (drop q s) n kind → ⊥
end_and_break s n p q kind gap rising before inside here =
    let whole : IsSeparation (slice_range s p (length s)) = subst IsSeparation (sym (take_rest s p)) gap in
    let there = same_place s p (length s) q (omega arith) rising (omega arith) (omega arith) whole before (end_no_separator s (length s) (omega arith)) (breaks_no_separator (drop q s) n kind here) in
    omega arith

pub not_both : (s : List ℕ) (ts : List Token) (line column : ℕ) (kind : SourceKind) → Tokens s ts → Refuses s line column kind → ⊥
not_both s ts line column kind h (source_too_long over) = omega (arith, h.bytes)
not_both s ts line column kind h (at_place us p q k bytes reads few rising gap inside here) =
    let same = one_reading s 0 0 h.end p ts us h.reads reads (at_end h.rest) (break_there s us p q k rising gap inside here) (omega (arith, h.number)) (omega arith) in
    end_and_break s (length us) p q k (subst (λ n. IsSeparation (drop n s)) same.1 h.rest) rising gap inside here

pub one_refusal : (s : List ℕ) (line column : ℕ) (kind : SourceKind) (line' column' : ℕ) (kind' : SourceKind) → Refuses s line column kind → Refuses s line' column' kind' → (line ≡ line') × (column ≡ column') × (kind ≡ kind')
one_refusal s l c k l' c' k' (source_too_long over) (source_too_long over') = (refl, refl, refl)
one_refusal s l c k l' c' k' (source_too_long over) (at_place us p q kind bytes reads few rising gap inside here) = absurd (omega arith)
one_refusal s l c k l' c' k' (at_place us p q kind bytes reads few rising gap inside here) (source_too_long over) = absurd (omega arith)
one_refusal s l c k l' c' k' (at_place ts p q kind bytes reads few rising gap inside here) (at_place us o r kind' bytes' reads' few' rising' gap' inside' here') =
    let same = one_reading s 0 0 p o ts us reads reads' (break_there s ts p q kind rising gap inside here) (break_there s us o r kind' rising' gap' inside' here') (omega arith) (omega arith) in
    let start = same.1 in
    let place = same_place s o q r (omega arith) rising' (omega arith) (omega arith) (subst (λ n. IsSeparation (slice_range s n q)) start gap) gap' (breaks_no_separator (drop q s) (length ts) kind here) (breaks_no_separator (drop r s) (length us) kind' here') in
    (ap (λ n. line_after (take n s)) place, ap (λ n. column_after (take n s)) place, sym (breaks_kind (drop q s) (length ts) kind here) ∙ ap (λ n. kind_at (drop n s)) place ∙ breaks_kind (drop r s) (length us) kind' here')

-- ---- what follows of one answer

fault_of_tokens : (s : List ℕ) (ts : List Token) (fault : SourceFault) → Tokens s ts → IsFaultOf s fault → IsOutOfMemory fault
fault_of_tokens s ts fault h (out_of_memory e) = e
fault_of_tokens s ts fault h (refused other r) = absurd (not_both s ts fault.line fault.column fault.kind h r)

fault_of_refusal : (s : List ℕ) (line column : ℕ) (kind : SourceKind) (fault : SourceFault) → Refuses s line column kind → IsFaultOf s fault → IsOutOfMemory fault ⊎ IsRefusal line column kind fault
fault_of_refusal s line column kind fault h (out_of_memory e) = inl e
fault_of_refusal s line column kind fault h (refused other r) =
    let same = one_refusal s fault.line fault.column fault.kind line column kind r h in
    inr (record { line_is = same.0; column_is = same.1; kind_is = same.2 })

pub answer_tokens : {X : Type 0} (items : X → List Token) (s : List ℕ) (r : Result X SourceFault) → MatchResult r (λ v. Tokens s (items v)) (λ fault. IsFaultOf s fault) → (ts : List Token) → Tokens s ts → MatchResult r (λ v. items v ≡ ts) (λ fault. IsOutOfMemory fault)
answer_tokens items s (Ok v) answer ts h = one_list s (items v) ts answer h
answer_tokens items s (Err fault) answer ts h = fault_of_tokens s ts fault h answer

pub answer_refusal : {X : Type 0} (items : X → List Token) (s : List ℕ) (r : Result X SourceFault) → MatchResult r (λ v. Tokens s (items v)) (λ fault. IsFaultOf s fault) → (line column : ℕ) (kind : SourceKind) → Refuses s line column kind → MatchResult r (λ v. ⊥) (λ fault. IsOutOfMemory fault ⊎ IsRefusal line column kind fault)
answer_refusal items s (Ok v) answer line column kind h = not_both s (items v) line column kind answer h
answer_refusal items s (Err fault) answer line column kind h = fault_of_refusal s line column kind fault h answer
