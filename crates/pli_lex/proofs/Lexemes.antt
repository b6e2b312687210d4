-- The longest lexeme at the front of bytes, computed; and that it is the longest.
use Rattle.std.proofs.Common.{◌≡◌, ◌≢◌, ℕ, zero, suc, ◌+◌, ◌<◌, ◌≤◌, ◌⊎◌, inl, inr, ⊎_elim, List, [], ◌∷◌, ◌++◌, length, get_or, take, drop, Bool, true, false, cond, refl, sym, ◌∙◌, ap, subst, eqb, leb, Option, Some, None, arith, append_assoc, length-append, take-append-drop, length-take-le}
use Rattle.std.specs.Prelude.{not, ◌==◌, ◌||◌, if◌then◌else◌}
use Rattle.std.specs.List.{list_all, prefix_len}
use Rattle.std.proofs.lemmas.Bool.{eqb-true, eq-eqb, ne_eqb, leb-true, lt-leb, cond-true, cond-false, and_parts, and_left, and_from, or_from, or_left, or_right, or_cases, or_parts, not-true, not_from_false, both_ways, cases_lt, false_from_ne_true}
use Rattle.std.proofs.lemmas.List.{take_at, drop_at, get_or_at}
use Rattle.std.proofs.lemmas.List.Sums.{prefix_len-le-length}
use Rattle.pli_language.specs.declared.token.Kind.TheVariants as K
use Rattle.pli_language.specs.Keywords.{word_named, in_upper_case, same_bytes}
use Rattle.pli_language.specs.Tokens.{is_digit, is_name_start, is_name_byte, quote, opens_comment, number_from, doubled, IsTextOf, NameEnds, Lexeme, Read, Power, OtherBits, Spelled, name, number, text, bit, symbol, power, other_bits, IsLongest, BeginsNone}
use Rattle.pli_lex.specs.Scanning.{stands_as_bits}
use Rattle.pli_lex.proofs.Texts.{on_line, text_value, Closes, text_value-closes, text_value-longest, doubled-injective}
use Rattle.pli_lex.proofs.Symbols.{fixed, fixed-symbol, fixed-spelled, fixed-apart, begins_other}

-- ---- the lexeme, computed

abbrev pub of_length : ℕ → Option Lexeme → Option (ℕ × Lexeme)
of_length n None = None
of_length n (Some x) = Some (n, x)

abbrev pub or_else : Option (ℕ × Lexeme) → Option (ℕ × Lexeme) → Option (ℕ × Lexeme)
or_else None other = other
or_else (Some x) other = Some x

abbrev pub fixed_at : ℕ → List ℕ → Option (ℕ × Lexeme)
fixed_at b [] = of_length 1 (fixed (b ∷ []))
fixed_at b (c ∷ rest) = or_else (of_length 2 (fixed (b ∷ c ∷ []))) (of_length 1 (fixed (b ∷ [])))

abbrev pub bits_of : List ℕ → Lexeme
bits_of v = if same_bytes v (48 ∷ []) then Read (K.Bit false) else (if same_bytes v (49 ∷ []) then Read (K.Bit true) else OtherBits v)

abbrev pub quoted : List ℕ → Option (List ℕ) → Option (ℕ × Lexeme)
quoted rest None = None
quoted rest (Some v) = if stands_as_bits (drop (suc (length (doubled v))) rest) then Some (suc (suc (suc (length (doubled v)))), bits_of v) else Some (suc (suc (length (doubled v))), Read K.Text)

abbrev pub name_at : ℕ → List ℕ → ℕ × Lexeme
name_at b rest = (suc (prefix_len is_name_byte rest), Read (K.Name (word_named (in_upper_case (b ∷ take (prefix_len is_name_byte rest) rest)))))

abbrev pub number_at : ℕ → List ℕ → ℕ × Lexeme
number_at b rest = (suc (prefix_len is_digit rest), Read (K.Number (number_from 0 (b ∷ take (prefix_len is_digit rest) rest))))

abbrev pub lexeme_at : List ℕ → Option (ℕ × Lexeme)
lexeme_at [] = None
lexeme_at (b ∷ rest) =
    if is_name_start b then Some (name_at b rest)
    else (if is_digit b then Some (number_at b rest)
    else (if b == quote then quoted rest (text_value false rest)
    else fixed_at b rest))

abbrev size_in : ℕ → Option (ℕ × Lexeme) → ℕ
size_in n None = n
size_in n (Some h) = h.0

abbrev lexeme_in : Lexeme → Option (ℕ × Lexeme) → Lexeme
lexeme_in x None = x
lexeme_in x (Some h) = h.1

pub same_found : (n m : ℕ) (x y : Lexeme) → ◌≡◌ {A = Option (ℕ × Lexeme)} (Some (n, x)) (Some (m, y)) → (n ≡ m) × (x ≡ y)
same_found n m x y e = (ap (size_in n) e, ap (lexeme_in x) e)

-- ---- bytes

pub digit_no_name : (b : ℕ) → is_digit b ≡ true → is_name_start b ≡ false
digit_no_name b digit =
    let parts = and_parts (leb 48 b) (leb b 57) digit in
    let low = leb-true 48 b parts.0 in
    let high = leb-true b 57 parts.1 in
    or_from _ _ (and_left _ _ (lt-leb 65 b (omega arith)))
    (or_from _ _ (and_left _ _ (lt-leb 97 b (omega arith)))
    (or_from _ _ (ne_eqb b 36 (λ e. omega arith)) (or_from _ _ (ne_eqb b 35 (λ e. omega arith)) (ne_eqb b 64 (λ e. omega arith)))))

pub at_name : (b : ℕ) (r : List ℕ) → is_name_start b ≡ true → lexeme_at (b ∷ r) ≡ Some (name_at b r)
at_name b r start = cond-true _ _ _ start

pub at_digit : (b : ℕ) (r : List ℕ) → is_digit b ≡ true → lexeme_at (b ∷ r) ≡ Some (number_at b r)
at_digit b r digit = cond-false _ _ _ (digit_no_name b digit) ∙ cond-true _ _ _ digit

pub at_quote : (b : ℕ) (r : List ℕ) → b ≡ quote → lexeme_at (b ∷ r) ≡ quoted r (text_value false r)
at_quote b r is = ap (λ c. lexeme_at (c ∷ r)) is

pub at_fixed : (b : ℕ) (r : List ℕ) → begins_other b ≡ false → lexeme_at (b ∷ r) ≡ fixed_at b r
at_fixed b r other =
    let p = or_parts (is_name_start b) _ other in
    let q = or_parts (is_digit b) _ p.1 in
    cond-false _ _ _ p.0 ∙ cond-false _ _ _ q.0 ∙ cond-false _ _ _ q.1

-- ---- the longest front that passes a test

pub one-add : (n : ℕ) → 1 + n ≡ suc n
one-add n = omega arith

prefix_passes_by : (p : ℕ → Bool) (b : ℕ) (r : List ℕ) (t : Bool) → p b ≡ t → list_all p (take (prefix_len p r) r) ≡ true → list_all p (take (cond t (1 + prefix_len p r) 0) (b ∷ r)) ≡ true
prefix_passes_by p b r true q more = rw (one-add (prefix_len p r)) (and_from _ _ q more)
prefix_passes_by p b r false q more = refl

pub prefix_passes : (p : ℕ → Bool) (r : List ℕ) → list_all p (take (prefix_len p r) r) ≡ true
prefix_passes p [] = refl
prefix_passes p (b ∷ r) = prefix_passes_by p b r (p b) refl (prefix_passes p r)

prefix_reaches : (p : ℕ → Bool) (r : List ℕ) (k : ℕ) → k ≤ length r → list_all p (take k r) ≡ true → k ≤ prefix_len p r
prefix_reaches p r zero inside passes = omega arith
prefix_reaches p [] (suc k) inside passes = absurd (omega arith)
prefix_reaches p (b ∷ r) (suc k) inside passes =
    let parts = and_parts (p b) (list_all p (take k r)) passes in
    let more = prefix_reaches p r k (omega arith) parts.1 in
    let is = cond-true (p b) (1 + prefix_len p r) 0 parts.0 in
    omega arith

-- ---- what is computed is spelled

pub record Spelling (s : List ℕ) (n : ℕ) (x : Lexeme) : Type 0 where
  pub some : 0 < n
  pub inside : n ≤ length s
  pub spelled : Spelled (take n s) (drop n s) x

name_spelled : (b : ℕ) (r : List ℕ) → is_name_start b ≡ true → Spelling (b ∷ r) (name_at b r).0 (name_at b r).1
name_spelled b r start = record {
  some = omega arith;
  inside = omega (arith, prefix_len-le-length is_name_byte r);
  spelled = name (start, prefix_passes is_name_byte r);
}

number_spelled : (b : ℕ) (r : List ℕ) → is_digit b ≡ true → Spelling (b ∷ r) (number_at b r).0 (number_at b r).1
number_spelled b r digit = record {
  some = omega arith;
  inside = omega (arith, prefix_len-le-length is_digit r);
  spelled = number (and_from _ _ digit (prefix_passes is_digit r));
}

-- what stands as a bit constant, taken apart
pub record Bits (x : List ℕ) : Type 0 where
  pub letter : ℕ
  pub rest : List ℕ
  pub is : x ≡ letter ∷ rest
  pub b : (letter ≡ 66) ⊎ (letter ≡ 98)
  pub ends : NameEnds rest

letter_is : (c : ℕ) → (eqb c 66 || eqb c 98) ≡ true → (c ≡ 66) ⊎ (c ≡ 98)
letter_is c h = ⊎_elim (λ e. inl (eqb-true c 66 e)) (λ e. inr (eqb-true c 98 e)) (or_cases (eqb c 66) (eqb c 98) h)

bits_apart : (x : List ℕ) → stands_as_bits x ≡ true → Bits x
bits_apart [] h = absurd (cc)
bits_apart (c ∷ []) h = record { letter = c; rest = []; is = refl; b = letter_is c h; ends = tt }
bits_apart (c ∷ d ∷ r) h =
    let parts = and_parts (eqb c 66 || eqb c 98) (not (is_name_byte d)) h in
    record { letter = c; rest = d ∷ r; is = refl; b = letter_is c parts.0; ends = not-true _ parts.1 }

is_letter : (c : ℕ) → (c ≡ 66) ⊎ (c ≡ 98) → (eqb c 66 || eqb c 98) ≡ true
is_letter c (inl e) = or_left _ _ (eq-eqb c 66 e)
is_letter c (inr e) = or_right _ _ (eq-eqb c 98 e)

pub bits_together : (c : ℕ) (r : List ℕ) → (c ≡ 66) ⊎ (c ≡ 98) → NameEnds r → stands_as_bits (c ∷ r) ≡ true
bits_together c [] b ends = is_letter c b
bits_together c (d ∷ r) b ends = and_from _ _ (is_letter c b) (not_from_false _ ends)

pub same_bytes-true : (a b : List ℕ) → same_bytes a b ≡ true → a ≡ b
same_bytes-true [] [] h = refl
same_bytes-true [] (y ∷ ys) h = absurd (cc)
same_bytes-true (x ∷ xs) [] h = absurd (cc)
same_bytes-true (x ∷ xs) (y ∷ ys) h =
    let parts = and_parts (eqb x y) (same_bytes xs ys) h in
    λ k. eqb-true x y parts.0 k ∷ same_bytes-true xs ys parts.1 k

bits_spelled_by : (v t rest : List ℕ) (c : ℕ) → IsTextOf v t → (c ≡ 66) ⊎ (c ≡ 98) → NameEnds rest → (p q : Bool) → same_bytes v (48 ∷ []) ≡ p → same_bytes v (49 ∷ []) ≡ q → Spelled (t ++ c ∷ []) rest (cond p (Read (K.Bit false)) (cond q (Read (K.Bit true)) (OtherBits v)))
bits_spelled_by v t rest c h b ends true q e f =
    let is = same_bytes-true v (48 ∷ []) e in
    bit false c b ends (ap (λ l. l ++ c ∷ []) (h.spelled ∙ ap (λ u. quote ∷ (doubled u ++ quote ∷ [])) is))
bits_spelled_by v t rest c h b ends false true e f =
    let is = same_bytes-true v (49 ∷ []) f in
    bit true c b ends (ap (λ l. l ++ c ∷ []) (h.spelled ∙ ap (λ u. quote ∷ (doubled u ++ quote ∷ [])) is))
bits_spelled_by v t rest c h b ends false false e f =
    other_bits v t c h (λ is. both_ways _ e (ap (λ l. same_bytes l (48 ∷ [])) is)) (λ is. both_ways _ f (ap (λ l. same_bytes l (49 ∷ [])) is)) b ends refl

pub text_of : (v : List ℕ) → list_all on_line v ≡ true → IsTextOf v (quote ∷ (doubled v ++ quote ∷ []))
text_of v line = record { spelled = refl; on_one_line = line }

-- the bytes up to and with a closing quote, and those behind
pub closed_take : (r v rest : List ℕ) → r ≡ doubled v ++ quote ∷ rest → take (suc (length (doubled v))) r ≡ doubled v ++ quote ∷ []
closed_take r v rest e =
    let regrouped : r ≡ (doubled v ++ quote ∷ []) ++ rest = e ∙ sym (append_assoc (doubled v) (quote ∷ []) rest) in
    ap (take (suc (length (doubled v)))) regrouped ∙ take_at (doubled v ++ quote ∷ []) rest (suc (length (doubled v))) (simp length-append (omega arith))

pub closed_drop : (r v rest : List ℕ) → r ≡ doubled v ++ quote ∷ rest → drop (suc (length (doubled v))) r ≡ rest
closed_drop r v rest e =
    let regrouped : r ≡ (doubled v ++ quote ∷ []) ++ rest = e ∙ sym (append_assoc (doubled v) (quote ∷ []) rest) in
    ap (drop (suc (length (doubled v)))) regrouped ∙ drop_at (doubled v ++ quote ∷ []) rest (suc (length (doubled v))) (simp length-append (omega arith))

closed_length : (r v rest : List ℕ) → r ≡ doubled v ++ quote ∷ rest → length r ≡ length (doubled v) + suc (length rest)
closed_length r v rest e = ap length e ∙ length-append (doubled v) (quote ∷ rest)

text_spelled : (r v rest : List ℕ) → r ≡ doubled v ++ quote ∷ rest → list_all on_line v ≡ true → Spelling (quote ∷ r) (suc (suc (length (doubled v)))) (Read K.Text)
text_spelled r v rest e line = record {
  some = omega arith;
  inside = omega (arith, closed_length r v rest e);
  spelled = text v (subst (IsTextOf v) (ap (λ l. quote ∷ l) (sym (closed_take r v rest e))) (text_of v line));
}

bits_spelled : (r v : List ℕ) (c : ℕ) (rest : List ℕ) → r ≡ doubled v ++ quote ∷ c ∷ rest → list_all on_line v ≡ true → (c ≡ 66) ⊎ (c ≡ 98) → NameEnds rest → Spelling (quote ∷ r) (suc (suc (suc (length (doubled v))))) (bits_of v)
bits_spelled r v c rest e line b ends =
    let first : r ≡ (doubled v ++ quote ∷ []) ++ (c ∷ rest) = e ∙ sym (append_assoc (doubled v) (quote ∷ []) (c ∷ rest)) in
    let regrouped : r ≡ ((doubled v ++ quote ∷ []) ++ c ∷ []) ++ rest = first ∙ sym (append_assoc (doubled v ++ quote ∷ []) (c ∷ []) rest) in
    let size : length ((doubled v ++ quote ∷ []) ++ c ∷ []) ≡ suc (suc (length (doubled v))) = simp length-append (omega arith) in
    let front = ap (take (suc (suc (length (doubled v))))) regrouped ∙ take_at ((doubled v ++ quote ∷ []) ++ c ∷ []) rest _ size in
    let back = ap (drop (suc (suc (length (doubled v))))) regrouped ∙ drop_at ((doubled v ++ quote ∷ []) ++ c ∷ []) rest _ size in
    record {
      some = omega arith;
      inside = omega (arith, closed_length r v (c ∷ rest) e);
      spelled = subst (λ w. Spelled (quote ∷ w) (drop (suc (suc (length (doubled v)))) r) (bits_of v)) (sym front) (subst (λ z. Spelled (quote ∷ ((doubled v ++ quote ∷ []) ++ c ∷ [])) z (bits_of v)) (sym back) (bits_spelled_by v (quote ∷ (doubled v ++ quote ∷ [])) rest c (text_of v line) b ends _ _ refl refl));
    }

quoted_spelled_by : (r v rest : List ℕ) (t : Bool) (n : ℕ) (x : Lexeme) → stands_as_bits rest ≡ t → r ≡ doubled v ++ quote ∷ rest → list_all on_line v ≡ true → cond {A = Option (ℕ × Lexeme)} t (Some (suc (suc (suc (length (doubled v)))), bits_of v)) (Some (suc (suc (length (doubled v))), Read K.Text)) ≡ Some (n, x) → Spelling (quote ∷ r) n x
quoted_spelled_by r v rest true n x q e line found =
    let h = bits_apart rest q in
    let parts = same_found (suc (suc (suc (length (doubled v))))) n (bits_of v) x found in
    let long = parts.0 in
    let same = parts.1 in
    let whole : r ≡ doubled v ++ quote ∷ h.letter ∷ h.rest = e ∙ ap (λ z. doubled v ++ quote ∷ z) h.is in
    let here = bits_spelled r v h.letter h.rest whole line h.b h.ends in
    subst (λ y. Spelling (quote ∷ r) n y) same (subst (λ m. Spelling (quote ∷ r) m (bits_of v)) long here)
quoted_spelled_by r v rest false n x q e line found =
    let parts = same_found (suc (suc (length (doubled v)))) n (Read K.Text) x found in
    let long = parts.0 in
    let same = parts.1 in
    subst (λ y. Spelling (quote ∷ r) n y) same (subst (λ m. Spelling (quote ∷ r) m (Read K.Text)) long (text_spelled r v rest e line))

quoted_spelled : (r : List ℕ) (o : Option (List ℕ)) (n : ℕ) (x : Lexeme) → text_value false r ≡ o → quoted r o ≡ Some (n, x) → Spelling (quote ∷ r) n x
quoted_spelled r None n x is found = absurd (cc)
quoted_spelled r (Some v) n x is found =
    let c = text_value-closes false r v is in
    let rest = closed_drop r v c.rest c.spelled in
    quoted_spelled_by r v c.rest (stands_as_bits c.rest) n x refl c.spelled c.one_line (ap (λ z. cond {A = Option (ℕ × Lexeme)} (stands_as_bits z) (Some (suc (suc (suc (length (doubled v)))), bits_of v)) (Some (suc (suc (length (doubled v))), Read K.Text))) (sym rest) ∙ found)

spelling_is : (s : List ℕ) (n m : ℕ) (x y : Lexeme) (o : Option Lexeme) → of_length n o ≡ Some (m, y) → 0 < n → n ≤ length s → ((z : Lexeme) → o ≡ Some z → Spelled (take n s) (drop n s) z) → Spelling s m y
spelling_is s n m x y None found some inside h = absurd (cc)
spelling_is s n m x y (Some z) found some inside h =
    let parts = same_found n m z y found in
    let long = parts.0 in
    let same = parts.1 in
    subst (λ k. Spelling s k y) long (subst (Spelling s n) same (record { some = some; inside = inside; spelled = h z refl }))

fixed_spelled_by : (b c : ℕ) (r : List ℕ) (n : ℕ) (x : Lexeme) (o : Option Lexeme) → fixed (b ∷ c ∷ []) ≡ o → or_else (of_length 2 o) (of_length 1 (fixed (b ∷ []))) ≡ Some (n, x) → Spelling (b ∷ c ∷ r) n x
fixed_spelled_by b c r n x None is found = spelling_is (b ∷ c ∷ r) 1 n x x (fixed (b ∷ [])) found (omega arith) (omega arith) (λ z h. fixed-spelled (b ∷ []) (c ∷ r) z h)
fixed_spelled_by b c r n x (Some y) is found = spelling_is (b ∷ c ∷ r) 2 n x x (Some y) found (omega arith) (omega arith) (λ z h. fixed-spelled (b ∷ c ∷ []) r z (is ∙ h))

fixed_at-spelled : (b : ℕ) (r : List ℕ) (n : ℕ) (x : Lexeme) → fixed_at b r ≡ Some (n, x) → Spelling (b ∷ r) n x
fixed_at-spelled b [] n x found = spelling_is (b ∷ []) 1 n x x (fixed (b ∷ [])) found (omega arith) (omega arith) (λ z h. fixed-spelled (b ∷ []) [] z h)
fixed_at-spelled b (c ∷ r) n x found = fixed_spelled_by b c r n x (fixed (b ∷ c ∷ [])) refl found

first_spelled : (b : ℕ) (r : List ℕ) (n : ℕ) (x : Lexeme) (s t u : Bool) → is_name_start b ≡ s → is_digit b ≡ t → eqb b quote ≡ u → cond s (Some (name_at b r)) (cond t (Some (number_at b r)) (cond u (quoted r (text_value false r)) (fixed_at b r))) ≡ Some (n, x) → Spelling (b ∷ r) n x
first_spelled b r n x true t u p q w found =
    let parts = same_found (name_at b r).0 n (name_at b r).1 x found in
    let long = parts.0 in
    let same = parts.1 in
    subst (λ k. Spelling (b ∷ r) k x) long (subst (Spelling (b ∷ r) (name_at b r).0) same (name_spelled b r p))
first_spelled b r n x false true u p q w found =
    let parts = same_found (number_at b r).0 n (number_at b r).1 x found in
    let long = parts.0 in
    let same = parts.1 in
    subst (λ k. Spelling (b ∷ r) k x) long (subst (Spelling (b ∷ r) (number_at b r).0) same (number_spelled b r q))
first_spelled b r n x false false true p q w found = subst (λ c. Spelling (c ∷ r) n x) (sym (eqb-true b quote w)) (quoted_spelled r (text_value false r) n x refl found)
first_spelled b r n x false false false p q w found = fixed_at-spelled b r n x found

pub lexeme_at-spelled : (s : List ℕ) (n : ℕ) (x : Lexeme) → lexeme_at s ≡ Some (n, x) → Spelling s n x
lexeme_at-spelled [] n x found = absurd (cc)
lexeme_at-spelled (b ∷ r) n x found = first_spelled b r n x (is_name_start b) (is_digit b) (eqb b quote) refl refl refl found

-- ---- what is spelled is computed, or something longer

pub record Longest (s : List ℕ) (m : ℕ) (y : Lexeme) : Type 0 where
  pub size : ℕ
  pub lexeme : Lexeme
  pub found : lexeme_at s ≡ Some (size, lexeme)
  pub at_most : m ≤ size
  pub same : m ≡ size → y ≡ lexeme

longest_name : (b : ℕ) (r : List ℕ) (k : ℕ) → k ≤ length r → is_name_start b ≡ true → list_all is_name_byte (take k r) ≡ true → Longest (b ∷ r) (suc k) (Read (K.Name (word_named (in_upper_case (b ∷ take k r)))))
longest_name b r k inside start passes = record {
  size = (name_at b r).0;
  lexeme = (name_at b r).1;
  found = at_name b r start;
  at_most = omega (arith, prefix_reaches is_name_byte r k inside passes);
  same = λ e. let long : k ≡ prefix_len is_name_byte r = omega arith in ap (λ j. Read (K.Name (word_named (in_upper_case (b ∷ take j r))))) long;
}

longest_number : (b : ℕ) (r : List ℕ) (k : ℕ) → k ≤ length r → list_all is_digit (b ∷ take k r) ≡ true → Longest (b ∷ r) (suc k) (Read (K.Number (number_from 0 (b ∷ take k r))))
longest_number b r k inside passes =
    let parts = and_parts (is_digit b) (list_all is_digit (take k r)) passes in
    record {
      size = (number_at b r).0;
      lexeme = (number_at b r).1;
      found = at_digit b r parts.0;
      at_most = omega (arith, prefix_reaches is_digit r k inside parts.1);
      same = λ e. let long : k ≡ prefix_len is_digit r = omega arith in ap (λ j. Read (K.Number (number_from 0 (b ∷ take j r)))) long;
    }

-- a text at the front, with so many bytes behind the opening quote
pub record TextFront (b : ℕ) (r : List ℕ) (k : ℕ) (v rest : List ℕ) : Type 0 where
  pub opens : b ≡ quote
  pub spelled : r ≡ doubled v ++ quote ∷ rest
  pub one_line : list_all on_line v ≡ true
  pub size : k ≡ suc (length (doubled v))

text_front : (b : ℕ) (r : List ℕ) (k : ℕ) (v : List ℕ) → k ≤ length r → IsTextOf v (b ∷ take k r) → TextFront b r k v (drop k r)
text_front b r k v inside h =
    let spelled = h.spelled in
    let opens : b ≡ quote = cc in
    let front : take k r ≡ doubled v ++ quote ∷ [] = cc in
    let long : length (take k r) ≡ k = length-take-le k r inside in
    let size : length (doubled v ++ quote ∷ []) ≡ suc (length (doubled v)) = simp length-append (omega arith) in
    record {
      opens = opens;
      spelled = sym (take-append-drop k r) ∙ ap (λ l. l ++ drop k r) front ∙ append_assoc (doubled v) (quote ∷ []) (drop k r);
      one_line = h.on_one_line;
      size = sym long ∙ ap length front ∙ size;
    }

longest_quoted : (r v : List ℕ) (m : ℕ) (y : Lexeme) (t : Bool) → text_value false r ≡ Some v → stands_as_bits (drop (suc (length (doubled v))) r) ≡ t → m ≤ suc (suc (length (doubled v))) → (m ≡ suc (suc (length (doubled v))) → y ≡ Read K.Text) → Longest (quote ∷ r) m y
longest_quoted r v m y true is q short same = record {
  size = suc (suc (suc (length (doubled v))));
  lexeme = bits_of v;
  found = ap (quoted r) is ∙ cond-true _ _ _ q;
  at_most = omega arith;
  same = λ e. absurd (omega arith);
}
longest_quoted r v m y false is q short same = record {
  size = suc (suc (length (doubled v)));
  lexeme = Read K.Text;
  found = ap (quoted r) is ∙ cond-false _ _ _ q;
  at_most = short;
  same = same;
}

longest_text : (b : ℕ) (r : List ℕ) (k : ℕ) (v rest : List ℕ) → TextFront b r k v rest → Longest (b ∷ r) (suc k) (Read K.Text)
longest_text b r k v rest h =
    let best = text_value-longest false r v rest h.spelled h.one_line in
    subst (λ c. Longest (c ∷ r) (suc k) (Read K.Text)) (sym h.opens) (longest_quoted r best.value (suc k) (Read K.Text) _ best.found refl (omega (arith, h.size, best.at_least)) (λ e. refl))

-- a text, with a letter and the rest behind it
pub record BitsFront (b : ℕ) (r : List ℕ) (k : ℕ) (v : List ℕ) (c : ℕ) (rest : List ℕ) : Type 0 where
  pub opens : b ≡ quote
  pub spelled : r ≡ doubled v ++ quote ∷ c ∷ rest
  pub one_line : list_all on_line v ≡ true
  pub size : k ≡ suc (suc (length (doubled v)))

bits_front : (b : ℕ) (r : List ℕ) (k : ℕ) (v t : List ℕ) (c : ℕ) → k ≤ length r → IsTextOf v t → b ∷ take k r ≡ t ++ c ∷ [] → BitsFront b r k v c (drop k r)
bits_front b r k v t c inside h e =
    let whole : b ∷ take k r ≡ (quote ∷ (doubled v ++ quote ∷ [])) ++ c ∷ [] = e ∙ ap (λ l. l ++ c ∷ []) h.spelled in
    let opens : b ≡ quote = cc in
    let front : take k r ≡ (doubled v ++ quote ∷ []) ++ c ∷ [] = cc in
    let long : length (take k r) ≡ k = length-take-le k r inside in
    let size : length ((doubled v ++ quote ∷ []) ++ c ∷ []) ≡ suc (suc (length (doubled v))) = simp length-append (omega arith) in
    record {
      opens = opens;
      spelled = sym (take-append-drop k r) ∙ ap (λ l. l ++ drop k r) front ∙ append_assoc (doubled v ++ quote ∷ []) (c ∷ []) (drop k r) ∙ append_assoc (doubled v) (quote ∷ []) (c ∷ drop k r);
      one_line = h.on_one_line;
      size = sym long ∙ ap length front ∙ size;
    }

no_letter : (c : ℕ) → (c ≡ 66) ⊎ (c ≡ 98) → c ≡ quote → ⊥
no_letter c (inl e) q = omega arith
no_letter c (inr e) q = omega arith

-- where a longer text goes on past a closing quote, another quote follows
goes_on : (r v u : List ℕ) (c : ℕ) (rest more : List ℕ) → r ≡ doubled v ++ quote ∷ c ∷ rest → r ≡ doubled u ++ quote ∷ more → length (doubled u) ≡ suc (length (doubled v)) → c ≡ quote
goes_on r v u c rest more e f long =
    let first : r ≡ (doubled v ++ quote ∷ []) ++ (c ∷ rest) = e ∙ sym (append_assoc (doubled v) (quote ∷ []) (c ∷ rest)) in
    let size : length (doubled v ++ quote ∷ []) ≡ length (doubled u) = simp length-append (omega arith) in
    sym (ap (λ l. get_or l (length (doubled u)) 0) first ∙ get_or_at (doubled v ++ quote ∷ []) c rest 0 (length (doubled u)) size) ∙ ap (λ l. get_or l (length (doubled u)) 0) f ∙ get_or_at (doubled u) quote more 0 (length (doubled u)) refl

same_text : (r v u rest more : List ℕ) → r ≡ doubled v ++ quote ∷ rest → r ≡ doubled u ++ quote ∷ more → length (doubled v) ≡ length (doubled u) → v ≡ u
same_text r v u rest more e f long =
    let here : take (length (doubled v)) r ≡ doubled v = ap (take (length (doubled v))) e ∙ take_at (doubled v) (quote ∷ rest) (length (doubled v)) refl in
    let there : take (length (doubled v)) r ≡ doubled u = ap (take (length (doubled v))) f ∙ take_at (doubled u) (quote ∷ more) (length (doubled v)) (sym long) in
    doubled-injective v u (sym here ∙ there)

longest_bits_by : (r v u : List ℕ) (c : ℕ) (rest : List ℕ) → r ≡ doubled v ++ quote ∷ c ∷ rest → (c ≡ 66) ⊎ (c ≡ 98) → NameEnds rest → text_value false r ≡ Some u → Closes r u → length (doubled v) ≤ length (doubled u) → (length (doubled v) < length (doubled u)) ⊎ (length (doubled u) ≤ length (doubled v)) → Longest (quote ∷ r) (suc (suc (suc (length (doubled v))))) (bits_of v)
longest_bits_by r v u c rest e b ends found closes least (inl less) =
    longest_quoted r u (suc (suc (suc (length (doubled v))))) (bits_of v) _ found refl (omega arith) (λ same. let long : length (doubled u) ≡ suc (length (doubled v)) = omega arith in absurd (no_letter c b (goes_on r v u c rest closes.rest e closes.spelled long)))
longest_bits_by r v u c rest e b ends found closes least (inr more) =
    let long : length (doubled v) ≡ length (doubled u) = omega arith in
    let is = same_text r v u (c ∷ rest) closes.rest e closes.spelled long in
    let value : text_value false r ≡ Some v = found ∙ ap Some (sym is) in
    record {
      size = suc (suc (suc (length (doubled v))));
      lexeme = bits_of v;
      found = ap (quoted r) value ∙ cond-true _ _ _ (ap stands_as_bits (closed_drop r v (c ∷ rest) e) ∙ bits_together c rest b ends);
      at_most = omega arith;
      same = λ same. refl;
    }

longest_bits : (b : ℕ) (r : List ℕ) (k : ℕ) (v : List ℕ) (c : ℕ) (rest : List ℕ) → BitsFront b r k v c rest → (c ≡ 66) ⊎ (c ≡ 98) → NameEnds rest → Longest (b ∷ r) (suc k) (bits_of v)
longest_bits b r k v c rest h letter ends =
    let best = text_value-longest false r v (c ∷ rest) h.spelled h.one_line in
    let closes = text_value-closes false r best.value best.found in
    let here = longest_bits_by r v best.value c rest h.spelled letter ends best.found closes best.at_least (cases_lt _ _) in
    subst (λ x. Longest (x ∷ r) (suc k) (bits_of v)) (sym h.opens) (subst (λ j. Longest (quote ∷ r) (suc j) (bits_of v)) (sym h.size) here)

pub bits_of_other : (v : List ℕ) → v ≢ 48 ∷ [] → v ≢ 49 ∷ [] → bits_of v ≡ OtherBits v
bits_of_other v no_zero no_one =
    cond-false _ _ _ (false_from_ne_true _ (λ h. no_zero (same_bytes-true v (48 ∷ []) h))) ∙ cond-false _ _ _ (false_from_ne_true _ (λ h. no_one (same_bytes-true v (49 ∷ []) h)))

-- ---- symbols

other_from_fixed : (b : ℕ) (w : List ℕ) (y : Lexeme) (t : Bool) → begins_other b ≡ t → fixed (b ∷ w) ≡ Some y → t ≡ false
other_from_fixed b w y true q e =
    let none = fixed-apart b w q in
    absurd (cc)
other_from_fixed b w y false q e = refl

longest_pair : (b c : ℕ) (r : List ℕ) (o : Option Lexeme) (y : Lexeme) → begins_other b ≡ false → fixed (b ∷ c ∷ []) ≡ o → fixed (b ∷ []) ≡ Some y → Longest (b ∷ c ∷ r) 1 y
longest_pair b c r None y other e f = record {
  size = 1;
  lexeme = y;
  found = at_fixed b (c ∷ r) other ∙ ap (λ o. or_else (of_length 2 o) (of_length 1 (fixed (b ∷ [])))) e ∙ ap (of_length 1) f;
  at_most = omega arith;
  same = λ _. refl;
}
longest_pair b c r (Some x) y other e f = record {
  size = 2;
  lexeme = x;
  found = at_fixed b (c ∷ r) other ∙ ap (λ o. or_else (of_length 2 o) (of_length 1 (fixed (b ∷ [])))) e;
  at_most = omega arith;
  same = λ same. absurd (omega arith);
}

longest_fixed : (b : ℕ) (r : List ℕ) (k : ℕ) (y : Lexeme) → k ≤ length r → begins_other b ≡ false → fixed (b ∷ take k r) ≡ Some y → Longest (b ∷ r) (suc k) y
longest_fixed b [] zero y inside other e = record { size = 1; lexeme = y; found = at_fixed b [] other ∙ ap (of_length 1) e; at_most = omega arith; same = λ _. refl }
longest_fixed b [] (suc k) y inside other e = absurd (omega arith)
longest_fixed b (c ∷ r) zero y inside other e = longest_pair b c r (fixed (b ∷ c ∷ [])) y other refl e
longest_fixed b (c ∷ r) (suc zero) y inside other e = record { size = 2; lexeme = y; found = at_fixed b (c ∷ r) other ∙ ap (λ o. or_else (of_length 2 o) (of_length 1 (fixed (b ∷ [])))) e; at_most = omega arith; same = λ _. refl }
longest_fixed b (c ∷ []) (suc (suc k)) y inside other e = absurd (omega arith)
longest_fixed b (c ∷ d ∷ r) (suc (suc k)) y inside other e = absurd (cc)

-- ---- all of them

longest_at : (b : ℕ) (r : List ℕ) (k : ℕ) (y : Lexeme) → k ≤ length r → Spelled (b ∷ take k r) (drop k r) y → Longest (b ∷ r) (suc k) y
longest_at b r k y inside (name h) = longest_name b r k inside h.0 h.1
longest_at b r k y inside (number h) = longest_number b r k inside h
longest_at b r k y inside (text v h) = longest_text b r k v (drop k r) (text_front b r k v inside h)
longest_at b r k y inside (bit true c letter ends e) = longest_bits b r k (49 ∷ []) c (drop k r) (bits_front b r k (49 ∷ []) (quote ∷ 49 ∷ quote ∷ []) c inside (text_of (49 ∷ []) refl) e) letter ends
longest_at b r k y inside (bit false c letter ends e) = longest_bits b r k (48 ∷ []) c (drop k r) (bits_front b r k (48 ∷ []) (quote ∷ 48 ∷ quote ∷ []) c inside (text_of (48 ∷ []) refl) e) letter ends
longest_at b r k y inside (symbol s h) =
    let e = fixed-symbol s (b ∷ take k r) h in
    longest_fixed b r k _ inside (other_from_fixed b (take k r) _ (begins_other b) refl e) e
longest_at b r k y inside (power is) =
    let e : fixed (b ∷ take k r) ≡ Some Power = ap fixed is in
    longest_fixed b r k Power inside (other_from_fixed b (take k r) Power (begins_other b) refl e) e
longest_at b r k y inside (other_bits v t c h no_zero no_one letter ends e) =
    subst (Longest (b ∷ r) (suc k)) (bits_of_other v no_zero no_one) (longest_bits b r k v c (drop k r) (bits_front b r k v t c inside h e) letter ends)

some_bytes : (rest : List ℕ) (y : Lexeme) → Spelled [] rest y → ⊥
some_bytes rest y (name h) = h
some_bytes rest y (number h) = h
some_bytes rest y (text v h) = let e = h.spelled in cc
some_bytes rest y (bit v c letter ends e) = cc
some_bytes rest y (symbol s h) = let e = fixed-symbol s [] h in cc
some_bytes rest y (power e) = cc
some_bytes rest y (other_bits v t c h no_zero no_one letter ends e) = omega (arith, simp length-append at (ap length e))

pub lexeme_at-longest : (s : List ℕ) (m : ℕ) (y : Lexeme) → m ≤ length s → Spelled (take m s) (drop m s) y → Longest s m y
lexeme_at-longest s zero y inside h = absurd (some_bytes s y h)
lexeme_at-longest [] (suc k) y inside h = absurd (omega arith)
lexeme_at-longest (b ∷ r) (suc k) y inside h = longest_at b r k y (omega arith) h

-- ---- the longest lexeme

pub longest_from : (s : List ℕ) (n : ℕ) (x : Lexeme) → opens_comment s ≡ false → lexeme_at s ≡ Some (n, x) → IsLongest s n x
longest_from s n x no_comment found =
    let here = lexeme_at-spelled s n x found in
    record {
      inside = here.inside;
      no_comment = no_comment;
      spelled = here.spelled;
      longest = λ m y inside spelled. let other = lexeme_at-longest s m y inside spelled in let is = other.found in let most = other.at_most in let size = (same_found other.size n other.lexeme x (sym is ∙ found)).0 in omega arith;
    }

pub longest_gives : (s : List ℕ) (n : ℕ) (x : Lexeme) → IsLongest s n x → lexeme_at s ≡ Some (n, x)
longest_gives s n x h =
    let other = lexeme_at-longest s n x h.inside h.spelled in
    let there = lexeme_at-spelled s other.size other.lexeme other.found in
    let back = h.longest other.size other.lexeme there.inside there.spelled in
    let most = other.at_most in
    let size : n ≡ other.size = omega arith in
    let same = other.same size in
    other.found ∙ (λ k. Some (sym size k, sym same k))

pub none_begins : (s : List ℕ) → lexeme_at s ≡ None → BeginsNone s
none_begins s none n x inside spelled = let h = lexeme_at-longest s n x inside spelled in let e = h.found in cc

pub begins_none-gives : (s : List ℕ) (n : ℕ) (x : Lexeme) → BeginsNone s → lexeme_at s ≡ Some (n, x) → ⊥
begins_none-gives s n x none found = let h = lexeme_at-spelled s n x found in none n x h.inside h.spelled
