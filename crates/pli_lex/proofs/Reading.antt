-- The tokens read so far, with the place behind them, and what one more piece does.
use Rattle.std.proofs.Common.{◌≡◌, ◌≢◌, ℕ, ◌+◌, ◌-◌, ◌<◌, ◌≤◌, List, [], ◌∷◌, ◌++◌, length, take, drop, reverse, Bool, true, false, cond, refl, sym, ◌∙◌, ap, subst, eqb, arith, append_assoc, length-drop, length-take-le}
use Rattle.std.specs.Prelude.{not, ◌==◌, count_by, take_while, slice_range}
use Rattle.std.proofs.lemmas.List.{drop-drop, reverse-append, length-reverse, append-nil, take_rest, length_push}
use Rattle.std.proofs.lemmas.List.Sums.{count_by-le-length, prefix_len-le-length, sum_by_push, take_while-cons}
use Rattle.std.specs.List.{prefix_len}
use Rattle.std.proofs.Math.Seq.{take-add}
use Rattle.pli_language.specs.declared.fault.SourceFault.{SourceFault}
use Rattle.pli_language.specs.declared.fault.SourceKind.{SourceKind}
use Rattle.pli_language.specs.declared.fault.SourceKind.TheVariants.{Memory, TooLong}
use Rattle.pli_language.specs.declared.token.Kind.{Kind}
use Rattle.pli_language.specs.declared.token.Token.{Token}
use Rattle.pli_language.specs.Tokens.{IsSeparation, nothing, Read, IsLongest, IsShort, line_after, column_after, IsTokenAt, Reads, no_more, one_more, most_bytes, most_tokens, Tokens, Breaks, bad_byte, unclosed_comment, unclosed_text, too_long, one_too_many, too_long_bits, power, other_bits, Refuses, source_too_long, at_place}
use Rattle.pli_lex.specs.Scanning.{line_from, column_from}
use Rattle.pli_lex.specs.Faults.{IsFaultOf, refused}
use Rattle.pli_lex.specs.Pieces.{IsSeparatorAt, IsTokenOf}
use Rattle.pli_lex.proofs.Comments.{separation_join}

-- ---- lines and columns

abbrev is_feed : ℕ → Bool
is_feed b = b == 10

line_push_by : (before : List ℕ) (b : ℕ) (t : Bool) → cond t (line_after before + 1) (line_after before) ≡ 1 + (count_by (λ x. eqb x 10) before + cond t 1 0)
line_push_by before b true = omega arith
line_push_by before b false = omega arith

line_push : (before : List ℕ) (b : ℕ) → cond (eqb b 10) (line_after before + 1) (line_after before) ≡ line_after (before ++ b ∷ [])
line_push before b = line_push_by before b (eqb b 10) ∙ ap (λ n. 1 + n) (sym (sum_by_push (λ x. cond (eqb x 10) 1 0) before b))

line_from_is : (before w : List ℕ) → line_from (line_after before) w ≡ line_after (before ++ w)
line_from_is before [] = ap line_after (sym (append-nil before))
line_from_is before (b ∷ w) = ap (λ n. line_from n w) (line_push before b) ∙ line_from_is (before ++ b ∷ []) w ∙ ap line_after (append_assoc before (b ∷ []) w)

column_push_by : (before : List ℕ) (b : ℕ) (t : Bool) → eqb b 10 ≡ t → cond t 1 (column_after before + 1) ≡ 1 + length (cond (not t) (b ∷ take_while (λ x. not (eqb x 10)) (reverse before)) [])
column_push_by before b true q = refl
column_push_by before b false q = omega arith

column_push : (before : List ℕ) (b : ℕ) → cond (eqb b 10) 1 (column_after before + 1) ≡ column_after (before ++ b ∷ [])
column_push before b =
    column_push_by before b (eqb b 10) refl
    ∙ ap (λ l. 1 + length l) (sym (take_while-cons (λ x. not (eqb x 10)) b (reverse before)))
    ∙ ap (λ l. 1 + length (take_while (λ x. not (eqb x 10)) l)) (sym (reverse-append before (b ∷ [])))

column_from_is : (before w : List ℕ) → column_from (column_after before) w ≡ column_after (before ++ w)
column_from_is before [] = ap column_after (sym (append-nil before))
column_from_is before (b ∷ w) = ap (λ n. column_from n w) (column_push before b) ∙ column_from_is (before ++ b ∷ []) w ∙ ap column_after (append_assoc before (b ∷ []) w)

line_bound : (before : List ℕ) → line_after before ≤ 1 + length before
line_bound before = omega (arith, count_by-le-length (λ b. eqb b 10) before)

column_bound : (before : List ℕ) → column_after before ≤ 1 + length before
column_bound before =
    let p : ℕ → Bool = λ b. not (eqb b 10) in
    let most = prefix_len-le-length p (reverse before) in
    let front = length-take-le (prefix_len p (reverse before)) (reverse before) most in
    let same = length-reverse before in
    omega arith

-- ---- parts of the source

slice_to_end : (s : List ℕ) (p : ℕ) → slice_range s p (length s) ≡ drop p s
slice_to_end s p = take_rest s p

slice_none : (s : List ℕ) (p : ℕ) → [] ≡ slice_range s p p
slice_none s p = let e : 0 ≡ p - p = omega arith in ap (λ n. take n (drop p s)) e

slice_more : (s : List ℕ) (p q n : ℕ) → p ≤ q → slice_range s p (q + n) ≡ slice_range s p q ++ take n (drop q s)
slice_more s p q n h =
    let size : q + n - p ≡ (q - p) + n = omega arith in
    let at : p + (q - p) ≡ q = omega arith in
    ap (λ m. take m (drop p s)) size ∙ take-add (q - p) n (drop p s) ∙ ap (λ l. take (q - p) (drop p s) ++ take n l) (drop-drop (q - p) p s ∙ ap (λ m. drop m s) at)

slice_of : (s : List ℕ) (q n : ℕ) → slice_range s q (q + n) ≡ take n (drop q s)
slice_of s q n = let e : q + n - q ≡ n = omega arith in ap (λ m. take m (drop q s)) e

-- ---- progress

pub record Progress (s : List ℕ) (ts : List Token) (q line column : ℕ) : Type 0 where
  pub last : ℕ
  pub reads : Reads s 0 ts last
  pub few : length ts ≤ most_tokens
  pub rising : last ≤ q
  pub inside : q ≤ length s
  pub gap : IsSeparation (slice_range s last q)
  pub line_is : line ≡ line_after (take q s)
  pub column_is : column ≡ column_after (take q s)

pub progress_start : (s : List ℕ) → Progress s [] 0 1 1
progress_start s = record {
  last = 0;
  reads = no_more 0;
  few = omega arith;
  rising = omega arith;
  inside = omega arith;
  gap = subst IsSeparation (slice_none s 0) nothing;
  line_is = refl;
  column_is = refl;
}

pub progress_line : (s : List ℕ) (ts : List Token) (q line column : ℕ) → Progress s ts q line column → (line ≤ 1 + q) × (column ≤ 1 + q)
progress_line s ts q line column h =
    let size = length-take-le q s h.inside in
    (omega (arith, h.line_is, line_bound (take q s)), omega (arith, h.column_is, column_bound (take q s)))

line_on : (s : List ℕ) (q n line : ℕ) → line ≡ line_after (take q s) → line_from line (take n (drop q s)) ≡ line_after (take (q + n) s)
line_on s q n line h = ap (λ l. line_from l (take n (drop q s))) h ∙ line_from_is (take q s) (take n (drop q s)) ∙ ap line_after (sym (take-add q n s))

column_on : (s : List ℕ) (q n column : ℕ) → column ≡ column_after (take q s) → column_from column (take n (drop q s)) ≡ column_after (take (q + n) s)
column_on s q n column h = ap (λ l. column_from l (take n (drop q s))) h ∙ column_from_is (take q s) (take n (drop q s)) ∙ ap column_after (sym (take-add q n s))

pub progress_separator : (s : List ℕ) (ts : List Token) (q line column n : ℕ) → Progress s ts q line column → IsSeparatorAt (drop q s) n → Progress s ts (q + n) (line_from line (take n (drop q s))) (column_from column (take n (drop q s)))
progress_separator s ts q line column n h here = record {
  last = h.last;
  reads = h.reads;
  few = h.few;
  rising = omega (arith, h.rising);
  inside = omega (arith, here.inside, length-drop q s, h.inside);
  gap = subst IsSeparation (sym (slice_more s h.last q n h.rising)) (separation_join _ _ h.gap here.separates);
  line_is = line_on s q n line h.line_is;
  column_is = column_on s q n column h.column_is;
}

reads_push : (s : List ℕ) (a p : ℕ) (ts : List Token) (t : Token) → Reads s a ts p → p ≤ t.start → IsSeparation (slice_range s p t.start) → IsTokenAt s t → Reads s a (ts ++ t ∷ []) t.end
reads_push s a p ts t (no_more b) rising gap here = one_more a t.end t [] rising gap here (no_more t.end)
reads_push s a p ts t (one_more b q u us r g k more) rising gap here = one_more a t.end u (us ++ t ∷ []) r g k (reads_push s u.end p us t more rising gap here)

abbrev pub token_at : Kind → ℕ → ℕ → ℕ → ℕ → Token
token_at kind q n line column = record { kind = kind; start = q; end = q + n; line = line; column = column }

pub progress_token : (s : List ℕ) (ts : List Token) (q line column n : ℕ) (kind : Kind) → Progress s ts q line column → IsTokenOf (drop q s) kind n → length ts < most_tokens → Progress s (ts ++ token_at kind q n line column ∷ []) (q + n) (line_from line (take n (drop q s))) (column_from column (take n (drop q s)))
progress_token s ts q line column n kind h here room =
    let size : n ≡ q + n - q = omega arith in
    let there : IsTokenAt s (token_at kind q n line column) = record {
      rising = omega (arith, here.some);
      spelled = subst (λ m. IsLongest (drop q s) m (Read kind)) size here.longest;
      short = subst (IsShort kind) (sym (slice_of s q n)) here.short;
      line_is = h.line_is;
      column_is = h.column_is;
    } in
    record {
      last = q + n;
      reads = reads_push s 0 h.last ts (token_at kind q n line column) h.reads h.rising h.gap there;
      few = omega (arith, length_push ts (token_at kind q n line column));
      rising = omega arith;
      inside = omega (arith, here.inside, length-drop q s, h.inside);
      gap = subst IsSeparation (slice_none s (q + n)) nothing;
      line_is = line_on s q n line h.line_is;
      column_is = column_on s q n column h.column_is;
    }

pub progress_end : (s : List ℕ) (ts : List Token) (q line column : ℕ) → Progress s ts q line column → length s ≤ most_bytes → length s ≤ q → Tokens s ts
progress_end s ts q line column h bytes done =
    let at_end : q ≡ length s = omega (arith, h.inside) in
    record {
      end = h.last;
      bytes = bytes;
      reads = h.reads;
      rest = subst IsSeparation (ap (slice_range s h.last) at_end ∙ slice_to_end s h.last) h.gap;
      number = h.few;
    }

no_memory : (s : List ℕ) (n : ℕ) (kind : SourceKind) → Breaks s n kind → kind ≢ Memory
no_memory s n kind (bad_byte b rest e blank q c none) is = cc
no_memory s n kind (unclosed_comment o h) is = cc
no_memory s n kind (unclosed_text r e none) is = cc
no_memory s n kind (too_long m k longest over) is = cc
no_memory s n kind (one_too_many m k longest e) is = cc
no_memory s n kind (too_long_bits m v longest over) is = cc
no_memory s n kind (power m longest) is = cc
no_memory s n kind (other_bits m v longest short) is = cc

abbrev pub fault_at : ℕ → ℕ → SourceKind → SourceFault
fault_at line column kind = record { line = line; column = column; kind = kind }

pub progress_refuses : (s : List ℕ) (ts : List Token) (q line column : ℕ) (kind : SourceKind) → Progress s ts q line column → length s ≤ most_bytes → q < length s → Breaks (drop q s) (length ts) kind → Refuses s line column kind
progress_refuses s ts q line column kind h bytes inside here =
    let there = at_place ts h.last q kind bytes h.reads h.few h.rising h.gap inside here in
    subst (λ l. Refuses s l column kind) (sym h.line_is) (subst (λ c. Refuses s (line_after (take q s)) c kind) (sym h.column_is) there)

pub progress_fault : (s : List ℕ) (ts : List Token) (q line column : ℕ) (kind : SourceKind) → Progress s ts q line column → length s ≤ most_bytes → q < length s → Breaks (drop q s) (length ts) kind → IsFaultOf s (fault_at line column kind)
progress_fault s ts q line column kind h bytes inside here =
    refused (no_memory (drop q s) (length ts) kind here) (progress_refuses s ts q line column kind h bytes inside here)

pub source_fault : (s : List ℕ) → most_bytes < length s → IsFaultOf s (fault_at 1 1 TooLong)
source_fault s over = refused (λ e. cc) (source_too_long over)

-- the 10,001st token
pub progress_many : (s : List ℕ) (ts : List Token) (q line column n : ℕ) (kind : Kind) → Progress s ts q line column → length s ≤ most_bytes → IsTokenOf (drop q s) kind n → length ts ≡ most_tokens → IsFaultOf s (fault_at line column TooLong)
progress_many s ts q line column n kind h bytes here many =
    progress_fault s ts q line column TooLong h bytes (omega (arith, here.some, here.inside, length-drop q s, h.inside)) (one_too_many n kind here.longest many)

-- ---- one step, as the code has it

place_on : (s ts' : List ℕ) (q n end : ℕ) → n ≤ length ts' → end ≡ q + length (take n ts') → end ≡ q + n
place_on s ts' q n end inside e = e ∙ ap (λ m. q + m) (length-take-le n ts' inside)

pub separator_behind : (s : List ℕ) (ts : List Token) (q line column n len end new_line new_column : ℕ) (rest : List ℕ) → Progress s ts q line column → rest ≡ drop q s → IsSeparatorAt rest n → len ≡ n → end ≡ q + length (take len rest) → new_line ≡ line_from line (take len rest) → new_column ≡ column_from column (take len rest) → Progress s ts end new_line new_column
separator_behind s ts q line column n len end new_line new_column rest h r here size e l c =
    let there = subst (λ x. IsSeparatorAt x n) r here in
    let at : end ≡ q + n = place_on s (drop q s) q n end there.inside (e ∙ (λ k. q + length (take (size k) (r k)))) in
    let on_line : new_line ≡ line_from line (take n (drop q s)) = l ∙ (λ k. line_from line (take (size k) (r k))) in
    let on_column : new_column ≡ column_from column (take n (drop q s)) = c ∙ (λ k. column_from column (take (size k) (r k))) in
    subst (λ x. Progress s ts x new_line new_column) (sym at) (subst (λ x. Progress s ts (q + n) x new_column) (sym on_line) (subst (λ x. Progress s ts (q + n) (line_from line (take n (drop q s))) x) (sym on_column) (progress_separator s ts q line column n h there)))

pub token_behind : (s : List ℕ) (ts : List Token) (q line column n len end new_line new_column : ℕ) (kind : Kind) (rest : List ℕ) → Progress s ts q line column → length ts < most_tokens → rest ≡ drop q s → IsTokenOf rest kind n → len ≡ n → end ≡ q + length (take len rest) → new_line ≡ line_from line (take len rest) → new_column ≡ column_from column (take len rest) → Progress s (ts ++ token_at kind q n line column ∷ []) end new_line new_column
token_behind s ts q line column n len end new_line new_column kind rest h room r here size e l c =
    let there = subst (λ x. IsTokenOf x kind n) r here in
    let at : end ≡ q + n = place_on s (drop q s) q n end there.inside (e ∙ (λ k. q + length (take (size k) (r k)))) in
    let on_line : new_line ≡ line_from line (take n (drop q s)) = l ∙ (λ k. line_from line (take (size k) (r k))) in
    let on_column : new_column ≡ column_from column (take n (drop q s)) = c ∙ (λ k. column_from column (take (size k) (r k))) in
    let us : List Token = ts ++ token_at kind q n line column ∷ [] in
    subst (λ x. Progress s us x new_line new_column) (sym at) (subst (λ x. Progress s us (q + n) x new_column) (sym on_line) (subst (λ x. Progress s us (q + n) (line_from line (take n (drop q s))) x) (sym on_column) (progress_token s ts q line column n kind h there room)))
