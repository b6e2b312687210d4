-- The places of tokens rise, and so do those of any part of them.
use Rattle.std.proofs.Common.{◌≡◌, ℕ, suc, ◌+◌, ◌-◌, ◌<◌, ◌≤◌, Bool, true, false, cond, not, List, [], ◌∷◌, ◌++◌, map}
use Rattle.std.proofs.Common.{length, take, drop, reverse, eqb, refl, sym, ap, ◌∙◌, subst, inl, inr, arith}
use Rattle.std.specs.Prelude.{count_by, take_while}
use Rattle.std.proofs.lemmas.List.{reverse-append, append_assoc, length-drop, length-take-le}
use Rattle.std.proofs.lemmas.List.Sums.{sum_by_push, take_while-cons}
use Rattle.std.proofs.Math.Seq.{take-add}
use Rattle.pli_language.specs.declared.expr.Place.{Place}
use Rattle.pli_language.specs.declared.token.Token.{Token}
use Rattle.pli_language.specs.Spells.{place_of}
use Rattle.pli_language.specs.Tokens.{IsTokenAt, Reads, no_more, one_more, Tokens, line_after, column_after}
use Rattle.well_formed_trees.specs.Every.{Every}
use Rattle.well_formed_trees.specs.Placed.{IsBefore, AreRising}

-- ---- one byte, and some, further on

abbrev place_behind : List ℕ → Place
place_behind before = record { line = line_after before; column = column_after before }

-- 1 for a line's end
abbrev feeds : Bool → ℕ
feeds t = cond t 1 0

line_push : (before : List ℕ) (b : ℕ)
    → line_after (before ++ b ∷ []) ≡ 1 + (count_by (λ x. eqb x 10) before + feeds (eqb b 10))
line_push before b = ap (λ n. 1 + n) (sum_by_push (λ x. cond (eqb x 10) 1 0) before b)

column_push : (before : List ℕ) (b : ℕ)
    → column_after (before ++ b ∷ [])
    ≡ 1 + length (cond (not (eqb b 10)) (b ∷ take_while (λ x. not (eqb x 10)) (reverse before)) [])
column_push before b =
    ap (λ l. 1 + length (take_while (λ x. not (eqb x 10)) l)) (reverse-append before (b ∷ []))
    ∙ ap (λ l. 1 + length l) (take_while-cons (λ x. not (eqb x 10)) b (reverse before))

push_by : (before : List ℕ) (b : ℕ) (t : Bool) → eqb b 10 ≡ t
    → IsBefore (place_behind before) (place_behind (before ++ b ∷ []))
push_by before b true e =
    let l = line_push before b in
    let f : feeds (eqb b 10) ≡ feeds true = ap feeds e in
    inl (omega (arith, l, f))
push_by before b false e =
    let l = line_push before b in
    let f : feeds (eqb b 10) ≡ feeds false = ap feeds e in
    let c = column_push before b in
    let rest = take_while (λ x. not (eqb x 10)) (reverse before) in
    let g : length (cond (not (eqb b 10)) (b ∷ rest) []) ≡ suc (length rest) =
    ap (λ t. length (cond (not t) (b ∷ rest) [])) e in
    inr (omega (arith, l, f), omega (arith, c, g))

before_before : (p q r : Place) → IsBefore p q → IsBefore q r → IsBefore p r
before_before p q r (inl a) (inl b) = inl (omega (arith, a, b))
before_before p q r (inl a) (inr b) = let c = b.0 in inl (omega (arith, a, c))
before_before p q r (inr a) (inl b) = let c = a.0 in inl (omega (arith, b, c))
before_before p q r (inr a) (inr b) =
    let c = a.1 in
    let d = b.1 in
    inr (a.0 ∙ b.0, omega (arith, c, d))

further : (before : List ℕ) (b : ℕ) (w : List ℕ) → IsBefore (place_behind before) (place_behind (before ++ b ∷ w))
further before b [] = push_by before b (eqb b 10) refl
further before b (c ∷ w) =
    subst (λ l. IsBefore (place_behind before) (place_behind l)) (append_assoc before (b ∷ []) (c ∷ w))
    (before_before (place_behind before) (place_behind (before ++ b ∷ []))
    (place_behind ((before ++ b ∷ []) ++ c ∷ w)) (push_by before b (eqb b 10) refl) (further (before ++ b ∷ []) c w))

further_by : (before w : List ℕ) → 0 < length w → IsBefore (place_behind before) (place_behind (before ++ w))
further_by before [] h = absurd (omega (arith, h))
further_by before (b ∷ w) h = further before b w

place_rises : (s : List ℕ) (p q : ℕ) → p < q → q ≤ length s → IsBefore (place_behind (take p s))
    (place_behind (take q s))
place_rises s p q h few =
    let n = q - p in
    let e : p + n ≡ q = omega (arith, h) in
    let d = length-drop p s in
    let inside : n ≤ length (drop p s) = omega (arith, d, few, h) in
    let w = take n (drop p s) in
    let long = length-take-le n (drop p s) inside in
    let some : 0 < length w = omega (arith, long, h) in
    subst (λ l. IsBefore (place_behind (take p s)) (place_behind l))
    (sym (take-add p n s) ∙ ap (λ k. take k s) e) (further_by (take p s) w some)

-- ---- tokens

token_inside : (s : List ℕ) (t : Token) → IsTokenAt s t → t.start ≤ length s
token_inside s t h =
    let a = h.rising in
    let b = h.spelled.inside in
    let d = length-drop t.start s in
    omega (arith, a, b, d)

token_place : (s : List ℕ) (t : Token) → IsTokenAt s t → place_of t ≡ place_behind (take t.start s)
token_place s t h =
    ap (λ l. record { line = l; column = t.column }) h.line_is
    ∙ ap (λ c. record { line = line_after (take t.start s); column = c }) h.column_is

tokens_rise_by : (s : List ℕ) (t u : Token) → IsTokenAt s t → IsTokenAt s u → t.start < u.start
    → IsBefore (place_of t) (place_of u)
tokens_rise_by s t u h k e =
    subst (λ p. IsBefore p (place_of u)) (sym (token_place s t h))
    (subst (IsBefore (place_behind (take t.start s))) (sym (token_place s u k))
    (place_rises s t.start u.start e (token_inside s u k)))

-- all that are read from a place on stand behind a token before it
all_behind : {s : List ℕ} {p q : ℕ} {ts : List Token} (t : Token) → IsTokenAt s t → t.start < p → Reads s p ts q
    → Every (IsBefore (place_of t)) (map place_of ts)
all_behind t h e (no_more p) = tt
all_behind {s} t h e (one_more p q u ts low blanks at more) =
    let rising = at.rising in
    (tokens_rise_by s t u h at (omega (arith, e, low)), all_behind t h (omega (arith, e, low, rising)) more)

reads_rise : {s : List ℕ} {p q : ℕ} {ts : List Token} → Reads s p ts q → AreRising (map place_of ts)
reads_rise (no_more p) = tt
reads_rise (one_more p q t ts low blanks at more) = (all_behind t at at.rising more, reads_rise more)

pub tokens_rise : (s : List ℕ) (ts : List Token) → Tokens s ts → AreRising (map place_of ts)
tokens_rise s ts h = reads_rise h.reads

-- ---- parts

-- some of these, in their order
pub data IsPart : List Place → List Place → Type 0 where
  ends : IsPart [] []
  skips : (p : Place) (ps qs : List Place) → IsPart ps qs → IsPart ps (p ∷ qs)
  keeps : (p : Place) (ps qs : List Place) → IsPart ps qs → IsPart (p ∷ ps) (p ∷ qs)

pub none_part : (qs : List Place) → IsPart [] qs
none_part [] = ends
none_part (q ∷ qs) = skips q [] qs (none_part qs)

pub both_parts : {ps qs : List Place} {ps' qs' : List Place} → IsPart ps qs → IsPart ps' qs'
    → IsPart (ps ++ ps') (qs ++ qs')
both_parts ends k = k
both_parts {ps' = ps'} {qs' = qs'} (skips p ps qs h) k = skips p (ps ++ ps') (qs ++ qs') (both_parts h k)
both_parts {ps' = ps'} {qs' = qs'} (keeps p ps qs h) k = keeps p (ps ++ ps') (qs ++ qs') (both_parts h k)

part_every : (P : Place → Type 0) {ps qs : List Place} → IsPart ps qs → Every P qs → Every P ps
part_every P ends h = tt
part_every P (skips p ps qs k) h = part_every P k h.1
part_every P (keeps p ps qs k) h = (h.0, part_every P k h.1)

pub part_rises : {ps qs : List Place} → IsPart ps qs → AreRising qs → AreRising ps
part_rises ends h = tt
part_rises (skips p ps qs k) h = part_rises k h.1
part_rises (keeps p ps qs k) h = (part_every (IsBefore p) k h.0, part_rises k h.1)
