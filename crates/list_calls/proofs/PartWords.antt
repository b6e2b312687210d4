-- What words of a list tell, and that parts of a list are apart.
use Rattle.std.proofs.Common.{◌≡◌, ◌≢◌, ◌⊎◌, inl, inr, ℕ, suc, ◌+◌, ◌*◌, ◌/◌, ◌%◌, ◌^◌, ◌<◌, ◌≤◌, List, [], ◌∷◌}
use Rattle.std.proofs.Common.{length, Some, refl, ap, ◌∙◌, arith}
use Rattle.std.proofs.lemmas.Bool.{eq-eqb}
use Rattle.std.specs.Prelude.{cond}
use Rattle.rv_meaning.specs.Words.{word}
use Rattle.storage_relation.proofs.Holders.{eqb-other}
use Rattle.argument_runs.specs.Parameters.{HasName}
use Rattle.word_runs.specs.Words.{with_word}
use Rattle.list_calls.specs.Lists.{Parameter, Passing, PassesCopy, PassesName, Told, bound_told, list_told, name_told}
use Rattle.list_calls.specs.Lists.{part_told, value_told}

-- ---- one word

pub word_same : (n given : ℕ) (before : Told) → with_word n given before n ≡ Some given
word_same n given before = ap (λ q. cond q (Some given) (before n)) (eq-eqb n n refl)

pub word_other : (n given i : ℕ) (before : Told) → i ≢ n → with_word n given before i ≡ before i
word_other n given i before other = ap (λ q. cond q (Some given) (before i)) (eqb-other i n other)

-- ---- a part

-- no word of it
abbrev pub IsOutside : (last i : ℕ) → Type 0
IsOutside last i = (i < last) ⊎ (last + 6 ≤ i)

not_part : (last i k : ℕ) → k < 6 → IsOutside last i → i ≢ last + k
not_part last i k few (inl below) = λ e. omega (arith, below, e)
not_part last i k few (inr above) = λ e. omega (arith, above, e, few)

pub value_other : (last given i : ℕ) (before : Told) → IsOutside last i → value_told last given before i ≡ before i
value_other last given i before out =
    word_other last 1 i (with_word (last + 5) given before) (λ e. not_part last i 0 (omega arith) out (omega (arith, e)))
    ∙ word_other (last + 5) given i before (not_part last i 5 (omega arith) out)

pub name_other :
    (last serial signature mark i : ℕ) (before : Told) → IsOutside last i →
    name_told last serial signature mark before i ≡ before i
name_other last serial signature mark i before out =
    let w5 : Told = with_word (last + 5) 1 before in
    let w4 : Told = with_word (last + 4) 0 w5 in
    let w3 : Told = with_word (last + 3) (serial % 2 ^ 32) w4 in
    let w2 : Told = with_word (last + 2) (serial / 2 ^ 32) w3 in
    let w1 : Told = with_word (last + 1) signature w2 in
    word_other last mark i w1 (λ e. not_part last i 0 (omega arith) out (omega (arith, e)))
    ∙ word_other (last + 1) signature i w2 (not_part last i 1 (omega arith) out)
    ∙ word_other (last + 2) (serial / 2 ^ 32) i w3 (not_part last i 2 (omega arith) out)
    ∙ word_other (last + 3) (serial % 2 ^ 32) i w4 (not_part last i 3 (omega arith) out)
    ∙ word_other (last + 4) 0 i w5 (not_part last i 4 (omega arith) out)
    ∙ word_other (last + 5) 1 i before (not_part last i 5 (omega arith) out)

pub part_other :
    (last i : ℕ) (y : Passing) (before : Told) → IsOutside last i → part_told last y before i ≡ before i
part_other last i (PassesCopy z) before out = value_other last (word z) i before out
part_other last i (PassesName serial signature) before out = name_other last serial signature 0 i before out

-- what it tells
pub value_has :
    (last given : ℕ) (before : Told) →
    (value_told last given before (last + 5) ≡ Some given) × (value_told last given before last ≡ Some 1)
value_has last given before = (
  word_other last 1 (last + 5) (with_word (last + 5) given before) (λ e. omega (arith, e))
      ∙ word_same (last + 5) given before,
  word_same last 1 (with_word (last + 5) given before),
)

pub name_has :
    (last serial signature mark : ℕ) (before : Told) →
    HasName (name_told last serial signature mark before) last serial signature
name_has last serial signature mark before =
    let w5 : Told = with_word (last + 5) 1 before in
    let w4 : Told = with_word (last + 4) 0 w5 in
    let w3 : Told = with_word (last + 3) (serial % 2 ^ 32) w4 in
    let w2 : Told = with_word (last + 2) (serial / 2 ^ 32) w3 in
    let w1 : Told = with_word (last + 1) signature w2 in
    record {
      number = word_other last mark (last + 1) w1 (λ e. omega (arith, e)) ∙ word_same (last + 1) signature w2;
      high = word_other last mark (last + 2) w1 (λ e. omega (arith, e))
          ∙ word_other (last + 1) signature (last + 2) w2 (λ e. omega (arith, e))
          ∙ word_same (last + 2) (serial / 2 ^ 32) w3;
      low = word_other last mark (last + 3) w1 (λ e. omega (arith, e))
          ∙ word_other (last + 1) signature (last + 3) w2 (λ e. omega (arith, e))
          ∙ word_other (last + 2) (serial / 2 ^ 32) (last + 3) w3 (λ e. omega (arith, e))
          ∙ word_same (last + 3) (serial % 2 ^ 32) w4;
      second = word_other last mark (last + 4) w1 (λ e. omega (arith, e))
          ∙ word_other (last + 1) signature (last + 4) w2 (λ e. omega (arith, e))
          ∙ word_other (last + 2) (serial / 2 ^ 32) (last + 4) w3 (λ e. omega (arith, e))
          ∙ word_other (last + 3) (serial % 2 ^ 32) (last + 4) w4 (λ e. omega (arith, e))
          ∙ word_same (last + 4) 0 w5;
      kind = word_other last mark (last + 5) w1 (λ e. omega (arith, e))
          ∙ word_other (last + 1) signature (last + 5) w2 (λ e. omega (arith, e))
          ∙ word_other (last + 2) (serial / 2 ^ 32) (last + 5) w3 (λ e. omega (arith, e))
          ∙ word_other (last + 3) (serial % 2 ^ 32) (last + 5) w4 (λ e. omega (arith, e))
          ∙ word_other (last + 4) 0 (last + 5) w5 (λ e. omega (arith, e))
          ∙ word_same (last + 5) 1 before;
    }

pub name_mark :
    (last serial signature mark : ℕ) (before : Told) →
    name_told last serial signature mark before last ≡ Some mark
name_mark last serial signature mark before =
    word_same last mark (with_word (last + 1) signature (with_word (last + 2) (serial / 2 ^ 32)
    (with_word (last + 3) (serial % 2 ^ 32) (with_word (last + 4) 0 (with_word (last + 5) 1 before)))))

pub name_moves :
    {told told' : Told} {last serial signature : ℕ} → ((i : ℕ) → last ≤ i → told' i ≡ told i) →
    HasName told last serial signature → HasName told' last serial signature
name_moves {last = last} same h =
    record {
      kind = same (last + 5) (omega arith) ∙ h.kind;
      second = same (last + 4) (omega arith) ∙ h.second;
      low = same (last + 3) (omega arith) ∙ h.low;
      high = same (last + 2) (omega arith) ∙ h.high;
      number = same (last + 1) (omega arith) ∙ h.number;
    }

-- ---- a list

-- words below it and behind it
abbrev pub IsBeyond : (words many i : ℕ) → Type 0
IsBeyond words many i = (i < words) ⊎ (words + 6 * many ≤ i)

beyond_rest : (words many i : ℕ) → IsBeyond words (suc many) i → IsBeyond words many i
beyond_rest words many i (inl below) = inl below
beyond_rest words many i (inr above) = inr (omega (arith, above))

beyond_part : (words many i : ℕ) → IsBeyond words (suc many) i → IsOutside (words + 6 * many) i
beyond_part words many i (inl below) = inl (omega (arith, below))
beyond_part words many i (inr above) = inr (omega (arith, above))

pub list_other :
    (words i : ℕ) (ys : List Passing) (before : Told) → IsBeyond words (length ys) i →
    list_told words ys before i ≡ before i
list_other words i [] before out = refl
list_other words i (y ∷ ys) before out =
    list_other words i ys (part_told (words + 6 * length ys) y before) (beyond_rest words (length ys) i out)
    ∙ part_other (words + 6 * length ys) i y before (beyond_part words (length ys) i out)

pub bound_other :
    (words serials i : ℕ) (xs : List Parameter) (ys : List Passing) (told : Told) → IsBeyond words (length ys) i →
    bound_told words serials xs ys told i ≡ told i
bound_other words serials i [] ys told out = refl
bound_other words serials i (x ∷ xs) [] told out = refl
bound_other words serials i (x ∷ xs) (PassesCopy z ∷ ys) told out =
    bound_other words (serials + 1) i xs ys
    (name_told (words + 6 * length ys) (serials + 1) x.number 1 told) (beyond_rest words (length ys) i out)
    ∙ name_other (words + 6 * length ys) (serials + 1) x.number 1 i told (beyond_part words (length ys) i out)
bound_other words serials i (x ∷ xs) (PassesName serial signature ∷ ys) told out =
    bound_other words serials i xs ys told (beyond_rest words (length ys) i out)
