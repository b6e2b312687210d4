-- Numbers of fewer bits on their way out of a function: what the class says of them.
use Rattle.std.proofs.Common.{◌≡◌, ◌⊎◌, inl, inr, ℕ, ◌<◌, true, false, refl}
use Rattle.std.specs.Prelude.{◌&&◌, ◌==◌, nat_lt}
use Rattle.std.proofs.lemmas.Bool.{and_parts, ltb-true}
use Rattle.pli_typing.specs.TypedTree as Y
use Rattle.number_runs.specs.Narrow.{has_precision}
use Rattle.number_runs.specs.Numbers.{Scope, is_fixed, is_number}
use Rattle.number_runs.specs.Statements.{is_fewer, is_stored}
use Rattle.number_runs.proofs.Narrow.{precision_is}

pub record IsFewer (s : Scope) (type : Y.LeafType) (precision : ℕ) (x : Y.Number) : Type 0 where
  pub may : s.overflows ≡ true
  pub less : precision < 31
  pub type_is : type ≡ Y.FixedLeaf precision
  pub number : is_number s x ≡ true

pub fewer_parts :
    (s : Scope) (type : Y.LeafType) (precision : ℕ) (x : Y.Number) →
    is_fewer s type (Y.StoredNumber precision x) ≡ true → IsFewer s type precision x
fewer_parts s type precision x h =
    let typed = has_precision precision type in
    let a = and_parts s.overflows (nat_lt precision 31 && (typed && is_number s x)) h in
    let b = and_parts (nat_lt precision 31) (typed && is_number s x) a.1 in
    let c = and_parts typed (is_number s x) b.1 in
    record {
      may = a.0;
      less = ltb-true precision 31 b.0;
      type_is = precision_is precision type c.0;
      number = c.1;
    }

-- what is returned is a number
pub record IsReturned (s : Scope) (source : Y.Stored) : Type 0 where
  pub precision : ℕ
  pub number : Y.Number
  pub is : source ≡ Y.StoredNumber precision number
  pub known : is_number s number ≡ true

pub returned_is :
    (s : Scope) (type : Y.LeafType) (source : Y.Stored) →
    ((is_fixed type && is_stored s source) ≡ true) ⊎ (is_fewer s type source ≡ true) → IsReturned s source
returned_is s type (Y.StoredNumber precision x) h =
    record { precision = precision; number = x; is = refl; known = by h }
  where
    by :
        ((is_fixed type && is_stored s (Y.StoredNumber precision x)) ≡ true)
        ⊎ (is_fewer s type (Y.StoredNumber precision x) ≡ true) → is_number s x ≡ true
    by (inl one) =
        (and_parts (precision == 31) (is_number s x)
        (and_parts (is_fixed type) (is_stored s (Y.StoredNumber precision x)) one).1).1
    by (inr one) = (fewer_parts s type precision x one).number
returned_is s type (Y.StoredText x) (inl h) = absurd (cc (and_parts (is_fixed type) false h).1)
returned_is s type (Y.StoredText x) (inr h) = absurd (cc h)
returned_is s type (Y.StoredBit x) (inl h) = absurd (cc (and_parts (is_fixed type) false h).1)
returned_is s type (Y.StoredBit x) (inr h) = absurd (cc h)
returned_is s type (Y.StoredPointer x) (inl h) = absurd (cc (and_parts (is_fixed type) false h).1)
returned_is s type (Y.StoredPointer x) (inr h) = absurd (cc h)
returned_is s type (Y.StoredOffset x) (inl h) = absurd (cc (and_parts (is_fixed type) false h).1)
returned_is s type (Y.StoredOffset x) (inr h) = absurd (cc h)
