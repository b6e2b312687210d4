-- Values that were taken are read again as they were.
use Rattle.std.proofs.Common.{◌≡◌, ℕ, ◌^◌, ◌<◌, ◌≤◌, Bool, true, false, List, Some, None, sym, ap, ◌∙◌, arith}
use Rattle.std.specs.Prelude.{◌==◌, nat_le, unwrap_or, if◌then◌else◌}
use Rattle.std.specs.Int.{w16, cast_signed}
use Rattle.std.proofs.lemmas.Bool.Decides.{nat_tests}
use Rattle.rv_meaning.specs.Memory.{load}
use Rattle.rv_meaning.specs.Words.{signed, word}
use Rattle.pli_typing.specs.Signatures.{Fixed, Bit, Pointer, Offset}
use Rattle.pli_meaning.specs.BasicValues.{BasicValue, BasicNumber, BasicBit, BasicPointer, BasicOffset, Name, NullName}
use Rattle.pli_meaning.specs.Unreachable.{unreachable_name}
use Rattle.pli_serving.specs.Bytes.{name_at, number_bytes, offset_of}
use Rattle.pli_serving.specs.Values.{value_at}
use Rattle.pli_parts.specs.Putting.{AreSmall, again}
use Rattle.pli_parts.proofs.RoundTrips.{bit_again, large_again, name_again, offset_again, small_again}

abbrev number_read : (t : Bool) → (at : ℕ) → List ℕ → BasicValue
number_read t at m = BasicNumber (if t then cast_signed w16 (load 2 m at) else signed (load 4 m at))

abbrev number_again : (t : Bool) → (at : ℕ) → List ℕ → BasicValue
number_again t at m = number_read t 0 (number_bytes (if t then 2 else 4) (word (if t then cast_signed w16 (load 2 m at) else signed (load 4 m at))))

pub small_read : (p at h : ℕ) (m : List ℕ) → p ≤ 15 → h < 2 ^ 16 → h ≡ load 2 m at → BasicNumber (cast_signed w16 h) ≡ again (Fixed p) (value_at (Fixed p) at m)
small_read p at h m s l e = by_test (nat_le p 15) (grind (arith, nat_tests, s))
  where
    by_test : (t : Bool) → t ≡ true → BasicNumber (cast_signed w16 h) ≡ number_again t at m
    by_test true t = sym (ap BasicNumber (small_again h l)) ∙ ap (λ k. BasicNumber (cast_signed w16 (load 2 (number_bytes 2 (word (cast_signed w16 k))) 0))) e
    by_test false t = cc

pub large_read : (p at w : ℕ) (m : List ℕ) → 16 ≤ p → w < 2 ^ 32 → w ≡ load 4 m at → BasicNumber (signed w) ≡ again (Fixed p) (value_at (Fixed p) at m)
large_read p at w m s l e = by_test (nat_le p 15) (grind (arith, nat_tests, s))
  where
    by_test : (t : Bool) → t ≡ false → BasicNumber (signed w) ≡ number_again t at m
    by_test true t = cc
    by_test false t = sym (ap BasicNumber (large_again w l)) ∙ ap (λ k. BasicNumber (signed (load 4 (number_bytes 4 (word (signed k))) 0))) e

pub offset_read : (at w : ℕ) (m : List ℕ) → w < 2 ^ 32 → w ≡ load 4 m at → BasicOffset (offset_of w) ≡ again Offset (value_at Offset at m)
offset_read at w m l e = sym (ap BasicOffset (offset_again w l)) ∙ ap (λ k. again Offset (BasicOffset (offset_of k))) e

pub bit_read : (b : Bool) (at : ℕ) (m : List ℕ) → b ≡ (load 1 m at == 1) → BasicBit b ≡ again Bit (value_at Bit at m)
bit_read b at m e = ap BasicBit e ∙ sym (ap BasicBit (bit_again (load 1 m at == 1)))

pub name_read : (n : Name) (at : ℕ) (m : List ℕ) → AreSmall n → Some n ≡ name_at at m → BasicPointer n ≡ again Pointer (value_at Pointer at m)
name_read n at m s e =
    sym (ap (λ o. BasicPointer (unwrap_or o unreachable_name)) (name_again n s))
    ∙ ap (λ o. again Pointer (BasicPointer (unwrap_or o unreachable_name))) e

pub no_name_read : (at : ℕ) (m : List ℕ) → None ≡ name_at at m → BasicPointer NullName ≡ again Pointer (value_at Pointer at m)
no_name_read at m e = ap (λ o. again Pointer (BasicPointer (unwrap_or o unreachable_name))) e
