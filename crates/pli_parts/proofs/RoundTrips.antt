-- Values that were taken as bytes, and are read again.
use Rattle.std.proofs.Common.{◌≡◌, ℕ, zero, suc, ◌+◌, ◌*◌, ◌/◌, ◌%◌, ◌^◌, ◌<◌, Bool, true, false, List, [], ◌∷◌, ◌++◌}
use Rattle.std.proofs.Common.{Some, None, refl, sym, ap, ap₂, ◌∙◌, arith, append-nil}
use Rattle.std.specs.Prelude.{◌==◌, slice_index, if◌then◌else◌}
use Rattle.std.specs.Int.{w16, w32, cast_signed}
use Rattle.std.proofs.lemmas.Bool.Decides.{nat_tests}
use Rattle.std.proofs.lemmas.Int.{of_z-to_z}
use Rattle.std.proofs.lemmas.Nat.{div_below}
use Rattle.rv_meaning.specs.Memory.{load}
use Rattle.rv_meaning.specs.Words.{flag, signed, word}
use Rattle.pli_meaning.specs.BasicValues.{Name, NullName, VariableName, BasedName}
use Rattle.pli_parts.specs.Putting.{AreSmall}
use Rattle.pli_serving.specs.Bytes.{name_at, name_bytes, name_of, null_offset, number_bytes, offset_of, offset_word}

-- ---- numbers of several bytes

behind_byte : (n at x : ℕ) (m : List ℕ) → load n (x ∷ m) (suc at) ≡ load n m at
behind_byte zero at x m = refl
behind_byte (suc n) at x m = ap (λ k. slice_index m at + 256 * k) (behind_byte n (suc at) x m)

whole : (v : ℕ) → v % 256 + 256 * (v / 256) ≡ v
whole v = omega arith

lower : (n v : ℕ) → v < 256 ^ suc n → v / 256 < 256 ^ n
lower n v h = div_below v 256 (256 ^ n) (omega arith) (omega (arith, h))

pub loaded : (n v : ℕ) (more : List ℕ) → v < 256 ^ n → load n (number_bytes n v ++ more) 0 ≡ v
loaded zero v more h = omega (arith, h)
loaded (suc n) v more h =
    ap (λ k. v % 256 + 256 * k) (behind_byte n 0 (v % 256) (number_bytes n (v / 256) ++ more) ∙ loaded n (v / 256) more (lower n v h))
    ∙ whole v

pub loaded_alone : (n v : ℕ) → v < 256 ^ n → load n (number_bytes n v) 0 ≡ v
loaded_alone n v h = ap (λ m. load n m 0) (sym (append-nil (number_bytes n v))) ∙ loaded n v [] h

-- the lowest half of a number with a sign
two_bytes : (v : ℕ) → load 2 (number_bytes 2 v) 0 ≡ v % 65536
two_bytes v = omega arith

half_again : (h : ℕ) → h < 2 ^ 16 → word (cast_signed w16 h) % 65536 ≡ h
half_again h l = grind (arith, l)

pub small_again : (h : ℕ) → h < 2 ^ 16 → cast_signed w16 (load 2 (number_bytes 2 (word (cast_signed w16 h))) 0) ≡ cast_signed w16 h
small_again h l = ap (cast_signed w16) (two_bytes (word (cast_signed w16 h)) ∙ half_again h l)

pub large_again : (w : ℕ) → w < 2 ^ 32 → signed (load 4 (number_bytes 4 (word (signed w))) 0) ≡ signed w
large_again w l = ap (λ k. signed (load 4 (number_bytes 4 k) 0)) (of_z-to_z w32 w l) ∙ ap signed (loaded_alone 4 w (omega (arith, l)))

pub bit_again : (b : Bool) → (load 1 (number_bytes 1 (flag b)) 0 == 1) ≡ b
bit_again true = refl
bit_again false = refl

by_offset : (w : ℕ) (t : Bool) → (w == null_offset) ≡ t → offset_word (if t then None else Some w) ≡ w
by_offset w true e = grind (arith, nat_tests, e)
by_offset w false e = refl

pub same_offset : (w : ℕ) → offset_word (offset_of w) ≡ w
same_offset w = by_offset w (w == null_offset) refl

pub offset_again : (w : ℕ) → w < 2 ^ 32 → offset_of (load 4 (number_bytes 4 (offset_word (offset_of w))) 0) ≡ offset_of w
offset_again w l = ap (λ k. offset_of (load 4 (number_bytes 4 k) 0)) (by_offset w (w == null_offset) refl) ∙ ap offset_of (loaded_alone 4 w (omega (arith, l)))

-- ---- names

pub name_again : (n : Name) → AreSmall n → name_at 0 (name_bytes n) ≡ Some n
name_again NullName h = refl
name_again (VariableName serial) h = ap (name_of 1 0) (loaded_alone 8 serial (omega (arith, h)))
name_again (BasedName area offset) h =
    ap₂ (name_of 2) (loaded 4 offset (number_bytes 8 area) (omega (arith, h.1))) (loaded_alone 8 area (omega (arith, h.0)))
