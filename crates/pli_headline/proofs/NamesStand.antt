-- The name of a variable in memory, before its data: what stores and written bytes leave of it.
use Rattle.std.proofs.Common.{◌≡◌, ℕ, suc, ◌+◌, ◌/◌, ◌%◌, ◌^◌, ◌<◌, ◌≤◌, ◌⊎◌, inl, inr, List, length, ap, ◌∙◌, subst, arith}
use Rattle.std.specs.Prelude.{slice_index}
use Rattle.std.proofs.lemmas.Bool.{cases_lt}
use Rattle.rv_meaning.specs.Memory.{load, store}
use Rattle.rv_meaning.proofs.MemoryLaws.{load-store_other}
use Rattle.pli_serving.specs.Bytes.{with_bytes, name_bytes}
use Rattle.pli_meaning.specs.BasicValues.{VariableName}
use Rattle.pli_headline.proofs.WrittenBytes.{load-with_other, byte-with_inside}
use Rattle.pli_headline.proofs.VariablePlaces.{Sizes, room_of, number_place, room_next}

-- the name of the variable of a serial number stands at a place
pub record NameThere (m : List ℕ) (at serial : ℕ) : Type 0 where
  pub kind : load 4 m at ≡ 1
  pub serial_is : load 8 m (at + 8) ≡ serial

-- a store elsewhere
pub name_other : (n : ℕ) (m : List ℕ) (at v from serial : ℕ) → (from + 16 ≤ at) ⊎ (at + n ≤ from) → NameThere m from serial → NameThere (store n m at v) from serial
name_other n m at v from serial (inl h) o =
    record {
      kind = load-store_other n 4 m at v from (inl (omega (arith, h))) ∙ o.kind;
      serial_is = load-store_other n 8 m at v (from + 8) (inl (omega (arith, h))) ∙ o.serial_is;
    }
name_other n m at v from serial (inr h) o =
    record {
      kind = load-store_other n 4 m at v from (inr h) ∙ o.kind;
      serial_is = load-store_other n 8 m at v (from + 8) (inr (omega (arith, h))) ∙ o.serial_is;
    }

-- bytes that are written elsewhere
pub name_beside : (bytes m : List ℕ) (at from serial : ℕ) → at + length bytes ≤ length m → (from + 16 ≤ at) ⊎ (at + length bytes ≤ from) → NameThere m from serial → NameThere (with_bytes bytes at m) from serial
name_beside bytes m at from serial room (inl h) o =
    record {
      kind = load-with_other 4 bytes m at from room (inl (omega (arith, h))) ∙ o.kind;
      serial_is = load-with_other 8 bytes m at (from + 8) room (inl (omega (arith, h))) ∙ o.serial_is;
    }
name_beside bytes m at from serial room (inr h) o =
    record {
      kind = load-with_other 4 bytes m at from room (inr h) ∙ o.kind;
      serial_is = load-with_other 8 bytes m at (from + 8) room (inr (omega (arith, h))) ∙ o.serial_is;
    }

name_by : (m : List ℕ) (at serial : ℕ) → serial < 2 ^ 32 → ((i : ℕ) → i < 16 → slice_index m (at + i) ≡ slice_index (name_bytes (VariableName serial)) i) → NameThere m at serial
name_by m at serial few bytes =
    let at0 : at ≡ at + 0 = omega arith in
    let at1 : suc at ≡ at + 1 = omega arith in
    let at2 : suc (suc at) ≡ at + 2 = omega arith in
    let at3 : suc (suc (suc at)) ≡ at + 3 = omega arith in
    let b0 : slice_index m at ≡ 1 = ap (slice_index m) at0 ∙ bytes 0 (omega arith) in
    let b1 : slice_index m (suc at) ≡ 0 = ap (slice_index m) at1 ∙ bytes 1 (omega arith) in
    let b2 : slice_index m (suc (suc at)) ≡ 0 = ap (slice_index m) at2 ∙ bytes 2 (omega arith) in
    let b3 : slice_index m (suc (suc (suc at))) ≡ 0 = ap (slice_index m) at3 ∙ bytes 3 (omega arith) in
    let p = at + 8 in
    let n1 : suc p ≡ at + 9 = omega arith in
    let n2 : suc (suc p) ≡ at + 10 = omega arith in
    let n3 : suc (suc (suc p)) ≡ at + 11 = omega arith in
    let n4 : suc (suc (suc (suc p))) ≡ at + 12 = omega arith in
    let n5 : suc (suc (suc (suc (suc p)))) ≡ at + 13 = omega arith in
    let n6 : suc (suc (suc (suc (suc (suc p))))) ≡ at + 14 = omega arith in
    let n7 : suc (suc (suc (suc (suc (suc (suc p)))))) ≡ at + 15 = omega arith in
    let high : serial / 256 / 256 / 256 / 256 ≡ 0 = omega (arith, few) in
    let c0 : slice_index m p ≡ serial % 256 = bytes 8 (omega arith) in
    let c1 : slice_index m (suc p) ≡ serial / 256 % 256 = ap (slice_index m) n1 ∙ bytes 9 (omega arith) in
    let c2 : slice_index m (suc (suc p)) ≡ serial / 256 / 256 % 256 = ap (slice_index m) n2 ∙ bytes 10 (omega arith) in
    let c3 : slice_index m (suc (suc (suc p))) ≡ serial / 256 / 256 / 256 % 256 = ap (slice_index m) n3 ∙ bytes 11 (omega arith) in
    let c4 : slice_index m (suc (suc (suc (suc p)))) ≡ 0 = ap (slice_index m) n4 ∙ bytes 12 (omega arith) ∙ ap (λ u. u % 256) high in
    let c5 : slice_index m (suc (suc (suc (suc (suc p))))) ≡ 0 = ap (slice_index m) n5 ∙ bytes 13 (omega arith) ∙ ap (λ u. u / 256 % 256) high in
    let c6 : slice_index m (suc (suc (suc (suc (suc (suc p)))))) ≡ 0 = ap (slice_index m) n6 ∙ bytes 14 (omega arith) ∙ ap (λ u. u / 256 / 256 % 256) high in
    let c7 : slice_index m (suc (suc (suc (suc (suc (suc (suc p))))))) ≡ 0 = ap (slice_index m) n7 ∙ bytes 15 (omega arith) ∙ ap (λ u. u / 256 / 256 / 256 % 256) high in
    record {
      kind = omega (arith, b0, b1, b2, b3);
      serial_is = omega (arith, c0, c1, c2, c3, c4, c5, c6, c7, few);
    }

-- a name is written
pub name_written : (m : List ℕ) (at serial : ℕ) → serial < 2 ^ 32 → at + 16 ≤ length m → NameThere (with_bytes (name_bytes (VariableName serial)) at m) at serial
name_written m at serial few room =
    name_by (with_bytes (name_bytes (VariableName serial)) at m) at serial few (λ i inside. byte-with_inside (name_bytes (VariableName serial)) m at i room inside)

-- where the name of the jth variable stands, from the frame
abbrev pub name_place : Sizes → ℕ → ℕ
name_place s j = 144 + room_of s j

apart_by : (s : Sizes) (at i j d n : ℕ) → 16 + (d + n) ≤ s.of j → (i < j) ⊎ (j ≤ i) → (j < i) ⊎ (i ≤ j) → (at + name_place s i + 16 ≤ at + number_place s j + d) ⊎ (at + number_place s j + d + n ≤ at + name_place s i)
apart_by s at i j d n fits (inl less) other = let r = room_next s i j less in inl (omega (arith, r))
apart_by s at i j d n fits (inr most) (inl more) = let r = room_next s j i more in inr (omega (arith, r, fits))
apart_by s at i j d n fits (inr most) (inr least) =
    let same : i ≡ j = omega (arith, most, least) in
    let r = ap (room_of s) same in
    inl (omega (arith, r))

-- no data meets a name
pub name_apart : (s : Sizes) (at i j d n : ℕ) → 16 + (d + n) ≤ s.of j → (at + name_place s i + 16 ≤ at + number_place s j + d) ⊎ (at + number_place s j + d + n ≤ at + name_place s i)
name_apart s at i j d n fits = apart_by s at i j d n fits (cases_lt i j) (cases_lt j i)

-- a number of at most four bytes is stored
pub name_kept : (n : ℕ) (m : List ℕ) (s : Sizes) (at v i j d p : ℕ) → p ≡ at + number_place s j + d → n ≤ 4 → 20 + d ≤ s.of j → NameThere m (at + name_place s i) (suc i) → NameThere (store n m p v) (at + name_place s i) (suc i)
name_kept n m s at v i j d p here few fits o =
    name_other n m p v (at + name_place s i) (suc i) (subst (λ u. (at + name_place s i + 16 ≤ u) ⊎ (u + n ≤ at + name_place s i)) (back here) (name_apart s at i j d n (omega (arith, few, fits)))) o
  where
    back : p ≡ at + number_place s j + d → at + number_place s j + d ≡ p
    back e = omega (arith, e)

-- bytes of data are written
pub name_untouched : (bytes m : List ℕ) (s : Sizes) (at i j d p : ℕ) → p ≡ at + number_place s j + d → p + length bytes ≤ length m → 16 + (d + length bytes) ≤ s.of j → NameThere m (at + name_place s i) (suc i) → NameThere (with_bytes bytes p m) (at + name_place s i) (suc i)
name_untouched bytes m s at i j d p here room fits o =
    name_beside bytes m p (at + name_place s i) (suc i) room (subst (λ u. (at + name_place s i + 16 ≤ u) ⊎ (u + length bytes ≤ at + name_place s i)) (back here) (name_apart s at i j d (length bytes) fits)) o
  where
    back : p ≡ at + number_place s j + d → at + number_place s j + d ≡ p
    back e = omega (arith, e)
