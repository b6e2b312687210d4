-- Names word by word, as code copies and compares them; and a generation that was placed is there.
use Rattle.std.proofs.Common.{◌≡◌, ℕ, ◌+◌, ◌/◌, ◌%◌, ◌^◌, ◌<◌, List, Some, refl, ap, ◌∙◌, arith}
use Rattle.std.proofs.lemmas.Bool.Decides.{nat_tests}
use Rattle.std.specs.Prelude.{◌==◌, ◌&&◌}
use Rattle.rv_meaning.specs.Memory.{load}
use Rattle.pli_typing.specs.Signatures.{Pointer}
use Rattle.pli_meaning.specs.BasicValues.{Name, NullName, VariableName, BasedName, BasicPointer}
use Rattle.pli_meaning.specs.Contents.{same_name, Generation, with_placed}
use Rattle.pli_meaning.specs.StorageState.{State, AreaContents, area_at, generation_at, with_area}
use Rattle.area_keeper.specs.Keeper.{Keeper}
use Rattle.area_keeper.specs.KeeperLaws.{Keeps}
use Rattle.area_keeper.specs.KeptAreas.{part}
use Rattle.pli_serving.specs.Bytes.{number_bytes, name_bytes}
use Rattle.storage_relation.proofs.Begun.{area_ordered}
use Rattle.storage_relation.proofs.NamesAfter.{allocated_found}
use Rattle.storage_relation.proofs.Holders.{area_held}
use Rattle.storage_relation.proofs.Named.{area_holder}
use Rattle.storage_relation.proofs.Values.{number_read, sub}
use Rattle.storage_relation.specs.Standing.{AreaOf}
use Rattle.storage_relation.specs.Stored.{Places, taken_as, slice, StoredAs, with_placed_in}
use Rattle.storage_relation.specs.Telling.{IsName, Tells, kind_word, offset_word_of, serial_word, HasWords}

low_bytes : (s : ℕ) → number_bytes 4 s ≡ number_bytes 4 (s % 2 ^ 32)
low_bytes s =
    let a : s % 256 ≡ s % 2 ^ 32 % 256 = omega arith in
    let b : s / 256 % 256 ≡ s % 2 ^ 32 / 256 % 256 = omega arith in
    let c : s / 256 / 256 % 256 ≡ s % 2 ^ 32 / 256 / 256 % 256 = omega arith in
    let d : s / 256 / 256 / 256 % 256 ≡ s % 2 ^ 32 / 256 / 256 / 256 % 256 = omega arith in
    cc

by_bytes :
    (n : Name) (at : ℕ) (m : List ℕ) → IsName n → part at 16 m ≡ name_bytes n →
    part 0 4 (name_bytes n) ≡ number_bytes 4 (kind_word n) →
    part 4 4 (name_bytes n) ≡ number_bytes 4 (offset_word_of n) →
    part 8 4 (name_bytes n) ≡ number_bytes 4 (serial_word n) →
    part 12 4 (name_bytes n) ≡ number_bytes 4 (serial_word n / 256 / 256 / 256 / 256) → kind_word n < 3 →
    offset_word_of n < 2 ^ 32 → serial_word n < 2 ^ 64 → HasWords n at m
by_bytes n at m h e a b c d few small serial =
    let z : at ≡ at + 0 = omega arith in
    let w = serial_word n in
    let over : w / 256 / 256 / 256 / 256 ≡ w / 2 ^ 32 = omega arith in
    record {
      kind = ap (load 4 m) z ∙ number_read 4 (kind_word n) (at + 0) m (sub at 16 0 4 m (name_bytes n) e (omega arith)
          ∙ a) (omega (arith, few));
      offset = number_read 4 (offset_word_of n) (at + 4) m (sub at 16 4 4 m (name_bytes n) e (omega arith) ∙ b)
          (omega (arith, small));
      low = number_read 4 (w % 2 ^ 32) (at + 8) m (sub at 16 8 4 m (name_bytes n) e (omega arith) ∙ c ∙ low_bytes w)
          (omega arith);
      high =
          number_read 4 (w / 256 / 256 / 256 / 256) (at + 12) m (sub at 16 12 4 m (name_bytes n) e (omega arith) ∙ d)
          (omega (arith, serial)) ∙ over;
    }

pub name_words : (n : Name) (at : ℕ) (m : List ℕ) → Tells Pointer (BasicPointer n) at m → HasWords n at m
name_words NullName at m is =
    by_bytes NullName at m tt is.tells refl refl refl refl (omega arith) (omega arith) (omega arith)
name_words (VariableName serial) at m is =
    by_bytes (VariableName serial) at m is.fits is.tells refl refl refl refl (omega arith) (omega arith) is.fits
name_words (BasedName area offset) at m is =
    by_bytes (BasedName area offset) at m is.fits is.tells refl refl refl refl (omega arith) is.fits.1 is.fits.0

-- they are the same where the names are
pub same_words :
    (a b : Name) → same_name a b ≡ (kind_word a == kind_word b)
    && ((offset_word_of a == offset_word_of b) && ((serial_word a % 2 ^ 32 == serial_word b % 2 ^ 32)
    && (serial_word a / 2 ^ 32 == serial_word b / 2 ^ 32)))
same_words NullName NullName = refl
same_words NullName (VariableName s) = refl
same_words NullName (BasedName b p) = refl
same_words (VariableName s) NullName = refl
same_words (VariableName s) (VariableName t) = grind (arith, nat_tests)
same_words (VariableName s) (BasedName b p) = refl
same_words (BasedName a o) NullName = refl
same_words (BasedName a o) (VariableName t) = refl
same_words (BasedName a o) (BasedName b p) = grind (arith, nat_tests)

-- ---- a generation that was placed is what its name names

pub placed_named :
    (k : Keeper) → Keeps k → (π : Places) (s : State) (m : List ℕ) (n o : ℕ) (g : Generation) (a : AreaContents) →
    area_at s n ≡ Some a →
    StoredAs k π (with_area n (with_placed (record { offset = o; generation = g })) s) m →
    generation_at (with_area n (with_placed (record { offset = o; generation = g })) s) (BasedName n o) ≡ Some g
placed_named k keeps π s m n o g a e is =
    let new = with_placed_in a (with_placed (record { offset = o; generation = g }) a.placed) in
    allocated_found s n o g a e
    (area_ordered k π.signatures keeps new (taken_as k π n (slice k π n (AreaOf new) m))
    (is.stands n (AreaOf new) (area_held s n (with_placed (record { offset = o; generation = g })) a
    (area_holder s n a e))))
