-- What is read from the words of a table, and the words behind; none where they begin with nothing of the kind.
use Rattle.std.specs.Prelude.{◌≡◌, ℕ, zero, suc, ◌+◌, ◌/◌, List, [], ◌∷◌, length, Bool, ◌&&◌, ◌==◌, nat_le, if◌then◌else◌, Option, Some, None}
use Rattle.rv_meaning.specs.declared.image.TableKind.{TableKind}
use Rattle.rv_meaning.specs.declared.image.TableKind.TheVariants as K
use Rattle.rv_meaning.specs.Images.{words_at}
use Rattle.rv_meaning.specs.Tables.{Shape, size_fits, pair_fits, is_run_time, stands, head_fits}

infixl 10 ◌>>=◌
abbrev pub ◌>>=◌ : {A B : Type 0} → Option A → (A → Option B) → Option B
(Some x) >>= f = f x
None >>= f = None

-- what a function returned, seen by view, is what reading gives
abbrev pub Gives : {X Y : Type 0} → (X → Y) → Option X → Option Y → Type 0
Gives view (Some x) read = read ≡ Some (view x)
Gives view None read = read ≡ None

-- the words in bytes
unfoldable pub words_of : List ℕ → List ℕ
words_of bytes = words_at (length bytes / 4) bytes 0

abbrev pub word_from : List ℕ → Option (ℕ × List ℕ)
word_from [] = None
word_from (w ∷ ws) = Some (w, ws)

-- whether a pair of bounds is a run-time one
unfoldable pub pair_from : List ℕ → Option (Bool × List ℕ)
pair_from ws = do
  lower ← word_from ws
  upper ← word_from lower.1
  if pair_fits lower.0 upper.0 then Some (is_run_time lower.0 upper.0, upper.1) else None

-- how many of n pairs are
unfoldable pub pairs_from : ℕ → List ℕ → Option (ℕ × List ℕ)
pairs_from zero ws = Some (0, ws)
pairs_from (suc n) ws = do
  pair ← pair_from ws
  others ← pairs_from n pair.1
  Some ((if pair.0 then 1 else 0) + others.0, others.1)

abbrev pub kind_from : ℕ → Option TableKind
kind_from n =
    if n == 1 then Some K.Fixed
    else if n == 2 then Some K.Character
    else if n == 3 then Some K.Varying
    else if n == 4 then Some K.Bit
    else if n == 5 then Some K.Pointer
    else if n == 6 then Some K.Offset
    else if n == 7 then Some K.Area
    else None

unfoldable pub leaf_from : List ℕ → Option (Shape × List ℕ)
leaf_from ws = do
  number ← word_from ws
  size ← word_from number.1
  dimensions ← word_from size.1
  kind ← kind_from number.0
  pairs ← (if size_fits kind size.0 && nat_le dimensions.0 8 then pairs_from dimensions.0 dimensions.1 else None)
  Some (record { kind = kind; size = size.0; dimensions = dimensions.0; run_time = pairs.0 }, pairs.1)

-- what stands behind the leaves that are left of so many, from a place on
unfoldable pub leaves_from : (left count refer place : ℕ) → List ℕ → Option (List ℕ)
leaves_from zero count refer place ws = Some ws
leaves_from (suc left) count refer place ws = do
  leaf ← leaf_from ws
  if stands count refer place leaf.0 then leaves_from left count refer (suc place) leaf.1 else None

unfoldable pub signature_from : List ℕ → Option (List ℕ)
signature_from ws = do
  class ← word_from ws
  count ← word_from class.1
  refer ← word_from count.1
  if head_fits class.0 count.0 refer.0 then leaves_from count.0 count.0 refer.0 0 refer.1 else None
