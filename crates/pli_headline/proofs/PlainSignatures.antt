-- Signatures of variables in the table: those that it has stay, and all of them are those of scalars, texts and arrays.
use Rattle.std.proofs.Common.{◌≡◌, ◌⊎◌, inl, inr, List, [], ◌∷◌, Bool, true, false, ap}
use Rattle.std.specs.Prelude.{cond}
use Rattle.rv_meaning.specs.Tables.{TableSignature}
use Rattle.pli_typing.specs.TypedTree as Y
use Rattle.pli_coding.specs.SignatureTable.{signature_of, same_signature, with_signature, with_signatures}
use Rattle.pli_headline.specs.ProvedSoFar.{array_variable, ArePlain, IsHeld, Kind}

abbrev pub kind_signature : Kind → TableSignature
kind_signature k = signature_of (array_variable k.type k.bounds [])

pub record IsKindSignature (g : TableSignature) : Type 0 where
  pub kind : Kind
  pub held : IsHeld kind.type kind.bounds
  pub is : g ≡ kind_signature kind

abbrev pub AreKinds : List TableSignature → Type 0
AreKinds [] = Unit {0}
AreKinds (g ∷ gs) = IsKindSignature g × AreKinds gs

-- ---- what the table has

abbrev pub HasSignature : TableSignature → List TableSignature → Type 0
HasSignature g [] = ⊥
HasSignature g (h ∷ hs) = (g ≡ h) ⊎ HasSignature g hs

with_keeps : (f g : TableSignature) (table : List TableSignature) → HasSignature g table → HasSignature g (with_signature f table)
with_keeps f g [] has = absurd has
with_keeps f g (h ∷ hs) has = by_test (same_signature f h) has (with_keeps f g hs)
  where
    by_test : (t : Bool) → (g ≡ h) ⊎ HasSignature g hs → (HasSignature g hs → HasSignature g (with_signature f hs)) → HasSignature g (cond t (h ∷ hs) (h ∷ with_signature f hs))
    by_test true has more = has
    by_test false (inl e) more = inl e
    by_test false (inr k) more = inr (more k)

pub all_keep : (ds : List Y.DeclaredVariable) (g : TableSignature) (table : List TableSignature) → HasSignature g table → HasSignature g (with_signatures ds table)
all_keep [] g table has = has
all_keep (d ∷ ds) g table has = all_keep ds g (with_signature (signature_of d) table) (with_keeps (signature_of d) g table has)

-- a table that has the signatures of all these
abbrev pub HasAll : List Y.DeclaredVariable → List TableSignature → Type 0
HasAll [] table = Unit {0}
HasAll (d ∷ ds) table = HasSignature (signature_of d) table × HasAll ds table

-- ---- all of them

with_kind : (g : TableSignature) (table : List TableSignature) → IsKindSignature g → AreKinds table → AreKinds (with_signature g table)
with_kind g [] is are = (is, tt)
with_kind g (h ∷ hs) is are = by_test (same_signature g h) (with_kind g hs is are.1)
  where
    by_test : (t : Bool) → AreKinds (with_signature g hs) → AreKinds (cond t (h ∷ hs) (h ∷ with_signature g hs))
    by_test true more = are
    by_test false more = (are.0, more)

signature_plain : (d : Y.DeclaredVariable) (ds : List Y.DeclaredVariable) → ArePlain (d ∷ ds) → IsKindSignature (signature_of d)
signature_plain d ds are =
    record { kind = record { type = are.0.type; bounds = are.0.bounds }; held = are.0.held; is = ap signature_of are.0.is }

pub all_kinds : (ds : List Y.DeclaredVariable) (table : List TableSignature) → ArePlain ds → AreKinds table → AreKinds (with_signatures ds table)
all_kinds [] table are has = has
all_kinds (d ∷ ds) table are has =
    all_kinds ds (with_signature (signature_of d) table) are.1 (with_kind (signature_of d) table (signature_plain d ds are) has)
