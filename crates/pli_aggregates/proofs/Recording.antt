-- Records of aggregates, read from memory, and where their leaves are.
use Rattle.std.proofs.Common.{◌≡◌, ℕ, ◌≤◌, ℤ, Bool, true, false, length, Option, Some, None, refl, ap, ◌∙◌, arith}
use Rattle.std.specs.Prelude.{nat_lt, if◌then◌else◌}
use Rattle.std.proofs.lemmas.Bool.Decides.{nat_tests}
use Rattle.pli_typing.specs.Signatures.{capped}
use Rattle.pli_meaning.specs.BasicValues.{Name}
use Rattle.pli_meaning.specs.Contents.{Shape, leaves_with}
use Rattle.pli_serving.specs.Aggregates.{Aggregate}
use Rattle.pli_serving.specs.Values.{leaf_place}
use Rattle.pli_signatures.specs.Whole.{leaf_in, place_in}
use Rattle.pli_aggregates.proofs.Parting.{as_many, got_leaf, got_past}

abbrev pub aggregate_by : Name → (signature : ℕ) → Shape → (place : ℕ) → (extent : ℤ) → Aggregate
aggregate_by n signature s place extent = record { name = n; signature = signature; shape = s; subscripts_place = place; extent = extent }

-- ---- leaves that aren't there

past_all : (s : Shape) (leaf : ℕ) (z : ℤ) → length s.signature.leaves ≤ leaf → leaf_in (Some s) leaf z ≡ None
past_all s leaf z h = let many = as_many z s in got_leaf (leaves_with z s) leaf (omega (arith, many, h))

pub no_place : (o : Option Shape) (leaf : ℕ) (x z : ℤ) → None ≡ place_in o leaf x → leaf_in o leaf z ≡ None
no_place None leaf x z e = refl
no_place (Some s) leaf x z e = go (nat_lt leaf (length s.signature.leaves)) refl e
  where
    go : (b : Bool) → nat_lt leaf (length s.signature.leaves) ≡ b → None ≡ (if b then Some (capped (leaf_place (leaves_with x s) leaf)) else None) → leaf_in (Some s) leaf z ≡ None
    go true t e = cc
    go false t e = let past : length s.signature.leaves ≤ leaf = grind (arith, nat_tests, t) in past_all s leaf z past

pub no_other : (o : Option Shape) (leaf : ℕ) (x z : ℤ) → leaf_in o leaf x ≡ None → leaf_in o leaf z ≡ None
no_other None leaf x z e = refl
no_other (Some s) leaf x z e =
    let many = as_many x s in
    let past = got_past (leaves_with x s) leaf e in
    past_all s leaf z (omega (arith, many, past))

pub place_known : (o : Option Shape) (leaf place : ℕ) (z : ℤ) (s : Shape) → Some place ≡ place_in o leaf z → o ≡ Some s → place ≡ capped (leaf_place (leaves_with z s) leaf)
place_known o leaf place z s e h = go (nat_lt leaf (length s.signature.leaves)) (e ∙ ap (λ t. place_in t leaf z) h)
  where
    go : (b : Bool) → Some place ≡ (if b then Some (capped (leaf_place (leaves_with z s) leaf)) else None) → place ≡ capped (leaf_place (leaves_with z s) leaf)
    go true e = cc
    go false e = cc
