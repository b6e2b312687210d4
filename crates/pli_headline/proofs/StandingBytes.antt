-- Constant bytes and lists of INITIAL values that have places stand in memory while a block runs.
use Rattle.std.proofs.Common.{◌≡◌, ℕ, ◌+◌, ◌*◌, ◌^◌, ◌<◌, List, [], ◌∷◌, length, Option, Some, None, ◌∙◌, arith}
use Rattle.std.specs.Prelude.{slice_index}
use Rattle.rv_meaning.specs.declared.instr.Instr.{Instr}
use Rattle.rv_meaning.specs.Machine.{memory_size}
use Rattle.pli_language.specs.Tree as T
use Rattle.pli_serving.specs.ServiceState.{Services}
use Rattle.pli_serving.specs.InitialValues.{initial_values}
use Rattle.pli_coding.specs.Assembly.{Datum, ConstantBytes, DataPlace}
use Rattle.pli_coding.specs.StaticData.{PlacedDatum}
use Rattle.pli_coding.specs.Linking.{Links, place_of}
use Rattle.pli_headline.specs.ProvedSoFar.{Kind, AreConstants, IsHeld}
use Rattle.run_steps.specs.Engine.{Base, call_at}
use Rattle.run_steps.specs.Bodies.{Ground}
use Rattle.run_steps.specs.DataNamed.{IsPlaced, BytesStand}
use Rattle.pli_headline.proofs.ArrayMeant.{array_shape}
use Rattle.pli_headline.proofs.InitialRead.{start_datum, start_of, Reads}

abbrev pub IsPlacedIf : Option Datum → List PlacedDatum → Type 0
IsPlacedIf None ps = Unit {0}
IsPlacedIf (Some d) ps = IsPlaced d ps

-- in every memory of a ground, service 7 reads what a variable begins with
pub record Begins (links : Links) (code : List Instr) (g : Ground) (k : Kind) (items : List T.InitialItem) : Type 0 where
  pub small' : start_of links (start_datum items) < 2 ^ 32
  pub read : (t : ℕ → ℕ) (b : Base) (m : List ℕ) → g.memory t b m → length m ≡ memory_size → (v : Services) → initial_values (call_at code v m) (array_shape k.type k.bounds).signature.leaves (start_of links (start_datum items)) ≡ Some (items ∷ [])

-- where the links have them, in every memory of a ground
pub record ConstantsStand (links : Links) (code : List Instr) (g : Ground) : Type 0 where
  pub stand : (bytes : List ℕ) → IsPlaced (ConstantBytes bytes) links.data' → (t : ℕ → ℕ) (b : Base) (m : List ℕ) → g.memory t b m → BytesStand code m (place_of links (DataPlace (ConstantBytes bytes))) bytes
  pub begin : (k : Kind) (items : List T.InitialItem) → IsHeld k.type k.bounds → AreConstants k.type items → IsPlacedIf (start_datum items) links.data' → Begins links code g k items

-- they stand in the first memory
pub record DataStand (links : Links) (code : List Instr) (first : List ℕ) : Type 0 where
  pub bytes : (bytes : List ℕ) → IsPlaced (ConstantBytes bytes) links.data' → BytesStand code first (place_of links (DataPlace (ConstantBytes bytes))) bytes
  pub lists : (k : Kind) (items : List T.InitialItem) → IsHeld k.type k.bounds → AreConstants k.type items → IsPlacedIf (start_datum items) links.data' → Reads links code first k items

-- code and static data stay as they are in the first memory
abbrev pub KeepsStatics : Ground → (first : List ℕ) → Type 0
KeepsStatics g first =
    (t : ℕ → ℕ) (b : Base) (m : List ℕ) → g.memory t b m → (k : ℕ) → k < 7 * 2 ^ 20 → slice_index m k ≡ slice_index first k

pub constants_stand : (links : Links) (code : List Instr) (first : List ℕ) (g : Ground) → KeepsStatics g first → DataStand links code first → ConstantsStand links code g
constants_stand links code first g keeps stands =
    record {
      stand = λ bytes placed t b m o.
          let at = place_of links (DataPlace (ConstantBytes bytes)) in
          let s = stands.bytes bytes placed in
          let inside = s.inside in
          record {
            behind_code = s.behind_code;
            inside = inside;
            bytes_are = λ k below. keeps t b m o (at + k) (omega (arith, below, inside)) ∙ s.bytes_are k below;
          };
      begin = λ k items held begins placed.
          let r = stands.lists k items held begins placed in
          record { small' = r.small'; read = λ t b m o size v. r.read v m size (λ k below. keeps t b m o k below) };
    }

-- so do they where a ground keeps what another has
pub constants_moved : {links : Links} {code : List Instr} {g g' : Ground} (u : (ℕ → ℕ) → ℕ → ℕ) → ((t : ℕ → ℕ) (b : Base) (m : List ℕ) → g'.memory t b m → g.memory (u t) b m) → ConstantsStand links code g → ConstantsStand links code g'
constants_moved u kept c =
    record {
      stand = λ bytes placed t b m o. c.stand bytes placed (u t) b m (kept t b m o);
      begin = λ k items held begins placed.
          let r = c.begin k items held begins placed in
          record { small' = r.small'; read = λ t b m o size v. r.read (u t) b m (kept t b m o) size v };
    }
