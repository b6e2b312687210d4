-- What is told of a variable's INITIAL values stands in memory, and service 7 reads it.
use Rattle.std.proofs.Common.{◌≡◌, ℕ, suc, ◌+◌, ◌^◌, ◌<◌, ◌≤◌, List, [], ◌∷◌, length, Option, None, Some}
use Rattle.std.proofs.Common.{refl, sym, ap, ◌∙◌, subst, arith}
use Rattle.std.proofs.lemmas.List.{get_or-drop, length-drop}
use Rattle.std.specs.Prelude.{drop, slice_index, take}
use Rattle.rv_meaning.specs.declared.instr.Instr.{Instr}
use Rattle.rv_meaning.specs.Machine.{memory_size}
use Rattle.pli_typing.specs.TypedTree as Y
use Rattle.pli_meaning.specs.DeclaredShapes.{initial_of, shape_of}
use Rattle.pli_serving.specs.Finding.{Call}
use Rattle.pli_serving.specs.InitialValues.{Initial, initial_values, none_initial}
use Rattle.pli_coding.specs.Assembly.{ConstantBytes, Datum, InitialLeaf, InitialValues, NumberWord, StaticStorage}
use Rattle.pli_coding.specs.StaticData.{PlacedDatum, datum_bytes, datum_place}
use Rattle.pli_coding.specs.StaticForms.{initial_datum}
use Rattle.storage_relation.specs.Beginning.{AllStand, DatumStands, HasBytes, place_if}
use Rattle.storage_relation.specs.Served.{Holds}
use Rattle.storage_relation.proofs.BegunGenerations.{initial_same}
use Rattle.storage_relation.proofs.InitialLeaves.{initial_read}
use Rattle.activation_relation.specs.Layers.{Point, now, services_of}
use Rattle.run_steps.specs.Engine.{call_at}
use Rattle.program_runs.specs.Initial.{Begins, BeginsWith, BytesTold, ValuesTold}

front_bytes :
    (m bytes : List ℕ) → length bytes ≤ length m →
    ((n : ℕ) → n < length bytes → slice_index m n ≡ slice_index bytes n) → take (length bytes) m ≡ bytes
front_bytes m [] h same = refl
front_bytes [] (b ∷ bytes) h same = absurd (omega (arith, h))
front_bytes (a ∷ m) (b ∷ bytes) h same =
    ap (λ u. u ∷ take (length bytes) m) (same 0 (omega arith))
    ∙ ap (λ u. b ∷ u) (front_bytes m bytes (omega (arith, h)) (λ n below. same (suc n) (omega (arith, below))))

bytes_there :
    (code : List Instr) (p : Point) (m : List ℕ) (at : ℕ) (bytes : List ℕ) → length m ≡ memory_size →
    Holds (now p m) → BytesTold p.places.constants code at bytes → HasBytes (call_at code (services_of p) m) at bytes
bytes_there code p m at bytes long holds h =
    let inside = h.inside in
    let rest = length-drop at m in
    record {
      low = h.behind_code;
      high = omega (arith, inside);
      are = front_bytes (drop at m) bytes (omega (arith, inside, long, rest))
          (λ n below. get_or-drop at m n 0
          ∙ (holds.stored.told (at + n) (slice_index bytes n) (h.told n below)).2);
    }

all_there :
    (code : List Instr) (p : Point) (m : List ℕ) (all : List PlacedDatum) (start : ℕ) (ls : List InitialLeaf) →
    length m ≡ memory_size → Holds (now p m) → ValuesTold p.places.constants code all start ls →
    AllStand (call_at code (services_of p) m) all start ls
all_there code p m all start [] long holds h = tt
all_there code p m all start (l ∷ ls) long holds h = (
  (
    h.0.0,
    bytes_there code p m (datum_place (ConstantBytes l.values) all)
        (datum_bytes all (datum_place (ConstantBytes l.values) all) (ConstantBytes l.values)) long holds h.0.1,
  ),
  all_there code p m all start ls long holds h.1,
)

pub values_read :
    (code : List Instr) (p : Point) (all : List PlacedDatum) (d : Y.DeclaredVariable) (m : List ℕ) →
    Begins p.places.constants code all d → 0 < length code → length m ≡ memory_size → Holds (now p m) →
    initial_values (call_at code (services_of p) m) (shape_of [] d).signature.leaves (place_if all (initial_datum d))
    ≡ Some (initial_of d)
values_read code p all d m begins some long holds = by (initial_datum d) refl begins
  where
    c : Call
    c = call_at code (services_of p) m

    by :
        (o : Option Datum) → initial_datum d ≡ o → BeginsWith p.places.constants code all d o →
        initial_values c (shape_of [] d).signature.leaves (place_if all o) ≡ Some (initial_of d)
    by None e h = ap (λ (i : Initial). Some i) h
    by (Some (InitialValues ls)) e h =
        let leaves = (shape_of [] d).signature.leaves in
        let at = datum_place (InitialValues ls) all in
        let stands : DatumStands c all (Some (InitialValues ls)) = (
          bytes_there code p m at (datum_bytes all at (InitialValues ls)) long holds h.whole,
          all_there code p m all at ls long holds h.values,
        ) in
        ap (λ (o : Option Datum). initial_values c leaves (place_if all o)) (sym e)
        ∙ initial_read c all [] d (record {
          end = omega arith;
          code = omega (arith, some);
          few = h.few;
          given = h.given;
          stands = subst (DatumStands c all) (sym e) stands;
        })
        ∙ ap (λ (i : Initial). Some i) (initial_same (initial_of d) h.some)
    by (Some (ConstantBytes bytes)) e h = absurd h
    by (Some (NumberWord block index)) e h = absurd h
    by (Some (StaticStorage block index bytes)) e h = absurd h

-- the place is a word of memory
pub place_near :
    (constants : ℕ → Option ℕ) (code : List Instr) (all : List PlacedDatum) (d : Y.DeclaredVariable)
    (o : Option Datum) → BeginsWith constants code all d o → place_if all o < 2 ^ 32
place_near constants code all d None h = omega arith
place_near constants code all d (Some (InitialValues ls)) h = let inside = h.whole.inside in omega (arith, inside)
place_near constants code all d (Some (ConstantBytes bytes)) h = absurd h
place_near constants code all d (Some (NumberWord block index)) h = absurd h
place_near constants code all d (Some (StaticStorage block index bytes)) h = absurd h

-- one to which nothing is given
pub bare_begins :
    (constants : ℕ → Option ℕ) (code : List Instr) (all : List PlacedDatum) (d : Y.DeclaredVariable) →
    initial_datum d ≡ None → none_initial (shape_of [] d).signature.leaves ≡ initial_of d → Begins constants code all d
bare_begins constants code all d e none = subst (BeginsWith constants code all d) (sym e) none
