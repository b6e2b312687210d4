-- An OFFSET variable at a point of a block: what it holds there, and where that stands.
use Rattle.std.proofs.Common.{◌≡◌, ℕ, ◌+◌, ◌*◌, ◌%◌, ◌<◌, List, [], Some, Option, refl, ap, ◌∙◌}
use Rattle.std.proofs.Common.{subst, arith}
use Rattle.std.specs.Prelude.{pos}
use Rattle.rv_meaning.specs.Memory.{load}
use Rattle.pli_typing.specs.Signatures.{Offset}
use Rattle.pli_typing.specs.TypedTree as Y
use Rattle.pli_meaning.specs.BasicValues.{BasicBit, BasicNumber, BasicOffset, BasicPointer, BasicText, BasicValue}
use Rattle.pli_meaning.specs.BasicValues.{VariableName}
use Rattle.pli_meaning.specs.Contents.{Generation}
use Rattle.pli_meaning.specs.StorageState.{ancestor, binding_in, generation_at, generation_of, living_of, newest_height}
use Rattle.pli_serving.specs.Bytes.{offset_word}
use Rattle.storage_relation.specs.Served as S
use Rattle.storage_relation.specs.Telling.{IsOf, IsOffset, Tells}
use Rattle.storage_relation.proofs.Changes.{element_held}
use Rattle.storage_relation.proofs.Placing.{none_above}
use Rattle.storage_relation.proofs.Values as L
use Rattle.activation_relation.specs.Layers.{Point, now}
use Rattle.activation_relation.specs.Remaining.{LivesOn}
use Rattle.run_steps.specs.Reach.{Family}
use Rattle.block_runs.specs.Machines.{AreIn}
use Rattle.program_runs.specs.Statements.{Block, IsAmong, IsBegun}
use Rattle.expression_runs.specs.Variables.{Spot}
use Rattle.expression_runs.proofs.VariablePoints.{first_base}
use Rattle.scalar_runs.proofs.ScalarPoints.{at_of}
use Rattle.offset_runs.specs.Offsets.{IsOffsetVariable}
use Rattle.offset_runs.proofs.OffsetMeaning.{Holds, offset_generation, offset_shape}

pub offset_of : (v : BasicValue) → IsOf Offset v → (o : Option ℕ) × (v ≡ BasicOffset o)
offset_of (BasicOffset o) is = (o, refl)
offset_of (BasicNumber z) is = absurd is
offset_of (BasicText t) is = absurd is
offset_of (BasicBit b) is = absurd is
offset_of (BasicPointer n) is = absurd is

generation_is :
    (g : Generation) → g.shape ≡ offset_shape → g.extent ≡ pos 0 → g ≡ offset_generation g.values
generation_is g e f =
    ap (λ s. record { shape = s; extent = g.extent; values = g.values }) e
    ∙ ap (λ z. record { shape = offset_shape; extent = z; values = g.values }) f

-- an offset, and the word that tells it wherever memory has what is stored
pub record OffsetAt {k : Block} {x : Spot} {area : Option Y.Variable} (is : IsOffsetVariable k x area) (p : Point) :
    Type 0 where
  pub holds : Holds p.state x
  pub here : p.places.at holds.serial ≡ at_of is
  pub fits : IsOffset holds.offset
  pub tells : (m : List ℕ) → S.Holds (now p m) → load 4 m (at_of is) ≡ offset_word holds.offset
  pub even : at_of is % 4 ≡ 0

address_is : (at size : ℕ) → at + 0 + size * 0 ≡ at
address_is at size = omega arith

pub offset_at :
    {k : Block} {numbers : ℕ → ℕ} {p : Point} {index : ℕ} {x : Spot} {area : Option Y.Variable}
    (is : IsOffsetVariable k x area) → IsBegun k → IsAmong k numbers p → (f : Family) →
    AreIn k.call.surroundings p numbers index f → OffsetAt is p
offset_at {k} {p = p} {x = x} is begun o f there =
    record {
      holds = record {
        serial = serial;
        stands =
            ap (λ xs. binding_in (ancestor xs (newest_height xs) x.level) x.index) o.later.activations
            ∙ is.known.binding;
        values = g.values;
        living = on.there;
        lives = on.lives;
        generation = same;
        offset = first.0;
        value = first.1;
      };
      here = here;
      fits = subst (IsOf Offset) first.1 first_told.0.fits;
      tells = λ m stored.
          subst (λ n. load 4 m n ≡ offset_word first.0) here
          (L.offset_loaded (p.places.at serial) first.0 m
          (subst (λ v. Tells Offset v (p.places.at serial) m) first.1 (told m stored).0));
      even = subst (λ n. n % 4 ≡ 0) here first_told.1;
    }
  where
    serial : ℕ
    serial = is.known.serial

    on : LivesOn is.known.living (living_of p.state.living serial)
    on = o.later.remains.living serial is.known.living is.known.lives

    g : Generation
    g = on.there.generation

    same : g ≡ offset_generation g.values
    same = generation_is g (on.shape ∙ is.known.shape) (o.stands.lives.extents serial on.there on.lives)

    low : serial < k.first.state.serials + 1
    low = none_above (k.first.state.serials + 1) k.first.state.living serial is.known.living
        begun.resumes.stands.lives.falling is.known.lives

    here : p.places.at serial ≡ at_of is
    here =
        let moved = o.later.remains.at serial (omega (arith, low)) in
        let at = is.known.at in
        omega (arith, moved, at)

    there_is : generation_at p.state (VariableName serial) ≡ Some (offset_generation g.values)
    there_is = ap generation_of on.lives ∙ ap (λ y. Some y) same

    told : (m : List ℕ) → S.Holds (now p m) →
        Tells Offset (g.values 0 []) (p.places.at serial) m × (p.places.at serial % 4 ≡ 0)
    told m stored =
        let e = element_held (now p m) stored (VariableName serial) (offset_generation g.values) (pos 0) 0 [] there_is
        refl (record { less = refl; leaf_there = omega arith; within = refl }) in
        subst (λ n. Tells Offset (g.values 0 []) n m × (n % 4 ≡ 0)) (address_is (p.places.at serial) 4) e

    first_told : Tells Offset (g.values 0 []) (p.places.at serial) (f first_base).machine.memory
        × (p.places.at serial % 4 ≡ 0)
    first_told = told (f first_base).machine.memory (there first_base).at.storage

    first : (o : Option ℕ) × (g.values 0 [] ≡ BasicOffset o)
    first = offset_of (g.values 0 []) first_told.0.fits
