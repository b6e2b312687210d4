-- Variables of a block, arrays and scalars of fewer bits among them: units that are established, and blocks further
-- out, leave them as they are.
use Rattle.std.proofs.Common.{◌≡◌, inl, inr, ℕ, ◌<◌, List, [], ◌∷◌, Some, true, false, refl, sym, ap, ◌∙◌, subst}
use Rattle.std.specs.Prelude.{◌==◌, Bool, cond}
use Rattle.pli_language.specs.declared.condition.Condition.{Condition}
use Rattle.pli_typing.specs.TypedTree as Y
use Rattle.pli_meaning.specs.StorageState as M
use Rattle.pli_meaning.specs.StorageState.{Activation, ancestor, ancestor_at, binding_in, height_of}
use Rattle.pli_meaning.specs.StorageState.{newest_height}
use Rattle.pli_serving.specs.ServiceState as S
use Rattle.activation_relation.specs.Chains.{frame_at}
use Rattle.activation_relation.specs.Changes.{newest_with}
use Rattle.activation_relation.specs.Frames.{frame_under}
use Rattle.activation_relation.specs.Landing.{with_units}
use Rattle.activation_relation.specs.Layers.{Layer, Point}
use Rattle.program_runs.specs.Starts.{image_parts}
use Rattle.program_runs.specs.Statements.{Block, Outer}
use Rattle.expression_runs.specs.Variables.{IsFrameOf, IsNumber, Spot}
use Rattle.jump_runs.proofs.Numbers.{leaving}
use Rattle.variable_runs.specs.Known.{IsKnown}
use Rattle.array_runs.specs.Arrays.{Grid, IsArray}
use Rattle.scalar_runs.specs.Scalars.{IsScalar}
use Rattle.array_runs.proofs.Outer.{outer_array}
use Rattle.number_runs.proofs.Narrow.{outer_narrow}
use Rattle.phase_runs.specs.Phases.{in_phase}
use Rattle.phase_runs.specs.Units.{Past, newest_units, past_point}
use Rattle.unit_numbers.proofs.Past.{past_like, past_living}

-- ---- units that are established

frame_same :
    (xs : List (Condition × S.OnUnit)) (φs : List Layer) (height : ℕ) →
    frame_at (newest_with xs φs) height ≡ frame_at φs height
frame_same xs [] height = refl
frame_same xs (φ ∷ φs) height = refl

past_frame :
    (past : Past) (p : Point) (height : ℕ) →
    frame_at (past_point past p).control.layers height ≡ frame_at p.control.layers height
past_frame [] p height = refl
past_frame (e ∷ past) p height = frame_same _ (past_point past p).control.layers height ∙ past_frame past p height

binding_same :
    (us : List (Condition × M.OnUnit)) (as' : List Activation) (level variable : ℕ) →
    binding_in (ancestor (newest_units us as') (newest_height (newest_units us as')) level) variable
    ≡ binding_in (ancestor as' (newest_height as') level) variable
binding_same us [] level variable = refl
binding_same us (a ∷ as') level variable = by (a.height == a.height) (a.level == level)
  where
    by :
        (q r : Bool) →
        binding_in
        (cond q (cond r (Some (with_units us a)) (ancestor as' a.parent level)) (ancestor as' a.height level))
        variable
        ≡ binding_in (cond q (cond r (Some a) (ancestor as' a.parent level)) (ancestor as' a.height level)) variable
    by true true = refl
    by true false = refl
    by false r = refl

past_binding :
    (past : Past) (p : Point) (level variable : ℕ) →
    binding_in (ancestor_at (past_point past p).state level) variable
    ≡ binding_in (ancestor_at p.state level) variable
past_binding [] p level variable = refl
past_binding (e ∷ past) p level variable =
    binding_same _ (past_point past p).state.activations level variable
    ∙ past_binding past p level variable

pub past_places :
    (past : Past) (p : Point) → (past_point past p).places ≡ p.places
past_places [] p = refl
past_places (e ∷ past) p = past_places past p

-- a block in a phase
abbrev pub phase_at : Block → Past → Block
phase_at k past = in_phase k (past_point past k.first)

past_frame_of :
    (k : Block) (past : Past) (level base : ℕ) → k.call.surroundings.parts ≡ image_parts → IsFrameOf k level base →
    IsFrameOf (phase_at k past) level base
past_frame_of k past level base parts (inl own) =
    inl (
      own.0,
      own.1
          ∙ sym (subst (λ q. frame_under q (past_point past k.first).control.layers
          ≡ frame_under q k.first.control.layers) (sym parts) (past_like past k.first).frame),
    )
past_frame_of k past level base parts (inr out) =
    let e = (past_like past k.first).ancestors level in
    inr (
      out.0,
      out.1,
      subst (λ n. 0 < n) (sym e) out.2,
      out.3,
      out.4 ∙ sym (past_frame past k.first _ ∙ ap (frame_at k.first.control.layers) e),
    )

past_known :
    (k : Block) (past : Past) (x : Spot) (d : Y.DeclaredVariable) → k.call.surroundings.parts ≡ image_parts →
    IsKnown k x d → IsKnown (phase_at k past) x d
past_known k past x d parts n =
    record {
      declared = n.declared;
      serial = n.serial;
      binding = past_binding past k.first x.level x.index ∙ n.binding;
      living = n.living;
      lives = ap (λ ls. M.living_of ls n.serial) (past_living past k.first) ∙ n.lives;
      shape = n.shape;
      base = n.base;
      frame = past_frame_of k past x.level n.base parts n.frame;
      at = ap (λ (ps : _). ps.at n.serial) (past_places past k.first) ∙ n.at;
      low = n.low;
      inside = n.inside;
    }

pub past_number :
    (k : Block) (past : Past) (x : Spot) → k.call.surroundings.parts ≡ image_parts → IsNumber k x →
    IsNumber (phase_at k past) x
past_number k past x parts n =
    record {
      initial = n.initial;
      declared = n.declared;
      serial = n.serial;
      binding = past_binding past k.first x.level x.index ∙ n.binding;
      living = n.living;
      lives = ap (λ ls. M.living_of ls n.serial) (past_living past k.first) ∙ n.lives;
      shape = n.shape;
      base = n.base;
      frame = past_frame_of k past x.level n.base parts n.frame;
      at = ap (λ (ps : _). ps.at n.serial) (past_places past k.first) ∙ n.at;
      low = n.low;
      inside = n.inside;
    }

pub past_array :
    (k : Block) (past : Past) (x : Spot) (b : Grid) → k.call.surroundings.parts ≡ image_parts → IsArray k x b →
    IsArray (phase_at k past) x b
past_array k past x b parts is =
    outer_array k (phase_at k past) x b (λ d known. past_known k past x d parts known) is

pub past_narrow :
    (k : Block) (past : Past) (x : Spot) (b : Y.LeafType) → k.call.surroundings.parts ≡ image_parts → IsScalar k x b →
    IsScalar (phase_at k past) x b
past_narrow k past x b parts is =
    outer_narrow k (phase_at k past) x b (λ d known. past_known k past x d parts known) is

-- ---- a block, whatever is further out

known_leaving :
    (k : Block) (os : List Outer) (x : Spot) (d : Y.DeclaredVariable) → IsKnown (leaving k []) x d →
    IsKnown (leaving k os) x d
known_leaving k os x d n =
    record {
      declared = n.declared;
      serial = n.serial;
      binding = n.binding;
      living = n.living;
      lives = n.lives;
      shape = n.shape;
      base = n.base;
      frame = n.frame;
      at = n.at;
      low = n.low;
      inside = n.inside;
    }

pub array_leaving :
    (k : Block) (os : List Outer) (x : Spot) (b : Grid) → IsArray (leaving k []) x b → IsArray (leaving k os) x b
array_leaving k os x b is =
    outer_array (leaving k []) (leaving k os) x b (λ d known. known_leaving k os x d known) is

pub narrow_leaving :
    (k : Block) (os : List Outer) (x : Spot) (t : Y.LeafType) → IsScalar (leaving k []) x t →
    IsScalar (leaving k os) x t
narrow_leaving k os x b is =
    outer_narrow (leaving k []) (leaving k os) x b (λ d known. known_leaving k os x d known) is
