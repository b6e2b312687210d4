-- What the statements of a block know they know while words of its frame are told.
use Rattle.std.proofs.Common.{◌≡◌, ℕ, inl, inr, List, ◌∷◌, Option, ap, ◌∙◌}
use Rattle.pli_typing.specs.Signatures.{Bounds}
use Rattle.pli_typing.specs.TypedTree as Y
use Rattle.activation_relation.specs.Chains.{frame_at}
use Rattle.activation_relation.specs.Frames.{frame_under}
use Rattle.activation_relation.specs.Layers.{Layer}
use Rattle.pli_meaning.specs.StorageState.{ancestor_at, height_of}
use Rattle.program_runs.specs.Statements.{Block}
use Rattle.expression_runs.specs.Variables.{IsFrameOf, IsNumber, Spot}
use Rattle.variable_runs.specs.Known.{IsKnown}
use Rattle.element_runs.specs.Arrays.{IsArray}
use Rattle.counter_runs.specs.Words.{telling}

frame_told :
    (k : Block) (φ : Layer) (φs : List Layer) (waits : ℕ → Option ℕ) → k.first.control.layers ≡ φ ∷ φs →
    (level base : ℕ) → IsFrameOf k level base → IsFrameOf (telling waits φ φs k) level base
frame_told k φ φs waits newest level base (inl own) =
    inl (own.0, own.1 ∙ ap (frame_under k.call.surroundings.parts) newest)
frame_told k φ φs waits newest level base (inr outer) =
    inr (
      outer.0,
      outer.1,
      outer.2,
      outer.3,
      outer.4 ∙ ap (λ ls. frame_at ls (height_of (ancestor_at k.first.state level))) newest,
    )

pub number_told :
    (k : Block) (φ : Layer) (φs : List Layer) (waits : ℕ → Option ℕ) → k.first.control.layers ≡ φ ∷ φs → (x : Spot) →
    IsNumber k x → IsNumber (telling waits φ φs k) x
number_told k φ φs waits newest x is =
    record {
      initial = is.initial;
      declared = is.declared;
      serial = is.serial;
      binding = is.binding;
      living = is.living;
      lives = is.lives;
      shape = is.shape;
      base = is.base;
      frame = frame_told k φ φs waits newest x.level is.base is.frame;
      at = is.at;
      low = is.low;
      inside = is.inside;
    }

pub known_told :
    (k : Block) (φ : Layer) (φs : List Layer) (waits : ℕ → Option ℕ) → k.first.control.layers ≡ φ ∷ φs → (x : Spot)
    (d : Y.DeclaredVariable) → IsKnown k x d → IsKnown (telling waits φ φs k) x d
known_told k φ φs waits newest x d is =
    record {
      declared = is.declared;
      serial = is.serial;
      binding = is.binding;
      living = is.living;
      lives = is.lives;
      shape = is.shape;
      base = is.base;
      frame = frame_told k φ φs waits newest x.level is.base is.frame;
      at = is.at;
      low = is.low;
      inside = is.inside;
    }

pub array_told :
    (k : Block) (φ : Layer) (φs : List Layer) (waits : ℕ → Option ℕ) → k.first.control.layers ≡ φ ∷ φs → (x : Spot)
    (b : Bounds) → IsArray k x b → IsArray (telling waits φ φs k) x b
array_told k φ φs waits newest x b is =
    record { initial = is.initial; known = known_told k φ φs waits newest x _ is.known; bounds = is.bounds }
