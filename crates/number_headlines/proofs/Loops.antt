-- The newest layer where a block of a program of the class begins, behind its variables: its frame has the words that
-- its loops set aside, and nothing waits in them.
use Rattle.std.proofs.Common.{◌≡◌, ℕ, ◌+◌, List, [], ◌∷◌, refl}
use Rattle.activation_relation.specs.Layers.{Layer}
use Rattle.program_runs.specs.Starts.{image_parts}
use Rattle.program_runs.specs.Variables.{Declared}
use Rattle.variable_runs.specs.Lists.{layer_after, layer_behind}

pub after_words : (serial : ℕ) (φ : Layer) (xs : List Declared) → (layer_after image_parts serial φ xs).words ≡ φ.words
after_words serial φ [] = refl
after_words serial φ (x ∷ xs) = after_words (serial + 1) (layer_behind image_parts serial φ x) xs

pub after_waits : (serial : ℕ) (φ : Layer) (xs : List Declared) → (layer_after image_parts serial φ xs).waits ≡ φ.waits
after_waits serial φ [] = refl
after_waits serial φ (x ∷ xs) = after_waits (serial + 1) (layer_behind image_parts serial φ x) xs
