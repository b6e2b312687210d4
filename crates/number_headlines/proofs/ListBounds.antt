-- What binding a list of parameters leaves of a layer, and what the copies count for in AUTOMATIC storage.
use Rattle.std.proofs.Common.{◌≡◌, ℕ, suc, ◌+◌, ◌*◌, ◌≤◌, List, [], ◌∷◌, length, refl, sym, ap, ◌∙◌, arith}
use Rattle.std.specs.Prelude.{cond}
use Rattle.pli_meaning.specs.StorageState.{automatic_in_use, newest_height}
use Rattle.storage_relation.proofs.Holders.{eqb-other}
use Rattle.activation_relation.specs.FrameLaws.{with_waits}
use Rattle.activation_relation.specs.Layers.{Layer, Point}
use Rattle.activation_relation.specs.Variables.{grown}
use Rattle.argument_runs.specs.Copies.{copy_made_of}
use Rattle.list_calls.specs.Lists.{Parameter, Passing, PassesCopy, PassesName, binding_as, bound_all, bound_layer}
use Rattle.list_calls.specs.Lists.{copied_at, copies_in, copy_with, name_told, named_as}
use Rattle.list_calls.proofs.Binding.{copy_takes, same_height}

-- the lower stack has grown by the copies
pub layer_lower :
    (xs : List Parameter) (ys : List Passing) (ψ : Layer) → length xs ≡ length ys → 16 * copies_in ys ≤ ψ.lower →
    (bound_layer xs ys ψ).lower + 16 * copies_in ys ≡ ψ.lower
layer_lower [] [] ψ many room = omega arith
layer_lower [] (y ∷ ys) ψ many room = absurd (omega (arith, many))
layer_lower (x ∷ xs) [] ψ many room = absurd (omega (arith, many))
layer_lower (x ∷ xs) (PassesCopy z ∷ ys) ψ many room =
    let rest = layer_lower xs ys (grown (copy_made_of ψ (copy_with x z)) ψ) (omega (arith, many))
    (omega (arith, room)) in
    omega (arith, rest, room)
layer_lower (x ∷ xs) (PassesName serial signature ∷ ys) ψ many room =
    layer_lower xs ys ψ (omega (arith, many)) room

-- each copy counts, where some block is active
pub bound_used :
    (words : ℕ) (xs : List Parameter) (ys : List Passing) (ψ φ : Layer) (φs : List Layer) (p : Point) (n : ℕ) →
    length xs ≡ length ys → newest_height p.state.activations ≡ suc n →
    automatic_in_use (bound_all words xs ys ψ φ φs p).state.living
    ≡ automatic_in_use p.state.living + copy_takes * copies_in ys
bound_used words [] [] ψ φ φs p n many height = omega arith
bound_used words [] (y ∷ ys) ψ φ φs p n many height = absurd (omega (arith, many))
bound_used words (x ∷ xs) [] ψ φ φs p n many height = absurd (omega (arith, many))
bound_used words (x ∷ xs) (PassesCopy z ∷ ys) ψ φ φs p n many height =
    let last = words + 6 * length ys in
    let next = copied_at last ψ φ φs (copy_with x z) p in
    let one : automatic_in_use next.state.living ≡ copy_takes + automatic_in_use p.state.living =
    ap (λ q. cond q (automatic_in_use p.state.living) (copy_takes + automatic_in_use p.state.living))
    (eqb-other (newest_height p.state.activations) 0 (λ e. omega (arith, e, height))) in
    let rest = bound_used words xs ys (grown (copy_made_of ψ (copy_with x z)) ψ)
    (with_waits (name_told last (p.state.serials + 1) x.number 1 φ.waits) φ) φs next n (omega (arith, many))
    (same_height (binding_as x (p.state.serials + 1)) p.state.activations ∙ height) in
    omega (arith, one, rest)
bound_used words (x ∷ xs) (PassesName serial signature ∷ ys) ψ φ φs p n many height =
    bound_used words xs ys ψ φ φs (named_as x serial p) n (omega (arith, many))
    (same_height (binding_as x serial) p.state.activations ∙ height)
