-- The places of variables, one after the other.
use Rattle.std.proofs.Common.{◌≡◌, ℕ, ◌+◌, ◌<◌, List, [], ◌∷◌, ◌++◌, map, length, drop, get_or, sym, ap, ◌∙◌}
use Rattle.std.proofs.Common.{append_assoc, append-nil, arith}
use Rattle.std.specs.Prelude.{min}
use Rattle.pli_typing.specs.declared.typed.DeclaredVariable.{DeclaredVariable}
use Rattle.pli_typing.specs.TypedTree as Y
use Rattle.pli_typing.specs.TypedStatementView.{declared_variable_of}
use Rattle.pli_coding.specs.Frames.{frame_bytes, last_place, variable_place}
use Rattle.pli_frames.specs.Parts.{parts, stopped}
use Rattle.pli_frames.specs.Plans.{places_from}
use Rattle.pli_frames.proofs.Most.{shown_from}

stopped_sum : (at bytes : ℕ) → min last_place (at + stopped bytes) ≡ min last_place (at + bytes)
stopped_sum at bytes = omega arith

-- one more place
pub next_place : (xs : List DeclaredVariable) (i : ℕ) (x : DeclaredVariable) (done more target : List ℕ) (at next : ℕ) → i < length xs → x ≡ get_or xs i x → more ≡ done ++ at ∷ [] → next ≡ min last_place (at + stopped (frame_bytes parts (declared_variable_of x)))
    → done ++ places_from at (map declared_variable_of (drop i xs)) ≡ target → more ++ places_from next (map declared_variable_of (drop (i + 1) xs)) ≡ target
next_place xs i x done more target at next h e m n is =
    let rest : List Y.DeclaredVariable = map declared_variable_of (drop (i + 1) xs) in
    ap (λ u. u ++ places_from next rest) m
    ∙ append_assoc done (at ∷ []) (places_from next rest)
    ∙ ap (λ k. done ++ (at ∷ places_from k rest)) (n ∙ stopped_sum at (frame_bytes parts (declared_variable_of x)))
    ∙ ap (λ u. done ++ places_from at u) (sym (shown_from declared_variable_of xs i x h e))
    ∙ is

pub next_end : (xs : List DeclaredVariable) (i : ℕ) (x : DeclaredVariable) (at next target : ℕ) → i < length xs → x ≡ get_or xs i x → next ≡ min last_place (at + stopped (frame_bytes parts (declared_variable_of x)))
    → variable_place parts at (map declared_variable_of (drop i xs)) (length (map declared_variable_of (drop i xs))) ≡ target
    → variable_place parts next (map declared_variable_of (drop (i + 1) xs)) (length (map declared_variable_of (drop (i + 1) xs))) ≡ target
next_end xs i x at next target h e n is =
    let behind = λ (ds : List Y.DeclaredVariable). λ (k : ℕ). variable_place parts k ds (length ds) in
    ap (behind (map declared_variable_of (drop (i + 1) xs))) (n ∙ stopped_sum at (frame_bytes parts (declared_variable_of x)))
    ∙ ap (λ ds. behind ds at) (sym (shown_from declared_variable_of xs i x h e))
    ∙ is

pub nothing_more : (xs : List ℕ) → xs ++ [] ≡ xs
nothing_more xs = append-nil xs
