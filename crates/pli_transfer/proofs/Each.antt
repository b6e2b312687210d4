-- Operands that are judged one after the other.
use Rattle.std.proofs.Common.{◌≡◌, ◌∙◌, List, [], ◌∷◌, ◌++◌, map, sym, ap}
use Rattle.pli_typing.specs.Judging.{Judged, each}
use Rattle.pli_operand.specs.Notes.{Noted, noted}
use Rattle.pli_operand.proofs.Noting.{noted_append, noted_none}

each_step : {X Z : Type 0} (judge : X → Judged Z) (s : Noted) (x : X) (xs : List X) → noted (noted s (judge x)) (each judge xs) ≡ noted s (each judge (x ∷ xs))
each_step judge s x xs =
    sym (noted_none (noted (noted s (judge x)) (each judge xs)))
    ∙ sym (noted_append (noted s (judge x)) (each judge xs).faults [] (each judge xs).mentions [])
    ∙ sym (noted_append s (judge x).faults ((each judge xs).faults ++ []) (judge x).mentions ((each judge xs).mentions ++ []))

-- what is noted with one more, and with the last
pub each_noted : {X Z : Type 0} (judge : X → Judged Z) (s n : Noted) (x : X) (xs ys : List X) → n ≡ noted s (judge x) → ys ≡ x ∷ xs → noted n (each judge xs) ≡ noted s (each judge ys)
each_noted judge s n x xs ys e here = ap (λ m. noted m (each judge xs)) e ∙ each_step judge s x xs ∙ ap (λ zs. noted s (each judge zs)) (sym here)

pub each_end : {X Z : Type 0} (judge : X → Judged Z) (s : Noted) (ys : List X) → ys ≡ [] → s ≡ noted s (each judge ys)
each_end judge s ys none = sym (noted_none s) ∙ ap (λ zs. noted s (each judge zs)) (sym none)

pushed : {W Z : Type 0} (view : W → Z) (ws : List W) (w : W) (z : Z) (zs : List Z) → view w ≡ z → map view (ws ++ w ∷ []) ++ zs ≡ map view ws ++ z ∷ zs
pushed view [] w z zs e = ap (λ y. y ∷ zs) e
pushed view (v ∷ ws) w z zs e = ap (λ ys. view v ∷ ys) (pushed view ws w z zs e)

-- the values with one more
pub each_value : {X Z W : Type 0} (judge : X → Judged Z) (view : W → Z) (ws vs : List W) (w : W) (x : X) (xs ys : List X) → vs ≡ ws ++ w ∷ [] → view w ≡ (judge x).value → ys ≡ x ∷ xs → map view vs ++ (each judge xs).value ≡ map view ws ++ (each judge ys).value
each_value judge view ws vs w x xs ys more e here =
    ap (λ us. map view us ++ (each judge xs).value) more
    ∙ pushed view ws w (judge x).value (each judge xs).value e
    ∙ ap (λ zs. map view ws ++ (each judge zs).value) (sym here)
