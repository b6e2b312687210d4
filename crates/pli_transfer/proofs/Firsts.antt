-- The first of a list that passes a test.
use Rattle.std.proofs.Common.{◌≡◌, ◌+◌, Bool, true, false, List, [], ◌∷◌, map, refl, ap}
use Rattle.std.specs.Prelude.{if◌then◌else◌}
use Rattle.pli_typing.specs.Variables.{index_where}

pub hit : {X : Type 0} (test : X → Bool) (x : X) (xs : List X) → test x ≡ true → index_where test (x ∷ xs) ≡ 0
hit test x xs e = ap (λ b. if b then 0 else index_where test xs + 1) e

pub miss : {X : Type 0} (test : X → Bool) (x : X) (xs : List X) → test x ≡ false → index_where test (x ∷ xs) ≡ index_where test xs + 1
miss test x xs e = ap (λ b. if b then 0 else index_where test xs + 1) e

pub index_mapped : {X Y : Type 0} (test : Y → Bool) (f : X → Y) (xs : List X) → index_where (λ x. test (f x)) xs ≡ index_where test (map f xs)
index_mapped test f [] = refl
index_mapped test f (x ∷ xs) = ap (λ n. if test (f x) then 0 else n + 1) (index_mapped test f xs)
