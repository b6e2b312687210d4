-- The data that code names, the data that have places, and bytes that stand in the first memory.
use Rattle.std.proofs.Common.{[], inl, inr, ◌∷◌, ◌++◌}
use Rattle.pli_coding.specs.Assembly.{Datum, Code}
use Rattle.run_steps.specs.DataNamed.{IsNamed}

pub is_named_front : (d : Datum) (xs ys : Code) → IsNamed d xs → IsNamed d (xs ++ ys)
is_named_front d [] ys h = absurd h
is_named_front d (x ∷ xs) ys (inl e) = inl e
is_named_front d (x ∷ xs) ys (inr h) = inr (is_named_front d xs ys h)

pub is_named_back : (d : Datum) (xs ys : Code) → IsNamed d ys → IsNamed d (xs ++ ys)
is_named_back d [] ys h = h
is_named_back d (x ∷ xs) ys h = inr (is_named_back d xs ys h)
