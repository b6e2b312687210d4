-- The place of a leaf in the frame, or behind a STATIC variable's name.
use Rattle.std.proofs.Common.{◌≡◌, ℕ, ◌+◌, arith}
use Rattle.pli_typing.specs.TypedTree as Y
use Rattle.pli_coding.specs.Environments.{Environment, declaration_of}
use Rattle.pli_coding.specs.Locating.{direct_place, leaf_place}
use Rattle.rv_address.specs.Pieces.{direct_start}

pub number_is : (e : Environment) (v : Y.Variable) (class : Y.StorageClass) (leaf start inside : ℕ)
    → start ≡ direct_start e v class → inside ≡ leaf_place (declaration_of e v) leaf → start + 16 + inside
    ≡ direct_place e v class leaf
number_is e v Y.AutomaticClass leaf start inside s i = omega arith
number_is e v Y.ParameterClass leaf start inside s i = omega arith
number_is e v Y.StaticClass leaf start inside s i = omega arith
number_is e v Y.BasedClass leaf start inside s i = omega arith
number_is e v Y.ControlledClass leaf start inside s i = omega arith
