-- Elements counted by their distance from the first.
use Rattle.std.proofs.Common.{◌≡◌, ◌<◌, ℕ, ◌+◌, ◌-◌, ◌&&◌, [], ◌∷◌, ◌++◌, refl, ap, ◌∙◌, arith, append_assoc}
use Rattle.std.specs.Prelude.{nat_lt}
use Rattle.std.proofs.lemmas.Bool.Decides.{nat_tests}
use Rattle.rv_meaning.specs.declared.instr.BranchTest.TheVariants as Test
use Rattle.pli_typing.specs.TypedTree as Y
use Rattle.pli_coding.specs.Registers.{u1, u2, zero_register}
use Rattle.pli_coding.specs.Assembly.{JumpBack, Code, size_of}
use Rattle.pli_coding.specs.Instructions.{skip_where}
use Rattle.pli_coding.specs.Environments.{Environment, Taken, save}
use Rattle.pli_coding.specs.Storing.{subscript_count}
use Rattle.pli_coding.specs.Streams.{are_counted, by_distance, distance_counted, is_counted, is_distance}
use Rattle.pli_coding.specs.Streams.{repeated_until_equal}
use Rattle.rv_address.specs.Numbers.{capped, most_bytes}
use Rattle.rv_assembly.proofs.Growing.{size_append}
use Rattle.rv_item.specs.Distances.{element_counted, repeated_from}
use Rattle.rv_item.specs.Elements.{part_in, variable_in}

pub distance_is : (n : ℕ) → (nat_lt 0 (capped n) && nat_lt (capped n) most_bytes) ≡ is_distance n
distance_is n = grind (arith, nat_tests)

pub bytes_are : (n k : ℕ) → k ≡ capped n → k < most_bytes → k ≡ n
bytes_are n k e h = omega arith

pub counted_is : (e : Environment) (r : Y.Reference)
    → is_counted e r ≡ are_counted e (variable_in r) (part_in r) (subscript_count r)
counted_is e (Y.Referring v locator part subscripts) = refl

repeated_is : (before inner : Code) → repeated_from (size_of before) (before ++ inner)
    ≡ before ++ repeated_until_equal inner
unfolding repeated_from
repeated_is before inner =
    let whole : size_of (before ++ inner) ≡ size_of before + size_of inner = size_append before inner in
    let size : size_of (before ++ inner) - size_of before + 1 ≡ size_of inner + 1 = omega arith in
    ap (λ n. (before ++ inner) ++ skip_where Test.Equal u1 u2 (JumpBack n ∷ [])) size
    ∙ append_assoc before inner (skip_where Test.Equal u1 u2 (JumpBack (size_of inner + 1) ∷ []))

-- all turns, behind the code that stood before them
pub counted_whole : (before each : Code) (t : Taken) (l : Y.Leaf)
    → element_counted (size_of (before ++ save zero_register t)) t l ((before ++ save zero_register t) ++ each)
    ≡ before ++ by_distance t l each
unfolding element_counted
counted_whole before each t l =
    ap (repeated_from (size_of (before ++ save zero_register t)))
    (append_assoc (before ++ save zero_register t) each (distance_counted t l))
    ∙ repeated_is (before ++ save zero_register t) (each ++ distance_counted t l)
    ∙ append_assoc before (save zero_register t) (repeated_until_equal (each ++ distance_counted t l))

-- where what is done for each is written in two pieces
pub counted_whole_of : (before a b : Code) (t : Taken) (l : Y.Leaf)
    → element_counted (size_of (before ++ save zero_register t)) t l (((before ++ save zero_register t) ++ a) ++ b)
    ≡ before ++ by_distance t l (a ++ b)
counted_whole_of before a b t l =
    ap (element_counted (size_of (before ++ save zero_register t)) t l)
    (append_assoc (before ++ save zero_register t) a b) ∙ counted_whole before (a ++ b) t l
