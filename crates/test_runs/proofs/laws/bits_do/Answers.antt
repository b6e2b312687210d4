use Rattle.test_runs.proofs.Bits.{and_tests, bits_tests, constant_tests, negated_tests, numbers_tests, or_tests}
use Rattle.test_runs.proofs.laws.bits_do.Goals as goal

pub returns : goal.returns
returns c =
    record {
      constant = constant_tests;
      numbers = numbers_tests;
      bits = bits_tests;
      conjunction = and_tests;
      disjunction = or_tests;
      negated = negated_tests;
    }
