use Rattle.locator_runs.proofs.PointerTests.{both_test, null_tests}
use Rattle.locator_runs.proofs.laws.pointers_compare.Goals as goal

pub returns : goal.returns
returns c = record { null = null_tests; both = both_test }
