-- The laws, put together.
use Rattle.std.proofs.Common.{ℕ, List}
use Rattle.error_units.specs.Errors.{ErrorsAround, ErrorsGo}
use Rattle.error_units.proofs.Conditions.{condition_by, divide_without, end_by, error_system, overflow_without}
use Rattle.error_units.proofs.Conditions.{signal_by, status_by, subscript_by}
use Rattle.error_units.proofs.Errors.{error_deep, error_runs}

pub errors_go : ErrorsGo
errors_go =
    record {
      unit = λ k x more h does is r. error_runs (Unit {0}) k x more h does is r;
      deep = λ k x more h is r. error_deep (Unit {0}) k x more h is r;
      system = λ k r only paid. error_system (Unit {0}) k r only paid.acts paid.most;
    }

pub errors_around : ErrorsAround
errors_around =
    record {
      condition = λ k r goes c only paid code codes. condition_by k r goes c only paid.acts paid.most code codes;
      overflow = λ k r goes only paid. overflow_without k r goes only paid.acts paid.most;
      divisor = λ k r goes only paid. divide_without k r goes only paid.acts paid.most;
      subscript = subscript_by;
      status = λ k r goes. status_by (List ℕ) k r goes;
      signal = signal_by;
      function = end_by;
    }
