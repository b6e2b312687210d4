-- Raises of a condition while texts wait, with a unit in force.
use Rattle.std.specs.Prelude.{ℕ, ◌≡◌, List}
use Rattle.pli_language.specs.declared.condition.Condition.TheVariants as C
use Rattle.pli_serving.specs.ServiceState.{Entry}
use Rattle.expression_runs.specs.Values.{OverflowComes, Setting}
use Rattle.text_runs.specs.Waiting.{over}
use Rattle.unit_runs.specs.Raised.{IsRaised, Standing, UnitDoes}

pub record RaisesWait : Type 0 where
  -- the unit is in force there, and its frame fits
  pub raised :
      (entries : List Entry) (k : Setting) (x : Standing) (more : ℕ) → IsRaised k x more →
      IsRaised (over entries k) x more
  -- so FIXEDOVERFLOW goes on behind it with the value that was saved, and with the texts
  pub overflow :
      (entries : List Entry) (k : Setting) (x : Standing) (more : ℕ) (h : IsRaised (over entries k) x more) →
      UnitDoes (over entries k) x more h → x.unit.condition ≡ C.FixedOverflow → OverflowComes (over entries k)
