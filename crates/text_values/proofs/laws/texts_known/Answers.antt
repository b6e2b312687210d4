use Rattle.text_values.proofs.Known.{constant_inner, constant_placed, constant_waits, text_inner, text_placed}
use Rattle.text_values.proofs.TextPoints.{text_waits}
use Rattle.text_values.proofs.laws.texts_known.Goals as goal

pub returns : goal.returns
returns c =
    record {
      waits = text_waits;
      constant_waits = constant_waits;
      placed = text_placed;
      constant_placed = constant_placed;
      inner = text_inner;
      constant_inner = constant_inner;
    }
