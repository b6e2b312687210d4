-- Placed data, as the linker's values show it.
use Rattle.pli_coding.specs.StaticData as S
use Rattle.rv_assembly.specs.declared.placing.PlacedDatum.{PlacedDatum}
use Rattle.rv_assembly.specs.Borrowed.{datum}

abbrev pub placed_of : PlacedDatum → S.PlacedDatum
placed_of p = record { datum = datum p.datum; place = p.place }
