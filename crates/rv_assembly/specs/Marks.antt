-- Marked places, as the linker's values show them, and how the first of a symbol is found.
use Rattle.std.specs.Prelude.{ℕ, List, [], ◌∷◌}
use Rattle.pli_coding.specs.Assembly.{Item, Plain, BaseIn, OffsetOf, OffsetAhead, JumpTo, CallTo, JumpAhead, JumpBack, Mark}
use Rattle.pli_coding.specs.Linking as L
use Rattle.rv_assembly.specs.declared.marks.MarkedPlace.{MarkedPlace}
use Rattle.rv_assembly.specs.View.{symbol_of}

abbrev pub mark_of : MarkedPlace → L.MarkedPlace
mark_of m = record { symbol = symbol_of m.symbol.now; place = m.place }

abbrev pub mark_at : ℕ → Item → List L.MarkedPlace
mark_at at (Mark s) = record { symbol = s; place = at } ∷ []
mark_at at (Plain i) = []
mark_at at (BaseIn r) = []
mark_at at (OffsetOf r s) = []
mark_at at (OffsetAhead r words) = []
mark_at at (JumpTo s) = []
mark_at at (CallTo s) = []
mark_at at (JumpAhead words) = []
mark_at at (JumpBack words) = []
