use Rattle.std.proofs.Common.{◌≡◌, ◌+◌, ◌*◌, ◌++◌, map, drop}
use Rattle.rv_meaning.specs.Encoding.{word_of}
use Rattle.pli_coding.specs.Assembly.{size_of}
use Rattle.pli_coding.specs.Linking.{linked}
use Rattle.rv_assembly.specs.View.{item_of}
use Rattle.rv_assembly.specs.Fitting.{AllFit}
use Rattle.rv_assembly.specs.Found.{shown}
use Rattle.rv_assembly.proofs.words.words_of.Given as goal

abbrev pub invariant-loop-item : goal.invariant-loop-item
invariant-loop-item l = record {
  put : l.words.items ++ map word_of (linked (shown l.links.marks.items l.links.placed.items) l.at (map item_of (drop l.item-index l.items))) ≡ map word_of (linked (shown l.links.marks.items l.links.placed.items) 0 (map item_of l.items));
  place : l.at + 4 * size_of (map item_of (drop l.item-index l.items)) ≡ 4 * size_of (map item_of l.items);
  fit : AllFit (map item_of (drop l.item-index l.items));
}
