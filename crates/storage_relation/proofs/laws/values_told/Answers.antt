use Rattle.storage_relation.proofs.Values.{value_told, half_loaded, word_loaded, bit_loaded, offset_loaded}
use Rattle.storage_relation.proofs.Values.{varying_loaded}
use Rattle.storage_relation.proofs.NameWords.{name_words, same_words}
use Rattle.storage_relation.proofs.laws.values_told.Goals as goal

pub returns : goal.returns
returns c = record {
  values = value_told;
  halves = half_loaded;
  words = word_loaded;
  bits = bit_loaded;
  offsets = offset_loaded;
  texts = varying_loaded;
  names = name_words;
  same_names = same_words;
}
