use Rattle.number_runs.proofs.Words.{all_words, function_array, function_narrow, function_word, own_array, own_narrow}
use Rattle.number_runs.proofs.Words.{own_word, words_anywhere}
use Rattle.number_runs.proofs.laws.words_made.Goals as goal

pub returns : goal.returns
returns c =
    record {
      all = all_words;
      among = words_anywhere;
      own = own_word;
      function = function_word;
      own_array = own_array;
      function_array = function_array;
      own_narrow = own_narrow;
      function_narrow = function_narrow;
    }
