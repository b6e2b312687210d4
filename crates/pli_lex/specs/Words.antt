-- The table of words from some part of it on, in the parts that the code goes through.
use Rattle.std.specs.Prelude.{ℕ, List, take, drop}
use Rattle.pli_language.specs.declared.token.Word.{Word}
use Rattle.pli_language.specs.declared.token.Word.TheVariants as W
use Rattle.pli_language.specs.Keywords.{looked_up, structure_words, statements_words, declarations_words, attributes_words, built_ins_words, statements_left_out_words, attributes_left_out_words}

unfoldable pub absent_attribute_or_later : List ℕ → Word
absent_attribute_or_later w = looked_up attributes_left_out_words w W.Other

unfoldable pub absent_statement_or_later : List ℕ → Word
absent_statement_or_later w = looked_up statements_left_out_words w (absent_attribute_or_later w)

unfoldable pub built_in_or_later : List ℕ → Word
built_in_or_later w = looked_up built_ins_words w (absent_statement_or_later w)

unfoldable pub attribute_or_later : List ℕ → Word
attribute_or_later w = looked_up attributes_words w (built_in_or_later w)

unfoldable pub declaration_or_later : List ℕ → Word
declaration_or_later w = looked_up (drop 7 declarations_words) w (attribute_or_later w)

unfoldable pub condition_or_later : List ℕ → Word
condition_or_later w = looked_up (take 7 declarations_words) w (declaration_or_later w)

unfoldable pub stream_or_later : List ℕ → Word
stream_or_later w = looked_up (drop 11 statements_words) w (condition_or_later w)

unfoldable pub statement_or_later : List ℕ → Word
statement_or_later w = looked_up (take 11 statements_words) w (stream_or_later w)

unfoldable pub group_or_later : List ℕ → Word
group_or_later w = looked_up (drop 10 structure_words) w (statement_or_later w)

unfoldable pub block_or_later : List ℕ → Word
block_or_later w = looked_up (take 10 structure_words) w (group_or_later w)
