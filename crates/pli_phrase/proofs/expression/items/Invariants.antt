use Rattle.std.proofs.Common.{length, suc, []}
use Rattle.pli_language.specs.View.{expr_of}
use Rattle.pli_phrase.specs.Reading.{items_from}
use Rattle.pli_phrase.specs.View.{cursor_of, newest}
use Rattle.pli_phrase.proofs.Lists.{OnList}
use Rattle.pli_phrase.proofs.expression.items.Given as goal

abbrev pub invariant-loop-goes_on : goal.invariant-loop-goes_on
invariant-loop-goes_on l = OnList l.are_arguments l.source (newest expr_of l.expressions.items) (cursor_of l.cursor) l.goes_on (items_from (suc (length l.fn.cursor.tokens.now)) l.are_arguments l.source [] (cursor_of l.fn.cursor))

abbrev pub decreases-loop-goes_on : goal.decreases-loop-goes_on
decreases-loop-goes_on l = length l.cursor.tokens.now
