-- What is asked of a dimension, and lists of arguments, as the emitters hold them.
use Rattle.pli_coding.specs.Expressions as E
use Rattle.rv_operation.specs.declared.reference.BoundAsked.{BoundAsked}
use Rattle.rv_operation.specs.declared.reference.BoundAsked.TheVariants as B
use Rattle.rv_operation.specs.declared.argument.ArgumentList.{ArgumentList}

abbrev pub asked_of : BoundAsked → E.BoundAsked
asked_of B.Lower = E.LowerAsked
asked_of B.Upper = E.UpperAsked
asked_of B.Elements = E.ElementsAsked

abbrev pub list_of : ArgumentList → E.ArgumentList
list_of l = record { place = l.place; words = l.words }
