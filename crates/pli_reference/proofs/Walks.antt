-- The equations of expressions and references, with what puts judgements and lists together.
use Rattle.std.proofs.Common.{append_assoc, append-nil}
use Rattle.std.proofs.lemmas.List.{map-append}
use Rattle.pli_typing.proofs.Judgements.{expression-Number, expression-Text, expression-Bit, expression-Parenthesized, expression-Prefix, expression-Infix, expression-Refers, reference-Plain, reference-Located, qualified-Last, qualified-Of, arguments-Absent, arguments-Listed, expressions-End, expressions-More}
use Rattle.pli_operand.proofs.Noting.{noted_none, noted_append, noted_fault, noted_mention}

pub ruleset walks = (noted_none, noted_append, noted_fault, noted_mention, append_assoc, append-nil, map-append, expression-Number, expression-Text, expression-Bit, expression-Parenthesized, expression-Prefix, expression-Infix, expression-Refers, reference-Plain, reference-Located, qualified-Last, qualified-Of, arguments-Absent, arguments-Listed, expressions-End, expressions-More)
