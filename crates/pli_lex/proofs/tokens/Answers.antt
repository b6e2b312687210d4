use Rattle.pli_lex.proofs.Unique.{answer_tokens, answer_refusal}
use Rattle.pli_lex.proofs.tokens.Goals as goal

pub returns-clause-only : goal.returns-clause-only
returns-clause-only c = answer_tokens (λ v. v.items) c.args.source.now c.read.result c.read.ensures

pub returns-clause-refused : goal.returns-clause-refused
returns-clause-refused c = answer_refusal (λ v. v.items) c.args.source.now c.read.result c.read.ensures
