use Rattle.pli_lex.proofs.Total.{some_answer}
use Rattle.pli_lex.proofs.Unique.{one_list, not_both, one_refusal}
use Rattle.pli_lex.proofs.one_answer.Goals as goal

pub returns-clause-one_list : goal.returns-clause-one_list
returns-clause-one_list c = λ s ts us h g. one_list s ts us h g

pub returns-clause-not_both : goal.returns-clause-not_both
returns-clause-not_both c = λ s ts line column kind h g. not_both s ts line column kind h g

pub returns-clause-one_refusal : goal.returns-clause-one_refusal
returns-clause-one_refusal c = λ s line column line_2 column_2 kind kind_2 h g. one_refusal s line column kind line_2 column_2 kind_2 h g

pub returns-clause-some_answer : goal.returns-clause-some_answer
returns-clause-some_answer c = λ s. some_answer s
