use Rattle.pli_runtime.proofs.runtime.Runtime.serve.Goals as goal

pub returns-clause-served : goal.returns-clause-served
returns-clause-served g c = λ all agrees whole. (c.act_or.ensures.carried all agrees whole).served
