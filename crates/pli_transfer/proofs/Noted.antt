-- What is noted where a judged part is put into something.
use Rattle.std.proofs.Common.{◌≡◌, ◌∙◌, [], ◌++◌, sym, ap}
use Rattle.pli_typing.specs.Judging.{Judged}
use Rattle.pli_operand.specs.Notes.{Noted, noted, with_lists}
use Rattle.pli_operand.proofs.Noting.{noted_append, noted_none}

pub noted_in : {X : Type 0} (m n : Noted) (j : Judged X) → m ≡ noted n j → m ≡ with_lists n (j.faults ++ []) (j.mentions ++ [])
noted_in m n j e = e ∙ sym (noted_append n j.faults [] j.mentions [] ∙ noted_none (noted n j))

-- two parts judged in turn
pub noted_both : {X Z : Type 0} (m n o : Noted) (j : Judged X) (k : Judged Z) → n ≡ noted o j → m ≡ noted n k → m ≡ with_lists o (j.faults ++ k.faults) (j.mentions ++ k.mentions)
noted_both m n o j k e f = f ∙ ap (λ x. noted x k) e ∙ sym (noted_append o j.faults k.faults j.mentions k.mentions)
