-- Replies of a service by those of what it goes on with.
use Rattle.std.proofs.Common.{◌≡◌, List, ℕ, subst, sym, Result}
use Rattle.pli_answering.specs.Answering.{Replies}
use Rattle.pli_answering.specs.declared.reply.Reply.{Reply}
use Rattle.pli_answering.specs.declared.reply.Refusal.{Refusal}
use Rattle.pli_serving.specs.Answers.{Answer}
use Rattle.pli_serving.specs.ServiceState.{Services}

-- equal answers have the same replies
pub replies_by : (a b : Answer) (v : Services) (m : List ℕ) (r : Result Reply Refusal) (v' : Services) (m' : List ℕ) → a ≡ b → Replies b v m r v' m' → Replies a v m r v' m'
replies_by a b v m r v' m' e h = subst (λ (a : Answer). Replies a v m r v' m') (sym e) h
