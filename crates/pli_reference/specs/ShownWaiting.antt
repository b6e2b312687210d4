-- What waits, as the program holds it, and how large it is.
use Rattle.std.specs.Prelude.{ℕ, ◌+◌, List, [], ◌∷◌}
use Rattle.std.specs.Borrow.{Bor}
use Rattle.pli_language.specs.declared.expr.Qualified.{Qualified as QualifiedHeld}
use Rattle.pli_language.specs.View.{expr_of}
use Rattle.pli_typing.proofs.ExpressionWeights.{expr_weight, qualified_weight}
use Rattle.pli_reference.specs.declared.waiting.Waiting.{Waiting as WaitingHeld}
use Rattle.pli_reference.specs.declared.waiting.Waiting.TheVariants as W
use Rattle.pli_reference.specs.Waiting.{Waiting, WaitingInfix, WaitingPrefix}

abbrev pub waiting_of : WaitingHeld → Waiting
waiting_of (W.Prefix op whole) = WaitingPrefix op (expr_of whole.now)
waiting_of (W.Infix op right) = WaitingInfix op (expr_of right.now)

abbrev pub operator_weight : WaitingHeld → ℕ
operator_weight (W.Prefix op whole) = 1
operator_weight (W.Infix op right) = expr_weight right.now + 1

abbrev pub waiting_weight : List WaitingHeld → ℕ
waiting_weight [] = 0
waiting_weight (w ∷ ws) = operator_weight w + waiting_weight ws

abbrev pub names_weight : List (Bor QualifiedHeld) → ℕ
names_weight [] = 0
names_weight (q ∷ qs) = qualified_weight q.now + 1 + names_weight qs
