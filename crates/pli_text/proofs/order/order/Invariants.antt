use Rattle.std.proofs.Common.{◌≡◌, drop}
use Rattle.pli_meaning.specs.Texts.{text_order}
use Rattle.pli_text.proofs.order.order.Given as goal

abbrev pub invariant-loop-place : goal.invariant-loop-place
invariant-loop-place l = text_order l.left l.right ≡ text_order (drop l.place l.left) (drop l.place l.right)
